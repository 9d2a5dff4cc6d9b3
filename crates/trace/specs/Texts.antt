-- How an entry is written.
use Rattle.std.specs.Prelude.{ℕ, List, ◌++◌, encode_utf8, decimal}
use Rattle.trace.specs.declared.entries.Entry.{Entry}
use Rattle.trace.specs.Entries.{letter, number}

-- as `G20`
abbrev pub entry_text : Entry → List ℕ
entry_text e = encode_utf8 (letter e) ++ decimal (number e)
