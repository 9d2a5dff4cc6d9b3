-- The list only grows, at its end.
use Rattle.std.proofs.Common.{◌≡◌, ◌≤◌, take, vec_len, vec_items}
use Rattle.job.proofs.reader.read_all.Given as goal

abbrev pub invariant-loop-word : goal.invariant-loop-word
invariant-loop-word g l = (l.start ≤ vec_len l.list) × (take l.start (vec_items l.list) ≡ vec_items l.initial.list)
