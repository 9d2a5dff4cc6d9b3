-- How a fault is written.
use Rattle.std.specs.Prelude.{ℕ, List, ◌++◌, codes, decimal}
use Rattle.store.specs.declared.faults.OutlineFault.{OutlineFault}

-- as `fault 513`
abbrev pub fault_text : OutlineFault → List ℕ
fault_text f = codes "fault " ++ decimal f.0
