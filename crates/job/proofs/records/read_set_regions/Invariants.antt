-- The list only grows.
use Rattle.std.proofs.Common.{◌≤◌, vec_len}
use Rattle.job.proofs.records.read_set_regions.Given as goal

abbrev pub invariant-loop-word : goal.invariant-loop-word
invariant-loop-word l =
    (goal.iterator-loop-word).can_next l.word-iterator ×
    (goal.iterator-loop-word).is_finite l.word-iterator ×
    (l.start ≤ vec_len l.list)
