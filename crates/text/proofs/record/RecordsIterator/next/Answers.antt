-- By what the length covers.
use native.Mathlib.Omega.{arith}
use Rattle.text.proofs.record.Fronts.{none_short, none_without_kind, none_too_long}
use Rattle.text.proofs.record.RecordsIterator.next.Goals as goal
use Rattle.text.proofs.record.RecordsIterator.next.Goals.{then-size-lt2-via-then-size-lt2, then-size-lt2-via-else-size-lt2+then-bytes-size}

pub returns-then-bytes-lt4-clause-steps : goal.returns-then-bytes-lt4-clause-steps
returns-then-bytes-lt4-clause-steps c = none_short _ c.if-bytes-lt4.true

pub returns-then-size-lt2-clause-steps : goal.returns-then-size-lt2-clause-steps
returns-then-size-lt2-clause-steps c = elim c.then-size-lt2.branch [
  | then-size-lt2-via-then-size-lt2 w ↦ none_without_kind _ (omega arith)
  | then-size-lt2-via-else-size-lt2+then-bytes-size w ↦ none_too_long _ (omega arith)
]
