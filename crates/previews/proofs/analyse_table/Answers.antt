-- 1, 12, or what is decided of the table.
use mathlib.Core.Path.{◌∙◌}
use native.Mathlib.Nat.{pos_of_ne-zero}
use native.Mathlib.Omega.{arith}
use Rattle.analysis.specs.AnalysedLaws.{analysed_short}
use Rattle.previews.proofs.Outcomes.{analysed_empty, analysed_table}
use Rattle.previews.proofs.analyse_table.Goals as goal

pub returns-then-answer-lt-LEAST_ROOM : goal.returns-then-answer-lt-LEAST_ROOM
returns-then-answer-lt-LEAST_ROOM c = rw c.into.ensures (analysed_short _ _ c.if-answer-lt-LEAST_ROOM.true)

pub returns-then-count-eq0 : goal.returns-then-count-eq0
returns-then-count-eq0 c =
    rw c.into-then-count-eq0.ensures
    (analysed_empty c.requires _ (omega (arith, c.if-answer-lt-LEAST_ROOM.false)) (omega (arith, c.count.ensures, c.if-count-eq0.true)))

pub returns : goal.returns
returns c =
    let some = pos_of_ne-zero (λ e. c.if-count-eq0.false (c.count.ensures ∙ e)) in
    analysed_table c.requires (omega (arith, c.if-answer-lt-LEAST_ROOM.false)) some c.decide.ensures
