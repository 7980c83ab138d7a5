-- 13, 14, or what the periods come to.
use mathlib.Core.Path.{ap, ◌∙◌}
use Rattle.std.proofs.Common.{rules}
use Rattle.refusals.specs.Numbers.{number_of}
use Rattle.weights.specs.Ratios.{refusal_of}
use Rattle.weights.specs.declared.ratios.Discord.{Discord}
use Rattle.analysis.proofs.Outcomes.{decided_loop, decided_over}
use Rattle.analysis.proofs.decide.Goals as goal
use Rattle.analysis.proofs.decide.Goals.{in-Loop, in-OverLimit}

pub returns-after-unweighted : goal.returns-after-unweighted
returns-after-unweighted c = elim c.match-unweighted.branch [
  | in-Loop w ↦
      let n = c.number.ensures ∙ ap (λ (d : Discord). number_of (refusal_of d)) w.in-Loop.is in
      rw (n, w.answer-is, w.written-is)
      (decided_loop (rw w.in-Loop.is at (rw c.in-Err.is at c.ratios_of-ratios.ensures).discord) (search rules) w.show_loop-written.ensures)
  | in-OverLimit w ↦
      let n = c.number.ensures ∙ ap (λ (d : Discord). number_of (refusal_of d)) w.in-OverLimit.is in
      rw (n, w.answer-is, w.written-is) (decided_over _ (rw w.in-OverLimit.is at (rw c.in-Err.is at c.ratios_of-ratios.ensures).discord).0)
]
