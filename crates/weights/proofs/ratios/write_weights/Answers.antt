-- Where every ratio is 1 so is every weight; otherwise the rows tell.
use mathlib.Core.Path.{sym, ◌∙◌}
use Rattle.forest.specs.Parts.{greatest_most}
use Rattle.weights.proofs.ratios.Unit.{unit_weights}
use Rattle.weights.proofs.ratios.write_weights.Goals as goal
use Rattle.weights.proofs.ratios.write_weights.Goals.{then-most-eq0, else-most-eq0+in_ok-weights}

pub by_rows-requires-clause-parts_at_most : goal.by_rows-requires-clause-parts_at_most
by_rows-requires-clause-parts_at_most c = rw c.greatest_part-most.ensures (greatest_most _)

pub make_whole-requires-clause-has_base_weights : goal.make_whole-requires-clause-has_base_weights
make_whole-requires-clause-has_base_weights c = elim c.if-most-eq0.branch [
  | then-most-eq0 w ↦
      let none = sym c.greatest_part-most.ensures ∙ w.if-most-eq0.true in
      rw w.weights-is (unit_weights c.args.table.now.well_formed none (rw w.port_count.ensures at w.ones.ensures))
  | else-most-eq0+in_ok-weights w ↦ rw w.weights-is w.in_ok-weights.ensures.0
]
