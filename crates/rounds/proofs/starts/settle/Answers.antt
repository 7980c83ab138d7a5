-- Each turn of the loop makes one round more, until one changes nothing.
use mathlib.Core.Path.{◌∙◌}
use native.Mathlib.Omega.{arith}
use borrow.Author.Rules.{rules}
use lib.ListN.{length-take}
use Rattle.rounds.proofs.starts.RoundsMade.{cleared, made_costs, made_none, made_ahead, made_on, made_stopped, made_all}
use Rattle.rounds.proofs.starts.settle.Goals as goal

pub slice_bounds-fill-end-2 : goal.slice_bounds-fill-end-2
slice_bounds-fill-end-2 c = simp length-take (omega arith)

pub loop-r-init : goal.loop-r-init
loop-r-init c = made_none c.args.edges c.requires.fitting (cleared _ (omega arith) (c.fill.ensures.after (search rules))) c.requires.edges_in_bounds

pub advance-requires : goal.advance-requires
advance-requires c = made_ahead c.loop-r.invariant (omega arith)

pub returns-in_default-clause-rounds_result : goal.returns-in_default-clause-rounds_result
returns-in_default-clause-rounds_result c =
    let costs = made_costs c.args.edges c.requires.fitting (cleared _ (omega arith) (c.fill.ensures.after (search rules))) in
    rw costs at (made_stopped c.loop-r.invariant (omega arith) c.advance.ensures.advanced c.in_default.is)

pub returns-in_default-clause-edges_unchanged : goal.returns-in_default-clause-edges_unchanged
returns-in_default-clause-edges_unchanged c =
    let costs = made_costs c.args.edges c.requires.fitting (cleared _ (omega arith) (c.fill.ensures.after (search rules))) in
    c.advance.ensures.edges_unchanged ∙ c.loop-r.invariant.costs ∙ costs

pub loop-r-preserved : goal.loop-r-preserved
loop-r-preserved c = made_on c.loop-r.invariant (omega arith) c.advance.ensures.advanced c.advance.ensures.edges_unchanged c.in-Some.is

pub returns-clause-rounds_result : goal.returns-clause-rounds_result
returns-clause-rounds_result c =
    let costs = made_costs c.args.edges c.requires.fitting (cleared _ (omega arith) (c.fill.ensures.after (search rules))) in
    rw costs at (made_all c.loop-r.invariant (omega arith))

pub returns-clause-edges_unchanged : goal.returns-clause-edges_unchanged
returns-clause-edges_unchanged c =
    let costs = made_costs c.args.edges c.requires.fitting (cleared _ (omega arith) (c.fill.ensures.after (search rules))) in
    c.loop-r.invariant.costs ∙ costs
