-- The components below c have periods, those kept are the least, and nothing is written.
use mathlib.Core.Path.{sym}
use native.Mathlib.Omega.{arith}
use borrow.Author.Tests.{eqb-true, eqb-false}
use Rattle.period.specs.ComponentLaws.{component_edges}
use Rattle.analysis.proofs.periods.Turns.{component_of, readable_of, enough_room, names, first_is, component_slices, turns_skip, turns_least, turns_no_least, turns_shown, turns_without, all_numbers, turns_all}
use Rattle.analysis.proofs.periods.time_all.Goals as goal
use Rattle.analysis.proofs.periods.time_all.Goals.{in-Least, in-NoLeast}

pub loop-c-preserved-then-is_empty : goal.loop-c-preserved-then-is_empty
loop-c-preserved-then-is_empty c = record {
  turns = turns_skip c.requires.labelled c.loop-c.invariant.turns c.members_of-members.ensures (eqb-true _ _ (sym c.if-is_empty.ensures));
  same_length = omega arith;
}

pub invariant_of-graph : goal.invariant_of-graph
invariant_of-graph c =
    let slices = component_slices c.members_of-members.ensures c.numbers_of.ensures c.requires.labelled (eqb-false _ _ (sym c.if-is_empty.ensures)) in
    record {
      readable = readable_of slices;
      small_edges = component_edges (component_of slices);
    }

pub time_one-one-requires-clause-component_slices : goal.time_one-one-requires-clause-component_slices
time_one-one-requires-clause-component_slices c =
    component_slices c.members_of-members.ensures c.numbers_of.ensures c.requires.labelled (eqb-false _ _ (sym c.if-is_empty.ensures))

pub time_one-one-requires-clause-numbers_in_bounds : goal.time_one-one-requires-clause-numbers_in_bounds
time_one-one-requires-clause-numbers_in_bounds c =
    omega (arith, enough_room c.members_of-members.ensures c.numbers_of.ensures (omega arith) c.requires.room)

pub returns-in-Shown : goal.returns-in-Shown
returns-in-Shown c =
    let first = first_is c.members_of-members.ensures c.numbers_of.ensures c.requires.labelled (eqb-false _ _ (sym c.if-is_empty.ensures)) in
    rw c.number.ensures (turns_shown c.requires.labelled c.loop-c.invariant.turns (rw first at c.in-Shown.ensures))

pub loop-c-preserved : goal.loop-c-preserved
loop-c-preserved c =
    let some = eqb-false _ _ (sym c.if-is_empty.ensures) in
    let first = first_is c.members_of-members.ensures c.numbers_of.ensures c.requires.labelled some in
    let component = names c.members_of-members.ensures c.numbers_of.ensures c.requires.labelled some in
    record {
      turns = elim c.match-one.branch [
        | in-Least w ↦ rw w.least-is (turns_least c.requires.labelled c.loop-c.invariant.turns (rw first at w.in-Least.ensures))
        | in-NoLeast w ↦ rw w.least-is (turns_no_least c.requires.labelled c.loop-c.invariant.turns component (rw first at w.in-NoLeast.ensures))
      ];
      same_length = omega arith;
    }

pub returns-then-not-least : goal.returns-then-not-least
returns-then-not-least c =
    rw c.into.ensures (turns_without c.requires.labelled c.loop-c.invariant.turns (omega arith) c.if-not-least.true)

pub invariant_of-timings : goal.invariant_of-timings
invariant_of-timings c = record { numbers = all_numbers c.requires.labelled c.loop-c.invariant.turns (omega arith) c.if-not-least.false }

pub returns : goal.returns
returns c =
    rw c.number-2.ensures (turns_all c.requires.labelled c.loop-c.invariant.turns (omega arith) c.if-not-least.false c.show_consistent.ensures)
