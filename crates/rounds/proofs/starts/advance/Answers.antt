-- The round is from a copy of row r over the costs behind row n, and its starts are copied into row r + 1.
use native.Mathlib.Omega.{arith}
use Rattle.rounds.proofs.starts.Buffer.{can_round_copy, advanced, costs_kept}
use Rattle.rounds.proofs.starts.advance.Goals as goal

pub round-grew-requires-clause-can_round : goal.round-grew-requires-clause-can_round
round-grew-requires-clause-can_round c = can_round_copy c.requires c.copy_from_slice.ensures.after

pub returns-clause-advanced : goal.returns-clause-advanced
returns-clause-advanced c = advanced c.requires c.copy_from_slice.ensures.after c.copy_from_slice-2.ensures.after c.round-grew.ensures

pub returns-clause-edges_unchanged : goal.returns-clause-edges_unchanged
returns-clause-edges_unchanged c = costs_kept c.requires c.copy_from_slice.ensures.after c.copy_from_slice-2.ensures.after (omega arith)
