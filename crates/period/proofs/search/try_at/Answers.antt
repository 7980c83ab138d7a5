-- The prices stand behind row n, and the rounds leave them as they are.
use Rattle.period.proofs.search.Attempt.{tried_pricing, tried_length, tried_fitting, tried_restless}
use borrow.Author.Rules.{rules}
use native.Mathlib.Omega.{arith}
use Rattle.period.proofs.search.try_at.Goals as goal

pub price-requires : goal.price-requires
price-requires c = tried_pricing c.requires

pub settle-requires : goal.settle-requires
settle-requires c = record {
  fitting = tried_fitting c.requires c.price.ensures;
  edges_in_bounds = omega (arith, c.requires.work_room, tried_length c.requires c.price.ensures);
}

pub cycle_back-requires : goal.cycle_back-requires
cycle_back-requires c =
    tried_restless c.requires c.price.ensures c.in-Err.ensures.rounds_result c.settle.ensures.edges_unchanged (search rules) c.settle.ensures.work_len_unchanged
