-- The bytes that are left, and the number that the others stand for.
use native.Mathlib.Omega.{arith}
use borrow.Author.Rules.{rules}
use Rattle.records.proofs.read.Reading.{reading_none, reading_more, reading_small, reading_all}
use Rattle.records.proofs.read.number_at.Goals as goal

pub loop-x-init : goal.loop-x-init
loop-x-init c = reading_none c.requires.n_in_bounds (search rules)

pub overflow_mul-v : goal.overflow_mul-v
overflow_mul-v c =
    omega (arith, reading_small (reading_more c.loop-x.invariant _ (λ i. (c.type_inv.s i).fits) c.in-Some.ensures.steps) c.requires.n_bound)

pub overflow_add-v : goal.overflow_add-v
overflow_add-v c =
    omega (arith, reading_small (reading_more c.loop-x.invariant _ (λ i. (c.type_inv.s i).fits) c.in-Some.ensures.steps) c.requires.n_bound, c.from.ensures)

pub loop-x-preserved : goal.loop-x-preserved
loop-x-preserved c = rw c.from.ensures (reading_more c.loop-x.invariant _ (λ i. (c.type_inv.s i).fits) c.in-Some.ensures.steps)

pub returns : goal.returns
returns c = reading_all c.loop-x.invariant c.in-None.ensures.steps.0
