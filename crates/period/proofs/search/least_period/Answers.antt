-- Each a/b tried is the floor's limit or just above zero, and the next is greater.
use mathlib.Core.Path.{◌≡◌}
use native.Mathlib.Omega.{arith}
use Rattle.period.specs.EdgesLaws.{edges_count}
use Rattle.period.proofs.search.Searching.{first_floor, searching_first, searching_tries, searching_settled, searching_without, searching_sums, searching_blocked, searching_gains, searching_falls, searching_next}
use Rattle.period.proofs.search.least_period.Goals as goal
use Rattle.period.proofs.search.least_period.Goals.{in-Some, in-None}

pub loop-changed-init : goal.loop-changed-init
loop-changed-init c =
    let floor : c.match-greatest.floor ≡ first_floor c.args.greatest =
    elim c.match-greatest.branch [ in-Some w ↦ rw (w.floor-is, w.in-Some.is) | in-None w ↦ rw (w.floor-is, w.in-None.is) ] in
    searching_first c.args.greatest c.requires.component (edges_count _ _ _) c.requires.numbers_in_bounds c.requires.greatest_limit c.first_tried-period.ensures floor

pub try_at-requires : goal.try_at-requires
try_at-requires c = searching_tries c.loop-changed.invariant

pub returns-in-Zero-clause-search_result : goal.returns-in-Zero-clause-search_result
returns-in-Zero-clause-search_result c = searching_without c.loop-changed.invariant c.in-Ok.ensures.try_result c.in-Zero.is

pub returns-in_default : goal.returns-in_default
returns-in_default c = record {
  search_result = searching_settled c.loop-changed.invariant c.in-Ok.ensures.try_result c.in_default.not-Zero;
  work_len_unchanged = omega (arith, c.loop-changed.invariant, c.try_at.ensures);
}

pub sums_of-sums-requires : goal.sums_of-sums-requires
sums_of-sums-requires c = rw c.edges.ensures (searching_sums c.loop-changed.invariant c.in-Err.ensures.try_result)

pub returns-then-sums-clause-search_result : goal.returns-then-sums-clause-search_result
returns-then-sums-clause-search_result c =
    searching_blocked c.loop-changed.invariant c.in-Err.ensures.try_result c.edges.ensures c.sums_of-sums.ensures c.try_at.new.work (omega arith)

pub overflow_sub-sums : goal.overflow_sub-sums
overflow_sub-sums c =
    omega (arith, searching_gains c.loop-changed.invariant c.in-Err.ensures.try_result c.edges.ensures c.sums_of-sums.ensures (omega arith))

pub loop-changed-smaller : goal.loop-changed-smaller
loop-changed-smaller c =
    searching_falls c.loop-changed.invariant c.in-Err.ensures.try_result c.edges.ensures c.sums_of-sums.ensures (omega arith) c.reduced-period.ensures

pub loop-changed-preserved : goal.loop-changed-preserved
loop-changed-preserved c =
    searching_next c.loop-changed.invariant c.in-Err.ensures.try_result c.edges.ensures c.sums_of-sums.ensures (omega arith) c.reduced-period.ensures c.try_at.ensures.work_len_unchanged
