-- The components, periods and starts of a table's ports, and the sizes of its buffers.
use Rattle.std.specs.Prelude.{ℕ, ◌+◌, ◌*◌, ◌-◌, ◌/◌, ◌≤◌, ◌<◌, max, ◌≡◌, cond, List, leb, length, get_or}
use Rattle.std.proofs.Common.{arith}
use Rattle.numbers.specs.Divisors.{Coprime}
use Rattle.table.specs.WellFormed.{WellFormed}
use Rattle.specification.specs.Table.{most_ticks, Table, link, IsPort}
use Rattle.specification.specs.declared.Link.{Link}
use Rattle.period.specs.Component.{most_rate}
use Rattle.period.specs.Search.{most_start}
use Rattle.specification.specs.Ratios.{most_weight}
use Rattle.specification.specs.Answers.{Timing}
use Rattle.results.specs.declared.kept.Kept.{Kept}

-- what stands past the last port
abbrev pub none_kept : Kept
none_kept = record { component = 0; period = record { num = 0; den = 0 }; start = 0 }

-- component, a, b and start times b of a port
module _ (kept : List Kept) (p : ℕ) where
  abbrev pub component_at : ℕ
  component_at = (get_or kept p none_kept).component

  abbrev pub a_at : ℕ
  a_at = (get_or kept p none_kept).period.num

  abbrev pub b_at : ℕ
  b_at = (get_or kept p none_kept).period.den

  abbrev pub start_at : ℕ
  start_at = (get_or kept p none_kept).start

-- ---- sizes
-- the least d for which `from` is at most `to` plus d periods
unfoldable pub fewest_events : (from to period : ℕ) → ℕ
fewest_events from to period = cond (leb from to) 0 ((from - to - 1) / period + 1)

-- the size of buffer l
abbrev pub size_at : Link → (weights : List ℕ) (kept : List Kept) → ℕ
size_at l weights kept = fewest_events
    (start_at kept l.from + l.ticks.0 * b_at kept l.from)
    (start_at kept l.to + l.ticks.1 * b_at kept l.from)
    (get_or weights l.from 0 * a_at kept l.from)

-- the numbers of a port are small, its period is above zero and in lowest terms
pub record PortNumbers (weights : List ℕ) (kept : List Kept) (p : ℕ) : Type 0 where
  pub low : p < 64
  pub weight_some : 0 < get_or weights p 0
  pub weight_most : get_or weights p 0 ≤ most_weight
  pub a_some : 0 < a_at kept p
  pub a_most : a_at kept p ≤ most_rate
  pub b_some : 0 < b_at kept p
  pub b_most : b_at kept p ≤ most_rate
  pub lowest : Coprime (a_at kept p) (b_at kept p)
  pub start_most : start_at kept p ≤ most_start

-- the numbers of a table's ports
pub record TableNumbers (t : Table) (weights : List ℕ) (kept : List Kept) : Type 0 where
  pub well_formed : WellFormed t
  pub long : length kept ≡ 64
  pub each : (p : ℕ) → IsPort t p → PortNumbers weights kept p

pub record BufferNumbers (l : Link) (weights : List ℕ) (kept : List Kept) : Type 0 where
  pub long : length kept ≡ 64
  pub sender : PortNumbers weights kept l.from
  pub receiver : PortNumbers weights kept l.to
  pub ticks_forward_lem : l.ticks.0 ≤ most_ticks
  pub ticks_back_lem : l.ticks.1 ≤ most_ticks

-- what is returned; b is not 0, also where there is no port
abbrev pub timing_of : Table → (weights : List ℕ) (kept : List Kept) → Timing
timing_of t weights kept = record {
  component = component_at kept;
  weight = λ p. get_or weights p 0;
  a = a_at kept;
  b = λ p. max 1 (b_at kept p);
  over = λ p. omega arith;
  start = start_at kept;
  size = λ k. size_at (link t k) weights kept;
}
