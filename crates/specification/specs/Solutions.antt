-- Demand 2's other side: rational periods and starts, of any sign, that meet (1) to (3), the least of them, and that there is none.
use Rattle.std.specs.Prelude.{ℕ, ◌≤◌, ◌<◌}
use Rattle.numbers.specs.Rationals.{Rational, ◌≼◌, ◌≺◌, ◌≈◌, ◌⊕◌, ◌·◌, ◌⊗◌, whole, signed, ratio}
use Rattle.specification.specs.Table.{Table, port, IsPort, IsLink, IsConnection, IsBuffer, from, to, num, den, ε⁺, ε⁻, δ⁺, δ⁻, δ°}
use Rattle.specification.specs.Answers.{Timing, period_of, start_of}

module _ (t : Table) where
  -- ε in ticks, δ in events; every δ that was read has a denominator above zero
  abbrev pub ε : ℕ → Rational
  ε k = signed (ε⁺ t k) (ε⁻ t k)

  abbrev pub δ : (k : ℕ) → 0 < δ° t k → Rational
  δ k some = ratio (δ⁺ t k) (δ⁻ t k) (δ° t k) some

  -- (1) the receiver's period is the sender's divided by the ratio
  pub record Ratios (period : ℕ → Rational) : Type 0 where
    pub holds : (k : ℕ) → IsLink t k → num t k · period (to t k) ≈ den t k · period (from t k)

  -- (2) the receiver's start is no less than the sender's plus ε plus δ times the sender's period
  pub record Starts (period start : ℕ → Rational) : Type 0 where
    pub holds : (k : ℕ) → IsConnection t k → (some : 0 < δ° t k) → start (from t k) ⊕ ε k ⊕ δ k some ⊗ period (from t k) ≼ start (to t k)

  -- (3) a port's period is no less than 1 divided by its maximum rate; of a port with the rate 0/0 it asks nothing
  pub record Rates (period : ℕ → Rational) : Type 0 where
    pub holds : (p : ℕ) → IsPort t p → whole (port t p).den ≼ (port t p).num · period p

  pub record IsSolution (period start : ℕ → Rational) : Type 0 where
    pub above_zero : (p : ℕ) → IsPort t p → whole 0 ≺ period p
    pub ratios : Ratios period
    pub starts : Starts period start
    pub rates : Rates period

  pub record Solution : Type 0 where
    pub period : ℕ → Rational
    pub start : ℕ → Rational
    pub meets : IsSolution period start

  -- d events are enough for buffer k: the receiver's start is no less than the sender's plus ε minus d times the sender's period
  pub record EventsEnough (period start : ℕ → Rational) (k d : ℕ) : Type 0 where
    pub holds : start (from t k) ⊕ ε k ≼ start (to t k) ⊕ d · period (from t k)

  pub record FewestEvents (period start : ℕ → Rational) (k d : ℕ) : Type 0 where
    pub enough : EventsEnough period start k d
    pub fewest : (e : ℕ) → EventsEnough period start k e → d ≤ e

  -- the returned periods and starts are a solution; no solution has a smaller period, no starts that are not below zero and
  -- meet (2) at the returned periods are smaller, and each buffer has the fewest events at those starts
  pub record LeastSolution (r : Timing) : Type 0 where
    pub solution : IsSolution (period_of r) (start_of r)
    pub least_periods : (s : Solution) (p : ℕ) → IsPort t p → period_of r p ≼ s.period p
    pub least_starts : (start : ℕ → Rational) → ((p : ℕ) → IsPort t p → whole 0 ≼ start p) → Starts (period_of r) start
        → (p : ℕ) → IsPort t p → start_of r p ≼ start p
    pub fewest_events_lem : (k : ℕ) → IsBuffer t k → FewestEvents (period_of r) (start_of r) k (r.size k)

  -- another solution with a smaller period at port p
  pub record SmallerAt (p : ℕ) (s : Solution) : Type 0 where
    pub other : Solution
    pub less : other.period p ≺ s.period p

  -- no solution is the least: at some port each has another with a smaller period
  pub record NoLeastSolution : Type 0 where
    pub p : ℕ
    pub a_port : IsPort t p
    pub smaller : (s : Solution) → SmallerAt p s
