-- Chains of waits, and demand 3.
use Rattle.std.specs.Prelude.{ℕ, suc, ◌+◌, ◌*◌, ◌/◌, ◌<◌, ◌≡◌}
use Rattle.numbers.specs.Divisors.{Divides}
use Rattle.numbers.specs.Rationals.{Rational, ◌≼◌, ◌≺◌, ◌⊕◌, ◌·◌, whole, share}
use Rattle.specification.specs.Table.{Table, port, IsPort, IsLink, IsConnection, IsBuffer, from, to, num, den, δ⁺, δ⁻, δ°}
use Rattle.specification.specs.Ratios.{Component}
use Rattle.specification.specs.Periods.{PortIn, ConnectionIn}
use Rattle.specification.specs.Answers.{Timing, period_of, start_of}
use Rattle.specification.specs.Solutions.{ε, δ}

-- every ratio of component c is 1, its buffers' too
pub record RatiosOne (t : Table) (c : ℕ) : Type 0 where
  pub one : (k : ℕ) → IsLink t k → Component t (from t k) c → num t k ≡ den t k

-- every δ of component c is whole, as 4/2 is
pub record EventsWhole (t : Table) (c : ℕ) : Type 0 where
  pub forward : (k : ℕ) → ConnectionIn t c k → Divides (δ° t k) (δ⁺ t k)
  pub back : (k : ℕ) → ConnectionIn t c k → Divides (δ° t k) (δ⁻ t k)

-- n is x rounded down; a number below zero is not rounded to 0: it has no such n
pub record RoundedDown (x : Rational) (n : ℕ) : Type 0 where
  pub low : whole n ≼ x
  pub high : x ≺ whole (suc n)

-- event k of the receiver of connection n waits for event m of its sender: k divided by the ratio, plus δ, rounded down as one sum
pub record WaitsFor (t : Table) (n k m : ℕ) : Type 0 where
  pub ratio_some : 0 < num t n
  pub over_some : 0 < δ° t n
  pub rounded : RoundedDown (share (k * den t n) (num t n) ratio_some ⊕ δ t n over_some) m

module _ (t : Table) (size : ℕ → ℕ) where
  -- a chain that leads to event k of port p, and its time
  pub data Chain : ℕ → ℕ → Rational → Type 0 where
    -- any first event, at time 0
    first : (p k : ℕ) → IsPort t p → Chain p k (whole 0)
    -- from event k to k + 1 of one port, which adds 1 / maximum rate
    spacing : {p k : ℕ} {time : Rational} → Chain p k time → (some : 0 < (port t p).num)
        → Chain p (suc k) (time ⊕ share (port t p).den (port t p).num some)
    -- the same at a port without a rate, which adds 0
    free_spacing : {p k : ℕ} {time : Rational} → Chain p k time → (port t p).num ≡ 0 → Chain p (suc k) time
    -- along connection n to event k of its receiver, from the sender's event that it waits for
    connection : {m : ℕ} {time : Rational} (n k : ℕ) → IsConnection t n → Chain (from t n) m time
        → WaitsFor t n k m
        → Chain (to t n) k (time ⊕ ε t n)
    -- along buffer n to event k of its receiver, from the sender's event k divided by the ratio, rounded down, minus the returned size
    buffer : {m : ℕ} {time : Rational} (n k : ℕ) → IsBuffer t n → Chain (from t n) m time
        → m + size n ≡ k * den t n / num t n
        → Chain (to t n) k (time ⊕ ε t n)

  -- no chain that leads to event k of a port is later than its start and k periods
  pub record Bounded (period start : ℕ → Rational) : Type 0 where
    pub bound : {p k : ℕ} {time : Rational} → Chain p k time → time ≼ start p ⊕ k · period p

  -- a chain in component c that is later than its port's start and k periods
  pub record Late (c : ℕ) (period : Rational) (start : ℕ → Rational) : Type 0 where
    pub p : ℕ
    pub k : ℕ
    pub time : Rational
    pub inside : PortIn t c p
    pub chain : Chain p k time
    pub late : start p ⊕ k · period ≺ time

  -- no smaller period of component c bounds its chains, whatever the starts
  pub record Tight (c : ℕ) (period : Rational) : Type 0 where
    pub smaller : (x : Rational) → x ≺ period → (start : ℕ → Rational) → Late c x start

-- every chain is within the start and k periods; where every ratio of the component is 1 and every δ of it whole, no smaller period has this
pub record Demand3 (t : Table) (r : Timing) : Type 0 where
  pub bounded : Bounded t r.size (period_of r) (start_of r)
  pub tight : (p : ℕ) → IsPort t p → RatiosOne t (r.component p) → EventsWhole t (r.component p)
      → Tight t r.size (r.component p) (period_of r p)
