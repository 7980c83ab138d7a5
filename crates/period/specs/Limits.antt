-- Limits: what a cycle tells of every a/b that serves, and the least one.
use Rattle.std.specs.Prelude.{ℕ, suc, ◌+◌, ◌*◌, ◌-◌, ◌≤◌, ◌<◌, ◌≡◌, List}
use Rattle.std.proofs.Common.{zero-le, suc-le-suc, ap, ⊎_elim, arith, mul-le-mul, mul-le-mul_left, mul-le-mul_right, le_of_mul-le-mul_right, lt_of_mul-lt-mul_right, mul-lt-mul_of_pos_right}
use Rattle.std.proofs.Math.Nat.{mul-sub, eq_of_mul-eq-mul_right}
use Rattle.numbers.specs.Lists.{sum}
use Rattle.numbers.specs.ListLaws.{sum_linear}
use Rattle.specification.specs.Periods.{Graph, gain, loss, Meets, Cycle, Serves, RateLimit, CycleLimit, Blocks, BlocksAboveZero, Period}
use Rattle.rounds.specs.Walks.{meets_cycles}

-- the greater times the greater
rearrange : {u v x y : ℕ} → v ≤ u → x ≤ y → u * x + v * y ≤ u * y + v * x
rearrange {u} zero-le h = omega (arith, mul-le-mul_left u h)
rearrange (suc-le-suc d) h = omega (arith, rearrange d h)

-- two fractions whose denominators are at most y differ by 1 / y² at least, so q grows with each greater one
pub apart : (q a a' : ℕ) {b b' y : ℕ} → 0 < b → b ≤ y → b' ≤ y → q * b ≤ a * (y * y) → a * b' < a' * b → suc q * b' ≤ a' * (y * y)
apart q a a' {b} {b'} {y} pos h h' below less =
    le_of_mul-le-mul_right {k = b} (omega (arith, mul-le-mul_right b' below, mul-le-mul_right (y * y) less, mul-le-mul h h')) pos

module _ (g : Graph) (path : List ℕ) where
  -- E and D of a path
  abbrev pub E⁺ : ℕ
  E⁺ = sum g.E⁺ path

  abbrev pub E⁻ : ℕ
  E⁻ = sum g.E⁻ path

  abbrev pub D⁺ : ℕ
  D⁺ = sum g.D⁺ path

  abbrev pub D⁻ : ℕ
  D⁻ = sum g.D⁻ path

  gains_at : (a b : ℕ) → sum (gain g a b) path ≡ E⁺ * b + D⁺ * a
  gains_at a b = sum_linear g.E⁺ g.D⁺ b a path

  losses_at : (a b : ℕ) → sum (loss g a b) path ≡ E⁻ * b + D⁻ * a
  losses_at a b = sum_linear g.E⁻ g.D⁻ b a path

  module _ (a b : ℕ) (positive : sum (loss g a b) path < sum (gain g a b) path) where
    pub falling_gains : D⁺ < D⁻ → E⁻ < E⁺
    falling_gains d = lt_of_mul-lt-mul_right b (omega (arith, gains_at a b, losses_at a b, mul-le-mul_right a d))

    pub falling_above : D⁺ < D⁻ → a * (D⁻ - D⁺) < (E⁺ - E⁻) * b
    falling_above d = omega (arith, gains_at a b, losses_at a b, mul-sub b E⁺ E⁻, mul-sub a D⁻ D⁺, mul-le-mul_right a d)

    -- a path that is positive at a/b, with D zero or more, is so at every greater a/b
    pub rising : D⁻ ≤ D⁺ → (a' b' : ℕ) → 0 < b' → a * b' ≤ a' * b → sum (loss g a' b') path < sum (gain g a' b') path
    rising d a' b' q r =
        simp (gains_at, losses_at) (lt_of_mul-lt-mul_right b (omega (arith, mul-lt-mul_of_pos_right (simp (gains_at, losses_at) at positive) q, rearrange d r)))

  -- at E / −D the path's weight is zero
  level : E⁻ ≤ E⁺ → D⁺ ≤ D⁻ → sum (gain g (E⁺ - E⁻) (D⁻ - D⁺)) path ≡ sum (loss g (E⁺ - E⁻) (D⁻ - D⁺)) path
  level e d = omega (
    arith,
    gains_at (E⁺ - E⁻) (D⁻ - D⁺),
    losses_at (E⁺ - E⁻) (D⁻ - D⁺),
    mul-sub (D⁻ - D⁺) E⁺ E⁻,
    mul-sub (E⁺ - E⁻) D⁻ D⁺,
    mul-le-mul_left (D⁻ - D⁺) e,
    mul-le-mul_left (E⁺ - E⁻) d,
  )

-- the lower limit of a cycle, above a/b
pub record GreaterLimit (g : Graph) (path : List ℕ) (a b a' b' : ℕ) : Type 0 where
  pub limit : CycleLimit g path a' b'
  pub above_zero : 0 < a'
  pub over : 0 < b'
  pub greater : a * b' < a' * b

pub falling_limit : {g : Graph} {path : List ℕ} {a b : ℕ} → Cycle g path → sum (loss g a b) path < sum (gain g a b) path → D⁺ g path < D⁻ g path
    → GreaterLimit g path a b (E⁺ g path - E⁻ g path) (D⁻ g path - D⁺ g path)
falling_limit {g} {path} {a} {b} c positive d =
    let e = falling_gains g path a b positive d in
    record {
      limit = record { cycle = c; falling = d; exact = level g path (omega arith) (omega arith) };
      above_zero = omega arith;
      over = omega arith;
      greater = falling_above g path a b positive d;
    }

module _ {g : Graph} {a b a' b' : ℕ} where
  -- nothing below a limit serves
  pub limit_below : {path : List ℕ} → CycleLimit g path a b → Serves g a' b' → a * b' ≤ a' * b
  limit_below {path} l s = let d = D⁻ g path - D⁺ g path in le_of_mul-le-mul_right {k = d} (omega (
    arith,
    mul-sub (a * b') (D⁻ g path) (D⁺ g path),
    mul-sub (a' * b) (D⁻ g path) (D⁺ g path),
    ap (λ (x : ℕ). x * b') (rw (gains_at g path a b, losses_at g path a b) at l.exact),
    mul-le-mul_right b (rw (gains_at g path a' b', losses_at g path a' b') at (s.cycles l.cycle.at path l.cycle.closed)),
    mul-le-mul_right (a * b') l.falling,
    mul-le-mul_right (a' * b) l.falling,
  )) (omega (arith, l.falling))

  pub rate_below : {p : ℕ} → RateLimit g p a b → Serves g a' b' → a * b' ≤ a' * b
  rate_below {p} l s = le_of_mul-le-mul_right {k = g.limit_den p} (omega (
    arith,
    ap (λ (x : ℕ). x * b') l.exact,
    mul-le-mul_right b (s.rates p l.a_port),
  )) l.rated

  -- a limit is one for each fraction of its value
  module _ (same : a * b' ≡ a' * b) (some : 0 < b) where
    pub limit_scaled : {path : List ℕ} → CycleLimit g path a b → CycleLimit g path a' b'
    limit_scaled {path} l = record {
      cycle = l.cycle;
      falling = l.falling;
      exact = simp (gains_at, losses_at) (eq_of_mul-eq-mul_right b some _ _ (omega (
        arith,
        ap (λ (x : ℕ). x * b') (rw (gains_at g path a b, losses_at g path a b) at l.exact),
        ap (λ (x : ℕ). x * D⁺ g path) same,
        ap (λ (x : ℕ). x * D⁻ g path) same,
      )));
    }

module _ {g : Graph} {a b : ℕ} where
  -- a cycle that blocks where every a'/b' that serves lies above leaves none
  pub blocked : {path : List ℕ} → ((a' b' : ℕ) → Serves g a' b' → 0 < b' → a * b' ≤ a' * b) → Blocks g path a b → (a' b' : ℕ) → 0 < b' → ¬ Serves g a' b'
  blocked {path} low k a' b' some s = omega (
    arith,
    s.cycles k.cycle.at path k.cycle.closed,
    rising g path a b k.positive k.rising a' b' some (low a' b' s some),
  )

  -- a cycle that is positive at every period above zero leaves none
  pub blocked_above_zero : {path : List ℕ} → BlocksAboveZero g path → 0 < a → 0 < b → ¬ Serves g a b
  blocked_above_zero {path} k some over s = omega (arith, s.cycles k.cycle.at path k.cycle.closed, k.positive a b some over)

  -- the period is the least that serves
  pub period_least : {a' b' : ℕ} → Period g a b → Serves g a' b' → a * b' ≤ a' * b
  period_least t s = ⊎_elim
      (λ (l : (p : ℕ) × RateLimit g p a b). rate_below l.1 s)
      (λ (l : (path : List ℕ) × CycleLimit g path a b). limit_below l.1 s)
      t.limit

  pub serves_meets : {S : ℕ → ℕ} → Meets g a b S → ((p : ℕ) → g.IsPort p → g.limit_num p * b ≤ g.limit_den p * a) → Serves g a b
  serves_meets m rates = record { rates = rates; cycles = meets_cycles m }
