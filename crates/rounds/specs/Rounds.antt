-- Rounds: each raises every start to the most that an edge brings, and many of them end at the least starts.
use Rattle.std.specs.Prelude.{ℕ, zero, suc, ◌+◌, ◌*◌, ◌-◌, ◌≤◌, ◌<◌, max, ◌≡◌, ◌⊎◌, ◌≢◌}
use Rattle.std.proofs.Common.{sym, ap, inl, inr, ⊎_elim, arith}
use Rattle.std.proofs.Math.Decide.{ℕ_discrete}
use Rattle.numbers.specs.ListLaws.{lt_or_le}
use Rattle.specification.specs.Periods.{Graph, gain, loss, LeastStarts}

-- the laws of a round from s to t; nothing else of it is used
pub record IsRound (IsEdge : ℕ → Type 0) (from to gain loss : ℕ → ℕ) (s t : ℕ → ℕ) : Type 0 where
  pub grows : (j : ℕ) → s j ≤ t j
  pub dominates : (k : ℕ) → IsEdge k → s (from k) + gain k ≤ t (to k) + loss k
  pub attained : (j : ℕ) → s j < t j → (k : ℕ) × IsEdge k × (to k ≡ j) × (s (from k) + gain k ≡ t j + loss k)

module _ {IsEdge : ℕ → Type 0} {from to gain loss : ℕ → ℕ} {s t : ℕ → ℕ} (r : IsRound IsEdge from to gain loss s t) where
  -- no round passes starts that satisfy every edge
  pub round_below : {T : ℕ → ℕ} → ((k : ℕ) → IsEdge k → T (from k) + gain k ≤ T (to k) + loss k) → ((j : ℕ) → s j ≤ T j) → (j : ℕ) → t j ≤ T j
  round_below {T} holds h j = ⊎_elim
      (λ (l : s j < t j). let (k, m, a, tight) = r.attained j l in omega (arith, holds k m, h (from k), ap T a))
      (λ (l : t j ≤ s j). omega (arith, h j))
      (lt_or_le (s j) (t j))

  -- starts that a round does not raise satisfy every edge
  pub round_stable : ((j : ℕ) → t j ≤ s j) → (k : ℕ) → IsEdge k → s (from k) + gain k ≤ s (to k) + loss k
  round_stable h k m = omega (arith, r.dominates k m, h (to k))

  pub round_bound : {c m : ℕ} → ((k : ℕ) → IsEdge k → gain k ≤ c) → ((j : ℕ) → s j ≤ m) → (j : ℕ) → t j ≤ m + c
  round_bound {c} {m} small h j = ⊎_elim
      (λ (l : s j < t j). let (k, e, a, tight) = r.attained j l in omega (arith, small k e, h (from k)))
      (λ (l : t j ≤ s j). omega (arith, h j))
      (lt_or_le (s j) (t j))

-- ---- a round, an edge at a time: t starts as s, and each edge raises t at its end
module _ {from to gain loss : ℕ → ℕ} {s : ℕ → ℕ} where
  pub round_none : IsRound (λ j. j < 0) from to gain loss s s
  round_none = record { grows = λ j. omega arith; dominates = λ k m. absurd (omega arith); attained = λ j h. absurd (omega arith) }

  module _ {k : ℕ} {t t' : ℕ → ℕ} (r : IsRound (λ j. j < k) from to gain loss s t)
      (raised : t' (to k) ≡ max (t (to k)) (s (from k) + gain k - loss k)) (same : (j : ℕ) → j ≢ to k → t' j ≡ t j) where
    at : (j : ℕ) → (t' j ≡ t j) ⊎ ((to k ≡ j) × (t' j ≡ max (t j) (s (from k) + gain k - loss k)))
    at j = elim (ℕ_discrete j (to k)) [ yes h ↦ inr (sym h, rw h raised) | no h ↦ inl (same j h) ]

    pub round_next : IsRound (λ j. j < suc k) from to gain loss s t'
    round_next = record { grows = grows; dominates = dominates; attained = attained }
      where
        more : (j : ℕ) → t j ≤ t' j
        more j = ⊎_elim (λ h. omega arith) (λ h. omega arith) (at j)

        grows : (j : ℕ) → s j ≤ t' j
        grows j = omega (arith, r.grows j, more j)

        dominates : (i : ℕ) → i < suc k → s (from i) + gain i ≤ t' (to i) + loss i
        dominates i m = elim (ℕ_discrete i k) [ yes h ↦ rw h (omega arith) | no h ↦ omega (arith, r.dominates i (omega arith), more (to i)) ]

        attained : (j : ℕ) → s j < t' j → (i : ℕ) × (i < suc k) × (to i ≡ j) × (s (from i) + gain i ≡ t' j + loss i)
        attained j h = ⊎_elim
            (λ (l : t j < t' j). ⊎_elim (λ e. absurd (omega arith)) (λ e. (k, omega arith, e.0, omega arith)) (at j))
            (λ (l : t' j ≤ t j). let (i, m, a, tight) = r.attained j (omega arith) in (i, omega arith, a, omega (arith, more j)))
            (lt_or_le (t j) (t' j))

-- ---- rounds from zero: row r is r rounds, up to the last that was made
pub record Rows (g : Graph) (f h : ℕ → ℕ) (last : ℕ) (row : ℕ → ℕ → ℕ) : Type 0 where
  pub start : (j : ℕ) → row 0 j ≡ 0
  pub next : (r : ℕ) → r < last → IsRound g.IsEdge g.from g.to f h (row r) (row (suc r))

module _ {g : Graph} {f h : ℕ → ℕ} {last : ℕ} {row : ℕ → ℕ → ℕ} (rows : Rows g f h last row) where
  rows_below : (T : ℕ → ℕ) → ((k : ℕ) → g.IsEdge k → T (g.from k) + f k ≤ T (g.to k) + h k) → (r : ℕ) → r ≤ last → (j : ℕ) → row r j ≤ T j
  rows_below T holds zero l j = omega (arith, rows.start j)
  rows_below T holds (suc r) l j = round_below (rows.next r l) holds (rows_below T holds r (omega arith)) j

  pub rows_bound : {c : ℕ} → ((k : ℕ) → g.IsEdge k → f k ≤ c) → (r : ℕ) → r ≤ last → (j : ℕ) → row r j ≤ r * c
  rows_bound small zero l j = omega (arith, rows.start j)
  rows_bound small (suc r) l j = omega (arith, round_bound (rows.next r l) small (rows_bound small r (omega arith)) j)

-- a round that changes nothing ends at the least starts
pub settled : {g : Graph} {a b last : ℕ} {row : ℕ → ℕ → ℕ} → Rows g (gain g a b) (loss g a b) last row → {r : ℕ} → r < last → ((j : ℕ) → row (suc r) j ≡ row r j)
    → LeastStarts g a b (row r)
settled {row = row} rows {r} l same = record {
  meets = record { holds = round_stable (rows.next r l) (λ j. omega (arith, same j)) };
  least = λ T m p q. rows_below rows T m.holds r (omega arith) p;
}
