-- Laws of starts: rounds from zero are the rounds of the priced graph, and no start is large.
use Prim.Native.Nat.{ℕ, zero, suc, ◌*◌, ◌≤◌, ◌<◌, max}
use Rattle.std.specs.Prelude.{◌≡◌, List, length, get_or, replicate}
use Rattle.std.proofs.Math.Path.{refl}
use Rattle.std.proofs.Common.{◌∙◌, arith, length-set, get_or-set_same}
use Rattle.std.proofs.Math.ListN.{length-replicate}
use Rattle.std.proofs.Math.Seq.{get_or-set_other}
use Rattle.rounds.specs.Costs.{count, from_of, to_of, gain_of, loss_of, most_cost, Priced, priced}
use Rattle.rounds.specs.Rounds.{IsRound, round_none, round_next, Rows, rows_bound}
use Rattle.rounds.specs.Starts.{asked, raise, relaxed, round_of, starts, start_of}

pub raise_length : (t : List ℕ) (j v : ℕ) → length (raise t j v) ≡ length t
unfolding raise
raise_length t j v = length-set t j (max (get_or t j 0) v)

pub zeros_at : (n j : ℕ) → ◌≡◌ {A = ℕ} (get_or (replicate n 0) j 0) 0
zeros_at zero j = refl
zeros_at (suc n) zero = refl
zeros_at (suc n) (suc j) = zeros_at n j

module _ (cs s : List ℕ) where
  relaxed_length : (k : ℕ) → length (relaxed cs s k) ≡ length s
  unfolding relaxed
  relaxed_length zero = refl
  relaxed_length (suc k) = raise_length (relaxed cs s k) (to_of cs k) (asked cs s k) ∙ relaxed_length k

  -- the first k edges make a round of their own
  pub relaxed_round : (k : ℕ) → ((i : ℕ) → i < k → to_of cs i < length s)
      → IsRound (λ i. i < k) (from_of cs) (to_of cs) (gain_of cs) (loss_of cs) (λ j. get_or s j 0) (λ j. get_or (relaxed cs s k) j 0)
  unfolding relaxed raise
  relaxed_round zero within = round_none
  relaxed_round (suc k) within =
      let t = relaxed cs s k in
      let v = max (get_or t (to_of cs k) 0) (asked cs s k) in
      round_next
      (relaxed_round k (λ i l. within i (omega arith)))
      (get_or-set_same t (to_of cs k) v 0 (omega (arith, within k (omega arith), relaxed_length k)))
      (λ j d. get_or-set_other t (to_of cs k) j v 0 d)

module _ (cs : List ℕ) where
  pub starts_length : (r : ℕ) → length (starts cs r) ≡ 64
  unfolding starts round_of
  starts_length zero = length-replicate {A = ℕ} 64 0
  starts_length (suc r) = relaxed_length cs (starts cs r) (count cs) ∙ starts_length r

  pub starts_rows : ((k : ℕ) → k < count cs → to_of cs k < 64) → (last : ℕ) → Rows (priced cs) (gain_of cs) (loss_of cs) last (start_of cs)
  unfolding starts round_of
  starts_rows to_in last = record {
    start = λ j. zeros_at 64 j;
    next = λ r l. relaxed_round cs (starts cs r) (count cs) (λ i m. omega (arith, to_in i m, starts_length r));
  }

  pub starts_bound : Priced cs → (r j : ℕ) → start_of cs r j ≤ r * most_cost
  starts_bound p r j = rows_bound (starts_rows p.to_in r) p.gains r (omega arith) j
