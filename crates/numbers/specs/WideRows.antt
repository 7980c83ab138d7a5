-- A list that is made of rows of one width: its length, and what stands where.
use Rattle.std.specs.Prelude.{ℕ, zero, suc, ◌+◌, ◌*◌, ◌<◌, ◌≤◌, ◌≡◌, List, [], ◌++◌, length, get_or}
use Rattle.std.proofs.Common.{ap, ◌∙◌, ⊎_elim, arith, not-suc-le-zero, mul-le-mul_left, length-append, get_or-append-add}
use Rattle.std.proofs.Math.ListN.{get_or-append}
use Rattle.numbers.specs.ListLaws.{lt_or_le}

module _ (list row : ℕ → List ℕ) (width : ℕ) (none : list 0 ≡ []) (more : (n : ℕ) → list (suc n) ≡ list n ++ row n)
    (wide : (n : ℕ) → length (row n) ≡ width) where
  pub rows_length : (n : ℕ) → length (list n) ≡ width * n
  rows_length zero = rw none (omega arith)
  rows_length (suc n) = rw (more n) (length-append (list n) (row n) ∙ omega (arith, rows_length n, wide n))

  pub rows_at : (n k i : ℕ) → k < n → i < width → get_or (list n) (width * k + i) 0 ≡ get_or (row k) i 0
  rows_at zero k i l m = absurd (not-suc-le-zero l)
  rows_at (suc n) k i l m = rw (more n) (⊎_elim
      (λ (h : k < n).
      get_or-append (list n) (row n) 0 (width * k + i) (omega (arith, rows_length n, mul-le-mul_left width h)) ∙ rows_at n k i h m)
      (λ (h : n ≤ k).
      let e : n ≡ k = omega arith in
      let at : width * k + i ≡ length (list n) + i = omega (arith, rows_length n, ap (λ (j : ℕ). width * j) e) in
      rw at (get_or-append-add (list n) (row n) i 0 ∙ ap (λ (j : ℕ). get_or (row j) i 0) e))
      (lt_or_le k n))
