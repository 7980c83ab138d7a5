-- Least divisors above 1, by a test that antt computes.
use Rattle.std.specs.Prelude.{ℕ, zero, suc, ◌+◌, ◌-◌, ◌%◌, ◌≤◌, ◌<◌, ◌≡◌, Bool, true, not, List, [], ◌∷◌, T, eqb, leb, ltb, length, get_or}
use Rattle.std.proofs.Common.{⊎_elim, eq-or-lt_of_le, arith, eqb→eq, leb→le, ltb→lt, T_not}
use Rattle.std.proofs.Math.Nat.{dvd_of_mod-eq-zero, mod-eq-zero_of_dvd}
use Rattle.std.proofs.Math.Decide.{dec_le}
use Rattle.numbers.specs.Divisors.{Divides}
use Rattle.numbers.specs.DivisorLaws.{of_∣, to_∣}
use Rattle.numbers.specs.Prime.{Least, DivisorAboveOne}
use Rattle.exponents.specs.Tests.{both, both_left, both_right, either, either_cases, every, at}

-- what `least_divisor` asks
pub record FromTwo (n : ℕ) : Type 0 where
  pub low : 2 ≤ n
  pub high : n ≤ 1000

-- none of the m numbers from 2 on divides n
abbrev none_of : ℕ → ℕ → Bool
none_of n zero = true
none_of n (suc m) = both (none_of n m) (not (eqb (n % (m + 2)) 0))

-- d is the least divisor of n above 1
abbrev pub least_test : ℕ → ℕ → Bool
least_test n d = both (leb 2 d) (both (eqb (n % d) 0) (none_of n (d - 2)))

none : (n m : ℕ) → T (none_of n m) → (k : ℕ) → 2 ≤ k → k < m + 2 → ¬ Divides k n
none n zero t k h l e = omega arith
none n (suc m) t k h l e =
    ⊎_elim
    (λ q.
    let z : n % (m + 2) ≡ 0 = rw q at (mod-eq-zero_of_dvd k (to_∣ e)) in
    T_not (eqb (n % (m + 2)) 0) (both_right (none_of n m) (not (eqb (n % (m + 2)) 0)) t) (rw z tt))
    (λ b. none n m (both_left (none_of n m) (not (eqb (n % (m + 2)) 0)) t) k h b e)
    (eq-or-lt_of_le {n = k} {m = m + 2} (omega arith))

pub least_tested : (n d : ℕ) → T (least_test n d) → Least (DivisorAboveOne n) d
least_tested n d t = record {
  holds = record { above_one = two; divides = of_∣ d n (dvd_of_mod-eq-zero d (eqb→eq (n % d) 0 (both_left (eqb (n % d) 0) (none_of n (d - 2)) rest))) };
  least = λ k h. low k h (dec_le d k);
}
  where
    rest : T (both (eqb (n % d) 0) (none_of n (d - 2)))
    rest = both_right (leb 2 d) (both (eqb (n % d) 0) (none_of n (d - 2))) t

    two : 2 ≤ d
    two = leb→le 2 d (both_left (leb 2 d) (both (eqb (n % d) 0) (none_of n (d - 2))) t)

    low : (k : ℕ) → DivisorAboveOne n k → Dec (d ≤ k) → d ≤ k
    low k h (yes q) = q
    low k h (no f) =
        absurd (none n (d - 2) (both_right (eqb (n % d) 0) (none_of n (d - 2)) rest) k h.above_one (omega (arith, two)) h.divides)

-- ---- the least divisor of each number up to 1,000; 0 at 0 and 1
unfoldable pub least_divisors : List ℕ
least_divisors =
    0 ∷ 0 ∷ 2 ∷ 3 ∷ 2 ∷ 5 ∷ 2 ∷ 7 ∷ 2 ∷ 3 ∷ 2 ∷ 11 ∷ 2 ∷ 13 ∷ 2 ∷ 3 ∷ 2 ∷ 17 ∷ 2 ∷ 19 ∷ 2 ∷ 3 ∷ 2 ∷ 23 ∷ 2
    ∷ 5 ∷ 2 ∷ 3 ∷ 2 ∷ 29 ∷ 2 ∷ 31 ∷ 2 ∷ 3 ∷ 2 ∷ 5 ∷ 2 ∷ 37 ∷ 2 ∷ 3 ∷ 2 ∷ 41 ∷ 2 ∷ 43 ∷ 2 ∷ 3 ∷ 2 ∷ 47 ∷ 2 ∷ 7
    ∷ 2 ∷ 3 ∷ 2 ∷ 53 ∷ 2 ∷ 5 ∷ 2 ∷ 3 ∷ 2 ∷ 59 ∷ 2 ∷ 61 ∷ 2 ∷ 3 ∷ 2 ∷ 5 ∷ 2 ∷ 67 ∷ 2 ∷ 3 ∷ 2 ∷ 71 ∷ 2 ∷ 73 ∷ 2
    ∷ 3 ∷ 2 ∷ 7 ∷ 2 ∷ 79 ∷ 2 ∷ 3 ∷ 2 ∷ 83 ∷ 2 ∷ 5 ∷ 2 ∷ 3 ∷ 2 ∷ 89 ∷ 2 ∷ 7 ∷ 2 ∷ 3 ∷ 2 ∷ 5 ∷ 2 ∷ 97 ∷ 2 ∷ 3
    ∷ 2 ∷ 101 ∷ 2 ∷ 103 ∷ 2 ∷ 3 ∷ 2 ∷ 107 ∷ 2 ∷ 109 ∷ 2 ∷ 3 ∷ 2 ∷ 113 ∷ 2 ∷ 5 ∷ 2 ∷ 3 ∷ 2 ∷ 7 ∷ 2 ∷ 11 ∷ 2 ∷ 3 ∷ 2
    ∷ 5 ∷ 2 ∷ 127 ∷ 2 ∷ 3 ∷ 2 ∷ 131 ∷ 2 ∷ 7 ∷ 2 ∷ 3 ∷ 2 ∷ 137 ∷ 2 ∷ 139 ∷ 2 ∷ 3 ∷ 2 ∷ 11 ∷ 2 ∷ 5 ∷ 2 ∷ 3 ∷ 2 ∷ 149
    ∷ 2 ∷ 151 ∷ 2 ∷ 3 ∷ 2 ∷ 5 ∷ 2 ∷ 157 ∷ 2 ∷ 3 ∷ 2 ∷ 7 ∷ 2 ∷ 163 ∷ 2 ∷ 3 ∷ 2 ∷ 167 ∷ 2 ∷ 13 ∷ 2 ∷ 3 ∷ 2 ∷ 173 ∷ 2
    ∷ 5 ∷ 2 ∷ 3 ∷ 2 ∷ 179 ∷ 2 ∷ 181 ∷ 2 ∷ 3 ∷ 2 ∷ 5 ∷ 2 ∷ 11 ∷ 2 ∷ 3 ∷ 2 ∷ 191 ∷ 2 ∷ 193 ∷ 2 ∷ 3 ∷ 2 ∷ 197 ∷ 2 ∷ 199
    ∷ 2 ∷ 3 ∷ 2 ∷ 7 ∷ 2 ∷ 5 ∷ 2 ∷ 3 ∷ 2 ∷ 11 ∷ 2 ∷ 211 ∷ 2 ∷ 3 ∷ 2 ∷ 5 ∷ 2 ∷ 7 ∷ 2 ∷ 3 ∷ 2 ∷ 13 ∷ 2 ∷ 223 ∷ 2
    ∷ 3 ∷ 2 ∷ 227 ∷ 2 ∷ 229 ∷ 2 ∷ 3 ∷ 2 ∷ 233 ∷ 2 ∷ 5 ∷ 2 ∷ 3 ∷ 2 ∷ 239 ∷ 2 ∷ 241 ∷ 2 ∷ 3 ∷ 2 ∷ 5 ∷ 2 ∷ 13 ∷ 2 ∷ 3
    ∷ 2 ∷ 251 ∷ 2 ∷ 11 ∷ 2 ∷ 3 ∷ 2 ∷ 257 ∷ 2 ∷ 7 ∷ 2 ∷ 3 ∷ 2 ∷ 263 ∷ 2 ∷ 5 ∷ 2 ∷ 3 ∷ 2 ∷ 269 ∷ 2 ∷ 271 ∷ 2 ∷ 3 ∷ 2
    ∷ 5 ∷ 2 ∷ 277 ∷ 2 ∷ 3 ∷ 2 ∷ 281 ∷ 2 ∷ 283 ∷ 2 ∷ 3 ∷ 2 ∷ 7 ∷ 2 ∷ 17 ∷ 2 ∷ 3 ∷ 2 ∷ 293 ∷ 2 ∷ 5 ∷ 2 ∷ 3 ∷ 2 ∷ 13
    ∷ 2 ∷ 7 ∷ 2 ∷ 3 ∷ 2 ∷ 5 ∷ 2 ∷ 307 ∷ 2 ∷ 3 ∷ 2 ∷ 311 ∷ 2 ∷ 313 ∷ 2 ∷ 3 ∷ 2 ∷ 317 ∷ 2 ∷ 11 ∷ 2 ∷ 3 ∷ 2 ∷ 17 ∷ 2
    ∷ 5 ∷ 2 ∷ 3 ∷ 2 ∷ 7 ∷ 2 ∷ 331 ∷ 2 ∷ 3 ∷ 2 ∷ 5 ∷ 2 ∷ 337 ∷ 2 ∷ 3 ∷ 2 ∷ 11 ∷ 2 ∷ 7 ∷ 2 ∷ 3 ∷ 2 ∷ 347 ∷ 2 ∷ 349
    ∷ 2 ∷ 3 ∷ 2 ∷ 353 ∷ 2 ∷ 5 ∷ 2 ∷ 3 ∷ 2 ∷ 359 ∷ 2 ∷ 19 ∷ 2 ∷ 3 ∷ 2 ∷ 5 ∷ 2 ∷ 367 ∷ 2 ∷ 3 ∷ 2 ∷ 7 ∷ 2 ∷ 373 ∷ 2
    ∷ 3 ∷ 2 ∷ 13 ∷ 2 ∷ 379 ∷ 2 ∷ 3 ∷ 2 ∷ 383 ∷ 2 ∷ 5 ∷ 2 ∷ 3 ∷ 2 ∷ 389 ∷ 2 ∷ 17 ∷ 2 ∷ 3 ∷ 2 ∷ 5 ∷ 2 ∷ 397 ∷ 2 ∷ 3
    ∷ 2 ∷ 401 ∷ 2 ∷ 13 ∷ 2 ∷ 3 ∷ 2 ∷ 11 ∷ 2 ∷ 409 ∷ 2 ∷ 3 ∷ 2 ∷ 7 ∷ 2 ∷ 5 ∷ 2 ∷ 3 ∷ 2 ∷ 419 ∷ 2 ∷ 421 ∷ 2 ∷ 3 ∷ 2
    ∷ 5 ∷ 2 ∷ 7 ∷ 2 ∷ 3 ∷ 2 ∷ 431 ∷ 2 ∷ 433 ∷ 2 ∷ 3 ∷ 2 ∷ 19 ∷ 2 ∷ 439 ∷ 2 ∷ 3 ∷ 2 ∷ 443 ∷ 2 ∷ 5 ∷ 2 ∷ 3 ∷ 2 ∷ 449
    ∷ 2 ∷ 11 ∷ 2 ∷ 3 ∷ 2 ∷ 5 ∷ 2 ∷ 457 ∷ 2 ∷ 3 ∷ 2 ∷ 461 ∷ 2 ∷ 463 ∷ 2 ∷ 3 ∷ 2 ∷ 467 ∷ 2 ∷ 7 ∷ 2 ∷ 3 ∷ 2 ∷ 11 ∷ 2
    ∷ 5 ∷ 2 ∷ 3 ∷ 2 ∷ 479 ∷ 2 ∷ 13 ∷ 2 ∷ 3 ∷ 2 ∷ 5 ∷ 2 ∷ 487 ∷ 2 ∷ 3 ∷ 2 ∷ 491 ∷ 2 ∷ 17 ∷ 2 ∷ 3 ∷ 2 ∷ 7 ∷ 2 ∷ 499
    ∷ 2 ∷ 3 ∷ 2 ∷ 503 ∷ 2 ∷ 5 ∷ 2 ∷ 3 ∷ 2 ∷ 509 ∷ 2 ∷ 7 ∷ 2 ∷ 3 ∷ 2 ∷ 5 ∷ 2 ∷ 11 ∷ 2 ∷ 3 ∷ 2 ∷ 521 ∷ 2 ∷ 523 ∷ 2
    ∷ 3 ∷ 2 ∷ 17 ∷ 2 ∷ 23 ∷ 2 ∷ 3 ∷ 2 ∷ 13 ∷ 2 ∷ 5 ∷ 2 ∷ 3 ∷ 2 ∷ 7 ∷ 2 ∷ 541 ∷ 2 ∷ 3 ∷ 2 ∷ 5 ∷ 2 ∷ 547 ∷ 2 ∷ 3
    ∷ 2 ∷ 19 ∷ 2 ∷ 7 ∷ 2 ∷ 3 ∷ 2 ∷ 557 ∷ 2 ∷ 13 ∷ 2 ∷ 3 ∷ 2 ∷ 563 ∷ 2 ∷ 5 ∷ 2 ∷ 3 ∷ 2 ∷ 569 ∷ 2 ∷ 571 ∷ 2 ∷ 3 ∷ 2
    ∷ 5 ∷ 2 ∷ 577 ∷ 2 ∷ 3 ∷ 2 ∷ 7 ∷ 2 ∷ 11 ∷ 2 ∷ 3 ∷ 2 ∷ 587 ∷ 2 ∷ 19 ∷ 2 ∷ 3 ∷ 2 ∷ 593 ∷ 2 ∷ 5 ∷ 2 ∷ 3 ∷ 2 ∷ 599
    ∷ 2 ∷ 601 ∷ 2 ∷ 3 ∷ 2 ∷ 5 ∷ 2 ∷ 607 ∷ 2 ∷ 3 ∷ 2 ∷ 13 ∷ 2 ∷ 613 ∷ 2 ∷ 3 ∷ 2 ∷ 617 ∷ 2 ∷ 619 ∷ 2 ∷ 3 ∷ 2 ∷ 7 ∷ 2
    ∷ 5 ∷ 2 ∷ 3 ∷ 2 ∷ 17 ∷ 2 ∷ 631 ∷ 2 ∷ 3 ∷ 2 ∷ 5 ∷ 2 ∷ 7 ∷ 2 ∷ 3 ∷ 2 ∷ 641 ∷ 2 ∷ 643 ∷ 2 ∷ 3 ∷ 2 ∷ 647 ∷ 2 ∷ 11
    ∷ 2 ∷ 3 ∷ 2 ∷ 653 ∷ 2 ∷ 5 ∷ 2 ∷ 3 ∷ 2 ∷ 659 ∷ 2 ∷ 661 ∷ 2 ∷ 3 ∷ 2 ∷ 5 ∷ 2 ∷ 23 ∷ 2 ∷ 3 ∷ 2 ∷ 11 ∷ 2 ∷ 673 ∷ 2
    ∷ 3 ∷ 2 ∷ 677 ∷ 2 ∷ 7 ∷ 2 ∷ 3 ∷ 2 ∷ 683 ∷ 2 ∷ 5 ∷ 2 ∷ 3 ∷ 2 ∷ 13 ∷ 2 ∷ 691 ∷ 2 ∷ 3 ∷ 2 ∷ 5 ∷ 2 ∷ 17 ∷ 2 ∷ 3
    ∷ 2 ∷ 701 ∷ 2 ∷ 19 ∷ 2 ∷ 3 ∷ 2 ∷ 7 ∷ 2 ∷ 709 ∷ 2 ∷ 3 ∷ 2 ∷ 23 ∷ 2 ∷ 5 ∷ 2 ∷ 3 ∷ 2 ∷ 719 ∷ 2 ∷ 7 ∷ 2 ∷ 3 ∷ 2
    ∷ 5 ∷ 2 ∷ 727 ∷ 2 ∷ 3 ∷ 2 ∷ 17 ∷ 2 ∷ 733 ∷ 2 ∷ 3 ∷ 2 ∷ 11 ∷ 2 ∷ 739 ∷ 2 ∷ 3 ∷ 2 ∷ 743 ∷ 2 ∷ 5 ∷ 2 ∷ 3 ∷ 2 ∷ 7
    ∷ 2 ∷ 751 ∷ 2 ∷ 3 ∷ 2 ∷ 5 ∷ 2 ∷ 757 ∷ 2 ∷ 3 ∷ 2 ∷ 761 ∷ 2 ∷ 7 ∷ 2 ∷ 3 ∷ 2 ∷ 13 ∷ 2 ∷ 769 ∷ 2 ∷ 3 ∷ 2 ∷ 773 ∷ 2
    ∷ 5 ∷ 2 ∷ 3 ∷ 2 ∷ 19 ∷ 2 ∷ 11 ∷ 2 ∷ 3 ∷ 2 ∷ 5 ∷ 2 ∷ 787 ∷ 2 ∷ 3 ∷ 2 ∷ 7 ∷ 2 ∷ 13 ∷ 2 ∷ 3 ∷ 2 ∷ 797 ∷ 2 ∷ 17
    ∷ 2 ∷ 3 ∷ 2 ∷ 11 ∷ 2 ∷ 5 ∷ 2 ∷ 3 ∷ 2 ∷ 809 ∷ 2 ∷ 811 ∷ 2 ∷ 3 ∷ 2 ∷ 5 ∷ 2 ∷ 19 ∷ 2 ∷ 3 ∷ 2 ∷ 821 ∷ 2 ∷ 823 ∷ 2
    ∷ 3 ∷ 2 ∷ 827 ∷ 2 ∷ 829 ∷ 2 ∷ 3 ∷ 2 ∷ 7 ∷ 2 ∷ 5 ∷ 2 ∷ 3 ∷ 2 ∷ 839 ∷ 2 ∷ 29 ∷ 2 ∷ 3 ∷ 2 ∷ 5 ∷ 2 ∷ 7 ∷ 2 ∷ 3
    ∷ 2 ∷ 23 ∷ 2 ∷ 853 ∷ 2 ∷ 3 ∷ 2 ∷ 857 ∷ 2 ∷ 859 ∷ 2 ∷ 3 ∷ 2 ∷ 863 ∷ 2 ∷ 5 ∷ 2 ∷ 3 ∷ 2 ∷ 11 ∷ 2 ∷ 13 ∷ 2 ∷ 3 ∷ 2
    ∷ 5 ∷ 2 ∷ 877 ∷ 2 ∷ 3 ∷ 2 ∷ 881 ∷ 2 ∷ 883 ∷ 2 ∷ 3 ∷ 2 ∷ 887 ∷ 2 ∷ 7 ∷ 2 ∷ 3 ∷ 2 ∷ 19 ∷ 2 ∷ 5 ∷ 2 ∷ 3 ∷ 2 ∷ 29
    ∷ 2 ∷ 17 ∷ 2 ∷ 3 ∷ 2 ∷ 5 ∷ 2 ∷ 907 ∷ 2 ∷ 3 ∷ 2 ∷ 911 ∷ 2 ∷ 11 ∷ 2 ∷ 3 ∷ 2 ∷ 7 ∷ 2 ∷ 919 ∷ 2 ∷ 3 ∷ 2 ∷ 13 ∷ 2
    ∷ 5 ∷ 2 ∷ 3 ∷ 2 ∷ 929 ∷ 2 ∷ 7 ∷ 2 ∷ 3 ∷ 2 ∷ 5 ∷ 2 ∷ 937 ∷ 2 ∷ 3 ∷ 2 ∷ 941 ∷ 2 ∷ 23 ∷ 2 ∷ 3 ∷ 2 ∷ 947 ∷ 2 ∷ 13
    ∷ 2 ∷ 3 ∷ 2 ∷ 953 ∷ 2 ∷ 5 ∷ 2 ∷ 3 ∷ 2 ∷ 7 ∷ 2 ∷ 31 ∷ 2 ∷ 3 ∷ 2 ∷ 5 ∷ 2 ∷ 967 ∷ 2 ∷ 3 ∷ 2 ∷ 971 ∷ 2 ∷ 7 ∷ 2
    ∷ 3 ∷ 2 ∷ 977 ∷ 2 ∷ 11 ∷ 2 ∷ 3 ∷ 2 ∷ 983 ∷ 2 ∷ 5 ∷ 2 ∷ 3 ∷ 2 ∷ 23 ∷ 2 ∷ 991 ∷ 2 ∷ 3 ∷ 2 ∷ 5 ∷ 2 ∷ 997 ∷ 2 ∷ 3
    ∷ 2 ∷ []

-- the test of the entry d at n; the first two are not tested
entry_test : ℕ → ℕ → Bool
entry_test n d = either (ltb n 2) (least_test n d)

passed : T (every entry_test 0 least_divisors)
unfolding entry_test least_divisors
passed = tt

least_at : {n : ℕ} → FromTwo n → Least (DivisorAboveOne n) (get_or least_divisors n 0)
unfolding entry_test least_divisors
least_at {n} h =
    ⊎_elim (λ q. absurd (omega (arith, h.low, ltb→lt n 2 q))) (λ q. least_tested n (get_or least_divisors n 0) q)
    (either_cases (ltb n 2) (least_test n (get_or least_divisors n 0)) (at entry_test least_divisors passed n (omega (arith, h.high))))

pub divisor_entry : {divisors : List ℕ} {n : ℕ} → divisors ≡ least_divisors → FromTwo n → n < length divisors
unfolding least_divisors
divisor_entry e h = rw e (omega (arith, h.high))

pub divisor_least : {divisors : List ℕ} {n d : ℕ} → divisors ≡ least_divisors → FromTwo n → d ≡ get_or divisors n 0 → Least (DivisorAboveOne n) d
divisor_least e h is = rw (is, e) (least_at h)
