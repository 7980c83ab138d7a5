-- The places before i have the smaller exponent, and the others their own.
use Rattle.std.proofs.Common.{◌≡◌, ◌<◌, ◌≤◌, ℕ, get_or, length}
use Prim.Native.Nat.{min}
use Rattle.exponents.proofs.row.take_lesser.Given as goal

abbrev pub invariant-loop-i : goal.invariant-loop-i
invariant-loop-i l = record {
  long : length l.least ≡ 168;
  done : (k : ℕ) → k < l.i → get_or l.least k 0 ≡ min (get_or l.fn.least k 0) (get_or l.row k 0);
  left : (k : ℕ) → l.i ≤ k → get_or l.least k 0 ≡ get_or l.fn.least k 0;
}
