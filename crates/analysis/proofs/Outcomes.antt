-- What the ratios come to: numbers 13 and 14.
use Prim.Native.Nat.{ℕ, zero, suc, ◌+◌, ◌*◌, ◌≤◌, ◌<◌}
use mathlib.Core.Path.{◌≡◌, refl}
use mathlib.Core.Bool.{cond}
use mathlib.Core.List.{List}
use native.Mathlib.Omega.{arith}
use lib.Dec.{eqb}
use lib.ListN.{length, get_or, take, drop}
use lib.Seq.{drop-cons}
use Rattle.specification.specs.Bytes.{Written, loop_answer}
use Rattle.specification.specs.Table.{Table}
use Rattle.forest.specs.Loop.{steps_from}
use Rattle.specification.specs.Ratios.{Overweight}
use Rattle.weights.specs.Ratios.{LoopNumbers}
use Rattle.specification.specs.Answers.{disagreeing, overweight, loop_numbers}
use Rattle.analysis.specs.Decided.{shown_in, Decided}
use Rattle.analysis.specs.ShownLaws.{shown_none}

-- ---- number 13
digit : (d : ℕ) → d ≤ 1 → cond (eqb d 1) 1 0 ≡ d
digit zero h = refl
digit (suc zero) h = refl
digit (suc (suc d)) h = absurd (omega arith)

-- the numbers of the steps are the numbers that they were read from
steps_numbers : (xs : List ℕ) (i n : ℕ) → ((j : ℕ) → j < n → get_or xs (i + 2 * j + 1) 0 ≤ 1) → i + 2 * n ≤ length xs
    → loop_numbers (steps_from xs i n) ≡ take (2 * n) (drop i xs)
unfolding steps_from
steps_numbers xs i zero h room = refl
steps_numbers xs i (suc n) h room =
    let two : 2 * suc n ≡ suc (suc (2 * n)) = omega arith in
    let next : suc i ≡ i + 1 = omega arith in
    let after : suc (i + 1) ≡ i + 2 = omega arith in
    let first : i + 2 * 0 + 1 ≡ i + 1 = omega arith in
    rw (
      two,
      drop-cons xs i 0 (omega arith),
      drop-cons xs (suc i) 0 (omega arith),
      next,
      digit (get_or xs (i + 1) 0) (rw first at (h 0 (omega arith))),
      after,
      steps_numbers xs (i + 2) n (λ j l. let e : i + 2 + 2 * j + 1 ≡ i + 2 * suc j + 1 = omega arith in rw e (h (suc j) (omega arith))) (omega arith),
    )

pub decided_loop : {t : Table} {numbers before after : List ℕ} {steps written : ℕ} → LoopNumbers t numbers steps → 128 ≤ length numbers
    → Written (shown_in (length before) (loop_answer (take (2 * steps) numbers))) before after written
    → Decided t before after (record { number = 13; place = 0; written = written })
decided_loop {numbers = numbers} {steps = steps} l room w = record {
  answer = disagreeing (steps_from numbers 0 steps);
  right = l.loop;
  number_is = refl;
  place_is = refl;
  records_are = rw (steps_numbers numbers 0 steps (λ j h. let e : 0 + 2 * j + 1 ≡ 2 * j + 1 = omega arith in rw e (l.directions j h)) (omega (arith, l.few))) w;
  fits = tt;
}

-- ---- number 14
pub decided_over : {t : Table} (before : List ℕ) → Overweight t → Decided t before before (record { number = 14; place = 0; written = 0 })
decided_over before o = record { answer = overweight; right = o; number_is = refl; place_is = refl; records_are = shown_none before; fits = tt }
