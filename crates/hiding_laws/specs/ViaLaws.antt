-- The connection that `via` makes is document 000's: ratio the product, ε added, δ the first plus the second divided by the first's ratio.
use Rattle.std.specs.Prelude.{ℕ, ◌+◌, ◌*◌, ◌-◌, ◌≤◌, ◌<◌, ◌≡◌, refl, ◌⊎◌}
use Rattle.std.proofs.Common.{ap, inl, inr, ⊎_elim, mul-pos}
use Rattle.std.proofs.Math.Nat.{eq_of_mul-eq-mul_right}
use native.Mathlib.Omega.{arith}
use Rattle.numbers.specs.Rationals.{◌≈◌, ◌⊕◌, ◌⊗◌, ratio, share, signed}
use Rattle.numbers.specs.ListLaws.{lt_or_le}
use Rattle.specification.specs.declared.Link.{Link}
use Rattle.specification.specs.Hiding.{lowest_num, lowest_den, forward_via, back_via, over_via, via}
use Rattle.hiding_laws.specs.LowestLaws.{lowest_equal, lowest_over, lowest_some}

-- F − B over O in lowest terms, as an amount forward, an amount back and a denominator
record Net (F B O e f o : ℕ) : Type 0 where
  value : e * O + B * o ≡ F * o + f * O
  one_way : (e ≡ 0) ⊎ (f ≡ 0)
  over : 0 < o

zero_lowest : (O : ℕ) → 0 < O → lowest_num 0 O ≡ 0
zero_lowest O some =
    eq_of_mul-eq-mul_right O some (lowest_num 0 O) 0 (omega (arith, lowest_equal 0 O some))

-- the difference as a sum
added_back : (d e O m n : ℕ) → n ≤ m → e * O ≡ (m - n) * d → e * O + n * d ≡ m * d
added_back d e O m n h l =
    let split : m ≡ n + (m - n) = omega arith in
    omega (arith, l, ap (λ (z : ℕ). z * d) split)

net : (F B O : ℕ) → 0 < O
    → Net F B O (lowest_num (F - B) O) (lowest_num (B - F) O) (lowest_den (F - B + (B - F)) O)
net F B O some = ⊎_elim
    (λ (h : F < B).
    let none : F - B ≡ 0 = omega arith in
    let sum : 0 + (B - F) ≡ B - F = omega arith in
    rw (none, sum, zero_lowest O some) (record {
      value = omega (arith, added_back (lowest_den (B - F) O) (lowest_num (B - F) O) O B F (omega arith) (lowest_equal (B - F) O some));
      one_way = inl refl;
      over = lowest_over (B - F) O some;
    }))
    (λ (h : B ≤ F).
    let none : B - F ≡ 0 = omega arith in
    let sum : F - B + 0 ≡ F - B = omega arith in
    rw (none, sum, zero_lowest O some) (record {
      value = omega (arith, added_back (lowest_den (F - B) O) (lowest_num (F - B) O) O F B h (lowest_equal (F - B) O some));
      one_way = inr refl;
      over = lowest_over (F - B) O some;
    }))
    (lt_or_le F B)

module _ (x y : Link) where
  pub via_ratio : 0 < x.den → 0 < y.den → (via x y).num * (x.den * y.den) ≡ x.num * y.num * (via x y).den
  unfolding via
  via_ratio a b = lowest_equal (x.num * y.num) (x.den * y.den) (mul-pos a b)

  pub via_num : 0 < x.num → 0 < y.num → 0 < x.den → 0 < y.den → 0 < (via x y).num
  unfolding via
  via_num a b c d = lowest_some (x.num * y.num) (x.den * y.den) (mul-pos c d) (mul-pos a b)

  pub via_den : 0 < x.den → 0 < y.den → 0 < (via x y).den
  unfolding via
  via_den a b = lowest_over (x.num * y.num) (x.den * y.den) (mul-pos a b)

  pub via_ticks : signed (via x y).ticks.0 (via x y).ticks.1 ≈ signed x.ticks.0 x.ticks.1 ⊕ signed y.ticks.0 y.ticks.1
  unfolding via
  via_ticks = record { holds = omega arith }

  module _ (a : 0 < x.over) (b : 0 < y.over) (n : 0 < x.num) where
    via_net : Net (forward_via x y) (back_via x y) (over_via x y) (via x y).events.0 (via x y).events.1 (via x y).over
    unfolding via
    via_net = net (forward_via x y) (back_via x y) (over_via x y) (mul-pos (mul-pos a b) n)

    pub via_over : 0 < (via x y).over
    via_over = via_net.over

    pub via_one_way : ((via x y).events.0 ≡ 0) ⊎ ((via x y).events.1 ≡ 0)
    via_one_way = via_net.one_way

    pub via_events : (o : 0 < (via x y).over)
        → ratio (via x y).events.0 (via x y).events.1 (via x y).over o
        ≈ ratio x.events.0 x.events.1 x.over a ⊕ share x.den x.num n ⊗ ratio y.events.0 y.events.1 y.over b
    via_events o = record { holds = omega (arith, via_net.value) }
