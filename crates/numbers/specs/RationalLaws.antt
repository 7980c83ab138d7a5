-- Laws of rational numbers: order, sums, products and multiples.
use Rattle.std.specs.Prelude.{ℕ, suc, ◌+◌, ◌*◌, ◌-◌, ◌≤◌, ◌<◌, ◌≡◌, ◌⊎◌, ◌↔◌}
use Rattle.std.proofs.Common.{ap, inl, inr, le_antisymm, mul-pos, mul-le-mul_right, mul-le-mul_left, mul-lt-mul_of_pos_right, le_of_mul-le-mul_right, lt_of_mul-lt-mul_right, arith}
use Rattle.std.proofs.Math.Decide.{dec_le}
use Rattle.numbers.specs.Rationals.{Rational, ◌≼◌, ◌≺◌, ◌≈◌, ratio, share, whole, ◌⊕◌, ◌⊖◌, ◌⊗◌, ◌·◌}

-- ---- order
pub ≼_refl : (x : Rational) → x ≼ x
≼_refl x = omega arith

pub ≼_trans : {x y z : Rational} → x ≼ y → y ≼ z → x ≼ z
≼_trans {x} {y} {z} h k = record {
  holds =
      le_of_mul-le-mul_right {k = y.over}
      (omega (arith, mul-le-mul_right z.over h.holds, mul-le-mul_right x.over k.holds))
      y.positive;
}

pub ≼-≺_trans : {x y z : Rational} → x ≼ y → y ≺ z → x ≺ z
≼-≺_trans {x} {y} {z} h k = record {
  holds =
      lt_of_mul-lt-mul_right y.over
      (omega (arith, mul-le-mul_right z.over h.holds, mul-lt-mul_of_pos_right k.holds x.positive));
}

pub ≺-≼_trans : {x y z : Rational} → x ≺ y → y ≼ z → x ≺ z
≺-≼_trans {x} {y} {z} h k = record {
  holds =
      lt_of_mul-lt-mul_right y.over
      (omega (arith, mul-lt-mul_of_pos_right h.holds z.positive, mul-le-mul_right x.over k.holds));
}

pub ≼_or_≺ : (x y : Rational) → (x ≼ y) ⊎ (y ≺ x)
≼_or_≺ x y = decided (dec_le (x.plus * y.over + y.minus * x.over) (y.plus * x.over + x.minus * y.over))
  where
    decided : Dec (x.plus * y.over + y.minus * x.over ≤ y.plus * x.over + x.minus * y.over)
        → (x ≼ y) ⊎ (y ≺ x)
    decided (yes h) = inl (record { holds = h })
    decided (no f) = inr (omega arith)

pub ≼_not_≺ : {x y : Rational} → x ≼ y → ¬ (y ≺ x)
≼_not_≺ h k = omega arith

pub ≺-≼ : {x y : Rational} → x ≺ y → x ≼ y
≺-≼ h = omega arith

pub ≈-≼ : {x y : Rational} → x ≈ y → x ≼ y
≈-≼ h = omega arith

pub ≼_antisym : {x y : Rational} → x ≼ y → y ≼ x → x ≈ y
≼_antisym h k = omega arith

pub ≈_refl : (x : Rational) → x ≈ x
≈_refl x = omega arith

pub ≈_sym : {x y : Rational} → x ≈ y → y ≈ x
≈_sym h = omega arith

pub ≈_trans : {x y z : Rational} → x ≈ y → y ≈ z → x ≈ z
≈_trans h k = ≼_antisym (≼_trans (≈-≼ h) (≈-≼ k)) (≼_trans (≈-≼ (≈_sym k)) (≈-≼ (≈_sym h)))

-- each part k times is the same number
pub ≈_scaled : (k : ℕ) {x y : Rational} → y.plus ≡ k * x.plus → y.minus ≡ k * x.minus → y.over ≡ k * x.over → x ≈ y
≈_scaled k {x} {y} p m o = omega (
  arith,
  ap (λ (n : ℕ). x.plus * n) o,
  ap (λ (n : ℕ). x.minus * n) o,
  ap (λ (n : ℕ). n * x.over) p,
  ap (λ (n : ℕ). n * x.over) m,
)

-- ---- sum
pub ⊕_comm : (x y : Rational) → x ⊕ y ≈ y ⊕ x
⊕_comm x y = omega arith

pub ⊕_assoc : (x y z : Rational) → (x ⊕ y) ⊕ z ≈ x ⊕ (y ⊕ z)
⊕_assoc x y z = omega arith

pub ⊕_zero : (x : Rational) → x ⊕ whole 0 ≈ x
⊕_zero x = omega arith

pub ⊖-≼ : (x y z : Rational) → (x ⊖ y ≼ z) ↔ (x ≼ y ⊕ z)
⊖-≼ x y z = (λ h. omega arith, λ h. omega arith)

pub ⊕_right_≼ : {x y : Rational} (z : Rational) → x ≼ y → x ⊕ z ≼ y ⊕ z
⊕_right_≼ z h = omega (arith, mul-le-mul_right (z.over * z.over) h.holds)

pub ⊕_right_≺ : {x y : Rational} (z : Rational) → x ≺ y → x ⊕ z ≺ y ⊕ z
⊕_right_≺ z h = omega (arith, mul-lt-mul_of_pos_right h.holds (mul-pos z.positive z.positive))

pub ⊕_cancel_≼ : {x y : Rational} (z : Rational) → x ⊕ z ≼ y ⊕ z → x ≼ y
⊕_cancel_≼ z h = record {
  holds = le_of_mul-le-mul_right {k = z.over * z.over} (omega arith) (mul-pos z.positive z.positive);
}

pub ⊕-≼ : {x y z w : Rational} → x ≼ y → z ≼ w → x ⊕ z ≼ y ⊕ w
⊕-≼ {x} {y} {z} {w} h k =
    ≼_trans (⊕_right_≼ z h) (≼_trans (≈-≼ (⊕_comm y z)) (≼_trans (⊕_right_≼ y k) (≈-≼ (⊕_comm w y))))

pub ⊕-≈ : {x y z w : Rational} → x ≈ y → z ≈ w → x ⊕ z ≈ y ⊕ w
⊕-≈ h k = ≼_antisym (⊕-≼ (≈-≼ h) (≈-≼ k)) (⊕-≼ (≈-≼ (≈_sym h)) (≈-≼ (≈_sym k)))

-- ---- product
pub ⊗_comm : (x y : Rational) → x ⊗ y ≈ y ⊗ x
⊗_comm x y = omega arith

pub ⊗_assoc : (x y z : Rational) → (x ⊗ y) ⊗ z ≈ x ⊗ (y ⊗ z)
⊗_assoc x y z = omega arith

pub ⊗_one : (x : Rational) → x ⊗ whole 1 ≈ x
⊗_one x = omega arith

pub ⊗-⊕ : (x y z : Rational) → x ⊗ (y ⊕ z) ≈ x ⊗ y ⊕ x ⊗ z
⊗-⊕ x y z = ≈_scaled x.over (omega arith) (omega arith) (omega arith)

pub ⊗_left_≈ : {x y : Rational} (z : Rational) → x ≈ y → z ⊗ x ≈ z ⊗ y
⊗_left_≈ z h = omega (
  arith,
  ap (λ (t : ℕ). t * (z.plus * z.over)) h.holds,
  ap (λ (t : ℕ). t * (z.minus * z.over)) h.holds,
)

-- a factor that is not below zero keeps the order
pub ⊗_left_≼ : {x y : Rational} (p o : ℕ) (s : 0 < o) → x ≼ y → share p o s ⊗ x ≼ share p o s ⊗ y
⊗_left_≼ p o s h = omega (arith, mul-le-mul_right (p * o) h.holds)

-- ---- multiples
pub ·_is : (n : ℕ) (x : Rational) → n · x ≈ whole n ⊗ x
·_is n x = omega arith

pub ·_zero : (x : Rational) → 0 · x ≈ whole 0
·_zero x = omega arith

pub ·_one : (x : Rational) → 1 · x ≈ x
·_one x = omega arith

pub ·-· : (m n : ℕ) (x : Rational) → m · (n · x) ≈ (m * n) · x
·-· m n x = omega arith

pub ·-+ : (m n : ℕ) (x : Rational) → (m + n) · x ≈ m · x ⊕ n · x
·-+ m n x = omega arith

pub ·-⊕ : (n : ℕ) (x y : Rational) → n · (x ⊕ y) ≈ n · x ⊕ n · y
·-⊕ n x y = omega arith

pub ·-≼ : (n : ℕ) {x y : Rational} → x ≼ y → n · x ≼ n · y
·-≼ n h = omega (arith, mul-le-mul_right n h.holds)

pub ·-≺ : (n : ℕ) {x y : Rational} → 0 < n → x ≺ y → n · x ≺ n · y
·-≺ n p h = omega (arith, mul-lt-mul_of_pos_right h.holds p)

pub ·-≈ : (n : ℕ) {x y : Rational} → x ≈ y → n · x ≈ n · y
·-≈ n h = ≼_antisym (·-≼ n (≈-≼ h)) (·-≼ n (≈-≼ (≈_sym h)))

pub ·_cancel_≼ : (n : ℕ) {x y : Rational} → 0 < n → n · x ≼ n · y → x ≼ y
·_cancel_≼ n p h = record { holds = le_of_mul-le-mul_right {k = n} (omega arith) p }

pub ·_cancel_≈ : (n : ℕ) {x y : Rational} → 0 < n → n · x ≈ n · y → x ≈ y
·_cancel_≈ n p h = ≼_antisym (·_cancel_≼ n p (≈-≼ h)) (·_cancel_≼ n p (≈-≼ (≈_sym h)))

-- ---- multiples of a rational above zero stand in the order of their factors
module _ {x : Rational} (some : whole 0 ≺ x) where
  abbrev above : ℕ
  above = (x.plus - x.minus) * x.over

  above_some : 0 < above
  above_some = mul-pos (omega (arith, some.holds)) x.positive

  plus_is : (n : ℕ) → n * x.plus * x.over ≡ n * x.minus * x.over + n * above
  plus_is n =
      let e : x.plus ≡ x.minus + (x.plus - x.minus) = omega (arith, some.holds) in
      omega (arith, ap (λ (y : ℕ). n * y * x.over) e)

  pub factor_≼ : (m n : ℕ) → m · x ≼ n · x → m ≤ n
  factor_≼ m n h = le_of_mul-le-mul_right {k = above} (omega (arith, plus_is m, plus_is n)) above_some

  pub factor_≺ : (m n : ℕ) → m · x ≺ n · x → m < n
  factor_≺ m n h = lt_of_mul-lt-mul_right above (omega (arith, plus_is m, plus_is n))

  pub factor_≈ : {m n : ℕ} → m · x ≈ n · x → m ≡ n
  factor_≈ {m} {n} h = le_antisymm (factor_≼ m n (≈-≼ h)) (factor_≼ n m (≈-≼ (≈_sym h)))

-- ---- over one denominator, order and sum are those of whole numbers
pub ratio_≼ : (o : ℕ) (s : 0 < o) (p m q n : ℕ) → (ratio p m o s ≼ ratio q n o s) ↔ (p + n ≤ q + m)
ratio_≼ o s p m q n = (
  λ h. le_of_mul-le-mul_right {k = o} (omega (arith, h.holds)) s,
  λ h. omega (arith, mul-le-mul_right o h),
)

pub ratio_≺ : (o : ℕ) (s : 0 < o) (p m q n : ℕ) → (ratio p m o s ≺ ratio q n o s) ↔ (p + n < q + m)
ratio_≺ o s p m q n = (
  λ h. lt_of_mul-lt-mul_right o (omega (arith, h.holds)),
  λ h. omega (arith, mul-lt-mul_of_pos_right h s),
)

pub ratio_⊕ : (o : ℕ) (s : 0 < o) (p m q n : ℕ) → ratio p m o s ⊕ ratio q n o s ≈ ratio (p + q) (m + n) o s
ratio_⊕ o s p m q n = omega arith

-- a rational that is not below zero is a share
pub as_share : (x : Rational) → whole 0 ≼ x → x ≈ share (x.plus - x.minus) x.over x.positive
as_share x h = record {
  holds = omega (
    arith,
    ap (λ (t : ℕ). t * x.over) split,
  );
}
  where
    split : x.plus ≡ x.minus + (x.plus - x.minus)
    split = omega (arith, h.holds)

-- ---- whole numbers
pub whole_≼ : (m n : ℕ) → (whole m ≼ whole n) ↔ (m ≤ n)
whole_≼ m n = (λ h. omega arith, λ h. omega arith)

pub whole_≺ : (m n : ℕ) → (whole m ≺ whole n) ↔ (m < n)
whole_≺ m n = (λ h. omega arith, λ h. omega arith)

pub whole_⊕ : (m n : ℕ) → whole (m + n) ≈ whole m ⊕ whole n
whole_⊕ m n = omega arith

pub whole_⊗ : (m n : ℕ) → whole (m * n) ≈ whole m ⊗ whole n
whole_⊗ m n = omega arith

-- ---- Archimedes' property: the difference of x and y, often enough, passes any z
pub archimedes : {x y : Rational} (z : Rational) → x ≺ y → (n : ℕ) × (z ⊕ n · x ≺ n · y)
archimedes {x} {y} z h = (
  n,
  omega (
    arith,
    mul-le-mul_right (n * z.over) h.holds,
    mul-le-mul_left n z.positive,
    mul-pos x.positive y.positive,
  ),
)
  where
    n : ℕ
    n = suc z.plus * (x.over * y.over)
