-- The weights of the other ports are weights where p is hidden, too: the smallest are no larger, so hiding brings no 14.
use Rattle.std.specs.Prelude.{ℕ, ◌+◌, ◌*◌, ◌-◌, ◌/◌, ◌≤◌, ◌≡◌, ◌⊎◌}
use Rattle.std.proofs.Common.{ap, ⊎_elim, mul-pos, arith}
use Rattle.std.proofs.Math.Nat.{eq_of_mul-eq-mul_right, mul-sub}
use Rattle.numbers.specs.Divisors.{Divides}
use Rattle.numbers.specs.DivisorLaws.{quotient_is}
use Rattle.specification.specs.Table.{Table, IsPort, from, to, num, den, δ⁺, δ⁻, δ°}
use Rattle.specification.specs.Ratios.{Proportional, AllWhole, WholeWeights}
use Rattle.specification.specs.Hiding.{old_number}
use Rattle.table.specs.WellFormed.{WellFormed}
use Rattle.hiding_laws.specs.HiddenOf.{Into, OutOf, Apart, Kept, Via, HiddenOf, old_port}

-- e − f over o, times w, is the whole number a + b − c − d; one of e and f is zero: o divides both times w
one_divides : (e f o w a b c d : ℕ) → (e ≡ 0) ⊎ (f ≡ 0) → e * w + (c + d) * o ≡ f * w + (a + b) * o → Divides o (e * w) × Divides o (f * w)
one_divides e f o w a b c d side h = ⊎_elim
    (λ (z : e ≡ 0). (
      record { quotient = 0; is = omega (arith, ap (λ (n : ℕ). n * w) z) },
      record { quotient = c + d - (a + b); is = less (f * w) o (c + d) (a + b) (omega (arith, h, ap (λ (n : ℕ). n * w) z)) },
    ))
    (λ (z : f ≡ 0). (
      record { quotient = a + b - (c + d); is = less (e * w) o (a + b) (c + d) (omega (arith, h, ap (λ (n : ℕ). n * w) z)) },
      record { quotient = 0; is = omega (arith, ap (λ (n : ℕ). n * w) z) },
    ))
    side
  where
    less : (x o m n : ℕ) → x + n * o ≡ m * o → x ≡ o * (m - n)
    less x o m n e = omega (arith, e, mul-sub o m n)

-- δ of both times the weight, over one denominator: one of the two amounts
part_sum : (ex ox n d ey oy W wp Ax Ay : ℕ) → ox * Ax ≡ ex * W → wp * n ≡ W * d → oy * Ay ≡ ey * wp
    → (ex * (n * oy) + d * ey * ox) * W ≡ (Ax + Ay) * (ox * (n * oy))
part_sum ex ox n d ey oy W wp Ax Ay ax fit ay = omega (
  arith,
  ap (λ (z : ℕ). z * (n * oy)) ax,
  ap (λ (z : ℕ). z * (ey * ox)) fit,
  ap (λ (z : ℕ). z * (ox * n)) ay,
)

-- and both
whole_sum : (e f o K L M W A B : ℕ) → e * K + M * o ≡ L * o + f * K → L * W ≡ A * K → M * W ≡ B * K → (e * W + B * o) * K ≡ (f * W + A * o) * K
whole_sum e f o K L M W A B h l m = omega (
  arith,
  ap (λ (z : ℕ). z * W) h,
  ap (λ (z : ℕ). z * o) l,
  ap (λ (z : ℕ). z * o) m,
)

module _ {t t' : Table} {p : ℕ} (formed : WellFormed t) (formed' : WellFormed t') (hidden : HiddenOf t t' p) {w : ℕ → ℕ} (prop : Proportional t w)
    (whole : AllWhole t w) where
  abbrev v : ℕ → ℕ
  v q = w (old_number p q)

  at : (r : ℕ) {q : ℕ} → old_number p r ≡ q → w (old_number p r) ≡ w q
  at r e = ap w e

  via_fits : {x y j : ℕ} → Into t p x → OutOf t p y → Via t t' p x y j → w (old_number p (to t' j)) * num t' j ≡ w (old_number p (from t' j)) * den t' j
  via_fits {x} {y} {j} i o h =
      let f = rw i.ends at (prop.fits x i.a_link) in
      let g = rw o.begins at (prop.fits y o.a_link) in
      rw (at (to t' j) h.to_same, at (from t' j) h.from_same)
      (eq_of_mul-eq-mul_right (den t x * den t y)
      (mul-pos (formed.links x i.a_link.below).den.least (formed.links y o.a_link.below).den.least)
      (w (to t y) * num t' j) (w (from t x) * den t' j)
      (omega (
        arith,
        ap (λ (n : ℕ). w (to t y) * n) h.ratio_is,
        ap (λ (n : ℕ). n * (num t x * den t' j)) g,
        ap (λ (n : ℕ). n * (den t y * den t' j)) f,
      )))

  via_whole : {x y j : ℕ} → Into t p x → OutOf t p y → Via t t' p x y j
      → Divides (δ° t' j) (δ⁺ t' j * w (from t x)) × Divides (δ° t' j) (δ⁻ t' j * w (from t x))
  via_whole {x} {y} {j} i o h =
      let a = (formed'.links j h.a_link.below).over_least in
      let b = (formed.links x i.a_link.below).over_least in
      let c = (formed.links y o.a_link.below).over_least in
      let n = (formed.links x i.a_link.below).num.least in
      let W : ℕ = w (from t x) in
      let Ax : ℕ = δ⁺ t x * w (from t x) / δ° t x in
      let Bx : ℕ = δ⁻ t x * w (from t x) / δ° t x in
      let Ay : ℕ = δ⁺ t y * w (from t y) / δ° t y in
      let By : ℕ = δ⁻ t y * w (from t y) / δ° t y in
      let fit : w (from t y) * num t x ≡ W * den t x = rw o.begins (rw i.ends at (prop.fits x i.a_link)) in
      one_divides (δ⁺ t' j) (δ⁻ t' j) (δ° t' j) W Ax Ay Bx By h.one_way
      (eq_of_mul-eq-mul_right (δ° t x * (num t x * δ° t y)) (mul-pos b (mul-pos n c))
      (δ⁺ t' j * W + (Bx + By) * δ° t' j) (δ⁻ t' j * W + (Ax + Ay) * δ° t' j)
      (whole_sum (δ⁺ t' j) (δ⁻ t' j) (δ° t' j) (δ° t x * (num t x * δ° t y))
      (δ⁺ t x * (num t x * δ° t y) + den t x * δ⁺ t y * δ° t x) (δ⁻ t x * (num t x * δ° t y) + den t x * δ⁻ t y * δ° t x)
      W (Ax + Ay) (Bx + By)
      (omega (arith, (h.events_are a b c n).holds))
      (part_sum (δ⁺ t x) (δ° t x) (num t x) (den t x) (δ⁺ t y) (δ° t y) W (w (from t y)) Ax Ay
      (quotient_is (whole.each x i.a_link).forward) fit (quotient_is (whole.each y o.a_link).forward))
      (part_sum (δ⁻ t x) (δ° t x) (num t x) (den t x) (δ⁻ t y) (δ° t y) W (w (from t y)) Bx By
      (quotient_is (whole.each x i.a_link).back) fit (quotient_is (whole.each y o.a_link).back))))

  kept_fits : {k j : ℕ} → Apart t p k → Kept t t' p k j → w (old_number p (to t' j)) * num t' j ≡ w (old_number p (from t' j)) * den t' j
  kept_fits {k} {j} i h = rw (at (to t' j) h.to_same, at (from t' j) h.from_same, h.num_same, h.den_same) (prop.fits k i.a_link)

  pub hidden_proportional : Proportional t' (λ q. w (old_number p q))
  hidden_proportional = record {
    positive = λ q i. prop.positive (old_number p q) (old_port hidden q i);
    fits = λ j i. ⊎_elim
        (λ (h : (k : ℕ) × Apart t p k × Kept t t' p k j). kept_fits h.1 h.2)
        (λ (h : (x : ℕ) × (y : ℕ) × Into t p x × OutOf t p y × Via t t' p x y j). via_fits h.2 h.3 h.4)
        (hidden.only j i);
  }

  pub hidden_whole : AllWhole t' (λ q. w (old_number p q))
  hidden_whole = record {
    each = λ j i. ⊎_elim
        (λ (h : (k : ℕ) × Apart t p k × Kept t t' p k j).
        let o = whole.each h.0 h.1.a_link in
        record {
          forward = rw (at (from t' j) h.2.from_same, h.2.over_same, h.2.forward_events) o.forward;
          back = rw (at (from t' j) h.2.from_same, h.2.over_same, h.2.back_events) o.back;
        })
        (λ (h : (x : ℕ) × (y : ℕ) × Into t p x × OutOf t p y × Via t t' p x y j).
        let d = via_whole h.2 h.3 h.4 in
        record { forward = rw (at (from t' j) h.4.from_same) d.0; back = rw (at (from t' j) h.4.from_same) d.1 })
        (hidden.only j i);
  }

-- no weight grows
pub hidden_weights : {t t' : Table} {p : ℕ} {w v : ℕ → ℕ} → WellFormed t → WellFormed t' → HiddenOf t t' p → WholeWeights t w → WholeWeights t' v
    → (q : ℕ) → IsPort t' q
    → v q ≤ w (old_number p q)
hidden_weights {p = p} {w = w} formed formed' hidden h k q i =
    k.smallest (λ r. w (old_number p r)) (hidden_proportional formed formed' hidden h.proportional h.whole)
    (hidden_whole formed formed' hidden h.proportional h.whole) q i
