-- Weights scaled, component by component, until each of some conditions is whole.
use Rattle.std.specs.Prelude.{ℕ, ◌+◌, ◌*◌, ◌/◌, ◌≤◌, ◌<◌, ◌≡◌, refl, cond, List, eqb, get_or}
use Rattle.std.proofs.Common.{sym, ap, subst, ◌∙◌, mul-pos, mul-le-mul_right, div-le_self, arith, eq-eqb, ne_eqb, below_more}
use Rattle.std.proofs.Math.Nat.{eq_of_mul-eq-mul_left}
use Rattle.std.proofs.Math.Decide.{ℕ_discrete, dec_le}
use Rattle.numbers.specs.Divisors.{Divides, Coprime, gcd}
use Rattle.numbers.specs.DivisorLaws.{divides_times, divisor_positive, quotient_is}
use Rattle.numbers.specs.Gcd.{gcd_is, gcd_positive, gcd_quotients, gauss, coprime_sym}
use Rattle.fraction.specs.Lowest.{lowest_terms, lowest_is}
use Rattle.table.specs.WellFormed.{WellFormed}
use Rattle.specification.specs.Table.{Table, IsPort, IsLink, from, to, num, den}
use Rattle.specification.specs.Ratios.{Joined, Proportional, Weights}
use Rattle.ways.specs.Labels.{Components}
use Rattle.ways.specs.WayLaws.{cond_positive, linked, joined_refl, joined_sym, joined_trans, joined_component, component_unique}
use Rattle.ways.specs.WeightLaws.{joined_proportion, denominator_divides}

-- condition i: over i divides amount i times the weight of port at i
module _ (t : Table) (over amount at : ℕ → ℕ) where
  pub record Whole (w : ℕ → ℕ) (i : ℕ) : Type 0 where
    pub divides : Divides (over i) (amount i * w (at i))

  pub record WholeBelow (n : ℕ) (w : ℕ → ℕ) : Type 0 where
    pub each : (i : ℕ) → i < n → Whole w i

  -- proportional, whole below n, and a divisor at each port of all weights that are
  pub record Scaling (n : ℕ) (w : ℕ → ℕ) : Type 0 where
    pub proportional : Proportional t w
    pub whole : WholeBelow n w
    pub divides : (v : ℕ → ℕ) → Proportional t v → WholeBelow n v → (p : ℕ) → IsPort t p → Divides (w p) (v p)

-- ---- what a product lacks: the least factor that makes it a multiple of over
abbrev pub lacking : (over product : ℕ) → ℕ
lacking over product = over / gcd product over

-- the denominator in lowest terms
pub lowest_lacking : (product over : ℕ) → (lowest_terms product over).den ≡ lacking over product
unfolding lowest_terms
lowest_lacking product over = refl

pub lacking_most : (over product : ℕ) → lacking over product ≤ over
lacking_most over product = div-le_self over (gcd product over)

module _ (over product : ℕ) (some : 0 < over) where
  lacking_over : gcd product over * lacking over product ≡ over
  lacking_over = quotient_is (gcd_is product over).right

  lacking_positive : 0 < lacking over product
  lacking_positive = divisor_positive (record { quotient = gcd product over; is = omega (arith, lacking_over) }) some

  lacking_makes : Divides over (product * lacking over product)
  lacking_makes = record {
    quotient = product / gcd product over;
    is = omega (
      arith,
      ap (λ (n : ℕ). n * lacking over product) (quotient_is (gcd_is product over).left),
      ap (λ (n : ℕ). n * (product / gcd product over)) lacking_over,
    );
  }

  lacking_least : (m : ℕ) → Divides over (product * m) → Divides (lacking over product) m
  lacking_least m h =
      let g = gcd product over in
      let l : g * (product / g) ≡ product = quotient_is (gcd_is product over).left in
      let prime : Coprime (product / g) (lacking over product) =
      gcd_quotients (product / g) (lacking over product) (gcd_is product over) (gcd_positive product over some) (sym l) (sym lacking_over) in
      gauss m (coprime_sym prime) (record {
        quotient = h.quotient;
        is = eq_of_mul-eq-mul_left g (gcd_positive product over some) (product / g * m) (lacking over product * h.quotient)
            (omega (
              arith,
              h.is,
              ap (λ (n : ℕ). n * m) l,
              ap (λ (n : ℕ). n * h.quotient) lacking_over,
            ));
      })

-- ---- the ports of one label
module _ {t : Table} {labels : List ℕ} (formed : WellFormed t) (components : Components t labels) where
  link_labels : (k : ℕ) → IsLink t k → get_or labels (from t k) 0 ≡ get_or labels (to t k) 0
  link_labels k i = component_unique (joined_component (linked i) (components.each (from t k) (record { below = (formed.links k i.below).from })))
      (components.each (to t k) (record { below = (formed.links k i.below).to }))

  label_joined : {p q : ℕ} → IsPort t p → IsPort t q → get_or labels q 0 ≡ get_or labels p 0 → Joined t p q
  label_joined {p} {q} i j e = joined_trans (components.each p i).joined (joined_sym (rw e at (components.each q j).joined))

  -- w times f at the ports of label c
  module _ (w : ℕ → ℕ) (c f : ℕ) where
    abbrev factor_of : ℕ → ℕ
    factor_of p = cond (eqb (get_or labels p 0) c) f 1

    abbrev times : ℕ → ℕ
    times p = w p * factor_of p

    times_in : (p : ℕ) → get_or labels p 0 ≡ c → times p ≡ w p * f
    times_in p e = rw (eq-eqb (get_or labels p 0) c e)

    times_out : (p : ℕ) → ¬ (get_or labels p 0 ≡ c) → times p ≡ w p
    times_out p n = rw (ne_eqb (get_or labels p 0) c n) (omega arith)

    times_proportional : 0 < f → Proportional t w → Proportional t times
    times_proportional some h = record {
      positive = λ p i. mul-pos (h.positive p i) (cond_positive (eqb (get_or labels p 0) c) some (omega arith));
      fits = λ k i.
          rw (link_labels k i)
          (omega (arith, ap (λ (n : ℕ). n * cond (eqb (get_or labels (to t k) 0) c) f 1) (h.fits k i)));
    }

  -- ---- document 01's weights divide every proportional weight: v p / w p in lowest terms is x/y, and y is 1, since w divided by y at the
  -- ports of p's label is proportional too
  module _ {w v : ℕ → ℕ} {p : ℕ} (least : Weights t w) (k : Proportional t v) (i : IsPort t p) where
    abbrev x : ℕ
    x = (lowest_terms (v p) (w p)).num

    abbrev y : ℕ
    y = (lowest_terms (v p) (w p)).den

    abbrev divided : ℕ → ℕ
    divided q = cond (eqb (get_or labels q 0) (get_or labels p 0)) (w q / y) (w q)

    divides_all : (q : ℕ) → Joined t p q → y * (w q / y) ≡ w q
    divides_all q j = quotient_is (denominator_divides formed least.proportional p q k i j)

    y_some : 0 < y
    y_some = (lowest_is (v p) (w p) (least.proportional.positive p i)).over

    divided_positive : (q : ℕ) → IsPort t q → Dec (get_or labels q 0 ≡ get_or labels p 0) → 0 < divided q
    divided_positive q j (yes e) =
        rw (eq-eqb (get_or labels q 0) (get_or labels p 0) e)
        (divisor_positive {b = w q} (record { quotient = y; is = omega (arith, divides_all q (label_joined i j e)) }) (least.proportional.positive q j))
    divided_positive q j (no n) = rw (ne_eqb (get_or labels q 0) (get_or labels p 0) n) (least.proportional.positive q j)

    divided_fits : (j : ℕ) → IsLink t j → Dec (get_or labels (from t j) 0 ≡ get_or labels p 0) → divided (to t j) * num t j ≡ divided (from t j) * den t j
    divided_fits j l (yes e) =
        let a : IsPort t (from t j) = record { below = (formed.links j l.below).from } in
        let b : IsPort t (to t j) = record { below = (formed.links j l.below).to } in
        let same = link_labels j l in
        rw (eq-eqb (get_or labels (to t j) 0) (get_or labels p 0) (sym same ∙ e), eq-eqb (get_or labels (from t j) 0) (get_or labels p 0) e)
        (eq_of_mul-eq-mul_left y y_some (w (to t j) / y * num t j) (w (from t j) / y * den t j)
        (omega (
          arith,
          least.proportional.fits j l,
          ap (λ (n : ℕ). n * num t j) (divides_all (to t j) (label_joined i b (sym same ∙ e))),
          ap (λ (n : ℕ). n * den t j) (divides_all (from t j) (label_joined i a e)),
        )))
    divided_fits j l (no n) =
        let same = link_labels j l in
        rw (ne_eqb (get_or labels (to t j) 0) (get_or labels p 0) (λ e. n (same ∙ e)), ne_eqb (get_or labels (from t j) 0) (get_or labels p 0) n)
        (least.proportional.fits j l)

    divided_proportional : Proportional t divided
    divided_proportional = record {
      positive = λ q j. divided_positive q j (ℕ_discrete (get_or labels q 0) (get_or labels p 0));
      fits = λ j l. divided_fits j l (ℕ_discrete (get_or labels (from t j) 0) (get_or labels p 0));
    }

    small : w p ≤ w p / y
    small = rw (eq-eqb (get_or labels p 0) (get_or labels p 0) refl) at (least.smallest divided divided_proportional p i)

    one : Dec (2 ≤ y) → y ≡ 1
    one (yes h) = absurd (omega (
      arith,
      small,
      divides_all p (joined_refl p),
      mul-le-mul_right (w p / y) h,
      least.proportional.positive p i,
    ))
    one (no f) = omega (arith, y_some)

    pub weights_divide : Divides (w p) (v p)
    weights_divide = record {
      quotient = x;
      is = omega (
        arith,
        (lowest_is (v p) (w p) (least.proportional.positive p i)).equal,
        ap (λ (n : ℕ). v p * n) (one (dec_le 2 y)),
      );
    }

  -- ---- one condition after the other
  module _ {over amount at : ℕ → ℕ} where
    pub scaling_none : {w : ℕ → ℕ} → Weights t w → Scaling t over amount at 0 w
    scaling_none least = record {
      proportional = least.proportional;
      whole = record { each = λ j h. absurd (omega arith) };
      divides = λ v k b p i. weights_divide least k i;
    }

    module _ {n : ℕ} {w : ℕ → ℕ} (s : Scaling t over amount at n w) (some : 0 < over n) (port : IsPort t (at n)) where
      abbrev c : ℕ
      c = get_or labels (at n) 0

      abbrev d : ℕ
      d = lacking (over n) (amount n * w (at n))

      whole_on : (j : ℕ) → j < n → Whole t over amount at (times w c d) j
      whole_on j h = record {
        divides =
            let z = factor_of w c d (at j) in
            let e : amount j * (w (at j) * z) ≡ amount j * w (at j) * z = omega arith in
            rw e (divides_times z (s.whole.each j h).divides);
      }

      whole_here : Whole t over amount at (times w c d) n
      whole_here = record {
        divides =
            let e : amount n * (w (at n) * d) ≡ amount n * w (at n) * d = omega arith in
            rw (times_in w c d (at n) refl, e) (lacking_makes (over n) (amount n * w (at n)) some);
      }

      module _ {v : ℕ → ℕ} (k : Proportional t v) (b : WholeBelow t over amount at (n + 1) v) where
        before : WholeBelow t over amount at n v
        before = record { each = λ j h. b.each j (omega arith) }

        abbrev m : ℕ
        m = (s.divides v k before (at n) port).quotient

        m_is : v (at n) ≡ w (at n) * m
        m_is = (s.divides v k before (at n) port).is

        -- v is m times w at the ports of label c, so the factor divides m
        lacks : Divides d m
        lacks =
            let e : amount n * v (at n) ≡ amount n * w (at n) * m = omega (arith, ap (λ (z : ℕ). amount n * z) m_is) in
            lacking_least (over n) (amount n * w (at n)) some m (rw e at (b.each n (omega arith)).divides)

        divides_on : (p : ℕ) → IsPort t p → Dec (get_or labels p 0 ≡ c) → Divides (times w c d p) (v p)
        divides_on p i (yes e) = record {
          quotient = lacks.quotient;
          is = rw (times_in w c d p e) (eq_of_mul-eq-mul_left (w (at n)) (s.proportional.positive (at n) port) (v p) (w p * d * lacks.quotient)
              (omega (
                arith,
                joined_proportion s.proportional k formed (label_joined port i e),
                ap (λ (z : ℕ). z * w p) m_is,
                ap (λ (z : ℕ). w (at n) * w p * z) lacks.is,
              )));
        }
        divides_on p i (no f) = rw (times_out w c d p f) (s.divides v k before p i)

      -- one condition more, made whole by the least factor
      pub scaling_times : Scaling t over amount at (n + 1) (times w c d)
      scaling_times = record {
        proportional = times_proportional w c d (lacking_positive (over n) (amount n * w (at n)) some) s.proportional;
        whole = record { each = below_more _ n whole_on whole_here };
        divides = λ v k b p i. divides_on k b p i (ℕ_discrete (get_or labels p 0) c);
      }

      -- the same of any numbers that are those
      pub scaling_on : {v : ℕ → ℕ} → ((p : ℕ) → v p ≡ w p * factor_of w c d p) → Scaling t over amount at (n + 1) v
      scaling_on is = subst (Scaling t over amount at (n + 1)) (λ j p. sym (is p) j) scaling_times
