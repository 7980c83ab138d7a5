-- Where every closed way has the ratio 1, proportional weights exist.
use Rattle.std.specs.Prelude.{ℕ, zero, suc, ◌*◌, ◌≤◌, ◌<◌, false, cond, ◌≡◌, refl, List, [], ◌∷◌, ◌++◌, eqb}
use Rattle.std.proofs.Common.{sym, ap, ◌∙◌, ⊎_elim, mul-pos, eq-or-lt_of_le, le_of_suc-le-suc, le_refl, arith, eq-eqb, ne_eqb}
use Rattle.std.proofs.Math.Nat.{eq_of_mul-eq-mul_right}
use Rattle.std.proofs.Math.Decide.{ℕ_discrete}
use Rattle.table.specs.WellFormed.{WellFormed}
use Rattle.specification.specs.Table.{Table, link_count, IsLink, from, to, num, den}
use Rattle.specification.specs.Ratios.{Step, Way, stay, walk, above, below, Proportional}
use Rattle.ways.specs.Agree.{Agree}
use Rattle.ways.specs.WayLaws.{cond_positive, reversed, join, reverse, above_append, below_append, above_reversed, below_reversed, above_positive}

-- a way from p to q along which w has the ratio of the way
record FittingWay (t : Table) (w : ℕ → ℕ) (p q : ℕ) : Type 0 where
  path : List Step
  way : Way t p q path
  ratio : w q * above t path ≡ w p * below t path

module _ {t : Table} {w : ℕ → ℕ} where
  fitting_refl : {p q : ℕ} → p ≡ q → FittingWay t w p q
  fitting_refl e = rw e (record { path = []; way = stay; ratio = refl })

  fitting_sym : {p q : ℕ} → FittingWay t w p q → FittingWay t w q p
  fitting_sym h = record {
    path = reversed h.path;
    way = reverse h.way;
    ratio = rw (above_reversed, below_reversed) (sym h.ratio);
  }

  fitting_trans : {p q r : ℕ} → FittingWay t w p q → FittingWay t w q r → FittingWay t w p r
  fitting_trans h k = record {
    path = h.path ++ k.path;
    way = join h.way k.way;
    ratio = rw (above_append, below_append) (omega (
      arith,
      ap (λ (n : ℕ). n * above t h.path) k.ratio,
      ap (λ (n : ℕ). n * below t k.path) h.ratio,
    ));
  }

  -- both ends times the same factor
  fitting_scaled : {p q : ℕ} (f : ℕ → ℕ) → f p ≡ f q → FittingWay t w p q → FittingWay t (λ x. w x * f x) p q
  fitting_scaled {p} {q} f e h = record {
    path = h.path;
    way = h.way;
    ratio = rw e (omega (arith, ap (λ (n : ℕ). n * f q) h.ratio));
  }

  -- a link between the ends of a fitting way fits: the two close
  link_fits : {k : ℕ} → Agree t → WellFormed t → IsLink t k → FittingWay t w (to t k) (from t k)
      → w (to t k) * num t k ≡ w (from t k) * den t k
  link_fits {k} agree formed i h =
      let s : Step = record { number = k; against = false } in
      eq_of_mul-eq-mul_right (above t h.path) (above_positive formed h.way) (w (to t k) * num t k) (w (from t k) * den t k)
      (omega (
        arith,
        ap (λ (n : ℕ). w (to t k) * n) (agree.closed (from t k) (s ∷ h.path) (walk s i h.way)),
        ap (λ (n : ℕ). den t k * n) h.ratio,
      ))

-- weights for the links below k: the ends of each have one label, and ports of one label have a fitting way
record Labelled (t : Table) (k : ℕ) : Type 0 where
  label : ℕ → ℕ
  weight : ℕ → ℕ
  positive : (p : ℕ) → 0 < weight p
  same : (j : ℕ) → j < k → label (from t j) ≡ label (to t j)
  fitting : (p q : ℕ) → label p ≡ label q → FittingWay t weight p q

labelled_none : (t : Table) → Labelled t 0
labelled_none t = record {
  label = λ x. x;
  weight = λ x. 1;
  positive = λ p. omega arith;
  same = λ j h. absurd (omega arith);
  fitting = λ p q e. fitting_refl e;
}

-- what holds of k and of the numbers below k holds below k + 1
below_suc : {P : ℕ → Type 0} {k : ℕ} → P k → ((j : ℕ) → j < k → P j) → (j : ℕ) → j < suc k → P j
below_suc here less j h = ⊎_elim (λ e. rw e here) (λ l. less j l) (eq-or-lt_of_le (le_of_suc-le-suc h))

-- the next link, from u to v, where its ends have one label
labelled_same : {t : Table} {k : ℕ} (l : Labelled t k) → l.label (from t k) ≡ l.label (to t k) → Labelled t (suc k)
labelled_same l e = record {
  label = l.label;
  weight = l.weight;
  positive = l.positive;
  same = below_suc e l.same;
  fitting = l.fitting;
}

-- where they have not: v's label becomes u's, and the weights are scaled so that the link fits
module _ {t : Table} {k : ℕ} (l : Labelled t k) where
  -- a label's new label, and the factor of its ports' weights
  abbrev renamed : ℕ → ℕ
  renamed a = cond (eqb a (l.label (to t k))) (l.label (from t k)) a

  abbrev factor : ℕ → ℕ
  factor a = cond (eqb a (l.label (to t k))) (l.weight (from t k) * den t k) (l.weight (to t k) * num t k)

  abbrev scaled : ℕ → ℕ
  scaled x = l.weight x * factor (l.label x)

  renamed_yes : {a : ℕ} → a ≡ l.label (to t k) → renamed a ≡ l.label (from t k)
  renamed_yes {a} e = rw (eq-eqb a (l.label (to t k)) e)

  renamed_no : {a : ℕ} → ¬ (a ≡ l.label (to t k)) → renamed a ≡ a
  renamed_no {a} f = rw (ne_eqb a (l.label (to t k)) f)

  old_fitting : (p q : ℕ) → l.label p ≡ l.label q → FittingWay t scaled p q
  old_fitting p q e = fitting_scaled (λ x. factor (l.label x)) (ap factor e) (l.fitting p q e)

  module _ (i : IsLink t k) (apart : ¬ (l.label (from t k) ≡ l.label (to t k))) where
    link_fitting : FittingWay t scaled (from t k) (to t k)
    link_fitting = let s : Step = record { number = k; against = false } in record {
      path = s ∷ [];
      way = walk s i stay;
      ratio = rw (eq-eqb (l.label (to t k)) (l.label (to t k)) refl, ne_eqb (l.label (from t k)) (l.label (to t k)) apart) (omega arith);
    }

    new_fitting : (p q : ℕ) → Dec (l.label p ≡ l.label (to t k)) → Dec (l.label q ≡ l.label (to t k))
        → renamed (l.label p) ≡ renamed (l.label q)
        → FittingWay t scaled p q
    new_fitting p q (yes a) (yes b) e = old_fitting p q (a ∙ sym b)
    new_fitting p q (yes a) (no g) e =
        fitting_trans (old_fitting p (to t k) a)
        (fitting_trans (fitting_sym link_fitting) (old_fitting (from t k) q (sym (renamed_yes a) ∙ e ∙ renamed_no g)))
    new_fitting p q (no f) (yes b) e =
        fitting_trans (old_fitting p (from t k) (sym (renamed_no f) ∙ e ∙ renamed_yes b))
        (fitting_trans link_fitting (old_fitting (to t k) q (sym b)))
    new_fitting p q (no f) (no g) e = old_fitting p q (sym (renamed_no f) ∙ e ∙ renamed_no g)

    labelled_apart : WellFormed t → Labelled t (suc k)
    labelled_apart formed = record {
      label = λ x. renamed (l.label x);
      weight = scaled;
      positive = λ p. mul-pos (l.positive p) (cond_positive (eqb (l.label p) (l.label (to t k)))
          (mul-pos (l.positive (from t k)) (formed.links k i.below).den.least)
          (mul-pos (l.positive (to t k)) (formed.links k i.below).num.least));
      same = below_suc (renamed_no apart ∙ sym (renamed_yes refl)) (λ j h. ap renamed (l.same j h));
      fitting = λ p q e. new_fitting p q (ℕ_discrete (l.label p) (l.label (to t k))) (ℕ_discrete (l.label q) (l.label (to t k))) e;
    }

labelled_next : {t : Table} {k : ℕ} → WellFormed t → IsLink t k → Labelled t k → Labelled t (suc k)
labelled_next {t} {k} formed i l = decided (ℕ_discrete (l.label (from t k)) (l.label (to t k)))
  where
    decided : Dec (l.label (from t k) ≡ l.label (to t k)) → Labelled t (suc k)
    decided (yes e) = labelled_same l e
    decided (no apart) = labelled_apart l i apart formed

labelled : {t : Table} → WellFormed t → (k : ℕ) → k ≤ link_count t → Labelled t k
labelled {t} formed zero h = labelled_none t
labelled formed (suc k) h = labelled_next formed (record { below = h }) (labelled formed k (omega arith))

pub agree_proportional : {t : Table} → Agree t → WellFormed t → (w : ℕ → ℕ) × Proportional t w
agree_proportional {t} agree formed =
    let l = labelled formed (link_count t) (le_refl (link_count t)) in (
      l.weight,
      record {
        positive = λ p i. l.positive p;
        fits = λ k i. link_fits agree formed i (l.fitting (to t k) (from t k) (sym (l.same k i.below)));
      },
    )
