-- Rows that fit a link fit those parallel to it.
use Prim.Native.Nat.{ℕ, ◌*◌, ◌<◌}
use mathlib.Core.Path.{◌≡◌, refl, sym, ap, ◌∙◌}
use mathlib.Core.Bool.{Bool, true, false, true≢false, cond, ◌&&◌}
use mathlib.Core.List.{List}
use native.Mathlib.Nat.{eq_of_mul-eq-mul_right}
use native.Mathlib.Omega.{arith}
use borrow.Author.Tests.{eqb-true}
use lib.Dec.{eqb}
use Rattle.table.specs.WellFormed.{LinkFits}
use Rattle.specification.specs.declared.Link.{Link}
use Rattle.forest.specs.PortRows.{value_of}
use Rattle.forest.specs.Agreement.{FitsRows, is_parallel, KnownToFit}

-- v to w and b to a are both as d to c
same_ratio : (v w a b c d : ℕ) → 0 < c → v * c ≡ w * d → a * d ≡ b * c → v * a ≡ w * b
same_ratio v w a b c d some e f =
    eq_of_mul-eq-mul_right c some (v * a) (w * b) (omega (arith, ap (λ (x : ℕ). x * a) e, ap (λ (x : ℕ). w * x) f))

fits_true : {l : Link} {rows : List (List ℕ)} → value_of rows l.to * l.num ≡ value_of rows l.from * l.den → FitsRows l rows true
fits_true e = record { yes = λ _. e; no = λ f. absurd (true≢false f) }

-- ---- where the test says yes, rows that fit m fit l
second_test : {P : Type 0} (c d y : Bool) → cond (c && d) y false ≡ true → (c ≡ true → d ≡ true → y ≡ true → P) → P
second_test true true y e g = g refl refl e
second_test true false y e g = absurd (true≢false (sym e))
second_test false d y e g = absurd (true≢false (sym e))

first_test : {P : Type 0} (a b x c d y : Bool) → cond (a && b) x (cond (c && d) y false) ≡ true → (a ≡ true → b ≡ true → x ≡ true → P)
    → (c ≡ true → d ≡ true → y ≡ true → P)
    → P
first_test true true x c d y e f g = f refl refl e
first_test true false x c d y e f g = second_test c d y e g
first_test false b x c d y e f g = second_test c d y e g

module _ {l m : Link} {rows : List (List ℕ)} (h : LinkFits 64 m) (x : FitsRows m rows true) where
  -- from the same port to the same port
  along : l.from ≡ m.from → l.to ≡ m.to → l.num * m.den ≡ l.den * m.num → FitsRows l rows true
  along e f g = fits_true {l = l} (rw (e, f)
      (same_ratio (value_of rows m.to) (value_of rows m.from) l.num l.den m.num m.den h.num.least (x.yes refl) g))

  -- each from the port to which the other leads
  against : l.from ≡ m.to → l.to ≡ m.from → l.num * m.num ≡ l.den * m.den → FitsRows l rows true
  against e f g = fits_true {l = l} (rw (e, f)
      (same_ratio (value_of rows m.from) (value_of rows m.to) l.num l.den m.den m.num h.den.least (sym (x.yes refl)) g))

  parallel_both : is_parallel l m ≡ true → FitsRows l rows true
  parallel_both e = first_test (eqb l.from m.from) (eqb l.to m.to) (eqb (l.num * m.den) (l.den * m.num))
      (eqb l.from m.to) (eqb l.to m.from) (eqb (l.num * m.num) (l.den * m.den)) e
      (λ a b y. along (eqb-true l.from m.from a) (eqb-true l.to m.to b) (eqb-true (l.num * m.den) (l.den * m.num) y))
      (λ a b y. against (eqb-true l.from m.to a) (eqb-true l.to m.from b) (eqb-true (l.num * m.num) (l.den * m.den) y))

pub parallel_fits : {l m : Link} {rows : List (List ℕ)} {r : Bool} → KnownToFit rows m → r ≡ is_parallel l m → r ≡ true → FitsRows l rows true
parallel_fits k y e = parallel_both k.link_fits k.fits (sym y ∙ e)
