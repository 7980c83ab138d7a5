-- The parts of a connection that stands for two, as they are computed.
use Rattle.std.specs.Prelude.{ℕ, ◌+◌, ◌-◌, ◌*◌, ◌≤◌, ◌≡◌}
use Rattle.std.proofs.Common.{ap, ◌∙◌, mul-le-mul}
use Rattle.specification.specs.Hiding.{lowest_num, lowest_den, carried_rate, forward_via, back_via, over_via, via}
use Rattle.specification.specs.declared.Port.{Port}
use Rattle.specification.specs.declared.Link.{Link}
use Rattle.specification.specs.declared.Ticks.{Ticks}
use Rattle.fraction.specs.declared.Fraction.{Fraction}
use Rattle.fraction.specs.Lowest.{lowest_terms, lowest_small}
use Rattle.hiding_laws.specs.LowestLaws.{lowest_num_lem, lowest_den_lem}
use Rattle.hidden.specs.declared.via.Delta.{Delta}
use Rattle.hidden.specs.declared.via.Made.{Made}

-- the connection that was made
abbrev pub made_of : Made → Link
made_of m = record {
  from = m.from;
  to = m.to;
  num = m.num;
  den = m.den;
  ticks = m.ticks;
  events = (m.delta.forward, m.delta.back);
  over = m.delta.over;
  kind = 4;
}

pub product_most : {a b : ℕ} (m n : ℕ) → a ≤ m → b ≤ n → a * b ≤ m * n
product_most {a} {b} m n h k = mul-le-mul {n₁ = a} {m₁ = b} {n₂ = m} {m₂ = n} h k

-- forward less back over a denominator, in lowest terms
pub record IsNet (forward back over : ℕ) (r : Delta) : Type 0 where
  pub forward_is : r.forward ≡ lowest_num (forward - back) over
  pub back_is : r.back ≡ lowest_num (back - forward) over
  pub over_is : r.over ≡ lowest_den (forward - back + (back - forward)) over

-- the first δ plus the second divided by the first's ratio
abbrev pub IsDelta : Link → Link → Delta → Type 0
IsDelta x y r = IsNet (forward_via x y) (back_via x y) (over_via x y) r

module _ (n d : ℕ) {f : Fraction} (e : f ≡ lowest_terms n d) where
  pub num_is : f.num ≡ lowest_num n d
  num_is = ap (λ (x : Fraction). x.num) e ∙ lowest_num_lem n d

  pub den_is : f.den ≡ lowest_den n d
  den_is = ap (λ (x : Fraction). x.den) e ∙ lowest_den_lem n d

  pub num_most : f.num ≤ n
  num_most = rw e (lowest_small n d).0

  pub den_most : f.den ≤ d
  den_most = rw e (lowest_small n d).1

pub net_is : (forward back over : ℕ) {gained lost : ℕ} {f g h : Fraction} → gained ≡ forward - back → lost ≡ back - forward → f ≡ lowest_terms gained over
    → g ≡ lowest_terms lost over
    → h ≡ lowest_terms (gained + lost) over
    → IsNet forward back over (record { forward = f.num; back = g.num; over = h.den })
net_is forward back over {gained} {lost} a b e k m = record {
  forward_is = num_is gained over e ∙ ap (λ (x : ℕ). lowest_num x over) a;
  back_is = num_is lost over k ∙ ap (λ (x : ℕ). lowest_num x over) b;
  over_is = den_is (gained + lost) over m ∙ ap (λ (x : ℕ). lowest_den (x + lost) over) a ∙ ap (λ (x : ℕ). lowest_den (forward - back + x) over) b;
}

-- a rate divided by a ratio
pub carried_is : (r : Port) (l : Link) {f : Fraction} → f ≡ lowest_terms (r.num * l.den) (r.den * l.num)
    → record { num = f.num; den = f.den } ≡ carried_rate r l
unfolding carried_rate
carried_is r l e = λ i. record { num = num_is (r.num * l.den) (r.den * l.num) e i; den = den_is (r.num * l.den) (r.den * l.num) e i }

pub via_is : (x y : Link) {ratio : Fraction} {ticks : Ticks} {delta : Delta} → ratio ≡ lowest_terms (x.num * y.num) (x.den * y.den)
    → ticks ≡ (via x y).ticks
    → IsDelta x y delta
    → made_of (record { from = x.from; to = y.to; num = ratio.num; den = ratio.den; ticks = ticks; delta = delta }) ≡ via x y
unfolding via
via_is x y r t n = λ i. record {
  from = x.from;
  to = y.to;
  num = num_is (x.num * y.num) (x.den * y.den) r i;
  den = den_is (x.num * y.num) (x.den * y.den) r i;
  ticks = t i;
  events = (n.forward_is i, n.back_is i);
  over = n.over_is i;
  kind = 4;
}
