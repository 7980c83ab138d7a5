-- A port that the climb leaves over its link: the link is another than all before.
use Prim.Native.Nat.{ℕ, ◌<◌}
use mathlib.Core.Path.{◌≡◌, sym, ap, ◌∙◌}
use mathlib.Core.Logic.{◌⊎◌, inl, inr, ◌≢◌, ⊎_elim}
use mathlib.Core.List.Memᴰ.{cases_cons}
use mathlib.Core.List.{List, ◌∷◌, ◌++◌, map}
use native.Mathlib.Omega.{arith}
use lib.ListN.{get_or}
use Rattle.specification.specs.Table.{Table}
use Rattle.numbers.specs.Lists.{◌∈◌, Distinct}
use Rattle.specification.specs.Ratios.{Step}
use Rattle.forest.specs.Forest.{HasEnds, Reached}
use Rattle.forest.specs.Loop.{Closing}
use Rattle.forest.specs.Climb.{along, Behind, Over, Climb}
use Rattle.forest.proofs.loops.Inserted.{inserted, distinct_inserted}

-- an end of a link is one of its two ends
one_of : (t : Table) (l : ℕ) {p p' q q' : ℕ} → HasEnds t l p p' → HasEnds t l q q' → (q ≡ p) ⊎ (q ≡ p')
one_of t l (inl e) (inl f) = inl (sym f.0 ∙ e.0)
one_of t l (inl e) (inr f) = inr (sym f.0 ∙ e.1)
one_of t l (inr e) (inl f) = inr (sym f.0 ∙ e.1)
one_of t l (inr e) (inr f) = inl (sym f.0 ∙ e.0)

links_differ : {t : Table} {labels reach via : List ℕ} {p q : ℕ} → Reached t labels reach via p → Reached t labels reach via q
    → get_or reach p 0 < get_or reach q 0
    → get_or via p 0 ≢ get_or via q 0
links_differ {t} {reach = reach} {via = via} {p = p} {q = q} r s later e =
    let ends : HasEnds t (get_or via p 0) q s.parent = rw e s.ends in
    ⊎_elim
    (λ f. omega (arith, ap (λ (x : ℕ). get_or reach x 0) f))
    (λ f. omega (arith, ap (λ (x : ℕ). get_or reach x 0) f, r.earlier))
    (one_of t (get_or via p 0) r.ends ends)

module _ {t : Table} {labels reach via : List ℕ} {k : ℕ} {numbers : List ℕ} (closing : Closing t labels reach via k numbers)
    {a b : ℕ} {up down : List Step} (c : Climb t labels reach via k a b up down)
    (s : Step) {a' b' : ℕ} (over : Over t labels reach via a' b' s.number)
    (before : (x : ℕ) → Behind reach a b x → get_or reach over.port 0 < get_or reach x 0) where
  -- what was behind the old ends is behind the new
  pub behind_still : (x : ℕ) → Behind reach a b x → Behind reach a' b' x
  behind_still x h = record {
    after_a = omega (arith, before x h, over.behind.after_a);
    after_b = omega (arith, before x h, over.behind.after_b);
  }

  link_new : ¬ (s.number ∈ map (λ x. x.number) ((along k ∷ up) ++ down))
  link_new m =
      let reached = closing.forest.reached in
      ⊎_elim
      (λ e. closing.outside over.port over.a_port over.not_lowest (over.over ∙ e))
      (λ n.
      let o = c.over_forest s.number n in
      links_differ (reached over.port over.a_port over.not_lowest) (reached o.port o.a_port o.not_lowest)
      (before o.port o.behind) (over.over ∙ sym o.over))
      (cases_cons m)

  pub links_more : Distinct (map (λ x. x.number) ((along k ∷ up) ++ s ∷ down))
  links_more = distinct_inserted (λ x. x.number) s down (along k ∷ up) link_new c.links

  pub over_more : (x : ℕ) → x ∈ map (λ x. x.number) (up ++ s ∷ down) → Over t labels reach via a' b' x
  over_more x m = ⊎_elim
      (λ e. rw e over)
      (λ n. let o = c.over_forest x n in record {
        port = o.port;
        a_port = o.a_port;
        not_lowest = o.not_lowest;
        over = o.over;
        behind = behind_still o.port o.behind;
      })
      (inserted (λ x. x.number) s down up m)
