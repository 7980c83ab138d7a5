-- One turn of the climb over the forest, from either end.
use Prim.Native.Nat.{ℕ, zero, suc, ◌-◌, ◌≤◌, ◌<◌}
use mathlib.Core.Path.{◌≡◌, refl, sym, ap, subst, ◌∙◌}
use mathlib.Core.Logic.{◌⊎◌, inl, inr, ⊎_elim}
use mathlib.Core.List.{List, [], ◌∷◌, ◌++◌, map}
use native.Mathlib.Omega.{arith}
use lib.ListN.{get_or, length-append}
use lib.Seq.{append_snoc}
use Rattle.specification.specs.Table.{Table, IsLink}
use Rattle.numbers.specs.Lists.{◌∈◌, Distinct}
use Rattle.specification.specs.Ratios.{Step, Way, stay, walk, leaves, comes}
use Rattle.ways.specs.WayLaws.{join}
use Rattle.forest.specs.Loop.{Closing}
use Rattle.forest.specs.StepNumbers.{step_of}
use Rattle.forest.specs.Climb.{along, Parent, Behind, Over, Climb}
use Rattle.forest.proofs.loops.Inserted.{inserted, distinct_inserted}
use Rattle.forest.proofs.loops.Starting.{not_lowest}
use Rattle.forest.proofs.loops.Leaving.{behind_still, links_more, over_more}

module _ (t : Table) where
  one_step : {p q : ℕ} (s : Step) → IsLink t s.number → leaves t s ≡ p → comes t s ≡ q → Way t p q (s ∷ [])
  one_step s i e f = rw (← e, ← f) (walk s i stay)

  -- the step down is the step up, turned
  down_leaves : (link d : ℕ) → d ≤ 1 → leaves t (step_of link (1 - d)) ≡ comes t (step_of link d)
  down_leaves link zero h = refl
  down_leaves link (suc zero) h = refl
  down_leaves link (suc (suc d)) h = absurd (omega arith)

  down_comes : (link d : ℕ) → d ≤ 1 → comes t (step_of link (1 - d)) ≡ leaves t (step_of link d)
  down_comes link zero h = refl
  down_comes link (suc zero) h = refl
  down_comes link (suc (suc d)) h = absurd (omega arith)

module _ {t : Table} {labels reach via : List ℕ} {k : ℕ} {numbers : List ℕ} (closing : Closing t labels reach via k numbers)
    {a b : ℕ} {up down : List Step} (c : Climb t labels reach via k a b up down)
    {link d parent : ℕ} where
  -- ---- from a up to its parent
  module _ (later : get_or reach b 0 < get_or reach a 0) (step : Parent t labels reach via a link d parent) where
    abbrev up_step : Step
    up_step = step_of link d

    abbrev up_over : Over t labels reach via parent b link
    up_over = record {
      port = a;
      a_port = c.a_port;
      not_lowest = not_lowest closing c.a_port c.b_port c.same_label later;
      over = sym step.over;
      behind = record { after_a = step.earlier; after_b = later };
    }

    up_new : ¬ (comes t up_step ∈ map (comes t) ((along k ∷ up) ++ down))
    up_new m =
        let e = ap (λ (x : ℕ). get_or reach x 0) step.ends in
        ⊎_elim
        (λ f. omega (arith, e, ap (λ (x : ℕ). get_or reach x 0) f, step.earlier))
        (λ h. omega (arith, e, h.after_a, step.earlier))
        (c.left (comes t up_step) m)

    up_left : (x : ℕ) → x ∈ map (comes t) ((along k ∷ up) ++ up_step ∷ down) → (x ≡ parent) ⊎ Behind reach parent b x
    up_left x m = ⊎_elim
        (λ e. inl (e ∙ step.ends))
        (λ n. inr (⊎_elim
        (λ e. rw e up_over.behind)
        (λ h. behind_still closing c up_step up_over (λ y g. g.after_a) x h)
        (c.left x n)))
        (inserted (comes t) up_step down (along k ∷ up) m)

    pub climb_up : Climb t labels reach via k parent b (up ++ up_step ∷ []) down
    climb_up =
        let long = length-append up (up_step ∷ []) in
        let snoc = sym (append_snoc up up_step down) in
        record {
          a_port = step.a_port;
          b_port = c.b_port;
          same_label = step.same_label ∙ c.same_label;
          there = join c.there (one_step t up_step step.a_link step.starts step.ends);
          back = c.back;
          ports =
              subst (λ (l : List Step). Distinct (map (comes t) (along k ∷ l))) snoc
              (distinct_inserted (comes t) up_step down (along k ∷ up) up_new c.ports);
          left =
              subst (λ (l : List Step). (x : ℕ) → x ∈ map (comes t) (along k ∷ l) → (x ≡ parent) ⊎ Behind reach parent b x) snoc
              up_left;
          links =
              subst (λ (l : List Step). Distinct (map (λ x. x.number) (along k ∷ l))) snoc
              (links_more closing c up_step up_over (λ y g. g.after_a));
          over_forest = rw append_snoc (over_more closing c up_step up_over (λ y g. g.after_a));
          few_a = omega (arith, c.few_a, step.earlier);
          few_b = omega (arith, c.few_a);
        }

  -- ---- from b's parent down to b
  module _ (later : get_or reach a 0 < get_or reach b 0) (step : Parent t labels reach via b link d parent) where
    abbrev down_step : Step
    down_step = step_of link (1 - d)

    abbrev down_over : Over t labels reach via a parent link
    down_over = record {
      port = b;
      a_port = c.b_port;
      not_lowest = not_lowest closing c.b_port c.a_port (sym c.same_label) later;
      over = sym step.over;
      behind = record { after_a = later; after_b = step.earlier };
    }

    down_ends : comes t down_step ≡ b
    down_ends = down_comes t link d step.direction ∙ step.starts

    down_new : ¬ (comes t down_step ∈ map (comes t) ((along k ∷ up) ++ down))
    down_new m =
        let e = ap (λ (x : ℕ). get_or reach x 0) down_ends in
        ⊎_elim
        (λ f. omega (arith, e, ap (λ (x : ℕ). get_or reach x 0) f))
        (λ h. omega (arith, e, h.after_b))
        (c.left (comes t down_step) m)

    down_left : (x : ℕ) → x ∈ map (comes t) ((along k ∷ up) ++ down_step ∷ down) → (x ≡ a) ⊎ Behind reach a parent x
    down_left x m = ⊎_elim
        (λ e. let g : x ≡ b = e ∙ down_ends in inr (rw g down_over.behind))
        (λ n. ⊎_elim
        (λ e. inl e)
        (λ h. inr (behind_still closing c down_step down_over (λ y g. g.after_b) x h))
        (c.left x n))
        (inserted (comes t) down_step down (along k ∷ up) m)

    pub climb_down : Climb t labels reach via k a parent up (down_step ∷ down)
    climb_down = record {
      a_port = c.a_port;
      b_port = step.a_port;
      same_label = c.same_label ∙ sym step.same_label;
      there = c.there;
      back =
          join (one_step t down_step step.a_link (down_leaves t link d step.direction ∙ step.ends) down_ends)
          c.back;
      ports = distinct_inserted (comes t) down_step down (along k ∷ up) down_new c.ports;
      left = down_left;
      links = links_more closing c down_step down_over (λ y g. g.after_b);
      over_forest = over_more closing c down_step down_over (λ y g. g.after_b);
      few_a = omega (arith, c.few_b);
      few_b = omega (arith, c.few_b, step.earlier);
    }
