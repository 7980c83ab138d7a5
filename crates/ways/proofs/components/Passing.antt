-- A pass that is under way: what the next link does.
use Prim.Native.Nat.{ℕ, ◌+◌, ◌<◌}
use mathlib.Core.Bool.{Bool, true, false, true≢false, ◌||◌}
use mathlib.Core.Path.{◌≡◌, refl}
use mathlib.Core.Logic.{⊎_elim}
use mathlib.Core.List.{List}
use native.Mathlib.Omega.{arith}
use borrow.Author.Count.{below_more}
use Rattle.table.specs.WellFormed.{WellFormed}
use Rattle.specification.specs.Table.{Table, link_count, IsLink, from, to}
use Rattle.numbers.specs.Lists.{sum}
use Rattle.specification.specs.Ratios.{Joined}
use Rattle.ways.specs.WayLaws.{joined_sym, linked}
use Rattle.ways.specs.Passes.{Both, Levelled, Passed}
use Rattle.ways.proofs.components.Lowering.{sum_lowered, sound_lowered}

module _ {t : Table} where
  module _ (formed : WellFormed t) {k u v : ℕ} (below : k < link_count t) (sender : u ≡ from t k) (receiver : v ≡ to t k) where
    -- the ends of link k, u and v, have labels
    pub passed_both : Both u v
    passed_both = record { one = omega (arith, (formed.links k below).from); other = omega (arith, (formed.links k below).to) }

    joined_ends : IsLink t k → Joined t u v
    joined_ends i = rw (sender, receiver) (linked i)

    module _ {l l' l'' : List ℕ} {r b : Bool} (p : Passed t k l l' r) (x : Levelled l' u v l'' b) where
      -- link k lowered a label
      passed_on : b ≡ true → Passed t (k + 1) l l'' true
      passed_on e =
          let i : IsLink t k = record { below = below } in
          let turned : Both v u = record { one = passed_both.other; other = passed_both.one } in
          let fewer : sum (λ v. v) l'' < sum (λ v. v) l' = ⊎_elim sum_lowered sum_lowered (x.lowered e) in
          record {
            within = omega arith;
            sound = ⊎_elim (sound_lowered p.sound (joined_ends i) passed_both) (sound_lowered p.sound (joined_sym (joined_ends i)) turned) (x.lowered e);
            most = omega (arith, p.most);
            less = λ _. omega (arith, p.most);
            even = λ d. absurd (true≢false d);
          }

      -- its ends had the same label
      passed_off : b ≡ false → Passed t (k + 1) l l'' r
      passed_off e = rw (x.same e) (record {
        within = omega arith;
        sound = p.sound;
        most = p.most;
        less = p.less;
        even = λ d. record { ends = below_more _ k (p.even d).ends (rw (sender, receiver) at (x.equal e)) };
      })

    pub passed_next : {l l' l'' : List ℕ} (r b : Bool) → Passed t k l l' r → Levelled l' u v l'' b → Passed t (k + 1) l l'' (r || b)
    passed_next true true p x = passed_on p x refl
    passed_next false true p x = passed_on p x refl
    passed_next true false p x = passed_off p x refl
    passed_next false false p x = passed_off p x refl
