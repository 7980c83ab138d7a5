-- Where every δ is whole, a table means what the undivided one means, in which every denominator is 1.
use Rattle.std.specs.Prelude.{ℕ, zero, suc, ◌<◌, ◌≡◌, refl, Bool, true, false, cond, List, [], ◌∷◌, map, eqb, length, get_or}
use Rattle.std.proofs.Math.Path.{sym, ap}
use Rattle.std.proofs.Common.{arith}
use Rattle.std.proofs.lemmas.List.{length-map}
use Rattle.numbers.specs.DivisorLaws.{quotient_is}
use Rattle.specification.specs.Table.{Table, link, no_link, is_buffer, IsLink, δ°}
use Rattle.specification.specs.Meaning.{SameModel, AllEventsWhole, undivided, undivided_table}
use Rattle.specification.specs.declared.Link.{Link}

map_at : (f : Link → Link) (ls : List Link) (k : ℕ) → k < length ls → get_or (map f ls) k no_link ≡ f (get_or ls k no_link)
map_at f [] k h = absurd (omega arith)
map_at f (l ∷ ls) zero h = refl
map_at f (l ∷ ls) (suc k) h = map_at f ls k (omega arith)

same_kind : (buffer : Bool) → eqb (cond buffer 3 2) 3 ≡ buffer
same_kind true = refl
same_kind false = refl

module _ (t : Table) where
  undivided_at : (k : ℕ) → IsLink t k → link (undivided_table t) k ≡ undivided (link t k)
  unfolding undivided_table
  undivided_at k i = map_at undivided t.links k i.below

  pub undivided_same : AllEventsWhole t → SameModel t (undivided_table t)
  unfolding undivided_table undivided
  undivided_same whole = record {
    ports = refl;
    count = sym (length-map t.links undivided);
    links = λ k i. rw (undivided_at k i) (record {
      from = refl;
      to = refl;
      num = refl;
      den = refl;
      ticks = refl;
      buffer = sym (same_kind (is_buffer (link t k)));
      events_forward = omega (arith, quotient_is (whole.forward k i));
      events_back = omega (arith, quotient_is (whole.back k i));
    });
  }

  pub undivided_units : (k : ℕ) → IsLink t k → δ° (undivided_table t) k ≡ 1
  unfolding undivided
  undivided_units k i = ap (λ (l : Link). l.over) (undivided_at k i)
