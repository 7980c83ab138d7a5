-- Tables with the same ports whose links differ only in their order.
use Rattle.std.specs.Prelude.{ℕ, zero, suc, ◌<◌, ◌≡◌, refl, length, get_or}
use Rattle.std.proofs.Common.{sym, ◌∙◌, arith}
use mathlib.Core.List.Permᴰ
use mathlib.Core.List.{List, Permᴰ}
use Rattle.specification.specs.Table.{Table, link, no_link, IsLink}
use Rattle.specification.specs.declared.Link.{Link}

-- every link of t is a link of u
pub record Among (t u : Table) : Type 0 where
  pub place : (k : ℕ) → IsLink t k → ℕ
  pub a_link : (k : ℕ) (i : IsLink t k) → IsLink u (place k i)
  pub is : (k : ℕ) (i : IsLink t k) → link u (place k i) ≡ link t k

-- the same ports, and the same links, how often each stands aside
pub record Reordered (t u : Table) : Type 0 where
  pub ports : t.ports ≡ u.ports
  pub there : Among t u
  pub back : Among u t

pub reordered_itself : (t : Table) → Reordered t t
reordered_itself t = record { ports = refl; there = itself; back = itself }
  where
    itself : Among t t
    itself = record { place = λ k i. k; a_link = λ k i. i; is = λ k i. refl }

pub reordered_back : {t u : Table} → Reordered t u → Reordered u t
reordered_back same = record { ports = sym same.ports; there = same.back; back = same.there }

-- ---- from permuted lists
-- a place in ys of the element at place k of xs
record Place (xs ys : List Link) (k : ℕ) : Type 0 where
  place : ℕ
  below : place < length ys
  is : get_or ys place no_link ≡ get_or xs k no_link

place_in : {xs ys : List Link} → Permᴰ xs ys → (k : ℕ) → k < length xs → Place xs ys k
place_in Permᴰ.nil k h = absurd (omega arith)
place_in (Permᴰ.cons e p) zero h = record { place = 0; below = omega arith; is = sym e }
place_in (Permᴰ.cons e p) (suc k) h =
    let rest = place_in p k (omega arith) in
    record { place = suc rest.place; below = omega (arith, rest.below); is = rest.is }
place_in (Permᴰ.swap e f) zero h = record { place = 1; below = omega arith; is = sym e }
place_in (Permᴰ.swap e f) (suc zero) h = record { place = 0; below = omega arith; is = sym f }
place_in (Permᴰ.swap e f) (suc (suc k)) h = record { place = suc (suc k); below = h; is = refl }
place_in (Permᴰ.trans p q) k h =
    let one = place_in p k h in
    let two = place_in q one.place one.below in
    record { place = two.place; below = two.below; is = two.is ∙ one.is }

among : (t u : Table) → Permᴰ t.links u.links → Among t u
among t u p = record {
  place = λ k i. (place_in p k i.below).place;
  a_link = λ k i. record { below = (place_in p k i.below).below };
  is = λ k i. (place_in p k i.below).is;
}

pub permuted_links : (t u : Table) → t.ports ≡ u.ports → Permᴰ t.links u.links → Reordered t u
permuted_links t u same p = record { ports = same; there = among t u p; back = among u t (Permᴰ.symm p) }
