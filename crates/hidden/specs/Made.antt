-- The new connections by their numbers, and whether one of them leaves its range.
use Rattle.std.specs.Prelude.{ℕ, zero, suc, ◌+◌, ◌*◌, ◌/◌, ◌%◌, ◌<◌, ◌≡◌, false, not, length, get_or}
use Rattle.std.proofs.Math.Path.{refl}
use Rattle.std.proofs.Common.{sym, ap, ◌∙◌, div-add-mod', mod-lt, lt_of_mul-lt-mul_right, arith, length-append, get_or-append-add}
use mathlib.Core.List.{List, [], ◌∷◌, map, flat_map}
use Rattle.std.proofs.lemmas.List.{length-map}
use Rattle.std.proofs.Math.ListN.{get_or-append}
use Rattle.std.proofs.lemmas.Bool.{not-false}
use Rattle.numbers.specs.Lists.{keep}
use Rattle.specification.specs.Table.{no_link}
use Rattle.specification.specs.Hiding.{none, via, via_each, link_leaves}
use Rattle.specification.specs.declared.Link.{Link}
use Rattle.hiding_laws.specs.ListLaws.{none_passes}

-- those of links xs into a port and ys out of it
abbrev pub made_from : (xs ys : List Link) → List Link
made_from xs ys = flat_map (via_each ys) xs

pub made_count : (xs ys : List Link) → length (made_from xs ys) ≡ length xs * length ys
unfolding flat_map
made_count [] ys = omega arith
made_count (x ∷ xs) ys = omega (arith, length-append (map (via x) ys) (made_from xs ys), length-map ys (via x), made_count xs ys)

-- ---- number k is that of connection k / m into the port and connection k % m out of it, where m go out
pub map_at : (f : Link → Link) (xs : List Link) (i : ℕ) → i < length xs → get_or (map f xs) i no_link ≡ f (get_or xs i no_link)
map_at f [] i h = absurd (omega arith)
map_at f (x ∷ xs) zero h = refl
map_at f (x ∷ xs) (suc i) h = map_at f xs i (omega arith)

pub pair_at : (xs ys : List Link) (i j : ℕ) → i < length xs → j < length ys
    → get_or (made_from xs ys) (i * length ys + j) no_link ≡ via (get_or xs i no_link) (get_or ys j no_link)
unfolding flat_map
pair_at [] ys i j h k = absurd (omega arith)
pair_at (x ∷ xs) ys zero j h k =
    let e : 0 * length ys + j ≡ j = omega arith in
    ap (λ (n : ℕ). get_or (made_from (x ∷ xs) ys) n no_link) e
    ∙ get_or-append (map (via x) ys) (made_from xs ys) no_link j (omega (arith, length-map ys (via x)))
    ∙ map_at (via x) ys j k
pair_at (x ∷ xs) ys (suc i) j h k =
    let e : suc i * length ys + j ≡ length (map (via x) ys) + (i * length ys + j) = omega (arith, length-map ys (via x)) in
    ap (λ (n : ℕ). get_or (made_from (x ∷ xs) ys) n no_link) e
    ∙ get_or-append-add (map (via x) ys) (made_from xs ys) (i * length ys + j) no_link
    ∙ pair_at xs ys i j (omega arith) k

pub record PairNumbers (m n k : ℕ) : Type 0 where
  pub some : 0 < n
  pub first : k / n < m
  pub second : k % n < n

pub pair_numbers : (m n k : ℕ) → k < m * n → PairNumbers m n k
pair_numbers m zero k h = absurd (omega arith)
pair_numbers m (suc n) k h = record {
  some = omega arith;
  first = lt_of_mul-lt-mul_right (suc n) (omega (arith, div-add-mod' k (suc n)));
  second = mod-lt k (omega arith);
}

pub made_at : (xs ys : List Link) (k n : ℕ) {x y m : Link} → k < length xs * length ys → n ≡ length ys
    → x ≡ get_or xs (k / n) no_link
    → y ≡ get_or ys (k % n) no_link
    → m ≡ via x y
    → m ≡ get_or (made_from xs ys) k no_link
made_at xs ys k n {x} {y} h q e f g =
    let p = pair_numbers (length xs) (length ys) k h in
    g
    ∙ ap (λ (z : Link). via z y) (rw q at e)
    ∙ ap (via (get_or xs (k / length ys) no_link)) (rw q at f)
    ∙ sym (pair_at xs ys (k / length ys) (k % length ys) p.first p.second)
    ∙ ap (λ (n : ℕ). get_or (made_from xs ys) n no_link) (div-add-mod' k (length ys))

-- where none leaves its range, each stays
pub each_stays : (xs : List Link) → not (none (keep link_leaves xs)) ≡ false → (k : ℕ) → k < length xs → link_leaves (get_or xs k no_link) ≡ false
each_stays xs e k h = none_passes link_leaves xs (not-false (none (keep link_leaves xs)) e) (record { place = k; below = h; is = refl })
