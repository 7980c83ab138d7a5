-- One pair after the other, of a connection into the port and one out of it: whether a new connection so far leaves its range.
use Rattle.std.specs.Prelude.{ℕ, ◌+◌, ◌*◌, ◌/◌, ◌%◌, ◌≤◌, ◌<◌, ◌≡◌, true, false, not, length, get_or}
use Rattle.std.proofs.Common.{refl, ⊎_elim, mul-le-mul_right, arith}
use mathlib.Core.List.{List}
use Rattle.numbers.specs.Lists.{keep}
use Rattle.numbers.specs.ListLaws.{lt_or_le}
use Rattle.specification.specs.Table.{no_link}
use Rattle.specification.specs.Hiding.{none, via, link_leaves}
use Rattle.specification.specs.declared.Link.{Link}
use Rattle.hidden.specs.Any.{one_passes, none_passes}
use Rattle.hidden.specs.Made.{made_from, made_count, pair_at, pair_numbers, made_at}

module _ (xs ys : List Link) where
  abbrev pair : (i j : ℕ) → Link
  pair i j = via (get_or xs i no_link) (get_or ys j no_link)

  -- none of the pairs of the first i leaves its range, and none of the first j pairs of the next
  pub record NoneSoFar (i j : ℕ) : Type 0 where
    pub rows : (a b : ℕ) → a < i → b < length ys → link_leaves (pair a b) ≡ false
    pub row : (b : ℕ) → b < j → link_leaves (pair i b) ≡ false

  pub none_at_first : NoneSoFar 0 0
  none_at_first = record { rows = λ a b h k. absurd (omega arith); row = λ b h. absurd (omega arith) }

  module _ {i j : ℕ} (f : NoneSoFar i j) where
    pub none_on : {x y m : Link} → x ≡ get_or xs i no_link → y ≡ get_or ys j no_link → m ≡ via x y → link_leaves m ≡ false → NoneSoFar i (j + 1)
    none_on e g h stays = record {
      rows = f.rows;
      row = λ b q. ⊎_elim (λ (p : b < j). f.row b p) (λ (p : j ≤ b). last b (omega (arith, p, q))) (lt_or_le b j);
    }
      where
        last : (b : ℕ) → b ≡ j → link_leaves (pair i b) ≡ false
        last b q = rw (q, ← e, ← g, ← h) stays

    pub none_next : length ys ≤ j → NoneSoFar (i + 1) 0
    none_next h = record {
      rows = λ a b p q. ⊎_elim (λ (r : a < i). f.rows a b r q) (λ (r : i ≤ a). here a b (omega (arith, p, r)) (omega (arith, q, h))) (lt_or_le a i);
      row = λ b h. absurd (omega arith);
    }
      where
        here : (a b : ℕ) → a ≡ i → b < j → link_leaves (pair a b) ≡ false
        here a b e q = rw e (f.row b q)

    -- a pair that leaves its range
    pub one_leaves : {x y m : Link} → i < length xs → j < length ys → x ≡ get_or xs i no_link → y ≡ get_or ys j no_link → m ≡ via x y
        → link_leaves m ≡ true
        → not (none (keep link_leaves (made_from xs ys))) ≡ true
    one_leaves p q e g h leaves =
        let row_within : i + 1 ≤ length xs = omega (arith, p) in
        one_passes link_leaves (made_from xs ys) {k = i * length ys + j} (omega (arith, made_count xs ys, mul-le-mul_right (length ys) row_within, q))
        (rw (pair_at xs ys i j p q, ← e, ← g, ← h) leaves)

    pub none_leave : length xs ≤ i → not (none (keep link_leaves (made_from xs ys))) ≡ false
    none_leave h = none_passes link_leaves (made_from xs ys) (λ k p. stays k (omega (arith, p, made_count xs ys)))
      where
        stays : (k : ℕ) → k < length xs * length ys → link_leaves (get_or (made_from xs ys) k no_link) ≡ false
        stays k p =
            let w = pair_numbers (length xs) (length ys) k p in
            rw (← made_at xs ys k (length ys) p refl refl refl refl) (f.rows (k / length ys) (k % length ys) (omega (arith, w.first, h)) w.second)
