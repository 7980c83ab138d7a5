-- Laws of sizes: the size of a buffer is the fewest events, and it fits 64 bits.
use Rattle.std.specs.Prelude.{ℕ, ◌+◌, ◌*◌, ◌-◌, ◌^◌, ◌≤◌, ◌<◌, max, ◌≡◌, List, get_or}
use Rattle.std.proofs.Math.Logic.{⊎_elim}
use Rattle.std.proofs.Common.{mul-pos, mul-le-mul, mul-le-mul_left, div-lt_iff_lt-mul, arith, le-leb}
use Rattle.std.proofs.Math.Nat.{lt-div-mul-add}
use Rattle.std.proofs.lemmas.Bool.{lt-leb}
use Rattle.numbers.specs.ListLaws.{lt_or_le}
use Rattle.specification.specs.declared.Link.{Link}
use Rattle.specification.specs.Table.{Table, link, IsLink, IsBuffer}
use Rattle.period.specs.Component.{most_amount, most_rate}
use Rattle.specification.specs.Answers.{Size}
use Rattle.results.specs.declared.kept.Kept.{Kept}
use Rattle.results.specs.Kept.{a_at, b_at, start_at, fewest_events, size_at, PortNumbers, TableNumbers, BufferNumbers, timing_of}

-- ---- fewest events, over plain numbers
module _ (from to period : ℕ) where
  pub fewest_enough : 0 < period → from ≤ to + fewest_events from to period * period
  unfolding fewest_events
  fewest_enough some = ⊎_elim
      (λ (h : to < from). rw (lt-leb from to h) (omega (arith, lt-div-mul-add {a = from - to - 1} some)))
      (λ (h : from ≤ to). rw (le-leb from to h) (omega arith))
      (lt_or_le to from)

  pub fewest_least : (e : ℕ) → 0 < period → from ≤ to + e * period → fewest_events from to period ≤ e
  unfolding fewest_events
  fewest_least e some enough = ⊎_elim
      (λ (h : to < from). rw (lt-leb from to h) (omega (arith, (div-lt_iff_lt-mul {x = from - to - 1} {y = e} some).1 (omega arith))))
      (λ (h : from ≤ to). rw (le-leb from to h) (omega arith))
      (lt_or_le to from)

  pub fewest_most : 0 < period → fewest_events from to period ≤ from
  fewest_most some = fewest_least from some (omega (arith, mul-le-mul_left from some))

-- ---- the numbers of a buffer
-- the most of ε or a weight times a part of a period
abbrev pub most_product : ℕ
most_product = 6_400_000_000_000_000

product_most : {x y : ℕ} → x ≤ most_amount → y ≤ most_rate → x * y ≤ most_product
product_most h k = omega (arith, mul-le-mul h k)

-- the products of a buffer are small, and its sender's period is above zero
pub record BufferProducts (l : Link) (weights : List ℕ) (kept : List Kept) : Type 0 where
  pub forward : l.ticks.0 * b_at kept l.from ≤ most_product
  pub back : l.ticks.1 * b_at kept l.from ≤ most_product
  pub period_some : 0 < get_or weights l.from 0 * a_at kept l.from
  pub period_most : get_or weights l.from 0 * a_at kept l.from ≤ most_product

pub buffer_products : {l : Link} {weights : List ℕ} {kept : List Kept} → BufferNumbers l weights kept → BufferProducts l weights kept
buffer_products n = record {
  forward = product_most n.ticks_forward_lem n.sender.b_most;
  back = product_most n.ticks_back_lem n.sender.b_most;
  period_some = mul-pos n.sender.weight_some n.sender.a_some;
  period_most = product_most (omega (arith, n.sender.weight_most)) n.sender.a_most;
}

-- b above zero is what is returned of b
pub b_is : {weights : List ℕ} {kept : List Kept} {p : ℕ} → PortNumbers weights kept p → max 1 (b_at kept p) ≡ b_at kept p
b_is n = omega (arith, n.b_some)

module _ {t : Table} {weights : List ℕ} {kept : List Kept} {k : ℕ} (numbers : TableNumbers t weights kept) where
  pub buffer_numbers : IsLink t k → BufferNumbers (link t k) weights kept
  buffer_numbers i =
      let fits = numbers.well_formed.links k i.below in
      record {
        long = numbers.long;
        sender = numbers.each _ (record { below = fits.from });
        receiver = numbers.each _ (record { below = fits.to });
        ticks_forward_lem = fits.ticks_forward_lem;
        ticks_back_lem = fits.ticks_back_lem;
      }

  module _ (buffer : IsBuffer t k) where
    pub size_is : Size t (timing_of t weights kept) k ((timing_of t weights kept).size k)
    size_is =
        let n = buffer_numbers buffer.a_link in
        let some = (buffer_products n).period_some in
        let b = b_is n.sender in
        record {
          enough = record { holds = rw b (fewest_enough _ _ _ some) };
          fewest = λ e h. fewest_least _ _ _ e some (rw b at h.holds);
        }

    pub size_small : size_at (link t k) weights kept < 2 ^ 64
    size_small =
        let n = buffer_numbers buffer.a_link in
        let products = buffer_products n in
        let l = link t k in
        let most : size_at l weights kept ≤ start_at kept l.from + l.ticks.0 * b_at kept l.from = fewest_most _ _ _ products.period_some in
        omega (arith, products.forward, n.sender.start_most)
