-- The numbers of one key in an order by keys.
use Rattle.std.specs.Prelude.{ℕ, zero, suc, ◌<◌, ◌≡◌, refl, List, length, get_or}
use Rattle.std.proofs.Common.{arith}
use Rattle.records.specs.WrittenLaws.{written_within}
use Rattle.order.specs.Order.{keyed, ordered}
use Rattle.order.specs.OrderLaws.{ordered_next, ordered_part, few_ordered}
use Rattle.analysis.specs.Ordered.{InOrder, begin_of, part, Inside}

module _ {keys ends order : List ℕ} {bins : ℕ} (s : InOrder keys bins ends order) where
  begin_is : (c : ℕ) → c < bins → begin_of ends c ≡ length (ordered keys (length keys) c)
  unfolding ordered
  begin_is zero low = refl
  begin_is (suc c) low = s.ends_are c (omega arith)

  pub inside : (c : ℕ) → c < bins → Inside (begin_of ends c) (get_or ends c 0) order
  inside c low = record {
    ordered = omega (arith, begin_is c low, s.ends_are c low, ordered_next keys (length keys) c);
    within = omega (arith, s.ends_are c low, few_ordered keys (length keys) (suc c), written_within s.order_is);
  }

  pub keyed_part : (c : ℕ) → c < bins → part order (begin_of ends c) (get_or ends c 0) ≡ keyed keys c (length keys)
  keyed_part c low = rw (begin_is c low, s.ends_are c low) (ordered_part keys _ order low s.order_is.contents)
