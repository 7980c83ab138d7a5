-- Right answers to one table have one number, and the same records but for which loop, floor or block is shown.
use Prim.Native.Nat.{ℕ, zero, suc, ◌≤◌}
use Rattle.std.specs.Prelude.{◌≡◌, Bool, true, false, cond, List, []}
use Rattle.std.proofs.Math.Path.{refl}
use Rattle.std.proofs.Common.{ap, le_antisymm, le_refl, arith}
use Rattle.specification.specs.Bytes.{buffer_answer}
use Rattle.specification.specs.Reading.{read_table}
use Rattle.specification.specs.Table.{Table, port_count, link_count, link, is_buffer, from, to, IsBuffer}
use Rattle.specification.specs.Bracketing.{SamePort}
use Rattle.specification.specs.Answers.{Timing, Answer, buffer_records, Enough, Consistent, AnswerOf}
use Rattle.demands.specs.Demands.{SameAnswer}
use Rattle.demands.specs.ConstraintLaws.{from_port, to_port}
use Rattle.demands.specs.Reordered.{reordered_itself}
use Rattle.demands.specs.OrderLaws.{
  TwoOrders,
  same_port,
  same_port_records,
  Pair,
  both_refused,
  both_disagreeing,
  both_overweight,
  both_blocked,
  both_no_least,
  both_consistent,
  answers_pair,
}

-- ---- two consistent answers
enough_same : {t : Table} {r r' : Timing} {k d : ℕ} → SamePort r r' (from t k) → SamePort r r' (to t k) → Enough t r k d → Enough t r' k d
enough_same f g e = record { holds = rw (← f.start, ← f.b, ← f.a, ← f.weight, ← g.start) e.holds }

module _ {t : Table} (o : TwoOrders t t) where
  fewer : {r r' : Timing} {k : ℕ} → Consistent t r → Consistent t r' → IsBuffer t k → r.size k ≤ r'.size k
  fewer {r' = r'} {k = k} h h' i =
      (h.sizes k i).fewest (r'.size k)
      (enough_same (same_port o h' h (from t k) (from_port o.one k i.a_link))
      (same_port o h' h (to t k) (to_port o.one k i.a_link)) (h'.sizes k i).enough)

  module _ {r r' : Timing} (h : Consistent t r) (h' : Consistent t r') where
    same_size : {k : ℕ} → IsBuffer t k → r.size k ≡ r'.size k
    same_size i = le_antisymm (fewer h h' i) (fewer h' h i)

    buffer_same : (n : ℕ) (b : Bool) → (b ≡ true → r.size n ≡ r'.size n)
        → cond b (buffer_answer n (r.size n)) [] ≡ cond b (buffer_answer n (r'.size n)) []
    buffer_same n true e = ap (buffer_answer n) (e refl)
    buffer_same n false e = refl

    same_buffers : (n : ℕ) → n ≤ link_count t → buffer_records t r n ≡ buffer_records t r' n
    unfolding buffer_records
    same_buffers zero m = refl
    same_buffers (suc n) m = rw (
      same_buffers n (omega arith),
      buffer_same n (is_buffer (link t n)) (λ e. same_size (record { a_link = record { below = m }; no_events = e })),
    )

-- ---- two answers
same_answer : {t : Table} {x y : Answer} → Pair t t x y → SameAnswer t x y
same_answer (both_refused n f) = record { same_number = refl; same_records = λ _ _. refl }
same_answer (both_disagreeing l m) = record { same_number = refl; same_records = λ e f. absurd (e refl) }
same_answer both_overweight = record { same_number = refl; same_records = λ e f. refl }
same_answer (both_blocked f g b c) = record { same_number = refl; same_records = λ d e. absurd (e refl) }
same_answer both_no_least = record { same_number = refl; same_records = λ e f. refl }
same_answer {t} (both_consistent o h k) = record {
  same_number = refl;
  same_records = λ e f.
      rw (
        same_port_records (port_count t) (λ p i. same_port o h k p (record { below = i })),
        same_buffers o h k (link_count t) (le_refl (link_count t)),
      );
}

pub one_answer : {s : List ℕ} {room : ℕ} {x y : Answer} → AnswerOf s room x → AnswerOf s room y → SameAnswer (read_table s).table x y
one_answer {s} h k = same_answer (answers_pair refl (reordered_itself (read_table s).table) h k)
