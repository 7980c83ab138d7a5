-- Calls of the analysis on both ways of bracketing return the same, and write the same records of the ports.
use Rattle.std.specs.Prelude.{ℕ, ◌*◌, ◌≡◌, List, ◌++◌, length, take, drop}
use Rattle.std.proofs.Common.{sym, ap, ◌∙◌, append_assoc, arith, take_at}
use Rattle.specification.specs.Bytes.{port_bytes, Written}
use Rattle.specification.specs.Table.{Table, port_count, link_count}
use Rattle.specification.specs.Reading.{read_on, start, read_table}
use Rattle.specification.specs.Answers.{Timing, Answer, number, port_records, buffer_records, records, answer_place}
use Rattle.specification.specs.Analysed.{Analysed}
use Rattle.specification.specs.Bracketing.{Three, join_left, join_right, SameCalls}
use Rattle.table.specs.FaultLaws.{no_fault_place, answer_no_place}
use Rattle.demands.specs.Room.{port_records_lem}
use Rattle.demands.specs.OrderLaws.{same_port, same_port_records, Pair, both_refused, both_disagreeing, both_overweight, both_blocked, both_no_least, both_consistent}
use Rattle.bracketing.specs.Brackets.{brackets}
use Rattle.bracketing.specs.BracketedAnswers.{bracketed_pair, bracketed_answers}
use Rattle.specification.specs.declared.Outcome.{Outcome}

-- the records of the ports stand at the front
front : (t : Table) (r : Timing) {before after : List ℕ} {n : ℕ} → Written (port_records r (port_count t) ++ buffer_records t r (link_count t)) before after n
    → take (port_bytes * port_count t) after ≡ port_records r (port_count t)
front t r {before} w =
    let ps = port_records r (port_count t) in
    let bs = buffer_records t r (link_count t) in
    rw (w.contents, append_assoc ps bs (drop (length (ps ++ bs)) before)) (take_at ps _ (port_bytes * port_count t) (port_records_lem r (port_count t)))

same_front : {t u : Table} {x y : Answer} {before after before' after' : List ℕ} {n n' : ℕ} → Pair t u x y → number x ≡ 0
    → Written (records t x) before after n
    → Written (records u y) before' after' n'
    → take (port_bytes * port_count t) after ≡ take (port_bytes * port_count t) after'
same_front (both_refused n f) z w w' = absurd (f z)
same_front (both_disagreeing l m) z w w' = absurd (omega (arith, z))
same_front both_overweight z w w' = absurd (omega (arith, z))
same_front (both_blocked f g b c) z w w' = absurd (omega (arith, z))
same_front both_no_least z w w' = absurd (omega (arith, z))
same_front {t} {u} (both_consistent {r = r} {r' = r'} o h k) z w w' =
    let count = ap length o.same.ports in
    front t r w ∙ same_port_records (port_count t) (λ p i. same_port o h k p (record { below = i })) ∙ rw count (sym (front u r' w'))

-- a table without a fault has no place
no_place : (s : List ℕ) (room : ℕ) → (read_on s start).number ≡ 0 → answer_place s room ≡ 0
unfolding read_table
no_place s room e = answer_no_place s room (no_fault_place s start e)

pub bracketed_calls : (a b c d : List ℕ) → Three a b c d → {before after before' after' : List ℕ} {r r' : Outcome} → length before ≡ length before'
    → Analysed (join_left a b c d).table before after r
    → Analysed (join_right a b c d).table before' after' r'
    → SameCalls (port_count (read_table (join_left a b c d).table).table) after after' r r'
bracketed_calls a b c d three {before} room h h' =
    let same = brackets a b c d three in
    let right' = rw (← room) at h'.right in
    record {
      number = h.number_is ∙ (bracketed_answers a b c d three h.right right').same_number ∙ sym h'.number_is;
      place = h.place_is ∙ no_place (join_left a b c d).table _ same.left_read ∙ sym (h'.place_is ∙ no_place (join_right a b c d).table _ same.right_read);
      port_records_lem = λ z. same_front (bracketed_pair a b c d three h.right right') (sym h.number_is ∙ z) h.records_are h'.records_are;
    }
