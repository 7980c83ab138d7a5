-- What the promise of hiding means to a caller: the numbers in their order, that the times of the other ports are kept, and which port numbers
-- and rooms decide nothing.
use Rattle.std.specs.Prelude.{ℕ, ◌≤◌, ◌<◌, ◌≡◌, refl, Bool, true, false, cond, ◌≢◌, List, [], eqb, ltb}
use Rattle.std.proofs.Common.{sym, ap, ◌∙◌, subst, ⊎_elim, arith}
use Rattle.std.proofs.Math.Decide.{ℕ_discrete}
use Rattle.std.proofs.Math.ListN.{length}
use borrow.Author.Tests.{eqb-true, eq-eqb, ne_eqb, ltb-false, lt-ltb, le-ltb, le-leb}
use Rattle.numbers.specs.ListLaws.{lt_or_le}
use Rattle.specification.specs.Bytes.{Written}
use Rattle.specification.specs.Table.{Table, port_count, link_count, link, most_ports, most_links}
use Rattle.specification.specs.Reading.{read_table, read_on, start}
use Rattle.specification.specs.Answers.{Timing, Answer, refused, disagreeing, overweight, blocked, no_least, consistent, number, Right, least_room, AnswerOf}
use Rattle.specification.specs.Encoding.{encode_table, most_table_bytes}
use Rattle.specification.specs.Hiding.{cannot_hide, value_leaves, links_after, hidden_table, Hide, hide_in, hide_into, HideReturned}
use Rattle.specification.specs.HiddenTimes.{ConsistentModel, HideNumbers, own, no_hiding, leaves, many, short, hidden, TimesKept, HideDemanded}
use Rattle.specification.specs.declared.Outcome.{Outcome}
use Rattle.table.specs.WellFormed.{OneSided, WellFormed}
use Rattle.table.specs.ReadingLaws.{read_on_fits}
use Rattle.table.specs.FaultLaws.{fault_number}
use Rattle.records.specs.WrittenLaws.{written_front, written_length, written_rest, written_nothing}
use Rattle.encoding.specs.ReadBack.{read_back, table_read_back, some_port_read}
use Rattle.demands.specs.AnswerCases as cases
use Rattle.hiding_laws.specs.SameTimes.{same_solutions}
use Rattle.hiding_laws.specs.IsHidden.{is_hidden}
use Rattle.hiding_laws.specs.HiddenFits.{hidden_writable, some_left, hidden_formed, hidden_most}
use Rattle.hiding_laws.specs.NumberKept.{number_kept, times_kept}

-- what is read is one-sided
read_sided : (s : List ℕ) (k : ℕ) → k < link_count (read_table s).table → OneSided (link (read_table s).table k)
unfolding read_table
read_sided s k h = (read_on_fits s start).sided k h

-- a right answer whose number is 0 is a consistent model's
pub record ConsistentAnswer (x : Answer) : Type 0 where
  pub timing : Timing
  pub is : x ≡ consistent timing

consistent_answer : (t : Table) (x : Answer) → Right t x → number x ≡ 0 → ConsistentAnswer x
consistent_answer t (refused n) r e = absurd r
consistent_answer t (disagreeing loop) r e = absurd (omega (arith, e))
consistent_answer t overweight r e = absurd (omega (arith, e))
consistent_answer t (blocked floor block) r e = absurd (omega (arith, e))
consistent_answer t no_least r e = absurd (omega (arith, e))
consistent_answer t (consistent r) k e = record { timing = r; is = refl }

-- a table that is read as such has the right answers of the table
read_right : {s : List ℕ} {x : Answer} → (read_table s).number ≡ 0 → AnswerOf s least_room x → Right (read_table s).table x
read_right e a = a.right (omega arith) e

-- no right answer has number 16
own_number : {s : List ℕ} {x : Answer} → AnswerOf s least_room x → number x ≢ 16
own_number {s} a e = by (cases.answer_case a) e
  where
    formed_number : (t : Table) (y : Answer) → Right t y → number y ≢ 16
    formed_number t (refused n) r z = absurd r
    formed_number t (disagreeing loop) r z = omega (arith, z)
    formed_number t overweight r z = omega (arith, z)
    formed_number t (blocked floor block) r z = omega (arith, z)
    formed_number t no_least r z = omega (arith, z)
    formed_number t (consistent r) k z = omega (arith, z)

    by : {y : Answer} → cases.AnswerCase s least_room y → number y ≢ 16
    by (cases.short h) z = omega (arith, z)
    by (cases.faulty h f) z = omega (arith, z, (fault_number s f).most)
    by {y} (cases.formed h f formed right) z = formed_number (read_table s).table y right z

-- a table that is read without a fault, and whose model is consistent
record ConsistentTable (s : List ℕ) : Type 0 where
  no_fault : (read_table s).number ≡ 0
  formed : WellFormed (read_table s).table
  consistent : ConsistentModel s

consistent_table : {s : List ℕ} {x : Answer} → AnswerOf s least_room x → number x ≡ 0 → ConsistentTable s
consistent_table {s} {x} a e = by (cases.answer_case a) a e
  where
    by : {y : Answer} → cases.AnswerCase s least_room y → AnswerOf s least_room y → number y ≡ 0 → ConsistentTable s
    by (cases.short h) b z = absurd (omega arith)
    by (cases.faulty h f) b z = absurd (f z)
    by {y} (cases.formed h f formed right) b z =
        let c = consistent_answer (read_table s).table y right z in
        record { no_fault = f; formed = formed; consistent = record { timing = c.timing; right = subst (AnswerOf s least_room) c.is b } }

module _ (s : List ℕ) (p : ℕ) {before after : List ℕ} {r : Outcome} where
  -- a refusal
  refused_demanded : {n place : ℕ} → HideNumbers s p (length before) n place → n ≢ 0 → (most_table_bytes ≤ length before → n ≢ 16)
      → r.number ≡ n
      → r.place ≡ place
      → Written [] before after r.written
      → HideDemanded s p before after r
  refused_demanded numbers some room e f w =
      let none = written_nothing refl w in
      record {
        numbers = rw (e, f) numbers;
        room = λ h z. room h (sym e ∙ z);
        refused = λ _. none;
        read_back = λ z. absurd (some (sym e ∙ z));
        same_length = ap length none.unchanged;
        rest = rw none.unchanged refl;
        solutions = λ z. absurd (some (sym e ∙ z));
        kept = λ z. absurd (some (sym e ∙ z));
      }

-- the hidden table
module _ (s : List ℕ) (p : ℕ) (model : ConsistentTable s) (can : cannot_hide (read_table s).table p ≡ false) (stays : value_leaves (read_table s).table p ≡ false)
    (few : length (links_after (read_table s).table p) ≤ most_links) where
  formed' : WellFormed (hidden_table (read_table s).table p)
  formed' = hidden_formed (read_table s).table p model.formed (read_sided s) can stays few

  kept_times : TimesKept s p (encode_table (hidden_table (read_table s).table p))
  kept_times =
      let w = hidden_writable (read_table s).table p model.formed (read_sided s) can stays few in
      let same = table_read_back w in
      let no_fault = some_port_read w (some_left (read_table s).table p model.formed (read_sided s) can stays few) in
      let is = is_hidden (read_table s).table p model.formed can in
      record {
        number_kept = λ x a.
            number_kept model.formed formed' is (read_right model.no_fault model.consistent.right) x
            (subst (λ (u : Table). Right u x) same (read_right no_fault a));
        times = λ q q' a b.
            times_kept model.formed formed' is (read_right model.no_fault a)
            (subst (λ (u : Table). Right u (consistent q')) same (read_right no_fault b));
      }

  hidden_demanded : {before after : List ℕ} {r : Outcome} → length (encode_table (hidden_table (read_table s).table p)) ≤ length before → r.number ≡ 0
      → r.place ≡ 0
      → Written (encode_table (hidden_table (read_table s).table p)) before after r.written
      → HideDemanded s p before after r
  hidden_demanded fits e f w =
      let front = written_front w in
      record {
        numbers = rw (e, f) (hidden model.consistent can stays few fits);
        room = λ h z. omega (arith, e, z);
        refused = λ z. absurd (z e);
        read_back = λ _. ap (λ (xs : List ℕ). read_on xs start) front
            ∙ read_back start (hidden_table (read_table s).table p) (hidden_writable (read_table s).table p model.formed (read_sided s) can stays few);
        same_length = written_length w fits;
        rest = written_rest w;
        solutions = λ _. same_solutions model.formed formed' (is_hidden (read_table s).table p model.formed can);
        kept = λ _. subst (TimesKept s p) (sym front) kept_times;
      }

pub hide_demanded : {s : List ℕ} {p : ℕ} {before after : List ℕ} {r : Outcome} → HideReturned s p before after r → HideDemanded s p before after r
unfolding hide_into hide_in
hide_demanded {s} {p} {before} {after} {r} h = own_or (ℕ_discrete (number h.answer) 0)
  where
    t : Table
    t = (read_table s).table

    room_or : ConsistentTable s → (can : cannot_hide t p ≡ false) → (stays : value_leaves t p ≡ false) → (few : length (links_after t p) ≤ most_links)
        → number h.answer ≡ 0
        → HideDemanded s p before after r
    room_or model can stays few z = ⊎_elim
        (λ (l : length before < length (encode_table (hidden_table t p))).
        let a = eq-eqb (number h.answer) 0 z in
        let b = le-ltb most_links (length (links_after t p)) few in
        let d = lt-ltb (length before) (length (encode_table (hidden_table t p))) l in
        refused_demanded s p (short model.consistent can stays few l) (λ e. omega (arith, e))
        (λ k e. omega (arith, l, hidden_most t p model.formed (read_sided s) can stays few))
        (rw (a, can, stays, b, d) at h.number_is)
        (rw (a, can, stays, b, d) at h.place_is)
        (rw (a, can, stays, b, d) at h.table_is))
        (λ (l : length (encode_table (hidden_table t p)) ≤ length before).
        let a = eq-eqb (number h.answer) 0 z in
        let b = le-ltb most_links (length (links_after t p)) few in
        let d = le-ltb (length before) (length (encode_table (hidden_table t p))) l in
        hidden_demanded s p model can stays few l
        (rw (a, can, stays, b, d) at h.number_is)
        (rw (a, can, stays, b, d) at h.place_is)
        (rw (a, can, stays, b, d) at h.table_is))
        (lt_or_le (length before) (length (encode_table (hidden_table t p))))

    many_or : ConsistentTable s → (can : cannot_hide t p ≡ false) → (stays : value_leaves t p ≡ false) → number h.answer ≡ 0 → HideDemanded s p before after r
    many_or model can stays z = ⊎_elim
        (λ (l : most_links < length (links_after t p)).
        let a = eq-eqb (number h.answer) 0 z in
        let b = lt-ltb most_links (length (links_after t p)) l in
        refused_demanded s p (many model.consistent can stays l) (λ e. omega (arith, e)) (λ k e. omega (arith, e))
        (rw (a, can, stays, b) at h.number_is) (rw (a, can, stays, b) at h.place_is) (rw (a, can, stays, b) at h.table_is))
        (λ (l : length (links_after t p) ≤ most_links). room_or model can stays l z)
        (lt_or_le most_links (length (links_after t p)))

    leaves_or : (b : Bool) → value_leaves t p ≡ b → ConsistentTable s → cannot_hide t p ≡ false → number h.answer ≡ 0 → HideDemanded s p before after r
    leaves_or true e model can z =
        let a = eq-eqb (number h.answer) 0 z in
        refused_demanded s p (leaves model.consistent can e) (λ k. omega (arith, k)) (λ k d. omega (arith, d))
        (rw (a, can, e) at h.number_is) (rw (a, can, e) at h.place_is) (rw (a, can, e) at h.table_is)
    leaves_or false e model can z = many_or model can e z

    hides_or : (b : Bool) → cannot_hide t p ≡ b → ConsistentTable s → number h.answer ≡ 0 → HideDemanded s p before after r
    hides_or true e model z =
        let a = eq-eqb (number h.answer) 0 z in
        refused_demanded s p (no_hiding model.consistent e) (λ k. omega (arith, k)) (λ k d. omega (arith, d))
        (rw (a, e) at h.number_is) (rw (a, e) at h.place_is) (rw (a, e) at h.table_is)
    hides_or false e model z = leaves_or (value_leaves t p) refl model e z

    own_or : Dec (number h.answer ≡ 0) → HideDemanded s p before after r
    own_or (yes z) = hides_or (cannot_hide t p) refl (consistent_table h.right z) z
    own_or (no d) =
        let a = ne_eqb (number h.answer) 0 d in
        refused_demanded s p (own h.answer h.right d) d (λ _. own_number h.right) (rw a at h.number_is) (rw a at h.place_is) (rw a at h.table_is)

-- ---- what decides nothing
same_but : (b : Bool) {h h' k k' : Hide} → (b ≡ true → h ≡ h') → (b ≡ false → k ≡ k') → cond b h k ≡ cond b h' k'
same_but true f g = f refl
same_but false f g = g refl

module _ (s : List ℕ) (x : Answer) where
  no_port_lem : (p : ℕ) → most_ports ≤ p → cannot_hide (read_table s).table p ≡ true
  unfolding read_table cannot_hide
  no_port_lem p h = rw (le-leb (port_count (read_table s).table) p (omega (arith, (read_on_fits s start).few_ports (omega arith))))

  -- port numbers from 64 on are alike: no table has such a port
  pub hide_beyond : (p q room : ℕ) → most_ports ≤ p → most_ports ≤ q → hide_into s x p room ≡ hide_into s x q room
  unfolding hide_into hide_in
  hide_beyond p q room h k = rw (no_port_lem p h, no_port_lem q k)

  -- a buffer for the longest table is long enough
  pub hide_fits : AnswerOf s least_room x → (p room : ℕ) → most_table_bytes ≤ room → hide_into s x p room ≡ hide_into s x p most_table_bytes
  unfolding hide_into hide_in
  hide_fits right p room h =
      let t = (read_table s).table in
      let bytes = length (encode_table (hidden_table t p)) in
      same_but (eqb (number x) 0)
      (λ z. same_but (cannot_hide t p) (λ _. refl)
      (λ can. same_but (value_leaves t p) (λ _. refl)
      (λ stays. same_but (ltb most_links (length (links_after t p))) (λ _. refl)
      (λ few.
      let formed = (consistent_table right (eqb-true (number x) 0 z)).formed in
      let most = hidden_most t p formed (read_sided s) can stays (ltb-false most_links (length (links_after t p)) few) in
      rw (le-ltb room bytes (omega arith), le-ltb most_table_bytes bytes most)))))
      (λ _. refl)
