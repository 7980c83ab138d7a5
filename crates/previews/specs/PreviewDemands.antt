-- From the promise of the preview follows what a caller is told.
use Rattle.std.specs.Prelude.{ℕ, ◌≤◌, ◌≡◌, ◌≢◌, List, length}
use Rattle.std.proofs.Common.{sym, ap, ◌∙◌, pos_of_ne-zero, arith}
use Rattle.std.proofs.Math.Decide.{ℕ_discrete}
use Rattle.specification.specs.Table.{Table, port_count}
use Rattle.specification.specs.Reading.{start, read_table}
use Rattle.specification.specs.Encoding.{encode_table}
use Rattle.specification.specs.Answers.{Answer, refused, disagreeing, overweight, blocked, no_least, consistent, number, Right, least_room, answer_place}
use Rattle.specification.specs.Analysed.{Analysed}
use Rattle.specification.specs.Joining.{joined_table, Join, join_of, join_into, JoinReturned, NoFault}
use Rattle.specification.specs.Previewing.{analysis_of, Previewed, PreviewNumbers, faulty, short, no_port_lem, right, PreviewDemanded}
use Rattle.table.specs.FaultLaws.{answer_no_place}
use Rattle.records.specs.WrittenLaws.{written_front, written_rest, written_within, written_nothing}
use Rattle.encoding.specs.ReadBack.{Writable, read_back, table_read_back, no_fault_read, no_port_read, some_port_read}
use Rattle.joins.specs.JoinedLaws.{joined_writable}
use Rattle.joins.specs.JoinCases.{fitted_none, fitted_same, join_refused, join_done}
use Rattle.joins.specs.InputFaults.{join_fault, join_no_fault, input_fault_listed}
use Rattle.demands.specs.AnswerCases.{AnswerCase, short as short_case, faulty as faulty_case, formed as formed_case, answer_case}
use Rattle.analysis.specs.DemandedLaws.{demanded}
use Rattle.specification.specs.declared.JoinOutcome.{JoinOutcome}

-- a right answer to a table has not the number of a join
not_sixteen : (t : Table) (x : Answer) → Right t x → number x ≢ 16
not_sixteen t (refused n) i e = absurd i
not_sixteen t (disagreeing loop) i e = omega (arith, e)
not_sixteen t overweight i e = omega (arith, e)
not_sixteen t (blocked floor block) i e = omega (arith, e)
not_sixteen t no_least i e = omega (arith, e)
not_sixteen t (consistent timing) i e = omega (arith, e)

module _ (first second added : List ℕ) where
  abbrev t : Table
  t = joined_table first second added

  abbrev bytes : List ℕ
  bytes = encode_table t

  -- ---- the analysis of the joined bytes
  no_place : (room : ℕ) → answer_place bytes room ≡ 0
  no_place room = answer_no_place bytes room (rw (no_fault_read (joined_writable first second added)))

  module _ (none : NoFault first second added) (room : ℕ) where
    w : Writable start t
    w = joined_writable first second added

    -- the only fault that the joined bytes can have
    without_port : least_room ≤ room → (read_table bytes).number ≢ 0 → Dec (port_count t ≡ 0)
        → PreviewNumbers first second added room (read_table bytes).number 0 0
    without_port l f (yes e) = rw (no_port_read w e) (no_port_lem none l e)
    without_port l f (no g) = absurd (f (some_port_read w (pos_of_ne-zero g)))

    numbered : {x : Answer} → AnswerCase bytes room x → PreviewNumbers first second added room (number x) 0 0
    numbered (short_case l) = short none l
    numbered (faulty_case l f) = without_port l f (ℕ_discrete (port_count t) 0)
    numbered {x} (formed_case l z g i) =
        let is = table_read_back w in
        right x none l (rw is at g.some_port_lem) (rw is at i)

  -- by the fields of what is returned
  returned_as : {room n p i n' p' i' : ℕ} → n' ≡ n → p' ≡ p → i' ≡ i → PreviewNumbers first second added room n p i
      → PreviewNumbers first second added room n' p' i'
  returned_as number place input h = rw (number, place, input) h

  not_short : {room n p i : ℕ} → PreviewNumbers first second added room n p i → n ≢ 16
  not_short (faulty f) e = omega (arith, (input_fault_listed first second added f).most, e)
  not_short (short _ _) e = omega (arith, e)
  not_short (no_port_lem _ _ _) e = omega (arith, e)
  not_short (right x _ _ _ i) e = not_sixteen t x i e

module _ {first second added before after : List ℕ} {r : JoinOutcome} (h : Previewed first second added before after r) where
  -- ---- an input has a fault
  module _ (f : (join_of first second added).number ≢ 0) where
    refusal_demanded : PreviewDemanded first second added before after r
    refusal_demanded =
        let w = h.refused f in
        let none = join_refused first second added f in
        let nothing = written_nothing none w.table_is in
        let fault = join_fault first second added f in
        let same : (copy : List ℕ) → join_into first second added (length copy) ≡ join_of first second added = λ copy. fitted_none (join_of first second added) (length copy) none in
        record {
          numbers = returned_as first second added w.number_is w.place_is w.input_is (faulty fault);
          never_short = λ e. omega (arith, w.number_is, (input_fault_listed first second added fault).most, e);
          refused = λ _. nothing;
          demands = λ z. absurd (f z);
          read_back = λ z. absurd (f z);
          room = omega (arith, nothing.none);
          same_length = ap length nothing.unchanged;
          rest = written_rest w.table_is;
          as_refused = λ copy copy' j k _ _.
              let is = ap (λ (x : Join). x.number) (same copy) in
              record {
                number = w.number_is ∙ sym (k.number_is ∙ is);
                place = w.place_is ∙ sym (k.place_is ∙ ap (λ (x : Join). x.place) (same copy));
                input = w.input_is ∙ sym (k.input_is ∙ ap (λ (x : Join). x.input) (same copy));
              };
          as_analysed = λ copy copy' after' j o k z a. absurd (f (sym (k.number_is ∙ ap (λ (x : Join). x.number) (same copy)) ∙ z));
        }

  -- ---- no input has a fault
  module _ (z : (join_of first second added).number ≡ 0) where
    a : Analysed (join_of first second added).table before after (analysis_of r)
    a = h.analysed z

    joined_bytes : (join_of first second added).table ≡ encode_table (joined_table first second added)
    joined_bytes = ap (λ (j : Join). j.table) (join_done first second added z)

    numbers_are : PreviewNumbers first second added (length before) r.number r.place r.input
    numbers_are =
        let c = rw joined_bytes at (answer_case a.right) in
        let place = a.place_is ∙ ap (λ (s : List ℕ). answer_place s (length before)) joined_bytes ∙ no_place first second added (length before) in
        returned_as first second added a.number_is place (h.no_input z) (numbered first second added (join_no_fault first second added z) (length before) c)

    -- a join into a copy that has room
    copied : (copy copy' : List ℕ) (j : JoinOutcome) → JoinReturned (join_into first second added (length copy)) copy copy' j → j.number ≢ 16
        → JoinReturned (join_of first second added) copy copy' j
    copied copy copy' j k f = rw (fitted_same (join_of first second added) (length copy) (λ e. f (k.number_is ∙ e))) at k

    analysis_demanded : PreviewDemanded first second added before after r
    analysis_demanded =
        let d = demanded a in
        record {
          numbers = numbers_are;
          never_short = not_short first second added numbers_are;
          refused = λ f. absurd (f z);
          demands = λ _. d;
          read_back = λ _. rw joined_bytes (read_back start (joined_table first second added) (joined_writable first second added));
          room = d.room;
          same_length = d.same_length;
          rest = d.rest;
          as_refused = λ copy copy' j k f g. absurd (f ((copied copy copy' j k g).number_is ∙ z));
          as_analysed = λ copy copy' after' j o k e b.
              let same = written_front (copied copy copy' j k (λ g. omega (arith, e, g))).table_is in
              let b' = rw same at b in
              let n = d.one_number after' o b' in
              record {
                number = sym n.0;
                place = sym n.1;
                written = λ f g. sym (d.one_answer after' o b' f g).0;
                bytes = λ f g. sym (d.one_answer after' o b' f g).1;
              };
        }

  pub preview_demanded : PreviewDemanded first second added before after r
  preview_demanded = by (ℕ_discrete (join_of first second added).number 0)
    where
      by : Dec ((join_of first second added).number ≡ 0) → PreviewDemanded first second added before after r
      by (yes z) = analysis_demanded z
      by (no f) = refusal_demanded f

  -- what is written lies within the answer buffer
  pub preview_within : r.written ≤ length after
  preview_within = by (ℕ_discrete (join_of first second added).number 0)
    where
      by : Dec ((join_of first second added).number ≡ 0) → r.written ≤ length after
      by (yes z) = written_within (h.analysed z).records_are
      by (no f) = written_within (h.refused f).table_is
