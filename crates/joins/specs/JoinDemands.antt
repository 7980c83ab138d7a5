-- From the promise of the join follows what a caller is told.
use Rattle.std.specs.Prelude.{ℕ, ◌≤◌, ◌<◌, ◌≡◌, refl, ◌≢◌, List, [], length}
use Rattle.std.proofs.Common.{sym, ap, ◌∙◌, ⊎_elim, arith, lt-ltb, le-ltb}
use Rattle.std.proofs.Math.Decide.{ℕ_discrete}
use Rattle.numbers.specs.ListLaws.{lt_or_le}
use Rattle.specification.specs.Reading.{start}
use Rattle.specification.specs.Encoding.{encode_table, most_table_bytes}
use Rattle.specification.specs.Joining.{joined_table, Join, refusal, joined, join_of, fitted, join_into, JoinReturned, JoinNumbers, faulty, short, enough, JoinDemanded}
use Rattle.records.specs.WrittenLaws.{written_front, written_length, written_rest, written_nothing}
use Rattle.encoding.specs.ReadBack.{read_back}
use Rattle.joins.specs.JoinedLaws.{joined_writable, joined_most}
use Rattle.joins.specs.JoinCases.{fitted_none, join_refused, join_done}
use Rattle.joins.specs.InputFaults.{join_fault, join_no_fault, input_fault_listed}
use Rattle.specification.specs.declared.JoinOutcome.{JoinOutcome}

-- ---- by the room
fitted_short : (table : List ℕ) (room : ℕ) → room < length table → fitted (joined table) room ≡ refusal 16 0 0
unfolding fitted
fitted_short table room h = rw (lt-ltb room (length table) h)

fitted_whole : (table : List ℕ) (room : ℕ) → length table ≤ room → fitted (joined table) room ≡ joined table
unfolding fitted
fitted_whole table room h = rw (le-ltb room (length table) h)

module _ (first second added : List ℕ) (room : ℕ) where
  abbrev bytes : List ℕ
  bytes = encode_table (joined_table first second added)

  -- a refusal without bytes, or the bytes of the joined table
  data Into (j : Join) : Type 0 where
    refused : j.number ≢ 0 → j.table ≡ [] → JoinNumbers first second added room j.number j.place j.input → Into j
    whole : j.number ≡ 0 → j.table ≡ bytes → length bytes ≤ room → JoinNumbers first second added room j.number j.place j.input → Into j

  into : Into (join_into first second added room)
  into = by (ℕ_discrete (join_of first second added).number 0)
    where
      by : Dec ((join_of first second added).number ≡ 0) → Into (join_into first second added room)
      by (no f) =
          let none = join_refused first second added f in
          rw (fitted_none (join_of first second added) room none) (refused f none (faulty (join_fault first second added f)))
      by (yes z) =
          let done = join_done first second added z in
          let none = join_no_fault first second added z in
          ⊎_elim
          (λ (h : room < length bytes). rw (done, fitted_short bytes room h) (refused (λ e. omega (arith, e)) refl (short none h)))
          (λ (h : length bytes ≤ room). rw (done, fitted_whole bytes room h) (whole refl refl h (enough none h)))
          (lt_or_le room (length bytes))

  not_short : {n p i : ℕ} → JoinNumbers first second added room n p i → most_table_bytes ≤ room → n ≢ 16
  not_short (faulty f) h e = omega (arith, (input_fault_listed first second added f).most, e)
  not_short (short _ k) h e = omega (arith, k, joined_most first second added)
  not_short (enough _ _) h e = omega (arith, e)

module _ {first second added before after : List ℕ} {r : JoinOutcome} where
  pub join_demanded : JoinReturned (join_into first second added (length before)) before after r → JoinDemanded first second added before after r
  join_demanded w = by (join_into first second added (length before)) (into first second added (length before)) w
    where
      by : (j : Join) → Into first second added (length before) j → JoinReturned j before after r → JoinDemanded first second added before after r
      by j (refused f none numbers) w = record {
        numbers = rw (w.number_is, w.place_is, w.input_is) numbers;
        room = λ h. rw w.number_is (not_short first second added (length before) numbers h);
        refused = λ _. written_nothing none w.table_is;
        read_back = λ e. absurd (f (sym w.number_is ∙ e));
        same_length = written_length w.table_is (omega (arith, ap length none));
        rest = written_rest w.table_is;
      }
      by j (whole number e fits numbers) w = record {
        numbers = rw (w.number_is, w.place_is, w.input_is) numbers;
        room = λ h. rw w.number_is (not_short first second added (length before) numbers h);
        refused = λ f. absurd (f (w.number_is ∙ number));
        read_back = λ _. rw (written_front w.table_is, e) (read_back start (joined_table first second added) (joined_writable first second added));
        same_length = written_length w.table_is (omega (arith, ap length e));
        rest = written_rest w.table_is;
      }
