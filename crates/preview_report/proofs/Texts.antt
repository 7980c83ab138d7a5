-- The text of a preview, by whether the files were read whole.
use Prim.Native.Nat.{ℕ, ◌≤◌}
use mathlib.Core.Path.{◌≡◌, sym, ◌∙◌}
use mathlib.Core.Logic.{◌≢◌}
use mathlib.Core.Bool.{Bool, false, true≢false}
use mathlib.Core.List.{List, append-nil}
use native.Mathlib.Decide.{ℕ_discrete}
use lib.ListN.{length, take}
use borrow.Author.Tests.{eq-eqb, ne_eqb}
use Rattle.specification.specs.Bytes.{Written}
use Rattle.specification.specs.Answers.{least_room}
use Rattle.specification.specs.Joining.{join_of}
use Rattle.specification.specs.Previewing.{Previewed}
use Rattle.specification.specs.declared.JoinOutcome.{JoinOutcome}
use Rattle.records.specs.WrittenLaws.{written_front}
use Rattle.joins.specs.JoinCases.{join_refused}
use Rattle.joins.specs.InputFaults.{join_fault, input_fault_named}
use Rattle.text.specs.Lines.{answer_line, not_whole_line}
use Rattle.text.specs.Printed.{record_lines, printed}
use Rattle.report.specs.ReportLaws.{printed_right}
use Rattle.files.specs.Files.{File, all_whole, is_unread, line_of}
use Rattle.files.specs.FilesLaws.{first_given, second_given, added_given, GivenOf}
use Rattle.files.specs.declared.InTurn.{InTurn}
use Rattle.preview_report.specs.PreviewReport.{PrintedPreview, GivenText, GivenPrinted, IsPreviewText, PreviewReported}

module _ {first second added before after : List ℕ} {r : JoinOutcome} (h : Previewed first second added before after r) where
  -- the line of a refusal, which has no records
  refused_line : (join_of first second added).number ≢ 0
      → printed r.number r.place (take r.written after) ≡ answer_line (join_of first second added).number (join_of first second added).place
  unfolding printed record_lines
  refused_line f =
      let w = h.refused f in
      rw (written_front w.table_is, join_refused first second added f, append-nil, w.number_is, w.place_is)

  printed_preview : length before ≡ least_room → PrintedPreview first second added (printed r.number r.place (take r.written after))
  printed_preview room = record { refused = refused_line; analysed = λ z. printed_right (h.analysed z) room }

  -- no input is named where the join has no fault
  unnamed : r.input ≡ 0 → (join_of first second added).number ≡ 0
  unnamed e = by (ℕ_discrete (join_of first second added).number 0)
    where
      by : Dec ((join_of first second added).number ≡ 0) → (join_of first second added).number ≡ 0
      by (yes z) = z
      by (no f) = absurd (input_fault_named first second added (join_fault first second added f) (sym (h.refused f).input_is ∙ e))

  module _ {text text' : List ℕ} {n : ℕ} where
    -- a file that was not read whole decides
    pub printed_stop : (failed : Bool) → r.input ≡ 0 → Written (not_whole_line failed) text text' n → n ≤ length text'
        → GivenPrinted first second added false failed text text' n
    unfolding line_of
    printed_stop failed e w l = record {
      text = not_whole_line failed;
      is_text = record { stopped = λ _. rw (eq-eqb _ 0 (unnamed e)); previewed = λ x. absurd (true≢false (sym x)) };
      written = w;
      within = l;
    }

    -- it does not
    pub printed_given : (whole failed : Bool) → (whole ≡ false → r.input ≢ 0) → length before ≡ least_room
        → Written (printed r.number r.place (take r.written after)) text text' n
        → n ≤ length text'
        → GivenPrinted first second added whole failed text text' n
    unfolding line_of
    printed_given whole failed named room w l = record {
      text = _;
      is_text = record { stopped = stopped; previewed = λ _. printed_preview room };
      written = w;
      within = l;
    }
      where
        stopped : whole ≡ false
            → printed r.number r.place (take r.written after) ≡ line_of (join_of first second added).number (join_of first second added).place whole failed
        stopped e =
            let faulty : (join_of first second added).number ≢ 0 = λ z. named e (h.no_input z) in
            refused_line faulty ∙ rw (ne_eqb _ 0 faulty)

-- ---- the files
module _ {first second added : List ℕ} {a b c : File} {t : InTurn} (g : GivenOf first second added a b c t) where
  pub reported : {text text' : List ℕ} {n : ℕ}
      → GivenPrinted (take t.first first) (take t.second second) (take t.added added) (all_whole t.stopped) (is_unread t.stopped) text text' n
      → PreviewReported a b c text text' n
  reported p = record { text = p.text; is_text = of_files p.is_text; written = p.written; within = p.within }
    where
      of_files : {text : List ℕ} → GivenText (take t.first first) (take t.second second) (take t.added added) (all_whole t.stopped) (is_unread t.stopped) text
          → IsPreviewText a b c text
      of_files {text} is = record {
        stopped = λ e. rw (g.first_is, g.second_is, g.added_is, g.whole_is, g.failed_is) at (is.stopped (g.whole_is ∙ e));
        previewed = λ e.
            rw (g.first_is ∙ first_given a b c e, g.second_is ∙ second_given a b c e, g.added_is ∙ added_given a b c e) at (is.previewed (g.whole_is ∙ e));
      }
