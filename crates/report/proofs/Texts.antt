-- The text of an input, by how its reading ended and by its length.
use Prim.Native.Nat.{ℕ, ◌≤◌}
use mathlib.Core.Path.{◌≡◌, refl, sym}
use mathlib.Core.Bool.{Bool, true, false, true≢false}
use mathlib.Core.List.{List}
use native.Mathlib.Omega.{arith}
use lib.ListN.{length, take}
use borrow.Author.Tests.{leb-true, leb-false}
use Rattle.specification.specs.Bytes.{Written}
use Rattle.specification.specs.Answers.{least_room}
use Rattle.specification.specs.Analysed.{Analysed}
use Rattle.specification.specs.declared.Outcome.{Outcome}
use Rattle.input.specs.Input.{most_bytes, read_whole, stop_of, read_failed}
use Rattle.input.specs.declared.Stop.{Stop}
use Rattle.text.specs.Lines.{unread_line, long_line, not_whole_line}
use Rattle.text.specs.Printed.{printed}
use Rattle.report.specs.Report.{PrintedText, Reported}
use Rattle.report.specs.ReportLaws.{printed_right}

-- what an analysis wrote into the least answer buffer, printed
pub printed_text : {s before after text text' : List ℕ} {o : Outcome} {r : ℕ} → Analysed s before after o → length before ≡ least_room
    → Written (printed o.number o.place (take o.written after)) text text' r
    → r ≤ length text'
    → PrintedText s text text' r
printed_text h room w l = record { text = _; printed = printed_right h room; written = w; within = l }

module _ {s before after : List ℕ} {count r : ℕ} where
  pub reported_not_whole : (failed : Bool) {stop : Stop} → length s ≡ count → read_whole failed count ≡ false → stop ≡ stop_of failed
      → Written (not_whole_line (read_failed stop)) before after r
      → r ≤ length after
      → Reported s failed before after r
  unfolding read_whole not_whole_line
  reported_not_whole true m e is w l = record {
    text = unread_line;
    is_text = record { unread = λ f. refl; long = λ f h. absurd (true≢false f); analysed = λ f h. absurd (true≢false f) };
    written = rw is at w;
    within = l;
  }
  reported_not_whole false m e is w l = record {
    text = long_line;
    is_text = record {
      unread = λ f. absurd (true≢false (sym f));
      long = λ f h. refl;
      analysed = λ f h. absurd (omega (arith, leb-false count most_bytes e));
    };
    written = rw is at w;
    within = l;
  }

  pub reported_answer : (failed : Bool) → length s ≡ count → read_whole failed count ≡ true → PrintedText s before after r → Reported s failed before after r
  unfolding read_whole
  reported_answer true m e p = absurd (true≢false (sym e))
  reported_answer false m e p = record {
    text = p.text;
    is_text = record {
      unread = λ f. absurd (true≢false (sym f));
      long = λ f h. absurd (omega (arith, leb-true count most_bytes e));
      analysed = λ f h. p.printed;
    };
    written = p.written;
    within = p.within;
  }
