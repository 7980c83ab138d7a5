-- By whether a file that was not read whole decides.
use Rattle.std.proofs.Common.{sym, ◌≡◌, ◌≢◌, false, true≢false}
use Rattle.files.specs.Files.{all_whole}
use Rattle.preview_report.proofs.Texts.{printed_stop, printed_given}
use Rattle.preview_report.proofs.print_preview.Goals as goal
use Rattle.preview_report.proofs.print_preview.Goals.{in_default-via-in-Some+else-r-eq0, in_default-via-in_default}

pub returns-in-Some : goal.returns-in-Some
returns-in-Some c =
    let w = c.print_not_whole.ensures in
    rw c.in-Some.is (printed_stop c.preview-r.ensures _ c.if-r-eq0.true w.written w.upper_bound)

pub returns-in_default : goal.returns-in_default
returns-in_default c =
    let w = c.print.ensures in
    let named : all_whole c.args.stopped ≡ false → c.preview-r.result.input ≢ 0 = elim c.in_default.branch [
      | in_default-via-in-Some+else-r-eq0 b ↦ λ _. b.if-r-eq0.false
      | in_default-via-in_default b ↦ λ e. absurd (true≢false (rw b.in_default.is at e))
    ] in
    printed_given c.preview-r.ensures _ _ named (sym c.answer_room-answer.ensures) w.written w.upper_bound
