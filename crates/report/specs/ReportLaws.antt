-- What an analysis wrote into the least answer buffer prints as a right answer.
use Rattle.std.specs.Prelude.{ℕ, ◌≡◌, List, length, take}
use Rattle.specification.specs.Answers.{least_room}
use Rattle.specification.specs.Analysed.{Analysed}
use Rattle.text.specs.Printed.{printed}
use Rattle.report.specs.AnswerTextLaws.{printed_analysed}
use Rattle.report.specs.Report.{PrintedAnswer}
use Rattle.specification.specs.declared.Outcome.{Outcome}

pub printed_right : {s before after : List ℕ} {o : Outcome} → Analysed s before after o → length before ≡ least_room
    → PrintedAnswer s (printed o.number o.place (take o.written after))
printed_right h room = record { answer = h.answer; right = rw room at h.right; is = rw room at (printed_analysed h) }
