-- What is written where there is room, and nothing where there is none.
use mathlib.Core.Path.{sym}
use borrow.Author.Tests.{leb-true, leb-false}
use Rattle.analysis.specs.ShownLaws.{shown_short, shown_all}
use Rattle.analysis.proofs.show.show_loop.Goals as goal

pub returns-then-has_room : goal.returns-then-has_room
returns-then-has_room c = rw (shown_all _ _ (leb-true _ _ (sym c.if-has_room.ensures))) c.write_loop.ensures

pub returns-else-has_room : goal.returns-else-has_room
returns-else-has_room c = shown_short _ _ (leb-false _ _ (sym c.if-has_room.ensures))
