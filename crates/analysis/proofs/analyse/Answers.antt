-- 1, or what the table comes to, in a room by the length of the input.
use Rattle.analysis.specs.AnalysedLaws.{analysed_short}
use Rattle.analysis.proofs.analyse.Goals as goal

pub returns-then-answer-lt-LEAST_ROOM-clause-analysed : goal.returns-then-answer-lt-LEAST_ROOM-clause-analysed
returns-then-answer-lt-LEAST_ROOM-clause-analysed c =
    rw c.into.ensures (analysed_short _ _ c.if-answer-lt-LEAST_ROOM.true)
