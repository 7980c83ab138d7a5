-- By the lines that are written.
use native.Mathlib.Omega.{arith}
use Rattle.text.proofs.print.Lines.{shorter, next_line, no_line}
use Rattle.text.proofs.writer.Part.{room_next, wrote_next, wrote_all}
use Rattle.text.proofs.print.write_records.Goals as goal

pub write-requires : goal.write-requires
write-requires c =
    let step = c.in-Some.ensures.steps in
    rw step.1 (room_next _ _ (next_line _ _ c.loop-number.invariant.part c.loop-number.invariant.most step.0) c.requires)

pub loop-number-preserved : goal.loop-number-preserved
loop-number-preserved c =
    let step = c.in-Some.ensures.steps in
    rw step.2
    record {
      part = wrote_next _ _ (next_line _ _ c.loop-number.invariant.part c.loop-number.invariant.most step.0) (rw step.1 at c.write.ensures);
      most = omega (arith, shorter step.0);
    }

pub returns : goal.returns
returns c =
    wrote_all (no_line _ _ c.loop-number.invariant.part c.loop-number.invariant.most c.in-None.ensures.steps.0)
