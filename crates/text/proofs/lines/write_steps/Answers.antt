-- By the steps that are written.
use mathlib.Core.Path.{◌∙◌}
use native.Mathlib.Omega.{arith}
use Rattle.text.specs.Lines.{step_text}
use Rattle.text.specs.Printed.{step_at}
use Rattle.text.specs.Writer.{◌⨾◌, room_first, room_behind}
use Rattle.text.proofs.Items.{steps_local, next_item, no_item}
use Rattle.text.proofs.writer.Part.{room_next, wrote_next, wrote_all}
use Rattle.text.proofs.lines.write_steps.Goals as goal

pub word-requires : goal.word-requires
unfolding step_at step_text
word-requires c =
    let step = c.in-Some.ensures.steps.1 in
    let room = room_next (step_at c.in-Some.step.now 0) _ (next_item steps_local _ c.loop-step.invariant.part _ _ step.0 (step.1 ∙ c.loop-step.invariant.size)) c.requires in
    room_first _ (rw (← c.number_at.ensures.0, ← c.sign.ensures) at room)

pub number-requires : goal.number-requires
unfolding step_at step_text
number-requires c =
    let step = c.in-Some.ensures.steps.1 in
    let room = room_next (step_at c.in-Some.step.now 0) _ (next_item steps_local _ c.loop-step.invariant.part _ _ step.0 (step.1 ∙ c.loop-step.invariant.size)) c.requires in
    room_behind c.word.ensures (rw (← c.number_at.ensures.0, ← c.sign.ensures, ← c.number_at-in-loop-step.ensures.0) at room)

pub loop-step-preserved : goal.loop-step-preserved
unfolding step_at step_text
loop-step-preserved c =
    let step = c.in-Some.ensures.steps.1 in
    let part = next_item steps_local _ c.loop-step.invariant.part _ _ step.0 (step.1 ∙ c.loop-step.invariant.size) in
    record {
      part = wrote_next _ _ part (rw (c.sign.ensures, c.number_at.ensures.0, c.number_at-in-loop-step.ensures.0) at (c.word.ensures ⨾ c.number.ensures));
      size = omega (arith, c.in-Some.ensures.steps.0);
    }

pub returns : goal.returns
returns c =
    wrote_all (no_item steps_local _ c.loop-step.invariant.part (omega (arith, c.in-None.ensures.steps.1.0)))
