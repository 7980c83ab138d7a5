-- By the steps that are written.
use mathlib.Core.Path.{◌≡◌}
use Rattle.text.specs.Record.{steps_text}
use Rattle.text.proofs.writer.Part.{WroteUpTo}
use Rattle.text.proofs.lines.write_steps.Given as goal

abbrev pub invariant-loop-step : goal.invariant-loop-step
invariant-loop-step l = record {
  part : WroteUpTo (steps_text l.steps) (steps_text l.step-iterator.rest.now) l.initial.out l.out;
  size : l.step-iterator.size ≡ 4;
}
