-- By the connections that are written.
use mathlib.Core.Path.{◌∙◌}
use native.Mathlib.Omega.{arith}
use Rattle.text.specs.Lines.{connection_text}
use Rattle.text.specs.Printed.{connection_at}
use Rattle.text.proofs.Items.{connections_local, next_item, no_item}
use Rattle.text.proofs.writer.Part.{room_next, wrote_next, wrote_all}
use Rattle.text.proofs.lines.write_connections.Goals as goal

pub field-requires : goal.field-requires
unfolding connection_at connection_text
field-requires c =
    let step = c.in-Some.ensures.steps.1 in
    let part = next_item connections_local _ c.loop-connection.invariant.part _ _ step.0 (step.1 ∙ c.loop-connection.invariant.size) in
    rw c.number_at.ensures.0 (room_next _ _ part c.requires)

pub loop-connection-preserved : goal.loop-connection-preserved
unfolding connection_at connection_text
loop-connection-preserved c =
    let step = c.in-Some.ensures.steps.1 in
    let part = next_item connections_local _ c.loop-connection.invariant.part _ _ step.0 (step.1 ∙ c.loop-connection.invariant.size) in
    record {
      part = wrote_next _ _ part (rw c.number_at.ensures.0 at c.field.ensures);
      size = omega (arith, c.in-Some.ensures.steps.0);
    }

pub returns : goal.returns
returns c =
    wrote_all (no_item connections_local _ c.loop-connection.invariant.part (omega (arith, c.in-None.ensures.steps.1.0)))
