-- The fields of each kind, one behind another.
use borrow.Author.Tests.{ne_eqb}
use Rattle.specification.specs.Answers.{zero_floor_port}
use Rattle.text.specs.Lines.{port_text, buffer_line, items_line, floor_line, floor_port_line}
use Rattle.text.specs.Record.{line_of}
use Rattle.text.specs.Writer.{◌⨾◌}
use Rattle.text.proofs.record.Record.write.Goals as goal

pub returns-in-Port : goal.returns-in-Port
unfolding line_of port_text
returns-in-Port c =
    rw c.in-Port.is
    (c.field.ensures
    ⨾ c.field-in-Port.ensures
    ⨾ c.field-in-Port-2.ensures
    ⨾ c.fraction_field.ensures
    ⨾ c.fraction_field-in-Port.ensures
    ⨾ c.word.ensures)

pub returns-in-Buffer : goal.returns-in-Buffer
unfolding line_of buffer_line
returns-in-Buffer c = rw c.in-Buffer.is (c.field-in-Buffer.ensures ⨾ c.field-in-Buffer-2.ensures ⨾ c.word-in-Buffer.ensures)

pub returns-in-Loop : goal.returns-in-Loop
unfolding line_of items_line
returns-in-Loop c = rw c.in-Loop.is (c.word-in-Loop.ensures ⨾ c.write_steps.ensures ⨾ c.word-in-Loop-2.ensures)

pub returns-in-Cycle : goal.returns-in-Cycle
unfolding line_of items_line
returns-in-Cycle c =
    rw (c.in-Cycle.is, ← c.cycle_word.ensures) (c.word-in-Cycle.ensures ⨾ c.write_connections.ensures ⨾ c.word-in-Cycle-2.ensures)

pub returns-in-Floor : goal.returns-in-Floor
unfolding line_of floor_line floor_port_line
returns-in-Floor c =
    let other = ne_eqb c.in-Floor.port zero_floor_port (rw c.in-Floor.is at c.in-Floor.port-test.1) in
    rw (c.in-Floor.is, other) (c.field-in-Floor.ensures ⨾ c.word-in-Floor.ensures)
