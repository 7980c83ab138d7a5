-- By the tests, in their order; then the ports are written, and the links behind them.
use Rattle.std.proofs.Common.{arith, ◌∙◌, sym}
use lib.ListN.{length-take, length-drop}
use Rattle.specification.specs.Encoding.{encode_table}
use Rattle.records.specs.WrittenLaws.{written_append}
use Rattle.table.specs.Held.{table_in}
use Rattle.encoding.specs.EncodingLaws.{table_length}
use Rattle.hidden.specs.OfSides.{table_after}
use Rattle.hidden.specs.HiddenIn.{hidden_19, hidden_7, hidden_16, hidden_0, can_write}
use Rattle.hidden.proofs.sides.Sides.write.Goals as goal

pub returns-then-value_leaves : goal.returns-then-value_leaves
returns-then-value_leaves c = hidden_19 c.args.self.now.parted.can (sym c.value_leaves.ensures ∙ c.if-value_leaves.true)

pub returns-then-link_count-gt-LINKS : goal.returns-then-link_count-gt-LINKS
returns-then-link_count-gt-LINKS c =
    hidden_7 c.args.self.now.parted.can (sym c.value_leaves.ensures ∙ c.if-value_leaves.false) (omega arith)

pub returns-then-out-size : goal.returns-then-out-size
returns-then-out-size c =
    hidden_16 c.args.self.now.parted.can (sym c.value_leaves.ensures ∙ c.if-value_leaves.false)
    (omega arith)
    (omega arith)

pub write_ports-at-requires-clause-room : goal.write_ports-at-requires-clause-room
write_ports-at-requires-clause-room c = omega (arith, table_length (table_after c.args.self.now))

pub write_links-requires-clause-can : goal.write_links-requires-clause-can
write_links-requires-clause-can c =
    let s = c.args.self.now in
    can_write (table_in s.table.now) s.port (sym c.value_leaves.ensures ∙ c.if-value_leaves.false) (omega arith)

pub write_links-requires-clause-room : goal.write_links-requires-clause-room
write_links-requires-clause-room c =
    simp (length-take, length-drop) (omega (arith, table_length (table_after c.args.self.now)))

pub returns : goal.returns
unfolding encode_table
returns c =
    hidden_0 c.args.self.now.parted.can (sym c.value_leaves.ensures ∙ c.if-value_leaves.false)
    (omega arith)
    (omega arith)
    (written_append c.write_ports-at.ensures c.write_links.ensures)
