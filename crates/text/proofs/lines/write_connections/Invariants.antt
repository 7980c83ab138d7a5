-- By the connections that are written.
use mathlib.Core.Path.{◌≡◌}
use Rattle.text.specs.Record.{connections_text}
use Rattle.text.proofs.writer.Part.{WroteUpTo}
use Rattle.text.proofs.lines.write_connections.Given as goal

abbrev pub invariant-loop-connection : goal.invariant-loop-connection
invariant-loop-connection l = record {
  part : WroteUpTo (connections_text l.connections) (connections_text l.connection-iterator.rest.now) l.initial.out l.out;
  size : l.connection-iterator.size ≡ 2;
}
