-- By whether a table has a fault.
use mathlib.Core.Path.{◌≡◌}
use native.Mathlib.Omega.{arith}
use Rattle.std.specs.Prelude.{Err}
use borrow.Author.Rules.{rules}
use Rattle.joins.proofs.inputs.Held.{held_room, all_read}
use Rattle.joins.proofs.inputs.read_inputs.Goals as goal

pub returns-in_err-both : goal.returns-in_err-both
returns-in_err-both c =
    let e : c.from_residual.result ≡ Err c.in_err-both.field-0.0 = search rules in
    rw e (c.in_err-both.ensures c.args.added.now)

pub read_input-requires : goal.read_input-requires
read_input-requires c = held_room (c.in_ok-both.ensures.held _ c.requires) (omega arith) (omega arith)

pub returns : goal.returns
returns c =
    let tables = c.in_ok-both.ensures in
    all_read _ _ _ _ tables.first_read tables.second_read (omega arith) (tables.held _ c.requires) c.read_input.ensures
