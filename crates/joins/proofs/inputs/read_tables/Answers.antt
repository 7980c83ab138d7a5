-- By whether the first table has a fault.
use mathlib.Core.Path.{◌≡◌}
use native.Mathlib.Omega.{arith}
use Rattle.std.specs.Prelude.{Err}
use borrow.Author.Rules.{rules}
use Rattle.joins.proofs.inputs.Held.{held_room, first_next, first_faulty, tables_read}
use Rattle.joins.proofs.inputs.read_tables.Goals as goal

pub returns-in_err-one : goal.returns-in_err-one
returns-in_err-one c =
    let e : c.from_residual.result ≡ Err c.in_err-one.field-0.0 = search rules in
    rw e (λ added. first_faulty c.in_err-one.ensures)

pub read_input-requires-2 : goal.read_input-requires-2
read_input-requires-2 c = held_room (first_next _ _ c.requires c.in_ok-one.ensures).held (omega arith) (omega arith)

pub returns : goal.returns
returns c = tables_read _ _ _ c.requires c.in_ok-one.ensures c.read_input-2.ensures
