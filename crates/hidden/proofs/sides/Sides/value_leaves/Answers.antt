-- By the two tests.
use Rattle.std.proofs.Common.{rules, refl}
use Rattle.table.specs.Held.{table_in}
use Rattle.hidden.specs.HiddenIn.{leaves_is}
use Rattle.hidden.proofs.sides.Sides.value_leaves.Goals as goal

pub returns-then-is_some_and : goal.returns-then-is_some_and
returns-then-is_some_and c =
    let s = c.args.self.now in
    let e = leaves_is (table_in s.table.now) s.port c.args.limit _ c.requires c.is_some_and.ensures (λ l h. search rules) refl in
    rw c.if-is_some_and.true (rw c.if-is_some_and.true at e)

pub returns-else-is_some_and : goal.returns-else-is_some_and
returns-else-is_some_and c =
    let s = c.args.self.now in
    let e = leaves_is (table_in s.table.now) s.port c.args.limit _ c.requires c.is_some_and.ensures (λ l h. search rules) c.any_leaves.ensures in
    rw c.if-is_some_and.false at e
