-- 8 for each port, what the links apart from it have, and 24 for each new connection.
use Rattle.std.proofs.Common.{arith}
use Rattle.table.specs.Held.{table_in}
use Rattle.hidden.specs.Without.{table_size_lem}
use Rattle.hidden.specs.OfSides.{made_length, made_most, apart_bytes}
use Rattle.hidden.proofs.sides.Sides.size.Goals as goal

pub overflow_add-result : goal.overflow_add-result
overflow_add-result c =
    let s = c.args.self.now in omega (arith, s.table.now.well_formed.few_ports, apart_bytes s)

pub overflow_mul-result-2 : goal.overflow_mul-result-2
overflow_mul-result-2 c = let s = c.args.self.now in omega (arith, made_length s, made_most s)

pub overflow_add-result-2 : goal.overflow_add-result-2
overflow_add-result-2 c =
    let s = c.args.self.now in
    omega (arith, s.table.now.well_formed.few_ports, apart_bytes s, made_length s, made_most s)

pub returns : goal.returns
returns c =
    let s = c.args.self.now in
    omega (arith, table_size_lem (table_in s.table.now) s.port s.table.now.well_formed s.parted.can)
