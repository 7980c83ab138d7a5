use native.Mathlib.Omega.{arith}
use Rattle.hidden.specs.Picked.{numbers_count}
use Rattle.hidden.specs.Without.{after_length}
use Rattle.hidden.specs.OfSides.{made_length, made_most, apart_most}
use Rattle.table.specs.Held.{table_in}
use Rattle.hidden.proofs.sides.Sides.link_count.Goals as goal

pub overflow_add-result : goal.overflow_add-result
overflow_add-result c =
    let s = c.args.self.now in omega (arith, made_length s, made_most s, apart_most s)

pub returns : goal.returns
returns c =
    let s = c.args.self.now in
    omega (arith, after_length (table_in s.table.now) s.port, numbers_count s.parted.apart_are)
