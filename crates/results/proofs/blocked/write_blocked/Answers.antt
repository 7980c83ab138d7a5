-- The floor's record is at the front, and the block's record right behind it.
use native.Mathlib.Omega.{arith}
use lib.ListN.{length-take, length-drop}
use Rattle.results.proofs.blocked.Short.{floor_taken}
use Rattle.results.proofs.blocked.write_blocked.Goals as goal

pub write_connections-requires-clause-in_bounds : goal.write_connections-requires-clause-in_bounds
write_connections-requires-clause-in_bounds c =
    simp (length-take, length-drop) (omega (arith, floor_taken c.args.numbers.now _ c.write_floor-at.ensures))
