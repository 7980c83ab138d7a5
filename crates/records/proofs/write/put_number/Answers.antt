-- The bytes before this one are stored.
use Prim.Native.Nat.{ℕ}
use native.Mathlib.Omega.{arith}
use Rattle.std.proofs.lemmas.List.{length-take, length-drop}
use Rattle.records.proofs.write.Laws.{storing_none, storing_on, storing_all, stored_part}
use Rattle.records.proofs.write.put_number.Goals as goal

pub loop-byte-init : goal.loop-byte-init
loop-byte-init c = storing_none c.args.v (omega (arith, length-take {A = ℕ}, length-drop {A = ℕ}))

pub loop-byte-preserved : goal.loop-byte-preserved
loop-byte-preserved c = storing_on c.loop-byte.invariant (omega (arith, c.loop-byte.invariant.long))

pub returns : goal.returns
returns c =
    stored_part c.args.tail.now c.args.at c.args.n c.args.v c.requires c.loop-byte.invariant.long
    (storing_all c.loop-byte.invariant (omega (arith, c.loop-byte.invariant.long)))
