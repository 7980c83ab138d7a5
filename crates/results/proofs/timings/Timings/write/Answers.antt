-- The records of the buffers stand right behind those of the ports.
use native.Mathlib.Omega.{arith}
use lib.ListN.{length-take, length-drop}
use Rattle.demands.specs.Room.{port_records_lem}
use Rattle.results.proofs.timings.Timings.write.Goals as goal

pub write_buffers-requires : goal.write_buffers-requires
write_buffers-requires c =
    let place = rw port_records_lem at c.write_ports-at.ensures.counted in
    simp (length-take, length-drop) (omega arith)
