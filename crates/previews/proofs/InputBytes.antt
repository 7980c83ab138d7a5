-- The room that is enough for so many bytes.
use Prim.Native.Nat.{ℕ, ◌*◌, ◌/◌, ◌≤◌}
use native.Mathlib.Omega.{arith}
use Rattle.specification.specs.Reading.{start}
use Rattle.table.specs.Filled.{Room}

pub few_bytes : {ports links : ℕ} (bytes most : ℕ) → bytes ≤ most → most / 8 * 2 ≤ ports → most / 16 * 10 ≤ links → Room bytes start ports links
few_bytes bytes most few enough_ports enough_links = record {
  few_ports = omega arith;
  few_links = omega arith;
  own = omega arith;
  port_room = omega arith;
  link_room = omega arith;
}
