-- By the kind and the size.
use native.Mathlib.Omega.{arith}
use mathlib.Core.Path.{refl}
use Rattle.std.proofs.lemmas.Bool.Decides.{nat_tests}
use Rattle.text.specs.Printed.{has_line}
use Rattle.text.proofs.record.Fronts.{none_without_line, read_port_or_none, read_buffer, read_loop, read_cycle, read_floor}
use Rattle.text.proofs.record.read.Goals as goal
use Rattle.text.proofs.record.read.Goals.{in_default-via-in-16+in_default, in_default-via-in-17+in_default, in_default-via-in-20+in_default, in_default-via-in_default}

pub returns-in-16-eq22 : goal.returns-in-16-eq22
returns-in-16-eq22 c = read_port_or_none c.requires _ (omega arith) (omega arith) c.port.ensures

pub returns-in-17-eq12 : goal.returns-in-17-eq12
returns-in-17-eq12 c =
    rw (c.number_at-in-17-eq12.ensures.0, c.number_at-in-17-eq12-2.ensures.0) (read_buffer c.requires (omega arith) (omega arith))

pub returns-in-18-default : goal.returns-in-18-default
returns-in-18-default c = read_loop c.requires _ refl (omega arith)

pub returns-in-19-default : goal.returns-in-19-default
returns-in-19-default c = read_cycle c.requires _ refl (omega arith)

pub returns-in-20-eq4 : goal.returns-in-20-eq4
returns-in-20-eq4 c = rw c.number_at-in-20-eq4.ensures.0 (read_floor c.requires (omega arith) (omega arith))

pub returns-in_default : goal.returns-in_default
unfolding has_line
returns-in_default c = none_without_line _ (elim c.in_default.branch [
  | in_default-via-in-16+in_default w ↦ grind (arith, nat_tests)
  | in_default-via-in-17+in_default w ↦ grind (arith, nat_tests)
  | in_default-via-in-20+in_default w ↦ grind (arith, nat_tests)
  | in_default-via-in_default w ↦ grind (arith, nat_tests)
])
