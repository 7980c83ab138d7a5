-- The steps from r on are a trail through ports that are all marked.
use Rattle.rounds.proofs.back.CourseEnd.{course_found, course_over}
use Rattle.rounds.proofs.back.Step.{step_asks, step_back}
use Rattle.rounds.proofs.back.Course.{course_on, port_low, course_first}
use native.Mathlib.Omega.{arith}
use Rattle.rounds.proofs.back.cycle_back.Goals as goal

pub offset_bounds-met-p : goal.offset_bounds-met-p
offset_bounds-met-p c = omega (arith, port_low c.requires)

pub bounds-met-p : goal.bounds-met-p
bounds-met-p c = port_low c.requires

pub loop-r-init : goal.loop-r-init
loop-r-init c = course_first c.requires

pub tight-k-requires : goal.tight-k-requires
tight-k-requires c = step_asks c.requires c.loop-r.invariant (omega arith)

pub returns-in-Some-clause-found_cycle : goal.returns-in-Some-clause-found_cycle
returns-in-Some-clause-found_cycle c = course_found c.requires (step_back c.requires c.loop-r.invariant (omega arith) c.tight-k.ensures) c.in-Some.is

pub loop-r-preserved : goal.loop-r-preserved
loop-r-preserved c = course_on (step_back c.requires c.loop-r.invariant (omega arith) c.tight-k.ensures) c.in_default.is

pub unreachable-requires : goal.unreachable-requires
unreachable-requires c = course_over c.requires c.loop-r.invariant (omega arith)
