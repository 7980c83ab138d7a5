-- The record of a cycle has at most 132 bytes, and so has that of a floor.
use Prim.Native.Nat.{ℕ, ◌≤◌}
use mathlib.Core.List.{List}
use native.Mathlib.Omega.{arith}
use lib.ListN.{length, get_or, length-map}
use Rattle.specification.specs.Bytes.{bytes, Written, encode, cycle_answer, floor_answer}
use Rattle.period.specs.Search.{cycle_of}
use Rattle.period.specs.declared.cycle.Cycle.{Cycle}
use Rattle.period.specs.declared.search.Floor.{Floor}
use Rattle.period.specs.declared.search.Floor.TheVariants.{Rate, Lower, Zero}
use Rattle.specification.specs.Answers.{zero_floor_port, floor_record}
use Rattle.demands.specs.Room.{cycle_record}
use Rattle.graph.specs.Searched.{connections_of, floor_of}
use Rattle.results.proofs.blocked.Named.{few_edges}

cycle_short : (numbers : List ℕ) (c : Cycle) → length (cycle_answer (connections_of numbers c)) ≤ 132
cycle_short numbers c =
    omega (arith, cycle_record (connections_of numbers c), length-map (cycle_of c) (λ i. get_or numbers i 0), few_edges c)

port_short : (p : ℕ) → length (floor_answer p) ≤ 132
unfolding floor_answer encode bytes
port_short p = omega arith

floor_short : (numbers : List ℕ) (floor : Floor) → length (floor_record (floor_of numbers floor)) ≤ 132
floor_short numbers (Rate p) = port_short p
floor_short numbers (Lower c) = cycle_short numbers c
floor_short numbers Zero = port_short zero_floor_port

-- so much of the answer is taken by the floor's record
pub floor_taken : (numbers : List ℕ) (floor : Floor) {tail tail' : List ℕ} {r : ℕ} → Written (floor_record (floor_of numbers floor)) tail tail' r → r ≤ 132
floor_taken numbers floor w = omega (arith, floor_short numbers floor, w.counted)
