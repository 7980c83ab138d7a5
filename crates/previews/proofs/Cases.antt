-- What the promise of a preview says of the smallest inputs. The program `join_cases` runs many and long ones.
use Prim.Native.Nat.{ℕ, ◌≤◌, ◌<◌}
use mathlib.Core.Path.{◌≡◌, refl}
use mathlib.Core.List.{List, [], ◌∷◌, flat_map}
use native.Mathlib.Omega.{arith}
use lib.ListN.{length}
use Rattle.specification.specs.Bytes.{number_at}
use Rattle.specification.specs.Reading.{length_faulty, record_at, read_from, read_on, read_table}
use Rattle.specification.specs.Encoding.{encode_table}
use Rattle.specification.specs.Answers.{least_room}
use Rattle.specification.specs.Demanded.{Demanded}
use Rattle.specification.specs.Joining.{both_tables, joined_table, refusal, joined, join_of, JoinReturned}
use Rattle.specification.specs.Previewing.{analysis_of, Previewed}
use Rattle.analysis.specs.DemandedLaws.{demanded}
use Rattle.specification.specs.declared.JoinOutcome.{JoinOutcome}

-- a single byte is number 2
faulty_second : join_of [] (6 ∷ []) [] ≡ refusal 2 0 2
unfolding number_at length_faulty record_at read_from read_on join_of
faulty_second = refl

nothing_joined : join_of [] [] [] ≡ joined []
unfolding record_at read_from read_on flat_map encode_table both_tables joined_table join_of
nothing_joined = refl

no_port_lem : (read_table []).number ≡ 12
unfolding record_at read_from read_on read_table
no_port_lem = refl

module _ {before after : List ℕ} {r : JoinOutcome} where
  -- a fault of an input comes before a short answer buffer
  fault_before_short : Previewed [] (6 ∷ []) [] before after r → JoinReturned (refusal 2 0 2) before after r
  fault_before_short h = rw faulty_second at (h.refused (λ e. omega (arith, rw faulty_second at e)))

  module _ (h : Previewed [] [] [] before after r) where
    nothing_demanded : Demanded [] before after (analysis_of r)
    nothing_demanded = demanded (rw nothing_joined at (h.analysed (rw nothing_joined)))

    -- a short answer buffer before the table without a port
    short_before_empty : length before < least_room → r.number ≡ 1
    short_before_empty l = nothing_demanded.short l

    empty_joined : least_room ≤ length before → r.number ≡ 12
    empty_joined l = rw no_port_lem at (nothing_demanded.faulty l (λ e. omega (arith, rw no_port_lem at e)))
