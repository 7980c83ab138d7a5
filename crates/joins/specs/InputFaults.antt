-- What a join is refused with is the first fault of its inputs.
use Rattle.std.specs.Prelude.{ℕ, ◌≡◌, ◌≢◌, List}
use Rattle.std.proofs.Common.{ap, sym, ◌∙◌, arith}
use Rattle.specification.specs.Reading.{start}
use Rattle.specification.specs.Joining.{before_second, before_added, read_first, both_tables, Join, join_of, RecordFault, InputFault, first_fault, second_fault, added_fault, NoFault}
use Rattle.table.specs.FaultLaws.{fault_listed, fault_place}
use Rattle.joins.specs.JoinCases.{join_first, join_second, join_added, join_whole, JoinCase, in_first, in_second, in_added, in_none, join_case}

module _ (first second added : List ℕ) where
  abbrev IsFault : Join → Type 0
  IsFault j = InputFault first second added j.number j.place j.input

  pub join_fault : (join_of first second added).number ≢ 0 → IsFault (join_of first second added)
  join_fault f = by (join_case first second added)
    where
      by : JoinCase first second added → IsFault (join_of first second added)
      by (in_first g) = rw (join_first first second added g) (first_fault (fault_listed first start g) (fault_place first start g))
      by (in_second z g) =
          let b = before_second (read_first first).table in
          rw (join_second first second added z g) (second_fault z (fault_listed second b g) (fault_place second b g))
      by (in_added z y g) =
          let b = before_added (both_tables first second) in
          rw (join_added first second added z y g) (added_fault z y (fault_listed added b g) (fault_place added b g))
      by (in_none z y x) = absurd (f (ap (λ (j : Join). j.number) (join_whole first second added z y x)))

  pub join_no_fault : (join_of first second added).number ≡ 0 → NoFault first second added
  join_no_fault e = by (join_case first second added)
    where
      refuted : {n m : ℕ} → n ≢ 0 → m ≡ n → m ≡ 0 → ⊥
      refuted f is z = f (sym is ∙ z)

      by : JoinCase first second added → NoFault first second added
      by (in_first g) = absurd (refuted g (ap (λ (j : Join). j.number) (join_first first second added g)) e)
      by (in_second z g) = absurd (refuted g (ap (λ (j : Join). j.number) (join_second first second added z g)) e)
      by (in_added z y g) = absurd (refuted g (ap (λ (j : Join). j.number) (join_added first second added z y g)) e)
      by (in_none z y x) = record { first_read = z; second_read = y; added_read = x }

  pub input_fault_listed : {n p i : ℕ} → InputFault first second added n p i → RecordFault n
  input_fault_listed (first_fault l _) = l
  input_fault_listed (second_fault _ l _) = l
  input_fault_listed (added_fault _ _ l _) = l

  -- its input is named
  pub input_fault_named : {n p i : ℕ} → InputFault first second added n p i → i ≢ 0
  input_fault_named (first_fault _ _) e = omega (arith, e)
  input_fault_named (second_fault _ _ _) e = omega (arith, e)
  input_fault_named (added_fault _ _ _ _) e = omega (arith, e)
