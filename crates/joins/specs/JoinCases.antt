-- The join by the input that has the first fault.
use Rattle.std.specs.Prelude.{ℕ, ◌≤◌, ◌≡◌, refl, ◌≢◌, Bool, true, false, cond, List, [], ltb}
use Rattle.std.proofs.Common.{sym, ◌∙◌, arith}
use Rattle.std.proofs.Math.Path.{ap}
use Rattle.std.proofs.Math.Decide.{ℕ_discrete}
use Rattle.std.proofs.Math.ListN.{length}
use borrow.Author.Tests.{eq-eqb, ne_eqb, le-ltb}
use Rattle.specification.specs.Encoding.{encode_table, most_table_bytes}
use Rattle.specification.specs.Joining.{read_first, read_second, read_added, joined_table, Join, refusal, joined, join_of, fitted, join_into}
use Rattle.joins.specs.JoinedLaws.{joined_most}

-- no bytes fit every buffer
pub fitted_none : (j : Join) (room : ℕ) → j.table ≡ [] → fitted j room ≡ j
unfolding fitted
fitted_none j room e = let long = ap length e in rw (le-ltb room (length j.table) (omega arith))

-- a buffer that is long enough changes nothing
pub fitted_same : (j : Join) (room : ℕ) → (fitted j room).number ≢ 16 → fitted j room ≡ j
unfolding fitted
fitted_same j room f = by (ltb room (length j.table)) f
  where
    by : (short : Bool) → (cond short (refusal 16 0 0) j).number ≢ 16 → cond short (refusal 16 0 0) j ≡ j
    by true g = absurd (g refl)
    by false g = refl

module _ (first second added : List ℕ) where
  abbrev pub first_number : ℕ
  first_number = (read_first first).number

  abbrev pub second_number : ℕ
  second_number = (read_second first second).number

  abbrev pub added_number : ℕ
  added_number = (read_added first second added).number

  pub join_first : first_number ≢ 0 → join_of first second added ≡ refusal first_number (read_first first).place 1
  unfolding join_of
  join_first f = rw (ne_eqb first_number 0 f)

  pub join_second : first_number ≡ 0 → second_number ≢ 0 → join_of first second added ≡ refusal second_number (read_second first second).place 2
  unfolding join_of
  join_second z f = rw (eq-eqb first_number 0 z, ne_eqb second_number 0 f)

  pub join_added : first_number ≡ 0 → second_number ≡ 0 → added_number ≢ 0
      → join_of first second added ≡ refusal added_number (read_added first second added).place 3
  unfolding join_of
  join_added z y f = rw (eq-eqb first_number 0 z, eq-eqb second_number 0 y, ne_eqb added_number 0 f)

  pub join_whole : first_number ≡ 0 → second_number ≡ 0 → added_number ≡ 0
      → join_of first second added ≡ joined (encode_table (joined_table first second added))
  unfolding join_of
  join_whole z y x = rw (eq-eqb first_number 0 z, eq-eqb second_number 0 y, eq-eqb added_number 0 x)

  pub data JoinCase : Type 0 where
    in_first : first_number ≢ 0 → JoinCase
    in_second : first_number ≡ 0 → second_number ≢ 0 → JoinCase
    in_added : first_number ≡ 0 → second_number ≡ 0 → added_number ≢ 0 → JoinCase
    in_none : first_number ≡ 0 → second_number ≡ 0 → added_number ≡ 0 → JoinCase

  pub join_case : JoinCase
  join_case = decided (ℕ_discrete first_number 0) (ℕ_discrete second_number 0) (ℕ_discrete added_number 0)
    where
      decided : Dec (first_number ≡ 0) → Dec (second_number ≡ 0) → Dec (added_number ≡ 0) → JoinCase
      decided (no f) _ _ = in_first f
      decided (yes z) (no f) _ = in_second z f
      decided (yes z) (yes y) (no f) = in_added z y f
      decided (yes z) (yes y) (yes x) = in_none z y x

  -- a refusal has no bytes
  pub join_refused : (join_of first second added).number ≢ 0 → (join_of first second added).table ≡ []
  join_refused f = by join_case
    where
      by : JoinCase → (join_of first second added).table ≡ []
      by (in_first g) = ap (λ (j : Join). j.table) (join_first g)
      by (in_second z g) = ap (λ (j : Join). j.table) (join_second z g)
      by (in_added z y g) = ap (λ (j : Join). j.table) (join_added z y g)
      by (in_none z y x) = absurd (f (ap (λ (j : Join). j.number) (join_whole z y x)))

  pub join_done : (join_of first second added).number ≡ 0
      → join_of first second added ≡ joined (encode_table (joined_table first second added))
  join_done e = by join_case
    where
      by : JoinCase → join_of first second added ≡ joined (encode_table (joined_table first second added))
      by (in_first g) = absurd (g (sym (ap (λ (j : Join). j.number) (join_first g)) ∙ e))
      by (in_second z g) = absurd (g (sym (ap (λ (j : Join). j.number) (join_second z g)) ∙ e))
      by (in_added z y g) = absurd (g (sym (ap (λ (j : Join). j.number) (join_added z y g)) ∙ e))
      by (in_none z y x) = join_whole z y x

  -- a buffer for the longest table is long enough
  pub join_fits : (room : ℕ) → most_table_bytes ≤ room → join_into first second added room ≡ join_of first second added
  unfolding fitted
  join_fits room h = by (ℕ_discrete (join_of first second added).number 0)
    where
      by : Dec ((join_of first second added).number ≡ 0) → fitted (join_of first second added) room ≡ join_of first second added
      by (yes z) =
          let long = ap (λ (j : Join). length j.table) (join_done z) in
          rw (le-ltb room (length (join_of first second added).table) (omega (arith, long, joined_most first second added)))
      by (no f) = fitted_none (join_of first second added) room (join_refused f)
