-- The lowest terms of the definitions of hiding are those of the exact fraction.
use Rattle.std.specs.Prelude.{ℕ, ◌*◌, ◌<◌, ◌≡◌}
use Rattle.std.proofs.Math.Path.{refl}
use Rattle.specification.specs.Hiding.{lowest_num, lowest_den}
use Rattle.fraction.specs.Lowest.{lowest_terms, lowest_is, lowest_above_zero}

module _ (num den : ℕ) where
  pub lowest_num_lem : (lowest_terms num den).num ≡ lowest_num num den
  unfolding lowest_terms lowest_num
  lowest_num_lem = refl

  pub lowest_den_lem : (lowest_terms num den).den ≡ lowest_den num den
  unfolding lowest_terms lowest_den
  lowest_den_lem = refl

  module _ (some : 0 < den) where
    pub lowest_equal : lowest_num num den * den ≡ num * lowest_den num den
    lowest_equal = rw (lowest_num_lem, lowest_den_lem) at (lowest_is num den some).equal

    pub lowest_over : 0 < lowest_den num den
    lowest_over = rw lowest_den_lem at (lowest_is num den some).over

    pub lowest_some : 0 < num → 0 < lowest_num num den
    lowest_some above = rw lowest_num_lem at (lowest_above_zero above some)
