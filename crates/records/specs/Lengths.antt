-- Lengths of numbers as bytes.
use Rattle.std.specs.Prelude.{ℕ, ◌*◌, ◌≡◌, refl, List, [], ◌∷◌, length}
use Rattle.std.proofs.Common.{arith}
use Rattle.specification.specs.Bytes.{bytes, words}

pub words_length : (ns : List ℕ) → length (words ns) ≡ 2 * length ns
unfolding words bytes
words_length [] = refl
words_length (n ∷ ns) = let e = words_length ns in omega arith
