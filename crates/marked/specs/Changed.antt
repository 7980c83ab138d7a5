-- How many bytes are not the one that the room was filled with.
use Rattle.std.specs.Prelude.{ℕ, cond, List, eqb}
use Rattle.numbers.specs.Lists.{sum}

unfoldable pub changed_byte : ℕ → ℕ
changed_byte byte = cond (eqb byte 165) 0 1

abbrev pub changed_bytes : List ℕ → ℕ
changed_bytes = sum changed_byte
