-- Numbers as bytes, little-endian, and the records of an answer.
use Rattle.std.specs.Prelude.{ℕ, zero, suc, ◌+◌, ◌*◌, ◌%◌, ◌/◌, ◌≡◌, List, [], ◌∷◌, ◌++◌, length, drop, get_or}

-- the number that the n bytes from a place on stand for
unfoldable pub number_at : List ℕ → ℕ → ℕ → ℕ
number_at s at zero = 0
number_at s at (suc n) = get_or s at 0 + 256 * number_at s (at + 1) n

-- the n lowest bytes of v
unfoldable pub bytes : ℕ → ℕ → List ℕ
bytes zero v = []
bytes (suc n) v = v % 256 ∷ bytes n (v / 256)

-- numbers of two bytes each
unfoldable pub words : List ℕ → List ℕ
unfolding bytes
words [] = []
words (x ∷ xs) = bytes 2 x ++ words xs

-- ---- the records of an answer
-- every record begins with its length in two bytes, counting what follows it, then a two-byte kind
unfoldable pub encode : ℕ → List ℕ → List ℕ
encode kind body = bytes 2 (2 + length body) ++ bytes 2 kind ++ body

-- kind 16, length 22, so 24 bytes
abbrev pub port_bytes : ℕ
port_bytes = 24

unfoldable pub port_answer : (component weight a b start : ℕ) → List ℕ
port_answer component weight a b start =
    encode 16 (bytes 2 component ++ bytes 2 weight ++ bytes 4 a ++ bytes 4 b ++ bytes 8 start)

-- kind 17, length 12, so 14 bytes
abbrev pub buffer_bytes : ℕ
buffer_bytes = 14

unfoldable pub buffer_answer : (number size : ℕ) → List ℕ
buffer_answer number size = encode 17 (bytes 2 number ++ bytes 8 size)

-- kind 18: of each step of the loop the connection's number and its direction, 0 along and 1 against
unfoldable pub loop_answer : List ℕ → List ℕ
loop_answer steps = encode 18 (words steps)

-- kind 19: the connections' numbers
unfoldable pub cycle_answer : List ℕ → List ℕ
cycle_answer numbers = encode 19 (words numbers)

-- kind 20, length 4
unfoldable pub floor_answer : (port : ℕ) → List ℕ
floor_answer port = encode 20 (bytes 2 port)

-- a record stands at the front of the tail, what was behind it is unchanged, and the count is its length
pub record Written (bytes_of tail tail' : List ℕ) (count : ℕ) : Type 0 where
  pub contents : tail' ≡ bytes_of ++ drop (length bytes_of) tail
  pub counted : count ≡ length bytes_of

-- nothing was written
pub record NothingWritten (before after : List ℕ) (written : ℕ) : Type 0 where
  pub unchanged : after ≡ before
  pub none : written ≡ 0
