-- The lines of the printed form of document 01, over the values that they show, as ASCII codes.
use Rattle.std.specs.Prelude.{ℕ, zero, suc, ◌*◌, ◌/◌, ◌%◌, Bool, cond, List, [], ◌∷◌, ◌++◌, eqb, ltb}
use Rattle.io.specs.Digits.{hex_digit_ascii}
use Rattle.fraction.specs.Lowest.{lowest_terms}
use Rattle.fraction.specs.declared.Fraction.{Fraction}
use Rattle.specification.specs.Answers.{zero_floor_port}

-- ---- numbers and words
-- a number in decimal, without leading zeros, of at most k + 1 digits
unfoldable pub decimal_in : ℕ → ℕ → List ℕ
decimal_in zero n = hex_digit_ascii (n % 10) ∷ []
decimal_in (suc k) n = cond (ltb n 10) (hex_digit_ascii n ∷ []) (decimal_in k (n / 10) ++ (hex_digit_ascii (n % 10) ∷ []))

-- a number of 64 bits has at most 20 digits
unfoldable pub decimal : ℕ → List ℕ
decimal n = decimal_in 19 n

-- 47 is "/"
unfoldable pub fraction : Fraction → List ℕ
fraction f = decimal f.num ++ (47 ∷ []) ++ decimal f.den

-- 32 is a space, 10 ends a line
abbrev pub line_end : List ℕ
line_end = 10 ∷ []

abbrev pub space : List ℕ
space = 32 ∷ []

-- "answer "
abbrev pub answer_word : List ℕ
answer_word = 97 ∷ 110 ∷ 115 ∷ 119 ∷ 101 ∷ 114 ∷ 32 ∷ []

-- " at "
abbrev pub at_word : List ℕ
at_word = 32 ∷ 97 ∷ 116 ∷ 32 ∷ []

-- "port "
abbrev pub port_word : List ℕ
port_word = 112 ∷ 111 ∷ 114 ∷ 116 ∷ 32 ∷ []

-- " component "
abbrev pub component_word : List ℕ
component_word = 32 ∷ 99 ∷ 111 ∷ 109 ∷ 112 ∷ 111 ∷ 110 ∷ 101 ∷ 110 ∷ 116 ∷ 32 ∷ []

-- " weight "
abbrev pub weight_word : List ℕ
weight_word = 32 ∷ 119 ∷ 101 ∷ 105 ∷ 103 ∷ 104 ∷ 116 ∷ 32 ∷ []

-- " period "
abbrev pub period_word : List ℕ
period_word = 32 ∷ 112 ∷ 101 ∷ 114 ∷ 105 ∷ 111 ∷ 100 ∷ 32 ∷ []

-- " start "
abbrev pub start_word : List ℕ
start_word = 32 ∷ 115 ∷ 116 ∷ 97 ∷ 114 ∷ 116 ∷ 32 ∷ []

-- "buffer "
abbrev pub buffer_word : List ℕ
buffer_word = 98 ∷ 117 ∷ 102 ∷ 102 ∷ 101 ∷ 114 ∷ 32 ∷ []

-- " size "
abbrev pub size_word : List ℕ
size_word = 32 ∷ 115 ∷ 105 ∷ 122 ∷ 101 ∷ 32 ∷ []

-- "loop"
abbrev pub loop_word : List ℕ
loop_word = 108 ∷ 111 ∷ 111 ∷ 112 ∷ []

-- "floor port "
abbrev pub floor_port_word : List ℕ
floor_port_word = 102 ∷ 108 ∷ 111 ∷ 111 ∷ 114 ∷ 32 ∷ 112 ∷ 111 ∷ 114 ∷ 116 ∷ 32 ∷ []

-- "floor cycle"
abbrev pub floor_cycle_word : List ℕ
floor_cycle_word = 102 ∷ 108 ∷ 111 ∷ 111 ∷ 114 ∷ 32 ∷ 99 ∷ 121 ∷ 99 ∷ 108 ∷ 101 ∷ []

-- "block"
abbrev pub block_word : List ℕ
block_word = 98 ∷ 108 ∷ 111 ∷ 99 ∷ 107 ∷ []

-- " -", against, or " +", along
unfoldable pub sign_word : (against : Bool) → List ℕ
sign_word against = cond against (32 ∷ 45 ∷ []) (32 ∷ 43 ∷ [])

-- ---- fields and lines
-- a field: its word and a number, or a fraction
unfoldable pub field : (word : List ℕ) → ℕ → List ℕ
field word n = word ++ decimal n

unfoldable pub fraction_field : (word : List ℕ) → Fraction → List ℕ
fraction_field word f = word ++ fraction f

-- every number but 0 is followed by its place, which may be 0
unfoldable pub place_text : (number place : ℕ) → List ℕ
place_text number place = cond (eqb number 0) [] (field at_word place)

-- the first line
unfoldable pub answer_line : (number place : ℕ) → List ℕ
answer_line number place = field answer_word number ++ place_text number place ++ line_end

-- "answer unread"
abbrev pub unread_line : List ℕ
unread_line = 97 ∷ 110 ∷ 115 ∷ 119 ∷ 101 ∷ 114 ∷ 32 ∷ 117 ∷ 110 ∷ 114 ∷ 101 ∷ 97 ∷ 100 ∷ 10 ∷ []

-- "answer long"
abbrev pub long_line : List ℕ
long_line = 97 ∷ 110 ∷ 115 ∷ 119 ∷ 101 ∷ 114 ∷ 32 ∷ 108 ∷ 111 ∷ 110 ∷ 103 ∷ 10 ∷ []

-- the line of an input that was not read whole: a read failed, or it is too long
unfoldable pub not_whole_line : (failed : Bool) → List ℕ
not_whole_line failed = cond failed unread_line long_line

-- a port's fields, its period and start as fractions
unfoldable pub port_text : (number component weight : ℕ) (period start : Fraction) → List ℕ
port_text number component weight period start =
    field port_word number
    ++ field component_word component
    ++ field weight_word weight
    ++ fraction_field period_word period
    ++ fraction_field start_word start
    ++ line_end

-- a port's period is its weight times a/b, its start is start / b; both in lowest terms, so 0 is 0/1
unfoldable pub port_line : (number component weight a b start : ℕ) → List ℕ
port_line number component weight a b start = port_text number component weight (lowest_terms (weight * a) b) (lowest_terms start b)

unfoldable pub buffer_line : (number size : ℕ) → List ℕ
buffer_line number size = field buffer_word number ++ field size_word size ++ line_end

-- a step of a loop: its direction and the number of the connection or buffer
unfoldable pub step_text : (against : Bool) (number : ℕ) → List ℕ
step_text against number = sign_word against ++ decimal number

-- a connection of a cycle
unfoldable pub connection_text : (number : ℕ) → List ℕ
connection_text number = field space number

-- a word, and the steps of a loop or the connections of a cycle behind it
unfoldable pub items_line : (word items : List ℕ) → List ℕ
items_line word items = word ++ items ++ line_end

-- a port whose rate limit is the floor
unfoldable pub floor_port_line : (port : ℕ) → List ℕ
floor_port_line port = field floor_port_word port ++ line_end

-- "floor zero"
abbrev pub zero_floor_line : List ℕ
zero_floor_line = 102 ∷ 108 ∷ 111 ∷ 111 ∷ 114 ∷ 32 ∷ 122 ∷ 101 ∷ 114 ∷ 111 ∷ 10 ∷ []

-- the line of a floor, by the port that stands in its record
unfoldable pub floor_line : (port : ℕ) → List ℕ
floor_line port = cond (eqb port zero_floor_port) zero_floor_line (floor_port_line port)
