-- Small tables with the number and the place that each gives: every rule from 2 to 12 at its boundaries. The program `table_cases` runs the
-- long ones.
use Prim.Native.Nat.{ℕ, ◌-◌}
use mathlib.Core.Path.{◌≡◌, refl}
use mathlib.Core.List.{List, [], ◌∷◌, ◌++◌, map}
use Rattle.specification.specs.Bytes.{bytes, number_at, encode}
use Rattle.specification.specs.Reading.{
  forward,
  back,
  length_faulty,
  part_faulty,
  parts_faulty,
  rate_faulty,
  ends_faulty,
  amount_faulty,
  events_faulty,
  delays_faulty,
  ticks_at,
  events_at,
  port_of,
  link_of,
  port_at,
  link_at,
  connection_at,
  buffer_at,
  fraction_at,
  kind_at,
  record_at,
  read_from,
  read_on,
  read_table,
}

record Case : Type 0 where
  table : List ℕ
  number : ℕ
  place : ℕ

infix 40 ◌gives◌at◌
◌gives◌at◌ : List ℕ → ℕ → ℕ → Case
t gives n at p = record { table = t; number = n; place = p }

port : ℕ → ℕ → List ℕ
port num den = encode 1 (bytes 2 num ++ bytes 2 den)

-- a connection; ε and δ are the unsigned numbers of their four bytes
connection : (from to num den ε δ : ℕ) → List ℕ
connection from to num den ε δ = encode 2 (bytes 2 from ++ bytes 2 to ++ bytes 2 num ++ bytes 2 den ++ bytes 4 ε ++ bytes 4 δ)

buffer : (from to num den ε : ℕ) → List ℕ
buffer from to num den ε = encode 3 (bytes 2 from ++ bytes 2 to ++ bytes 2 num ++ bytes 2 den ++ bytes 4 ε)

-- a connection whose δ is a fraction
fraction : (from to num den ε δ over : ℕ) → List ℕ
fraction from to num den ε δ over =
    encode 4 (bytes 2 from ++ bytes 2 to ++ bytes 2 num ++ bytes 2 den ++ bytes 4 ε ++ bytes 4 δ ++ bytes 4 over)

-- the number below zero
minus : ℕ → ℕ
minus n = 4294967296 - n

one : List ℕ
one = port 1 1

cases : List Case
cases =
    -- well-formed
    (one gives 0 at 0)
    ∷ (port 1000 1000 gives 0 at 0)
    ∷ (port 0 0 gives 0 at 0)
    ∷ (one ++ connection 0 0 1 1 0 0 gives 0 at 0)
    ∷ (one ++ port 1 2 ++ connection 0 1 1000 1000 10000000 1000 gives 0 at 0)
    ∷ (one ++ port 1 2 ++ connection 1 0 1 1 (minus 10000000) (minus 1000) gives 0 at 0)
    ∷ (one ++ buffer 0 0 1000 1 10000000 gives 0 at 0)
    ∷ (one ++ buffer 0 0 1 1000 (minus 10000000) gives 0 at 0)
    -- 2: a single byte, a length below 2, a length above what is left
    ∷ (6 ∷ [] gives 2 at 0)
    ∷ (one ++ (0 ∷ []) gives 2 at 8)
    ∷ (0 ∷ 0 ∷ [] gives 2 at 0)
    ∷ (1 ∷ 0 ∷ 1 ∷ [] gives 2 at 0)
    ∷ (2 ∷ 0 ∷ 1 ∷ [] gives 2 at 0)
    ∷ (7 ∷ 0 ∷ 1 ∷ 0 ∷ 1 ∷ 0 ∷ 1 ∷ 0 ∷ [] gives 2 at 0)
    ∷ (255 ∷ 255 ∷ 1 ∷ 0 ∷ [] gives 2 at 0)
    -- 3: kinds 0, 5 and one beyond a byte
    ∷ (encode 0 (1 ∷ 0 ∷ 1 ∷ 0 ∷ []) gives 3 at 0)
    ∷ (encode 5 [] gives 3 at 0)
    ∷ (encode 257 (1 ∷ 0 ∷ 1 ∷ 0 ∷ []) gives 3 at 0)
    -- 4: a length that is not the kind's
    ∷ (encode 1 [] gives 4 at 0)
    ∷ (encode 1 (1 ∷ 0 ∷ 1 ∷ []) gives 4 at 0)
    ∷ (encode 1 (1 ∷ 0 ∷ 1 ∷ 0 ∷ 0 ∷ []) gives 4 at 0)
    ∷ (one ++ encode 2 (bytes 8 0 ++ bytes 4 0) gives 4 at 8)
    ∷ (one ++ encode 2 (bytes 8 0 ++ bytes 8 0 ++ bytes 1 0) gives 4 at 8)
    ∷ (one ++ encode 3 (bytes 8 0 ++ bytes 8 0) gives 4 at 8)
    ∷ (one ++ encode 3 (bytes 8 0 ++ bytes 3 0) gives 4 at 8)
    ∷ (one ++ encode 4 (bytes 8 0 ++ bytes 8 0) gives 4 at 8)
    ∷ (one ++ encode 4 (bytes 8 0 ++ bytes 8 0 ++ bytes 3 0) gives 4 at 8)
    ∷ (one ++ encode 4 (bytes 8 0 ++ bytes 8 0 ++ bytes 5 0) gives 4 at 8)
    -- 5: a port behind a connection, behind a buffer
    ∷ (one ++ connection 0 0 1 1 0 0 ++ one gives 5 at 28)
    ∷ (one ++ buffer 0 0 1 1 0 ++ one gives 5 at 24)
    -- 8: rate parts; 0 with anything but 0
    ∷ (port 0 1 gives 8 at 0)
    ∷ (port 1 0 gives 8 at 0)
    ∷ (port 0 1000 gives 8 at 0)
    ∷ (port 0 1001 gives 8 at 0)
    ∷ (one ++ port 0 65535 gives 8 at 8)
    ∷ (port 1001 1 gives 8 at 0)
    ∷ (port 1 1001 gives 8 at 0)
    -- 9: from and to, which count the ports so far
    ∷ (one ++ connection 1 0 1 1 0 0 gives 9 at 8)
    ∷ (one ++ connection 0 1 1 1 0 0 gives 9 at 8)
    ∷ (one ++ buffer 1 0 1 1 0 gives 9 at 8)
    ∷ (connection 0 0 1 1 0 0 ++ one gives 9 at 0)
    -- 10: ratio parts
    ∷ (one ++ connection 0 0 0 1 0 0 gives 10 at 8)
    ∷ (one ++ connection 0 0 1 0 0 0 gives 10 at 8)
    ∷ (one ++ connection 0 0 0 0 0 0 gives 10 at 8)
    ∷ (one ++ buffer 0 0 0 0 0 gives 10 at 8)
    ∷ (one ++ connection 0 0 1001 1 0 0 gives 10 at 8)
    ∷ (one ++ buffer 0 0 1 1001 0 gives 10 at 8)
    -- 11: ε and δ
    ∷ (one ++ connection 0 0 1 1 10000001 0 gives 11 at 8)
    ∷ (one ++ connection 0 0 1 1 (minus 10000001) 0 gives 11 at 8)
    ∷ (one ++ connection 0 0 1 1 0 1001 gives 11 at 8)
    ∷ (one ++ connection 0 0 1 1 0 (minus 1001) gives 11 at 8)
    ∷ (one ++ connection 0 0 1 1 2147483647 0 gives 11 at 8)
    ∷ (one ++ connection 0 0 1 1 2147483648 0 gives 11 at 8)
    ∷ (one ++ buffer 0 0 1 1 10000001 gives 11 at 8)
    ∷ (one ++ buffer 0 0 1 1 (minus 10000001) gives 11 at 8)
    -- kind 4: the denominator of δ, and its value
    ∷ (one ++ fraction 0 0 1 1 0 1 2 gives 0 at 0)
    ∷ (one ++ fraction 0 0 1 1 0 0 10000 gives 0 at 0)
    ∷ (one ++ fraction 0 0 1 1 0 2000 2 gives 0 at 0)
    ∷ (one ++ fraction 0 0 1 1 0 (minus 10000000) 10000 gives 0 at 0)
    ∷ (one ++ fraction 0 0 1 1 0 0 0 gives 11 at 8)
    ∷ (one ++ fraction 0 0 1 1 0 0 10001 gives 11 at 8)
    ∷ (one ++ fraction 0 0 1 1 0 1 (minus 1) gives 11 at 8)
    ∷ (one ++ fraction 0 0 1 1 0 2001 2 gives 11 at 8)
    ∷ (one ++ fraction 0 0 1 1 0 (minus 2001) 2 gives 11 at 8)
    ∷ (one ++ fraction 0 0 1 1 10000001 0 1 gives 11 at 8)
    ∷ (one ++ fraction 0 0 1 1 0 0 1 ++ one gives 5 at 32)
    -- 12
    ∷ ([] gives 12 at 0)
    -- several faults in one record: the lowest number
    ∷ (encode 9 (0 ∷ []) gives 3 at 0)
    ∷ (one ++ buffer 0 0 1 1 0 ++ encode 1 [] gives 4 at 24)
    ∷ (one ++ buffer 0 0 1 1 0 ++ port 0 1 gives 5 at 24)
    ∷ (one ++ connection 7 7 0 0 10000001 1001 gives 9 at 8)
    ∷ (one ++ connection 0 0 0 0 10000001 1001 gives 10 at 8)
    -- a record without fault behind a faulty one
    ∷ (one ++ port 0 1 ++ one gives 8 at 8)
    ∷ (one ++ one ++ connection 0 2 1 1 0 0 ++ connection 0 1 1 1 0 0 gives 9 at 16)
    -- a fault behind a fault: the first record decides
    ∷ (port 0 1 ++ encode 5 [] gives 8 at 0)
    ∷ (one ++ connection 0 0 1 1 0 1001 ++ (0 ∷ []) gives 11 at 8)
    ∷ []

given : Case → ℕ × ℕ
given c = ((read_table c.table).number, (read_table c.table).place)

due : Case → ℕ × ℕ
due c = (c.number, c.place)

cases_hold : map given cases ≡ map due cases
unfolding given due cases ◌gives◌at◌ port connection buffer fraction minus one bytes encode number_at forward back length_faulty part_faulty parts_faulty rate_faulty ends_faulty amount_faulty events_faulty delays_faulty
    ticks_at events_at port_of link_of port_at link_at connection_at buffer_at fraction_at kind_at record_at read_from read_on read_table
cases_hold = refl
