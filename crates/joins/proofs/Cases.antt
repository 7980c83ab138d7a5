-- Small joins with what each comes to. The program `join_cases` runs many and long ones.
use Prim.Native.Nat.{ℕ}
use mathlib.Core.Path.{◌≡◌, refl}
use mathlib.Core.List.{List, [], ◌∷◌, ◌++◌, map, flat_map}
use Rattle.specification.specs.Bytes.{bytes, number_at, encode}
use Rattle.specification.specs.Reading.{
  forward,
  back,
  length_faulty,
  part_faulty,
  parts_faulty,
  rate_faulty,
  ends_faulty,
  amount_faulty,
  events_faulty,
  delays_faulty,
  ticks_at,
  events_at,
  port_of,
  link_of,
  port_at,
  link_at,
  connection_at,
  buffer_at,
  fraction_at,
  kind_at,
  record_at,
  read_from,
  read_on,
}
use Rattle.specification.specs.Encoding.{signed_word, encode_port, link_fields, connection_fields, encode_link, encode_table}
use Rattle.specification.specs.Joining.{both_tables, joined_table, Join, refusal, joined, join_of, fitted, join_into}

record Case : Type 0 where
  first : List ℕ
  second : List ℕ
  added : List ℕ
  room : ℕ
  due : Join

infix 40 ◌and◌with◌into◌gives◌
◌and◌with◌into◌gives◌ : List ℕ → List ℕ → List ℕ → ℕ → Join → Case
a and b with d into n gives j = record { first = a; second = b; added = d; room = n; due = j }

abbrev port : ℕ → ℕ → List ℕ
port num den = encode_port (record { num = num; den = den })

-- a connection of ratio 2/4, which stays 2/4, with ε and δ below zero
abbrev connection : (from to : ℕ) → List ℕ
connection from to = encode_link (record { from = from; to = to; num = 2; den = 4; ticks = (0, 10000000); events = (0, 1000); over = 1; kind = 2 })

abbrev buffer : (from to : ℕ) → List ℕ
buffer from to = encode_link (record { from = from; to = to; num = 1; den = 1; ticks = (7, 0); events = (0, 0); over = 1; kind = 3 })

-- a connection whose δ is 4/2, which stays 4/2
abbrev fraction : (from to : ℕ) → List ℕ
fraction from to = encode_link (record { from = from; to = to; num = 1; den = 1; ticks = (0, 0); events = (4, 0); over = 2; kind = 4 })

abbrev two : List ℕ
two = port 1 1 ++ port 2 4 ++ connection 0 1

abbrev one : List ℕ
one = port 1 5 ++ buffer 0 0

abbrev cases : List Case
cases =
    ([] and [] with [] into 0 gives joined [])
    ∷ (two and [] with [] into 36 gives joined two)
    ∷ ([] and two with [] into 36 gives joined two)
    -- ports first, the second's ends moved up, the added ones last
    ∷ (two and one with buffer 2 1 ++ connection 0 2 into 96 gives joined (port 1 1 ++ port 2 4 ++ port 1 5 ++ connection 0 1 ++ buffer 2 2 ++ buffer 2 1 ++ connection 0 2))
    ∷ (one and two with [] into 60 gives joined (port 1 5 ++ port 1 1 ++ port 2 4 ++ buffer 0 0 ++ connection 1 2))
    -- a port 0/0 as it stands
    ∷ (port 0 0 and one with [] into 32 gives joined (port 0 0 ++ port 1 5 ++ buffer 1 1))
    -- kind 4 as it stands, in 24 bytes
    ∷ (one ++ fraction 0 0 and one with fraction 0 1 into 96 gives joined (port 1 5 ++ port 1 5 ++ buffer 0 0 ++ fraction 0 0 ++ buffer 1 1 ++ fraction 0 1))
    -- 16: one byte short
    ∷ (two and one with [] into 59 gives refusal 16 0 0)
    -- each input in turn, its place within itself; a fault before 16
    ∷ (two ++ (6 ∷ []) and (6 ∷ []) with [] into 0 gives refusal 2 36 1)
    ∷ (two and one ++ port 1 1 with encode 9 [] into 0 gives refusal 5 24 2)
    ∷ (two and one with buffer 2 1 ++ port 1 1 into 0 gives refusal 5 16 3)
    -- 9 starts anew in the second table, and goes by all ports in the added records
    ∷ (two and port 1 1 ++ buffer 0 1 with [] into 0 gives refusal 9 8 2)
    ∷ (two and one with buffer 0 3 into 0 gives refusal 9 0 3)
    -- a port of a wrong length among the added records
    ∷ (two and one with encode 1 [] into 0 gives refusal 4 0 3)
    ∷ []

abbrev given : Case → Join
given c = join_into c.first c.second c.added c.room

abbrev due : Case → Join
due c = c.due

cases_hold : map given cases ≡ map due cases
unfolding ◌and◌with◌into◌gives◌ bytes encode number_at forward back length_faulty part_faulty parts_faulty rate_faulty ends_faulty amount_faulty events_faulty delays_faulty ticks_at events_at port_of link_of port_at link_at connection_at buffer_at fraction_at kind_at record_at read_from read_on
    signed_word encode_port link_fields connection_fields encode_link encode_table flat_map both_tables joined_table join_of fitted
cases_hold = refl
