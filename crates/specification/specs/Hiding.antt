-- Hiding a port (change request F-6): the numbers 18 and 19, the table without the port, and what the code promises.
use Rattle.std.specs.Prelude.{ℕ, ◌+◌, ◌*◌, ◌-◌, ◌/◌, ◌≡◌, Bool, not, ◌&&◌, ◌||◌, cond, ltb, leb, eqb, length, take, drop, set}
use mathlib.Core.List.{List, [], ◌∷◌, ◌++◌, map, flat_map}
use Rattle.numbers.specs.Divisors.{gcd}
use Rattle.numbers.specs.Lists.{keep}
use Rattle.specification.specs.Bytes.{Written}
use Rattle.specification.specs.Table.{Table, port_count, port, no_link, is_buffer, most_links, most_part, most_ticks, most_events, most_over}
use Rattle.specification.specs.Reading.{read_table}
use Rattle.specification.specs.Answers.{Answer, number, least_room, AnswerOf, answer_place}
use Rattle.specification.specs.Encoding.{encode_table}
use Rattle.specification.specs.declared.Port.{Port}
use Rattle.specification.specs.declared.Link.{Link}
use Rattle.specification.specs.declared.Outcome.{Outcome}

-- ---- the links at port p
abbrev pub goes_into : ℕ → Link → Bool
goes_into p l = eqb l.to p

abbrev pub comes_from : ℕ → Link → Bool
comes_from p l = eqb l.from p

abbrev pub touches : ℕ → Link → Bool
touches p l = goes_into p l || comes_from p l

abbrev pub apart : ℕ → Link → Bool
apart p l = not (touches p l)

abbrev pub links_into : Table → ℕ → List Link
links_into t p = keep (goes_into p) t.links

abbrev pub links_from : Table → ℕ → List Link
links_from t p = keep (comes_from p) t.links

abbrev pub links_apart : Table → ℕ → List Link
links_apart t p = keep (apart p) t.links

abbrev pub none : List Link → Bool
none ls = eqb (length ls) 0

-- ---- number 18: p is no port of the table, touches a buffer, joins itself, or lacks a sender or a receiver
-- a buffer at p, or a link from p to itself
abbrev pub bars : ℕ → Link → Bool
bars p l = touches p l && (is_buffer l || eqb l.from l.to)

unfoldable pub cannot_hide : Table → ℕ → Bool
cannot_hide t p = leb (port_count t) p || (not (none (keep (bars p) t.links)) || (none (links_into t p) || none (links_from t p)))

-- ---- lowest terms
unfoldable pub lowest_num : (num den : ℕ) → ℕ
lowest_num num den = num / gcd num den

unfoldable pub lowest_den : (num den : ℕ) → ℕ
lowest_den num den = den / gcd num den

-- ---- the rate of the lowest-numbered sender
-- of the links that come from the lowest port the first
unfoldable pub lowest_of : Link → List Link → Link
lowest_of l [] = l
lowest_of l (x ∷ xs) = lowest_of (cond (ltb x.from l.from) x l) xs

unfoldable pub lowest_sender : List Link → Link
lowest_sender [] = no_link
lowest_sender (l ∷ ls) = lowest_of l ls

-- a rate divided by the ratio of a connection, in lowest terms
unfoldable pub carried_rate : Port → Link → Port
carried_rate r l = record { num = lowest_num (r.num * l.den) (r.den * l.num); den = lowest_den (r.num * l.den) (r.den * l.num) }

-- rate r is smaller than s; s is no limit where it is 0/0, so every rate is smaller
unfoldable pub slower : Port → Port → Bool
slower r s = eqb s.num 0 || ltb (r.num * s.den) (s.num * r.den)

module _ (t : Table) (p : ℕ) where
  -- the connection of the lowest-numbered sender, that sender, and the hidden rate divided by that connection's ratio
  abbrev pub sender_link : Link
  sender_link = lowest_sender (links_into t p)

  abbrev pub sender : ℕ
  sender = sender_link.from

  abbrev pub limit_rate : Port
  limit_rate = carried_rate (port t p) sender_link

  -- the sender's rate is lowered to that if that is smaller; a hidden port without a rate lowers nothing
  unfoldable pub lowers : Bool
  lowers = not (eqb (port t p).num 0) && slower limit_rate (port t sender)

  abbrev pub lowered_ports : List Port
  lowered_ports = cond lowers (set t.ports sender limit_rate) t.ports

-- ---- the new connections
-- the first δ plus the second divided by the first's ratio is (forwardVia − backVia) / overVia
abbrev pub forward_via : Link → Link → ℕ
forward_via x y = x.events.0 * (y.over * x.num) + y.events.0 * (x.den * x.over)

abbrev pub back_via : Link → Link → ℕ
back_via x y = x.events.1 * (y.over * x.num) + y.events.1 * (x.den * x.over)

abbrev pub over_via : Link → Link → ℕ
over_via x y = x.over * y.over * x.num

-- ε added
abbrev pub ticks_forward : Link → Link → ℕ
ticks_forward x y = x.ticks.0 + y.ticks.0

abbrev pub ticks_back : Link → Link → ℕ
ticks_back x y = x.ticks.1 + y.ticks.1

-- the connection that stands for x into the hidden port and y out of it: kind 4 in lowest terms, its ratio the product. What is taken from
-- less is 0, so of ε and of δ one amount is 0, and the denominator of δ is that of the other
unfoldable pub via : Link → Link → Link
via x y = record {
  from = x.from;
  to = y.to;
  num = lowest_num (x.num * y.num) (x.den * y.den);
  den = lowest_den (x.num * y.num) (x.den * y.den);
  ticks = (ticks_forward x y - ticks_back x y, ticks_back x y - ticks_forward x y);
  events = (lowest_num (forward_via x y - back_via x y) (over_via x y), lowest_num (back_via x y - forward_via x y) (over_via x y));
  over = lowest_den (forward_via x y - back_via x y + (back_via x y - forward_via x y)) (over_via x y);
  kind = 4;
}

abbrev pub via_each : List Link → Link → List Link
via_each ys x = map (via x) ys

-- by first then second connection
abbrev pub made_links : Table → ℕ → List Link
made_links t p = flat_map (via_each (links_from t p)) (links_into t p)

-- ---- number 19: a resulting value leaves its range
abbrev pub rate_leaves : Port → Bool
rate_leaves r = ltb most_part r.num || ltb most_part r.den

unfoldable pub link_leaves : Link → Bool
link_leaves l =
    ltb most_part l.num
    || (ltb most_part l.den
    || (ltb most_ticks l.ticks.0
    || (ltb most_ticks l.ticks.1
    || (ltb most_over l.over
    || (ltb (most_events * l.over) l.events.0
    || ltb (most_events * l.over) l.events.1)))))

-- the lowered rate, if it is lowered, or a value of any new connection, however many these are
unfoldable pub value_leaves : Table → ℕ → Bool
value_leaves t p = (lowers t p && rate_leaves (limit_rate t p)) || not (none (keep link_leaves (made_links t p)))

-- ---- the table without port p
-- later ports move down one: the new number of port q, which is not p, and the port whose new number is q
unfoldable pub new_number : (p q : ℕ) → ℕ
new_number p q = cond (ltb p q) (q - 1) q

unfoldable pub old_number : (p q : ℕ) → ℕ
old_number p q = cond (ltb q p) q (q + 1)

abbrev pub renumbered : ℕ → Link → Link
renumbered p l = record {
  from = new_number p l.from;
  to = new_number p l.to;
  num = l.num;
  den = l.den;
  ticks = l.ticks;
  events = l.events;
  over = l.over;
  kind = l.kind;
}

abbrev pub without : ℕ → List Port → List Port
without p ps = take p ps ++ drop (p + 1) ps

-- the links apart from p as they were; the new connections last
abbrev pub links_after : Table → ℕ → List Link
links_after t p = links_apart t p ++ made_links t p

unfoldable pub hidden_table : Table → ℕ → Table
hidden_table t p = record { ports = without p (lowered_ports t p); links = map (renumbered p) (links_after t p) }

-- ---- hiding
-- the number and the place, and the table as bytes, none where it is refused
pub record Hide : Type 0 where
  pub number : ℕ
  pub place : ℕ
  pub table : List ℕ

abbrev pub refused_hide : (number place : ℕ) → Hide
refused_hide number place = record { number = number; place = place; table = [] }

-- of a consistent model, into a buffer of so many bytes: 18, 19, 7 and 16, these at place 0; a buffer of exactly the table's length is long
-- enough
unfoldable pub hide_in : Table → (p room : ℕ) → Hide
hide_in t p room =
    cond (cannot_hide t p) (refused_hide 18 0)
    (cond (value_leaves t p) (refused_hide 19 0)
    (cond (ltb most_links (length (links_after t p))) (refused_hide 7 0)
    (cond (ltb room (length (encode_table (hidden_table t p)))) (refused_hide 16 0)
    (record { number = 0; place = 0; table = encode_table (hidden_table t p) }))))

-- the model's own refusal, from 2 on, comes first: that of its answer x, which has room enough
unfoldable pub hide_into : List ℕ → Answer → (p room : ℕ) → Hide
hide_into s x p room = cond (eqb (number x) 0) (hide_in (read_table s).table p room) (refused_hide (number x) (answer_place s least_room))

-- what the code promises of hiding port p of table s: all that it returns, and every byte of the buffer. A refusal has no bytes, so the
-- buffer is as it was. Every right answer has the same number
pub record HideReturned (s : List ℕ) (p : ℕ) (before after : List ℕ) (r : Outcome) : Type 0 where
  pub answer : Answer
  pub right : AnswerOf s least_room answer
  pub number_is : r.number ≡ (hide_into s answer p (length before)).number
  pub place_is : r.place ≡ (hide_into s answer p (length before)).place
  pub table_is : Written (hide_into s answer p (length before)).table before after r.written
