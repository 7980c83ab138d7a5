-- The answers, their numbers and records, and which answer is right for a byte string.
use Rattle.std.specs.Prelude.{ℕ, zero, suc, ◌+◌, ◌*◌, ◌≤◌, ◌<◌, ◌≡◌, ◌≢◌, cond, List, [], ◌∷◌, ◌++◌, ltb}
use Rattle.numbers.specs.Rationals.{Rational, share}
use Rattle.specification.specs.Table.{Table, port_count, link_count, most_ports, most_links, link, is_buffer, IsPort, IsBuffer, from, to, ε⁺, ε⁻}
use Rattle.specification.specs.Reading.{read_table}
use Rattle.specification.specs.Ratios.{Step, Component, IsComponent, DisagreeingLoop, SmallWeights, Overweight}
use Rattle.specification.specs.Periods.{Graph, LeastStarts, RateLimit, CycleLimit, Blocks, Period, ZeroFloor, BlocksAboveZero, HasPeriod, NoLeast, graph_in}
use Rattle.specification.specs.Bytes.{port_answer, port_bytes, buffer_answer, buffer_bytes, loop_answer, cycle_answer, floor_answer}

-- what is returned of a consistent model: by port its component, weight, a, b and start times b; by number of a buffer its size
pub record Timing : Type 0 where
  pub component : ℕ → ℕ
  pub weight : ℕ → ℕ
  pub a : ℕ → ℕ
  pub b : ℕ → ℕ
  pub over : (p : ℕ) → 0 < b p
  pub start : ℕ → ℕ
  pub size : ℕ → ℕ

-- a port's period is its weight times a/b
abbrev pub period_of : Timing → ℕ → Rational
period_of r p = share (r.weight p * r.a p) (r.b p) (r.over p)

abbrev pub start_of : Timing → ℕ → Rational
start_of r p = share (r.start p) (r.b p) (r.over p)

-- what stands under every period: the rate limit of a port, the lower limit of a cycle, or zero. "Floor" is document 01's word
pub data Floor : Type 0 where
  rate : (port : ℕ) → Floor
  cycle : (connections : List ℕ) → Floor
  zero_floor : Floor

pub data Answer : Type 0 where
  -- a number from 1 to 12
  refused : ℕ → Answer
  disagreeing : (loop : List Step) → Answer
  overweight : Answer
  blocked : Floor → (block : List ℕ) → Answer
  -- periods exist, but in some component no least
  no_least : Answer
  consistent : Timing → Answer

abbrev pub number : Answer → ℕ
number (refused n) = n
number (disagreeing loop) = 13
number overweight = 14
number (blocked floor block) = 15
number no_least = 17
number (consistent r) = 0

-- ---- the records of an answer, as bytes
-- of each step of a loop the number of the connection or buffer and the direction, 0 along and 1 against
abbrev pub loop_numbers : List Step → List ℕ
loop_numbers [] = []
loop_numbers (s ∷ loop) = s.number ∷ cond s.against 1 0 ∷ loop_numbers loop

-- the port that stands in the record of the floor zero
abbrev pub zero_floor_port : ℕ
zero_floor_port = 65535

abbrev pub floor_record : Floor → List ℕ
floor_record (rate p) = floor_answer p
floor_record (cycle path) = cycle_answer path
floor_record zero_floor = floor_answer zero_floor_port

-- one for each of the first n ports, in order
unfoldable pub port_records : Timing → ℕ → List ℕ
port_records r zero = []
port_records r (suc n) = port_records r n ++ port_answer (r.component n) (r.weight n) (r.a n) (r.b n) (r.start n)

-- one for each buffer among the first n links, in order
unfoldable pub buffer_records : Table → Timing → ℕ → List ℕ
buffer_records t r zero = []
buffer_records t r (suc n) = buffer_records t r n ++ cond (is_buffer (link t n)) (buffer_answer n (r.size n)) []

abbrev pub records : Table → Answer → List ℕ
records t (refused n) = []
records t (disagreeing loop) = loop_answer (loop_numbers loop)
records t overweight = []
records t (blocked floor block) = floor_record floor ++ cycle_answer block
records t no_least = []
records t (consistent r) = port_records r (port_count t) ++ buffer_records t r (link_count t)

-- ---- which answers are right
-- a limit a/b above zero, and a cycle that blocks there and so above
pub record BlockedFrom (g : Graph) (Limit : ℕ → ℕ → Type 0) (block : List ℕ) : Type 0 where
  pub a : ℕ
  pub b : ℕ
  pub above_zero : 0 < a
  pub over : 0 < b
  pub is_limit : Limit a b
  pub blocks : Blocks g block a b

-- no rate, and a cycle that blocks every period above zero
pub record BlockedFromZero (g : Graph) (block : List ℕ) : Type 0 where
  pub is_zero : ZeroFloor g
  pub blocks : BlocksAboveZero g block

-- the cycle blocks every period from this floor on, or above it where it is zero
abbrev pub Blocked : Graph → Floor → (block : List ℕ) → Type 0
Blocked g (rate p) block = BlockedFrom g (RateLimit g p) block
Blocked g (cycle path) block = BlockedFrom g (CycleLimit g path) block
Blocked g zero_floor block = BlockedFromZero g block

module _ (t : Table) where
  -- number 15: a floor and a blocking cycle, both of the lowest component without a period. A component with periods but no least has one
  pub record NoPeriod (floor : Floor) (block : List ℕ) : Type 0 where
    pub w : ℕ → ℕ
    pub weights : SmallWeights t w
    pub c : ℕ
    pub component : IsComponent t c
    pub is_blocked : Blocked (graph_in t w c) floor block
    pub lower : (d : ℕ) → IsComponent t d → d < c → HasPeriod (graph_in t w d)

  -- number 17: every component has a period, and component c no least one
  pub record NoLeastPeriod : Type 0 where
    pub w : ℕ → ℕ
    pub weights : SmallWeights t w
    pub component : ℕ → ℕ
    pub components : (p : ℕ) → IsPort t p → Component t p (component p)
    pub periods : (d : ℕ) → IsComponent t d → HasPeriod (graph_in t w d)
    pub c : ℕ
    pub is_component : IsComponent t c
    pub no_least_lem : NoLeast (graph_in t w c)

  module _ (r : Timing) where
    -- so many events are enough for buffer k: the receiver's start is no less than the sender's plus ε minus d times the sender's period
    pub record Enough (k d : ℕ) : Type 0 where
      pub holds : r.start (from t k) + ε⁺ t k * r.b (from t k)
          ≤ r.start (to t k) + ε⁻ t k * r.b (from t k) + d * (r.weight (from t k) * r.a (from t k))

    pub record Size (k d : ℕ) : Type 0 where
      pub enough : Enough k d
      pub fewest : (e : ℕ) → Enough k e → d ≤ e

    -- number 0: least periods, least starts, fewest events
    pub record Consistent : Type 0 where
      pub components : (p : ℕ) → IsPort t p → Component t p (r.component p)
      pub weights : SmallWeights t r.weight
      pub periods : (p : ℕ) → IsPort t p → Period (graph_in t r.weight (r.component p)) (r.a p) (r.b p)
      pub starts : (p : ℕ) → IsPort t p → LeastStarts (graph_in t r.weight (r.component p)) (r.a p) (r.b p) r.start
      pub sizes : (k : ℕ) → IsBuffer t k → Size k (r.size k)

  -- the answers that are right for a table without a fault of 1 to 12
  abbrev pub Right : Answer → Type 0
  Right (refused n) = ⊥
  Right (disagreeing loop) = DisagreeingLoop t loop
  Right overweight = Overweight t
  Right (blocked floor block) = NoPeriod floor block
  Right no_least = NoLeastPeriod
  Right (consistent r) = Consistent r

-- the least answer buffer: 64 port answers and 256 buffer answers, 5,120 bytes
abbrev pub least_room : ℕ
least_room = most_ports * port_bytes + most_links * buffer_bytes

-- the answers to a byte string and an answer buffer of so many bytes, in the order of document 01's numbers
pub record AnswerOf (s : List ℕ) (room : ℕ) (x : Answer) : Type 0 where
  pub short : room < least_room → x ≡ refused 1
  pub faulty : least_room ≤ room → (read_table s).number ≢ 0 → x ≡ refused (read_table s).number
  pub right : least_room ≤ room → (read_table s).number ≡ 0 → Right (read_table s).table x

-- the place that is returned with the number: of 1 it is 0, as of all that concern no record
unfoldable pub answer_place : List ℕ → (room : ℕ) → ℕ
answer_place s room = cond (ltb room least_room) 0 (read_table s).place
