-- What hiding a port keeps (change request F-6): the periods of the other ports, and their possible starts, with no bar at zero.
use Rattle.std.specs.Prelude.{ℕ, ◌≤◌, ◌<◌, ◌≡◌, ◌≢◌, true, false, List, length, take, drop}
use Rattle.numbers.specs.Rationals.{Rational, ◌≈◌}
use Rattle.specification.specs.Bytes.{NothingWritten}
use Rattle.specification.specs.Table.{Table, IsPort, most_links}
use Rattle.specification.specs.Reading.{read_table, read_on, start}
use Rattle.specification.specs.Answers.{Timing, period_of, Answer, consistent, number, least_room, AnswerOf, answer_place}
use Rattle.specification.specs.Solutions.{Starts, IsSolution}
use Rattle.specification.specs.Encoding.{encode_table, most_table_bytes}
use Rattle.specification.specs.Hiding.{cannot_hide, value_leaves, links_after, old_number, hidden_table}
use Rattle.specification.specs.declared.Outcome.{Outcome}

-- periods and starts P' and S' are P and S without port p
pub record Without (p : ℕ) (P S P' S' : ℕ → Rational) : Type 0 where
  pub period : (q : ℕ) → P' q ≡ P (old_number p q)
  pub start : (q : ℕ) → S' q ≡ S (old_number p q)

-- a solution of t that is P' and S' but for port p
pub record Extension (t : Table) (p : ℕ) (P' S' : ℕ → Rational) : Type 0 where
  pub period : ℕ → Rational
  pub start : ℕ → Rational
  pub same : Without p period start P' S'
  pub solution : IsSolution t period start

-- the solutions of t' are exactly those of t without port p: at every period, with starts of any sign
pub record SameSolutions (t t' : Table) (p : ℕ) : Type 0 where
  pub restrict : (P S P' S' : ℕ → Rational) → Without p P S P' S' → IsSolution t P S → IsSolution t' P' S'
  pub extend : (P' S' : ℕ → Rational) → IsSolution t' P' S' → Extension t p P' S'

-- starts of t, at its returned periods, that are S' but for port p
pub record StartsBehind (t : Table) (p : ℕ) (r : Timing) (S' : ℕ → Rational) : Type 0 where
  pub start : ℕ → Rational
  pub meets : Starts t (period_of r) start
  pub same : (q : ℕ) → S' q ≡ start (old_number p q)

-- the returned periods of the other ports are kept, and the starts that are possible at them, of any sign, are the same
pub record SameTimes (t t' : Table) (p : ℕ) (r r' : Timing) : Type 0 where
  pub periods : (q : ℕ) → IsPort t' q → period_of r' q ≈ period_of r (old_number p q)
  pub starts_there : (S : ℕ → Rational) → Starts t (period_of r) S → Starts t' (period_of r') (λ q. S (old_number p q))
  pub starts_back : (S' : ℕ → Rational) → Starts t' (period_of r') S' → StartsBehind t p r S'

-- ---- what follows for a caller
-- the model is consistent
pub record ConsistentModel (s : List ℕ) : Type 0 where
  pub timing : Timing
  pub right : AnswerOf s least_room (consistent timing)

module _ (s : List ℕ) (p : ℕ) where
  abbrev pub hidden_of : Table
  hidden_of = hidden_table (read_table s).table p

  -- the number and place of hiding into a buffer of so many bytes, in the order in which they are tried
  pub data HideNumbers (room : ℕ) : (number place : ℕ) → Type 0 where
    own : (x : Answer) → AnswerOf s least_room x → number x ≢ 0 → HideNumbers room (number x) (answer_place s least_room)
    no_hiding : ConsistentModel s → cannot_hide (read_table s).table p ≡ true → HideNumbers room 18 0
    leaves : ConsistentModel s → cannot_hide (read_table s).table p ≡ false → value_leaves (read_table s).table p ≡ true → HideNumbers room 19 0
    many : ConsistentModel s → cannot_hide (read_table s).table p ≡ false → value_leaves (read_table s).table p ≡ false
        → most_links < length (links_after (read_table s).table p)
        → HideNumbers room 7 0
    short : ConsistentModel s → cannot_hide (read_table s).table p ≡ false → value_leaves (read_table s).table p ≡ false
        → length (links_after (read_table s).table p) ≤ most_links
        → room < length (encode_table hidden_of)
        → HideNumbers room 16 0
    hidden : ConsistentModel s → cannot_hide (read_table s).table p ≡ false → value_leaves (read_table s).table p ≡ false
        → length (links_after (read_table s).table p) ≤ most_links
        → length (encode_table hidden_of) ≤ room
        → HideNumbers room 0 0

  -- what is analysed of the written bytes s'
  pub record TimesKept (s' : List ℕ) : Type 0 where
    pub number_kept : (x : Answer) → AnswerOf s' least_room x → number x ≡ 0
    pub times : (r r' : Timing) → AnswerOf s least_room (consistent r) → AnswerOf s' least_room (consistent r')
        → SameTimes (read_table s).table hidden_of p r r'

  pub record HideDemanded (before after : List ℕ) (r : Outcome) : Type 0 where
    pub numbers : HideNumbers (length before) r.number r.place
    -- there is room for every result in the most bytes of a table
    pub room : most_table_bytes ≤ length before → r.number ≢ 16
    pub refused : r.number ≢ 0 → NothingWritten before after r.written
    -- what is written is read back as the hidden table
    pub read_back : r.number ≡ 0 → read_on (take r.written after) start ≡ record { number = 0; place = 0; table = hidden_of }
    -- other bytes than the written ones are unchanged
    pub same_length : length after ≡ length before
    pub rest : drop r.written after ≡ drop r.written before
    -- the solutions are the same but for the hidden port, and so is what the analysis returns of their least
    pub solutions : r.number ≡ 0 → SameSolutions (read_table s).table hidden_of p
    pub kept : r.number ≡ 0 → TimesKept (take r.written after)
