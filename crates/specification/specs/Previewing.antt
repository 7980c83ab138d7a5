-- The preview of a join (change request F-5): the join into a copy and the analysis of the copy, and what the code promises of it.
use Rattle.std.specs.Prelude.{ℕ, ◌≤◌, ◌<◌, ◌≡◌, ◌≢◌, List, length, take, drop}
use Rattle.specification.specs.Bytes.{NothingWritten}
use Rattle.specification.specs.Table.{port_count}
use Rattle.specification.specs.Reading.{read_on, start}
use Rattle.specification.specs.Answers.{Answer, number, Right, least_room}
use Rattle.specification.specs.Analysed.{Analysed}
use Rattle.specification.specs.Demanded.{Demanded}
use Rattle.specification.specs.Joining.{joined_table, join_of, join_into, JoinReturned, InputFault, NoFault}
use Rattle.specification.specs.declared.Outcome.{Outcome}
use Rattle.specification.specs.declared.JoinOutcome.{JoinOutcome}

-- what a preview returns, without the input
abbrev pub analysis_of : JoinOutcome → Outcome
analysis_of r = record { number = r.number; place = r.place; written = r.written }

-- what the code promises of a preview, over the bytes of the join, which has room for every table, so that 16 is not tried. The buffer is the
-- answer buffer
pub record Previewed (first second added before after : List ℕ) (r : JoinOutcome) : Type 0 where
  -- the join's refusal, where there is one: number, place and input, and nothing is written
  pub refused : (join_of first second added).number ≢ 0 → JoinReturned (join_of first second added) before after r
  -- else a right answer of analysing the joined bytes; it concerns no input
  pub analysed : (join_of first second added).number ≡ 0 → Analysed (join_of first second added).table before after (analysis_of r)
  pub no_input : (join_of first second added).number ≡ 0 → r.input ≡ 0

-- ---- what follows for a caller
module _ (first second added : List ℕ) where
  -- the number, place and input of a preview with an answer buffer of so many bytes, in the order in which they are tried: 2 to 11 of an
  -- input, 1, 12, and the number of a right answer to the joined table
  pub data PreviewNumbers (room : ℕ) : (number place input : ℕ) → Type 0 where
    faulty : {n p i : ℕ} → InputFault first second added n p i → PreviewNumbers room n p i
    short : NoFault first second added → room < least_room → PreviewNumbers room 1 0 0
    no_port_lem : NoFault first second added → least_room ≤ room → port_count (joined_table first second added) ≡ 0 → PreviewNumbers room 12 0 0
    right : (x : Answer) → NoFault first second added → least_room ≤ room → 0 < port_count (joined_table first second added)
        → Right (joined_table first second added) x
        → PreviewNumbers room (number x) 0 0

-- the same as an analysis: number and place, and 13 and 15 aside, which show one loop, floor or block of several, every byte
pub record SameAnalysis (r : JoinOutcome) (after : List ℕ) (o : Outcome) (after' : List ℕ) : Type 0 where
  pub number : r.number ≡ o.number
  pub place : r.place ≡ o.place
  pub written : r.number ≢ 13 → r.number ≢ 15 → r.written ≡ o.written
  pub bytes : r.number ≢ 13 → r.number ≢ 15 → after ≡ after'

-- the same as a join that is refused
pub record SameRefusal (r j : JoinOutcome) : Type 0 where
  pub number : r.number ≡ j.number
  pub place : r.place ≡ j.place
  pub input : r.input ≡ j.input

pub record PreviewDemanded (first second added before after : List ℕ) (r : JoinOutcome) : Type 0 where
  pub numbers : PreviewNumbers first second added (length before) r.number r.place r.input
  -- there is no table to be short of room
  pub never_short : r.number ≢ 16
  -- a fault of an input writes nothing; else the three demands, of the joined bytes, which are read as the joined table
  pub refused : (join_of first second added).number ≢ 0 → NothingWritten before after r.written
  pub demands : (join_of first second added).number ≡ 0 → Demanded (join_of first second added).table before after (analysis_of r)
  pub read_back : (join_of first second added).number ≡ 0
      → read_on (join_of first second added).table start ≡ record { number = 0; place = 0; table = joined_table first second added }
  -- at most so many bytes are written, and other bytes are unchanged
  pub room : r.written ≤ least_room
  pub same_length : length after ≡ length before
  pub rest : drop r.written after ≡ drop r.written before
  -- it equals joining into a copy, of any room that does, and analysing what was written there
  pub as_refused : (copy copy' : List ℕ) (j : JoinOutcome) → JoinReturned (join_into first second added (length copy)) copy copy' j
      → j.number ≢ 0
      → j.number ≢ 16
      → SameRefusal r j
  pub as_analysed : (copy copy' after' : List ℕ) (j : JoinOutcome) (o : Outcome) → JoinReturned (join_into first second added (length copy)) copy copy' j
      → j.number ≡ 0
      → Analysed (take j.written copy') before after' o
      → SameAnalysis r after o after'
