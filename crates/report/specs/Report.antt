-- The text that the check program prints of an input.
use Rattle.std.specs.Prelude.{ℕ, ◌≤◌, ◌<◌, ◌≡◌, Bool, true, false, List, length}
use Rattle.specification.specs.Bytes.{Written}
use Rattle.specification.specs.Reading.{read_table}
use Rattle.specification.specs.Answers.{Answer, least_room, AnswerOf, answer_place}
use Rattle.input.specs.Input.{most_bytes}
use Rattle.text.specs.Lines.{unread_line, long_line}
use Rattle.report.specs.AnswerText.{text_of}

-- the room for the text of every answer
abbrev pub text_room : ℕ
text_room = 61492

-- the printed form of a right answer to the input, with its place
pub record PrintedAnswer (s text : List ℕ) : Type 0 where
  pub answer : Answer
  pub right : AnswerOf s least_room answer
  pub is : text ≡ text_of (answer_place s least_room) (read_table s).table answer

pub record PrintedText (s before after : List ℕ) (r : ℕ) : Type 0 where
  pub text : List ℕ
  pub printed : PrintedAnswer s text
  pub written : Written text before after r
  pub within : r ≤ length after

-- the text of an input; where a read failed nothing is said of the bytes that were read before
pub record IsText (s : List ℕ) (failed : Bool) (text : List ℕ) : Type 0 where
  pub unread : failed ≡ true → text ≡ unread_line
  pub long : failed ≡ false → most_bytes < length s → text ≡ long_line
  pub analysed : failed ≡ false → length s ≤ most_bytes → PrintedAnswer s text

-- it stands at the front of the buffer, and the rest of the buffer is unchanged
pub record Reported (s : List ℕ) (failed : Bool) (before after : List ℕ) (r : ℕ) : Type 0 where
  pub text : List ℕ
  pub is_text : IsText s failed text
  pub written : Written text before after r
  pub within : r ≤ length after
