-- The text that the preview program prints of three files.
use Rattle.std.specs.Prelude.{ℕ, ◌≤◌, ◌≡◌, ◌≢◌, Bool, true, false, List, length}
use Rattle.specification.specs.Bytes.{Written}
use Rattle.specification.specs.Joining.{join_of}
use Rattle.files.specs.Files.{File, line_of, added_whole, join_line}
use Rattle.text.specs.Lines.{answer_line}
use Rattle.report.specs.Report.{PrintedAnswer}

-- the line of the join's refusal; else what the check program prints of the joined bytes
pub record PrintedPreview (first second added text : List ℕ) : Type 0 where
  pub refused : (join_of first second added).number ≢ 0 → text ≡ answer_line (join_of first second added).number (join_of first second added).place
  pub analysed : (join_of first second added).number ≡ 0 → PrintedAnswer (join_of first second added).table text

-- of what is given of the files, which were read whole or not
pub record GivenText (first second added : List ℕ) (whole failed : Bool) (text : List ℕ) : Type 0 where
  pub stopped : whole ≡ false → text ≡ line_of (join_of first second added).number (join_of first second added).place whole failed
  pub previewed : whole ≡ true → PrintedPreview first second added text

pub record GivenPrinted (first second added : List ℕ) (whole failed : Bool) (before after : List ℕ) (r : ℕ) : Type 0 where
  pub text : List ℕ
  pub is_text : GivenText first second added whole failed text
  pub written : Written text before after r
  pub within : r ≤ length after

-- the text of three files: where one was not read whole, the line of the join
pub record IsPreviewText (first second added : File) (text : List ℕ) : Type 0 where
  pub stopped : added_whole first second added ≡ false → text ≡ join_line first second added
  pub previewed : added_whole first second added ≡ true → PrintedPreview first.bytes second.bytes added.bytes text

-- it stands at the front of the buffer, and the rest of the buffer is unchanged
pub record PreviewReported (first second added : File) (before after : List ℕ) (r : ℕ) : Type 0 where
  pub text : List ℕ
  pub is_text : IsPreviewText first second added text
  pub written : Written text before after r
  pub within : r ≤ length after
