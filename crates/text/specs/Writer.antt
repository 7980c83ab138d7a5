-- Words written into the text one behind another.
use Rattle.std.specs.Prelude.{ℕ, ◌+◌, ◌≤◌, ◌≡◌, refl, List, [], ◌++◌, length}
use Rattle.std.specs.Borrow.{MutBor}
use Rattle.std.proofs.Common.{ap, ◌∙◌, arith, length-append}
use Rattle.std.proofs.lemmas.List.Edits.{sets, sets-eq}
use Rattle.specification.specs.Bytes.{Written}
use Rattle.records.specs.WrittenLaws.{sets_append}
use Rattle.text.specs.declared.writer.Writer.{Writer}

-- the line fits behind what is written
pub record HasRoom (line : List ℕ) (w : Writer) : Type 0 where
  pub fits : w.at + length line ≤ length w.text.now

-- the line stands behind what was written, and what is around it is unchanged
pub record Wrote (line : List ℕ) (w w' : Writer) : Type 0 where
  pub contents : w'.text.now ≡ sets w.text.now w.at line
  pub counted : w'.at ≡ w.at + length line
  pub same_length : length w'.text.now ≡ length w.text.now
  pub same_text : w'.text.ghost_name ≡ w.text.ghost_name

-- nothing of the text is written yet
pub record Begins (text : MutBor (List ℕ)) (w : Writer) : Type 0 where
  pub unwritten : w.text.now ≡ text.now
  pub at_front : w.at ≡ 0
  pub same_text : w.text.ghost_name ≡ text.ghost_name

infixl 60 ◌⨾◌
-- one word, and another behind it
pub ◌⨾◌ : {xs ys : List ℕ} {w w' w'' : Writer} → Wrote xs w w' → Wrote ys w' w'' → Wrote (xs ++ ys) w w''
◌⨾◌ {xs} {ys} {w} p q =
    record {
      contents = rw (q.contents, p.contents, p.counted) (sets_append w.text.now w.at xs ys);
      counted = omega (arith, length-append xs ys);
      same_length = q.same_length ∙ p.same_length;
      same_text = q.same_text ∙ p.same_text;
    }

-- room for two words is room for the first, and then for the second
pub room_first : {xs : List ℕ} (ys : List ℕ) {w : Writer} → HasRoom (xs ++ ys) w → HasRoom xs w
room_first {xs} ys h = record { fits = omega (arith, length-append xs ys) }

pub room_behind : {xs ys : List ℕ} {w w' : Writer} → Wrote xs w w' → HasRoom (xs ++ ys) w → HasRoom ys w'
room_behind {xs} {ys} p h = record { fits = omega (arith, length-append xs ys) }

-- nothing is written
pub wrote_nothing : {w : Writer} → Wrote [] w w
wrote_nothing = record { contents = refl; counted = omega arith; same_length = refl; same_text = refl }

-- what is written from the front on; the text is then what the writer left
pub written : {text : MutBor (List ℕ)} {line left : List ℕ} {w w' : Writer}
    → Begins text w
    → Wrote line w w'
    → length line ≤ length text.now
    → left ≡ w'.text.now
    → Written line text.now left w'.at
written {text} {line} {left} b p h e =
    let n : 0 + length line ≡ length line = omega arith in
    record {
      contents = e ∙ p.contents ∙ rw (b.at_front, b.unwritten) (rw n at (sets-eq line text.now 0 (omega arith)));
      counted = omega arith;
    }

pub room_at_front : {text : MutBor (List ℕ)} {line : List ℕ} {w : Writer} → Begins text w → length line ≤ length text.now → HasRoom line w
room_at_front {text} b h = let e = ap length b.unwritten in record { fits = omega arith }

pub wrote_within : {line : List ℕ} {w w' : Writer} → HasRoom line w → Wrote line w w' → w'.at ≤ length w'.text.now
wrote_within h p = omega arith
