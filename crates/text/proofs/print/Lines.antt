-- The lines of the records that are left.
use Prim.Native.Nat.{ℕ, zero, suc, ◌+◌, ◌-◌, ◌≤◌, ◌<◌}
use mathlib.Core.Path.{◌≡◌, refl, sym, ap, ◌∙◌}
use mathlib.Core.Bool.{false}
use mathlib.Core.List.{List, [], ◌++◌}
use native.Mathlib.Omega.{arith}
use lib.ListN.{length, take, drop, length-drop}
use lib.Seq.{length-take-le}
use Rattle.std.proofs.Common.{take-append-drop}
use Rattle.specification.specs.Bytes.{number_at}
use Rattle.text.specs.declared.record.Record.{Record}
use Rattle.text.specs.declared.writer.Writer.{Writer}
use Rattle.text.specs.Places.{Lies, is_record_lem}
use Rattle.text.specs.Printed.{is_record, record_lines}
use Rattle.text.specs.PrintedLaws.{lines_behind}
use Rattle.text.specs.Record.{line_of, First}
use Rattle.text.proofs.writer.Part.{WroteUpTo}

-- where no record lies there are no lines
no_lines : (s : List ℕ) (n at number : ℕ) → is_record s at ≡ false → record_lines s n at number ≡ []
unfolding record_lines
no_lines s zero at number e = refl
no_lines s (suc n) at number e = rw e

module _ {rest : List ℕ} {r : Record} {behind : List ℕ} (f : First rest r behind) where
  lies : Lies rest 0
  lies = is_record_lem f.reads.is

  pub shorter : length behind < length rest
  shorter = rw f.rest (omega (arith, length-drop (2 + number_at rest 0 2) rest, lies.starts, lies.ends))

  lines_behind_first : (n number : ℕ) → record_lines rest n (0 + 2 + number_at rest 0 2) number ≡ record_lines behind n 0 number
  lines_behind_first n number =
      let k : ℕ = 2 + number_at rest 0 2 in
      let place : 0 + 2 + number_at rest 0 2 ≡ length (take k rest) + 0 = omega (arith, length-take-le k rest lies.ends) in
      let moved = rw (take-append-drop k rest) at (lines_behind (take k rest) (drop k rest) n 0 number) in
      ap (λ (at : ℕ). record_lines rest n at number) place ∙ moved ∙ ap (λ (s : List ℕ). record_lines s n 0 number) (sym f.rest)

  lines_first : (n number : ℕ) → record_lines rest (suc n) 0 number ≡ line_of r number ++ record_lines behind n 0 (number + 1)
  unfolding record_lines
  lines_first n number = rw (f.reads.is, f.reads.line number, lines_behind_first n (number + 1))

module _ {text : List ℕ} (rest : List ℕ) {most : ℕ} (number : ℕ) {w₀ w : Writer} (p : WroteUpTo text (record_lines rest (most - number) 0 number) w₀ w) (h : number + length rest ≤ most) where
  pub next_line : {r : Record} {behind : List ℕ} → First rest r behind → WroteUpTo text (line_of r number ++ record_lines behind (most - (number + 1)) 0 (number + 1)) w₀ w
  next_line f =
      let n : most - number ≡ suc (most - (number + 1)) = omega (arith, shorter f) in
      rw (n, lines_first f (most - (number + 1)) number) at p

  pub no_line : is_record rest 0 ≡ false → WroteUpTo text [] w₀ w
  no_line e = rw (no_lines rest (most - number) 0 number e) at p
