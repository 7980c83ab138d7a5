-- Laws of what is written to the front of a buffer, and of stores right behind one another.
use Rattle.std.specs.Prelude.{ℕ, suc, ◌+◌, ◌-◌, ◌≤◌, ◌≡◌, refl, List, [], ◌∷◌, ◌++◌, length, take, drop}
use Rattle.std.proofs.Common.{sym, ap, ◌∙◌, append_assoc, append-nil, arith, length-append, length-drop, drop_of_length-le, take_all, take_at, drop_at, drop-drop}
use Rattle.std.proofs.lemmas.List.Edits.{sets, sets-eq}
use Rattle.specification.specs.Bytes.{Written, NothingWritten}

-- two stores, the second right behind the first, are one of both lists
pub sets_append : (l : List ℕ) (at : ℕ) (xs ys : List ℕ) → sets (sets l at xs) (at + length xs) ys ≡ sets l at (xs ++ ys)
sets_append l at [] ys = let e : at + 0 ≡ at = omega arith in rw e
sets_append l at (x ∷ xs) ys =
    let e : at + suc (length xs) ≡ suc at + length xs = omega arith in
    rw e (sets_append _ (suc at) xs ys)

-- a record stored at the front is written
pub written : {xs l l' : List ℕ} {count : ℕ}
    → l' ≡ sets l 0 xs
    → count ≡ length xs
    → length xs ≤ length l
    → Written xs l l' count
written {xs} {l} e c h =
    let z : 0 + length xs ≡ length xs = omega arith in
    record { contents = e ∙ rw z at (sets-eq xs l 0 (omega arith)); counted = c }

module _ {xs ys₀ ys : List ℕ} {n : ℕ} (w : Written xs ys₀ ys n) where
  -- the front is the list
  pub written_front : take n ys ≡ xs
  written_front = rw w.contents (take_at xs (drop (length xs) ys₀) n (sym w.counted))

  -- the buffer is as long as it was, where it had room
  pub written_length : length xs ≤ length ys₀ → length ys ≡ length ys₀
  written_length h = ap length w.contents ∙ simp (length-append, length-drop) (omega arith)

  -- no byte behind it is changed
  pub written_rest : drop n ys ≡ drop n ys₀
  written_rest = rw (w.counted, w.contents, drop_at xs (drop (length xs) ys₀) (length xs) refl)

  pub written_within : n ≤ length ys
  written_within = omega (arith, w.counted, simp (length-append, length-drop) at (ap length w.contents))

-- nothing is written
pub written_none : (ys : List ℕ) → Written [] ys ys 0
written_none ys = record { contents = refl; counted = refl }

pub written_nothing : {xs ys₀ ys : List ℕ} {n : ℕ} → xs ≡ [] → Written xs ys₀ ys n → NothingWritten ys₀ ys n
written_nothing e w = record { unchanged = rw e at w.contents; none = rw e at w.counted }

-- the part of ys from a place on, and ys with that part put back
abbrev pub part_at : List ℕ → ℕ → List ℕ
part_at ys at = take (length ys - at) (drop at ys)

abbrev pub put_back : List ℕ → ℕ → List ℕ → List ℕ
put_back ys at part = take at ys ++ (part ++ drop (length ys - at) (drop at ys))

-- two records, the second written into the part that begins behind the first
pub written_append : {xs b ys₀ ys part : List ℕ} {at n : ℕ} → Written xs ys₀ ys at → Written b (part_at ys at) part n
    → Written (xs ++ b) ys₀ (put_back ys at part) (at + n)
written_append {xs} {b} {ys₀} {ys} {part} {at} {n} w v = record {
  contents =
      let short : length (drop at ys) ≤ length ys - at = omega (arith, length-drop at ys) in
      let placed : length xs ≡ at = omega (arith, w.counted) in
      let front : take at ys ≡ xs = rw (w.contents, take_at xs _ at placed) in
      let behind : drop at ys ≡ drop (length xs) ys₀ = rw (w.contents, drop_at xs _ at placed) in
      let whole : part_at ys at ≡ drop (length xs) ys₀ = take_all _ _ short ∙ behind in
      rw (drop_of_length-le (drop at ys) short, append-nil, front, v.contents, whole, drop-drop, length-append, append_assoc);
  counted = rw length-append (omega (arith, w.counted, v.counted));
}
