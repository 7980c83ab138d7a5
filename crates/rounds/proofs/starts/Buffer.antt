-- Rows of a buffer and the costs behind them: a round from one row into the next, and what is in each part after that.
use Prim.Native.Nat.{ℕ, suc, ◌+◌, ◌-◌, ◌*◌, ◌≤◌, ◌<◌}
use mathlib.Core.Path.{◌≡◌, sym, ap, ◌∙◌}
use mathlib.Core.List.{List, ◌++◌}
use Rattle.std.specs.Prelude.{Option}
use native.Mathlib.Omega.{arith}
use lib.ListN.{length, take, drop, length-append, length-take, length-drop, take-append-drop}
use lib.Seq.{take-append-le, drop-append-le, take_at, drop_at, drop-drop, length-take-le}
use Rattle.rounds.specs.Starts.{row, costs_in}
use Rattle.rounds.specs.Relax.{CanRound, Round}
use Rattle.rounds.specs.Advance.{with_row, Ahead, Advanced}

module _ (work : List ℕ) (r : ℕ) (ys : List ℕ) (room : 64 * r + 64 ≤ length work) (ports : length ys ≡ 64) where
  pub with_row_length : length (with_row work r ys) ≡ length work
  with_row_length = simp (length-append, length-take, length-drop) (omega arith)

  from_row : drop (64 * r) (with_row work r ys) ≡ ys ++ drop 64 (drop (64 * r) work)
  from_row = drop_at (take (64 * r) work) (ys ++ drop 64 (drop (64 * r) work)) (64 * r) (length-take-le (64 * r) work (omega arith))

  pub with_row_here : row (with_row work r ys) r ≡ ys
  with_row_here = rw from_row (take_at ys (drop 64 (drop (64 * r) work)) 64 ports)

  front : (q : ℕ) → q < r → (x : List ℕ) → row (take (64 * r) work ++ x) q ≡ row (take (64 * r) work) q
  front q b x =
      let e : length (take (64 * r) work) ≡ 64 * r = length-take-le (64 * r) work (omega arith) in
      rw (drop-append-le (64 * q) (take (64 * r) work) x (omega arith), take-append-le 64 (drop (64 * q) (take (64 * r) work)) x (simp length-drop (omega arith)))

  pub with_row_before : (q : ℕ) → q < r → row (with_row work r ys) q ≡ row work q
  with_row_before q b =
      front q b (ys ++ drop 64 (drop (64 * r) work)) ∙ sym (front q b (drop (64 * r) work)) ∙ ap (λ (x : List ℕ). row x q) (take-append-drop (64 * r) work)

  module _ (n : ℕ) (b : r ≤ n) where
    behind : (x : List ℕ) → drop (64 * n + 64) x ≡ drop (64 * n - 64 * r) (drop 64 (drop (64 * r) x))
    behind x =
        let e : 64 * n + 64 ≡ 64 * r + 64 + (64 * n - 64 * r) = omega arith in
        rw (drop-drop 64 (64 * r) x, drop-drop (64 * n - 64 * r) (64 * r + 64) x, e)

    -- the costs behind row n, at or after row r, are as they were
    pub with_row_costs : (edges : ℕ) → costs_in (with_row work r ys) n edges ≡ costs_in work n edges
    with_row_costs edges = rw (behind (with_row work r ys), from_row, drop_at ys (drop 64 (drop (64 * r) work)) 64 ports, ← behind work)

-- the part of the buffer from 64 r to 64 r + 64
row_part : (work : List ℕ) (r : ℕ) → take (64 * r + 64 - 64 * r) (drop (64 * r) work) ≡ row work r
row_part work r = let e : 64 * r + 64 - 64 * r ≡ 64 = omega arith in rw e

-- the part of the buffer behind row n
costs_part : (work : List ℕ) (n edges : ℕ) → take (64 * n + 64 + 4 * edges - (64 * n + 64)) (drop (64 * n + 64) work) ≡ costs_in work n edges
costs_part work n edges = let e : 64 * n + 64 + 4 * edges - (64 * n + 64) ≡ 4 * edges = omega arith in rw e

-- u in the part of the buffer from 64 r + 64 to 64 r + 128
next_row : (work u : List ℕ) (r : ℕ) → take (64 * r + 64) work ++ (u ++ drop (64 * r + 64 + 64 - (64 * r + 64)) (drop (64 * r + 64) work)) ≡ with_row work (suc r) u
next_row work u r =
    let a : 64 * r + 64 ≡ 64 * suc r = omega arith in
    let l : 64 * suc r + 64 - 64 * suc r ≡ 64 = omega arith in
    rw (a, l)

-- s is a copy of row r
module _ {work s : List ℕ} {r n edges : ℕ} (w : Ahead work r n edges) (copied : s ≡ take (64 * r + 64 - 64 * r) (drop (64 * r) work)) where
  copy_is : s ≡ row work r
  copy_is = copied ∙ row_part work r

  pub can_round_copy : CanRound (take (64 * n + 64 + 4 * edges - (64 * n + 64)) (drop (64 * n + 64) work)) s
  can_round_copy = rw (copy_is, costs_part work n edges) w.low

  -- u is a copy of the starts ys of the round
  module _ {u ys : List ℕ} (e : u ≡ ys) where
    pub advanced : {j : Option ℕ} → Round (take (64 * n + 64 + 4 * edges - (64 * n + 64)) (drop (64 * n + 64) work)) s ys j
        → Advanced (costs_in work n edges) r work (take (64 * r + 64) work ++ (u ++ drop (64 * r + 64 + 64 - (64 * r + 64)) (drop (64 * r + 64) work))) j
    advanced {j} x =
        let y : Round (costs_in work n edges) (row work r) ys j = rw (copy_is, costs_part work n edges) at x in
        record { made = next_row work u r ∙ rw (e, y.made); raised = rw y.made at y.raised }

    pub costs_kept : length ys ≡ 64
        → costs_in (take (64 * r + 64) work ++ (u ++ drop (64 * r + 64 + 64 - (64 * r + 64)) (drop (64 * r + 64) work))) n edges ≡ costs_in work n edges
    costs_kept ports =
        ap (λ (x : List ℕ). costs_in x n edges) (next_row work u r) ∙ with_row_costs work (suc r) u (omega arith) (ap length e ∙ ports) n (omega arith) edges
