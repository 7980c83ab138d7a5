-- A text that is written in part.
use mathlib.Core.Path.{◌≡◌, refl, ◌∙◌}
use mathlib.Core.List.{List, [], ◌++◌, append_assoc, append-nil}
use Prim.Native.Nat.{ℕ}
use Rattle.text.specs.declared.writer.Writer.{Writer}
use Rattle.text.specs.Writer.{HasRoom, Wrote, wrote_nothing, ◌⨾◌, room_first, room_behind}

-- what is written makes the whole with the rest
pub record WroteUpTo (text rest : List ℕ) (w₀ w : Writer) : Type 0 where
  pub done : List ℕ
  pub wrote : Wrote done w₀ w
  pub all : done ++ rest ≡ text

pub wrote_none : {text : List ℕ} {w : Writer} → WroteUpTo text text w w
wrote_none = record { done = []; wrote = wrote_nothing; all = refl }

module _ {text : List ℕ} (xs rest : List ℕ) {w₀ w : Writer} (p : WroteUpTo text (xs ++ rest) w₀ w) where
  pub room_next : HasRoom text w₀ → HasRoom xs w
  room_next h =
      let room : HasRoom (p.done ++ (xs ++ rest)) w₀ = rw p.all h in
      room_first _ (room_behind p.wrote room)

  pub wrote_next : {w' : Writer} → Wrote xs w w' → WroteUpTo text rest w₀ w'
  wrote_next q = record { done = p.done ++ xs; wrote = p.wrote ⨾ q; all = append_assoc p.done xs rest ∙ p.all }

pub wrote_all : {text : List ℕ} {w₀ w : Writer} → WroteUpTo text [] w₀ w → Wrote text w₀ w
wrote_all p = rw (rw append-nil at p.all) at p.wrote
