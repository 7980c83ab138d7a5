-- The ports of a table without one of them.
use Rattle.std.specs.Prelude.{ℕ, ◌+◌, ◌-◌, ◌≤◌, ◌<◌, ◌≡◌, refl, Bool, true, false, cond, ◌≢◌, List, take, drop, set}
use Rattle.std.proofs.Math.Path.{ap}
use Rattle.std.proofs.Common.{◌∙◌, length-append, length-drop, length-set, length-take-le, get_or-set_same, get_or-set_other, lt-ltb, le-ltb}
use Rattle.std.proofs.Math.Logic.{⊎_elim}
use native.Mathlib.Omega.{arith}
use Rattle.std.proofs.Math.ListN.{length, get_or, get_or-append}
use Rattle.std.proofs.Math.Seq.{get_or-append-add, get_or-take, get_or-drop}
use Rattle.numbers.specs.ListLaws.{lt_or_le}
use Rattle.specification.specs.Table.{Table, no_port, port, port_count, IsPort}
use Rattle.specification.specs.Hiding.{old_number, without, lowers, sender, limit_rate, lowered_ports}
use Rattle.specification.specs.declared.Port.{Port}

module _ (p : ℕ) (ps : List Port) (here : p < length ps) where
  front_length : length (take p ps) ≡ p
  front_length = length-take-le p ps (omega arith)

  pub without_length : length (without p ps) + 1 ≡ length ps
  without_length = omega (arith, length-append (take p ps) (drop (p + 1) ps), front_length, length-drop (p + 1) ps)

  pub without_at : (r : ℕ) → get_or (without p ps) r no_port ≡ get_or ps (old_number p r) no_port
  unfolding old_number
  without_at r = ⊎_elim
      (λ (l : r < p).
      rw (lt-ltb r p l) (get_or-append (take p ps) (drop (p + 1) ps) no_port r (omega (arith, front_length)) ∙ get_or-take p ps r no_port l))
      (λ (l : p ≤ r).
      let e : r ≡ length (take p ps) + (r - p) = omega (arith, front_length) in
      let f : p + 1 + (r - p) ≡ r + 1 = omega arith in
      rw (le-ltb r p l)
      (ap (λ (i : ℕ). get_or (without p ps) i no_port) e
      ∙ get_or-append-add (take p ps) (drop (p + 1) ps) (r - p) no_port
      ∙ get_or-drop (p + 1) ps (r - p) no_port
      ∙ ap (λ (i : ℕ). get_or ps i no_port) f))
      (lt_or_le r p)

-- ---- with the sender's rate lowered
module _ (t : Table) (p : ℕ) where
  pub lowered_length : length (lowered_ports t p) ≡ port_count t
  lowered_length = by (lowers t p)
    where
      by : (b : Bool) → length (cond b (set t.ports (sender t p) (limit_rate t p)) t.ports) ≡ port_count t
      by true = length-set t.ports (sender t p) (limit_rate t p)
      by false = refl

  pub lowered_sender : (b : Bool) → lowers t p ≡ b → IsPort t (sender t p)
      → get_or (lowered_ports t p) (sender t p) no_port ≡ cond b (limit_rate t p) (port t (sender t p))
  lowered_sender true e i = rw e (get_or-set_same t.ports (sender t p) (limit_rate t p) no_port i.below)
  lowered_sender false e i = rw e refl

  pub lowered_other : (q : ℕ) → q ≢ sender t p → get_or (lowered_ports t p) q no_port ≡ port t q
  lowered_other q d = by (lowers t p)
    where
      by : (b : Bool) → get_or (cond b (set t.ports (sender t p) (limit_rate t p)) t.ports) q no_port ≡ port t q
      by true = get_or-set_other t.ports (sender t p) q (limit_rate t p) no_port d
      by false = refl
