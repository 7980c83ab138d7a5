-- What is known where a record lies.
use Rattle.std.specs.Prelude.{ℕ, ◌+◌, ◌≤◌, ◌<◌, ◌≡◌, refl, Bool, true, false, cond, List, eqb, ltb, leb, length}
use borrow.Author.Tests.{eqb-true, ltb-true, leb-true}
use Rattle.specification.specs.Bytes.{number_at}
use Rattle.text.specs.Printed.{has_line, has_period, is_record}

pub record Lies (s : List ℕ) (at : ℕ) : Type 0 where
  pub starts : at + 3 < length s
  pub ends : at + 2 + number_at s at 2 ≤ length s
  pub form : has_line (number_at s (at + 2) 2) (number_at s at 2) ≡ true
  pub period : has_period s at ≡ true

-- both tests passed
tests : (b : Bool) {t : Bool} → cond b t false ≡ true → (b ≡ true) × (t ≡ true)
tests true e = (refl, e)
tests false {t} e = (e, cc)

pub is_record_lem : {s : List ℕ} {at : ℕ} → is_record s at ≡ true → Lies s at
unfolding is_record
is_record_lem {s} {at} e =
    let outer = tests (ltb (at + 3) (length s)) e in
    let inner = tests (leb (at + 2 + number_at s at 2) (length s)) outer.1 in
    let last = tests (has_line (number_at s (at + 2) 2) (number_at s at 2)) inner.1 in
    record { starts = ltb-true _ _ outer.0; ends = leb-true _ _ inner.0; form = last.0; period = last.1 }

-- the length of each kind
module _ {s : List ℕ} {at : ℕ} (h : Lies s at) where
  abbrev kind : ℕ
  kind = number_at s (at + 2) 2

  abbrev size : ℕ
  size = number_at s at 2

  pub size_port : kind ≡ 16 → size ≡ 22
  unfolding has_line
  size_port e = eqb-true size 22 (rw e at h.form)

  pub size_buffer : kind ≡ 17 → size ≡ 12
  unfolding has_line
  size_buffer e = eqb-true size 12 (rw e at h.form)

  pub size_loop : kind ≡ 18 → 2 ≤ size
  unfolding has_line
  size_loop e = leb-true 2 size (rw e at h.form)

  pub size_cycle : kind ≡ 19 → 2 ≤ size
  unfolding has_line
  size_cycle e = leb-true 2 size (rw e at h.form)

  pub size_floor : eqb kind 16 ≡ false → eqb kind 17 ≡ false → eqb kind 18 ≡ false → eqb kind 19 ≡ false → size ≡ 4
  unfolding has_line
  size_floor p q r t = eqb-true size 4 (tests (eqb kind 20) (rw (p, q, r, t) at h.form)).1
