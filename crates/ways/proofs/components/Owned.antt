-- Each number its own label: these labels are sound.
use Prim.Native.Nat.{ℕ}
use mathlib.Core.List.{List}
use native.Mathlib.Nat.{le_refl}
use Rattle.specification.specs.Table.{Table}
use Rattle.ways.specs.WayLaws.{joined_refl}
use Rattle.ways.specs.Passes.{Own, Sound}

pub own_sound : {t : Table} {l : List ℕ} → Own 64 l → Sound t l
own_sound o = record {
  long = o.long;
  each = λ p h. rw (o.each p h) (record { low = le_refl p; joined = joined_refl p });
}
