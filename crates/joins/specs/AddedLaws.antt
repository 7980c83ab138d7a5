-- Added records bring no port.
use Rattle.std.specs.Prelude.{ℕ, zero, suc, ◌+◌, ◌≡◌, refl, false, List, [], length}
use Rattle.std.proofs.Common.{sym, ◌∙◌, true≢false}
use Rattle.specification.specs.Reading.{record_at, Reading, with_link, after, read_from, read_on}
use Rattle.table.specs.RecordLaws.{Accepted, accepted}
use Rattle.specification.specs.declared.Before.{Before}
use Rattle.specification.specs.declared.Read.{Read}
use Rattle.specification.specs.declared.Read.TheVariants.{PortRecord, LinkRecord, Refused, End}

after_no_port : (s : List ℕ) (at : ℕ) (b : Before) (rest : ℕ → Before → Reading) (r : Read) → Accepted s at b r → b.port_may_come ≡ false
    → ((next : ℕ) (c : Before) → c.port_may_come ≡ false → (rest next c).table.ports ≡ [])
    → (after rest b r).table.ports ≡ []
after_no_port s at b rest (PortRecord p next) a none each = absurd (true≢false (sym a.may_come ∙ none))
after_no_port s at b rest (LinkRecord l next) a none each = each next (with_link b) refl
after_no_port s at b rest (Refused number place) a none each = refl
after_no_port s at b rest End a none each = refl

from_no_port : (n : ℕ) (s : List ℕ) (at : ℕ) (b : Before) → b.port_may_come ≡ false → (read_from n s at b).table.ports ≡ []
unfolding read_from
from_no_port zero s at b none = refl
from_no_port (suc n) s at b none = after_no_port s at b (read_from n s) (record_at s at b) (accepted s at b) none (λ next c. from_no_port n s next c)

pub no_port_lem : (s : List ℕ) (b : Before) → b.port_may_come ≡ false → (read_on s b).table.ports ≡ []
unfolding read_on
no_port_lem s b = from_no_port (length s + 1) s 0 b
