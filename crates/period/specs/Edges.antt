-- What a search reads of a table: the rate limits of its ports, and the edges of some of its connections, as lists of numbers.
use Rattle.std.specs.Prelude.{ℕ, zero, suc, ◌+◌, ◌*◌, ◌/◌, ◌≤◌, ◌<◌, ◌≡◌, List, [], ◌∷◌, ◌++◌, length, get_or}
use Rattle.numbers.specs.Lists.{◌∈◌}
use Rattle.specification.specs.declared.Port.{Port}
use Rattle.specification.specs.declared.Link.{Link}
use Rattle.specification.specs.Table.{no_port, no_link, most_over}
use Rattle.period.specs.Component.{most_amount}
use Rattle.period.specs.declared.edge.Edge.{Edge}

-- the parts of a port's rate limit, 1 divided by rate times weight
abbrev pub limit_parts : List Port → (weights : List ℕ) → ℕ → List ℕ
limit_parts ports weights p = (get_or ports p no_port).den ∷ (get_or ports p no_port).num * get_or weights p 0 ∷ []

-- those of the ports below n
unfoldable pub limits_to : List Port → (weights : List ℕ) → ℕ → List ℕ
limits_to ports weights zero = []
limits_to ports weights (suc n) = limits_to ports weights n ++ limit_parts ports weights n

-- two numbers for each of 64 ports
abbrev pub limits_of : List Port → (weights : List ℕ) → List ℕ
limits_of ports weights = limits_to ports weights 64

-- from, to, E and D of connection k: D is δ times the sender's weight
abbrev pub edge_of : List Link → (weights : List ℕ) → ℕ → List ℕ
edge_of links weights k =
    let l = get_or links k no_link in
    let w = get_or weights l.from 0 in
    l.from ∷ l.to ∷ l.ticks.0 ∷ l.ticks.1 ∷ l.events.0 * w / l.over ∷ l.events.1 * w / l.over ∷ []

-- six numbers for each connection that is named
unfoldable pub edges_of : List Link → (weights numbers : List ℕ) → List ℕ
edges_of links weights [] = []
edges_of links weights (k ∷ ks) = edge_of links weights k ++ edges_of links weights ks

-- every number is one of a port
pub record PortNumbers (ports : List Port) (members : List ℕ) : Type 0 where
  pub below : (p : ℕ) → p ∈ members → p < length ports

-- every number is one of a link
pub record LinkNumbers (links : List Link) (numbers : List ℕ) : Type 0 where
  pub below : (i : ℕ) → i < length numbers → get_or numbers i 0 < length links

-- the numbers are of links that leave ports below 64 and have a denominator
pub record Readable (links : List Link) (numbers : List ℕ) : Type 0 where
  pub of_links : LinkNumbers links numbers
  pub senders : (i : ℕ) → i < length numbers → (get_or links (get_or numbers i 0) no_link).from < 64
  pub over_least : (i : ℕ) → i < length numbers → 0 < (get_or links (get_or numbers i 0) no_link).over
  pub over_most : (i : ℕ) → i < length numbers → (get_or links (get_or numbers i 0) no_link).over ≤ most_over

-- an amount times a weight that can be divided
pub record Weighable (amount weight over : ℕ) : Type 0 where
  pub over_least : 0 < over
  pub over_most : over ≤ most_over
  pub most : amount * weight / over ≤ most_amount

-- r is the i-th edge
pub record EdgeAt (edges : List ℕ) (i : ℕ) (r : Edge) : Type 0 where
  pub from : r.from ≡ get_or edges (6 * i) 0
  pub to : r.to ≡ get_or edges (6 * i + 1) 0
  pub ticks_forward_lem : r.ticks.0 ≡ get_or edges (6 * i + 2) 0
  pub ticks_back_lem : r.ticks.1 ≡ get_or edges (6 * i + 3) 0
  pub events_forward : r.events.0 ≡ get_or edges (6 * i + 4) 0
  pub events_back : r.events.1 ≡ get_or edges (6 * i + 5) 0
