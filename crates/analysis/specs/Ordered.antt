-- The ports of a table in the order of their labels, and its connections in that of their owners.
use Rattle.std.specs.Prelude.{ℕ, zero, suc, ◌+◌, ◌-◌, ◌≤◌, ◌≡◌, List, length, get_or, take, drop}
use Rattle.specification.specs.Table.{Table, port_count}
use Rattle.order.specs.Order.{keyed, most_keyed, Sorted}
use Rattle.graph.specs.Arranged.{labels_of, link_owners}

-- nothing is said of the room before it was filled, so that this holds in one way alone and can stand in a struct
abbrev pub InOrder : (keys : List ℕ) (bins : ℕ) (ends order : List ℕ) → Type 0
InOrder keys bins ends order = Sorted keys bins ends order order (most_keyed keys (length keys) bins)

abbrev pub MembersOrdered : (t : Table) (labels ends members : List ℕ) → Type 0
MembersOrdered t labels ends members = InOrder (labels_of t labels) (port_count t) ends members

abbrev pub NumbersOrdered : (t : Table) (labels ends numbers : List ℕ) → Type 0
NumbersOrdered t labels ends numbers = InOrder (link_owners t labels) (port_count t + 1) ends numbers

-- where the numbers of a key begin: where those of the key before it end
abbrev pub begin_of : (ends : List ℕ) → ℕ → ℕ
begin_of ends zero = 0
begin_of ends (suc c) = get_or ends c 0

-- the part of a slice from one place to another
abbrev pub part : List ℕ → ℕ → ℕ → List ℕ
part xs first last = take (last - first) (drop first xs)

-- the places are in their order, and within the slice
pub record Inside (first last : ℕ) (xs : List ℕ) : Type 0 where
  pub ordered : first ≤ last
  pub within : last ≤ length xs

-- the ports of component c, and its connections by their numbers
pub record IsMembers (t : Table) (labels : List ℕ) (c : ℕ) (members : List ℕ) : Type 0 where
  pub are : members ≡ keyed (labels_of t labels) c (length (labels_of t labels))

pub record IsNumbers (t : Table) (labels : List ℕ) (c : ℕ) (numbers : List ℕ) : Type 0 where
  pub are : numbers ≡ keyed (link_owners t labels) c (length (link_owners t labels))
