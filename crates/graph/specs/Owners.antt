-- The owner of a link: the component that it is a connection of.
use Rattle.std.specs.Prelude.{ℕ, zero, suc, Bool, cond, List, [], ◌∷◌, ◌++◌, get_or}
use Rattle.specification.specs.Table.{Table, port_count, link, is_buffer, from}

-- the label of a connection's sender; a buffer has a number that is no label
abbrev pub owner_of : (none label : ℕ) → Bool → ℕ
owner_of none label buffer = cond buffer none label

-- the owners of the links below n; the number of ports is no label
unfoldable pub owners_of : Table → List ℕ → ℕ → List ℕ
owners_of t labels zero = []
owners_of t labels (suc n) = owners_of t labels n ++ (owner_of (port_count t) (get_or labels (from t n) 0) (is_buffer (link t n)) ∷ [])
