-- A model: its ports and links, by their numbers, and the limits of a table. "Link" is this project's word for a connection or buffer.
use Rattle.std.specs.Prelude.{ℕ, ◌<◌, ◌≡◌, Bool, true, false, List, length, get_or, eqb}
use Rattle.specification.specs.declared.Port.{Port}
use Rattle.specification.specs.declared.Link.{Link}

-- at most 64 ports and 256 connections and buffers together
abbrev pub most_ports : ℕ
most_ports = 64

abbrev pub most_links : ℕ
most_links = 256

-- rate and ratio parts 1 to 1,000; a rate may also be 0/0, which means none
abbrev pub most_part : ℕ
most_part = 1000

-- ε within ±10,000,000; δ within ±1,000, its denominator 1 to 10,000
abbrev pub most_ticks : ℕ
most_ticks = 10000000

abbrev pub most_events : ℕ
most_events = 1000

abbrev pub most_over : ℕ
most_over = 10000

-- each port and each link at the index that is its number
pub record Table : Type 0 where
  pub ports : List Port
  pub links : List Link

abbrev pub port_count : Table → ℕ
port_count t = length t.ports

abbrev pub link_count : Table → ℕ
link_count t = length t.links

-- what a number past the ports or links stands for
abbrev pub no_port : Port
no_port = record { num = 0; den = 0 }

abbrev pub no_link : Link
no_link = record { from = 0; to = 0; num = 0; den = 0; ticks = (0, 0); events = (0, 0); over = 0; kind = 0 }

abbrev pub port : Table → ℕ → Port
port t p = get_or t.ports p no_port

abbrev pub link : Table → ℕ → Link
link t k = get_or t.links k no_link

-- kind 3; kinds 2 and 4 are connections
abbrev pub is_buffer : Link → Bool
is_buffer l = eqb l.kind 3

module _ (t : Table) where
  pub record IsPort (p : ℕ) : Type 0 where
    pub below : p < port_count t

  pub record IsLink (k : ℕ) : Type 0 where
    pub below : k < link_count t

  pub record IsConnection (k : ℕ) : Type 0 where
    pub a_link : IsLink k
    pub events : is_buffer (link t k) ≡ false

  pub record IsBuffer (k : ℕ) : Type 0 where
    pub a_link : IsLink k
    pub no_events : is_buffer (link t k) ≡ true

  abbrev pub from : ℕ → ℕ
  from k = (link t k).from

  abbrev pub to : ℕ → ℕ
  to k = (link t k).to

  -- the ratio of a link is num / den
  abbrev pub num : ℕ → ℕ
  num k = (link t k).num

  abbrev pub den : ℕ → ℕ
  den k = (link t k).den

  -- ε forward and back
  abbrev pub ε⁺ : ℕ → ℕ
  ε⁺ k = (link t k).ticks.0

  abbrev pub ε⁻ : ℕ → ℕ
  ε⁻ k = (link t k).ticks.1

  -- δ forward and back, and the denominator of both
  abbrev pub δ⁺ : ℕ → ℕ
  δ⁺ k = (link t k).events.0

  abbrev pub δ⁻ : ℕ → ℕ
  δ⁻ k = (link t k).events.1

  abbrev pub δ° : ℕ → ℕ
  δ° k = (link t k).over
