-- What follows from a port that can be hidden: the new connections, the lowered rate, and the table without the port.
use Rattle.std.specs.Prelude.{ℕ, ◌*◌, ◌≤◌, ◌<◌, ◌≡◌, length, get_or}
use Rattle.std.proofs.Common.{refl, sym, ap, ◌∙◌, arith}
use mathlib.Core.List.{List}
use Rattle.specification.specs.Table.{Table, most_links, most_ports, link_count, no_link, link}
use Rattle.specification.specs.Encoding.{encode_link, encode_links}
use Rattle.specification.specs.Hiding.{links_into, links_from, links_apart, made_links, hidden_table}
use Rattle.specification.specs.declared.Link.{Link}
use Rattle.table.specs.WellFormed.{LinkFits}
use Rattle.encoding.specs.EncodingLaws.{links_most}
use Rattle.table.specs.Held.{table_in}
use Rattle.hidden.specs.declared.rate.Limit.{Limit}
use Rattle.hidden.specs.declared.sides.Sides.{Sides}
use Rattle.hidden.specs.Picked.{numbers_count, numbers_at}
use Rattle.hidden.specs.Limits.{limit}
use Rattle.hidden.specs.ViaParts.{product_most}
use Rattle.hidden.specs.Made.{made_count, PairNumbers, pair_numbers}
use Rattle.hidden.specs.Without.{each_fits, some_sender}

abbrev pub made_in : Sides → List Link
made_in s = made_links (table_in s.table.now) s.port

abbrev pub limit_in : Sides → Limit
limit_in s = limit (table_in s.table.now) s.port

abbrev pub table_after : Sides → Table
table_after s = hidden_table (table_in s.table.now) s.port

module _ (s : Sides) where
  abbrev t : Table
  t = table_in s.table.now

  pub made_length : length s.into.now * length s.from.now ≡ length (made_in s)
  made_length =
      rw (numbers_count s.parted.into_are, numbers_count s.parted.from_are) (sym (made_count (links_into t s.port) (links_from t s.port)))

  pub made_most : length s.into.now * length s.from.now ≤ most_links * most_links
  made_most =
      let few = s.table.now.well_formed.few_links in
      let few_into : length s.into.now ≤ most_links = omega (arith, s.parted.into_are.few, few) in
      let few_from : length s.from.now ≤ most_links = omega (arith, s.parted.from_are.few, few) in
      product_most most_links most_links few_into few_from

  pub apart_most : length s.apart.now ≤ most_links
  apart_most = omega (arith, s.parted.apart_are.few, s.table.now.well_formed.few_links)

  pub apart_bytes : length (encode_links (links_apart t s.port)) ≤ 24 * most_links
  apart_bytes = omega (arith, links_most (links_apart t s.port), numbers_count s.parted.apart_are, apart_most)

  -- the bytes of the link whose number stands at place i
  pub size_at : {i k n : ℕ} → i < length s.apart.now → k ≡ get_or s.apart.now i 0 → n ≡ length (encode_link (link t k))
      → n ≡ length (encode_link (get_or (links_apart t s.port) i no_link))
  size_at {i} h e f =
      f ∙ ap (λ (k : ℕ). length (encode_link (link t k))) e ∙ ap (λ (l : Link). length (encode_link l)) (numbers_at s.parted.apart_are i h refl)

  -- the pair of new connection k
  pub pair_of : (k : ℕ) → k < length (made_in s) → PairNumbers (length s.into.now) (length s.from.now) k
  pair_of k h = pair_numbers (length s.into.now) (length s.from.now) k (omega (arith, made_length))

  pub fits_at : {k : ℕ} {l : Link} → k < link_count t → l ≡ link t k → LinkFits most_ports l
  fits_at {k} h e = rw e (each_fits t s.table.now.well_formed k h)

  -- there is one into the port
  pub some_into : 0 < length s.into.now
  some_into = omega (arith, numbers_count s.parted.into_are, some_sender t s.port s.parted.can)
