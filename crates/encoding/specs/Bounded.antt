-- What the writers of a table ask of its links.
use Rattle.std.specs.Prelude.{ℕ, ◌≤◌, ◌<◌, List, length, get_or}
use Rattle.specification.specs.Table.{no_link, most_ports, most_links}
use Rattle.table.specs.WellFormed.{LinkFits}
use Rattle.specification.specs.declared.Link.{Link}

pub record LinksFit (ls : List Link) : Type 0 where
  pub few : length ls ≤ most_links
  pub each : (k : ℕ) → k < length ls → LinkFits most_ports (get_or ls k no_link)
