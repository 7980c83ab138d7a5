-- What reading a record returns, as the rule of records has it.
use Rattle.std.specs.Prelude.{ℕ, Option, Some, None, Result, Ok, Err}
use Rattle.refusals.specs.Numbers.{number_of}
use Rattle.refusals.specs.declared.Refusal.{Refusal}
use Rattle.refusals.specs.declared.Fault.{Fault}
use Rattle.specification.specs.declared.Read.{Read}
use Rattle.specification.specs.declared.Read.TheVariants.{PortRecord, LinkRecord, Refused, End}
use Rattle.table.specs.declared.record.Record.{Record}
use Rattle.table.specs.declared.record.Record.TheVariants.{Port, Link}

-- with the place behind it
abbrev pub found : Record × ℕ → Read
found (Port p, next) = PortRecord p next
found (Link l, next) = LinkRecord l next

-- a record that begins at a place
abbrev pub found_at : ℕ → Result (Record × ℕ) Refusal → Read
found_at at (Ok r) = found r
found_at at (Err refusal) = Refused (number_of refusal) at

abbrev pub read_of : Result (Option (Record × ℕ)) Fault → Read
read_of (Ok (Some r)) = found r
read_of (Ok None) = End
read_of (Err f) = Refused (number_of f.refusal) f.place
