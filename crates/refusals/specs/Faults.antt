-- What a call returns of a fault.
use Rattle.specification.specs.declared.Outcome.{Outcome}
use Rattle.refusals.specs.declared.Fault.{Fault}
use Rattle.refusals.specs.Numbers.{number_of}

abbrev pub outcome_of : Fault → Outcome
outcome_of f = record { number = number_of f.refusal; place = f.place; written = 0 }
