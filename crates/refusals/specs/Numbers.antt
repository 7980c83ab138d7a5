-- The number of each refusal.
use Rattle.std.specs.Prelude.{ℕ}
use Rattle.refusals.specs.declared.Refusal.{Refusal}
use Rattle.refusals.specs.declared.Refusal.TheVariants.{ShortAnswer, Length, Kind, KindLength, LatePort, Ports, Links, Rate, Ends, Ratio, Delays, NoPort, Ratios, Weight, Blocked, ShortTable, NoLeast, Held, Range}

abbrev pub number_of : Refusal → ℕ
number_of ShortAnswer = 1
number_of Length = 2
number_of Kind = 3
number_of KindLength = 4
number_of LatePort = 5
number_of Ports = 6
number_of Links = 7
number_of Rate = 8
number_of Ends = 9
number_of Ratio = 10
number_of Delays = 11
number_of NoPort = 12
number_of Ratios = 13
number_of Weight = 14
number_of Blocked = 15
number_of ShortTable = 16
number_of NoLeast = 17
number_of Held = 18
number_of Range = 19
