-- What a call of the analysis may return and write is the same for byte strings whose tables mean the same.
use Rattle.std.specs.Prelude.{ℕ, ◌≡◌, refl, List, length}
use Rattle.std.proofs.Common.{sym, ◌∙◌, inl, arith}
use Rattle.specification.specs.Table.{Table}
use Rattle.specification.specs.Reading.{read_table}
use Rattle.specification.specs.Answers.{Answer, refused, disagreeing, overweight, blocked, no_least, consistent, AnswerOf, answer_place}
use Rattle.specification.specs.Analysed.{Fits, Analysed}
use Rattle.specification.specs.Meaning.{SameModel}
use Rattle.specification.specs.declared.Outcome.{Outcome}
use Rattle.table.specs.ReadingLaws.{well_formed}
use Rattle.table.specs.FaultLaws.{table_no_place, answer_no_place}
use Rattle.meaning.specs.SameWays.{TwoWritings, exchange, port_there, buffer_there}
use Rattle.meaning.specs.SameAnswers.{right_there, records_same}

fits_there : {t u : Table} (x : Answer) → TwoWritings t u → Fits t x → Fits u x
fits_there (refused n) o f = f
fits_there (disagreeing loop) o f = f
fits_there overweight o f = f
fits_there (blocked floor block) o f = f
fits_there no_least o f = f
fits_there (consistent r) o f = record {
  component = λ p i. f.component p (port_there (exchange o) i);
  weight = λ p i. f.weight p (port_there (exchange o) i);
  a = λ p i. f.a p (port_there (exchange o) i);
  b = λ p i. f.b p (port_there (exchange o) i);
  start = λ p i. f.start p (port_there (exchange o) i);
  size = λ k i. f.size k (buffer_there (exchange o) i);
}

module _ (s s' : List ℕ) (read : (read_table s).number ≡ 0) (read' : (read_table s').number ≡ 0) (same : SameModel (read_table s).table (read_table s').table) where
  two : TwoWritings (read_table s).table (read_table s').table
  two = record { one = well_formed s refl read; other = well_formed s' refl read'; same = same }

  pub same_answers : {room : ℕ} {x : Answer} → AnswerOf s room x → AnswerOf s' room x
  same_answers {x = x} h = record {
    short = h.short;
    faulty = λ enough f. absurd (f read');
    right = λ enough z. right_there two x (h.right enough read);
  }

  place_same : (room : ℕ) → answer_place s room ≡ answer_place s' room
  place_same room = none s read ∙ sym (none s' read')
    where
      none : (s : List ℕ) → (read_table s).number ≡ 0 → answer_place s room ≡ 0
      none s z = answer_no_place s room (table_no_place s (inl (omega (arith, z))))

  -- number, place, count and every byte
  pub same_calls : {before after : List ℕ} {r : Outcome} → Analysed s before after r → Analysed s' before after r
  same_calls {before = before} h = record {
    answer = h.answer;
    right = same_answers h.right;
    number_is = h.number_is;
    place_is = h.place_is ∙ place_same (length before);
    records_are = rw (records_same two h.answer) at h.records_are;
    fits = fits_there h.answer two h.fits;
  }
