-- What each way through the analysis of a byte string comes to.
use Rattle.std.specs.Prelude.{ℕ, ◌≤◌, ◌<◌, ◌≡◌, refl, ◌≢◌, List, length}
use Rattle.std.proofs.Common.{ap, ◌∙◌, inl, arith, lt-ltb, le-ltb}
use Rattle.specification.specs.Bytes.{Written}
use Rattle.specification.specs.Reading.{read_table}
use Rattle.specification.specs.Table.{Table}
use Rattle.specification.specs.Answers.{refused, records, least_room, answer_place}
use Rattle.specification.specs.Analysed.{Analysed}
use Rattle.records.specs.WrittenLaws.{written_none}
use Rattle.table.specs.WellFormed.{WellFormed}
use Rattle.table.specs.FaultLaws.{table_no_place}
use Rattle.demands.specs.Room.{fits_room}
use Rattle.analysis.specs.Decided.{Decided}
use Rattle.analysis.specs.ShownLaws.{shown_all}
use Rattle.specification.specs.declared.Outcome.{Outcome}

pub analysed_short : (s before : List ℕ) → length before < least_room → Analysed s before before (record { number = 1; place = 0; written = 0 })
unfolding answer_place
analysed_short s before h = record {
  answer = refused 1;
  right = record {
    short = λ k. refl;
    faulty = λ k f. absurd (omega arith);
    right = λ k e. absurd (omega arith);
  };
  number_is = refl;
  place_is = rw (lt-ltb (length before) least_room h);
  records_are = written_none before;
  fits = tt;
}

pub analysed_faulty : (s before : List ℕ) (n place : ℕ) → n ≡ (read_table s).number → place ≡ (read_table s).place → n ≢ 0 → least_room ≤ length before
    → Analysed s before before (record { number = n; place = place; written = 0 })
unfolding answer_place
analysed_faulty s before n place e p f h = record {
  answer = refused n;
  right = record {
    short = λ k. absurd (omega arith);
    faulty = λ k g. ap refused e;
    right = λ k g. absurd (f (e ∙ g));
  };
  number_is = refl;
  place_is = rw (le-ltb (length before) least_room h) p;
  records_are = written_none before;
  fits = tt;
}

-- what is decided with a long enough answer buffer is written
decided_records : {t : Table} {before after : List ℕ} {r : Outcome} → least_room ≤ length before → (d : Decided t before after r)
    → Written (records t d.answer) before after r.written
decided_records h d = rw (shown_all _ _ h) at d.records_are

pub analysed_decided : (s : List ℕ) {before after : List ℕ} {t : Table} {r : Outcome} → t ≡ (read_table s).table → (read_table s).number ≡ 0 → least_room ≤ length before
    → Decided t before after r
    → Analysed s before after r
unfolding answer_place
analysed_decided s {before} e z h d = record {
  answer = d.answer;
  right = record {
    short = λ k. absurd (omega arith);
    faulty = λ k f. absurd (f z);
    right = λ k g. rw (← e) d.right;
  };
  number_is = d.number_is;
  place_is = rw (le-ltb (length before) least_room h, table_no_place s (inl (omega (arith, z)))) d.place_is;
  records_are = rw (← e) (decided_records h d);
  fits = rw (← e) d.fits;
}

-- the least answer buffer has room for what is written
pub written_room : {t : Table} {before after : List ℕ} {r : Outcome} → WellFormed t → least_room ≤ length before → Decided t before after r → r.written ≤ least_room
written_room {t} formed h d = omega (arith, (decided_records h d).counted, (fits_room {x = d.answer} formed d.right).fits)
