-- What hiding a port of a table comes to, by the number of a right answer to the table.
use Rattle.std.specs.Prelude.{ℕ, ◌*◌, ◌≤◌, ◌≡◌, refl, ◌≢◌, List, length, Result, Ok, Err}
use Rattle.std.proofs.Common.{sym, ◌∙◌, inl, arith}
use borrow.Author.Tests.{eq-eqb, ne_eqb}
use Rattle.specification.specs.Table.{Table}
use Rattle.specification.specs.Reading.{read_table, start}
use Rattle.specification.specs.Answers.{Answer, refused, number, Right, least_room, AnswerOf, answer_place}
use Rattle.specification.specs.Hiding.{hide_into, HideReturned}
use Rattle.specification.specs.declared.Outcome.{Outcome}
use Rattle.refusals.specs.Faults.{outcome_of}
use Rattle.records.specs.WrittenLaws.{written_none}
use Rattle.table.specs.declared.reading.Counts.{Counts}
use Rattle.table.specs.declared.reading.ReadFault.{ReadFault}
use Rattle.table.specs.Filled.{Filled, front_of}
use Rattle.table.specs.FilledLaws.{table_read, formed_read}
use Rattle.table.specs.FaultLaws.{table_no_place}
use Rattle.table.specs.WellFormed.{WellFormed}
use Rattle.hidden.specs.HiddenIn.{HiddenIn}

-- the number of a right answer
pub record OwnNumber (t : Table) (n : ℕ) : Type 0 where
  pub answer : Answer
  pub right : Right t answer
  pub is : n ≡ number answer

-- a right answer to s has number 0, and the slices hold its table
pub record OwnHeld (s ports links : List ℕ) (c : Counts) : Type 0 where
  pub answer : Answer
  pub right : AnswerOf s least_room answer
  pub none : number answer ≡ 0
  pub port_room : 2 * c.ports ≤ length ports
  pub link_room : 10 * c.links ≤ length links
  pub formed : WellFormed (front_of c ports links)
  pub is : front_of c ports links ≡ (read_table s).table

-- it has this number, at this place
pub record OwnRefused (s : List ℕ) (r : Outcome) : Type 0 where
  pub answer : Answer
  pub right : AnswerOf s least_room answer
  pub some : r.number ≢ 0
  pub number_is : r.number ≡ number answer
  pub place_is : r.place ≡ answer_place s least_room
  pub written_is : r.written ≡ 0

abbrev pub OwnRead : (s ports links : List ℕ) → Result Counts Outcome → Type 0
OwnRead s ports links (Ok c) = OwnHeld s ports links c
OwnRead s ports links (Err r) = OwnRefused s r

module _ (s : List ℕ) {ports links ports' links' : List ℕ} where
  -- a fault of 2 to 12
  pub own_faulty : {f : ReadFault} → Filled start (read_table s) ports links ports' links' (Err f) → OwnRefused s (outcome_of f.fault)
  unfolding answer_place
  own_faulty {f} r = record {
    answer = refused (read_table s).number;
    right = record {
      short = λ k. absurd (omega arith);
      faulty = λ k g. refl;
      right = λ k g. absurd (r.returned.some g);
    };
    some = λ z. r.returned.some (r.returned.number ∙ z);
    number_is = sym r.returned.number;
    place_is = sym r.returned.place;
    written_is = refl;
  }

  module _ {c : Counts} (f : Filled start (read_table s) ports links ports' links' (Ok c)) {t : Table} (is : t ≡ front_of c ports' links') {n : ℕ} (o : OwnNumber t n) where
    own_right : AnswerOf s least_room o.answer
    own_right = record {
      short = λ k. absurd (omega arith);
      faulty = λ k g. absurd (g f.returned.number);
      right = λ k g. rw (← table_read f, ← is) o.right;
    }

    -- else the number of the table
    pub own_refused : n ≢ 0 → OwnRefused s (record { number = n; place = 0; written = 0 })
    unfolding answer_place
    own_refused d = record {
      answer = o.answer;
      right = own_right;
      some = d;
      number_is = o.is;
      place_is = sym (table_no_place s (inl (omega (arith, f.returned.number))));
      written_is = refl;
    }

    pub own_held : n ≡ 0 → length ports' ≡ length ports → length links' ≡ length links → OwnHeld s ports' links' c
    own_held z same_ports same_links = record {
      answer = o.answer;
      right = own_right;
      none = sym o.is ∙ z;
      port_room = omega (arith, f.port_room);
      link_room = omega (arith, f.link_room);
      formed = formed_read s f;
      is = table_read f;
    }

-- ---- the table's own refusal, or what hiding comes to
module _ {s : List ℕ} (p : ℕ) where
  pub returned_own : {r : Outcome} (before : List ℕ) → OwnRefused s r → HideReturned s p before before r
  unfolding hide_into
  returned_own before o =
      let e = ne_eqb (number o.answer) 0 (λ z. o.some (o.number_is ∙ z)) in
      record {
        answer = o.answer;
        right = o.right;
        number_is = rw e o.number_is;
        place_is = rw e o.place_is;
        table_is = rw (e, o.written_is) (written_none before);
      }

  pub returned_hidden : {ports links before after : List ℕ} {c : Counts} {r : Outcome} (o : OwnHeld s ports links c) {t : Table} → t ≡ front_of c ports links → HiddenIn t p before after r
      → HideReturned s p before after r
  unfolding hide_into
  returned_hidden o is h =
      let e = eq-eqb (number o.answer) 0 o.none in
      let t = is ∙ o.is in
      record {
        answer = o.answer;
        right = o.right;
        number_is = rw (e, ← t) h.number_is;
        place_is = rw (e, ← t) h.place_is;
        table_is = rw (e, ← t) h.table_is;
      }
