-- From the promise of the analysis follow the three demands.
use Rattle.std.specs.Prelude.{ℕ, ◌≤◌, ◌<◌, ◌≡◌, refl, ◌≢◌, ◌⊎◌, List, [], length}
use Rattle.std.proofs.Common.{sym, ap, ◌∙◌, inl, inr, ⊎_elim, arith, lt-ltb, le-ltb}
use Rattle.specification.specs.Bytes.{Written}
use Rattle.records.specs.WrittenLaws.{written_length, written_rest, written_nothing}
use Rattle.specification.specs.Reading.{FaultPlace, start, read_table}
use Rattle.table.specs.FaultLaws.{fault_number, table_place, table_no_place}
use Rattle.table.specs.WellFormed.{WellFormed}
use Rattle.specification.specs.Table.{Table}
use Rattle.specification.specs.Ratios.{Overweight}
use Rattle.specification.specs.Answers.{Answer, refused, disagreeing, overweight, blocked, no_least, consistent, number, records, Right, least_room, answer_place}
use Rattle.demands.specs.AnswerCases.{AnswerCase, short, faulty, formed, answer_case}
use Rattle.specification.specs.Solutions.{Solution}
use Rattle.demands.specs.Room.{fits_room}
use Rattle.demands.specs.OneAnswer.{one_answer}
use Rattle.demands.specs.Demand2Laws.{demand_2}
use Rattle.demands.specs.Demand3Laws.{demand_3}
use Rattle.specification.specs.Analysed.{Fits, Analysed}
use Rattle.specification.specs.Demanded.{ConsistentCall, DisagreeingCall, BlockedCall, NoLeastCall, WellFormedCall, Demanded}
use Rattle.specification.specs.declared.Outcome.{Outcome}

module _ {s before after : List ℕ} {r : Outcome} (h : Analysed s before after r) where
  abbrev t : Table
  t = (read_table s).table

  abbrev Case : Answer → Type 0
  Case = AnswerCase s (length before)

  -- ---- demand 1
  short_number : {x : Answer} → Case x → length before < least_room → number x ≡ 1
  short_number (short l) k = refl
  short_number (faulty l f) k = absurd (omega arith)
  short_number (formed l z g i) k = absurd (omega (arith))

  faulty_number : {x : Answer} → Case x → least_room ≤ length before → (read_table s).number ≢ 0 → number x ≡ (read_table s).number
  faulty_number (short l) k g = absurd (omega arith)
  faulty_number (faulty l f) k g = refl
  faulty_number (formed l z _ i) k g = absurd (g z)

  listed_number : {x : Answer} → Case x → WellFormedCall s before
      → (number x ≡ 0) ⊎ ((number x ≡ 13) ⊎ ((number x ≡ 14) ⊎ ((number x ≡ 15) ⊎ (number x ≡ 17))))
  listed_number (short l) w = absurd (omega (arith, w.enough))
  listed_number (faulty l f) w = absurd (f w.no_fault)
  listed_number {x = refused n} (formed _ _ _ i) w = absurd i
  listed_number {x = disagreeing path} (formed _ _ _ i) w = inr (inl refl)
  listed_number {x = overweight} (formed _ _ _ i) w = inr (inr (inl refl))
  listed_number {x = blocked floor block} (formed _ _ _ i) w = inr (inr (inr (inl refl)))
  listed_number {x = no_least} (formed _ _ _ i) w = inr (inr (inr (inr refl)))
  listed_number {x = consistent timing} (formed _ _ _ i) w = inl refl

  -- a right answer to a table that was read has none of the numbers of a record
  other : (x : Answer) → Right t x → 2 ≤ number x → number x ≤ 11 → ⊥
  other (refused n) i k m = i
  other (disagreeing path) i k m = omega arith
  other overweight i k m = omega arith
  other (blocked floor block) i k m = omega arith
  other no_least i k m = omega arith
  other (consistent timing) i k m = omega arith

  place_in : {x : Answer} → Case x → 2 ≤ number x → number x ≤ 11 → FaultPlace s start (number x) (answer_place s (length before))
  unfolding answer_place
  place_in (short l) k m = absurd (omega arith)
  place_in (faulty l f) k m = rw (le-ltb (length before) least_room l) (table_place s k m)
  place_in {x} (formed l z g i) k m = absurd (other x i k m)

  no_place_in : {x : Answer} → Case x → (number x < 2) ⊎ (11 < number x) → answer_place s (length before) ≡ 0
  unfolding answer_place
  no_place_in (short l) k = rw (lt-ltb (length before) least_room l)
  no_place_in (faulty l f) k = rw (le-ltb (length before) least_room l) (table_no_place s k)
  no_place_in (formed l z g i) k = rw (le-ltb (length before) least_room l) (table_no_place s (inl (omega (arith, z))))

  -- the other numbers have no records
  no_records : (x : Answer) → number x ≢ 0 → number x ≢ 13 → number x ≢ 15 → records t x ≡ []
  no_records (refused n) f g k = refl
  no_records (disagreeing path) f g k = absurd (g refl)
  no_records overweight f g k = refl
  no_records (blocked floor block) f g k = absurd (k refl)
  no_records no_least f g k = refl
  no_records (consistent timing) f g k = absurd (f refl)

  small_records : {x : Answer} → Case x → length (records t x) ≤ least_room
  small_records (short l) = omega arith
  small_records (faulty l f) = omega arith
  small_records {x} (formed l z g i) = (fits_room {x = x} g i).fits

  fit_records : {x : Answer} → Case x → length (records t x) ≤ length before
  fit_records (short l) = omega arith
  fit_records (faulty l f) = omega arith
  fit_records {x} (formed l z g i) = omega (arith, (fits_room {x = x} g i).fits)

  -- ---- demands 2 and 3
  solved_call : {x : Answer} → Case x → Fits t x → Written (records t x) before after r.written → number x ≡ 0 → ConsistentCall t before after r
  solved_call (short l) f w e = absurd (omega (arith, e))
  solved_call (faulty l g) f w e = absurd (g e)
  solved_call {x = refused n} (formed _ _ _ i) f w e = absurd i
  solved_call {x = disagreeing path} (formed _ _ _ i) f w e = absurd (omega (arith, e))
  solved_call {x = overweight} (formed _ _ _ i) f w e = absurd (omega (arith, e))
  solved_call {x = blocked floor block} (formed _ _ _ i) f w e = absurd (omega (arith, e))
  solved_call {x = no_least} (formed _ _ _ i) f w e = absurd (omega (arith, e))
  solved_call {x = consistent timing} (formed _ _ g i) f w e = record {
    timing = timing;
    records_are = w;
    fits = f;
    least = (demand_2 {x = consistent timing} g i).least timing refl;
    chains = demand_3 g i;
  }

  -- no solution where a right answer has another number than 0, 14 and 17
  unsolved : (x : Answer) → WellFormed t → Right t x → number x ≢ 0 → number x ≢ 17 → number x ≢ 14 → ¬ Solution t
  unsolved x g i least no_least_lem over y = ⊎_elim (λ (e : number x ≡ 0). least e) (λ (e : number x ≡ 17). no_least_lem e) ((demand_2 {x = x} g i).only y over)

  disagreeing_call : {x : Answer} → Case x → Written (records t x) before after r.written → number x ≡ 13 → DisagreeingCall t before after r
  disagreeing_call (short l) w e = absurd (omega (arith, e))
  disagreeing_call (faulty l f) w e = absurd (omega (arith, e, (fault_number s f).most))
  disagreeing_call {x = refused n} (formed _ _ _ i) w e = absurd i
  disagreeing_call {x = overweight} (formed _ _ _ i) w e = absurd (omega (arith, e))
  disagreeing_call {x = blocked floor block} (formed _ _ _ i) w e = absurd (omega (arith, e))
  disagreeing_call {x = no_least} (formed _ _ _ i) w e = absurd (omega (arith, e))
  disagreeing_call {x = consistent timing} (formed _ _ _ i) w e = absurd (omega (arith, e))
  disagreeing_call {x = disagreeing path} (formed _ _ g i) w e = record {
    path = path;
    is_loop = i;
    records_are = w;
    unsolved = unsolved (disagreeing path) g i (λ z. omega (arith, z)) (λ z. omega (arith, z)) (λ z. omega (arith, z));
  }

  overweight_call : {x : Answer} → Case x → number x ≡ 14 → Overweight t
  overweight_call (short l) e = absurd (omega (arith, e))
  overweight_call (faulty l f) e = absurd (omega (arith, e, (fault_number s f).most))
  overweight_call {x = refused n} (formed _ _ _ i) e = absurd i
  overweight_call {x = overweight} (formed _ _ _ i) e = i
  overweight_call {x = disagreeing path} (formed _ _ _ i) e = absurd (omega (arith, e))
  overweight_call {x = blocked floor block} (formed _ _ _ i) e = absurd (omega (arith, e))
  overweight_call {x = no_least} (formed _ _ _ i) e = absurd (omega (arith, e))
  overweight_call {x = consistent timing} (formed _ _ _ i) e = absurd (omega (arith, e))

  blocked_call : {x : Answer} → Case x → Written (records t x) before after r.written → number x ≡ 15 → BlockedCall t before after r
  blocked_call (short l) w e = absurd (omega (arith, e))
  blocked_call (faulty l f) w e = absurd (omega (arith, e, (fault_number s f).most))
  blocked_call {x = refused n} (formed _ _ _ i) w e = absurd i
  blocked_call {x = overweight} (formed _ _ _ i) w e = absurd (omega (arith, e))
  blocked_call {x = disagreeing path} (formed _ _ _ i) w e = absurd (omega (arith, e))
  blocked_call {x = no_least} (formed _ _ _ i) w e = absurd (omega (arith, e))
  blocked_call {x = consistent timing} (formed _ _ _ i) w e = absurd (omega (arith, e))
  blocked_call {x = blocked floor block} (formed _ _ g i) w e = record {
    floor = floor;
    block = block;
    no_period = i;
    records_are = w;
    unsolved = unsolved (blocked floor block) g i (λ z. omega (arith, z)) (λ z. omega (arith, z)) (λ z. omega (arith, z));
  }

  no_least_call : {x : Answer} → Case x → number x ≡ 17 → NoLeastCall t
  no_least_call (short l) e = absurd (omega (arith, e))
  no_least_call (faulty l f) e = absurd (omega (arith, e, (fault_number s f).most))
  no_least_call {x = refused n} (formed _ _ _ i) e = absurd i
  no_least_call {x = disagreeing path} (formed _ _ _ i) e = absurd (omega (arith, e))
  no_least_call {x = overweight} (formed _ _ _ i) e = absurd (omega (arith, e))
  no_least_call {x = blocked floor block} (formed _ _ _ i) e = absurd (omega (arith, e))
  no_least_call {x = consistent timing} (formed _ _ _ i) e = absurd (omega (arith, e))
  no_least_call {x = no_least} (formed _ _ g i) e =
      let d = demand_2 {x = no_least} g i in
      record { no_least_period = i; solution = d.solved (inr refl); no_least_lem = d.no_least_lem refl }

  only_call : {x : Answer} → Case x → WellFormedCall s before → Solution t → number x ≢ 14 → (number x ≡ 0) ⊎ (number x ≡ 17)
  only_call (short l) w y f = absurd (omega (arith, w.enough))
  only_call (faulty l g) w y f = absurd (g w.no_fault)
  only_call {x} (formed _ _ g i) w y f = (demand_2 {x = x} g i).only y f

  -- ---- another outcome of the same call
  module _ {after' : List ℕ} {r' : Outcome} (h' : Analysed s before after' r') where
    same_number : r'.number ≡ r.number
    same_number = h'.number_is ∙ (one_answer h'.right h.right).same_number ∙ sym h.number_is

    same_records : r.number ≢ 13 → r.number ≢ 15 → records t h'.answer ≡ records t h.answer
    same_records f g =
        sym ((one_answer h.right h'.right).same_records (λ e. f (h.number_is ∙ e)) (λ e. g (h.number_is ∙ e)))

    same_bytes : r.number ≢ 13 → r.number ≢ 15 → (r'.written ≡ r.written) × (after' ≡ after)
    same_bytes f g =
        let e = same_records f g in (
          h'.records_are.counted ∙ ap length e ∙ sym h.records_are.counted,
          rw (h'.records_are.contents, h.records_are.contents, e),
        )

pub demanded : {s before after : List ℕ} {r : Outcome} → Analysed s before after r → Demanded s before after r
demanded {s} {before} {after} {r} h =
    let c = answer_case h.right in
    let n = h.number_is in
    let w = h.records_are in
    record {
      short = λ l. n ∙ short_number h c l;
      faulty = λ l f. n ∙ faulty_number h c l f;
      a_fault = λ l f. rw (n ∙ faulty_number h c l f) (fault_number s f);
      listed = λ g. rw n (listed_number h c g);
      place = λ l m. rw (n, h.place_is) (place_in h c (omega (arith, n, l)) (omega (arith, n, m)));
      no_place = λ k. h.place_is ∙ no_place_in h c (rw n at k);
      nothing = λ f g k. written_nothing (no_records h h.answer (λ e. f (n ∙ e)) (λ e. g (n ∙ e)) (λ e. k (n ∙ e))) w;
      room = omega (arith, w.counted, small_records h c);
      same_length = written_length w (fit_records h c);
      rest = written_rest w;
      one_number = λ after' r' h'. (same_number h h', h'.place_is ∙ sym h.place_is);
      one_answer = λ after' r' h'. same_bytes h h';
      solved = λ e. solved_call h c h.fits w (sym n ∙ e);
      disagreeing = λ e. disagreeing_call h c w (sym n ∙ e);
      overweight = λ e. overweight_call h c (sym n ∙ e);
      blocked = λ e. blocked_call h c w (sym n ∙ e);
      no_least_lem = λ e. no_least_call h c (sym n ∙ e);
      only = λ g y f. rw n (only_call h c g y (λ e. f (n ∙ e)));
    }
