-- What hiding a port of a table in slices promises, test by test.
use Rattle.std.specs.Prelude.{ℕ, ◌≤◌, ◌<◌, ◌≡◌, Bool, true, false, not, cond, ◌&&◌, ◌||◌, leb, MatchOption, length, Option, Some, None, Result, Ok, Err}
use Rattle.std.proofs.Common.{◌∙◌}
use Rattle.std.proofs.Math.Path.{ap, refl}
use mathlib.Core.List.{List}
use native.Mathlib.Omega.{arith}
use borrow.Author.Tests.{lt-ltb, le-ltb}
use Rattle.numbers.specs.Lists.{keep}
use Rattle.specification.specs.Bytes.{Written}
use Rattle.specification.specs.Table.{Table, port_count, most_links}
use Rattle.specification.specs.Encoding.{encode_table}
use Rattle.specification.specs.Hiding.{
  bars,
  none,
  links_into,
  links_from,
  cannot_hide,
  lowers,
  limit_rate,
  rate_leaves,
  link_leaves,
  made_links,
  value_leaves,
  links_after,
  hidden_table,
  hide_in,
}
use Rattle.specification.specs.declared.Outcome.{Outcome}
use Rattle.specification.specs.declared.Port.{Port}
use Rattle.refusals.specs.declared.Refusal.{Refusal}
use Rattle.refusals.specs.Numbers.{number_of}
use Rattle.records.specs.WrittenLaws.{written_none}
use Rattle.hiding_laws.specs.TestLaws.{right_false}
use Rattle.hidden.specs.Made.{each_stays}
use Rattle.hidden.specs.declared.rate.Limit.{Limit}
use Rattle.hidden.specs.Limits.{limit}
use Rattle.hidden.specs.Without.{CanWrite, same_some, after_count}

pub record HiddenIn (t : Table) (p : ℕ) (before after : List ℕ) (r : Outcome) : Type 0 where
  pub number_is : r.number ≡ (hide_in t p (length before)).number
  pub place_is : r.place ≡ (hide_in t p (length before)).place
  pub table_is : Written (hide_in t p (length before)).table before after r.written

abbrev refused : ℕ → Outcome
refused n = record { number = n; place = 0; written = 0 }

-- what is returned of so many bytes, or of a refusal
abbrev pub outcome : Result ℕ Refusal → Outcome
outcome (Ok n) = record { number = 0; place = 0; written = n }
outcome (Err r) = refused (number_of r)

module _ {t : Table} {p : ℕ} {before : List ℕ} where
  pub hidden_18 : cannot_hide t p ≡ true → HiddenIn t p before before (refused 18)
  unfolding hide_in
  hidden_18 e = record { number_is = rw e; place_is = rw e; table_is = rw e (written_none before) }

  module _ (can : cannot_hide t p ≡ false) where
    pub hidden_19 : value_leaves t p ≡ true → HiddenIn t p before before (refused 19)
    unfolding hide_in
    hidden_19 e = record { number_is = rw (can, e); place_is = rw (can, e); table_is = rw (can, e) (written_none before) }

    module _ (stays : value_leaves t p ≡ false) where
      pub hidden_7 : most_links < length (hidden_table t p).links → HiddenIn t p before before (refused 7)
      unfolding hide_in
      hidden_7 h =
          let e = lt-ltb most_links (length (links_after t p)) (omega (arith, after_count t p)) in
          record { number_is = rw (can, stays, e); place_is = rw (can, stays, e); table_is = rw (can, stays, e) (written_none before) }

      module _ (few : length (hidden_table t p).links ≤ most_links) where
        pub hidden_16 : length before < length (encode_table (hidden_table t p)) → HiddenIn t p before before (refused 16)
        unfolding hide_in
        hidden_16 h =
            let e = le-ltb most_links (length (links_after t p)) (omega (arith, after_count t p)) in
            let f = lt-ltb (length before) (length (encode_table (hidden_table t p))) h in
            record { number_is = rw (can, stays, e, f); place_is = rw (can, stays, e, f); table_is = rw (can, stays, e, f) (written_none before) }

        pub hidden_0 : {after : List ℕ} {n : ℕ} → length (encode_table (hidden_table t p)) ≤ length before
            → Written (encode_table (hidden_table t p)) before after n
            → HiddenIn t p before after (record { number = 0; place = 0; written = n })
        unfolding hide_in
        hidden_0 h w =
            let e = le-ltb most_links (length (links_after t p)) (omega (arith, after_count t p)) in
            let f = le-ltb (length before) (length (encode_table (hidden_table t p))) h in
            record { number_is = rw (can, stays, e, f); place_is = rw (can, stays, e, f); table_is = rw (can, stays, e, f) w }

-- ---- 19, by its two tests
limit_leaves : (o : Option Port) {a : Bool} (P : Port → Type 0) → MatchOption o (a ≡ false) P → ((r : Port) → P r → a ≡ rate_leaves r)
    → (b : Bool) (due : Port) → o ≡ cond b (Some due) None
    → a ≡ (b && rate_leaves due)
limit_leaves None P m k true due g = absurd cc
limit_leaves None P m k false due g = m
limit_leaves (Some r) P m k true due g = k r m ∙ ap rate_leaves (same_some g)
limit_leaves (Some r) P m k false due g = absurd cc

pub leaves_is : (t : Table) (p : ℕ) (l : Limit) {a b : Bool} (P : Port → Type 0) → l ≡ limit t p → MatchOption l.rate (a ≡ false) P
    → ((r : Port) → P r → a ≡ rate_leaves r)
    → b ≡ not (none (keep link_leaves (made_links t p)))
    → (a || b) ≡ value_leaves t p
unfolding value_leaves
leaves_is t p l P e m k f = rw (limit_leaves l.rate P m k (lowers t p) (limit_rate t p) (ap (λ (x : Limit). x.rate) e), f) refl

-- ---- what 19 leaves
module _ (t : Table) (p : ℕ) (stays : value_leaves t p ≡ false) where
  pub can_write : length (hidden_table t p).links ≤ most_links → CanWrite t p
  unfolding value_leaves
  can_write few = record {
    stay = each_stays (made_links t p) (right_false (lowers t p && rate_leaves (limit_rate t p)) _ stays);
    few = few;
  }

-- ---- 18, by its tests
not_twice : (b : Bool) {c : Bool} → c ≡ not b → b ≡ not c
not_twice true e = rw e
not_twice false e = rw e

pub cannot_is : (t : Table) (p : ℕ) {b s r : Bool} → b ≡ not (none (keep (bars p) t.links)) → s ≡ not (none (links_into t p)) → r ≡ not (none (links_from t p))
    → cannot_hide t p ≡ (leb (port_count t) p || (b || (not s || not r)))
unfolding cannot_hide
cannot_is t p {b} {s} {r} e f g = rw (e, ← not_twice (none (links_into t p)) f, ← not_twice (none (links_from t p)) g) refl
