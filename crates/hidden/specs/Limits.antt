-- The lowest sender among the links into a port, and the limit that the rate of a hidden port puts on it.
use Rattle.std.specs.Prelude.{ℕ, suc, ◌+◌, ◌-◌, ◌≤◌, ◌<◌, ◌≡◌, Bool, true, cond, ◌≢◌, ltb, get_or, Some, None}
use Rattle.std.proofs.Math.Path.{refl, sym, ap}
use Rattle.std.specs.Bool.{then_some}
use Rattle.std.proofs.Common.{◌∙◌, add-one, arith, take_all, drop-cons, eq-eqb, ne_eqb}
use Rattle.std.proofs.Math.Bool.{false}
use mathlib.Core.List.{List, [], ◌∷◌}
use Rattle.std.proofs.Math.ListN.{length, take, drop, length-drop}
use Rattle.std.proofs.Math.Seq.{drop-length}
use Rattle.std.proofs.lemmas.Grind.{get_or_after_one}
use Rattle.specification.specs.Table.{Table, no_link, port}
use Rattle.specification.specs.Hiding.{lowest_of, lowest_sender, carried_rate, slower, sender_link, sender, limit_rate, lowers}
use Rattle.specification.specs.declared.Port.{Port}
use Rattle.specification.specs.declared.Link.{Link}
use Rattle.hidden.specs.declared.rate.Limit.{Limit}

-- number i of those behind the first is number i + 1 of all
pub record RestAt (xs : List ℕ) (i : ℕ) : Type 0 where
  pub below : i + 1 < length xs
  pub is : get_or (take (length xs - 1) (drop 1 xs)) i 0 ≡ get_or xs (i + 1) 0

pub rest_at : (xs : List ℕ) (i : ℕ) → i < length (take (length xs - 1) (drop 1 xs)) → RestAt xs i
rest_at xs i h =
    let all : take (length xs - 1) (drop 1 xs) ≡ drop 1 xs = take_all (length xs - 1) (drop 1 xs) (omega (arith, length-drop 1 xs)) in
    record { below = omega (arith, ap length all, length-drop 1 xs); is = rw all (get_or_after_one xs i 0 ∙ ap (λ (n : ℕ). get_or xs n 0) (omega arith)) }

-- the lowest of the first i: what is left, put to it, gives the lowest of all
pub record LowestFirst (xs : List Link) (lowest : Link) (i : ℕ) : Type 0 where
  pub within : i ≤ length xs
  pub is : lowest_of lowest (drop i xs) ≡ lowest_sender xs

pub lowest_first : (xs : List Link) {l : Link} → 0 < length xs → l ≡ get_or xs 0 no_link → LowestFirst xs l 1
unfolding lowest_sender
lowest_first [] h e = absurd (omega arith)
lowest_first (x ∷ xs) h e = record { within = omega arith; is = ap (λ (y : Link). lowest_of y xs) e }

module _ {xs : List Link} {lowest : Link} {i : ℕ} (f : LowestFirst xs lowest i) where
  pub lowest_on : {l r : Link} → i < length xs → l ≡ get_or xs i no_link → r ≡ cond (ltb l.from lowest.from) l lowest → LowestFirst xs r (i + 1)
  unfolding lowest_of
  lowest_on {l} {r} h e q = record {
    within = omega arith;
    is = rw (add-one i)
        (ap (λ (y : Link). lowest_of y (drop (suc i) xs)) q
        ∙ ap (λ (ys : List Link). lowest_of lowest ys) (ap (λ (y : Link). y ∷ drop (suc i) xs) e ∙ sym (drop-cons xs i no_link h))
        ∙ f.is);
  }

  pub lowest_all : length xs ≤ i → lowest ≡ lowest_sender xs
  unfolding lowest_of
  lowest_all h =
      let e : i ≡ length xs = omega (arith, f.within) in
      sym (ap (lowest_of lowest) (ap (λ (n : ℕ). drop n xs) e ∙ drop-length xs)) ∙ f.is

-- the lowest sender, and the rate that it then has where its own is lowered
abbrev pub limit : Table → ℕ → Limit
limit t p = record { sender = sender t p; rate = cond (lowers t p) (Some (limit_rate t p)) None }

then_is : (b : Bool) (r : Port) → then_some b r ≡ cond b (Some r) None
then_is true r = refl
then_is false r = refl

module _ (t : Table) (p : ℕ) {l : Link} {hidden : Port} (sent : l ≡ sender_link t p) (own : hidden ≡ port t p) where
  pub limit_none : hidden.num ≡ 0 → record { sender = l.from; rate = None } ≡ limit t p
  unfolding lowers
  limit_none e =
      rw (eq-eqb (port t p).num 0 (sym (ap (λ (x : Port). x.num) own) ∙ e)) (λ i. record { sender = (sent i).from; rate = None })

  pub limit_some : {rate s : Port} {b : Bool} → hidden.num ≢ 0 → rate ≡ carried_rate hidden l → s ≡ port t l.from → b ≡ slower rate s
      → record { sender = l.from; rate = then_some b rate } ≡ limit t p
  unfolding lowers
  limit_some {rate} {s} {b} d r e f =
      let rate_of : rate ≡ limit_rate t p = r ∙ ap (λ (x : Port). carried_rate x l) own ∙ ap (carried_rate (port t p)) sent in
      let slow : b ≡ slower (limit_rate t p) (port t (sender t p)) =
      f ∙ ap (λ (x : Port). slower x s) rate_of ∙ ap (slower (limit_rate t p)) (e ∙ ap (λ (x : Link). port t x.from) sent) in
      let lowered = then_is b rate ∙ ap (λ (x : Port). cond b (Some x) None) rate_of in
      rw (ne_eqb (port t p).num 0 (λ z. d (ap (λ (x : Port). x.num) own ∙ z)), ← slow) (λ i. record { sender = (sent i).from; rate = lowered i })
