-- What stands in the lists of links that hiding makes.
use Rattle.std.specs.Prelude.{ℕ, zero, suc, ◌+◌, ◌<◌, ◌≡◌, Bool, cond, ◌⊎◌, ltb, length, get_or}
use Rattle.std.proofs.Math.Path.{refl}
use Rattle.std.proofs.Common.{sym, ap, ◌∙◌, true≢false, inl, inr, arith, length-append, get_or-append-add, eqb-true}
use Rattle.std.proofs.Math.Bool.{true, false}
use Rattle.std.proofs.Math.Logic.{⊎_elim}
use mathlib.Core.List.{List, [], ◌∷◌, ◌++◌, map, flat_map}
use Rattle.specification.specs.Table.{no_link}
use Rattle.numbers.specs.Lists.{keep}
use Rattle.specification.specs.Hiding.{none, lowest_of, lowest_sender, via, via_each}
use Rattle.specification.specs.declared.Link.{Link}

-- a stands in the list
pub record At (xs : List Link) (a : Link) : Type 0 where
  pub place : ℕ
  pub below : place < length xs
  pub is : get_or xs place no_link ≡ a

pub not_at : {a : Link} → ¬ At [] a
not_at h = omega (arith, h.below)

pub at_here : {x : Link} {xs : List Link} → At (x ∷ xs) x
at_here = record { place = 0; below = omega arith; is = refl }

pub at_there : {x a : Link} {xs : List Link} → At xs a → At (x ∷ xs) a
at_there h = record { place = suc h.place; below = omega (arith, h.below); is = h.is }

-- the first, or one of the others
pub at_cons : {x a : Link} {xs : List Link} → At (x ∷ xs) a → (x ≡ a) ⊎ At xs a
at_cons {x} {a} {xs} h = by h.place h.below h.is
  where
    by : (i : ℕ) → i < suc (length xs) → get_or (x ∷ xs) i no_link ≡ a → (x ≡ a) ⊎ At xs a
    by zero l e = inl e
    by (suc i) l e = inr (record { place = i; below = omega arith; is = e })

-- ---- one list behind another
pub at_left : {a : Link} (xs ys : List Link) → At xs a → At (xs ++ ys) a
at_left [] ys h = absurd (not_at h)
at_left (x ∷ xs) ys h = ⊎_elim
    (λ (e : x ≡ _). record { place = 0; below = omega arith; is = e })
    (λ (k : At xs _). at_there (at_left xs ys k)) (at_cons h)

pub at_right : {a : Link} (xs ys : List Link) → At ys a → At (xs ++ ys) a
at_right xs ys h = record {
  place = length xs + h.place;
  below = omega (arith, length-append xs ys, h.below);
  is = get_or-append-add xs ys h.place no_link ∙ h.is;
}

pub at_either : {a : Link} (xs ys : List Link) → At (xs ++ ys) a → At xs a ⊎ At ys a
at_either [] ys h = inr h
at_either {a} (x ∷ xs) ys h = ⊎_elim
    (λ (e : x ≡ a). inl (record { place = 0; below = omega arith; is = e }))
    (λ (k : At (xs ++ ys) a). ⊎_elim (λ (i : At xs a). inl (at_there i)) (λ (i : At ys a). inr i) (at_either xs ys k)) (at_cons h)

-- ---- the links that pass a test
module _ (test : Link → Bool) where
  pub record Passing (xs : List Link) (a : Link) : Type 0 where
    pub at : At xs a
    pub passes : test a ≡ true

  pub at_keep : {a : Link} (xs : List Link) → At xs a → test a ≡ true → At (keep test xs) a
  unfolding keep
  at_keep [] h e = absurd (not_at h)
  at_keep {a} (x ∷ xs) h e = ⊎_elim (λ (s : x ≡ a). here (test x) (ap test s ∙ e) s) (λ (k : At xs a). there (test x) (at_keep xs k e)) (at_cons h)
    where
      here : (b : Bool) → b ≡ true → x ≡ a → At (cond b (x ∷ keep test xs) (keep test xs)) a
      here true f s = record { place = 0; below = omega arith; is = s }
      here false f s = absurd (true≢false (sym f))

      there : (b : Bool) → At (keep test xs) a → At (cond b (x ∷ keep test xs) (keep test xs)) a
      there true k = at_there k
      there false k = k

  pub keep_at : {a : Link} (xs : List Link) → At (keep test xs) a → Passing xs a
  unfolding keep
  keep_at [] h = absurd (not_at h)
  keep_at {a} (x ∷ xs) h = by (test x) refl h (λ k. keep_at xs k)
    where
      later : Passing xs a → Passing (x ∷ xs) a
      later p = record { at = at_there p.at; passes = p.passes }

      by : (b : Bool) → test x ≡ b → At (cond b (x ∷ keep test xs) (keep test xs)) a → (At (keep test xs) a → Passing xs a) → Passing (x ∷ xs) a
      by true e i rest = ⊎_elim
          (λ (s : x ≡ a). record { at = record { place = 0; below = omega arith; is = s }; passes = ap test (sym s) ∙ e })
          (λ (k : At (keep test xs) a). later (rest k)) (at_cons i)
      by false e i rest = later (rest i)

  -- none passes
  pub none_passes : {a : Link} (xs : List Link) → none (keep test xs) ≡ true → At xs a → test a ≡ false
  none_passes {a} xs e h = by (test a) refl
    where
      by : (b : Bool) → test a ≡ b → test a ≡ false
      by false f = f
      by true f = absurd (omega (arith, eqb-true (length (keep test xs)) 0 e, (at_keep xs h f).below))

pub some_at : (xs : List Link) → none xs ≡ false → At xs (get_or xs 0 no_link)
some_at [] e = absurd (true≢false e)
some_at (x ∷ xs) e = at_here

-- ---- each changed in the same way
pub record Changed (f : Link → Link) (xs : List Link) (a : Link) : Type 0 where
  pub of : Link
  pub at : At xs of
  pub is : a ≡ f of

pub at_map : {a : Link} (f : Link → Link) (xs : List Link) → At xs a → At (map f xs) (f a)
at_map f [] h = absurd (not_at h)
at_map {a} f (x ∷ xs) h = ⊎_elim
    (λ (e : x ≡ a). record { place = 0; below = omega arith; is = ap f e })
    (λ (k : At xs a). at_there (at_map f xs k)) (at_cons h)

pub map_at : {a : Link} (f : Link → Link) (xs : List Link) → At (map f xs) a → Changed f xs a
map_at f [] h = absurd (not_at h)
map_at {a} f (x ∷ xs) h = ⊎_elim
    (λ (e : f x ≡ a). record { of = x; at = at_here; is = sym e })
    (λ (k : At (map f xs) a). let c = map_at f xs k in record { of = c.of; at = at_there c.at; is = c.is }) (at_cons h)

-- ---- one for each pair
pub record Made (xs ys : List Link) (a : Link) : Type 0 where
  pub first : Link
  pub second : Link
  pub first_at : At xs first
  pub second_at : At ys second
  pub is : a ≡ via first second

pub at_made : {x y : Link} (xs ys : List Link) → At xs x → At ys y → At (flat_map (via_each ys) xs) (via x y)
unfolding flat_map
at_made [] ys h k = absurd (not_at h)
at_made {x} {y} (z ∷ xs) ys h k = ⊎_elim
    (λ (e : z ≡ x). at_left (map (via z) ys) (flat_map (via_each ys) xs) (rw (ap (λ (l : Link). via l y) (sym e)) (at_map (via z) ys k)))
    (λ (i : At xs x). at_right (map (via z) ys) (flat_map (via_each ys) xs) (at_made xs ys i k)) (at_cons h)

pub made_at : {a : Link} (xs ys : List Link) → At (flat_map (via_each ys) xs) a → Made xs ys a
unfolding flat_map
made_at [] ys h = absurd (not_at h)
made_at {a} (z ∷ xs) ys h = ⊎_elim
    (λ (i : At (map (via z) ys) a).
    let c = map_at (via z) ys i in
    record { first = z; second = c.of; first_at = at_here; second_at = c.at; is = c.is })
    (λ (i : At (flat_map (via_each ys) xs) a).
    let m = made_at xs ys i in
    record { first = m.first; second = m.second; first_at = at_there m.first_at; second_at = m.second_at; is = m.is })
    (at_either (map (via z) ys) (flat_map (via_each ys) xs) h)

-- ---- the lowest sender is one of them
lowest_in : (l : Link) (xs : List Link) → At (l ∷ xs) (lowest_of l xs)
unfolding lowest_of
lowest_in l [] = at_here
lowest_in l (x ∷ xs) = by (ltb x.from l.from) (lowest_in (cond (ltb x.from l.from) x l) xs)
  where
    by : {a : Link} (b : Bool) → At (cond b x l ∷ xs) a → At (l ∷ x ∷ xs) a
    by true h = at_there h
    by {a} false h = ⊎_elim
        (λ (e : l ≡ a). record { place = 0; below = omega arith; is = e })
        (λ (k : At xs a). at_there (at_there k)) (at_cons h)

pub sender_at : (xs : List Link) → none xs ≡ false → At xs (lowest_sender xs)
unfolding lowest_sender
sender_at [] e = absurd (true≢false e)
sender_at (x ∷ xs) e = lowest_in x xs
