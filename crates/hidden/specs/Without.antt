-- The ports and links of a table without one of its ports, by their numbers there.
use Rattle.std.specs.Prelude.{ℕ, ◌+◌, ◌-◌, ◌*◌, ◌≤◌, ◌<◌, ◌≡◌, Bool, true, false, ◌≢◌, not, cond, ltb, leb, Some, None}
use Rattle.std.proofs.Math.Path.{refl, sym, ap, subst}
use Rattle.std.proofs.Common.{◌∙◌, ⊎_elim, pos_of_ne-zero}
use mathlib.Core.List.{List, [], ◌∷◌, map, flat_map}
use Rattle.std.proofs.Math.Decide.{ℕ_discrete}
use native.Mathlib.Omega.{arith}
use Rattle.std.proofs.Math.ListN.{length, get_or, length-append, length-map, get_or-append}
use Rattle.std.proofs.Common.{get_or-append-add}
use borrow.Author.Tests.{eqb-false}
use Rattle.numbers.specs.Lists.{keep}
use Rattle.numbers.specs.ListLaws.{lt_or_le}
use Rattle.specification.specs.Table.{Table, port_count, link_count, no_link, no_port, port, link, most_ports, most_links}
use Rattle.specification.specs.Encoding.{encode_link, encode_links, encode_table}
use Rattle.specification.specs.Hiding.{bars, none, via, links_into, links_from, links_apart, made_links, links_after, link_leaves, cannot_hide, new_number, old_number, renumbered, hidden_table, lowers, sender, limit_rate, lowered_ports}
use Rattle.specification.specs.declared.Link.{Link}
use Rattle.specification.specs.declared.Port.{Port}
use Rattle.table.specs.WellFormed.{LinkFits, WellFormed}
use Rattle.table.specs.ReadingLaws.{between_fits, fits_more}
use Rattle.encoding.specs.EncodingLaws.{link_length, ports_length, table_length}
use Rattle.hiding_laws.specs.TestLaws.{left_false, right_false}
use Rattle.hiding_laws.specs.ListLaws.{At, made_at}
use Rattle.hiding_laws.specs.PortLaws.{lowered_sender, lowered_other}
use Rattle.hiding_laws.specs.HiddenFits.{via_fits}
use Rattle.hiding_laws.specs.IsHidden.{into_number, from_number, apart_number, count, port_after_lem, sender_port}
use Rattle.hidden.specs.declared.rate.Limit.{Limit}
use Rattle.hidden.specs.Limits.{limit}
use Rattle.hidden.specs.Sizes.{bytes_append}
use Rattle.hidden.specs.Made.{made_from, map_at}

-- what the writers ask: nothing leaves its range, and there are not too many links
pub record CanWrite (t : Table) (p : ℕ) : Type 0 where
  pub stay : (k : ℕ) → k < length (made_links t p) → link_leaves (get_or (made_links t p) k no_link) ≡ false
  pub few : length (hidden_table t p).links ≤ most_links

-- ---- what 18 leaves
pub each_fits : (t : Table) → WellFormed t → (k : ℕ) → k < link_count t → LinkFits most_ports (link t k)
each_fits t formed k h = fits_more 64 (formed.links k h) formed.few_ports

pub some_sender : (t : Table) (p : ℕ) → cannot_hide t p ≡ false → 0 < length (links_into t p)
unfolding cannot_hide
some_sender t p can =
    let rest = right_false (leb (port_count t) p) _ can in
    let ends = right_false (not (none (keep (bars p) t.links))) _ rest in
    pos_of_ne-zero (eqb-false (length (links_into t p)) 0 (left_false (none (links_into t p)) (none (links_from t p)) ends))

-- ---- the links: those apart from the port, then the new connections
module _ (t : Table) (p : ℕ) where
  pub after_count : length (hidden_table t p).links ≡ length (links_after t p)
  unfolding hidden_table
  after_count = length-map (links_after t p) (renumbered p)

  pub after_length : length (hidden_table t p).links ≡ length (links_apart t p) + length (made_links t p)
  after_length = after_count ∙ length-append (links_apart t p) (made_links t p)

  module _ {k : ℕ} {l : Link} where
    pub kept_at : k < length (links_apart t p) → l ≡ get_or (links_apart t p) k no_link → l ≡ get_or (links_after t p) k no_link
    kept_at h e = e ∙ sym (get_or-append (links_apart t p) (made_links t p) no_link k h)

    pub new_at : (n : ℕ) → n ≡ length (links_apart t p) → n ≤ k → l ≡ get_or (made_links t p) (k - n) no_link → l ≡ get_or (links_after t p) k no_link
    new_at n q h e =
        let i : k ≡ length (links_apart t p) + (k - n) = omega arith in
        e ∙ sym (ap (λ (j : ℕ). get_or (links_after t p) j no_link) i ∙ get_or-append-add (links_apart t p) (made_links t p) (k - n) no_link)

    pub after_at : {r : Link} → k < length (hidden_table t p).links → l ≡ get_or (links_after t p) k no_link → r ≡ renumbered p l
        → r ≡ get_or (hidden_table t p).links k no_link
    unfolding hidden_table
    after_at h e f = f ∙ ap (renumbered p) e ∙ sym (map_at (renumbered p) (links_after t p) k (omega (arith, h, after_count)))

-- ---- how many bytes they have: what moves down keeps its length, and every new connection has 24
moved_size : (p : ℕ) (xs : List Link) → length (encode_links (map (renumbered p) xs)) ≡ length (encode_links xs)
unfolding flat_map
moved_size p [] = refl
moved_size p (x ∷ xs) =
    omega (
      arith,
      length-append (encode_link (renumbered p x)) (encode_links (map (renumbered p) xs)),
      length-append (encode_link x) (encode_links xs),
      link_length (renumbered p x),
      link_length x,
      moved_size p xs,
    )

via_size : (x y : Link) → length (encode_link (via x y)) ≡ 24
unfolding via
via_size x y = link_length (via x y)

each_size : (x : Link) (ys : List Link) → length (encode_links (map (via x) ys)) ≡ 24 * length ys
unfolding flat_map
each_size x [] = refl
each_size x (y ∷ ys) = omega (arith, length-append (encode_link (via x y)) (encode_links (map (via x) ys)), via_size x y, each_size x ys)

made_size : (xs ys : List Link) → length (encode_links (made_from xs ys)) ≡ 24 * length (made_from xs ys)
unfolding flat_map
made_size [] ys = refl
made_size (x ∷ xs) ys =
    ap length (bytes_append (map (via x) ys) (made_from xs ys))
    ∙ omega (
      arith,
      length-append (encode_links (map (via x) ys)) (encode_links (made_from xs ys)),
      length-append (map (via x) ys) (made_from xs ys),
      length-map ys (via x),
      each_size x ys,
      made_size xs ys,
    )

-- new numbers are no larger
pub renumbered_fits : {n : ℕ} (p : ℕ) (l : Link) → LinkFits n l → LinkFits n (renumbered p l)
unfolding new_number
renumbered_fits {n} p l f = between_fits (new_number p l.from) (new_number p l.to) f (below l.from f.from) (below l.to f.to)
  where
    small : (b : Bool) (q : ℕ) → q < n → cond b (q - 1) q < n
    small true q h = omega arith
    small false q h = h

    below : (q : ℕ) → q < n → new_number p q < n
    below q h = small (ltb p q) q h

pub same_some : {r s : Port} → Some r ≡ Some s → r ≡ s
same_some e = cc

module _ (t : Table) (p : ℕ) (formed : WellFormed t) (can : cannot_hide t p ≡ false) where
  links_size : length (encode_links (hidden_table t p).links) ≡ length (encode_links (links_apart t p)) + 24 * length (made_links t p)
  unfolding hidden_table
  links_size =
      moved_size p (links_after t p)
      ∙ ap length (bytes_append (links_apart t p) (made_links t p))
      ∙ omega (
        arith,
        length-append (encode_links (links_apart t p)) (encode_links (made_links t p)),
        made_size (links_into t p) (links_from t p),
      )

  pub table_size_lem : length (encode_table (hidden_table t p)) ≡ 8 * (port_count t - 1) + length (encode_links (links_apart t p)) + 24 * length (made_links t p)
  table_size_lem =
      omega (
        arith,
        table_length (hidden_table t p),
        ports_length (hidden_table t p).ports,
        count t p formed can,
        links_size,
      )

  -- ---- each fits
  module _ (w : CanWrite t p) where
    fits_made : {l : Link} → At (made_links t p) l → LinkFits most_ports l
    fits_made {l} a =
        let m = made_at (links_into t p) (links_from t p) a in
        let x = into_number t p formed can m.first_at in
        let y = from_number t p formed can m.second_at in
        let f = subst (LinkFits most_ports) x.is (each_fits t formed x.k x.holds.a_link.below) in
        let g = subst (LinkFits most_ports) y.is (each_fits t formed y.k y.holds.a_link.below) in
        rw m.is (via_fits m.first m.second f g (sym (ap link_leaves m.is) ∙ ap link_leaves (sym a.is) ∙ w.stay a.place a.below))

    pub made_fits : (k : ℕ) → k < length (made_links t p) → LinkFits most_ports (get_or (made_links t p) k no_link)
    made_fits k h = fits_made (record { place = k; below = h; is = refl })

    fits_apart : {l : Link} → At (links_apart t p) l → LinkFits most_ports l
    fits_apart a =
        let n = apart_number t p formed can a in subst (LinkFits most_ports) n.is (each_fits t formed n.k n.holds.a_link.below)

    pub after_fits : (k : ℕ) → k < length (hidden_table t p).links → LinkFits most_ports (get_or (hidden_table t p).links k no_link)
    after_fits k h =
        rw (← after_at t p {k = k} h refl refl)
        (renumbered_fits p (get_or (links_after t p) k no_link)
        (⊎_elim
        (λ (l : k < length (links_apart t p)).
        rw (← kept_at t p l refl) (fits_apart (record { place = k; below = l; is = refl })))
        (λ (l : length (links_apart t p) ≤ k).
        rw (← new_at t p (length (links_apart t p)) refl l refl)
        (made_fits (k - length (links_apart t p)) (omega (arith, after_length t p))))
        (lt_or_le k (length (links_apart t p)))))

  -- ---- the ports
  pub after_ports : length (hidden_table t p).ports + 1 ≡ port_count t
  after_ports = count t p formed can

  module _ (q : ℕ) {old : ℕ} (is : old ≡ old_number p q) where
    old_port : get_or (lowered_ports t p) old no_port ≡ get_or (hidden_table t p).ports q no_port
    old_port = ap (λ (n : ℕ). get_or (lowered_ports t p) n no_port) is ∙ sym (port_after_lem t p formed can q)

    module _ {l : Limit} {r : Port} (is_limit : l ≡ limit t p) where
      pub port_lowered : Some r ≡ l.rate → l.sender ≡ old → r ≡ get_or (hidden_table t p).ports q no_port
      port_lowered e s = by (lowers t p) refl (e ∙ ap (λ (x : Limit). x.rate) is_limit) ∙ old_port
        where
          by : (b : Bool) → lowers t p ≡ b → Some r ≡ cond b (Some (limit_rate t p)) None → r ≡ get_or (lowered_ports t p) old no_port
          by true f g =
              same_some g
              ∙ sym (lowered_sender t p true f (sender_port t p formed can))
              ∙ ap (λ (n : ℕ). get_or (lowered_ports t p) n no_port) (sym (ap (λ (x : Limit). x.sender) is_limit) ∙ s)
          by false f g = absurd cc

      pub port_same : ((s : Port) → Some s ≡ l.rate → l.sender ≢ old) → r ≡ port t old → r ≡ get_or (hidden_table t p).ports q no_port
      port_same d e = e ∙ by (lowers t p) refl (ℕ_discrete old (sender t p)) ∙ old_port
        where
          by : (b : Bool) → lowers t p ≡ b → Dec (old ≡ sender t p) → port t old ≡ get_or (lowered_ports t p) old no_port
          by b f (no n) = sym (lowered_other t p old n)
          by true f (yes s) = absurd (d (limit_rate t p) (sym (ap (λ (x : Limit). x.rate) is_limit ∙ rw f refl)) (ap (λ (x : Limit). x.sender) is_limit ∙ sym s))
          by false f (yes s) = rw (s, lowered_sender t p false f (sender_port t p formed can))
