-- Laws of tables in slices.
use Rattle.std.specs.Prelude.{ℕ, zero, suc, ◌+◌, ◌*◌, ◌/◌, ◌≤◌, ◌<◌, ◌≡◌, refl, List, [], ◌∷◌, ◌++◌, length, get_or}
use Rattle.std.proofs.Common.{ap, sym, ◌∙◌, suc-add, arith, length-append, ext_get_or}
use Rattle.std.proofs.Math.Decide.{ℕ_discrete}
use Rattle.std.proofs.Math.ListN.{get_or-append}
use Rattle.std.proofs.Math.Seq.{get_or-append_seam}
use Rattle.specification.specs.Table.{Table, no_port, no_link}
use Rattle.table.specs.Slices.{port_numbers, link_numbers, port_in, link_in, firsts, ports_of, links_of, table_of, LinkFields, SameLink}
use Rattle.specification.specs.declared.Port.{Port}
use Rattle.specification.specs.declared.Link.{Link}

-- ---- f of the first numbers
module _ {A : Type 0} (f : ℕ → A) where
  length_firsts : (n : ℕ) → length (firsts f n) ≡ n
  length_firsts zero = refl
  length_firsts (suc n) = omega (arith, length-append (firsts f n) (f n ∷ []), length_firsts n)

  get_or_firsts : (n k : ℕ) (d : A) → k < n → get_or (firsts f n) k d ≡ f k
  get_or_firsts zero k d h = absurd (omega arith)
  get_or_firsts (suc n) k d h = decided (get_or_firsts n k d) (ℕ_discrete k n)
    where
      decided : (k < n → get_or (firsts f n) k d ≡ f k) → Dec (k ≡ n) → get_or (firsts f n ++ (f n ∷ [])) k d ≡ f k
      decided before (yes e) =
          let at : k ≡ length (firsts f n) = e ∙ sym (length_firsts n) in
          ap (λ (i : ℕ). get_or (firsts f n ++ (f n ∷ [])) i d) at ∙ get_or-append_seam (firsts f n) (f n) [] d ∙ ap f (sym e)
      decided before (no g) =
          let inside : k < length (firsts f n) = omega (arith, length_firsts n) in
          get_or-append (firsts f n) (f n ∷ []) d k inside ∙ before (omega arith)

-- ---- what stands at an index
pub count_ports : (s : List ℕ) → length (ports_of s) ≡ length s / 2
unfolding ports_of
count_ports s = length_firsts (port_in s) (length s / 2)

pub count_links : (s : List ℕ) → length (links_of s) ≡ length s / 10
unfolding links_of
count_links s = length_firsts (link_in s) (length s / 10)

pub port_in_lem : (s : List ℕ) (p : ℕ) → p < length (ports_of s) → get_or (ports_of s) p no_port ≡ port_in s p
unfolding ports_of
port_in_lem s p h = get_or_firsts (port_in s) (length s / 2) p no_port (omega (arith, count_ports s))

pub link_in_lem : (s : List ℕ) (k : ℕ) → k < length (links_of s) → get_or (links_of s) k no_link ≡ link_in s k
unfolding links_of
link_in_lem s k h = get_or_firsts (link_in s) (length s / 10) k no_link (omega (arith, count_links s))

-- equal in each field, equal as a whole
pub same_link : (s : List ℕ) (k : ℕ) {r : Link} → k < length (links_of s) → LinkFields r (link_in s k) → SameLink r (get_or (links_of s) k no_link)
same_link s k {r} h f =
    let ticks : r.ticks ≡ (link_in s k).ticks = λ i. (f.ticks_forward_lem i, f.ticks_back_lem i) in
    let events : r.events ≡ (link_in s k).events = λ i. (f.events_forward i, f.events_back i) in
    rw (link_in_lem s k h) (record {
      whole = λ i. record {
        from = f.from i;
        to = f.to i;
        num = f.num i;
        den = f.den i;
        ticks = ticks i;
        events = events i;
        over = f.over i;
        kind = f.kind i;
      };
      fields = f;
      ticks = ticks;
      events = events;
    })

-- an index below the count has its numbers
pub port_room : (s : List ℕ) (p : ℕ) → p < length (ports_of s) → 2 * p + 2 ≤ length s
port_room s p h = omega (arith, count_ports s)

pub link_room : (s : List ℕ) (k : ℕ) → k < length (links_of s) → 10 * k + 10 ≤ length s
link_room s k h = omega (arith, count_links s)

-- ---- the numbers of ports and links are of these ports and links
pub length_port_numbers : (ps : List Port) → length (port_numbers ps) ≡ 2 * length ps
length_port_numbers [] = refl
length_port_numbers (p ∷ ps) = omega (arith, length_port_numbers ps)

pub length_link_numbers : (ls : List Link) → length (link_numbers ls) ≡ 10 * length ls
length_link_numbers [] = refl
length_link_numbers (l ∷ ls) = omega (arith, length_link_numbers ls)

pub port_back : (ps : List Port) (p : ℕ) → p < length ps → port_in (port_numbers ps) p ≡ get_or ps p no_port
port_back [] p h = absurd (omega arith)
port_back (x ∷ ps) zero h = refl
port_back (x ∷ ps) (suc p) h =
    let two : 2 * suc p ≡ suc (suc (2 * p)) = omega arith in
    simp (two, suc-add) (port_back ps p (omega arith))

pub link_back : (ls : List Link) (k : ℕ) → k < length ls → link_in (link_numbers ls) k ≡ get_or ls k no_link
link_back [] k h = absurd (omega arith)
link_back (l ∷ ls) zero h = refl
link_back (l ∷ ls) (suc k) h =
    let ten : 10 * suc k ≡ suc (suc (suc (suc (suc (suc (suc (suc (suc (suc (10 * k)))))))))) = omega arith in
    simp (ten, suc-add) (link_back ls k (omega arith))

pub ports_back : (ps : List Port) → ports_of (port_numbers ps) ≡ ps
ports_back ps =
    let long : length (ports_of (port_numbers ps)) ≡ length ps = omega (arith, count_ports (port_numbers ps), length_port_numbers ps) in
    ext_get_or no_port (ports_of (port_numbers ps)) ps long (λ p h. port_in_lem (port_numbers ps) p h ∙ port_back ps p (omega arith))

pub links_back : (ls : List Link) → links_of (link_numbers ls) ≡ ls
links_back ls =
    let long : length (links_of (link_numbers ls)) ≡ length ls = omega (arith, count_links (link_numbers ls), length_link_numbers ls) in
    ext_get_or no_link (links_of (link_numbers ls)) ls long (λ k h. link_in_lem (link_numbers ls) k h ∙ link_back ls k (omega arith))

pub table_back : (t : Table) → table_of (port_numbers t.ports) (link_numbers t.links) ≡ t
table_back t = rw (ports_back t.ports, links_back t.links)
