-- Both ways of bracketing three tables give the same ports, and the same links up to order.
use Rattle.std.specs.Prelude.{ℕ, suc, ◌+◌, ◌-◌, ◌≤◌, ◌≡◌, refl, Bool, true, false, ◌&&◌, leb, ltb}
use Rattle.std.proofs.Common.{sym, ◌∙◌, true≢false, arith, add_assoc, ltb-true, leb-true}
use Rattle.std.proofs.Math.Path.{ap}
use Rattle.std.proofs.Math.Bool.{not}
use mathlib.Core.List.Permᴰ
use mathlib.Core.List.{List, [], ◌∷◌, ◌++◌, map, map-append, append_assoc, append-nil, Permᴰ, flat_map}
use Rattle.std.proofs.Math.ListN.{length, length-append, length-map}
use Rattle.specification.specs.Table.{Table, port_count, link_count, no_link, most_ports, most_links}
use Rattle.specification.specs.Reading.{Reading, read_on, start}
use Rattle.specification.specs.Encoding.{encode_links, encode_table}
use Rattle.specification.specs.Joining.{moved, behind, before_second, before_added, both_tables, joined_table, Join, join_of}
use Rattle.numbers.specs.Lists.{keep}
use Rattle.numbers.specs.KeepLaws.{keep_length}
use Rattle.specification.specs.Bracketing.{ends_below, ends_from, lowered, ports_of_a, ports_of_ab, three_tables, Three, added_links, whole, join_left, join_right, SameTables}
use Rattle.table.specs.WellFormed.{LinkFits, OneSided}
use Rattle.table.specs.ReadingLaws.{between_fits, fits_more, read_on_fits}
use Rattle.table.specs.FilledLaws.{moved_none}
use Rattle.table.specs.FaultLaws.{no_fault_place}
use Rattle.joins.specs.EachLaws.{Each, each_map}
use Rattle.joins.specs.ReadElsewhere.{read_elsewhere}
use Rattle.encoding.specs.ReadBack.{Writable, read_back}
use Rattle.joins.specs.JoinedLaws.{between_sided, joined_writable}
use Rattle.joins.specs.AddedLaws.{no_port_lem}
use Rattle.bracketing.specs.PermutationLaws.{permuted_exchange, permuted_parts, each_keep}
use Rattle.specification.specs.declared.Link.{Link}

-- ---- one join
-- what reading gives of a table without a fault of 2 to 11
abbrev read : Table → Reading
read t = record { number = 0; place = 0; table = t }

-- links alone
abbrev only : List Link → Table
only ls = record { ports = []; links = ls }

read_itself : (s : List ℕ) → (read_on s start).number ≡ 0 → read_on s start ≡ read (read_on s start).table
read_itself s none =
    let r = read_on s start in
    ap (λ (n : ℕ). record { number = n; place = r.place; table = r.table }) none
    ∙ ap (λ (n : ℕ). record { number = 0; place = n; table = r.table }) (no_fault_place s start none)

-- what an added link must be behind so many ports
record Addable (ports : ℕ) (l : Link) : Type 0 where
  fits : LinkFits ports l
  sided : OneSided l

-- two tables and links that can be added to them
record Parts (t u : Table) (ls : List Link) : Type 0 where
  few_ports : port_count t + port_count u ≤ most_ports
  few_links : link_count t + link_count u + length ls ≤ most_links
  addable : Each (Addable (port_count t + port_count u)) no_link ls

-- the join of two tables and added links
abbrev joined : Table → Table → List Link → Table
joined t u ls = record { ports = t.ports ++ u.ports; links = t.links ++ map (moved (port_count t)) u.links ++ ls }

joined_links : (t u : Table) (ls : List Link) → link_count (joined t u ls) ≡ link_count t + link_count u + length ls
joined_links t u ls =
    let up = map (moved (port_count t)) u.links in
    omega (arith, length-append (t.links ++ up) ls, length-append t.links up, length-map u.links (moved (port_count t)))

-- a join that is read back as this table
record JoinIs (j : Join) (t : Table) : Type 0 where
  number : j.number ≡ 0
  back : read_on j.table start ≡ read t

module _ (x y : List ℕ) (t u : Table) (ls : List Link) (first_is : read_on x start ≡ read t) (second_is : read_on y start ≡ read u) (parts : Parts t u ls) where
  abbrev tables : Table
  tables = behind t (port_count t) u

  second_behind : read_on y (before_second t) ≡ read u
  second_behind =
      read_elsewhere y start (before_second t) refl refl (ap (λ (r : Reading). r.number) second_is)
      (omega (arith, ap (λ (r : Reading). port_count r.table) second_is, parts.few_ports))
      (omega (arith, ap (λ (r : Reading). link_count r.table) second_is, parts.few_links))
      ∙ second_is

  both_are : both_tables x y ≡ tables
  unfolding both_tables
  both_are = rw (first_is, second_behind)

  added_writable : Writable (before_added tables) (only ls)
  added_writable =
      let ports = length-append t.ports u.ports in
      let up = map (moved (port_count t)) u.links in
      record {
        few_ports = omega (arith, ports, parts.few_ports);
        few_links = omega (arith, length-append t.links up, length-map u.links (moved (port_count t)), parts.few_links);
        few_named = omega (arith, ports, parts.few_ports);
        may_come = λ some. absurd (omega arith);
        ports = λ p h. absurd (omega arith);
        links = λ k h. fits_more (port_count tables + 0) (parts.addable k h).fits (omega (arith, ports));
        sided = λ k h. (parts.addable k h).sided;
      }

  added_behind : read_on (encode_links ls) (before_added tables) ≡ read (only ls)
  unfolding encode_table flat_map
  added_behind = read_back (before_added tables) (only ls) added_writable

  joined_is : joined_table x y (encode_links ls) ≡ joined t u ls
  unfolding joined_table
  joined_is = rw (both_are, added_behind, append-nil (t.ports ++ u.ports), moved_none ls)

  join_is : JoinIs (join_of x y (encode_links ls)) (joined t u ls)
  unfolding join_of
  join_is =
      let written = read_back start (joined_table x y (encode_links ls)) (joined_writable x y (encode_links ls)) in
      rw (first_is, second_behind, both_are, added_behind) (record { number = refl; back = written ∙ ap read joined_is })

-- ---- the lots of added links
-- twice moved is moved by both amounts
moved_moved : (by n : ℕ) (ls : List Link) → map (moved by) (map (moved n) ls) ≡ map (moved (by + n)) ls
moved_moved by n [] = refl
moved_moved by n (l ∷ ls) = rw (add_assoc by n l.from, add_assoc by n l.to, moved_moved by n ls)

record Both (x y : Bool) : Type 0 where
  left : x ≡ true
  right : y ≡ true

both_tests : (x y : Bool) → (x && y) ≡ true → Both x y
both_tests true y e = record { left = refl; right = e }
both_tests false y e = absurd (true≢false (sym e))

-- an added link whose ends are port n or above
record Upper (n ports : ℕ) (l : Link) : Type 0 where
  from : n ≤ l.from
  to : n ≤ l.to
  addable : Addable ports l

ends_upper : (n ports : ℕ) (l : Link) → ends_from n l ≡ true → Addable ports l → Upper n ports l
unfolding ends_from
ends_upper n ports l e a =
    let h = both_tests (leb n l.from) (leb n l.to) e in
    record { from = leb-true n l.from h.left; to = leb-true n l.to h.right; addable = a }

ends_below_lem : (n ports : ℕ) (l : Link) → ends_below n l ≡ true → Addable ports l → Addable n l
unfolding ends_below
ends_below_lem n ports l e a =
    let h = both_tests (ltb l.from n) (ltb l.to n) e in
    record { fits = between_fits l.from l.to a.fits (ltb-true l.from n h.left) (ltb-true l.to n h.right); sided = a.sided }

lowered_addable : (n ports m : ℕ) → ports ≡ n + m → (l : Link) → Upper n ports l → Addable m (lowered n l)
lowered_addable n ports m e l u =
    let f = u.addable.fits in
    record {
      fits = between_fits (l.from - n) (l.to - n) f (omega (arith, u.from, f.from)) (omega (arith, u.to, f.to));
      sided = between_sided (l.from - n) (l.to - n) u.addable.sided;
    }

-- moved back after they were lowered
raised : (n ports : ℕ) (ls : List Link) → Each (Upper n ports) no_link ls → map (moved n) (map (lowered n) ls) ≡ ls
raised n ports [] f = refl
raised n ports (l ∷ ls) f =
    let u = f 0 (omega arith) in
    let from : n + (l.from - n) ≡ l.from = omega (arith, u.from) in
    let to : n + (l.to - n) ≡ l.to = omega (arith, u.to) in
    rw (from, to, raised n ports ls (λ k h. f (suc k) (omega arith)))

-- the links of each way, in the order of the whole
lots_left : (x y z e₁ e₂ ls : List Link) → Permᴰ (e₁ ++ e₂) ls → Permᴰ (x ++ y ++ e₁ ++ z ++ e₂) (x ++ y ++ z ++ ls)
lots_left x y z e₁ e₂ ls p =
    rw (append_assoc (x ++ y ++ e₁) z e₂, append_assoc (x ++ y) e₁ (z ++ e₂), append_assoc (x ++ y) z ls)
    (Permᴰ.append_left (x ++ y) (Permᴰ.trans (permuted_exchange e₁ z e₂) (Permᴰ.append_left z p)))

lots_right : (x y z f₁ f₂ ls : List Link) → Permᴰ (f₁ ++ f₂) ls → Permᴰ (x ++ (y ++ z ++ f₁) ++ f₂) (x ++ y ++ z ++ ls)
lots_right x y z f₁ f₂ ls p =
    rw (← append_assoc x (y ++ z) f₁, ← append_assoc x y z, append_assoc (x ++ y ++ z) f₁ f₂) (Permᴰ.append_left (x ++ y ++ z) p)

-- ---- three tables
module _ (a b c d : List ℕ) (h : Three a b c d) where
  abbrev ta : Table
  ta = (read_on a start).table

  abbrev tb : Table
  tb = (read_on b start).table

  abbrev tc : Table
  tc = (read_on c start).table

  abbrev n_a : ℕ
  n_a = ports_of_a a b c

  abbrev n_ab : ℕ
  n_ab = ports_of_ab a b c

  abbrev n_abc : ℕ
  n_abc = n_ab + port_count tc

  abbrev ls : List Link
  ls = added_links a b c d

  -- the added links of each join
  abbrev inner_left : List Link
  inner_left = keep (ends_below n_ab) ls

  abbrev outer_left : List Link
  outer_left = keep (λ l. not (ends_below n_ab l)) ls

  abbrev upper : List Link
  upper = keep (ends_from n_a) ls

  abbrev inner_right : List Link
  inner_right = map (lowered n_a) upper

  abbrev outer_right : List Link
  outer_right = keep (λ l. not (ends_from n_a l)) ls

  -- what `Three` says, by the tables
  three_ports : port_count (three_tables a b c) ≡ n_abc
  three_ports = omega (arith, length-append (ta.ports ++ tb.ports) tc.ports, length-append ta.ports tb.ports)

  few_links : link_count ta + link_count tb + link_count tc + length ls ≤ most_links
  few_links =
      let y = map (moved n_a) tb.links in
      let z = map (moved n_ab) tc.links in
      omega (arith, (read_on_fits d (before_added (three_tables a b c))).few_links h.few_links, length-append (ta.links ++ y) z, length-append ta.links y, length-map tb.links (moved n_a), length-map tc.links (moved n_ab))

  addable : Each (Addable n_abc) no_link ls
  addable k i =
      let before = before_added (three_tables a b c) in
      let f = read_on_fits d before in
      record { fits = fits_more n_abc (f.links k i) (omega (arith, three_ports, ap length (no_port_lem d before refl))); sided = f.sided k i }

  all_upper : Each (Upper n_a n_abc) no_link upper
  all_upper = each_keep (ends_from n_a) (Addable n_abc) (Upper n_a n_abc) no_link ls (ends_upper n_a n_abc) addable

  -- (a b) c
  inner_left_lem : JoinIs (join_of a b (encode_links inner_left)) (joined ta tb inner_left)
  inner_left_lem = join_is a b ta tb inner_left (read_itself a h.first) (read_itself b h.second) (record {
    few_ports = omega (arith, three_ports, h.few_ports);
    few_links = omega (arith, few_links, keep_length (ends_below n_ab) ls);
    addable = each_keep (ends_below n_ab) (Addable n_abc) (Addable n_ab) no_link ls (ends_below_lem n_ab n_abc) addable;
  })

  left : JoinIs (join_left a b c d) (joined (joined ta tb inner_left) tc outer_left)
  unfolding join_left
  left =
      let ports = length-append ta.ports tb.ports in
      join_is (join_of a b (encode_links inner_left)).table c (joined ta tb inner_left) tc outer_left inner_left_lem.back (read_itself c h.third) (record {
        few_ports = omega (arith, three_ports, h.few_ports, ports);
        few_links = omega (arith, few_links, keep_length (ends_below n_ab) ls, joined_links ta tb inner_left);
        addable = each_keep (λ l. not (ends_below n_ab l)) (Addable n_abc) (Addable (length (ta.ports ++ tb.ports) + port_count tc)) no_link ls (λ l e g. rw ports g) addable;
      })

  -- a (b c)
  inner_right_lem : JoinIs (join_of b c (encode_links inner_right)) (joined tb tc inner_right)
  inner_right_lem = join_is b c tb tc inner_right (read_itself b h.second) (read_itself c h.third) (record {
    few_ports = omega (arith, three_ports, h.few_ports);
    few_links = omega (arith, few_links, keep_length (ends_from n_a) ls, length-map upper (lowered n_a));
    addable = each_map (Upper n_a n_abc) (Addable (port_count tb + port_count tc)) no_link (lowered n_a) upper (lowered_addable n_a n_abc (port_count tb + port_count tc) (omega arith)) all_upper;
  })

  right : JoinIs (join_right a b c d) (joined ta (joined tb tc inner_right) outer_right)
  unfolding join_right
  right =
      let n = length (tb.ports ++ tc.ports) in
      let ports : n_a + n ≡ n_abc = omega (arith, length-append tb.ports tc.ports) in
      join_is a (join_of b c (encode_links inner_right)).table ta (joined tb tc inner_right) outer_right (read_itself a h.first) inner_right_lem.back (record {
        few_ports = omega (arith, three_ports, h.few_ports, ports);
        few_links = omega (arith, few_links, keep_length (ends_from n_a) ls, joined_links tb tc inner_right, length-map upper (lowered n_a));
        addable = each_keep (λ l. not (ends_from n_a l)) (Addable n_abc) (Addable (n_a + n)) no_link ls (λ l e g. rw ports g) addable;
      })

  left_links : Permᴰ (joined (joined ta tb inner_left) tc outer_left).links (whole a b c d).links
  left_links =
      let y = map (moved n_a) tb.links in
      let z = map (moved n_ab) tc.links in
      rw (length-append ta.ports tb.ports) (lots_left ta.links y z inner_left outer_left ls (permuted_parts (ends_below n_ab) ls))

  right_links : Permᴰ (joined ta (joined tb tc inner_right) outer_right).links (whole a b c d).links
  right_links =
      let y = map (moved n_a) tb.links in
      let z = map (moved n_ab) tc.links in
      let n_b = port_count tb in
      rw (
        map-append (moved n_a) (tb.links ++ map (moved n_b) tc.links) inner_right,
        map-append (moved n_a) tb.links (map (moved n_b) tc.links),
        moved_moved n_a n_b tc.links,
        raised n_a n_abc upper all_upper,
      ) (lots_right ta.links y z upper outer_right ls (permuted_parts (ends_from n_a) ls))

  pub brackets : SameTables (whole a b c d) (join_left a b c d) (join_right a b c d)
  brackets = record {
    left_number = left.number;
    right_number = right.number;
    left_read = ap (λ (r : Reading). r.number) left.back;
    right_read = ap (λ (r : Reading). r.number) right.back;
    ports = rw (left.back, right.back) (append_assoc ta.ports tb.ports tc.ports);
    links = rw (left.back, right.back) (Permᴰ.trans left_links (Permᴰ.symm right_links));
    all_ports = ap (λ (r : Reading). r.table.ports) left.back;
    all_links = rw left.back left_links;
  }
