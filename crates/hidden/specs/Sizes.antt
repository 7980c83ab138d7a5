-- The bytes of the first links of a list.
use Rattle.std.specs.Prelude.{ℕ, ◌+◌, ◌*◌, ◌≤◌, ◌<◌, ◌≡◌, length, take, get_or}
use Rattle.std.proofs.Math.Path.{refl}
use Rattle.std.proofs.Common.{◌∙◌, add-one, arith, take_all, length-append, length-take-le}
use Rattle.std.proofs.Math.Seq.{take-suc}
use mathlib.Core.List.{List, [], ◌∷◌, ◌++◌, flat_map, append_assoc}
use Rattle.specification.specs.Table.{no_link}
use Rattle.specification.specs.Encoding.{encode_link, encode_links}
use Rattle.specification.specs.declared.Link.{Link}
use Rattle.encoding.specs.EncodingLaws.{links_most}

pub bytes_append : (xs ys : List Link) → encode_links (xs ++ ys) ≡ encode_links xs ++ encode_links ys
unfolding flat_map
bytes_append [] ys = refl
bytes_append (x ∷ xs) ys = rw (bytes_append xs ys, append_assoc (encode_link x) (encode_links xs) (encode_links ys))

-- so many bytes are those of the first k
pub record SizeFirst (xs : List Link) (size k : ℕ) : Type 0 where
  pub within : k ≤ length xs
  pub is : size ≡ length (encode_links (take k xs))

one_size : (x : Link) → length (encode_links (x ∷ [])) ≡ length (encode_link x)
unfolding flat_map
one_size x = length-append (encode_link x) [] ∙ omega arith

module _ {xs : List Link} where
  pub size_none : SizeFirst xs 0 0
  unfolding flat_map
  size_none = record { within = omega arith; is = refl }

  module _ {size k : ℕ} (s : SizeFirst xs size k) where
    pub size_on : {n : ℕ} → k < length xs → n ≡ length (encode_link (get_or xs k no_link)) → SizeFirst xs (size + n) (k + 1)
    size_on h e = record {
      within = omega arith;
      is = rw (add-one k, take-suc xs k no_link h, bytes_append (take k xs) (get_or xs k no_link ∷ []))
          (omega (arith, s.is, e, length-append (encode_links (take k xs)) (encode_links (get_or xs k no_link ∷ [])), one_size (get_or xs k no_link)));
    }

    pub size_most : size ≤ 24 * length xs
    size_most = omega (arith, s.within, s.is, links_most (take k xs), length-take-le k xs s.within)

    pub size_all : length xs ≤ k → size ≡ length (encode_links xs)
    size_all h = rw (take_all k xs h) at s.is
