-- How a member is seen from further out: over one anonymous aggregate and over several that are put together.
use Rattle.std.proofs.Common.{◌≡◌, ℕ, ◌<◌, ◌+◌, ◌||◌, Bool, true, false, cond, nat_le, Option, Some, None, IsSome, refl, sym, ap, ◌∙◌, arith}
use Rattle.std.proofs.lemmas.Bool.{leb-false, lt-leb}
use Rattle.sparse_model.specs.declared.space.Space.{Space}
use Rattle.sparse_model.specs.declared.space.Space.TheVariants as spaces
use Rattle.meaning_layout.specs.Members.{bits_behind, first_bit_in, most_bits}
use Rattle.meaning_layout.specs.Sizes.{Told}
use Rattle.meaning_layout.specs.Telling.{or_incomplete}
use Rattle.c_types.specs.declared.members.Anonymous.{Anonymous}
use Rattle.c_types.specs.declared.members.FoundMember.{FoundMember}
use Rattle.c_types.specs.Chains.{IsToldMember}
use Rattle.c_types.specs.Members.{anonymous_around, bits_around, found_around, inner_space}

-- Bits

abbrev if_few : ℕ → Option ℕ
if_few bits = cond (nat_le bits most_bits) (Some bits) None

too-many : (bits : ℕ) → most_bits < bits → if_few bits ≡ None
too-many bits more = ap (λ few. cond few (Some bits) None) (lt-leb bits most_bits more)

behind-by : (one two three : ℕ) (front back : Bool) → nat_le (one + two) most_bits ≡ front → nat_le (two + three) most_bits ≡ back
    → bits_behind (Some one) (cond back (Some (two + three)) None) ≡ bits_behind (cond front (Some (one + two)) None) (Some three)
behind-by one two three true true is_front is_back =
    let same : one + (two + three) ≡ one + two + three = omega arith in
    ap if_few same
behind-by one two three true false is_front is_back = sym (too-many (one + two + three) (omega (arith, leb-false (two + three) most_bits is_back)))
behind-by one two three false true is_front is_back = too-many (one + (two + three)) (omega (arith, leb-false (one + two) most_bits is_front))
behind-by one two three false false is_front is_back = refl

-- in whatever order they are put together
bits-assoc : (one two three : Option ℕ) → bits_behind one (bits_behind two three) ≡ bits_behind (bits_behind one two) three
bits-assoc None two three = refl
bits-assoc (Some one) None three = refl
bits-assoc (Some one) (Some two) None = none (nat_le (one + two) most_bits)
  where
    none : (few : Bool) → None ≡ bits_behind (cond few (Some (one + two)) None) None
    none true = refl
    none false = refl
bits-assoc (Some one) (Some two) (Some three) = behind-by one two three (nat_le (one + two) most_bits) (nat_le (two + three) most_bits) refl refl

-- no bits before others change nothing
pub bits-begin : (one two : Option ℕ) → bits_behind (Some 0) (bits_behind one two) ≡ bits_behind one two
bits-begin None two = refl
bits-begin (Some one) None = refl
bits-begin (Some one) (Some two) = by (nat_le (one + two) most_bits) refl
  where
    by : (few : Bool) → nat_le (one + two) most_bits ≡ few → bits_behind (Some 0) (cond few (Some (one + two)) None) ≡ cond few (Some (one + two)) None
    by true is =
        let same : 0 + (one + two) ≡ one + two = omega arith in
        ap if_few same ∙ ap (λ few. cond few (Some (one + two)) None) is
    by false is = refl

-- Qualifiers and spaces

or-assoc : (one two three : Bool) → ((one || two) || three) ≡ (one || (two || three))
or-assoc true two three = refl
or-assoc false two three = refl

space-assoc : (outer inner own : Space) → inner_space (inner_space outer inner) own ≡ inner_space outer (inner_space inner own)
space-assoc outer inner spaces.None = refl
space-assoc outer inner (spaces.Number number) = refl
space-assoc outer inner (spaces.Named name) = refl

-- Members

module _ (told : Told) where
  -- a member over two anonymous aggregates is one over both
  pub found-twice : (outer inner : Anonymous) (found : FoundMember) → found_around told (anonymous_around told outer inner) found ≡ found_around told outer (found_around told inner found)
  found-twice outer inner found =
      let inside = first_bit_in found.place (or_incomplete (told inner.number inner.is_union)) in
      let outside = first_bit_in inner.place (or_incomplete (told outer.number outer.is_union)) in
      let rest = bits_behind inside found.bits in
      let bits : bits_around told (anonymous_around told outer inner) found.place found.bits ≡ bits_around told outer inner.place (bits_around told inner found.place found.bits) =
      sym (bits-assoc outer.bits (bits_behind outside inner.bits) rest) ∙ ap (bits_behind outer.bits) (sym (bits-assoc outside inner.bits rest))
      in
      let is_const = or-assoc outer.is_const inner.is_const found.is_const in
      let is_volatile = or-assoc outer.is_volatile inner.is_volatile found.is_volatile in
      let noderef = or-assoc outer.noderef inner.noderef found.noderef in
      let space = space-assoc outer.space inner.space found.space in
      λ i. record {
        place = outer.place;
        bits = bits i;
        of = found.of;
        width = found.width;
        is_const = is_const i;
        is_volatile = is_volatile i;
        noderef = noderef i;
        space = space i;
      }

-- where more is told, nothing changes
pub around-later : (told later : Told) → ((number : ℕ) (is_union : Bool) → IsSome (told number is_union) → later number is_union ≡ told number is_union)
    → (anonymous : Anonymous) → IsToldMember told anonymous → (found : FoundMember) → found_around later anonymous found ≡ found_around told anonymous found
around-later told later stay anonymous is found =
    let same = stay anonymous.number anonymous.is_union is in
    λ i. record (found_around told anonymous found) { bits = bits_behind anonymous.bits (bits_behind (first_bit_in found.place (or_incomplete (same i))) found.bits) }
