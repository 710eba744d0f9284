-- Members of structures and unions, from one bit on.
use Rattle.std.proofs.Common.{if◌then◌else◌, ◌≡◌, ℕ, zero, suc, ◌+◌, ◌*◌, ◌/◌, ◌<◌, ◌≤◌, ◌^◌, ◌==◌, Bool, true, false, nat_le, max, Option, None, Some, Result, Ok, Err, List, [], ◌∷◌, All, map, refl, sym, ap, ◌∙◌, subst, arith}
use Rattle.std.proofs.lemmas.Bool.{cond_both, leb-true, le-leb}
use Rattle.std.proofs.lemmas.List.Elements.{All-head, All-tail}
use Rattle.meaning_layout.specs.Bodies.{LayoutBody, given_align, member_align}
use Rattle.meaning_layout.specs.Placing.{bit_behind, bits_of, field_from, field_start, first_bit, first_bit_with, largest_align, largest_bits, lies_in_unit, next_multiple, unit_of}
use Rattle.meaning_layout.specs.Layouts.{Layout, LayoutFault, TooLarge, align_of_body, bits_in, layout_of, most_bytes, size_of_body}
use Rattle.meaning_layout.proofs.MultipleLemmas.{next_multiple-le}
use Rattle.body_layout.specs.declared.member.PlacedMember.{PlacedMember}
use Rattle.body_layout.specs.declared.placing.Placing.{Placing}
use Rattle.body_layout.specs.Seen.{IsPlaced, Places, member_seen, structure_body, union_body}

-- Where one member begins

field_start-le : (written bit : ℕ) → 0 < written → bit ≤ field_start written bit
field_start-le written bit some =
    cond_both (written == 1) bit (next_multiple (8 * written) bit) (λ start. bit ≤ start) (λ one. omega arith) (λ more. next_multiple-le (8 * written) bit (omega arith))

field_from-le : (unit width bit : ℕ) → 0 < unit → bit ≤ field_from unit width bit
field_from-le unit zero bit some = next_multiple-le unit bit some
field_from-le unit (suc more) bit some =
    cond_both (lies_in_unit unit bit (suc more)) bit (next_multiple unit bit) (λ start. bit ≤ start) (λ inside. omega arith) (λ crosses. next_multiple-le unit bit some)

first_bit_with-le : (width : Option ℕ) (packed : Bool) (member : PlacedMember) (bit : ℕ) → IsPlaced member → member.width ≡ width → bit ≤ first_bit_with width packed (member_seen member) bit
first_bit_with-le None packed member bit is same =
    next_multiple-le (8 * member_align packed (member_seen member)) bit (let some = is.written in omega arith)
first_bit_with-le (Some width) packed member bit is same =
    let some = is.field width same in
    let start = field_start-le member.written bit is.written in
    let from = field_from-le (unit_of (member_seen member)) width (field_start member.written bit) (omega arith) in
    omega arith

first_bit-le : (packed : Bool) (member : PlacedMember) (bit : ℕ) → IsPlaced member → bit ≤ first_bit packed (member_seen member) bit
first_bit-le packed member bit is = first_bit_with-le member.width packed member bit is refl

-- members end no earlier than they begin
pub bit_behind-le : (packed : Bool) (members : List PlacedMember) (bit : ℕ) → All IsPlaced members → bit ≤ bit_behind packed (map member_seen members) bit
bit_behind-le packed [] bit are = omega arith
bit_behind-le packed (member ∷ members) bit are =
    let begins = first_bit-le packed member bit (All-head IsPlaced member members are) in
    let rest = bit_behind-le packed members (first_bit packed (member_seen member) bit + bits_of (member_seen member)) (All-tail IsPlaced member members are) in
    omega arith

-- The members of a list

pub first-placed : (members : List PlacedMember) (member : PlacedMember) (others : List PlacedMember) → members ≡ member ∷ others → All IsPlaced members → IsPlaced member
first-placed members member others split are = All-head IsPlaced member others (subst (All IsPlaced) split are)

pub rest-placed : (members : List PlacedMember) (member : PlacedMember) (others : List PlacedMember) → members ≡ member ∷ others → All IsPlaced members → All IsPlaced others
rest-placed members member others split are = All-tail IsPlaced member others (subst (All IsPlaced) split are)

-- Alignments

-- members give 1 at least
pub largest_align-more : (packed : Bool) (members : List PlacedMember) → largest_align packed (map member_seen members) ≡ max 1 (largest_align packed (map member_seen members))
largest_align-more packed [] = refl
largest_align-more packed (member ∷ members) =
    let rest = largest_align-more packed members in
    omega (arith, rest)

pub max-one : (align : ℕ) → 0 < align → max align 1 ≡ align
max-one align some = omega (arith, some)

max-zero : (bits : ℕ) → max bits 0 ≡ bits
max-zero bits = omega arith

-- the largest so far, one more, and the largest of the rest
pub one_more : (align : ℕ) (packed : Bool) (member : PlacedMember) (others : List PlacedMember) (given larger : ℕ) → given ≡ given_align packed (member_seen member) → larger ≡ max align given
    → max align (largest_align packed (map member_seen (member ∷ others))) ≡ max larger (largest_align packed (map member_seen others))
one_more align packed member others given larger is_given is_larger = omega (arith, is_given, is_larger)

pub one_more-first : (align : ℕ) (packed : Bool) (member : PlacedMember) (others : List PlacedMember) (given larger : ℕ) → given ≡ given_align packed (member_seen member) → larger ≡ max given align
    → max align (largest_align packed (map member_seen (member ∷ others))) ≡ max larger (largest_align packed (map member_seen others))
one_more-first align packed member others given larger is_given is_larger = omega (arith, is_given, is_larger)

pub bits_more : (bits : ℕ) (member : PlacedMember) (others : List PlacedMember) (own larger : ℕ) → own ≡ bits_of (member_seen member) → larger ≡ max own bits
    → max bits (largest_bits (map member_seen (member ∷ others))) ≡ max larger (largest_bits (map member_seen others))
bits_more bits member others own larger is_own is_larger = omega (arith, is_own, is_larger)

pub largest_bits-more : (members : List PlacedMember) → largest_bits (map member_seen members) ≡ max 0 (largest_bits (map member_seen members))
largest_bits-more members = omega arith

-- a member gives no more than it may
pub given-narrow : (named packed : Bool) (member : PlacedMember) → IsPlaced member
    → (if named then max (if packed then 1 else member.align) member.written else 1) ≤ 2 ^ 32
given-narrow true true member is = omega (arith, is.narrow)
given-narrow true false member is = omega (arith, is.align, is.narrow)
given-narrow false packed member is = omega arith

pub narrow-more : (packed : Bool) (member : PlacedMember) (align given larger : ℕ) → IsPlaced member → align ≤ 2 ^ 32 → given ≡ given_align packed (member_seen member) → larger ≡ max align given
    → larger ≤ 2 ^ 32
narrow-more packed member align given larger is narrow is_given is_larger = omega (arith, given-narrow member.named packed member is, narrow, is_given, is_larger)

pub narrow-first : (packed : Bool) (member : PlacedMember) (align given larger : ℕ) → IsPlaced member → align ≤ 2 ^ 32 → given ≡ given_align packed (member_seen member) → larger ≡ max given align
    → larger ≤ 2 ^ 32
narrow-first packed member align given larger is narrow is_given is_larger = omega (arith, given-narrow member.named packed member is, narrow, is_given, is_larger)

-- Bodies

abbrev made_if : Bool → Layout → Result Layout LayoutFault
made_if test made = if test then Ok made else Err TooLarge

abbrev made_of : LayoutBody → Layout
made_of body = record { first_bits = bits_in body; size = size_of_body body; align = align_of_body body }

-- a body whose parts are known has a layout, unless it is too large
pub layout-fits : (body : LayoutBody) (bits : List ℕ) (size align : ℕ) → bits_in body ≡ bits → size_of_body body ≡ size → align_of_body body ≡ align → size ≤ most_bytes
    → layout_of body ≡ Ok (record { first_bits = bits; size = size; align = align })
layout-fits body bits size align is_bits is_size is_align few =
    ap (λ test. made_if test (made_of body)) (ap (λ n. nat_le n most_bytes) is_size ∙ le-leb size most_bytes few)
    ∙ (λ i. Ok (record { first_bits = is_bits i; size = is_size i; align = is_align i }))

pub layout-too_large : (body : LayoutBody) → most_bytes < size_of_body body → layout_of body ≡ Err TooLarge
layout-too_large body large = by (nat_le (size_of_body body) most_bytes) refl
  where
    by : (test : Bool) → nat_le (size_of_body body) most_bytes ≡ test → made_if test (made_of body) ≡ Err TooLarge
    by true e = let few = leb-true (size_of_body body) most_bytes e in absurd (omega (arith, few, large))
    by false e = refl

-- Structures

module _ (packed : Bool) (written : ℕ) (members : List PlacedMember) where
  abbrev body : LayoutBody
  body = structure_body packed written members

  pub structure-large : 0 < written → 8 * most_bytes < bit_behind packed (map member_seen members) 0 → layout_of body ≡ Err TooLarge
  structure-large some large =
      let padded = next_multiple-le (align_of_body body) ((bit_behind packed (map member_seen members) 0 + 7) / 8) (omega (arith, some)) in
      layout-too_large body (omega (arith, padded, large))

  module _ (placing : Placing) (places : Places packed (map member_seen members) placing) (align size : ℕ) (is_align : align ≡ max placing.align written)
      (is_size : size ≡ next_multiple align ((placing.next + 7) / 8)) where
    same_align : align_of_body body ≡ align
    same_align = ap (λ n. max n written) places.align ∙ sym is_align

    same_size : size_of_body body ≡ size
    same_size = (λ i. next_multiple (same_align i) ((places.behind i + 7) / 8)) ∙ sym is_size

    pub structure-fits : size ≤ most_bytes → layout_of body ≡ Ok (record { first_bits = placing.first_bits.items; size = size; align = align })
    structure-fits few = layout-fits body placing.first_bits.items size align places.bits same_size same_align few

    pub structure-over : most_bytes < size → layout_of body ≡ Err TooLarge
    structure-over large = layout-too_large body (omega (arith, large, same_size))

-- Unions

zeros : (members : List PlacedMember) → map {B = ℕ} (λ member. 0) (map member_seen members) ≡ map (λ member. 0) members
zeros [] = refl
zeros (member ∷ members) = ap (λ bits. 0 ∷ bits) (zeros members)

module _ (packed : Bool) (written : ℕ) (members : List PlacedMember) (bits given align size : ℕ) (some : 0 < given)
    (is_bits : largest_bits (map member_seen members) ≡ max bits 0) (is_given : largest_align packed (map member_seen members) ≡ max given 1)
    (is_align : align ≡ max given written) (is_size : size ≡ next_multiple align ((bits + 7) / 8)) where
  union_align : align_of_body (union_body packed written members) ≡ align
  union_align = ap (λ n. max n written) (is_given ∙ max-one given some) ∙ sym is_align

  union_size : size_of_body (union_body packed written members) ≡ size
  union_size = (λ i. next_multiple (union_align i) ((all_bits i + 7) / 8)) ∙ sym is_size
    where
      all_bits : largest_bits (map member_seen members) ≡ bits
      all_bits = is_bits ∙ max-zero bits

  pub union-fits : size ≤ most_bytes → layout_of (union_body packed written members) ≡ Ok (record { first_bits = map (λ member. 0) members; size = size; align = align })
  union-fits few = layout-fits (union_body packed written members) (map (λ member. 0) members) size align (zeros members) union_size union_align few

  pub union-over : most_bytes < size → layout_of (union_body packed written members) ≡ Err TooLarge
  union-over large = layout-too_large (union_body packed written members) (omega (arith, large, union_size))
