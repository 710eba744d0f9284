-- Members of structures and unions, from one bit on.
use Rattle.std.proofs.Common.{◌≡◌, ℕ, zero, suc, ◌+◌, ◌-◌, ◌*◌, ◌/◌, ◌%◌, ◌<◌, ◌≤◌, ◌==◌, Bool, true, false, cond, nat_le, Option, None, Some, Ok, Err, List, [], ◌∷◌, map, All, replicate, length, refl, sym, ap, subst, ◌∙◌, arith}
use Rattle.std.proofs.lemmas.Bool.{cond_both}
use Rattle.std.proofs.lemmas.Bool.Decides.{nat_tests}
use Rattle.std.proofs.lemmas.List.Elements.{All-head, All-tail}
use Rattle.std.proofs.lemmas.Nat.{mod-mul-add}
use Rattle.meaning_layout.specs.Bodies.{LayoutMember, LayoutBody, member_align}
use Rattle.meaning_layout.specs.Placing.{bit_behind, bits_of, field_from, field_start, first_bit, first_bit_with, first_bits, largest_bits, lies_in_unit, next_multiple, unit_of}
use Rattle.meaning_layout.specs.Layouts.{Layout, TooLarge, align_of_body, bits_in, bits_behind, layout_of, most_bytes, size_of_body}
use Rattle.meaning_layout.specs.laws.Layouts.{StandApart, EachMember, IsAligned, IsBody, IsInUnit, IsMember}
use Rattle.meaning_layout.proofs.MultipleLemmas.{below-div, next_multiple-div, next_multiple-le, next_multiple-mod, zero_times}

-- Where one member begins

field_start-le : (written bit : ℕ) → 0 < written → bit ≤ field_start written bit
field_start-le written bit some =
    cond_both (written == 1) bit (next_multiple (8 * written) bit) (λ start. bit ≤ start) (λ one. omega arith) (λ more. next_multiple-le (8 * written) bit (omega arith))

field_from-le : (unit width bit : ℕ) → 0 < unit → bit ≤ field_from unit width bit
field_from-le unit zero bit some = next_multiple-le unit bit some
field_from-le unit (suc more) bit some =
    cond_both (lies_in_unit unit bit (suc more)) bit (next_multiple unit bit) (λ start. bit ≤ start) (λ inside. omega arith) (λ crosses. next_multiple-le unit bit some)

member_align-some : (packed : Bool) (member : LayoutMember) → 0 < member.written → 0 < member_align packed member
member_align-some packed member some = omega arith

first_bit_with-le : (width : Option ℕ) (packed : Bool) (member : LayoutMember) (bit : ℕ) → IsMember member → member.width ≡ width → bit ≤ first_bit_with width packed member bit
first_bit_with-le None packed member bit is same =
    next_multiple-le (8 * member_align packed member) bit (let some = member_align-some packed member is.written in omega arith)
first_bit_with-le (Some width) packed member bit is same =
    let some = (is.field width same).0 in
    let start = field_start-le member.written bit is.written in
    let from = field_from-le (unit_of member) width (field_start member.written bit) (omega arith) in
    omega arith

first_bit-le : (packed : Bool) (member : LayoutMember) (bit : ℕ) → IsMember member → bit ≤ first_bit packed member bit
first_bit-le packed member bit is = first_bit_with-le member.width packed member bit is refl

-- a bit-field with a width lies in one unit
field_from-unit : (unit width bit : ℕ) → 0 < width → width ≤ unit → field_from unit width bit / unit ≡ (field_from unit width bit + (width - 1)) / unit
field_from-unit unit zero bit some few = absurd (omega arith)
field_from-unit unit (suc more) bit some few =
    cond_both (lies_in_unit unit bit (suc more)) bit (next_multiple unit bit) (λ start. start / unit ≡ (start + (suc more - 1)) / unit)
    (λ inside. grind (arith, nat_tests, inside)) (λ crosses. next_multiple-div unit bit (suc more) some few)

first_bit_with-unit : (width : Option ℕ) (packed : Bool) (member : LayoutMember) (bit : ℕ) → IsMember member → member.width ≡ width → IsInUnit member (first_bit_with width packed member bit)
first_bit_with-unit None packed member bit is same = λ width given some. cc
first_bit_with-unit (Some width) packed member bit is same = λ other given some.
    let equal : width ≡ other = cc in
    subst (λ w. field_from (unit_of member) width (field_start member.written bit) / unit_of member ≡ (field_from (unit_of member) width (field_start member.written bit) + (w - 1)) / unit_of member) equal
    (field_from-unit (unit_of member) width (field_start member.written bit) (subst (λ w. 0 < w) (sym equal) some) (is.field width same).1)

first_bit_with-aligned : (width : Option ℕ) (packed : Bool) (member : LayoutMember) (bit : ℕ) → IsMember member → member.width ≡ width → IsAligned packed member (first_bit_with width packed member bit)
first_bit_with-aligned None packed member bit is same = λ none.
    next_multiple-mod (8 * member_align packed member) bit (let some = member_align-some packed member is.written in omega arith)
first_bit_with-aligned (Some width) packed member bit is same = λ none. cc

-- What holds of each member

each_member : (P : LayoutMember → ℕ → Type 0) (packed : Bool) (members : List LayoutMember) (bit : ℕ) → ((member : LayoutMember) (before : ℕ) → IsMember member → P member (first_bit packed member before)) → All IsMember members → EachMember P members (first_bits packed members bit)
each_member P packed [] bit holds are = tt
each_member P packed (member ∷ members) bit holds are = (
  holds member bit (All-head IsMember member members are),
  each_member P packed members (first_bit packed member bit + bits_of member) holds (All-tail IsMember member members are),
)

each_at_0 : (P : LayoutMember → ℕ → Type 0) (members : List LayoutMember) → ((member : LayoutMember) → IsMember member → P member 0) → All IsMember members → EachMember P members (map (λ member. 0) members)
each_at_0 P [] holds are = tt
each_at_0 P (member ∷ members) holds are = (holds member (All-head IsMember member members are), each_at_0 P members holds (All-tail IsMember member members are))

each_weaker : (P Q : LayoutMember → ℕ → Type 0) (members : List LayoutMember) (bits : List ℕ) → ((member : LayoutMember) (bit : ℕ) → P member bit → Q member bit) → EachMember P members bits → EachMember Q members bits
each_weaker P Q [] [] weaker each = tt
each_weaker P Q [] (bit ∷ bits) weaker each = absurd each
each_weaker P Q (member ∷ members) [] weaker each = absurd each
each_weaker P Q (member ∷ members) (bit ∷ bits) weaker each = (weaker member bit each.0, each_weaker P Q members bits weaker each.1)

-- no member begins before the bit from which all are placed
first_bits-from : (packed : Bool) (members : List LayoutMember) (least bit : ℕ) → least ≤ bit → All IsMember members → EachMember (λ member first. least ≤ first) members (first_bits packed members bit)
first_bits-from packed [] least bit le are = tt
first_bits-from packed (member ∷ members) least bit le are =
    let begins = first_bit-le packed member bit (All-head IsMember member members are) in (
      omega arith,
      first_bits-from packed members least (first_bit packed member bit + bits_of member) (omega arith) (All-tail IsMember member members are),
    )

first_bits-apart : (packed : Bool) (members : List LayoutMember) (bit : ℕ) → All IsMember members → StandApart members (first_bits packed members bit)
first_bits-apart packed [] bit are = tt
first_bits-apart packed (member ∷ members) bit are =
    let behind = first_bit packed member bit + bits_of member in (
      first_bits-from packed members behind behind (omega arith) (All-tail IsMember member members are),
      first_bits-apart packed members behind (All-tail IsMember member members are),
    )

bit_behind-le : (packed : Bool) (members : List LayoutMember) (bit : ℕ) → All IsMember members → bit ≤ bit_behind packed members bit
bit_behind-le packed [] bit are = omega arith
bit_behind-le packed (member ∷ members) bit are =
    let begins = first_bit-le packed member bit (All-head IsMember member members are) in
    let rest = bit_behind-le packed members (first_bit packed member bit + bits_of member) (All-tail IsMember member members are) in
    omega arith

first_bits-inside : (packed : Bool) (members : List LayoutMember) (bit : ℕ) → All IsMember members → EachMember (λ member first. first + bits_of member ≤ bit_behind packed members bit) members (first_bits packed members bit)
first_bits-inside packed [] bit are = tt
first_bits-inside packed (member ∷ members) bit are =
    let behind = first_bit packed member bit + bits_of member in (
      bit_behind-le packed members behind (All-tail IsMember member members are),
      first_bits-inside packed members behind (All-tail IsMember member members are),
    )

largest_bits-inside : (members : List LayoutMember) (most : ℕ) → largest_bits members ≤ most → EachMember (λ member first. first + bits_of member ≤ most) members (map (λ member. 0) members)
largest_bits-inside [] most le = tt
largest_bits-inside (member ∷ members) most le = (omega arith, largest_bits-inside members most (omega arith))

map-zero : (members : List LayoutMember) → map {B = ℕ} (λ member. 0) members ≡ replicate (length members) 0
map-zero [] = refl
map-zero (member ∷ members) = ap (λ bits. 0 ∷ bits) (map-zero members)

-- Bodies

laid_out : (fits : Bool) (made layout : Layout) → cond fits (Ok made) (Err TooLarge) ≡ Ok layout → made ≡ layout
laid_out true made layout is = cc
laid_out false made layout is = cc

-- what a layout is
pub made_by : (body : LayoutBody) (layout : Layout) → layout_of body ≡ Ok layout → record { first_bits = bits_in body; size = size_of_body body; align = align_of_body body } ≡ layout
made_by body layout is = laid_out (nat_le (size_of_body body) most_bytes) _ layout is

align-some : (body : LayoutBody) → IsBody body → 0 < align_of_body body
align-some body is = let some = is.written in omega arith

pub size-multiple : (body : LayoutBody) → IsBody body → size_of_body body % align_of_body body ≡ 0
size-multiple body is = next_multiple-mod (align_of_body body) ((bits_behind body + 7) / 8) (align-some body is)

end-inside : (body : LayoutBody) → IsBody body → bits_behind body ≤ 8 * size_of_body body
end-inside body is =
    let padded = next_multiple-le (align_of_body body) ((bits_behind body + 7) / 8) (align-some body is) in
    omega arith

inside-either : (is_union packed : Bool) (members : List LayoutMember) → All IsMember members
    → EachMember (λ member first. first + bits_of member ≤ cond is_union (largest_bits members) (bit_behind packed members 0)) members (cond is_union (map (λ member. 0) members) (first_bits packed members 0))
inside-either true packed members are = largest_bits-inside members (largest_bits members) (omega arith)
inside-either false packed members are = first_bits-inside packed members 0 are

pub members-inside : (body : LayoutBody) → IsBody body → EachMember (λ member bit. bit + bits_of member ≤ 8 * size_of_body body) body.members (bits_in body)
members-inside body is =
    let whole = end-inside body is in
    each_weaker (λ member bit. bit + bits_of member ≤ bits_behind body) (λ member bit. bit + bits_of member ≤ 8 * size_of_body body) body.members (bits_in body)
    (λ member bit within. omega arith) (inside-either body.is_union body.packed body.members is.members)

apart-either : (is_union packed : Bool) (members : List LayoutMember) → is_union ≡ false → All IsMember members → StandApart members (cond is_union (map (λ member. 0) members) (first_bits packed members 0))
apart-either true packed members struct are = cc
apart-either false packed members struct are = first_bits-apart packed members 0 are

pub members-apart : (body : LayoutBody) → IsBody body → body.is_union ≡ false → StandApart body.members (bits_in body)
members-apart body is struct = apart-either body.is_union body.packed body.members struct is.members

each-either : (P : LayoutMember → ℕ → Type 0) (is_union packed : Bool) (members : List LayoutMember) → ((member : LayoutMember) → IsMember member → P member 0)
    → ((member : LayoutMember) (before : ℕ) → IsMember member → P member (first_bit packed member before)) → All IsMember members → EachMember P members (cond is_union (map (λ member. 0) members) (first_bits packed members 0))
each-either P true packed members at_0 holds are = each_at_0 P members at_0 are
each-either P false packed members at_0 holds are = each_member P packed members 0 holds are

unit-at_0 : (member : LayoutMember) → IsMember member → IsInUnit member 0
unit-at_0 member is = λ width given some.
    let few = (is.field width given).1 in
    below-div (unit_of member) 0 (omega arith) ∙ sym (below-div (unit_of member) (0 + (width - 1)) (omega arith))

pub fields-in-units : (body : LayoutBody) → IsBody body → EachMember IsInUnit body.members (bits_in body)
fields-in-units body is =
    each-either IsInUnit body.is_union body.packed body.members unit-at_0 (λ member before one. first_bit_with-unit member.width body.packed member before one refl) is.members

aligned-at_0 : (packed : Bool) (member : LayoutMember) → IsMember member → IsAligned packed member 0
aligned-at_0 packed member is = λ none.
    let some = member_align-some packed member is.written in
    ap (λ n. n % (8 * member_align packed member)) (zero_times (8 * member_align packed member) 0) ∙ mod-mul-add 0 (8 * member_align packed member) 0 (omega arith)

pub members-aligned : (body : LayoutBody) → IsBody body → EachMember (IsAligned body.packed) body.members (bits_in body)
members-aligned body is =
    each-either (IsAligned body.packed) body.is_union body.packed body.members (aligned-at_0 body.packed)
    (λ member before one. first_bit_with-aligned member.width body.packed member before one refl) is.members

unions-either : (is_union packed : Bool) (members : List LayoutMember) → is_union ≡ true → cond is_union (map (λ member. 0) members) (first_bits packed members 0) ≡ replicate (length members) 0
unions-either true packed members union = map-zero members
unions-either false packed members union = cc

pub unions-at-once : (body : LayoutBody) → body.is_union ≡ true → bits_in body ≡ replicate (length body.members) 0
unions-at-once body union = unions-either body.is_union body.packed body.members union
