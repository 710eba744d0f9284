-- Worked examples: bodies that are told one after the other.
use Rattle.std.specs.Prelude.{◌≡◌, ℕ, false, true, Some, None, Ok, Err, List, [], ◌∷◌}
use Rattle.meaning_types.specs.IntKind.TheVariants as kinds
use Rattle.meaning_types.specs.Types.{TypeTree, pointer_to}
use Rattle.meaning_types.specs.examples.Types.{plain}
use Rattle.meaning_types.specs.examples.Derived.{array_of, structure_at, void}
use Rattle.meaning_layout.specs.Layouts.{Incomplete, TooLarge}
use Rattle.meaning_layout.specs.Sizes.{Told}
use Rattle.meaning_layout.specs.Telling.{ToldBody, ToldMember, field_in, layout_in, nothing_told, offset_in, told_in_order}
use Rattle.meaning_layout.specs.examples.Layouts.{layout_with}
use Rattle.meaning_layout.specs.examples.Sizes.{bits}

abbrev pub member_of : TypeTree → ToldMember
member_of of = record { of = of; width = None; named = true; written = 1 }

abbrev pub field_of : TypeTree → ℕ → ToldMember
field_of of width = record { of = of; width = Some width; named = true; written = 1 }

abbrev pub told_body : List ToldMember → ToldBody
told_body members = record { members = members; packed = false; written = 1 }

-- `struct 2 { char a; int b : 3; }`, and `struct 1 { char a; struct 2 b[2]; long c[]; }`
abbrev pub inner : ToldBody
inner = told_body (member_of (plain kinds.Char) ∷ field_of (plain kinds.Int) 3 ∷ [])

abbrev pub outer : ToldBody
outer = told_body (member_of (plain kinds.Char) ∷ member_of (array_of (structure_at 2) (Some 2)) ∷ member_of (array_of (plain kinds.Long) None) ∷ [])

abbrev pub told : Told
told = told_in_order nothing_told ((2, inner) ∷ (1, outer) ∷ [])

pub record TellingExamples : Type 0 where
  pub inner_first : told 2 false ≡ Some (layout_with 4 4 (0 ∷ 8 ∷ []))
  pub outer_then : told 1 false ≡ Some (layout_with 16 8 (0 ∷ 32 ∷ 128 ∷ []))
  pub as_a_union : told 1 true ≡ Some (layout_with 8 8 (0 ∷ 0 ∷ 0 ∷ []))
  pub not_told : told 3 false ≡ None
  pub too_early : told_in_order nothing_told ((1, outer) ∷ (2, inner) ∷ []) 1 false ≡ Some (Err Incomplete)
  pub told_twice : told_in_order nothing_told ((2, inner) ∷ (2, outer) ∷ []) 2 false ≡ Some (layout_with 4 4 (0 ∷ 8 ∷ []))
  pub first_reason : told_in_order nothing_told ((1, told_body (member_of (array_of (plain kinds.Char) (Some 1099511627777)) ∷ member_of void ∷ [])) ∷ []) 1 false ≡ Some (Err TooLarge)
  -- a width at another type, and a written alignment of 0
  pub no_bit_field : told_in_order nothing_told ((1, told_body (record (field_of (pointer_to void) 3) { written = 0 } ∷ [])) ∷ []) 1 false ≡ Some (layout_with 8 8 (0 ∷ []))
  -- which leaves a bit-field at the next bit, and a body at no multiple
  pub field_with_0 :
      told_in_order nothing_told ((1, told_body (field_of (plain kinds.Int) 3 ∷ record (field_of (plain kinds.Int) 3) { written = 0 } ∷ [])) ∷ []) 1 false
      ≡ Some (layout_with 4 4 (0 ∷ 3 ∷ []))
  pub body_with_0 : told_in_order nothing_told ((1, record (told_body []) { written = 0 }) ∷ []) 1 false ≡ Some (layout_with 0 1 [])
  pub offset : offset_in 1 (layout_in told (structure_at 2)) ≡ Ok (Some 1)
  pub no_aggregate : offset_in 0 (layout_in told (plain kinds.Int)) ≡ Err Incomplete
  pub field : field_in (Some 3) 1 (layout_in told (structure_at 2)) ≡ bits 8 3
