-- Worked examples: sizes and alignments of types, offsets of members, and bit-fields.
use Rattle.std.specs.Prelude.{◌≡◌, ℕ, ◌==◌, Some, None, Option, Result, Ok, Err, List, [], ◌∷◌, map, replicate, if◌then◌else◌}
use Rattle.meaning_types.specs.IntKind.TheVariants as kinds
use Rattle.meaning_types.specs.Types.{TypeTree, pointer_to}
use Rattle.meaning_types.specs.examples.Types.{plain, signed_kinds, unsigned_kinds, only_const, only_noderef, int_with}
use Rattle.meaning_types.specs.examples.Derived.{void, array_of, function_type, restricted_at, structure_at}
use Rattle.meaning_layout.specs.Bodies.{LayoutMember}
use Rattle.meaning_layout.specs.Layouts.{Layout, LayoutFault, Incomplete, TooLarge, layout_of}
use Rattle.meaning_layout.specs.Sizes.{Extent, Told, FieldBits, extent_of, member_extent, offset_at, field_at}
use Rattle.meaning_layout.specs.examples.Layouts.{a_char, a_short, an_int, a_long, times, field, struct_of}

-- `struct { char a; int b : 3; int c : 30; short d; }`
abbrev pub members : List LayoutMember
members = a_char ∷ field an_int 3 ∷ field an_int 30 ∷ a_short ∷ []

-- aggregate 1 is that structure, 2 is one of a long, 3 is empty, 4 is too large; no other was told
abbrev pub told : Told
told number is_union =
    if number == 1 then Some (layout_of (struct_of members))
    else (if number == 2 then Some (layout_of (struct_of (a_long ∷ [])))
    else (if number == 3 then Some (layout_of (struct_of []))
    else (if number == 4 then Some (layout_of (struct_of (times 1099511627776 a_char ∷ a_char ∷ [])))
    else None)))

abbrev pub extents : List TypeTree → List (Result Extent LayoutFault)
extents types = map (extent_of told) types

abbrev pub bytes : (size align : ℕ) → Result Extent LayoutFault
bytes size align = Ok (record { size = size; align = align })

pub record TypeExamples : Type 0 where
  pub signed : extents (map plain signed_kinds) ≡ bytes 1 1 ∷ bytes 1 1 ∷ bytes 2 2 ∷ bytes 4 4 ∷ bytes 8 8 ∷ bytes 8 8 ∷ []
  pub unsigned : extents (map plain unsigned_kinds) ≡ bytes 1 1 ∷ bytes 1 1 ∷ bytes 2 2 ∷ bytes 4 4 ∷ bytes 8 8 ∷ bytes 8 8 ∷ []
  pub restricted : extents (restricted_at 1 kinds.UShort ∷ int_with only_const only_noderef ∷ []) ≡ bytes 2 2 ∷ bytes 4 4 ∷ []
  pub pointers : extents (pointer_to void ∷ pointer_to (function_type void []) ∷ pointer_to (structure_at 9) ∷ []) ≡ replicate 3 (bytes 8 8)
  pub arrays : extents (array_of (plain kinds.Int) (Some 5) ∷ array_of (array_of (plain kinds.Short) (Some 3)) (Some 2) ∷ []) ≡ bytes 20 4 ∷ bytes 12 2 ∷ []
  pub aggregates : extents (structure_at 1 ∷ structure_at 2 ∷ structure_at 3 ∷ array_of (structure_at 1) (Some 2) ∷ []) ≡ bytes 12 4 ∷ bytes 8 8 ∷ bytes 0 1 ∷ bytes 24 4 ∷ []
  pub incomplete :
      extents
      (void ∷ function_type void [] ∷ array_of (plain kinds.Int) None ∷ structure_at 9 ∷ array_of void (Some 2)
      ∷ array_of (structure_at 9) (Some 0) ∷ [])
      ≡ replicate 6 (Err Incomplete)
  pub largest : extents (array_of (plain kinds.Char) (Some 1099511627776) ∷ array_of (structure_at 3) (Some 1099511627776) ∷ []) ≡ bytes 1099511627776 1 ∷ bytes 0 1 ∷ []
  pub too_large :
      extents
      (array_of (plain kinds.Char) (Some 1099511627777) ∷ array_of (array_of (plain kinds.Char) (Some 1048577)) (Some 1048576)
      ∷ structure_at 4 ∷ array_of (structure_at 4) (Some 1) ∷ [])
      ≡ replicate 4 (Err TooLarge)

-- what is asked of the layout of that structure
abbrev pub offsets : Result Layout LayoutFault → List (Option ℕ)
offsets (Err fault) = []
offsets (Ok layout) = map (offset_at layout) (0 ∷ 1 ∷ 2 ∷ 3 ∷ 4 ∷ [])

abbrev pub fields : Result Layout LayoutFault → List (Option FieldBits)
fields (Err fault) = []
fields (Ok layout) = map (field_at members layout) (0 ∷ 1 ∷ 2 ∷ 3 ∷ 4 ∷ [])

abbrev pub bits : (start width : ℕ) → Option FieldBits
bits start width = Some (record { start = start; width = width })

pub record MemberExamples : Type 0 where
  pub offsets_told : offsets (layout_of (struct_of members)) ≡ Some 0 ∷ Some 1 ∷ Some 4 ∷ Some 8 ∷ None ∷ []
  pub fields_told : fields (layout_of (struct_of members)) ≡ None ∷ bits 8 3 ∷ bits 32 30 ∷ None ∷ None ∷ []
  pub flexible : map (member_extent told) (array_of (plain kinds.Long) None ∷ array_of void None ∷ plain kinds.Int ∷ []) ≡ bytes 0 8 ∷ Err Incomplete ∷ bytes 4 4 ∷ []
