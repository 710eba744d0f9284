-- What a program can ask of a layout.
use Rattle.std.specs.Prelude.{ℕ, true, if◌then◌else◌, Option, Some, None, Result, Ok, Err, List, [], ◌∷◌}
use Rattle.meaning_layout.specs.Bodies.{LayoutBody, LayoutMember}
use Rattle.meaning_layout.specs.Layouts.{Layout, LayoutFault, layout_of}

-- a member of so many bytes with this alignment
abbrev pub sized_member : (size align : ℕ) → LayoutMember
sized_member size align = record { size = size; align = align; width = None; named = true; written = 1 }

-- a size, an alignment, and the first bits of the members that have names
pub record Asked : Type 0 where
  pub size : ℕ
  pub align : ℕ
  pub first_bits : List ℕ

abbrev pub asked_of : (size align : ℕ) → List ℕ → Option Asked
asked_of size align first_bits = Some (record { size = size; align = align; first_bits = first_bits })

abbrev pub bits_of_named : List LayoutMember → List ℕ → List ℕ
bits_of_named [] bits = []
bits_of_named (member ∷ members) [] = []
bits_of_named (member ∷ members) (bit ∷ bits) = if member.named then bit ∷ bits_of_named members bits else bits_of_named members bits

abbrev pub asked_with : List LayoutMember → Result Layout LayoutFault → Option Asked
asked_with members (Err fault) = None
asked_with members (Ok layout) = asked_of layout.size layout.align (bits_of_named members layout.first_bits)

abbrev pub asked_layout : LayoutBody → Option Asked
asked_layout body = asked_with body.members (layout_of body)
