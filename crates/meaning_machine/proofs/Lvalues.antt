-- The place of a name fits its type, in the blocks that the opening world has.
use Rattle.std.proofs.Common.{◌≡◌, ℕ, ◌+◌, suc, if◌then◌else◌, Bool, true, false, List, [], ◌∷◌, Option, Some, slice_get, refl, ap, ◌∙◌, arith}
use Rattle.std.specs.Str.{bytes_eq}
use Rattle.meaning_types.specs.Types.{TypeTree, bare}
use Rattle.meaning_first_rules.specs.Bindings.{Binding, type_in}
use Rattle.meaning_machine.specs.Values.{Lvalue, Block, In, SpotFits}
use Rattle.meaning_machine.specs.Machine.{object_lvalue, lvalue_from, lvalue_of}
use Rattle.meaning_machine.specs.Runs.{opening_block}
use Rattle.meaning_machine.specs.laws.Soundness.{first_blocks}

-- an optional place is there, and fits the type
abbrev pub FitsType : List Block → Option Lvalue → TypeTree → Type 0
FitsType blocks found type_ =
    (place : Lvalue) × (found ≡ Some place) × (bare place.type_ ≡ bare type_) × SpotFits blocks place.spot type_

-- the block of an object has it as its one element
object_lvalue-fits :
    (blocks : List Block) (number : ℕ) (object : Option TypeTree) (type_ : TypeTree) →
    slice_get blocks number ≡ Some (opening_block object) → object ≡ Some type_ → FitsType blocks (object_lvalue number object) type_
object_lvalue-fits blocks number object type_ there e = rw e (
  record { type_ = type_; spot = In number [] 0 1 },
  refl,
  refl,
  (opening_block (Some type_), there ∙ ap (λ found. Some (opening_block found)) e, (type_, refl, refl, refl, refl), omega arith),
)

-- these blocks stand in all blocks from this number on
abbrev StandFrom : List Block → ℕ → List Block → Type 0
StandFrom blocks number some = (k : ℕ) → slice_get blocks (number + k) ≡ slice_get some k

-- of two places the one is taken whose type is
chosen-fits :
    (blocks : List Block) (is_this : Bool) (this other : Option Lvalue) (mine others : Option TypeTree) (type_ : TypeTree) →
    (mine ≡ Some type_ → FitsType blocks this type_) → (others ≡ Some type_ → FitsType blocks other type_) →
    (if is_this then mine else others) ≡ Some type_ → FitsType blocks (if is_this then this else other) type_
chosen-fits blocks true this other mine others type_ this_fits other_fits e = this_fits e
chosen-fits blocks false this other mine others type_ this_fits other_fits e = other_fits e

-- the first binding of the name has the place
lvalue_from-fits :
    (blocks : List Block) (number : ℕ) (scope : List Binding) (name : List ℕ) (type_ : TypeTree) →
    StandFrom blocks number (first_blocks scope) → type_in scope name ≡ Some type_ → FitsType blocks (lvalue_from number scope name) type_
lvalue_from-fits blocks number [] name type_ stand e = cc e
lvalue_from-fits blocks number (binding ∷ scope) name type_ stand e =
    chosen-fits blocks (bytes_eq binding.name name) (object_lvalue number binding.object) (lvalue_from (number + 1) scope name)
    binding.object (type_in scope name) type_
    (object_lvalue-fits blocks number binding.object type_ (ap (slice_get blocks) (omega arith) ∙ stand 0))
    (lvalue_from-fits blocks (number + 1) scope name type_ (λ k. ap (slice_get blocks) (omega arith) ∙ stand (suc k)))
    e

-- a name's place fits its type
pub lvalue_of-fits :
    (scope : List Binding) (name : List ℕ) (type_ : TypeTree) → type_in scope name ≡ Some type_ → FitsType (first_blocks scope) (lvalue_of scope name) type_
lvalue_of-fits scope name type_ e = lvalue_from-fits (first_blocks scope) 0 scope name type_ (λ k. ap (slice_get (first_blocks scope)) (omega arith)) e
