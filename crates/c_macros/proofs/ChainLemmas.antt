-- The flat list of operands, and the chains that it has.
use Rattle.std.proofs.Common.{◌≡◌, Bool, true, false, not, List, [], ◌∷◌, ◌++◌, map, refl, sym, ap, ◌∙◌}
use Rattle.std.proofs.lemmas.List.{append-nil}
use Rattle.meaning_macros.specs.Bodies.{Operand, BodyPiece, PasteSign, OneOperand, chains_of, hung_before}
use Rattle.c_macros.specs.Operands.{FlatOperand, begins_next, flat_from, grouped}

-- an operand before a `##` hangs before what is joined
hung : (o : Operand) (begins : Bool) (pieces : List BodyPiece) → grouped (record { operand = o; begins = begins } ∷ flat_from true true pieces) ≡ hung_before o (grouped (flat_from true true pieces))
hung o begins [] = refl
hung o begins (PasteSign ∷ pieces) = hung o begins pieces
hung o begins (OneOperand p ∷ pieces) = refl

-- the chains of the flat list are those of the pieces
pub grouped-flat_from : (behind joined : Bool) (pieces : List BodyPiece) → grouped (flat_from behind joined pieces) ≡ chains_of pieces
grouped-flat_from behind joined [] = refl
grouped-flat_from behind joined (PasteSign ∷ pieces) = grouped-flat_from behind behind pieces
grouped-flat_from behind joined (OneOperand o ∷ []) = refl
grouped-flat_from behind joined (OneOperand o ∷ PasteSign ∷ pieces) = hung o (not joined) pieces ∙ ap (hung_before o) (grouped-flat_from true true pieces)
grouped-flat_from behind joined (OneOperand o ∷ OneOperand p ∷ pieces) = ap (λ later. (o ∷ []) ∷ later) (grouped-flat_from true false (OneOperand p ∷ pieces))

-- where no piece is left, the operands so far are all
pub none_left : {X : Type 0} (done all : List FlatOperand) (behind joined : Bool) (f : X → BodyPiece) (rest : List X) (shape : List BodyPiece → List BodyPiece)
    → shape [] ≡ [] → rest ≡ [] → done ++ flat_from behind joined (shape (map f rest)) ≡ all → done ≡ all
none_left done all behind joined f rest shape empty none given =
    sym (append-nil done)
    ∙ ap (λ pieces. done ++ flat_from behind joined pieces) (sym (ap (λ left. shape (map f left)) none ∙ empty))
    ∙ given

-- what begins the flat list begins a chain
pub begins_next-flat_from : (pieces : List BodyPiece) → begins_next (flat_from false false pieces) ≡ true
begins_next-flat_from [] = refl
begins_next-flat_from (PasteSign ∷ pieces) = begins_next-flat_from pieces
begins_next-flat_from (OneOperand o ∷ pieces) = refl
