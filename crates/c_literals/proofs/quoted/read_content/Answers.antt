use Rattle.std.proofs.Common.{◌≡◌, ◌-◌, length, take, drop, Ok, [], ◌∷◌, ◌++◌, sym, ap, ◌∙◌}
use Rattle.meaning_literals.specs.Elements.{elements_of, piece_at}
use Rattle.meaning_literals.specs.Quoted.{byte_of, bytes_of}
use Rattle.c_literals.specs.Seen.{byte_answer}
use Rattle.c_literals.proofs.ElementLemmas.{behind_bytes, behind_bytes-element, behind_piece}
use Rattle.c_literals.proofs.quoted.read_content.Goals as goal

pub elements-preserved : goal.elements-preserved
elements-preserved c =
    let bytes = c.elements.bytes.items in
    let others = c.in-Some.others.now in
    let piece = c.piece_at-piece.ensures.piece in
    let behind = behind_piece others _ _ piece.further in
    let told = ap byte_answer (sym c.in-Ok.is) ∙ piece.byte in
    let byte : byte_of (piece_at c.in-Some.field-0-0.now others).element ≡ Ok c.in-Ok.byte = cc told in
    ap (λ items. behind_bytes items (bytes_of (elements_of (take (length others - c.piece_at-piece.result.further) (drop c.piece_at-piece.result.further others))))) c.in_ok-push-in-Ok.ensures.items
    ∙ ap (λ rest. behind_bytes (bytes ++ c.in-Ok.byte ∷ []) (bytes_of (elements_of rest))) behind
    ∙ sym (behind_bytes-element bytes c.in-Some.field-0-0.now others c.in-Ok.byte byte)
    ∙ ap (λ text. behind_bytes bytes (bytes_of (elements_of text))) (sym c.in-Some.ensures.cases.0)
    ∙ c.elements.invariant
