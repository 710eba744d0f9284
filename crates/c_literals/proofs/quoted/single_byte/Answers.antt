use Rattle.std.proofs.Common.{Some, Err, option_map, sym, ap, ◌∙◌}
use Rattle.std.proofs.lemmas.List.{nil_from_length}
use Rattle.meaning_literals.specs.Elements.{elements_of}
use Rattle.meaning_literals.specs.Quoted.{single_byte}
use Rattle.c_literals.proofs.ElementLemmas.{behind_piece, single_byte-alone, single_byte-two}
use Rattle.c_literals.proofs.quoted.single_byte.Goals as goal

pub returns-in-None : goal.returns-in-None
returns-in-None c =
    let piece = c.piece_at-first.ensures in
    let behind = behind_piece c.in-Some.others.now _ _ piece.piece.further in
    let alone = single_byte-alone c.in-Some.field-0-0.now c.in-Some.others.now (sym behind ∙ nil_from_length _ c.in-None.ensures.cases) in
    piece.piece.byte ∙ ap (λ answer. Some answer) (sym (ap (λ text. single_byte (elements_of text)) c.in-Some.ensures.cases.0 ∙ alone))

pub returns-in-Some-split_first : goal.returns-in-Some-split_first
returns-in-Some-split_first c =
    let piece = c.piece_at-first.ensures in
    let behind = behind_piece c.in-Some.others.now _ _ piece.piece.further in
    let two = single_byte-two c.in-Some.field-0-0.now c.in-Some.others.now _ _ (sym behind ∙ c.in-Some-split_first.ensures.cases.0) in
    ap (option_map (λ fault. Err fault)) (c.fault_of_two.ensures _ _ piece.piece.byte c.piece_at.ensures.piece.byte)
    ∙ ap (λ answer. Some answer) (sym (ap (λ text. single_byte (elements_of text)) c.in-Some.ensures.cases.0 ∙ two))
