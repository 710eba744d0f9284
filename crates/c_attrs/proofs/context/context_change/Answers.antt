use Rattle.std.proofs.Common.{◌≡◌, ◌∷◌, sym, ap, ◌∙◌}
use Rattle.meaning_attributes.specs.Pieces.{comma_pieces}
use Rattle.meaning_attributes.specs.Contexts.{change_in}
use Rattle.c_attrs.specs.Seen.{significant}
use Rattle.c_attrs.specs.Cuts.{significant_pieces_in}
use Rattle.c_attrs.proofs.ArgumentLemmas.{change_in-further, change_in-unworded}
use Rattle.c_attrs.proofs.context.context_change.Goals.{then-is_some-via-then-is_some, then-is_some-via-else-is_some+then-has_no_tokens}
use Rattle.c_attrs.proofs.context.context_change.Goals as goal

pub returns-then-is_some : goal.returns-then-is_some
returns-then-is_some c =
    let names = c.args.names.now in
    let first = significant names c.first_piece.result.0.now in
    let second = significant names c.first_piece-2.result.0.now in
    let joined : comma_pieces (significant names c.args.toks.now) ≡ first ∷ second ∷ significant_pieces_in names c.first_piece-2.result.1 =
    c.first_piece.ensures.significant names
    ∙ ap (λ left. first ∷ significant_pieces_in names left) c.in-Some.is
    ∙ ap (λ pieces. first ∷ pieces) (c.first_piece-2.ensures.significant names) in
    elim c.then-is_some.branch [
      | then-is_some-via-then-is_some w ↦ sym (ap change_in joined ∙ change_in-further names first second c.first_piece-2.result.1 (sym c.is_some.ensures ∙ w.if-is_some.true))
      | then-is_some-via-else-is_some+then-has_no_tokens w ↦ sym (ap change_in joined ∙ change_in-unworded first second _ (sym w.has_no_tokens.ensures ∙ w.if-has_no_tokens.true))
    ]
