use Rattle.std.proofs.Common.{◌∷◌, ap, ◌∙◌}
use Rattle.std.proofs.lemmas.List.{nil_from_length}
use Rattle.c_tokens.specs.Seen.{toks_of}
use Rattle.c_attrs.specs.Seen.{significant}
use Rattle.c_attrs.proofs.CutLemmas.{behind_cut, first-cut, is_cut, significant-is_cut}
use Rattle.c_attrs.proofs.piece.first_piece.Goals as goal

pub returns-in-Some-clause-pieces : goal.returns-in-Some-clause-pieces
returns-in-Some-clause-pieces c = λ names.
    let parts = c.split_at.ensures in
    first-cut (toks_of names) c.args.toks.now _ _ c.length_to_comma.result (is_cut names 0 c.args.toks.now) c.length_to_comma.ensures.count parts.front parts.back
    ∙ ap (λ behind. toks_of names c.split_at.result.0.now ∷ behind_cut (toks_of names) behind) c.in-Some.ensures.cases.0

pub returns-in-Some-clause-significant : goal.returns-in-Some-clause-significant
returns-in-Some-clause-significant c = λ names.
    let parts = c.split_at.ensures in
    first-cut (significant names) c.args.toks.now _ _ c.length_to_comma.result (significant-is_cut names 0 c.args.toks.now) c.length_to_comma.ensures.count parts.front parts.back
    ∙ ap (λ behind. significant names c.split_at.result.0.now ∷ behind_cut (significant names) behind) c.in-Some.ensures.cases.0

pub returns-in-None-clause-pieces : goal.returns-in-None-clause-pieces
returns-in-None-clause-pieces c = λ names.
    let parts = c.split_at.ensures in
    first-cut (toks_of names) c.args.toks.now _ _ c.length_to_comma.result (is_cut names 0 c.args.toks.now) c.length_to_comma.ensures.count parts.front parts.back
    ∙ ap (λ behind. toks_of names c.split_at.result.0.now ∷ behind_cut (toks_of names) behind) (nil_from_length _ c.in-None.ensures.cases)

pub returns-in-None-clause-significant : goal.returns-in-None-clause-significant
returns-in-None-clause-significant c = λ names.
    let parts = c.split_at.ensures in
    first-cut (significant names) c.args.toks.now _ _ c.length_to_comma.result (significant-is_cut names 0 c.args.toks.now) c.length_to_comma.ensures.count parts.front parts.back
    ∙ ap (λ behind. significant names c.split_at.result.0.now ∷ behind_cut (significant names) behind) (nil_from_length _ c.in-None.ensures.cases)
