use Rattle.std.proofs.Common.{◌∙◌}
use Rattle.std.proofs.lemmas.Result.{IfOk-weaker}
use Rattle.c_tokens.specs.Seen.{text_of, toks_of}
use Rattle.ksparse.specs.Written.{paths_of}
use Rattle.ksparse.proofs.ParsingLemmas.{error_told}
use Rattle.ksparse.proofs.parsing.tell_error.Goals as goal

pub returns : goal.returns
returns c =
    let names = c.args.names.now in
    let toks = c.args.toks.now in
    IfOk-weaker c.error.result _ _
    (λ written is.
    is
    ∙ error_told (paths_of names toks.files) (toks_of names toks.tokens) c.args.kind c.args.token (text_of names c.path_in-path.result)
    c.refusal_place-place.result (text_of names c.named_word-word.result) (c.path_in-path.ensures names c.apart.ensures.empty)
    (c.refusal_place-place.ensures names) (c.named_word-word.ensures names c.apart.ensures.empty))
    c.error.ensures
