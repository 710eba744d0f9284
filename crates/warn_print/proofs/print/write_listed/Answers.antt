-- The token is looked up in the list as it is seen.
use Rattle.std.proofs.Common.{◌++◌, Option, ap, option_map, sym, ◌∙◌}
use Rattle.std.proofs.lemmas.Option.{slice_get-map}
use Rattle.meaning_text.specs.Tokens.{Tok}
use Rattle.meaning_warnings.specs.Listing.{lines_on}
use Rattle.c_tokens.specs.Seen.{tok_of}
use Rattle.warn_print.specs.Seen.{failure_seen, unit_shown}
use Rattle.warn_print.proofs.print.write_listed.Goals as goal

pub returns : goal.returns
returns c =
    let show = c.args.show.now in
    let names = show.names.now in
    c.in_ok-write_if_on.ensures
    ∙ ap (λ (token : Option Tok). c.args.text.now.items ++ lines_on (unit_shown show) c.args.classes.now token (failure_seen names show.types.now c.args.failure))
    (ap (option_map (tok_of names)) c.token_in-token.ensures ∙ sym (slice_get-map (tok_of names) show.toks.now.tokens c.args.failure.token))
