-- The place, the path and the spelling are those of the token.
use Rattle.std.proofs.Common.{ℕ, ◌++◌, List, ap, map, option_map, ◌∙◌}
use Rattle.meaning_text.specs.Places.{At}
use Rattle.meaning_warnings.specs.Places.{begins_at, path_of}
use Rattle.c_tokens.specs.Seen.{at_of, text_of, tok_of}
use Rattle.warn_print.specs.Seen.{failure_seen, placed_lines, unit_shown}
use Rattle.warn_print.proofs.warnings.write_failure.Goals as goal

pub returns : goal.returns
returns c =
    let show = c.args.show.now in
    let names = show.names.now in
    let files = map (text_of names) show.toks.now.files in
    let shown = unit_shown show in
    let failure = failure_seen names show.types.now c.args.failure in
    let place = begins_at (option_map (tok_of names) c.args.token) in
    c.in_ok-write_lines.ensures
    ∙ ap (λ (path : List ℕ). c.args.text.now.items ++ placed_lines shown path (at_of c.begins_at-at.result) c.token_text-spelling.result.now failure) c.path_of-path.ensures
    ∙ ap (λ (at : At). c.args.text.now.items ++ placed_lines shown (path_of files at.file) at c.token_text-spelling.result.now failure) (c.begins_at-at.ensures names)
    ∙ ap (λ (spelling : List ℕ). c.args.text.now.items ++ placed_lines shown (path_of files place.file) place spelling failure) c.token_text-spelling.ensures
