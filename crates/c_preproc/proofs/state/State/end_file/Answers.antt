use Rattle.std.proofs.Common.{[], Some, unwrap_or, sym, ap, ◌∙◌}
use Rattle.std.proofs.lemmas.Option.{slice_get_within}
use Rattle.vocabulary.specs.declared.error_kind.ErrorKind.TheVariants.{UnterminatedConditional}
use Rattle.meaning_preprocessing.specs.Groups.{closed_file}
use Rattle.meaning_preprocessing.specs.State.{refused, tokens_before}
use Rattle.c_tokens.specs.Seen.{at_of}
use Rattle.c_directives.specs.Groups.{groups_seen}
use Rattle.c_preproc.specs.States.{put_of}
use Rattle.c_preproc.proofs.FileLemmas.{ends-file}
use Rattle.c_preproc.proofs.state.State.end_file.Goals as goal

pub returns-in-Some-clause-read : goal.returns-in-Some-clause-read
returns-in-Some-clause-read c = λ path s holds.
    let open_groups = groups_seen c.args.groups.now.items in
    let goes = c.in-Ok.ensures.goes path s (λ u. closed_file open_groups u) holds in
    ends-file c.read_text.new.names path c.read_text.new.self goes.0 goes.1 c.error.result _ (closed_file open_groups goes.0) _ (c.in-Some.ensures goes.0) goes.2
    (c.error.ensures.stop path goes.0 goes.1 ∙ ap (λ found. Some (refused goes.0 UnterminatedConditional (at_of c.in-Some.place) (unwrap_or found []))) c.apart.ensures.empty)

pub returns-in-Some-clause-known : goal.returns-in-Some-clause-known
returns-in-Some-clause-known c =
    let held = c.requires.held in
    let goes = c.in-Ok.ensures.goes held.0 held.1 (λ u. closed_file (groups_seen c.args.groups.now.items) u) held.2 in
    c.error.ensures.known held.0 goes.0 goes.1 (slice_get_within _ 0 _ c.apart.ensures.empty)

pub returns-in-None-clause-read : goal.returns-in-None-clause-read
returns-in-None-clause-read c = λ path s holds.
    let goes = c.in-Ok.ensures.goes path s (λ u. closed_file (groups_seen c.args.groups.now.items) u) holds in
    (goes.0, goes.1, ap (tokens_before (put_of c.read_text.new.names c.read_text.new.self)) (sym (c.in-None.ensures goes.0)) ∙ goes.2)

pub returns-in-Err-clause-read : goal.returns-in-Err-clause-read
returns-in-Err-clause-read c = λ path s holds. c.in-Err.ensures.ends path s (λ u. closed_file (groups_seen c.args.groups.now.items) u) holds
