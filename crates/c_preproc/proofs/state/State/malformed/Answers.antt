use Rattle.std.proofs.Common.{[], Some, unwrap_or, ap, ◌∙◌}
use Rattle.std.proofs.lemmas.Option.{slice_get_within}
use Rattle.vocabulary.specs.declared.error_kind.ErrorKind.TheVariants.{MalformedDirective}
use Rattle.meaning_preprocessing.specs.State.{refused}
use Rattle.c_tokens.specs.Seen.{at_of}
use Rattle.c_preproc.proofs.state.State.malformed.Goals as goal

pub returns-clause-stop : goal.returns-clause-stop
returns-clause-stop c = λ path s holds.
    c.error.ensures.stop path s holds ∙ ap (λ found. Some (refused s MalformedDirective (at_of c.args.hash.now.place) (unwrap_or found []))) c.apart.ensures.empty

pub returns-clause-known : goal.returns-clause-known
returns-clause-known c = λ held. c.error.ensures.known held.0 held.1 held.2 (slice_get_within _ 0 _ c.apart.ensures.empty)
