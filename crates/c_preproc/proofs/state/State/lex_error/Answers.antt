use Rattle.std.proofs.Common.{[], Some, option_map, unwrap_or, sym, ap, ◌∙◌}
use Rattle.std.proofs.lemmas.Option.{slice_get_within}
use Rattle.vocabulary.specs.declared.error_kind.ErrorKind.TheVariants.{UnterminatedComment, UnterminatedLiteral}
use Rattle.meaning_preprocessing.specs.State.{refused}
use Rattle.meaning_preprocessing.specs.Unit.{stop_of_fault}
use Rattle.c_tokens.specs.Seen.{at_of, fault_of}
use Rattle.c_preproc.proofs.state.State.lex_error.Goals as goal

pub returns-in-OpenComment-clause-stop : goal.returns-in-OpenComment-clause-stop
returns-in-OpenComment-clause-stop c = λ path s holds.
    c.error.ensures.stop path s holds ∙ ap (λ found. Some (refused s UnterminatedComment (at_of c.in-OpenComment.place) (unwrap_or found []))) c.apart.ensures.empty
    ∙ ap (λ fault. option_map (stop_of_fault s) (fault_of fault)) (sym c.in-OpenComment.is)

pub returns-in-OpenComment-clause-known : goal.returns-in-OpenComment-clause-known
returns-in-OpenComment-clause-known c = λ path s holds. c.error.ensures.known path s holds (slice_get_within _ 0 _ c.apart.ensures.empty)

pub returns-in-OpenLiteral-clause-stop : goal.returns-in-OpenLiteral-clause-stop
returns-in-OpenLiteral-clause-stop c = λ path s holds.
    c.error-in-OpenLiteral.ensures.stop path s holds ∙ ap (λ found. Some (refused s UnterminatedLiteral (at_of c.in-OpenLiteral.place) (unwrap_or found []))) c.apart.ensures.empty
    ∙ ap (λ fault. option_map (stop_of_fault s) (fault_of fault)) (sym c.in-OpenLiteral.is)

pub returns-in-OpenLiteral-clause-known : goal.returns-in-OpenLiteral-clause-known
returns-in-OpenLiteral-clause-known c = λ path s holds. c.error-in-OpenLiteral.ensures.known path s holds (slice_get_within _ 0 _ c.apart.ensures.empty)
