use Rattle.std.proofs.Common.{[], IfSome, unwrap_or, sym, ap, subst}
use Rattle.std.proofs.lemmas.Option.{slice_get_within}
use Rattle.vocabulary.specs.declared.error_kind.ErrorKind.TheVariants.{WrongNumberOfMacroArguments, UnterminatedMacroCall, BadPaste}
use Rattle.c_tokens.specs.Seen.{at_of}
use Rattle.c_preproc.specs.States.{stop_of}
use Rattle.c_preproc.specs.Texts.{StopsBehind, StopsExpansion, before_in}
use Rattle.c_preproc.proofs.TextLemmas.{fault-told}
use Rattle.c_preproc.proofs.state.State.fault_of.Goals as goal

pub returns-in-Arguments-clause-stops : goal.returns-in-Arguments-clause-stops
returns-in-Arguments-clause-stops c = λ path s piece holds stops.
    subst (λ told. StopsExpansion s piece told → IfSome (stop_of c.args.names.now c.error.result) (StopsBehind piece (before_in told))) (sym c.in-Arguments.is)
    (λ told. fault-told c.args.names.now s piece _ WrongNumberOfMacroArguments (at_of c.in-Arguments.place) _ c.error.result (c.error.ensures.stop path s holds) (ap (λ found. unwrap_or found []) c.apart.ensures.empty) told) stops

pub returns-in-Arguments-clause-known : goal.returns-in-Arguments-clause-known
returns-in-Arguments-clause-known c = λ path s holds. c.error.ensures.known path s holds (slice_get_within _ 0 _ c.apart.ensures.empty)

pub returns-in-OpenCall-clause-stops : goal.returns-in-OpenCall-clause-stops
returns-in-OpenCall-clause-stops c = λ path s piece holds stops.
    subst (λ told. StopsExpansion s piece told → IfSome (stop_of c.args.names.now c.error-in-OpenCall.result) (StopsBehind piece (before_in told))) (sym c.in-OpenCall.is)
    (λ told. fault-told c.args.names.now s piece _ UnterminatedMacroCall (at_of c.in-OpenCall.place) _ c.error-in-OpenCall.result (c.error-in-OpenCall.ensures.stop path s holds) (ap (λ found. unwrap_or found []) c.apart.ensures.empty) told) stops

pub returns-in-OpenCall-clause-known : goal.returns-in-OpenCall-clause-known
returns-in-OpenCall-clause-known c = λ path s holds. c.error-in-OpenCall.ensures.known path s holds (slice_get_within _ 0 _ c.apart.ensures.empty)

pub returns-in-BadPaste-clause-stops : goal.returns-in-BadPaste-clause-stops
returns-in-BadPaste-clause-stops c = λ path s piece holds stops.
    subst (λ told. StopsExpansion s piece told → IfSome (stop_of c.args.names.now c.error-in-BadPaste.result) (StopsBehind piece (before_in told))) (sym c.in-BadPaste.is)
    (λ told. fault-told c.args.names.now s piece _ BadPaste (at_of c.in-BadPaste.place) _ c.error-in-BadPaste.result (c.error-in-BadPaste.ensures.stop path s holds) (ap (λ found. unwrap_or found []) c.apart.ensures.empty) told) stops

pub returns-in-BadPaste-clause-known : goal.returns-in-BadPaste-clause-known
returns-in-BadPaste-clause-known c = λ path s holds. c.error-in-BadPaste.ensures.known path s holds (slice_get_within _ 0 _ c.apart.ensures.empty)
