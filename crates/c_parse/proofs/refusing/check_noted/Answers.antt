-- A limit goes before what is held.
use Rattle.std.proofs.Common.{◌≡◌, Result, Ok, Err, IfErr, ◌∙◌}
use Rattle.meaning_derivation.specs.Taking.{unless_held}
use Rattle.parse_state.specs.Seen.{state_of}
use Rattle.c_parse.specs.Steps.{unless_noted}
use Rattle.c_parse.proofs.Told.{told_so}
use Rattle.c_parse.proofs.refusing.check_noted.Goals as goal

pub returns-in-Some-clause-err : goal.returns-in-Some-clause-err
returns-in-Some-clause-err c = λ otherwise.
    c.in-Some.ensures.passed (unless_held (state_of c.args.state.now).held (state_of c.args.state.now).taken otherwise)

err_weaker : {X E : Type 0} (P Q : E → Type 0) (result : Result X E) → ((e : E) → P e → Q e) → IfErr result P → IfErr result Q
err_weaker P Q (Ok x) weaker holds = tt
err_weaker P Q (Err e) weaker holds = weaker e holds

pub returns-in-None-clause-err : goal.returns-in-None-clause-err
returns-in-None-clause-err c =
    err_weaker _ _ c.check_held.result
    (λ fault told otherwise.
    told_so (λ outcome. unless_held (state_of c.args.state.now).held (state_of c.args.state.now).taken otherwise ≡ outcome)
    (λ outcome. unless_noted (state_of c.args.state.now) otherwise ≡ outcome) fault
    (λ why decided stands is. c.in-None.ensures.none (unless_held (state_of c.args.state.now).held (state_of c.args.state.now).taken otherwise) ∙ is)
    (told otherwise))
    c.check_held.ensures.err
