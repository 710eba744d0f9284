-- What is told of one thing is told of another.
use Rattle.std.proofs.Common.{◌≡◌, ℕ, Result, IfErr, IsErrAnd, sym, subst}
use Rattle.std.proofs.lemmas.Result.{err_from_is_err_and}
use Rattle.meaning_derivation.specs.State.{Fault, Outcome, Fails, IsError, PassesLimit}
use Rattle.c_parse.specs.Telling.{IsTold}
use Rattle.c_parse.specs.declared.fault.ParseFault.{ParseFault}
use Rattle.c_parse.specs.declared.fault.ParseFault.TheVariants.{Refused, Limit, Memory}

pub told_so : (P Q : Outcome → Type 0) (fault : ParseFault) → ((why : Fault) (decided stands : ℕ) → P (Fails why decided stands) → Q (Fails why decided stands))
    → IsTold P fault → IsTold Q fault
told_so P Q (Refused kind token) leads told = (told.0, leads (IsError kind) told.0 token told.1)
told_so P Q (Limit limit token) leads told = (told.0, leads (PassesLimit limit) told.0 token told.1)
told_so P Q Memory leads told = tt

-- what is passed on by `?` is told as it was
pub passed_on : {T : Type 0} (P : ParseFault → Type 0) (fault : ParseFault) (result : Result T ParseFault) → IsErrAnd result (λ other. other ≡ fault) → P fault
    → IfErr result P
passed_on P fault result is holds =
    let found = err_from_is_err_and result is in
    subst (λ one. IfErr one P) (sym found.1) (subst P (sym found.2) holds)
