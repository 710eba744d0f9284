-- A fault that is handed on by `?` is still what was said of it.
use Rattle.std.proofs.Common.{◌≡◌, Result, IfErr, IsErrAnd, sym, subst}
use Rattle.std.proofs.lemmas.Result.{err_from_is_err_and}

pub passed_on : {T F : Type 0} (P : F → Type 0) (fault : F) (result : Result T F) → IsErrAnd result (λ other. other ≡ fault) → P fault → IfErr result P
passed_on P fault result is holds =
    let found = err_from_is_err_and result is in
    subst (λ one. IfErr one P) (sym found.1) (subst P (sym found.2) holds)
