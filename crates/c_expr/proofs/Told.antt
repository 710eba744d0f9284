-- What is told of a constant without a value.
use Rattle.std.proofs.Common.{◌≡◌, ℕ, List, None, Result, Ok, Err, ap, subst}
use Rattle.std.proofs.lemmas.Option.{same_Some}
use Rattle.vocabulary.specs.declared.int_kind.IntKind.{IntKind}
use Rattle.vocabulary.specs.declared.node_kind.NodeKind.{NodeKind}
use Rattle.meaning_literals.specs.Constants.{Constant, Fault}
use Rattle.meaning_derivation.specs.Values.{Value, token_of, text_of}
use Rattle.meaning_derivation.specs.State.{State, IsError, Refuses}
use Rattle.meaning_derivation.specs.Literals.{BadLiteral, constant_made, first_bad}
use Rattle.parse_state.specs.declared.fault.ActionFault.{ActionFault}
use Rattle.parse_state.specs.declared.fault.ActionFault.TheVariants.{Refused, Limit, Memory}
use Rattle.parse_state.specs.Steps.{IsToldBy}
use Rattle.parse_state.specs.Strings.{IsOfBad}

told_so : (s : State) (kind_of : IntKind → NodeKind) (word : Value) (found : Result Constant Fault) (fault : ActionFault)
    → IsOfBad (first_bad found (token_of word) None) fault → IsToldBy (constant_made s kind_of word found) fault
told_so s kind_of word (Ok constant) (Refused kind token) is = absurd (cc is)
told_so s kind_of word (Ok constant) (Limit limit token) is = absurd is
told_so s kind_of word (Ok constant) Memory is = tt
told_so s kind_of word (Err reason) (Refused kind token) is = ap (λ (bad : BadLiteral). Refuses (IsError bad.kind) bad.token) (same_Some _ _ is)
told_so s kind_of word (Err reason) (Limit limit token) is = absurd is
told_so s kind_of word (Err reason) Memory is = tt

-- a bad constant is told at its word
pub constant_told : (s : State) (kind_of : IntKind → NodeKind) (word : Value) (read : List ℕ → Result Constant Fault) (text : List ℕ) (token : ℕ) (fault : ActionFault)
    → text ≡ text_of word → token ≡ token_of word → IsOfBad (first_bad (read text) token None) fault → IsToldBy (constant_made s kind_of word (read (text_of word))) fault
constant_told s kind_of word read text token fault spelled stands bad =
    told_so s kind_of word (read (text_of word)) fault
    (subst (λ at. IsOfBad (first_bad (read (text_of word)) at None) fault) stands (subst (λ name. IsOfBad (first_bad (read name) token None) fault) spelled bad))
