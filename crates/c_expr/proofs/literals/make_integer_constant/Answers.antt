use Rattle.vocabulary.specs.declared.action.Action.TheVariants.{MakeIntegerConstant}
use Rattle.vocabulary.specs.declared.node_kind.NodeKind.TheVariants as kinds
use Rattle.meaning_literals.specs.Integers.{integer_of}
use Rattle.meaning_derivation.specs.Values.{value_at}
use Rattle.meaning_derivation.specs.Actions.{act}
use Rattle.parse_state.specs.Seen.{state_of}
use Rattle.parse_state.specs.Steps.{IsToldBy}
use Rattle.parse_state.proofs.HandedOn.{passed_on}
use Rattle.c_expr.proofs.Told.{constant_told}
use Rattle.c_expr.proofs.literals.make_integer_constant.Goals as goal

pub returns-in_err-constant-clause-told : goal.returns-in_err-constant-clause-told
returns-in_err-constant-clause-told c =
    let s = state_of c.args.state.now in
    passed_on (IsToldBy (act MakeIntegerConstant s)) _ c.from_residual.result c.from_residual.ensures.1
    (constant_told s kinds.IntegerConstant (value_at s.values 0) integer_of _ _ _ c.spelling.ensures c.token-token.ensures c.in_err-constant.ensures.told)
