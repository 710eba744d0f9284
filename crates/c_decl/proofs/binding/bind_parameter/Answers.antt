use Rattle.std.proofs.Common.{IfErr, sym, subst}
use Rattle.meaning_derivation.specs.Values.{parts_of}
use Rattle.meaning_derivation.specs.Actions.{below}
use Rattle.c_tokens.specs.Seen.{text_of}
use Rattle.parse_state.specs.Seen.{state_of}
use Rattle.parse_state.specs.Steps.{IsToldBy}
use Rattle.c_decl.proofs.Parameters.{parameter_named}
use Rattle.c_decl.proofs.binding.bind_parameter.Goals as goal

pub returns-in-Some-clause-told : goal.returns-in-Some-clause-told
returns-in-Some-clause-told c =
    let s = state_of c.args.state.now in
    let name = text_of c.args.state.now.names c.in-Some.declared.name in
    let same = parameter_named s (below s 1) (parts_of (below s 0)) name c.in-Some.declared.token c.in-Some.ensures.name in
    subst (λ outcome. IfErr c.declare.result (IsToldBy outcome)) (sym same) c.declare.ensures.told
