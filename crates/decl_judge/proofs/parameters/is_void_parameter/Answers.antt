use Rattle.std.proofs.Common.{◌≡◌, Option, IfOk, option_map, sym, ap, ◌∙◌, subst}
use Rattle.meaning_typing.specs.Declarators as meaning
use Rattle.meaning_typing.specs.Facts.{SpecifiedFact}
use Rattle.node_facts.specs.Facts.{specified_seen}
use Rattle.decl_judge.specs.Units.{nodes_of}
use Rattle.decl_judge.proofs.AskedLemmas.{specifiers_told}
use Rattle.decl_judge.proofs.parameters.is_void_parameter.Goals as goal

pub returns-in-Some : goal.returns-in-Some
returns-in-Some c =
    let table = c.args.types.now in
    let nodes = nodes_of c.args.unit.now in
    subst (λ (said : Option SpecifiedFact). IfOk c.is_void_specified.result (λ is. is ≡ meaning.is_void_parameter nodes c.args.parameter said))
    (ap (option_map (specified_seen table)) (sym c.in-Some.is ∙ c.specifiers_of.ensures) ∙ specifiers_told table c.args.facts.now nodes c.args.parameter)
    c.is_void_specified.ensures
