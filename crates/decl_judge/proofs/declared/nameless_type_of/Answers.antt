use Rattle.std.proofs.Common.{Some, option_map, sym, ap, ◌∙◌}
use Rattle.node_facts.specs.Facts.{specified_seen}
use Rattle.decl_judge.specs.Placed.{nameless_told}
use Rattle.decl_judge.specs.Units.{nodes_of}
use Rattle.decl_judge.proofs.AskedLemmas.{specifiers_told}
use Rattle.decl_judge.proofs.declared.nameless_type_of.Goals as goal

pub returns-in_ok-nameless_type-in-Some-clause-made : goal.returns-in_ok-nameless_type-in-Some-clause-made
returns-in_ok-nameless_type-in-Some-clause-made c =
    let table = c.args.types.now in
    let nodes = nodes_of c.args.unit.now in
    ap Some c.in_ok-nameless_type-in-Some.ensures.made
    ∙ ap (nameless_told nodes c.args.parameter)
    (ap (option_map (specified_seen table)) (sym c.in-Some.is ∙ c.specifiers_of.ensures) ∙ specifiers_told table c.args.facts.now nodes c.args.parameter)
