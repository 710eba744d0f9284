use Rattle.std.proofs.Common.{◌≡◌, Option, IfOk, option_map, sym, ap, ◌∙◌, subst}
use Rattle.meaning_types.specs.Types.{TypeTree}
use Rattle.c_types.specs.Table.{type_at}
use Rattle.node_facts.specs.Facts.{node_seen, nodes_seen}
use Rattle.decl_judge.specs.Asked.{array_by}
use Rattle.decl_judge.specs.Units.{handles_of}
use Rattle.decl_judge.proofs.AskedLemmas.{seen_at}
use Rattle.decl_judge.proofs.PartLemmas.{array_by_first, array_told}
use Rattle.decl_judge.proofs.parts.array_of.Goals as goal

pub returns-in-Some-clause-made : goal.returns-in-Some-clause-made
returns-in-Some-clause-made c =
    let table = c.args.types.now in
    let kept = c.args.facts.now in
    let element = type_at table c.args.element in
    subst (λ (meant : Option TypeTree). IfOk c.array_of_size.result (λ found. option_map (type_at c.array_of_size.new.types) found ≡ meant))
    (ap (λ size. array_by size element) (ap (node_seen table) c.at.ensures ∙ seen_at table kept c.in-Some.size)
    ∙ ap (array_by_first (nodes_seen table kept) element) (sym c.in-Some.is ∙ c.first_child.ensures)
    ∙ array_told (nodes_seen table kept) (handles_of c.args.children.now) element)
    c.array_of_size.ensures.made
