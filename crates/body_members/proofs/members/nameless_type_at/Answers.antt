use Rattle.std.proofs.Common.{◌≡◌, Some, None, false, option_map, if◌then◌else◌, sym, ap, ◌∙◌}
use Rattle.std.specs.List.{list_any}
use Rattle.meaning_typing.specs.Declarators.{specifiers_of}
use Rattle.meaning_typing.specs.MemberDeclarations.{is_type_of_tagless, specified_type}
use Rattle.meaning_typing.specs.Units.{child_at, children_at}
use Rattle.c_types.specs.Table.{type_at}
use Rattle.decl_judge.specs.Asked.{specifiers_kept}
use Rattle.decl_judge.specs.Units.{nodes_of}
use Rattle.decl_judge.proofs.AskedLemmas.{specifiers_told}
use Rattle.node_facts.specs.Facts.{nodes_seen}
use Rattle.body_members.specs.Seen.{nameless_type}
use Rattle.body_members.proofs.TypeLemmas.{specified_told, tagless_told}
use Rattle.body_members.proofs.members.nameless_type_at.Goals as goal

pub returns-clause-made : goal.returns-clause-made
returns-clause-made c =
    let table = c.args.types.now in
    let nodes = nodes_of c.args.unit.now in
    let facts = nodes_seen table c.args.facts.now in
    let declaration = c.args.declaration in
    let specifiers = children_at nodes (child_at nodes declaration 0) in
    let type_ = type_at table c.in_ok-of.of in
    let said : Some type_ ≡ specified_type (specifiers_of nodes facts declaration) =
    ap (option_map (type_at table)) (sym c.in_ok-of.was ∙ c.specified_type.ensures)
    ∙ specified_told table (specifiers_kept nodes c.args.facts.now declaration)
    ∙ ap specified_type (specifiers_told table c.args.facts.now nodes declaration) in
    let none : list_any (λ handle. is_type_of_tagless nodes type_ handle) specifiers ≡ false =
    sym (tagless_told nodes type_ specifiers) ∙ sym c.is_type_of_tagless.ensures ∙ c.if-is_type_of_tagless.false in
    ap (λ is. if is then Some type_ else None) (sym none) ∙ ap (nameless_type nodes declaration) said
