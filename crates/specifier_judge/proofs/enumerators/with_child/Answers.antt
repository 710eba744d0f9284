use Rattle.std.proofs.Common.{◌≡◌, true, false, List, ◌++◌, sym, ap, subst, ◌∙◌, append-nil}
use Rattle.meaning_typing.specs.EnumRows.{SeenEnumerator, is_enumerator}
use Rattle.meaning_typing.specs.Units.{kind_at}
use Rattle.decl_judge.specs.Units.{nodes_of}
use Rattle.decl_judge.proofs.AskedLemmas.{seen_at}
use Rattle.enum_rows.specs.Enumerations.{StandsFor}
use Rattle.node_facts.specs.Facts.{node_seen, nodes_seen}
use Rattle.specifier_judge.proofs.PartLemmas.{none-taken, one-taken}
use Rattle.specifier_judge.proofs.enumerators.with_child.Goals as goal

pub returns-then-is_enumerator : goal.returns-then-is_enumerator
returns-then-is_enumerator c = λ list stands.
    let nodes = nodes_of c.args.unit.now in
    let table = c.args.types.now in
    let facts = nodes_seen table c.args.facts.now in
    let child = c.args.child in
    let is : is_enumerator (kind_at nodes child) ≡ true = ap is_enumerator (sym c.kind_at.ensures) ∙ sym c.is_enumerator.ensures ∙ c.if-is_enumerator.true in
    subst (λ (more : List SeenEnumerator). StandsFor c.with.result (list ++ more))
    (one-taken nodes facts child is c.has_expression.result (node_seen table c.at.result) (c.has_expression.ensures facts)
    (ap (node_seen table) c.at.ensures ∙ seen_at table c.args.facts.now child))
    (c.with.ensures list stands)

pub returns-else-is_enumerator : goal.returns-else-is_enumerator
returns-else-is_enumerator c = λ list stands.
    let nodes = nodes_of c.args.unit.now in
    let facts = nodes_seen c.args.types.now c.args.facts.now in
    let child = c.args.child in
    let other : is_enumerator (kind_at nodes child) ≡ false = ap is_enumerator (sym c.kind_at.ensures) ∙ sym c.is_enumerator.ensures ∙ c.if-is_enumerator.false in
    subst (StandsFor c.args.taken) (sym (append-nil list) ∙ ap (λ more. list ++ more) (none-taken nodes facts child other)) stands
