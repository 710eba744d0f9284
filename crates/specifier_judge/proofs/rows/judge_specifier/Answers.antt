-- The row by the kind, as it is loaded; that of an enumerator has its constant already.
use Rattle.std.proofs.Common.{◌≡◌, [], None, sym, ap, subst, ◌∙◌}
use Rattle.vocabulary.specs.declared.node_kind.NodeKind.TheVariants as kinds
use Rattle.meaning_typing.specs.Aggregates.{aggregates_of}
use Rattle.meaning_typing.specs.DeclarationRows.{hiding_enumerator_failures}
use Rattle.meaning_typing.specs.EnumRows.{enumerator_row}
use Rattle.meaning_typing.specs.Rows.{Row}
use Rattle.meaning_typing.specs.Surroundings.{Surrounding, surrounding_at}
use Rattle.meaning_typing.specs.Typing.{row_with_constant}
use Rattle.meaning_typing.specs.Units.{kind_at}
use Rattle.meaning_typing.specs.Wholes.{row_loaded}
use Rattle.meaning_typing.specs.WholeTyping.{whole_row_by, whole_row_of}
use Rattle.decl_judge.specs.Units.{nodes_of}
use Rattle.expr_judge.specs.Rows.{Tells}
use Rattle.expr_judge.proofs.TellingLemmas.{told_as}
use Rattle.node_facts.specs.Facts.{nodes_seen}
use Rattle.node_surroundings.specs.Seen.{surroundings_seen}
use Rattle.whole_rows.specs.Rows.{is_for_value}
use Rattle.specifier_judge.specs.Kinds.{is_of_specifiers}
use Rattle.specifier_judge.proofs.KindLemmas.{row_by}
use Rattle.specifier_judge.proofs.LoadedLemmas.{tells_loaded}
use Rattle.specifier_judge.proofs.rows.judge_specifier.Goals as goal

pub returns-in-Enumerator : goal.returns-in-Enumerator
returns-in-Enumerator c = λ aggregates same.
    let nodes = nodes_of c.args.unit.now in
    let surroundings = surroundings_seen c.args.surroundings.now in
    let handle = c.args.handle in
    let old = c.args.types.now in
    let facts = nodes_seen old c.args.facts.now in
    told_as old c.enumerator.new.types c.enumerator.result _ _
    (ap
    (λ (stands : Surrounding). record (enumerator_row nodes facts handle stands) { failures = hiding_enumerator_failures nodes handle stands })
    c.get-surrounding.ensures.seen
    ∙ ap (whole_row_by aggregates nodes surroundings facts handle) (sym c.in-Enumerator.is ∙ c.kind_at-kind.ensures))
    c.args.found.now c.enumerator.new.found c.enumerator.ensures

pub row_of_kind-requires-clause-kind : goal.row_of_kind-requires-clause-kind
row_of_kind-requires-clause-kind c = sym c.kind_at-kind.ensures

pub row_of_kind-requires-clause-specifies : goal.row_of_kind-requires-clause-specifies
row_of_kind-requires-clause-specifies c = ap is_of_specifiers c.kind_at-kind.ensures ∙ c.requires.kind

pub as_loaded-requires : goal.as_loaded-requires
as_loaded-requires c = (c.in_ok-row-in_default.ensures (aggregates_of [])).ids

pub returns-in_ok-row-in_default : goal.returns-in_ok-row-in_default
returns-in_ok-row-in_default c = λ aggregates same.
    let nodes = nodes_of c.args.unit.now in
    let surroundings = surroundings_seen c.args.surroundings.now in
    let handle = c.args.handle in
    let old = c.args.types.now in
    let new = c.row_of_kind.new.types in
    let facts = nodes_seen old c.args.facts.now in
    let before = c.args.found.now in
    let after = c.row_of_kind.new.found in
    let kind = c.kind_at-kind.result in
    let want = (surrounding_at surroundings handle).want in
    let own = whole_row_of aggregates nodes surroundings facts handle kind in
    let tells = c.in_ok-row-in_default.ensures aggregates in
    let wanted : is_for_value want ≡ c.is_for_value-is_valued.result =
    ap (λ (stands : Surrounding). is_for_value stands.want) (sym c.get-surrounding.ensures.seen) ∙ sym c.is_for_value-is_valued.ensures in
    subst (Tells old new before after c.as_loaded.result)
    ((λ i. row_loaded aggregates.told (c.token_at.ensures i) want (row_with_constant None own))
    ∙ row_by aggregates nodes surroundings facts handle kind (sym c.kind_at-kind.ensures) (ap is_of_specifiers c.kind_at-kind.ensures ∙ c.requires.kind)
    c.in_default.not-Enumerator
    ∙ ap (whole_row_by aggregates nodes surroundings facts handle) c.kind_at-kind.ensures)
    (tells_loaded old new before after c.in_ok-row-in_default.row c.as_loaded.result own aggregates.told c.token_at.result want same tells
    (c.as_loaded.ensures.row want own wanted tells.row) c.as_loaded.ensures.known)
