-- The row by the parts, with its constant, as it is loaded.
use Rattle.std.proofs.Common.{◌≡◌, [], if◌then◌else◌, sym, ap, subst, ◌∙◌}
use Rattle.vocabulary.specs.declared.node_kind.NodeKind.{NodeKind}
use Rattle.meaning_typing.specs.Offsets.{members_named, offset_at}
use Rattle.meaning_typing.specs.Surroundings.{surrounding_at}
use Rattle.meaning_typing.specs.Typing.{row_with_constant, token_at}
use Rattle.meaning_typing.specs.Units.{kind_at, node_at}
use Rattle.meaning_typing.specs.Wholes.{row_loaded}
use Rattle.meaning_typing.specs.WholeTyping.{enumerator_part, keeps_constant, whole_constant_at, whole_row_of}
use Rattle.decl_judge.specs.Units.{nodes_of}
use Rattle.node_facts.specs.declared.fact.NodeFact.{NodeFact}
use Rattle.node_facts.specs.Facts.{IsKnownNodeFact, nodes_seen}
use Rattle.expr_judge.specs.Constants.{with_bits}
use Rattle.expr_judge.specs.Rows.{Tells}
use Rattle.expr_judge.proofs.OperatorLemmas.{tells_with, with-known}
use Rattle.member_rows.specs.Aggregates.{aggregates_in}
use Rattle.whole_judge.specs.Constants.{constant_of_node}
use Rattle.whole_judge.specs.Kinds.{is_of_unit}
use Rattle.whole_judge.proofs.ConstantLemmas.{row_has, whole_constant_fits}
use Rattle.whole_judge.proofs.KindLemmas.{asks_constant}
use Rattle.whole_judge.proofs.LoadedLemmas.{tells_loaded}
use Rattle.whole_judge.proofs.rows.row_of_expression.Goals as goal

pub row_by_parts-requires-clause-unit : goal.row_by_parts-requires-clause-unit
row_by_parts-requires-clause-unit c = ap is_of_unit c.kind_at-kind.ensures ∙ c.requires.unit

pub row_by_parts-requires-clause-names : goal.row_by_parts-requires-clause-names
row_by_parts-requires-clause-names c = λ is. c.requires.names (sym c.kind_at-kind.ensures ∙ is)

pub as_loaded-requires : goal.as_loaded-requires
as_loaded-requires c =
    let new = c.row_by_parts.new.types in
    subst (IsKnownNodeFact new) (sym c.with_bits.ensures)
    (with-known new c.constant_bits-bits.result c.in_ok-row.row.fact (c.in_ok-row.ensures []).ids)

pub returns : goal.returns
returns c surroundings wanted =
    let nodes = nodes_of c.args.unit.now in
    let old = c.args.types.now in
    let kept = c.args.facts.now in
    let new = c.row_by_parts.new.types in
    let facts = nodes_seen old kept in
    let handle = c.args.handle in
    let kind = kind_at nodes handle in
    let aggregates = aggregates_in old in
    let before = c.args.found.now in
    let after = c.row_by_parts.new.found in
    let row = c.in_ok-row.row in
    let want = (surrounding_at surroundings handle).want in
    let constant = constant_of_node aggregates nodes surroundings facts handle in
    let number = whole_constant_at aggregates nodes surroundings facts handle in
    let own = whole_row_of aggregates nodes surroundings facts handle kind in
    let meant = row_with_constant number own in
    let tells : Tells old new before after row own =
    subst (λ (kind : NodeKind). Tells old new before after row (whole_row_of aggregates nodes surroundings facts handle kind)) c.kind_at-kind.ensures
    (c.in_ok-row.ensures surroundings) in
    let has =
    row_has aggregates nodes surroundings facts handle (enumerator_part nodes surroundings facts (node_at nodes handle).number)
    (offset_at aggregates.told (members_named aggregates.told aggregates.names) nodes facts handle) kind c.requires.names in
    let fits = whole_constant_fits old kept aggregates nodes surroundings handle c.requires.names in
    let judged : Tells old new before after (record row { fact = c.with_bits.result }) meant =
    subst (λ (fact : NodeFact). Tells old new before after (record row { fact = fact }) meant)
    (sym (c.with_bits.ensures ∙ ap (λ bits. with_bits bits row.fact) (c.constant_bits-bits.ensures surroundings)))
    (tells_with old new before after constant own row has fits tells) in
    subst (Tells old new before after c.as_loaded.result)
    ((λ i. row_loaded aggregates.told (c.token_at.ensures i) want meant)
    ∙ ap (λ test. if test then own else row_loaded aggregates.told (token_at nodes handle) want meant) (sym (asks_constant kind c.requires.unit)))
    (tells_loaded old new before after (record row { fact = c.with_bits.result }) c.as_loaded.result meant c.token_at.result want judged
    (c.as_loaded.ensures.row want meant wanted judged.row) c.as_loaded.ensures.known)
