use Rattle.std.proofs.Common.{◌≡◌, ◌≢◌, ℕ, List, refl, sym, ap, ◌∙◌, subst}
use Rattle.sparse_model.specs.declared.ids.TypeId.{TypeId}
use Rattle.meaning_typing.specs.Aggregates.{KnownAggregates}
use Rattle.meaning_typing.specs.Facts.{Fact, fact_at}
use Rattle.meaning_typing.specs.OffsetRows.{OffsetStep, offset_row, steps_of}
use Rattle.meaning_typing.specs.Rows.{nothing}
use Rattle.meaning_typing.specs.Typing.{part_fact, token_at}
use Rattle.meaning_typing.specs.Units.{children_from, node_at}
use Rattle.c_types.specs.Table.{TypeTable}
use Rattle.decl_judge.specs.Units.{nodes_of}
use Rattle.node_facts.specs.declared.fact.NodeFact.{NodeFact}
use Rattle.node_facts.specs.declared.fact.NodeFact.TheVariants as facts
use Rattle.node_facts.specs.Facts.{IsKnownNodeFact, node_seen, nodes_seen}
use Rattle.node_facts.proofs.GrowthLemmas.{joins_none}
use Rattle.expr_judge.specs.declared.row.NodeRow.{NodeRow}
use Rattle.expr_judge.specs.Rows.{SaysOnly, Tells}
use Rattle.expr_judge.proofs.PartLemmas.{kept-is, known_at}
use Rattle.expr_judge.proofs.TellingLemmas.{tells_only, told_as}
use Rattle.member_rows.specs.Aggregates.{aggregates_in}
use Rattle.whole_judge.proofs.offsets.offset.Goals as goal

no_type : (aggregates : KnownAggregates) (token : ℕ) (name : List ℕ) (steps : List OffsetStep) (table : TypeTable) (fact : NodeFact)
    → ((of : TypeId) → fact ≢ facts.NamedType of) → nothing ≡ offset_row aggregates token name (node_seen table fact) steps
no_type aggregates token name steps table (facts.NamedType of) other = absurd (other of refl)
no_type aggregates token name steps table fact other = refl

pub offset_in-requires-clause-of : goal.offset_in-requires-clause-of
offset_in-requires-clause-of c =
    let old = c.args.types.now in
    subst (IsKnownNodeFact old) (sym c.at.ensures ∙ c.in-NamedType.is) (known_at old c.args.facts.now c.child_at.result c.requires.ids)

pub returns-in-NamedType : goal.returns-in-NamedType
returns-in-NamedType c surroundings =
    let nodes = nodes_of c.args.unit.now in
    let old = c.args.types.now in
    let kept = c.args.facts.now in
    let facts = nodes_seen old kept in
    let handle = c.args.handle in
    let seen =
    ap (node_seen old) (sym c.in-NamedType.is ∙ c.at.ensures) ∙ kept-is old kept c.child_at.result ∙ ap (fact_at facts) c.child_at.ensures in
    told_as old c.offset_in.new.types c.offset_in.result _ _
    (ap (λ fact. offset_row (aggregates_in old) (token_at nodes handle) (node_at nodes handle).name fact (steps_of nodes facts (children_from nodes handle 1))) seen)
    c.args.found.now c.offset_in.new.found c.offset_in.ensures

pub returns-in_default : goal.returns-in_default
returns-in_default c surroundings =
    let nodes = nodes_of c.args.unit.now in
    let old = c.args.types.now in
    let kept = c.args.facts.now in
    let facts = nodes_seen old kept in
    let handle = c.args.handle in
    let found = c.args.found.now in
    let steps = steps_of nodes facts (children_from nodes handle 1) in
    let row = offset_row (aggregates_in old) (token_at nodes handle) (node_at nodes handle).name in
    let same : nothing ≡ row (part_fact nodes facts handle 0) steps =
    no_type (aggregates_in old) (token_at nodes handle) (node_at nodes handle).name steps old c.at.result c.in_default.not-NamedType
    ∙ ap (λ fact. row fact steps) (ap (node_seen old) c.at.ensures ∙ kept-is old kept c.child_at.result ∙ ap (fact_at facts) c.child_at.ensures) in
    subst (Tells old old found found c.known.result) same
    (tells_only old old found c.known.result nothing
    (subst (λ (row : NodeRow). SaysOnly old row nothing) (sym c.known.ensures) (record { row = refl; ids = tt; silent = refl }))
    (joins_none old))
