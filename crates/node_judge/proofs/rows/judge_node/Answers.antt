-- The row by the kind of the node is its row over what is known.
use Rattle.std.proofs.Common.{refl, sym, ap, subst, ◌∙◌}
use Rattle.decl_judge.specs.Units.{nodes_of}
use Rattle.node_facts.proofs.GrowthLemmas.{joins_none}
use Rattle.node_surroundings.specs.Seen.{surroundings_seen}
use Rattle.expr_judge.specs.Rows.{Tells}
use Rattle.expr_judge.proofs.NodeLemmas.{kind-is}
use Rattle.expr_judge.proofs.TellingLemmas.{tells_only, told_as}
use Rattle.meaning_typing.specs.Units.{kind_at}
use Rattle.specifier_judge.specs.Kinds.{is_of_specifiers}
use Rattle.vocabulary.specs.declared.node_kind.NodeKind.TheVariants as kinds
use Rattle.node_judge.specs.Known.{table_of}
use Rattle.node_judge.proofs.KnownLemmas.{known_count, row_is}
use Rattle.node_judge.proofs.RowLemmas.{unit_told}
use Rattle.node_judge.proofs.rows.judge_node.Goals as goal

pub specifier-requires-clause-specifies : goal.specifier-requires-clause-specifies
specifier-requires-clause-specifies c =
    let kind = kind-is c.args.unit.now c.requires.whole c.args.handle c.kind-kind.ensures.0 c.kind-kind.result c.kind-kind.ensures.1 c.kind-kind.ensures.2 in
    ap is_of_specifiers kind ∙ sym c.is_of_specifiers.ensures ∙ c.if-is_of_specifiers.true

pub returns-then-is_of_specifiers-clause-says : goal.returns-then-is_of_specifiers-clause-says
returns-then-is_of_specifiers-clause-says c =
    let nodes = nodes_of c.args.unit.now in
    let known = c.args.known.now in
    let handle = c.args.handle in
    told_as (table_of known) (table_of c.specifier.new.known) c.specifier.result _ _
    (row_is nodes (surroundings_seen c.args.surroundings.now) handle known c.requires.known (kind_at nodes handle) refl)
    c.args.found.now c.specifier.new.found c.specifier.ensures.says

pub declarator-requires-clause-kind : goal.declarator-requires-clause-kind
declarator-requires-clause-kind c =
    kind-is c.args.unit.now c.requires.whole c.args.handle c.kind-kind.ensures.0 c.kind-kind.result c.kind-kind.ensures.1 c.kind-kind.ensures.2 ∙ c.in-Declarator.is

pub returns-in-Declarator-clause-says : goal.returns-in-Declarator-clause-says
returns-in-Declarator-clause-says c =
    let known = c.args.known.now in
    let handle = c.args.handle in
    let kind = kind-is c.args.unit.now c.requires.whole handle c.kind-kind.ensures.0 c.kind-kind.result c.kind-kind.ensures.1 c.kind-kind.ensures.2 in
    told_as (table_of known) (table_of c.declarator.new.known) c.declarator.result _ _
    (row_is (nodes_of c.args.unit.now) (surroundings_seen c.args.surroundings.now) handle known c.requires.known kinds.Declarator (kind ∙ c.in-Declarator.is))
    c.args.found.now c.declarator.new.found c.declarator.ensures.says

pub name_used-requires-clause-kind : goal.name_used-requires-clause-kind
name_used-requires-clause-kind c =
    kind-is c.args.unit.now c.requires.whole c.args.handle c.kind-kind.ensures.0 c.kind-kind.result c.kind-kind.ensures.1 c.kind-kind.ensures.2 ∙ c.in-Name.is

pub returns-in-Name-clause-says : goal.returns-in-Name-clause-says
returns-in-Name-clause-says c =
    let known = c.args.known.now in
    let handle = c.args.handle in
    let kind = kind-is c.args.unit.now c.requires.whole handle c.kind-kind.ensures.0 c.kind-kind.result c.kind-kind.ensures.1 c.kind-kind.ensures.2 in
    told_as (table_of known) (table_of c.name_used.new.known) c.name_used.result _ _
    (row_is (nodes_of c.args.unit.now) (surroundings_seen c.args.surroundings.now) handle known c.requires.known kinds.Name (kind ∙ c.in-Name.is))
    c.args.found.now c.name_used.new.found c.name_used.ensures.says

pub unit_end-requires-clause-next : goal.unit_end-requires-clause-next
unit_end-requires-clause-next c =
    known_count (nodes_of c.args.unit.now) (surroundings_seen c.args.surroundings.now) c.args.handle c.args.known.now c.requires.known

pub unit_end-requires-clause-kept : goal.unit_end-requires-clause-kept
unit_end-requires-clause-kept c = c.requires.known.kept

pub returns-in-TranslationUnit-clause-says : goal.returns-in-TranslationUnit-clause-says
returns-in-TranslationUnit-clause-says c =
    let nodes = nodes_of c.args.unit.now in
    let surroundings = surroundings_seen c.args.surroundings.now in
    let known = c.args.known.now in
    let table = table_of known in
    let found = c.args.found.now in
    let handle = c.args.handle in
    let kind = kind-is c.args.unit.now c.requires.whole handle c.kind-kind.ensures.0 c.kind-kind.result c.kind-kind.ensures.1 c.kind-kind.ensures.2 in
    subst (Tells table table found found c.unit_end.result)
    (unit_told nodes surroundings table known.declarations.facts handle
    ∙ row_is nodes surroundings handle known c.requires.known kinds.TranslationUnit (kind ∙ c.in-TranslationUnit.is))
    (tells_only table table found c.unit_end.result _ c.unit_end.ensures (joins_none table))

pub row_by_facts-requires-clause-kind : goal.row_by_facts-requires-clause-kind
row_by_facts-requires-clause-kind c =
    kind-is c.args.unit.now c.requires.whole c.args.handle c.kind-kind.ensures.0 c.kind-kind.result c.kind-kind.ensures.1 c.kind-kind.ensures.2

pub row_by_facts-requires-clause-specifies : goal.row_by_facts-requires-clause-specifies
row_by_facts-requires-clause-specifies c = sym c.is_of_specifiers.ensures ∙ c.if-is_of_specifiers.false

pub returns-in_default-clause-says : goal.returns-in_default-clause-says
returns-in_default-clause-says c =
    let known = c.args.known.now in
    let handle = c.args.handle in
    let kind = kind-is c.args.unit.now c.requires.whole handle c.kind-kind.ensures.0 c.kind-kind.result c.kind-kind.ensures.1 c.kind-kind.ensures.2 in
    told_as (table_of known) (table_of c.row_by_facts.new.known) c.row_by_facts.result _ _
    (row_is (nodes_of c.args.unit.now) (surroundings_seen c.args.surroundings.now) handle known c.requires.known c.kind-kind.result kind)
    c.args.found.now c.row_by_facts.new.found c.row_by_facts.ensures.says
