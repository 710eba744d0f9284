-- Each kind has its row.
use Rattle.std.proofs.Common.{sym, ap, subst, ◌∙◌}
use Rattle.meaning_typing.specs.WholeTyping.{whole_row_of}
use Rattle.aggregate_rows.specs.Bodies.{is_aggregate}
use Rattle.decl_judge.specs.Units.{nodes_of}
use Rattle.expr_judge.specs.Rows.{Tells}
use Rattle.expr_judge.proofs.TellingLemmas.{tells_only, told_as, told_only}
use Rattle.node_facts.specs.Facts.{nodes_seen}
use Rattle.node_facts.proofs.GrowthLemmas.{joins_none}
use Rattle.node_surroundings.specs.Seen.{surroundings_seen}
use Rattle.specifier_judge.proofs.KindLemmas.{only_name}
use Rattle.specifier_judge.proofs.rows.row_of_kind.Goals as goal

pub aggregate-requires-clause-kind : goal.aggregate-requires-clause-kind
aggregate-requires-clause-kind c = ap is_aggregate (c.requires.kind ∙ c.in-StructSpecifier.is)

pub aggregate-requires-in-UnionSpecifier-clause-kind : goal.aggregate-requires-in-UnionSpecifier-clause-kind
aggregate-requires-in-UnionSpecifier-clause-kind c = ap is_aggregate (c.requires.kind ∙ c.in-UnionSpecifier.is)

pub returns-in-Specifiers : goal.returns-in-Specifiers
returns-in-Specifiers c = λ aggregates.
    told_only c.args.types.now c.specifiers.new.types c.specifiers.result _ _
    (ap (whole_row_of aggregates (nodes_of c.args.unit.now) (surroundings_seen c.args.surroundings.now) (nodes_seen c.args.types.now c.args.facts.now) c.args.handle) (sym c.in-Specifiers.is))
    c.args.found.now c.specifiers.ensures.says c.specifiers.ensures.keeps

pub returns-in-StructSpecifier : goal.returns-in-StructSpecifier
returns-in-StructSpecifier c = λ aggregates.
    told_only c.args.types.now c.aggregate.new.types c.aggregate.result _ _
    (ap (whole_row_of aggregates (nodes_of c.args.unit.now) (surroundings_seen c.args.surroundings.now) (nodes_seen c.args.types.now c.args.facts.now) c.args.handle) (sym c.in-StructSpecifier.is))
    c.args.found.now c.aggregate.ensures.says c.aggregate.ensures.keeps

pub returns-in-UnionSpecifier : goal.returns-in-UnionSpecifier
returns-in-UnionSpecifier c = λ aggregates.
    told_only c.args.types.now c.aggregate-in-UnionSpecifier.new.types c.aggregate-in-UnionSpecifier.result _ _
    (ap (whole_row_of aggregates (nodes_of c.args.unit.now) (surroundings_seen c.args.surroundings.now) (nodes_seen c.args.types.now c.args.facts.now) c.args.handle) (sym c.in-UnionSpecifier.is))
    c.args.found.now c.aggregate-in-UnionSpecifier.ensures.says c.aggregate-in-UnionSpecifier.ensures.keeps

pub returns-in-EnumSpecifier : goal.returns-in-EnumSpecifier
returns-in-EnumSpecifier c = λ aggregates.
    told_as c.args.types.now c.enumeration.new.types c.enumeration.result _ _
    (ap (whole_row_of aggregates (nodes_of c.args.unit.now) (surroundings_seen c.args.surroundings.now) (nodes_seen c.args.types.now c.args.facts.now) c.args.handle) (sym c.in-EnumSpecifier.is))
    c.args.found.now c.enumeration.new.found c.enumeration.ensures

pub returns-in-TypedefName : goal.returns-in-TypedefName
returns-in-TypedefName c = λ aggregates.
    let old = c.args.types.now in
    let found = c.args.found.now in
    let row = c.typedef_name.result in
    subst (Tells old old found found row) (ap (whole_row_of aggregates (nodes_of c.args.unit.now) (surroundings_seen c.args.surroundings.now) (nodes_seen c.args.types.now c.args.facts.now) c.args.handle) (sym c.in-TypedefName.is))
    (tells_only old old found row _ (c.typedef_name.ensures old c.requires.known.ids) (joins_none old))

pub returns-in-TypeofType : goal.returns-in-TypeofType
returns-in-TypeofType c = λ aggregates.
    let old = c.args.types.now in
    let found = c.args.found.now in
    let row = c.typeof_name.result in
    subst (Tells old old found found row) (ap (whole_row_of aggregates (nodes_of c.args.unit.now) (surroundings_seen c.args.surroundings.now) (nodes_seen c.args.types.now c.args.facts.now) c.args.handle) (sym c.in-TypeofType.is))
    (tells_only old old found row _ (c.typeof_name.ensures old c.requires.known.ids) (joins_none old))

pub returns-in-TypeofExpression : goal.returns-in-TypeofExpression
returns-in-TypeofExpression c = λ aggregates.
    let old = c.args.types.now in
    let found = c.args.found.now in
    let row = c.typeof_expression.result in
    subst (Tells old old found found row) (ap (whole_row_of aggregates (nodes_of c.args.unit.now) (surroundings_seen c.args.surroundings.now) (nodes_seen c.args.types.now c.args.facts.now) c.args.handle) (sym c.in-TypeofExpression.is))
    (tells_only old old found row _ (c.typeof_expression.ensures old c.requires.known.ids) (joins_none old))

pub returns-in_default : goal.returns-in_default
returns-in_default c = λ aggregates.
    let old = c.args.types.now in
    let found = c.args.found.now in
    let row = c.type_name.result in
    let not = c.in_default in
    subst (Tells old old found found row)
    (ap (whole_row_of aggregates (nodes_of c.args.unit.now) (surroundings_seen c.args.surroundings.now) (nodes_seen c.args.types.now c.args.facts.now) c.args.handle)
    (sym (only_name c.args.kind c.requires.specifies c.requires.other not.not-Specifiers not.not-StructSpecifier not.not-UnionSpecifier not.not-EnumSpecifier
    not.not-TypedefName not.not-TypeofType not.not-TypeofExpression)))
    (tells_only old old found row _ (c.type_name.ensures old c.requires.known.ids) (joins_none old))
