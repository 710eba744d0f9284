-- The rows of members, elements, calls, assignments and operators.
use Rattle.std.proofs.Common.{sym, ap, ◌∙◌}
use Rattle.meaning_typing.specs.WholeTyping.{whole_operation_row, whole_row_of}
use Rattle.decl_judge.specs.Units.{nodes_of}
use Rattle.node_facts.specs.Facts.{nodes_seen}
use Rattle.expr_judge.proofs.TellingLemmas.{told_as}
use Rattle.member_rows.specs.Aggregates.{aggregates_in}
use Rattle.whole_judge.proofs.KindLemmas.{by_operation, not_of_members}
use Rattle.whole_judge.proofs.rows.row_with_aggregates.Goals as goal

pub returns-in-Member : goal.returns-in-Member
returns-in-Member c surroundings =
    let old = c.args.types.now in
    told_as old c.member.new.types c.member.result _ _
    (ap (whole_row_of (aggregates_in old) (nodes_of c.args.unit.now) surroundings (nodes_seen old c.args.facts.now) c.args.handle) (sym c.in-Member.is))
    c.args.found.now c.member.new.found (c.member.ensures surroundings)

pub returns-in-PointerMember : goal.returns-in-PointerMember
returns-in-PointerMember c surroundings =
    let old = c.args.types.now in
    told_as old c.pointer_member.new.types c.pointer_member.result _ _
    (ap (whole_row_of (aggregates_in old) (nodes_of c.args.unit.now) surroundings (nodes_seen old c.args.facts.now) c.args.handle) (sym c.in-PointerMember.is))
    c.args.found.now c.pointer_member.new.found (c.pointer_member.ensures surroundings)

pub returns-in-BuiltinOffsetof : goal.returns-in-BuiltinOffsetof
returns-in-BuiltinOffsetof c surroundings =
    let old = c.args.types.now in
    told_as old c.offset.new.types c.offset.result _ _
    (ap (whole_row_of (aggregates_in old) (nodes_of c.args.unit.now) surroundings (nodes_seen old c.args.facts.now) c.args.handle) (sym c.in-BuiltinOffsetof.is))
    c.args.found.now c.offset.new.found (c.offset.ensures surroundings)

pub returns-in-Subscript : goal.returns-in-Subscript
returns-in-Subscript c surroundings =
    let old = c.args.types.now in
    told_as old c.subscript.new.types c.subscript.result _ _
    (ap (whole_row_of (aggregates_in old) (nodes_of c.args.unit.now) surroundings (nodes_seen old c.args.facts.now) c.args.handle) (sym c.in-Subscript.is))
    c.args.found.now c.subscript.new.found (c.subscript.ensures surroundings)

pub returns-in-Call : goal.returns-in-Call
returns-in-Call c surroundings =
    let old = c.args.types.now in
    told_as old c.call.new.types c.call.result _ _
    (ap (whole_row_of (aggregates_in old) (nodes_of c.args.unit.now) surroundings (nodes_seen old c.args.facts.now) c.args.handle) (sym c.in-Call.is))
    c.args.found.now c.call.new.found (c.call.ensures surroundings)

pub returns-in-Assignment : goal.returns-in-Assignment
returns-in-Assignment c surroundings =
    let old = c.args.types.now in
    told_as old c.assignment.new.types c.assignment.result _ _
    (ap (whole_row_of (aggregates_in old) (nodes_of c.args.unit.now) surroundings (nodes_seen old c.args.facts.now) c.args.handle) (sym c.in-Assignment.is))
    c.args.found.now c.assignment.new.found (c.assignment.ensures surroundings)

pub returns-in_default : goal.returns-in_default
returns-in_default c surroundings =
    let nodes = nodes_of c.args.unit.now in
    let old = c.args.types.now in
    let facts = nodes_seen old c.args.facts.now in
    let handle = c.args.handle in
    let other = c.in_default in
    told_as old c.row_of_operator.new.types c.row_of_operator.result _ _
    (ap (whole_operation_row (aggregates_in old) nodes facts handle) c.operation_of.ensures
    ∙ by_operation (aggregates_in old) nodes surroundings facts handle c.args.kind c.requires.unit c.requires.names c.requires.plain
    (not_of_members c.args.kind other.not-Member other.not-PointerMember other.not-BuiltinOffsetof other.not-Subscript other.not-Call other.not-Assignment))
    c.args.found.now c.row_of_operator.new.found c.row_of_operator.ensures
