-- The rows of primary expressions, `&` and `*`.
use Rattle.std.proofs.Common.{sym, ap, subst}
use Rattle.meaning_typing.specs.WholeTyping.{whole_row_of}
use Rattle.decl_judge.specs.Units.{nodes_of}
use Rattle.node_facts.specs.Facts.{nodes_seen}
use Rattle.member_rows.specs.Aggregates.{aggregates_in}
use Rattle.node_facts.proofs.GrowthLemmas.{joins_none}
use Rattle.expr_judge.specs.Rows.{Tells}
use Rattle.expr_judge.proofs.TellingLemmas.{tells_only, told_as}
use Rattle.whole_judge.proofs.KindLemmas.{not_plain}
use Rattle.whole_judge.proofs.rows.row_by_parts.Goals as goal

pub returns-in-IntegerConstant : goal.returns-in-IntegerConstant
returns-in-IntegerConstant c surroundings =
    let old = c.args.types.now in
    told_as old c.literal.new.types c.literal.result _ _
    (ap (whole_row_of (aggregates_in old) (nodes_of c.args.unit.now) surroundings (nodes_seen old c.args.facts.now) c.args.handle) (sym c.in-IntegerConstant.is))
    c.args.found.now c.literal.new.found c.literal.ensures

pub returns-in-CharacterConstant : goal.returns-in-CharacterConstant
returns-in-CharacterConstant c surroundings =
    let old = c.args.types.now in
    told_as old c.literal-in-CharacterConstant.new.types c.literal-in-CharacterConstant.result _ _
    (ap (whole_row_of (aggregates_in old) (nodes_of c.args.unit.now) surroundings (nodes_seen old c.args.facts.now) c.args.handle) (sym c.in-CharacterConstant.is))
    c.args.found.now c.literal-in-CharacterConstant.new.found c.literal-in-CharacterConstant.ensures

pub returns-in-StringLiteral : goal.returns-in-StringLiteral
returns-in-StringLiteral c surroundings =
    let old = c.args.types.now in
    told_as old c.string.new.types c.string.result _ _
    (ap (whole_row_of (aggregates_in old) (nodes_of c.args.unit.now) surroundings (nodes_seen old c.args.facts.now) c.args.handle) (sym c.in-StringLiteral.is))
    c.args.found.now c.string.new.found c.string.ensures

pub returns-in-Address : goal.returns-in-Address
returns-in-Address c surroundings =
    let old = c.args.types.now in
    told_as old c.address.new.types c.address.result _ _
    (ap (whole_row_of (aggregates_in old) (nodes_of c.args.unit.now) surroundings (nodes_seen old c.args.facts.now) c.args.handle) (sym c.in-Address.is))
    c.args.found.now c.address.new.found c.address.ensures

pub returns-in-Indirection : goal.returns-in-Indirection
returns-in-Indirection c surroundings =
    let old = c.args.types.now in
    told_as old c.indirection.new.types c.indirection.result _ _
    (ap (whole_row_of (aggregates_in old) (nodes_of c.args.unit.now) surroundings (nodes_seen old c.args.facts.now) c.args.handle) (sym c.in-Indirection.is))
    c.args.found.now c.indirection.new.found c.indirection.ensures

pub returns-in-Parenthesized : goal.returns-in-Parenthesized
returns-in-Parenthesized c surroundings =
    let old = c.args.types.now in
    let found = c.args.found.now in
    let row = c.parenthesized.result in
    subst (Tells old old found found row)
    (ap (whole_row_of (aggregates_in old) (nodes_of c.args.unit.now) surroundings (nodes_seen old c.args.facts.now) c.args.handle) (sym c.in-Parenthesized.is))
    (tells_only old old found row _ c.parenthesized.ensures (joins_none old))

pub row_with_aggregates-requires-clause-plain : goal.row_with_aggregates-requires-clause-plain
row_with_aggregates-requires-clause-plain c =
    let other = c.in_default in
    not_plain c.args.kind other.not-IntegerConstant other.not-CharacterConstant other.not-StringLiteral other.not-Parenthesized other.not-Address
    other.not-Indirection
