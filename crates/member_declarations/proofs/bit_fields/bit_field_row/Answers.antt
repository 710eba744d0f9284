use Rattle.std.proofs.Common.{◌≡◌, ap, sym, ◌∙◌}
use Rattle.meaning_typing.specs.Facts.{fact_at}
use Rattle.meaning_typing.specs.MemberDeclarations.{member_entries}
use Rattle.meaning_typing.specs.MemberRows.{entry_with_width, width_of_entry}
use Rattle.meaning_typing.specs.Surroundings.{surrounding_at}
use Rattle.meaning_typing.specs.Units.{child_at}
use Rattle.node_facts.specs.Facts.{node_seen, nodes_seen}
use Rattle.expression_rows.specs.Rows.{told}
use Rattle.decl_judge.specs.Asked.{kept_at}
use Rattle.decl_judge.specs.Units.{nodes_of}
use Rattle.decl_judge.proofs.AskedLemmas.{seen_at}
use Rattle.node_surroundings.specs.Seen.{surroundings_seen}
use Rattle.member_declarations.specs.Seen.{row_seen}
use Rattle.member_declarations.proofs.BitFieldLemmas.{behind_none, behind_some}
use Rattle.member_declarations.proofs.bit_fields.bit_field_row.Goals as goal

pub returns-in-Some-clause-row : goal.returns-in-Some-clause-row
returns-in-Some-clause-row c =
    let table = c.args.types.now in
    let nodes = nodes_of c.args.unit.now in
    let facts = nodes_seen table c.args.facts.now in
    let handle = c.args.handle in
    let entry = entry_with_width handle (member_entries nodes (surrounding_at (surroundings_seen c.args.surroundings.now) handle).parent) in
    let size : node_seen table c.at-size.result ≡ fact_at facts (child_at nodes handle 0) =
    ap (node_seen table) (c.at-size.ensures ∙ ap (kept_at c.args.facts.now) c.child_at.ensures) ∙ seen_at table c.args.facts.now (child_at nodes handle 0) in
    c.width_behind.ensures.row
    ∙ ap told
    (behind_some nodes facts entry (node_seen table c.at-size.result) c.in-Some.declarator (sym c.in-Some.is ∙ c.declarator_of_width.ensures)
    ∙ ap (width_of_entry nodes facts entry) size)

pub returns-in-None-clause-row : goal.returns-in-None-clause-row
returns-in-None-clause-row c =
    let table = c.args.types.now in
    let nodes = nodes_of c.args.unit.now in
    let facts = nodes_seen table c.args.facts.now in
    let handle = c.args.handle in
    let entry = entry_with_width handle (member_entries nodes (surrounding_at (surroundings_seen c.args.surroundings.now) handle).parent) in
    let size : node_seen table c.at-size.result ≡ fact_at facts (child_at nodes handle 0) =
    ap (node_seen table) (c.at-size.ensures ∙ ap (kept_at c.args.facts.now) c.child_at.ensures) ∙ seen_at table c.args.facts.now (child_at nodes handle 0) in
    ap (row_seen table) c.known.ensures
    ∙ ap told
    (behind_none nodes facts entry (node_seen table c.at-size.result) (sym c.in-None.is ∙ c.declarator_of_width.ensures)
    ∙ ap (width_of_entry nodes facts entry) size)
