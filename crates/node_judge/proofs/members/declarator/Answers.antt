-- The declarator of a member, or another one.
use Rattle.std.proofs.Common.{sym, ap, ◌∙◌}
use Rattle.meaning_typing.specs.MemberRows.{is_member_declaration}
use Rattle.meaning_typing.specs.Surroundings.{Surrounding}
use Rattle.meaning_typing.specs.Units.{kind_at}
use Rattle.decl_judge.specs.Units.{nodes_of}
use Rattle.expr_judge.proofs.TellingLemmas.{told_as}
use Rattle.node_surroundings.specs.Seen.{surroundings_seen}
use Rattle.node_judge.specs.Known.{table_of}
use Rattle.node_judge.proofs.KnownLemmas.{known_count}
use Rattle.node_judge.proofs.RowLemmas.{declarator_told, keeps_kept}
use Rattle.node_judge.proofs.members.declarator.Goals as goal

pub member_declarator-requires-clause-member : goal.member_declarator-requires-clause-member
member_declarator-requires-clause-member c =
    ap (λ (at : Surrounding). is_member_declaration (kind_at (nodes_of c.args.unit.now) at.parent)) (sym c.get-parent.ensures.seen)
    ∙ ap is_member_declaration (sym c.kind_at.ensures)
    ∙ sym c.is_member_declaration.ensures
    ∙ c.if-is_member_declaration.true

pub declarator-requires-clause-next : goal.declarator-requires-clause-next
declarator-requires-clause-next c =
    known_count (nodes_of c.args.unit.now) (surroundings_seen c.args.surroundings.now) c.args.handle c.args.known.now c.requires.known

pub declarator-requires-clause-kept : goal.declarator-requires-clause-kept
declarator-requires-clause-kept c = c.requires.known.kept

pub declarator-requires-clause-declares : goal.declarator-requires-clause-declares
declarator-requires-clause-declares c =
    ap (λ (at : Surrounding). is_member_declaration (kind_at (nodes_of c.args.unit.now) at.parent)) (sym c.get-parent.ensures.seen)
    ∙ ap is_member_declaration (sym c.kind_at.ensures)
    ∙ sym c.is_member_declaration.ensures
    ∙ c.if-is_member_declaration.false

pub returns-clause-says : goal.returns-clause-says
returns-clause-says c =
    let known = c.args.known.now in
    told_as (table_of known) c.declarator.new.kept.types c.declarator.result _ _
    (declarator_told (nodes_of c.args.unit.now) (surroundings_seen c.args.surroundings.now) (table_of known) known.declarations.facts c.args.handle)
    c.args.found.now c.declarator.new.found c.declarator.ensures.says

pub returns-clause-keeps : goal.returns-clause-keeps
returns-clause-keeps c =
    keeps_kept (nodes_of c.args.unit.now) (surroundings_seen c.args.surroundings.now) c.args.handle c.args.known.now c.declarator.new.kept c.declarator.result
    c.requires.known c.declarator.ensures.keeps
