use Rattle.std.proofs.Common.{◌≡◌, ◌==◌, ◌++◌, List, OnOk, false, length, map, ap, sym, ◌∙◌, subst}
use Rattle.std.specs.List.{flat_map}
use Rattle.meaning_typing.specs.MemberDeclarations.{BodyMember, member_entries}
use Rattle.node_facts.specs.Facts.{nodes_seen}
use Rattle.decl_judge.specs.Units.{nodes_of}
use Rattle.body_members.specs.Entries.{entry_told}
use Rattle.body_members.specs.Seen.{member_by, members_seen}
use Rattle.body_members.proofs.MemberLemmas.{members_told}
use Rattle.body_members.proofs.members.add_members.Goals as goal

pub returns-clause-made : goal.returns-clause-made
returns-clause-made c =
    let table = c.args.types.now in
    let nodes = nodes_of c.args.unit.now in
    let facts = nodes_seen table c.args.facts.now in
    let told = map (entry_told nodes) (member_entries nodes c.args.declaration) in
    let entries : c.deref.result.now ≡ told = c.deref.ensures.value ∙ c.in_ok-entries.ensures in
    let some : (length told == 0) ≡ false =
    ap (λ entries. length entries == 0) (sym entries) ∙ ap (λ count. count == 0) c.deref.ensures.len ∙ sym c.is_empty.ensures ∙ c.if-is_empty.false in
    subst
    (λ (meant : List BodyMember). OnOk c.add_entries.result (members_seen table c.add_entries.new.members ≡ members_seen table c.args.members.now ++ meant))
    ((λ i. flat_map (member_by nodes facts (c.specified_alignment-specified.ensures i)) (entries i)) ∙ members_told nodes facts c.args.declaration (member_entries nodes c.args.declaration) some)
    c.add_entries.ensures.made
