-- The layouts of a body, by what its members take.
use Rattle.std.proofs.Common.{false, true, map, sym, ap, ◌∙◌}
use Rattle.meaning_layout.specs.Layouts.{layout_of}
use Rattle.meaning_layout.specs.Telling.{layout_by_members, placed_members}
use Rattle.body_layout.specs.Seen.{member_seen}
use Rattle.c_types.specs.Layouts.{body_seen, member_told, members_placed, told_kept}
use Rattle.c_types.specs.Rows.{types_of}
use Rattle.c_types.proofs.MemberLemmas.{faulty-narrow}
use Rattle.c_types.proofs.layouts.Layouts.lay_out.Goals as goal

pub returns-in_ok-made-in-Ok-clause-structure : goal.returns-in_ok-made-in-Ok-clause-structure
returns-in_ok-made-in-Ok-clause-structure c =
    c.in_ok-made-in-Ok.ensures.structure
    ∙ (λ i. layout_of (record { members = map member_seen (c.deref.ensures.value i); is_union = false; packed = c.args.body.now.packed; written = c.effective-written.ensures.effective i }))
    ∙ ap (layout_by_members (body_seen (types_of c.args.rows.now.rows.entries) c.args.body.now) false) (ap members_placed (sym c.in-Ok.is) ∙ c.in_ok-placed.ensures.members ∙ ap (λ members. placed_members (told_kept c.args.self.now.kept.entries) (map (member_told (types_of c.args.rows.now.rows.entries)) members)) c.as_slice.ensures)

pub returns-in_ok-made-in-Ok-clause-union : goal.returns-in_ok-made-in-Ok-clause-union
returns-in_ok-made-in-Ok-clause-union c =
    c.in_ok-made-in-Ok.ensures.union
    ∙ (λ i. layout_of (record { members = map member_seen (c.deref.ensures.value i); is_union = true; packed = c.args.body.now.packed; written = c.effective-written.ensures.effective i }))
    ∙ ap (layout_by_members (body_seen (types_of c.args.rows.now.rows.entries) c.args.body.now) true) (ap members_placed (sym c.in-Ok.is) ∙ c.in_ok-placed.ensures.members ∙ ap (λ members. placed_members (told_kept c.args.self.now.kept.entries) (map (member_told (types_of c.args.rows.now.rows.entries)) members)) c.as_slice.ensures)

pub returns-in-Err-clause-structure : goal.returns-in-Err-clause-structure
returns-in-Err-clause-structure c = ap (layout_by_members (body_seen (types_of c.args.rows.now.rows.entries) c.args.body.now) false) (ap members_placed (sym c.in-Err.is) ∙ c.in_ok-placed.ensures.members ∙ ap (λ members. placed_members (told_kept c.args.self.now.kept.entries) (map (member_told (types_of c.args.rows.now.rows.entries)) members)) c.as_slice.ensures)

pub returns-in-Err-clause-union : goal.returns-in-Err-clause-union
returns-in-Err-clause-union c = ap (layout_by_members (body_seen (types_of c.args.rows.now.rows.entries) c.args.body.now) true) (ap members_placed (sym c.in-Err.is) ∙ c.in_ok-placed.ensures.members ∙ ap (λ members. placed_members (told_kept c.args.self.now.kept.entries) (map (member_told (types_of c.args.rows.now.rows.entries)) members)) c.as_slice.ensures)

pub returns-in-Err-clause-narrow : goal.returns-in-Err-clause-narrow
returns-in-Err-clause-narrow c = faulty-narrow c.in-Err.fault 0
