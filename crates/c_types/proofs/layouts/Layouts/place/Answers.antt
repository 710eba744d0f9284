-- One member more is placed.
use Rattle.std.proofs.Common.{[], All, length, map, sym, ap, ◌∙◌, subst}
use Rattle.std.proofs.lemmas.List.{nil_from_length}
use Rattle.std.proofs.lemmas.List.Elements.{All-from_recursion, All-push}
use Rattle.meaning_layout.specs.Telling.{member_before, placed_members}
use Rattle.body_layout.specs.Seen.{IsPlaced}
use Rattle.c_types.specs.Layouts.{member_told, placed_before, told_kept}
use Rattle.c_types.specs.Rows.{types_of}
use Rattle.c_types.proofs.MemberLemmas.{before-more, before-none, before-nothing, first-known, rest-known}
use Rattle.c_types.proofs.layouts.Layouts.place.Goals as goal

pub members-init : goal.members-init
members-init c =
    let all = placed_members (told_kept c.args.self.now.kept.entries) (map (member_told (types_of c.args.rows.now.rows.entries)) c.args.members.now) in
    record {
      members = before-none all ∙ ap (λ items. placed_before items all) (sym c.new-placed.ensures.items);
      placed = subst (All IsPlaced) (sym c.new-placed.ensures.items) (All-from_recursion IsPlaced [] tt);
      known = c.requires.known;
    }

pub place_one-requires-clause-known : goal.place_one-requires-clause-known
place_one-requires-clause-known c =
    first-known (length (types_of c.args.rows.now.rows.entries)) c.members.rest.now c.in-Some.member.now c.in-Some.others.now c.in-Some.ensures.cases.0 c.members.invariant.known

pub returns-in-Err-clause-members : goal.returns-in-Err-clause-members
returns-in-Err-clause-members c =
    let told = told_kept c.args.self.now.kept.entries in
    let types = types_of c.args.rows.now.rows.entries in
    sym
    (c.members.invariant.members ∙ ap (λ members. placed_before c.members.placed.items (placed_members told (map (member_told types) members))) c.in-Some.ensures.cases.0
    ∙ ap (λ one. placed_before c.members.placed.items (member_before one (placed_members told (map (member_told types) c.in-Some.others.now)))) (sym c.in-Err.ensures.member))

pub members-preserved : goal.members-preserved
members-preserved c =
    let told = told_kept c.args.self.now.kept.entries in
    let types = types_of c.args.rows.now.rows.entries in
    let rest = placed_members told (map (member_told types) c.in-Some.others.now) in
    record {
      members =
          c.members.invariant.members ∙ ap (λ members. placed_before c.members.placed.items (placed_members told (map (member_told types) members))) c.in-Some.ensures.cases.0
          ∙ ap (λ one. placed_before c.members.placed.items (member_before one rest)) (sym c.in-Ok.ensures.member) ∙ before-more c.members.placed.items c.in-Ok.one rest
          ∙ ap (λ items. placed_before items rest) (sym c.in_ok-push-in-Ok.ensures.items);
      placed = subst (All IsPlaced) (sym c.in_ok-push-in-Ok.ensures.items) (All-push IsPlaced c.members.placed.items c.in-Ok.one c.members.invariant.placed c.in-Ok.ensures.placed);
      known = rest-known (length types) c.members.rest.now c.in-Some.member.now c.in-Some.others.now c.in-Some.ensures.cases.0 c.members.invariant.known;
    }

pub returns-clause-members : goal.returns-clause-members
returns-clause-members c =
    let told = told_kept c.args.self.now.kept.entries in
    let types = types_of c.args.rows.now.rows.entries in
    sym
    (c.members.invariant.members
    ∙ ap (λ members. placed_before c.members.placed.items (placed_members told (map (member_told types) members))) (nil_from_length c.members.rest.now c.in_default.ensures.cases)
    ∙ before-nothing c.members.placed.items)
