-- One member more brings its names.
use Rattle.std.proofs.Common.{◌++◌, length, map, sym, ap, ◌∙◌, arith}
use Rattle.meaning_layout.specs.Members.{names_of_members}
use Rattle.c_types.specs.Layouts.{told_kept}
use Rattle.c_types.specs.Maps.{names_kept}
use Rattle.c_types.specs.Members.{member_declared, names_seen}
use Rattle.c_types.specs.Rows.{types_of}
use Rattle.c_types.proofs.MapLemmas.{members-step}
use Rattle.c_types.proofs.MemberLemmas.{rest-known}
use Rattle.c_types.proofs.maps.MemberMaps.names_of.Goals as goal

pub members-preserved : goal.members-preserved
members-preserved c =
    let types = types_of c.args.rows.now.rows.entries in
    let told = told_kept c.args.layouts.now.kept.entries in
    let names = names_kept types told c.args.self.now.chains.items c.args.self.now.kept.entries in
    let es = names_seen types c.members.names.items in
    let member = c.in-Some.member.now in
    let others = c.in-Some.others.now in
    let split = c.in-Some.ensures.cases.0 in
    record {
      names =
          members-step types told names c.members.place member others es (names_seen types c.copy_member.new.names.items) c.in_ok-copy_member.ensures.names
          ∙ ap (λ rest. es ++ names_of_members told names c.members.place (map (member_declared types) rest)) (sym split)
          ∙ c.members.invariant.names;
      known = c.in_ok-copy_member.ensures.known c.members.invariant.known;
      types = rest-known (length types) c.members.rest.now member others split c.members.invariant.types;
      few = omega (arith, c.members.invariant.few, ap length split);
    }
