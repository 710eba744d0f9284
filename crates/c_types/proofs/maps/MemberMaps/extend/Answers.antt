-- The chain goes on, and its names are those of all members.
use Rattle.std.proofs.Common.{◌≡◌, ◌+◌, ◌++◌, Some, length, map, slice_get, refl, sym, ap, ◌∙◌, subst}
use Rattle.std.proofs.lemmas.Option.{slice_get_read, slice_get_within}
use Rattle.std.specs.Map.{lookup}
use Rattle.meaning_layout.specs.Members.{names_of_members}
use Rattle.c_types.specs.Chains.{all_names}
use Rattle.c_types.specs.Layouts.{told_kept}
use Rattle.c_types.specs.Maps.{names_kept}
use Rattle.c_types.specs.Members.{AreKnownNames, entries_around, is_name, member_declared}
use Rattle.c_types.specs.Rows.{types_of}
use Rattle.c_types.proofs.MapLemmas.{extended-entered, extended-named, heavy-told}
use Rattle.c_types.proofs.maps.MemberMaps.extend.Goals as goal

pub returns-in_err-size-clause-right : goal.returns-in_err-size-clause-right
returns-in_err-size-clause-right c =
    let types = types_of c.args.rows.now.rows.entries in
    let told = told_kept c.args.layouts.now.kept.entries in
    let chains = c.args.self.now.chains.items in
    let kept = c.args.self.now.kept.entries in
    let members = c.args.members.now in
    let heavy = c.args.heavy in
    let member = c.requires.heavy.0 in
    let within = c.requires.heavy.1 in
    let is = c.requires.heavy.2 in
    let chain = c.index_mut.result.now in
    let at : slice_get chains heavy.standing.chain ≡ Some chain =
    slice_get_read chains (length chains) heavy.standing.chain chain refl (slice_get_within chains heavy.standing.chain is.outermost.0 is.outermost.1) c.index_mut.ensures.value
    in
    extended-entered types told chains kept c.requires.maps members heavy member within is chain c.extend.new.self at c.extend.ensures.grows
    (c.extend.ensures.known types (c.requires.maps.known heavy.standing.chain chain at) (subst (AreKnownNames types) (sym c.as_slice.ensures.value) c.in_ok-before.ensures.known)
    (subst (AreKnownNames types) (sym c.as_slice-2.ensures.value) c.in_ok-behind.ensures.known))
    (c.extend.ensures.told told (c.requires.maps.links heavy.standing.chain chain at)
    (heavy-told types told chains kept c.requires.maps members heavy member within is chain c.extend.new.self at)) (c.extend.ensures.jumps (c.requires.maps.jumps heavy.standing.chain chain at))

pub returns-clause-right : goal.returns-clause-right
returns-clause-right c =
    let types = types_of c.args.rows.now.rows.entries in
    let told = told_kept c.args.layouts.now.kept.entries in
    let chains = c.args.self.now.chains.items in
    let kept = c.args.self.now.kept.entries in
    let members = c.args.members.now in
    let heavy = c.args.heavy in
    let member = c.requires.heavy.0 in
    let within = c.requires.heavy.1 in
    let is = c.requires.heavy.2 in
    let chain = c.index_mut.result.now in
    let at : slice_get chains heavy.standing.chain ≡ Some chain =
    slice_get_read chains (length chains) heavy.standing.chain chain refl (slice_get_within chains heavy.standing.chain is.outermost.0 is.outermost.1) c.index_mut.ensures.value
    in
    extended-entered types told chains kept c.requires.maps members heavy member within is chain c.extend.new.self at c.extend.ensures.grows
    (c.extend.ensures.known types (c.requires.maps.known heavy.standing.chain chain at) (subst (AreKnownNames types) (sym c.as_slice.ensures.value) c.in_ok-before.ensures.known)
    (subst (AreKnownNames types) (sym c.as_slice-2.ensures.value) c.in_ok-behind.ensures.known))
    (c.extend.ensures.told told (c.requires.maps.links heavy.standing.chain chain at)
    (heavy-told types told chains kept c.requires.maps members heavy member within is chain c.extend.new.self at)) (c.extend.ensures.jumps (c.requires.maps.jumps heavy.standing.chain chain at))

pub returns-clause-named : goal.returns-clause-named
returns-clause-named c =
    let types = types_of c.args.rows.now.rows.entries in
    let told = told_kept c.args.layouts.now.kept.entries in
    let chains = c.args.self.now.chains.items in
    let kept = c.args.self.now.kept.entries in
    let members = c.args.members.now in
    let heavy = c.args.heavy in
    let member = c.requires.heavy.0 in
    let within = c.requires.heavy.1 in
    let is = c.requires.heavy.2 in
    let chain = c.index_mut.result.now in
    let at : slice_get chains heavy.standing.chain ≡ Some chain =
    slice_get_read chains (length chains) heavy.standing.chain chain refl (slice_get_within chains heavy.standing.chain is.outermost.0 is.outermost.1) c.index_mut.ensures.value
    in
    let names = names_kept types told chains kept in
    extended-named types told chains kept c.requires.maps members heavy member within is chain c.extend.new.self at c.in_ok-before.before.items c.in_ok-behind.behind.items c.in_ok-size.size.0 c.in_ok-size.size.1
    c.in_ok-size.ensures.level c.in_ok-size.ensures.count
    (c.in_ok-before.ensures.names ∙ ap (λ some. names_of_members told names 0 (map (member_declared types) some)) c.split_at.ensures.front)
    (c.in_ok-behind.ensures.names ∙ ap (λ some. names_of_members told names (heavy.anonymous.place + 1) (map (member_declared types) some)) c.split_at-2.ensures.back)
    (λ asked.
    c.in_ok-size.ensures.named told asked
    ∙ (λ i. lookup (is_name asked) (c.as_slice.ensures.value i ++ entries_around told heavy.anonymous (all_names told chain) ++ c.as_slice-2.ensures.value i)))
