-- The names of the anonymous member are copied.
use Rattle.std.proofs.Common.{sym, ap, ◌∙◌, take}
use Rattle.c_types.specs.Chains.{names_below}
use Rattle.c_types.specs.Layouts.{told_kept}
use Rattle.c_types.specs.Maps.{names_in_chain}
use Rattle.c_types.specs.Members.{entries_around, names_seen}
use Rattle.c_types.specs.Rows.{types_of}
use Rattle.c_types.proofs.MapLemmas.{below-known, brought, inner-brings, known-behind, seen-behind, standing-read}
use Rattle.c_types.proofs.NameLemmas.{OnOk-then, bare-width, known-around}
use Rattle.c_types.proofs.maps.MemberMaps.copy_unnamed.Goals as goal

pub returns-in-Some-get-clause-names : goal.returns-in-Some-get-clause-names
returns-in-Some-get-clause-names c =
    let types = types_of c.args.rows.now.rows.entries in
    let told = told_kept c.args.layouts.now.kept.entries in
    let chains = c.args.self.now.chains.items in
    let kept = c.args.self.now.kept.entries in
    let anonymous = c.in-Some.anonymous in
    let standing = c.in-Some-get.standing.now in
    let chain = c.index.result.now in
    let read = standing-read chains standing (c.requires.maps.standings anonymous.number standing (sym c.in-Some-get.ensures.value)) chain c.index.ensures in
    OnOk-then c.copy_names.result c.copy_names.ensures
    (λ is.
    seen-behind types c.args.names.now.items (entries_around told anonymous (names_below told (take standing.level chain.links) chain.entries standing.count)) c.copy_names.new.names.items
    (brought types told chains kept c.args.place c.args.member) is
    (sym (ap (λ one. names_seen types (entries_around told anonymous (names_in_chain told one standing))) read.0)
    ∙ inner-brings types told chains kept c.args.place c.args.member c.requires.unnamed (bare-width c.args.member.width (sym c.is_some.ensures ∙ c.if-is_some.false)) anonymous c.in-Some.ensures.some.0
    c.in-Some.ensures.some.1 c.in-Some.ensures.some.2 standing c.in-Some-get.ensures.value))

pub returns-in-Some-get-clause-known : goal.returns-in-Some-get-clause-known
returns-in-Some-get-clause-known c =
    let types = types_of c.args.rows.now.rows.entries in
    let told = told_kept c.args.layouts.now.kept.entries in
    let anonymous = c.in-Some.anonymous in
    let standing = c.in-Some-get.standing.now in
    let chain = c.index.result.now in
    let read = standing-read c.args.self.now.chains.items standing (c.requires.maps.standings anonymous.number standing (sym c.in-Some-get.ensures.value)) chain c.index.ensures in
    let names = names_below told (take standing.level chain.links) chain.entries standing.count in
    OnOk-then c.copy_names.result c.copy_names.ensures
    (λ is before.
    known-behind types c.args.names.now.items (entries_around told anonymous names) c.copy_names.new.names.items is
    (known-around types told anonymous names (below-known types told (take standing.level chain.links) chain.entries (c.requires.maps.known standing.chain chain read.0) standing.count)) before)
