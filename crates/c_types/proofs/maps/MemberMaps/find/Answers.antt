-- The name is looked up in the chain of the aggregate.
use Rattle.std.proofs.Common.{sym, take}
use Rattle.c_types.specs.Chains.{names_below}
use Rattle.c_types.specs.Layouts.{told_kept}
use Rattle.c_types.proofs.MapLemmas.{below-known, find-kept, lookup-known, standing-read}
use Rattle.c_types.proofs.maps.MemberMaps.find.Goals as goal

pub returns-in-Some-clause-seen : goal.returns-in-Some-clause-seen
returns-in-Some-clause-seen c = λ types.
    let chains = c.args.self.now.chains.items in
    let standing = c.in-Some.standing.now in
    let read = standing-read chains standing (c.requires.1.standings c.args.aggregate standing (sym c.in-Some.ensures.value)) c.index.result.now c.index.ensures in
    find-kept types (told_kept c.args.layouts.now.kept.entries) chains c.args.self.now.kept.entries c.args.aggregate c.args.name standing c.index.result.now c.find.result c.in-Some.ensures.value read.0 c.find.ensures

pub returns-in-Some-clause-known : goal.returns-in-Some-clause-known
returns-in-Some-clause-known c = λ types maps.
    let told = told_kept c.args.layouts.now.kept.entries in
    let standing = c.in-Some.standing.now in
    let chain = c.index.result.now in
    let read = standing-read c.args.self.now.chains.items standing (maps.standings c.args.aggregate standing (sym c.in-Some.ensures.value)) chain c.index.ensures in
    lookup-known types c.args.name (names_below told (take standing.level chain.links) chain.entries standing.count)
    (below-known types told (take standing.level chain.links) chain.entries (maps.known standing.chain chain read.0) standing.count) c.find.result c.find.ensures
