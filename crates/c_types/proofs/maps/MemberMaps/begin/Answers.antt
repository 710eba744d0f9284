-- The new chain stands behind the others.
use Rattle.std.proofs.Common.{sym, subst, length}
use Rattle.c_types.specs.Layouts.{told_kept}
use Rattle.c_types.specs.Maps.{AreNamed, IsEntered}
use Rattle.c_types.specs.Rows.{types_of}
use Rattle.c_types.proofs.MapLemmas.{IfOk-with, fresh-entered, fresh-named, none-entered, result-either}
use Rattle.c_types.proofs.maps.MemberMaps.begin.Goals as goal

pub returns-clause-right : goal.returns-clause-right
returns-clause-right c =
    let types = types_of c.args.rows.now.rows.entries in
    let told = told_kept c.args.layouts.now.kept.entries in
    let chains = c.args.self.now.chains.items in
    let kept = c.args.self.now.kept.entries in
    result-either c.add.result c.add.ensures.chains c.add.ensures.err
    (λ grown. subst (λ more. IsEntered types told chains more kept) (sym grown) (fresh-entered types told chains kept c.requires.maps c.in_ok-chain.chain c.in_ok-chain.ensures.bare c.in_ok-chain.ensures.known))
    (λ same. subst (λ more. IsEntered types told chains more kept) (sym same) (none-entered types told chains kept c.requires.maps))

pub returns-clause-named : goal.returns-clause-named
returns-clause-named c =
    let types = types_of c.args.rows.now.rows.entries in
    let told = told_kept c.args.layouts.now.kept.entries in
    let chains = c.args.self.now.chains.items in
    let kept = c.args.self.now.kept.entries in
    let chain = c.in_ok-chain.chain in
    IfOk-with (AreNamed types told chains c.add.new.self.chains.items kept c.args.members.now) (record { chain = length chains; level = 0; count = length chain.entries }) c.add.result c.add.ensures.standing
    c.add.ensures.chains
    (λ grown.
    subst (λ more. AreNamed types told chains more kept c.args.members.now (record { chain = length chains; level = 0; count = length chain.entries })) (sym grown)
    (fresh-named types told chains kept c.requires.maps chain c.in_ok-chain.ensures.bare c.args.members.now c.in_ok-chain.ensures.named))
