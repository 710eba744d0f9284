-- The newest entry of the name is raised.
use Rattle.std.proofs.Common.{◌≡◌, Some, length, slice_get, take, refl, sym, ap, ◌∙◌, subst, arith}
use Rattle.std.proofs.lemmas.Option.{slice_get_read}
use Rattle.c_types.specs.Layouts.{told_kept}
use Rattle.c_types.proofs.ChainLemmas.{find-none, find-some, newest-some}
use Rattle.c_types.proofs.chains.NameChain.find.Goals as goal

pub index-requires : goal.index-requires
index-requires c =
    let one = newest-some c.args.self.now.entries c.args.name c.args.count c.in-Some.index (sym c.newest.ensures ∙ c.in-Some.is) in
    omega (arith, one.below, c.requires.count, ap (λ chain. length chain.entries) c.self.view_is, c.self.inside.entries.ok.0)

pub returns-in-Some : goal.returns-in-Some
returns-in-Some c =
    let chain = c.args.self.now in
    let seen = ap (λ one. one.entries) c.self.view_is in
    let index = c.in-Some.index in
    let entry = c.index.result.now in
    let is = sym c.newest.ensures ∙ c.in-Some.is in
    let one = newest-some chain.entries c.args.name c.args.count index is in
    let stands : slice_get chain.entries index ≡ Some entry =
    subst (λ all. slice_get all index ≡ Some entry) seen
    (slice_get_read c.self.inside.entries.items (length c.self.inside.entries.items) index entry refl (omega (arith, one.below, c.requires.count, ap length seen)) c.index.ensures)
    in
    ap Some c.raised.ensures ∙ find-some (told_kept c.args.layouts.now.kept.entries) (take c.args.level chain.links) chain.entries c.args.name c.args.count index entry is stands

pub returns-in-None : goal.returns-in-None
returns-in-None c =
    find-none (told_kept c.args.layouts.now.kept.entries) (take c.args.level c.args.self.now.links) c.args.self.now.entries c.args.name c.args.count (sym c.newest.ensures ∙ c.in-None.is)
