-- An entry that is too new leads to the one that it hides.
use Rattle.std.proofs.Common.{◌≡◌, Some, length, refl, sym, ap, ◌∙◌, arith}
use Rattle.std.proofs.lemmas.Option.{slice_get_read}
use Rattle.c_types.specs.Chains.{newest}
use Rattle.c_types.proofs.ChainLemmas.{newest-none, newest-some, steps-fall, walked}
use Rattle.c_types.proofs.chains.NameChain.newest.Goals as goal

pub returns-then-index-count : goal.returns-then-index-count
returns-then-index-count c =
    let walks = c.loop-last.invariant in
    let one = newest-some c.args.self.now.entries c.args.name walks.0 c.in-Some.index (sym walks.3 ∙ c.in-Some.is) in
    sym (one.still c.args.count (omega (arith, c.if-index-count.true)) walks.1)

pub index-requires : goal.index-requires
index-requires c =
    let walks = c.loop-last.invariant in
    let one = newest-some c.args.self.now.entries c.args.name walks.0 c.in-Some.index (sym walks.3 ∙ c.in-Some.is) in
    omega (arith, one.below, walks.2, ap (λ chain. length chain.entries) c.self.view_is, c.self.inside.entries.ok.0)

pub loop-last-smaller : goal.loop-last-smaller
loop-last-smaller c =
    let walks = c.loop-last.invariant in
    let es = c.self.inside.entries.items in
    let seen = ap (λ chain. chain.entries) c.self.view_is in
    let index = c.in-Some.index in
    let is : newest es c.args.name walks.0 ≡ Some index = ap (λ all. newest all c.args.name walks.0) seen ∙ sym walks.3 ∙ c.in-Some.is in
    let one = newest-some es c.args.name walks.0 index is in
    let stands = slice_get_read es (length es) index c.index.result.now refl (omega (arith, one.below, walks.2, ap length seen)) c.index.ensures in
    steps-fall es c.args.name c.loop-last.last c.index.result.now.hides index c.in-Some.is
    (walked c.self.inside.last.entries c.self.inside.links.items es c.self.invariant c.args.name walks.0 index c.index.result.now is stands)

pub loop-last-preserved : goal.loop-last-preserved
loop-last-preserved c =
    let walks = c.loop-last.invariant in
    let es = c.self.inside.entries.items in
    let seen = ap (λ chain. chain.entries) c.self.view_is in
    let index = c.in-Some.index in
    let is : newest es c.args.name walks.0 ≡ Some index = ap (λ all. newest all c.args.name walks.0) seen ∙ sym walks.3 ∙ c.in-Some.is in
    let one = newest-some es c.args.name walks.0 index is in
    let stands = slice_get_read es (length es) index c.index.result.now refl (omega (arith, one.below, walks.2, ap length seen)) c.index.ensures in (
      index,
      omega (arith, c.if-index-count.false),
      omega (arith, one.below, walks.2),
      walked c.self.inside.last.entries c.self.inside.links.items es c.self.invariant c.args.name walks.0 index c.index.result.now is stands ∙ ap (λ all. newest all c.args.name index) seen,
    )

pub returns : goal.returns
returns c =
    let walks = c.loop-last.invariant in
    sym (newest-none c.args.self.now.entries c.args.name walks.0 c.args.count (sym walks.3 ∙ c.in_default.is) walks.1)
