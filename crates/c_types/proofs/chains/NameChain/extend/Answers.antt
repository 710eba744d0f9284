-- The names before the inner ones are entered over them, and those behind them where no other is.
use Rattle.std.proofs.Common.{◌≡◌, ◌≤◌, length, sym, ap, ◌∙◌, subst}
use Rattle.std.specs.Map.{lookup}
use Rattle.c_types.specs.declared.chains.Layered.{Layered}
use Rattle.c_types.specs.declared.chains.Link.{Link}
use Rattle.c_types.specs.Chains.{AreToldLinks, Chain, Each, or_later, own_name}
use Rattle.c_types.specs.Members.{is_name}
use Rattle.c_types.specs.Table.{IsLonger}
use Rattle.c_types.proofs.ChainLemmas.{surrounded}
use Rattle.c_types.proofs.chains.NameChain.extend.Goals as goal

pub returns-in_err-enter_all-clause-told : goal.returns-in_err-enter_all-clause-told
returns-in_err-enter_all-clause-told c = λ told each is. subst (AreToldLinks told) (sym c.enter_all.ensures.links) (c.surround.ensures.told told each is)

pub returns-in_err-enter_all-2-clause-told : goal.returns-in_err-enter_all-2-clause-told
returns-in_err-enter_all-2-clause-told c = λ told each is. subst (AreToldLinks told) (sym (c.enter_all-2.ensures.links ∙ c.enter_all.ensures.links)) (c.surround.ensures.told told each is)

pub returns-clause-told : goal.returns-clause-told
returns-clause-told c = λ told each is. subst (AreToldLinks told) (sym (c.enter_all-2.ensures.links ∙ c.enter_all.ensures.links)) (c.surround.ensures.told told each is)

pub returns-clause-named : goal.returns-clause-named
returns-clause-named c = λ told asked.
    let chain = c.args.self.now in
    let one = c.enter_all.new.self in
    let two = c.enter_all-2.new.self in
    let start : c.len-first.result ≡ length chain.entries = c.len-first.ensures ∙ c.self.inside.entries.ok.0 ∙ ap (λ all. length all.entries) c.self.view_is in
    let link : Link = record { anonymous = c.args.anonymous; jump = c.in_ok-surround.ensures.links.0 } in
    surrounded told chain.links link chain.entries (subst (λ (all : Chain). Each (λ (entry : Layered). entry.level ≤ length all.links) all.entries) c.self.view_is c.self.invariant.levels) one two
    (c.enter_all.ensures.links ∙ c.in_ok-surround.ensures.links.1) (subst (λ es. IsLonger es one.entries) c.surround.ensures.entries c.enter_all.ensures.grows.entries) c.enter_all-2.ensures.links c.args.before.now
    c.args.behind.now asked
    ((λ i. own_name told one (sym start i) asked) ∙ c.in_ok-enter_all.ensures.named told asked
    ∙ (λ i. or_later (own_name told (record { links = c.in_ok-surround.ensures.links.1 i; entries = c.surround.ensures.entries i }) (start i) asked) (lookup (is_name asked) c.args.before.now)))
    (c.in_ok-enter_all-2.ensures.named told asked)
