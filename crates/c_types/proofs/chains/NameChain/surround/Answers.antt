-- The new link has a jump that is right.
use Rattle.std.proofs.Common.{◌≡◌, [], ◌∷◌, ◌++◌, length, sym, ap, ◌∙◌, subst, arith}
use Rattle.c_types.specs.declared.chains.Link.{Link}
use Rattle.c_types.specs.Chains.{AreJumpsOver, AreToldLinks, IsIndexed, IsToldLink}
use Rattle.c_types.specs.Layouts.{told_kept}
use Rattle.c_types.proofs.ChainLemmas.{each-push, indexed-link}
use Rattle.c_types.proofs.JumpLemmas.{jumps-push}
use Rattle.c_types.proofs.chains.NameChain.surround.Goals as goal

pub returns-in_err-push-clause-told : goal.returns-in_err-push-clause-told
returns-in_err-push-clause-told c = λ told each is. subst (AreToldLinks told) (sym (c.in_err-push.ensures.items ∙ ap (λ chain. chain.links) c.self.view_is)) each

pub invariant_of-self-2 : goal.invariant_of-self-2
invariant_of-self-2 c =
    let lasts = c.self.inside.last.entries in
    let links = c.self.inside.links.items in
    let es = c.self.inside.entries.items in
    let link : Link = record { anonymous = c.args.anonymous; jump = c.next_jump-jump.result } in
    let seen = ap (λ chain. chain.links) c.self.view_is in
    subst (λ all. IsIndexed lasts all es) (sym c.in_ok-push.ensures.items)
    (indexed-link lasts links es c.self.invariant link (omega (arith, c.next_jump-jump.ensures.level, ap length seen)) (omega (arith, c.if-len-ge-MAX_ENTRIES.false, c.len.ensures, c.self.inside.links.ok.0)))

pub returns-clause-told : goal.returns-clause-told
returns-clause-told c = λ told each is.
    let links = c.args.self.now.links in
    let link : Link = record { anonymous = c.args.anonymous; jump = c.next_jump-jump.result } in
    let grown : c.push.new.self.items ≡ links ++ link ∷ [] = c.in_ok-push.ensures.items ∙ ap (λ chain. chain.links ++ link ∷ []) c.self.view_is in
    subst (AreToldLinks told) (sym grown) (each-push (IsToldLink told) links link each (record { own = is; jump = c.next_jump-jump.ensures.told told each is }))

pub returns-clause-jumps : goal.returns-clause-jumps
returns-clause-jumps c = λ are.
    let told = told_kept c.args.layouts.now.kept.entries in
    let links = c.args.self.now.links in
    let link : Link = record { anonymous = c.args.anonymous; jump = c.next_jump-jump.result } in
    let grown : c.push.new.self.items ≡ links ++ link ∷ [] = c.in_ok-push.ensures.items ∙ ap (λ chain. chain.links ++ link ∷ []) c.self.view_is in
    subst (AreJumpsOver told) (sym grown) (jumps-push told links link are c.next_jump-jump.ensures.level (c.next_jump-jump.ensures.right are))
