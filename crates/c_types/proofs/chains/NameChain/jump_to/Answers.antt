-- The jump is that of the link below the level.
use Rattle.std.proofs.Common.{◌≡◌, ◌-◌, Some, length, slice_get, refl, ap, subst, arith}
use Rattle.std.proofs.lemmas.Option.{slice_get_read}
use Rattle.c_types.proofs.JumpLemmas.{jump-below}
use Rattle.c_types.proofs.chains.NameChain.jump_to.Goals as goal

pub returns-clause-told : goal.returns-clause-told
returns-clause-told c = λ told each.
    let seen = ap (λ chain. chain.links) c.self.view_is in
    let link = c.index.result.now in
    let stands : slice_get c.args.self.now.links (c.args.level - 1) ≡ Some link =
    subst (λ all. slice_get all (c.args.level - 1) ≡ Some link) seen
    (slice_get_read c.self.inside.links.items (length c.self.inside.links.items) (c.args.level - 1) link refl (omega (arith, c.if-level-eq0.false, c.requires, ap length seen)) c.index.ensures)
    in
    (each (c.args.level - 1) link stands).jump

pub returns-clause-right : goal.returns-clause-right
returns-clause-right c = λ told.
    let seen = ap (λ chain. chain.links) c.self.view_is in
    let link = c.index.result.now in
    let stands : slice_get c.args.self.now.links (c.args.level - 1) ≡ Some link =
    subst (λ all. slice_get all (c.args.level - 1) ≡ Some link) seen
    (slice_get_read c.self.inside.links.items (length c.self.inside.links.items) (c.args.level - 1) link refl (omega (arith, c.if-level-eq0.false, c.requires, ap length seen)) c.index.ensures)
    in
    jump-below told c.args.self.now.links c.args.level link (omega (arith, c.if-level-eq0.false)) stands
