-- The jump and the link are those below the level.
use Rattle.std.proofs.Common.{◌≡◌, ◌-◌, suc, Some, length, slice_get, refl, ap, subst, arith}
use Rattle.std.proofs.lemmas.Option.{slice_get_read}
use Rattle.c_types.specs.Chains.{IsJumpOver}
use Rattle.c_types.proofs.JumpLemmas.{jump-alone, jump-below}
use Rattle.c_types.proofs.chains.NameChain.way_down.Goals as goal

pub returns-then-link-lowest-clause-right : goal.returns-then-link-lowest-clause-right
returns-then-link-lowest-clause-right c = λ told.
    let seen = ap (λ chain. chain.links) c.self.view_is in
    let link = c.index-link.result.now in
    let stands : slice_get c.args.self.now.links (c.args.level - 1) ≡ Some link =
    subst (λ all. slice_get all (c.args.level - 1) ≡ Some link) seen
    (slice_get_read c.self.inside.links.items (length c.self.inside.links.items) (c.args.level - 1) link refl (omega (arith, c.requires.above, c.requires.within, ap length seen)) c.index-link.ensures)
    in
    jump-below told c.args.self.now.links c.args.level link (omega (arith, c.requires.above)) stands

pub returns-clause-right : goal.returns-clause-right
returns-clause-right c = λ told are.
    let seen = ap (λ chain. chain.links) c.self.view_is in
    let link = c.index-link.result.now in
    let stands : slice_get c.args.self.now.links (c.args.level - 1) ≡ Some link =
    subst (λ all. slice_get all (c.args.level - 1) ≡ Some link) seen
    (slice_get_read c.self.inside.links.items (length c.self.inside.links.items) (c.args.level - 1) link refl (omega (arith, c.requires.above, c.requires.within, ap length seen)) c.index-link.ensures)
    in
    let next : suc (c.args.level - 1) ≡ c.args.level = omega (arith, c.requires.above) in
    subst (λ level. IsJumpOver told c.args.self.now.links level (record { level = c.args.level - 1; anonymous = link.anonymous })) next (jump-alone told c.args.self.now.links (c.args.level - 1) link stands)
