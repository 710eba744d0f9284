-- The newest jumps and the link are put together.
use Rattle.std.proofs.Common.{◌≡◌, drop, sym, subst}
use Rattle.c_types.specs.declared.chains.Jump.{Jump}
use Rattle.c_types.specs.declared.members.FoundMember.{FoundMember}
use Rattle.c_types.specs.Chains.{raised}
use Rattle.c_types.specs.Layouts.{told_kept}
use Rattle.c_types.specs.Members.{found_around}
use Rattle.c_types.proofs.JumpLemmas.{jump-next}
use Rattle.c_types.proofs.chains.NameChain.next_jump.Goals as goal

pub returns-in-Some-clause-right : goal.returns-in-Some-clause-right
returns-in-Some-clause-right c = λ are.
    let told = told_kept c.args.layouts.now.kept.entries in
    let links = c.args.self.now.links in
    let anonymous = c.args.anonymous in
    subst (λ (jump : Jump). (found : FoundMember) → found_around told jump.anonymous found ≡ found_around told anonymous (raised told (drop jump.level links) found)) (sym c.around.ensures)
    (jump-next told links c.in-Some.jump anonymous (c.in-Some.ensures.right are))
