-- Each part is told in its turn.
use Rattle.std.proofs.Common.{ℕ, ◌<◌, All, length, ap, subst, ◌∙◌, arith, length-set}
use Rattle.std.proofs.lemmas.List.Elements.{All-tail}
use Rattle.meaning_typing.specs.Surroundings.{asked}
use Rattle.node_surroundings.specs.Seen.{surrounding_seen}
use Rattle.node_surroundings.proofs.PartLemmas.{one_told}
use Rattle.node_surroundings.proofs.pass.ask_parts.Goals as goal

pub loop-child-preserved : goal.loop-child-preserved
loop-child-preserved c =
    let part = c.asked-part.result in
    let was = c.loop-child in
    let child : ℕ × ℕ = (c.in-Some.child, c.in-Some.tag) in
    record {
      told =
          one_told c.args.kind c.args.handle (surrounding_seen c.get-surrounding.result) was.place was.child-iterator c.next.new.self child
          was.surroundings c.set.new.self part _ c.in-Some.ensures.steps c.in_ok-set.ensures.ok
          (c.asked-part.ensures ∙ ap (λ role. asked c.args.kind c.args.handle was.place role (surrounding_seen c.get-surrounding.result)) c.role_of.ensures)
          was.invariant.told;
      all = ap length c.in_ok-set.ensures.ok ∙ length-set was.surroundings c.in-Some.child part ∙ was.invariant.all;
      before = All-tail (λ (pair : ℕ × ℕ). pair.0 < c.args.handle) child c.next.new.self (subst (All (λ (pair : ℕ × ℕ). pair.0 < c.args.handle)) c.in-Some.ensures.steps was.invariant.before);
      few = omega (arith, ap length c.in-Some.ensures.steps, was.invariant.few);
    }
