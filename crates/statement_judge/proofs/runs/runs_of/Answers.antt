-- Each node in its turn.
use Rattle.std.proofs.Common.{◌≡◌, ℕ, ◌<◌, sym, ap, subst, ◌∙◌, arith}
use Rattle.std.proofs.lemmas.List.{length-map}
use Rattle.meaning_typing.specs.Surroundings.{Surrounding}
use Rattle.node_surroundings.specs.Seen.{surrounding_seen, surroundings_seen}
use Rattle.statement_judge.specs.Runs.{first_told}
use Rattle.statement_judge.proofs.RunLemmas.{AreTold, all_told, none_told, one_more_told}
use Rattle.statement_judge.proofs.runs.runs_of.Goals as goal

pub loop-handle-init : goal.loop-handle-init
loop-handle-init c =
    none_told (surroundings_seen c.args.surroundings.now) c.args.count c.in_ok-firsts.firsts.items
    (sym (length-map c.args.surroundings.now surrounding_seen ∙ c.requires)) c.in_ok-firsts.ensures

pub tell-requires : goal.tell-requires
tell-requires c = omega (arith, c.loop-handle.invariant.all, length-map c.args.surroundings.now surrounding_seen, c.requires)

pub loop-handle-preserved : goal.loop-handle-preserved
loop-handle-preserved c =
    let surroundings = surroundings_seen c.args.surroundings.now in
    let firsts = c.loop-handle.firsts.items in
    one_more_told surroundings c.loop-handle.handle firsts
    (omega (arith, c.loop-handle.invariant.all, length-map c.args.surroundings.now surrounding_seen, c.requires)) c.loop-handle.invariant
    c.tell.new.firsts.items
    (c.tell.ensures ∙ ap (λ (s : Surrounding). first_told firsts c.loop-handle.handle s.parent) c.get.ensures.seen)

pub returns : goal.returns
returns c =
    all_told (surroundings_seen c.args.surroundings.now) c.loop-handle.firsts.items
    (subst (λ (n : ℕ). AreTold (surroundings_seen c.args.surroundings.now) n c.loop-handle.firsts.items)
    (omega (arith, c.requires, length-map c.args.surroundings.now surrounding_seen)) c.loop-handle.invariant)
