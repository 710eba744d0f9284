use Rattle.std.proofs.Common.{◌≡◌, length, sym, ap, ◌∙◌, arith}
use Rattle.std.proofs.lemmas.List.{length-map}
use Rattle.meaning_typing.specs.Surroundings.{of_unit}
use Rattle.node_surroundings.specs.Seen.{surrounding_seen, surroundings_seen}
use Rattle.declaration_rows.proofs.StandingLemmas.{past_end}
use Rattle.declaration_rows.proofs.standing.standing_at.Goals as goal

pub returns-else-handle-count : goal.returns-else-handle-count
returns-else-handle-count c =
    let seen = surroundings_seen c.args.surroundings.now in
    let long : c.len-count.result ≡ length seen =
    omega (arith, c.len-count.ensures.value, c.requires.whole, c.requires.surroundings, length-map c.args.surroundings.now surrounding_seen) in
    c.of_unit.ensures
    ∙ ap of_unit long
    ∙ sym (past_end seen c.args.handle (of_unit (length seen)) (omega (arith, long, c.if-handle-count.false)))
