use Rattle.std.proofs.Common.{◌≡◌, ◌++◌, ◌∷◌, [], ℕ, OnOk, subst}
use Rattle.specifier_judge.specs.Seen.{body_seen}
use Rattle.member_rows.specs.Aggregates.{aggregates_in, bodies_in}
use Rattle.node_judge.specs.Bodies.{AreOneFirst, aggregates_with}
use Rattle.node_judge.proofs.bodies.tell_numbered.Goals as goal

pub returns-clause-told : goal.returns-clause-told
returns-clause-told c =
    let table = c.args.types.now in
    subst
    (λ (number : ℕ). OnOk c.tell.result (aggregates_in c.tell.new.types ≡ aggregates_with (aggregates_in table) (number, body_seen table c.args.body)))
    c.in_ok-aggregate.ensures c.tell.ensures.told

pub returns-clause-first : goal.returns-clause-first
returns-clause-first c =
    let table = c.args.types.now in
    subst
    (λ (number : ℕ). OnOk c.tell.result (AreOneFirst (bodies_in c.tell.new.types) (bodies_in table ++ (number, body_seen table c.args.body) ∷ [])))
    c.in_ok-aggregate.ensures c.tell.ensures.first
