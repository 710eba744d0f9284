use Rattle.std.proofs.Common.{◌≡◌, [], ◌∷◌, ◌++◌, refl, ap, ◌∙◌}
use Rattle.std.proofs.lemmas.Result.{IfOk-weaker}
use Rattle.decl_judge.specs.Units.{nodes_of}
use Rattle.node_surroundings.specs.Seen.{surrounding_seen}
use Rattle.declaration_judge.proofs.LinkedLemmas.{declared_is, from_not}
use Rattle.declaration_judge.proofs.joining.carry_declaration.Goals as goal

pub returns-clause-contexts : goal.returns-clause-contexts
returns-clause-contexts c =
    let declaration = c.args.declaration in
    let stands = surrounding_seen c.args.surrounding in
    let old = c.args.contexts.now in
    let new = c.declare.new.self in
    let sums = c.in_ok-sums.sums in
    IfOk-weaker c.declare.result
    (λ _. new.declarations ≡ old.declarations ++ record { node = c.args.handle; name = declaration.name; of = declaration.of; contexts = sums } ∷ []) _
    (λ _ joins. joins
    ∙ ap (λ more. old.declarations ++ more)
    (declared_is (nodes_of c.args.unit.now) c.args.handle stands declaration sums
    (from_not declaration.has_linkage c.if-not-declaration.false) (c.in_ok-sums.ensures stands refl refl)))
    c.declare.ensures.joins
