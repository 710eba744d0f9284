use Rattle.std.proofs.Common.{rules, ◌≡◌, true, false, ap, ◌∙◌, length}
use Rattle.meaning_typing.specs.DeclarationRows.{are_around_part, part_at_name}
use Rattle.meaning_typing.specs.Units.{kind_at as kind_of}
use Rattle.decl_judge.specs.Units.{handles_of, nodes_of}
use Rattle.declaration_rows.proofs.StandingLemmas.{found_behind, passed_over}
use Rattle.declaration_rows.proofs.parameters.part_at_name.Goals as goal

pub parts-init : goal.parts-init
parts-init c = ap (λ rest. part_at_name (nodes_of c.args.unit.now) (handles_of rest) (length (nodes_of c.args.unit.now))) c.iter-rest.ensures.pairs

pub returns-then-not-are_around_part : goal.returns-then-not-are_around_part
returns-then-not-are_around_part c =
    let around : are_around_part (kind_of (nodes_of c.args.unit.now) c.in-Some.part) ≡ false = search rules in
    found_behind (nodes_of c.args.unit.now) c.parts.rest c.next_back.new.self (c.in-Some.part, c.in-Some.field-0-1)
    (length (nodes_of c.args.unit.now)) c.in-Some.ensures.steps around
    ∙ c.parts.invariant

pub parts-preserved : goal.parts-preserved
parts-preserved c =
    let around : are_around_part (kind_of (nodes_of c.args.unit.now) c.in-Some.part) ≡ true = search rules in
    passed_over (nodes_of c.args.unit.now) c.parts.rest c.next_back.new.self (c.in-Some.part, c.in-Some.field-0-1)
    (length (nodes_of c.args.unit.now)) c.in-Some.ensures.steps around
    ∙ c.parts.invariant
