use Rattle.std.proofs.Common.{None, Some, [], if◌then◌else◌, option_map, refl, sym, ap, ◌∙◌}
use Rattle.vocabulary.specs.declared.error_kind.ErrorKind.TheVariants.{TypedefHasAnotherType}
use Rattle.meaning_typing.specs.Rows.{breaks_named}
use Rattle.meaning_rules.specs.Rules.{least_broken}
use Rattle.node_facts.specs.Facts.{name_seen}
use Rattle.expression_rows.specs.Rows.{broken_seen}
use Rattle.declaration_judge.proofs.AgainLemmas.{again_by}
use Rattle.declaration_judge.proofs.LinkedLemmas.{from_not}
use Rattle.declaration_judge.proofs.again.typedef_again.Goals as goal

pub returns-in_err-first : goal.returns-in_err-first
returns-in_err-first c =
    let declaration = c.args.declaration in
    λ surroundings surrounding typedefs stands.
    ap (option_map broken_seen) c.from_residual.ensures
    ∙ again_by c.args.kept.now declaration surroundings c.args.token surrounding c.args.scope None None typedefs stands
    (from_not declaration.is_typedef c.if-not-declaration.false) (sym c.in_err-first.was ∙ c.first.ensures.first) refl

pub returns-then-are_equal : goal.returns-then-are_equal
returns-then-are_equal c =
    let declaration = c.args.declaration in
    λ surroundings surrounding typedefs stands.
    again_by c.args.kept.now declaration surroundings c.args.token surrounding c.args.scope (Some c.in_ok-first.first) None typedefs stands
    (from_not declaration.is_typedef c.if-not-declaration.false) (sym c.in_ok-first.was ∙ c.first.ensures.first)
    (ap (λ test. least_broken (if test then [] else breaks_named TypedefHasAnotherType c.args.token (name_seen declaration.name)))
    (sym c.if-are_equal.true ∙ c.are_equal.ensures))

pub returns : goal.returns
returns c =
    let declaration = c.args.declaration in
    λ surroundings surrounding typedefs stands.
    again_by c.args.kept.now declaration surroundings c.args.token surrounding c.args.scope (Some c.in_ok-first.first)
    (Some (record { constraint = TypedefHasAnotherType; token = c.args.token; name = declaration.name })) typedefs stands
    (from_not declaration.is_typedef c.if-not-declaration.false) (sym c.in_ok-first.was ∙ c.first.ensures.first)
    (ap (λ test. least_broken (if test then [] else breaks_named TypedefHasAnotherType c.args.token (name_seen declaration.name)))
    (sym c.if-are_equal.false ∙ c.are_equal.ensures))
