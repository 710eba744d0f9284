-- The list is any that the enumerators stood for before.
use Rattle.std.proofs.Common.{[], ◌∷◌, ◌++◌, subst, sym}
use Rattle.node_facts.specs.Facts.{node_seen}
use Rattle.enum_rows.specs.Enumerations.{StandsFor}
use Rattle.enum_rows.proofs.KeptLemmas.{enumerators_on}
use Rattle.enum_rows.proofs.enumeration.Enumerators.with.Goals as goal

pub returns : goal.returns
returns c =
    let fact = node_seen c.args.types.now c.args.fact in
    λ list stands. subst (λ kept. StandsFor kept (list ++ record { has_expression = c.args.has_expression; fact = fact } ∷ [])) (sym c.with_value.ensures)
    (enumerators_on c.args.self c.args.has_expression c.value_in.result fact list c.value_in.ensures stands)
