-- The number of a `case`, by what was found of its parts.
use Rattle.std.proofs.Common.{◌≡◌, ℕ, ℤ, List, Option, sym, ap, ap₂, ◌∙◌}
use Rattle.meaning_typing.specs.Facts.{Fact}
use Rattle.meaning_typing.specs.Surroundings.{Surrounding}
use Rattle.meaning_typing.specs.Typing.{part_fact}
use Rattle.meaning_typing.specs.Units.{UnitNodes}
use Rattle.meaning_statements.specs.Jumps.{switch_of}
use Rattle.meaning_statements.specs.StatementRows.{number_at, switched_fact}
use Rattle.meaning_statements.specs.Statements.{number_of_label}
use Rattle.expr_judge.specs.Parts.{only_expression}
use Rattle.statement_judge.proofs.OnlyLemmas.{number_only}

pub number_is :
    (nodes : UnitNodes) (surroundings : List Surrounding) (facts : List Fact) (handle : ℕ) (found : Option ℤ) (of : Option ℕ) (label switched : Fact)
    → switch_of nodes surroundings handle ≡ of → label ≡ only_expression (part_fact nodes facts handle 0)
    → switched ≡ only_expression (switched_fact nodes facts of) → found ≡ number_of_label switched label → number_at nodes surroundings facts handle ≡ found
number_is nodes surroundings facts handle found of label switched at label_is switched_is number =
    ap (λ (s : Option ℕ). number_of_label (switched_fact nodes facts s) (part_fact nodes facts handle 0)) at
    ∙ sym (number ∙ ap₂ number_of_label switched_is label_is ∙ number_only (switched_fact nodes facts of) (part_fact nodes facts handle 0))
