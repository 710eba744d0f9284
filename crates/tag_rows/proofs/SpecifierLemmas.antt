-- The type that specifiers say, and the row by what is broken first.
use Rattle.std.proofs.Common.{◌≡◌, ℕ, is_some, List, [], ◌∷◌, Option, refl, sym, ap, ◌∙◌, if◌then◌else◌}
use Rattle.meaning_types.specs.Types.{TypeTree, Typed, VoidTree, IntegerTree, RestrictedTree, PointerTree, ArrayTree, FunctionTree, AggregateTree}
use Rattle.meaning_operands.specs.Failures.{Broken}
use Rattle.meaning_operands.specs.Operands.{is_integer}
use Rattle.meaning_rules.specs.Rules.{least_broken}
use Rattle.meaning_typing.specs.Facts.{Fact, fact_at}
use Rattle.meaning_typing.specs.Rows.{nothing, unless_broken}
use Rattle.meaning_typing.specs.Specifiers.{Words, type_named}
use Rattle.meaning_typing.specs.Tags.{any_type_said, names_any_type}
use Rattle.meaning_typing.specs.Units.{UnitNodes, kind_at}
use Rattle.c_types.specs.Table.{integer_kind}
use Rattle.expression_rows.specs.Parts.{unless}
use Rattle.expression_rows.specs.Rows.{Told, told}
use Rattle.expression_rows.proofs.LeastLemmas.{unless_told}
use Rattle.decl_judge.proofs.AskedLemmas.{said_by, said_if}
use Rattle.tag_rows.specs.Seen.{any_naming_handle}

-- by the first node that names a type
pub any_said_told : (nodes : UnitNodes) (facts : List Fact) (words : Words) (handles : List ℕ)
    → said_by nodes facts words (any_naming_handle nodes handles) ≡ any_type_said nodes facts words handles
any_said_told nodes facts words [] = refl
any_said_told nodes facts words (handle ∷ handles) =
    sym (said_if nodes facts words (names_any_type (kind_at nodes handle)) handle (any_naming_handle nodes handles))
    ∙ ap (λ other. if names_any_type (kind_at nodes handle) then type_named (fact_at facts handle) else other) (any_said_told nodes facts words handles)

-- as the table tells it
pub is_integer_told : (type_ : TypeTree) → is_some (integer_kind type_) ≡ is_integer type_
is_integer_told (Typed VoidTree _ _) = refl
is_integer_told (Typed (IntegerTree kind) _ _) = refl
is_integer_told (Typed (RestrictedTree kind identity) _ _) = refl
is_integer_told (Typed (PointerTree target) _ _) = refl
is_integer_told (Typed (ArrayTree element length) _ _) = refl
is_integer_told (Typed (FunctionTree result parameters variadic) _ _) = refl
is_integer_told (Typed (AggregateTree number is_union) _ _) = refl

abbrev pub told_unless : (least : Option Broken) → Fact → Told
told_unless least fact = record { fact = unless least fact; broken = least; failures = []; passed = [] }

-- what is told of a row that knows this, unless something is broken
pub unless_is_told : (least : Option Broken) (fact : Fact) (broken : List Broken) → least ≡ least_broken broken
    → told_unless least fact ≡ told (record nothing { fact = unless_broken broken fact; broken = broken })
unless_is_told least fact broken is =
    (λ i. record { fact = (ap (λ least. unless least fact) is ∙ unless_told broken fact) i; broken = is i; failures = []; passed = [] })
