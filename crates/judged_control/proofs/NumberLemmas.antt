-- Kinds of values, and constants.
use Rattle.std.proofs.Common.{◌≡◌, ℕ, zero, suc, ◌≤◌, List, [], ◌∷◌, length, Option, Some, None, if◌then◌else◌, refl, sym, ap, arith}
use Rattle.meaning_types.specs.Types.{TypeTree, Typed, VoidTree, IntegerTree, RestrictedTree, PointerTree, ArrayTree, FunctionTree, AggregateTree}
use Rattle.meaning_constants.specs.Constants.{kind_of}
use Rattle.meaning_constants.specs.Nodes.{loaded_type}
use Rattle.meaning_typing.specs.Facts.{Fact, Unknown, Expression, Specified, Declared, NamedType, ExpressionFact, fact_at}
use Rattle.meaning_typing.specs.Surroundings.{Surrounding}
use Rattle.meaning_typing.specs.Units.{UnitNodes}
use Rattle.meaning_control.specs.Nodes.{declares_function}
use Rattle.c_types.specs.Table.{TypeTable}
use Rattle.node_facts.specs.declared.fact.NodeFact.{NodeFact}
use Rattle.node_facts.specs.Facts.{nodes_seen}
use Rattle.linear_code.specs.Known.{function_known, function_note}
use Rattle.meaning_statements.specs.Statements.{constant_if, integer_kind, label_constant}
use Rattle.meaning_contexts.specs.Units.{constant_known}
use Rattle.judged_control.specs.Judged.{known_of}

by-type : (expression : ExpressionFact) (width : Option ℕ) (type_ : TypeTree)
    → kind_of (loaded_type width type_) ≡ integer_kind (Expression (record expression { type_ = type_; width = width }))
by-type expression None (Typed VoidTree qualifiers flags) = refl
by-type expression None (Typed (IntegerTree kind) qualifiers flags) = refl
by-type expression None (Typed (RestrictedTree kind identity) qualifiers flags) = refl
by-type expression None (Typed (PointerTree target) qualifiers flags) = refl
by-type expression None (Typed (ArrayTree element length) qualifiers flags) = refl
by-type expression None (Typed (FunctionTree result parameters variadic) qualifiers flags) = refl
by-type expression None (Typed (AggregateTree number is_union) qualifiers flags) = refl
by-type expression (Some width) (Typed VoidTree qualifiers flags) = refl
by-type expression (Some width) (Typed (IntegerTree kind) qualifiers flags) = refl
by-type expression (Some width) (Typed (RestrictedTree kind identity) qualifiers flags) = refl
by-type expression (Some width) (Typed (PointerTree target) qualifiers flags) = refl
by-type expression (Some width) (Typed (ArrayTree element length) qualifiers flags) = refl
by-type expression (Some width) (Typed (FunctionTree result parameters variadic) qualifiers flags) = refl
by-type expression (Some width) (Typed (AggregateTree number is_union) qualifiers flags) = refl

-- the kind of a value is that of what is loaded
pub kind_told : (expression : ExpressionFact) → kind_of (loaded_type expression.width expression.type_) ≡ integer_kind (Expression expression)
kind_told expression = by-type expression expression.width expression.type_

-- only expressions have constants
pub label_told : (fact : Fact) → constant_if (integer_kind fact) (constant_known fact) ≡ label_constant fact
label_told Unknown = refl
label_told (Expression expression) = refl
label_told (Specified specifiers) = refl
label_told (Declared declaration) = refl
label_told (NamedType type_) = refl

-- A number of no node declares no function

behind-known : (table : TypeTable) (facts : List NodeFact) (number : ℕ) → length facts ≤ number → fact_at (nodes_seen table facts) number ≡ Unknown
behind-known table [] number past = refl
behind-known table (fact ∷ facts) zero past = absurd (omega (arith, past))
behind-known table (fact ∷ facts) (suc number) past = behind-known table facts number (omega (arith, past))

pub unknown_function :
    (nodes : UnitNodes) (surroundings : List Surrounding) (table : TypeTable) (facts : List NodeFact) (number : ℕ) → length facts ≤ number
    → None ≡ function_known (known_of nodes surroundings (nodes_seen table facts)) number
unknown_function nodes surroundings table facts number past =
    ap
    (λ fact. if declares_function fact then Some (function_note (known_of nodes surroundings (nodes_seen table facts)) number) else None)
    (sym (behind-known table facts number past))
