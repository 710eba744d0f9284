-- What a leaf is asked, as refusals.
use Rattle.std.proofs.Common.{◌≡◌, ℕ, Bool, true, false, ◌&&◌, not, List, [], ◌∷◌, ◌++◌, map, refl, ap, ap₂, ◌∙◌, if◌then◌else◌}
use Rattle.std.proofs.lemmas.List.{map-append}
use Rattle.vocabulary.specs.declared.error_kind.ErrorKind.TheVariants.{IncompatibleTypes, InitializerIsNotConstant, VoidValueUsed}
use Rattle.meaning_types.specs.Types.{TypeTree}
use Rattle.meaning_types.specs.Spaces.{is_void}
use Rattle.meaning_operands.specs.Conversions.{ConversionAnswer, Fine, Fails, Constraint, conversion_answer}
use Rattle.meaning_operands.specs.Failures as failures
use Rattle.meaning_typing.specs.Facts.{Fact, Unknown, Expression, Specified, Declared, NamedType, ExpressionFact, operand_of, type_of_value}
use Rattle.meaning_typing.specs.Rows.{breaks_at, converted_by}
use Rattle.meaning_rules.specs.Rules.{least_broken}
use Rattle.meaning_initializers.specs.Items.{Given}
use Rattle.meaning_initializers.specs.Plans.{conversion_by, is_constant_leaf, not_constant, refusals_of}
use Rattle.expr_judge.specs.Parts.{only_expression}
use Rattle.expression_rows.proofs.LeastLemmas.{least_both}
use Rattle.leaf_rows.specs.Leaves.{leaf_told, not_constant_at}
use Rattle.init_judge.specs.Said.{broken_of}

-- nothing is asked but of an expression
pub only_told : (is_static : Bool) (type_ : TypeTree) (token : ℕ) (fact : Fact) → leaf_told is_static type_ token (only_expression fact) ≡ leaf_told is_static type_ token fact
only_told is_static type_ token Unknown = refl
only_told is_static type_ token (Expression expression) = refl
only_told is_static type_ token (Specified specifiers) = refl
only_told is_static type_ token (Declared declaration) = refl
only_told is_static type_ token (NamedType of) = refl

-- As refusals

if_nameless : (test : Bool) (handle token value : ℕ)
    → map broken_of (refusals_of handle (if test then breaks_at VoidValueUsed value else breaks_at IncompatibleTypes token))
    ≡ (if test then breaks_at VoidValueUsed value else breaks_at IncompatibleTypes token)
if_nameless true handle token value = refl
if_nameless false handle token value = refl

by_nameless : (answer : ConversionAnswer) (handle token part value : ℕ) (expression : ExpressionFact) (to : TypeTree)
    → map broken_of (refusals_of handle (converted_by answer token part value expression to).broken) ≡ (converted_by answer token part value expression to).broken
by_nameless Fine handle token part value expression to = refl
by_nameless (Fails rule) handle token part value expression to = refl
by_nameless Constraint handle token part value expression to = if_nameless (is_void (type_of_value expression)) handle token value

nameless : (handle token : ℕ) (to : TypeTree) (fact : Fact) → map broken_of (refusals_of handle (conversion_by to token fact).broken) ≡ (conversion_by to token fact).broken
nameless handle token to Unknown = refl
nameless handle token to (Expression expression) =
    by_nameless (conversion_answer (operand_of expression) expression.is_null to) handle token 256 token expression to
nameless handle token to (Specified specifiers) = refl
nameless handle token to (Declared declaration) = refl
nameless handle token to (NamedType type_) = refl

if_constant : (test : Bool) (handle token : ℕ)
    → map broken_of (if test then record { constraint = InitializerIsNotConstant; token = token; handle = handle } ∷ [] else [])
    ≡ (if test then breaks_at InitializerIsNotConstant token else [])
if_constant true handle token = refl
if_constant false handle token = refl

pub told_refusals : (is_static : Bool) (type_ : TypeTree) (given : Given)
    → least_broken (map broken_of (refusals_of given.handle (conversion_by type_ given.token given.fact).broken ++ not_constant is_static given))
    ≡ (leaf_told is_static type_ given.token given.fact).broken
told_refusals is_static type_ given =
    let conversion = conversion_by type_ given.token given.fact in
    ap least_broken
    (map-append broken_of (refusals_of given.handle conversion.broken) (not_constant is_static given)
    ∙ ap₂ (λ (a b : List failures.Broken). a ++ b) (nameless given.handle given.token type_ given.fact)
    (if_constant (is_static && not (is_constant_leaf given.fact)) given.handle given.token))
    ∙ least_both conversion.broken (not_constant_at is_static given.token given.fact)
