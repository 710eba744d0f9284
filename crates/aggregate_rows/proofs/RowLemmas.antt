-- A row by what is broken and where an object is too large, and the bodies of a specifier.
use Rattle.std.proofs.Common.{◌≡◌, ℕ, ◌≤◌, Bool, true, List, [], ◌∷◌, length, take, map, Option, Some, None, refl, ◌∙◌, arith}
use Rattle.vocabulary.specs.declared.node_kind.NodeKind.{NodeKind}
use Rattle.vocabulary.specs.declared.node_kind.NodeKind.TheVariants as kinds
use Rattle.meaning_types.specs.Types.{AggregateTree}
use Rattle.meaning_typing.specs.Aggregates.{Bodies}
use Rattle.meaning_typing.specs.Facts.{Fact, Unknown, NamedType}
use Rattle.meaning_typing.specs.MemberDeclarations.{bodies_at, member_lists, specifier_bodies}
use Rattle.meaning_typing.specs.MemberRows.{aggregate_row, passed_at_body}
use Rattle.meaning_typing.specs.Specifiers.{plain_type}
use Rattle.meaning_typing.specs.Surroundings.{Surrounding}
use Rattle.meaning_typing.specs.Units.{UnitNodes, kind_at}
use Rattle.expression_rows.specs.declared.row.Broken.{Broken}
use Rattle.expression_rows.specs.Rows.{broken_seen, told}
use Rattle.tag_rows.specs.Seen.{broken_listed}
use Rattle.aggregate_rows.specs.Bodies.{FirstBodyIsAll, is_aggregate}
use Rattle.aggregate_rows.specs.Seen.{passed_listed, row_told}

-- Rows

pub row_is : (token number : ℕ) (is_union is_too_large : Bool) (broken : Option Broken) (passed : Option ℕ)
    → passed_listed passed ≡ passed_at_body token is_too_large
    → row_told number is_union broken passed ≡ told (aggregate_row token number is_union is_too_large (broken_listed broken))
row_is token number is_union is_too_large None passed is =
    (λ i. record { fact = NamedType (plain_type (AggregateTree number is_union)); broken = None; failures = []; passed = is i })
row_is token number is_union is_too_large (Some broken) passed is =
    (λ i. record { fact = Unknown; broken = Some (broken_seen broken); failures = []; passed = is i })

-- Bodies

all_taken : {X Y : Type 0} (f : X → Y) (xs : List X) → length xs ≤ 1 → take 1 (map f xs) ≡ map f xs
all_taken f [] few = refl
all_taken f (x ∷ []) few = refl
all_taken f (x ∷ other ∷ xs) few = absurd (omega (arith, few))

aggregate_bodies : (nodes : UnitNodes) (surroundings : List Surrounding) (facts : List Fact) (handle : ℕ) (kind : NodeKind) → is_aggregate kind ≡ true
    → specifier_bodies nodes surroundings facts handle ≡ bodies_at nodes surroundings facts handle kind
aggregate_bodies nodes surroundings facts handle kinds.StructSpecifier is = refl
aggregate_bodies nodes surroundings facts handle kinds.UnionSpecifier is = refl
aggregate_bodies nodes surroundings facts handle kind is = cc

pub first_body_is_all : FirstBodyIsAll
first_body_is_all nodes surroundings facts handle body is few first =
    first surroundings refl
    ∙ all_taken _ (member_lists nodes handle) few
    ∙ aggregate_bodies nodes surroundings facts handle (kind_at nodes handle) is
