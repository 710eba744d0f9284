-- The type that a name has where all its declarations have one type.
use Rattle.std.proofs.Common.{◌≡◌, ℕ, suc, Bool, true, false, List, [], ◌∷◌, Some, slice_get, if◌then◌else◌, refl, ap, ◌∙◌}
use Rattle.meaning_types.specs.Types.{TypeTree}
use Rattle.meaning_types.specs.Composite.{completed, composite}
use Rattle.meaning_types.proofs.Equality.{are_same-Decides}
use Rattle.meaning_typing.specs.Facts.{Fact, Unknown, Expression, Specified, Declared, NamedType, DeclaredFact}
use Rattle.meaning_typing.specs.Names.{before_types, common_type, linked_types, links_name, type_or, with_lengths}

-- each of them is this one
abbrev pub AreOne : TypeTree → List TypeTree → Type 0
AreOne type_ [] = Unit {0}
AreOne type_ (other ∷ others) = (other ≡ type_) × AreOne type_ others

with-one : (type_ : TypeTree) (types : List TypeTree) → AreOne type_ types → with_lengths type_ types ≡ type_
with-one type_ [] are = refl
with-one type_ (other ∷ others) are =
    ap (λ t. with_lengths (type_or type_ (composite type_ t)) others) are.0
    ∙ ap (λ (same : Bool). with_lengths (type_or type_ (if same then Some type_ else completed type_ type_)) others) ((are_same-Decides type_ type_).1 refl)
    ∙ with-one type_ others are.1

pub common-one : (type_ otherwise : TypeTree) (types : List TypeTree) → otherwise ≡ type_ → AreOne type_ types → common_type otherwise types ≡ type_
common-one type_ otherwise [] is are = is
common-one type_ otherwise (first ∷ types) is are = ap (λ t. with_lengths t types) are.0 ∙ with-one type_ types are.1

-- declarations of a name among facts
before-one : (type_ own : TypeTree) (links : Bool) (types : List TypeTree) → (links ≡ true → own ≡ type_) → AreOne type_ types → AreOne type_ (before_types links own types)
before-one type_ own true types is are = (is refl, are)
before-one type_ own false types is are = are

pub linked-one :
    (type_ : TypeTree) (name : List ℕ) (facts : List Fact)
    → ((handle : ℕ) (declaration : DeclaredFact) → slice_get facts handle ≡ Some (Declared declaration) → links_name name declaration ≡ true → declaration.type_ ≡ type_)
    → AreOne type_ (linked_types name facts)
linked-one type_ name [] all = tt
linked-one type_ name (Declared declaration ∷ facts) all =
    before-one type_ declaration.type_ (links_name name declaration) (linked_types name facts) (all 0 declaration refl)
    (linked-one type_ name facts (λ handle. all (suc handle)))
linked-one type_ name (Unknown ∷ facts) all = linked-one type_ name facts (λ handle. all (suc handle))
linked-one type_ name (Expression expression ∷ facts) all = linked-one type_ name facts (λ handle. all (suc handle))
linked-one type_ name (Specified specifiers ∷ facts) all = linked-one type_ name facts (λ handle. all (suc handle))
linked-one type_ name (NamedType own ∷ facts) all = linked-one type_ name facts (λ handle. all (suc handle))
