-- How far what a `__builtin_offsetof` leads to lies: a member of a type, and what the designators behind it lead to (C11 7.19 p3).
use Rattle.std.specs.Prelude.{ℕ, ℤ, List, [], ◌∷◌, map, Option, Some, None}
use Rattle.std.specs.Str.{bytes_eq}
use Rattle.vocabulary.specs.declared.node_kind.NodeKind.{NodeKind}
use Rattle.vocabulary.specs.declared.node_kind.NodeKind.TheVariants as kinds
use Rattle.meaning_types.specs.Types.{TypeTree}
use Rattle.meaning_layout.specs.Members.{Names, no_names}
use Rattle.meaning_layout.specs.Sizes.{Told}
use Rattle.meaning_constants.specs.Sizes.{Designator, ElementAt, Members, NamedMember, members_by, offset_along}
use Rattle.meaning_typing.specs.Units.{UnitNodes, node_at, kind_at, children_at}
use Rattle.meaning_typing.specs.Facts.{Fact, Expression, NamedType, fact_at}
use Rattle.meaning_typing.specs.Declarators.{nothing_told}

-- the members of aggregates by these names and layouts
abbrev pub members_named : Told → (ℕ → Names (List ℕ)) → Members (List ℕ)
members_named told names = members_by told bytes_eq names

-- what they are where no aggregate was told
abbrev pub known_members : Members (List ℕ)
known_members = members_named nothing_told no_names

-- the type that a node has or names
abbrev pub type_in : Fact → Option TypeTree
type_in (Expression expression) = Some expression.type_
type_in (NamedType type_) = Some type_
type_in fact = None

-- the number of its constant
abbrev pub constant_in : Fact → Option ℤ
constant_in (Expression expression) = expression.constant
constant_in fact = None

-- an index is the only part of its designator
abbrev pub index_in : List Fact → (children : List ℕ) → Option ℤ
index_in facts (child ∷ []) = constant_in (fact_at facts child)
index_in facts children = None

-- what a node designates; one that is no designator leads nowhere
abbrev pub designator_by : UnitNodes → List Fact → (handle : ℕ) → NodeKind → Designator (List ℕ)
designator_by nodes facts handle kinds.MemberDesignator = NamedMember (node_at nodes handle).name
designator_by nodes facts handle kinds.IndexDesignator = ElementAt (index_in facts (children_at nodes handle))
designator_by nodes facts handle kind = ElementAt None

abbrev pub designators_at : UnitNodes → List Fact → (handles : List ℕ) → List (Designator (List ℕ))
designators_at nodes facts handles = map (λ handle. designator_by nodes facts handle (kind_at nodes handle)) handles

-- from the begin of an object of this type, if there is one: first to the member with this name
abbrev pub offset_from : Told → Members (List ℕ) → (name : List ℕ) → Option TypeTree → List (Designator (List ℕ)) → Option ℕ
offset_from told members name None designators = None
offset_from told members name (Some type_) designators = offset_along told members type_ (NamedMember name ∷ designators)

-- the first part is a type name, and the others are the designators behind the member
abbrev pub offset_of_parts : Told → Members (List ℕ) → UnitNodes → List Fact → (name : List ℕ) → (children : List ℕ) → Option ℕ
offset_of_parts told members nodes facts name [] = None
offset_of_parts told members nodes facts name (first ∷ others) =
    offset_from told members name (type_in (fact_at facts first)) (designators_at nodes facts others)

-- how far a node leads, which holds the name of the member
abbrev pub offset_at : Told → Members (List ℕ) → UnitNodes → List Fact → (handle : ℕ) → Option ℕ
offset_at told members nodes facts handle = offset_of_parts told members nodes facts (node_at nodes handle).name (children_at nodes handle)
