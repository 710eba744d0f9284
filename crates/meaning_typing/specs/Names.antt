-- What a name stands for (C11 6.2.2, 6.5.1): an object or a function of one name with linkage has the type of its first
-- declaration in the unit.
use Rattle.std.specs.Prelude.{ℕ, ◌+◌, Bool, true, false, ◌&&◌, nat_eq, List, [], ◌∷◌, Option, Some, None, is_some, if◌then◌else◌}
use Rattle.std.specs.Str.{bytes_eq}
use Rattle.vocabulary.specs.declared.node_kind.NodeKind.{NodeKind}
use Rattle.vocabulary.specs.declared.node_kind.NodeKind.TheVariants as kinds
use Rattle.vocabulary.specs.declared.error_kind.ErrorKind.TheVariants.{TypedefHasAnotherType}
use Rattle.vocabulary.specs.declared.rule.RuleCode.TheVariants.{A7}
use Rattle.meaning_types.specs.Types.{TypeTree}
use Rattle.meaning_types.specs.Composite.{composite}
use Rattle.meaning_operands.specs.Failures.{Failure, Broken}
use Rattle.meaning_typing.specs.Units.{UnitNodes, kind_at, children_from}
use Rattle.meaning_typing.specs.Surroundings.{Surrounding, surrounding_at}
use Rattle.meaning_typing.specs.Facts.{Fact, Declared, DeclaredFact, ExpressionFact, Addressed, NotAddress, ConstantPlace, fact_at, place}
use Rattle.meaning_typing.specs.Equality.{are_equal_types}
use Rattle.meaning_typing.specs.MemberRows.{is_unbounded}
use Rattle.meaning_typing.specs.Rows.{Row, nothing, gives, breaks_named, fails_with}

-- Linkage

-- it is a declaration of this name with linkage
abbrev pub links_name : List ℕ → DeclaredFact → Bool
links_name name declaration = declaration.has_linkage && bytes_eq declaration.name name

abbrev pub before_types : Bool → TypeTree → List TypeTree → List TypeTree
before_types true type_ types = type_ ∷ types
before_types false type_ types = types

-- the types of the declarations of this name with linkage, in order, and behind each the one that its initializer completes
abbrev pub linked_types : List ℕ → List Fact → List TypeTree
linked_types name [] = []
linked_types name (Declared declaration ∷ facts) = before_types (links_name name declaration) declaration.type_ (linked_types name facts)
linked_types name (fact ∷ facts) = linked_types name facts

abbrev pub type_or : (otherwise : TypeTree) → Option TypeTree → TypeTree
type_or otherwise None = otherwise
type_or otherwise (Some type_) = type_

-- with the length that a later one has, where the first has none (6.2.7 p3)
abbrev pub with_lengths : TypeTree → List TypeTree → TypeTree
with_lengths first [] = first
with_lengths first (type_ ∷ types) = with_lengths (type_or first (composite first type_)) types

-- the type of what they declare, which is this where there is none
abbrev pub common_type : (otherwise : TypeTree) → List TypeTree → TypeTree
common_type otherwise [] = otherwise
common_type otherwise (first ∷ types) = with_lengths first types

-- the type that a declaration gives to a name behind these facts
abbrev pub type_of_name : List Fact → DeclaredFact → TypeTree
type_of_name facts declaration =
    if declaration.has_linkage then common_type declaration.type_ (linked_types declaration.name facts) else declaration.type_

-- Names behind an initializer, which completes the type of what is declared (6.7.9 p22)

-- the initializer behind a declarator and its attributes; where there is none, another handle
abbrev pub initializer_by_kind : NodeKind → (handle : ℕ) → (behind otherwise : ℕ) → ℕ
initializer_by_kind kinds.AttributeList handle behind otherwise = behind
initializer_by_kind kinds.Initializer handle behind otherwise = handle
initializer_by_kind kind handle behind otherwise = otherwise

abbrev pub first_initializer : UnitNodes → (otherwise : ℕ) → List ℕ → ℕ
first_initializer nodes otherwise [] = otherwise
first_initializer nodes otherwise (handle ∷ handles) =
    initializer_by_kind (kind_at nodes handle) handle (first_initializer nodes otherwise handles) otherwise

abbrev pub initializer_behind : UnitNodes → Surrounding → (declarator : ℕ) → ℕ
initializer_behind nodes surrounding declarator = first_initializer nodes declarator (children_from nodes surrounding.parent (surrounding.place + 1))

-- an array without a length has the one that its initializer completes, once that stands before and breaks nothing
abbrev pub completed_by : DeclaredFact → (initializer : Fact) → Fact
completed_by declaration (Declared completed) = Declared completed
completed_by declaration fact = Declared declaration

abbrev pub completed_if : (is_unbounded : Bool) → DeclaredFact → (initializer : Fact) → Fact
completed_if is_unbounded declaration initializer = if is_unbounded then completed_by declaration initializer else Declared declaration

abbrev pub declared_with : Fact → (initializer : Fact) → Fact
declared_with (Declared declaration) initializer = completed_if (is_unbounded declaration.type_) declaration initializer
declared_with fact initializer = fact

-- what a declarator declares, behind these facts
abbrev pub declared_behind : UnitNodes → List Surrounding → List Fact → (declarator : ℕ) → Fact
declared_behind nodes surroundings facts declarator =
    declared_with (fact_at facts declarator) (fact_at facts (initializer_behind nodes (surrounding_at surroundings declarator) declarator))

-- Names in expressions (6.5.1 p2)

abbrev pub address_of_name : DeclaredFact → Addressed
address_of_name declaration = if declaration.is_static then ConstantPlace else NotAddress

abbrev pub named_place : List Fact → DeclaredFact → ExpressionFact
named_place facts declaration =
    record (place (type_of_name facts declaration)) { is_register = declaration.is_register; address = address_of_name declaration }

abbrev pub name_row : List Fact → (declaration : Fact) → Row
name_row facts (Declared declaration) = if declaration.is_typedef then nothing else gives (named_place facts declaration) [] []
name_row facts fact = nothing

-- Declarations again

-- the first of the types that disagrees with this one, where a length may be missing
abbrev pub first_unlike : TypeTree → List TypeTree → Option TypeTree
first_unlike type_ [] = None
first_unlike type_ (other ∷ others) = if is_some (composite other type_) then first_unlike type_ others else Some other

abbrev pub redeclared : (token : ℕ) → DeclaredFact → Option TypeTree → List Failure
redeclared token declaration None = []
redeclared token declaration (Some earlier) = fails_with A7 token 0 (Some earlier) (Some declaration.type_) declaration.name ∷ []

-- an object or a function that was declared with another type
abbrev pub redeclarations : List Fact → (token : ℕ) → DeclaredFact → List Failure
redeclarations facts token declaration =
    if declaration.has_linkage then redeclared token declaration (first_unlike declaration.type_ (linked_types declaration.name facts)) else []

-- it is a typedef of this name in this scope
abbrev pub is_typedef_in : (scope : ℕ) → List ℕ → Surrounding → DeclaredFact → Bool
is_typedef_in scope name surrounding declaration =
    declaration.is_typedef && (nat_eq surrounding.around.scope scope && bytes_eq declaration.name name)

abbrev pub type_if : Bool → TypeTree → Option TypeTree → Option TypeTree
type_if true type_ otherwise = Some type_
type_if false type_ otherwise = otherwise

-- the type of the first one
abbrev pub first_typedef : (scope : ℕ) → List ℕ → List Surrounding → List Fact → Option TypeTree
first_typedef scope name (surrounding ∷ surroundings) (Declared declaration ∷ facts) =
    type_if (is_typedef_in scope name surrounding declaration) declaration.type_ (first_typedef scope name surroundings facts)
first_typedef scope name (surrounding ∷ surroundings) (fact ∷ facts) = first_typedef scope name surroundings facts
first_typedef scope name surroundings facts = None

abbrev pub typedef_differs : (token : ℕ) → DeclaredFact → Option TypeTree → List Broken
typedef_differs token declaration None = []
typedef_differs token declaration (Some first) =
    if are_equal_types first declaration.type_ then [] else breaks_named TypedefHasAnotherType token declaration.name

-- a typedef that stands again in one scope has the same type (6.7 p3)
abbrev pub typedefs_again : List Surrounding → List Fact → (token : ℕ) → Surrounding → DeclaredFact → List Broken
typedefs_again surroundings facts token surrounding declaration =
    if declaration.is_typedef then typedef_differs token declaration (first_typedef surrounding.around.scope declaration.name surroundings facts) else []
