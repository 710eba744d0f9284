-- What a node initializes: the object of the declarator that stands before an initializer (C11 6.7.9), or that of a compound literal
-- (6.5.2.5).
use Rattle.std.specs.Prelude.{ℕ, Bool, true, false, ◌&&◌, ◌||◌, not, List, [], ◌∷◌, take, length, Option, if◌then◌else◌}
use Rattle.vocabulary.specs.declared.node_kind.NodeKind.{NodeKind}
use Rattle.vocabulary.specs.declared.node_kind.NodeKind.TheVariants as kinds
use Rattle.meaning_types.specs.Types.{TypeTree}
use Rattle.meaning_layout.specs.Sizes.{Told}
use Rattle.meaning_typing.specs.Units.{UnitNodes, kind_at, children_at, child_at}
use Rattle.meaning_typing.specs.Surroundings.{Surrounding, surrounding_at}
use Rattle.meaning_typing.specs.Facts.{Fact, Declared, NamedType, DeclaredFact, SpecifiedFact, fact_at}
use Rattle.meaning_typing.specs.Declarators.{in_file, specifiers_of}
use Rattle.meaning_typing.specs.DeclarationRows.{is_extern_said}
use Rattle.meaning_typing.specs.MemberRows.{is_no_object, is_unbounded}
use Rattle.meaning_initializers.specs.Reading.{is_static_literal}

pub data Initialized : Type 0 where
  -- something of which nothing is known, or nothing at all
  NoObject : Initialized
  -- what takes no initializer
  NoPlace : Initialized
  -- of a type that no object has
  Incomplete : Initialized
  -- an object of this type, which is static or isn't
  AnObject : TypeTree → (is_static : Bool) → Initialized

-- Declarators: the last one before the initializer

abbrev pub is_declarator : NodeKind → Bool
is_declarator kinds.Declarator = true
is_declarator kind = false

abbrev pub last_declarator : UnitNodes → (found : ℕ) → List ℕ → ℕ
last_declarator nodes found [] = found
last_declarator nodes found (part ∷ parts) = last_declarator nodes (if is_declarator (kind_at nodes part) then part else found) parts

-- where there is none, a handle that no node has
abbrev pub declarator_before : UnitNodes → Surrounding → ℕ
declarator_before nodes surrounding = last_declarator nodes (length nodes) (take surrounding.place (children_at nodes surrounding.parent))

-- a typedef, and what says `extern` in a block (6.7.9 p5), begin with nothing; our choice is that the initializer has no place
abbrev pub begins_with_nothing : UnitNodes → Surrounding → Option SpecifiedFact → DeclaredFact → Bool
begins_with_nothing nodes surrounding specifiers declaration = declaration.is_typedef || (not (in_file nodes surrounding) && is_extern_said specifiers)

-- a function is no object; that is told at its name
abbrev pub declared_object : UnitNodes → Surrounding → Option SpecifiedFact → Fact → Initialized
declared_object nodes surrounding specifiers (Declared declaration) =
    if begins_with_nothing nodes surrounding specifiers declaration then NoPlace else AnObject declaration.type_ declaration.is_static
declared_object nodes surrounding specifiers fact = NoObject

-- Compound literals

abbrev pub literal_object : Told → (is_static : Bool) → Fact → Initialized
literal_object told is_static (NamedType type_) =
    if is_no_object told type_ && not (is_unbounded type_) then Incomplete else AnObject type_ is_static
literal_object told is_static fact = NoObject

-- By the kind of a node

abbrev pub initialized_by : Told → UnitNodes → List Surrounding → List Fact → (handle : ℕ) → NodeKind → Initialized
initialized_by told nodes surroundings facts handle kinds.Initializer =
    declared_object nodes (surrounding_at surroundings handle) (specifiers_of nodes facts (surrounding_at surroundings handle).parent)
    (fact_at facts (declarator_before nodes (surrounding_at surroundings handle)))
initialized_by told nodes surroundings facts handle kinds.CompoundLiteral =
    literal_object told (is_static_literal nodes surroundings handle) (fact_at facts (child_at nodes handle 0))
initialized_by told nodes surroundings facts handle kind = NoObject

abbrev pub initialized_at : Told → UnitNodes → List Surrounding → List Fact → (handle : ℕ) → Initialized
initialized_at told nodes surroundings facts handle = initialized_by told nodes surroundings facts handle (kind_at nodes handle)

-- the part that initializes it, an expression or braces
abbrev pub initializing_by : UnitNodes → (handle : ℕ) → NodeKind → ℕ
initializing_by nodes handle kinds.CompoundLiteral = child_at nodes handle 1
initializing_by nodes handle kind = child_at nodes handle 0

abbrev pub initializing_part : UnitNodes → (handle : ℕ) → ℕ
initializing_part nodes handle = initializing_by nodes handle (kind_at nodes handle)
