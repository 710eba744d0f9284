-- The names of types. A structure or a union is known by its number, and its name is its tag (C11 6.7.2.3). A restricted type is known by
-- the first token of the declaration, the parameter or the function definition that makes it, and its name is the one that is declared
-- there first. Names are as the nodes have them.
use Rattle.std.specs.Prelude.{ℕ, zero, suc, nat_eq, Bool, true, List, ◌∷◌, length, Option, Some, None}
use Rattle.std.specs.Option.{option_or}
use Rattle.vocabulary.specs.declared.node_kind.NodeKind.{NodeKind}
use Rattle.vocabulary.specs.declared.node_kind.NodeKind.TheVariants as kinds
use Rattle.meaning_typing.specs.Surroundings.{Surrounding, surrounding_at}
use Rattle.meaning_typing.specs.Units.{UnitNodes, kind_at, node_at}

-- The first

-- what the first of the first so many nodes gives that gives something
abbrev pub first_given : (given : (handle : ℕ) → Option (List ℕ)) → (count : ℕ) → Option (List ℕ)
first_given given zero = None
first_given given (suc count) = option_or (first_given given count) (given count)

-- a name, where it is the one that is asked for
abbrev pub name_if : (is_asked : Bool) → (name : List ℕ) → Option (List ℕ)
name_if true (number ∷ numbers) = Some (number ∷ numbers)
name_if is_asked name = None

-- Tags

-- the tag that a node of this kind gives to the structure or union with this number
abbrev pub tag_by : UnitNodes → (number handle : ℕ) → NodeKind → Option (List ℕ)
tag_by nodes number handle kinds.StructSpecifier = name_if (nat_eq number (node_at nodes handle).number) (node_at nodes handle).name
tag_by nodes number handle kinds.UnionSpecifier = name_if (nat_eq number (node_at nodes handle).number) (node_at nodes handle).name
tag_by nodes number handle kind = None

abbrev pub tag_at : UnitNodes → (number handle : ℕ) → Option (List ℕ)
tag_at nodes number handle = tag_by nodes number handle (kind_at nodes handle)

abbrev pub tag_of : UnitNodes → (number : ℕ) → Option (List ℕ)
tag_of nodes number = first_given (tag_at nodes number) (length nodes)

-- Restricted types

-- the token at which the declaration of a declarator begins
abbrev pub declared_at : UnitNodes → List Surrounding → (declarator : ℕ) → ℕ
declared_at nodes surroundings declarator = (node_at nodes (surrounding_at surroundings declarator).parent).token

-- the name that a node of this kind gives to the restricted type that is made at this token
abbrev pub identity_by : UnitNodes → List Surrounding → (token handle : ℕ) → NodeKind → Option (List ℕ)
identity_by nodes surroundings token handle kinds.Declarator =
    name_if (nat_eq token (declared_at nodes surroundings handle)) (node_at nodes handle).name
identity_by nodes surroundings token handle kind = None

abbrev pub identity_at : UnitNodes → List Surrounding → (token handle : ℕ) → Option (List ℕ)
identity_at nodes surroundings token handle = identity_by nodes surroundings token handle (kind_at nodes handle)

abbrev pub identity_of : UnitNodes → List Surrounding → (token : ℕ) → Option (List ℕ)
identity_of nodes surroundings token = first_given (identity_at nodes surroundings token) (length nodes)
