-- What declarations bind names to (C11 6.2.1, 6.7.6): the types of objects, by the tree.
use Rattle.std.specs.Prelude.{ℕ, true, List, [], ◌∷◌, ◌++◌, Option, Some, None, option_map, if◌then◌else◌}
use Rattle.std.specs.Str.{bytes_eq}
use Rattle.vocabulary.specs.declared.int_kind.IntKind.TheVariants.{Int}
use Rattle.meaning_types.specs.Types.{Space, NumberedSpace, NamedSpace, Flags, no_flags, no_qualifiers, TypeTree, Typed, BaseTree, IntegerTree, PointerTree}
use Rattle.vocabulary.specs.declared.node_kind.NodeKind.{NodeKind}
use Rattle.vocabulary.specs.declared.node_kind.NodeKind.TheVariants.{Declaration, FunctionDefinition, Specifiers, IntSpecifier, AttributeList, NoderefAttribute, AddressSpaceAttribute, Declarator, PointerDeclarator}
use Rattle.meaning_tree.specs.Trees.{SyntaxTree, Node, NoParts, Part}
use Rattle.meaning_syntax.specs.Trees.{SyntaxParts}

-- a name, and the type of the object that it stands for; a function is no object
pub record Binding : Type 0 where
  pub name : List ℕ
  pub object : Option TypeTree

-- Specifiers (6.7.2, and attributes)

-- the space with this name, or with this number where it has none
abbrev pub space_named : List ℕ → ℕ → Space
space_named [] number = NumberedSpace number
space_named (byte ∷ name) number = NamedSpace (byte ∷ name)

-- the flags behind a word of an attribute; a later space replaces an earlier one
abbrev pub flagged_by : NodeKind → List ℕ → ℕ → Flags → Flags
flagged_by NoderefAttribute name number flags = record flags { noderef = true }
flagged_by AddressSpaceAttribute name number flags = record flags { space = space_named name number }
flagged_by kind name number flags = flags

-- the flags behind the words of an attribute list
abbrev pub flags_behind_words : Flags → SyntaxParts → Flags
flags_behind_words flags NoParts = flags
flags_behind_words flags (Part role (Node kind token name number parts) words) =
    flags_behind_words (flagged_by kind name number flags) words

-- behind a specifier
abbrev pub flags_behind : NodeKind → Flags → SyntaxParts → Flags
flags_behind AttributeList flags words = flags_behind_words flags words
flags_behind kind flags words = flags

-- and behind all of them: attributes among the specifiers belong to the specified type
abbrev pub specified_flags : Flags → SyntaxParts → Flags
specified_flags flags NoParts = flags
specified_flags flags (Part role (Node kind token name number parts) specifiers) =
    specified_flags (flags_behind kind flags parts) specifiers

-- the type that a word of the specifiers names
abbrev pub base_named : NodeKind → Option BaseTree
base_named IntSpecifier = Some (IntegerTree Int)
base_named kind = None

-- the first where there are two
abbrev pub first_of : {A : Type 0} → Option A → Option A → Option A
first_of None other = other
first_of (Some one) other = Some one

-- the type that the specifiers name, by the first word that names one
abbrev pub specified_base : SyntaxParts → Option BaseTree
specified_base NoParts = None
specified_base (Part role (Node kind token name number parts) specifiers) =
    first_of (base_named kind) (specified_base specifiers)

-- that type with the flags of the attributes among the specifiers
abbrev pub specified_type : SyntaxParts → Option TypeTree
specified_type specifiers =
    option_map (λ base. Typed base no_qualifiers (specified_flags no_flags specifiers)) (specified_base specifiers)

-- Declarators (6.7.6)

-- a pointer to a type
abbrev pub pointer_to : TypeTree → TypeTree
pointer_to target = Typed (PointerTree target) no_qualifiers no_flags

-- the type behind one part of a declarator (6.7.6.1)
abbrev pub derived_by : NodeKind → Option TypeTree → Option TypeTree
derived_by PointerDeclarator type_ = option_map pointer_to type_
derived_by kind type_ = None

-- the type behind all parts of a declarator
abbrev pub declared_by : Option TypeTree → SyntaxParts → Option TypeTree
declared_by type_ NoParts = type_
declared_by type_ (Part role (Node kind token name number parts) others) = declared_by (derived_by kind type_) others

-- what a node behind the specifiers binds
abbrev pub declarator_binding : NodeKind → List ℕ → Option TypeTree → List Binding
declarator_binding Declarator name object = record { name = name; object = object } ∷ []
declarator_binding kind name object = []

-- what all nodes behind the specifiers bind
abbrev pub declarator_bindings : Option TypeTree → SyntaxParts → List Binding
declarator_bindings specified NoParts = []
declarator_bindings specified (Part role (Node kind token name number parts) others) =
    declarator_binding kind name (declared_by specified parts) ++ declarator_bindings specified others

-- Declarations and functions (6.7, 6.9.1)

-- what stands behind specifiers, if the first part has this kind
abbrev pub bindings_behind : NodeKind → SyntaxParts → SyntaxParts → List Binding
bindings_behind Specifiers specifiers declarators = declarator_bindings (specified_type specifiers) declarators
bindings_behind kind specifiers declarators = []

-- what the parts of a declaration or a function bind
abbrev pub parts_bindings : SyntaxParts → List Binding
parts_bindings NoParts = []
parts_bindings (Part role (Node kind token name number specifiers) declarators) = bindings_behind kind specifiers declarators

-- what a node of this kind binds: one that is no declaration and no function binds nothing
abbrev pub kind_bindings : NodeKind → SyntaxParts → List Binding
kind_bindings Declaration parts = parts_bindings parts
kind_bindings FunctionDefinition parts = parts_bindings parts
kind_bindings kind parts = []

-- the names that a node declares
abbrev pub bindings_of : SyntaxTree → List Binding
bindings_of (Node kind token name number parts) = kind_bindings kind parts

-- Scopes: what is bound so far, in order

-- the type of the object that a name stands for
abbrev pub type_in : List Binding → List ℕ → Option TypeTree
type_in [] name = None
type_in (binding ∷ scope) name = if bytes_eq binding.name name then binding.object else type_in scope name
