-- Declarators and declarations (C11 6.7, 6.7.6, 6.9): what their parts break, where a complete type is asked, and definitions.
use Rattle.std.specs.Prelude.{ℕ, ℤ, zero, suc, ◌+◌, pos, negsuc, nat_eq, Bool, true, false, ◌&&◌, ◌||◌, not, List, [], ◌∷◌, ◌++◌, length, Option, Some, None, if◌then◌else◌}
use Rattle.std.specs.List.{flat_map, list_any}
use Rattle.vocabulary.specs.declared.error_kind.ErrorKind.TheVariants.{BadElementType, BadResultType, DefinedTwice, IncompleteType, NegativeArraySize, VariableLengthArray}
use Rattle.vocabulary.specs.declared.node_kind.NodeKind.{NodeKind}
use Rattle.vocabulary.specs.declared.node_kind.NodeKind.TheVariants as kinds
use Rattle.vocabulary.specs.declared.rule.RuleCode.TheVariants.{S1, S2, S6}
use Rattle.meaning_types.specs.Types.{TypeTree, Typed, ArrayTree, FunctionTree}
use Rattle.meaning_types.specs.Spaces.{is_void}
use Rattle.meaning_layout.specs.Sizes.{Told, extent_of}
use Rattle.meaning_operands.specs.Failures.{Failure, Broken}
use Rattle.meaning_operands.specs.Operands.{is_integer}
use Rattle.meaning_typing.specs.Units.{UnitNodes, node_at, kind_at, children_at, child_at, children_from}
use Rattle.meaning_typing.specs.Surroundings.{Surrounding, surrounding_at}
use Rattle.meaning_typing.specs.Facts.{Fact, Unknown, Declared, Expression, DeclaredFact, SpecifiedFact, fact_at, type_of_value}
use Rattle.meaning_typing.specs.Specifiers.{attributes_among}
use Rattle.meaning_typing.specs.Declarators.{derived, in_file, is_array_part, is_declarator, is_function, is_too_large, is_void_list, lists_before, lists_behind, specifiers_of}
use Rattle.meaning_typing.specs.Names.{links_name, type_of_name}
use Rattle.meaning_typing.specs.Rows.{breaks_at, breaks_named, fails_with, void_used}
use Rattle.meaning_typing.specs.Operators.{has_no_size}
use Rattle.meaning_typing.specs.Tags.{bitwise_broken, is_any_below}
use Rattle.meaning_typing.specs.MemberRows.{is_no_object, is_unbounded}

-- Sizes of arrays (6.7.6.2 p1): an integer constant that isn't below 0, at its own token

abbrev pub number_broken : (token : ℕ) → Option ℤ → List Broken
number_broken token None = breaks_at VariableLengthArray token
number_broken token (Some (pos number)) = []
number_broken token (Some (negsuc number)) = breaks_at NegativeArraySize token

abbrev pub size_broken : (token : ℕ) → Fact → List Broken
size_broken token (Expression size) =
    void_used token size ++ (if is_integer (type_of_value size) then number_broken token size.constant else breaks_at VariableLengthArray token)
size_broken token fact = []

abbrev pub sizes_broken : UnitNodes → List Fact → (children : List ℕ) → List Broken
sizes_broken nodes facts children = flat_map (λ child. size_broken (node_at nodes child).token (fact_at facts child)) children

-- Parts, from the specified type outwards

-- an element has a size (6.2.5 p20), and a result is neither an array nor a function (6.7.6.3 p1)
abbrev pub element_type_broken : Told → (token : ℕ) → TypeTree → List Broken
element_type_broken told token type_ = if is_no_object told type_ then breaks_at BadElementType token else []

abbrev pub is_bad_result : TypeTree → Bool
is_bad_result (Typed (ArrayTree element length) _ _) = true
is_bad_result (Typed (FunctionTree result parameters variadic) _ _) = true
is_bad_result (Typed base _ _) = false

abbrev pub result_type_broken : (token : ℕ) → TypeTree → List Broken
result_type_broken token type_ = if is_bad_result type_ then breaks_at BadResultType token else []

-- a part that makes another type of this one
abbrev pub part_broken : Told → UnitNodes → (part : ℕ) → NodeKind → TypeTree → (made : TypeTree) → List Broken
part_broken told nodes part kinds.PointerDeclarator type_ made = bitwise_broken nodes (attributes_among nodes (children_at nodes part)) made
part_broken told nodes part kinds.ArrayDeclarator type_ made = element_type_broken told (node_at nodes part).token type_
part_broken told nodes part kinds.FunctionDeclarator type_ made = result_type_broken (node_at nodes part).token type_
part_broken told nodes part kinds.ParenthesizedAttributes type_ made = bitwise_broken nodes (attributes_among nodes (children_at nodes part)) type_
part_broken told nodes part kind type_ made = []

-- where a part makes no type, an array without its length or a function without its parameters stands in its place
abbrev pub made_or : TypeTree → Option TypeTree → TypeTree
made_or type_ None = type_
made_or type_ (Some made) = made

-- what one part breaks behind this type, in a declaration that begins at this token
abbrev pub one_part_broken : Told → UnitNodes → List Fact → (identity part : ℕ) → TypeTree → List Broken
one_part_broken told nodes facts identity part type_ =
    part_broken told nodes part (kind_at nodes part) type_ (made_or type_ (derived nodes facts identity (kind_at nodes part) (children_at nodes part) type_))

-- behind what is broken there is no type
abbrev pub type_unless : List Broken → Option TypeTree → Option TypeTree
type_unless [] type_ = type_
type_unless (broken ∷ others) type_ = None

abbrev pub made_by_part : Told → UnitNodes → List Fact → (identity part : ℕ) → TypeTree → Option TypeTree
made_by_part told nodes facts identity part type_ =
    type_unless (one_part_broken told nodes facts identity part type_)
    (derived nodes facts identity (kind_at nodes part) (children_at nodes part) type_)

abbrev pub parts_broken : Told → UnitNodes → List Fact → (identity : ℕ) → (parts : List ℕ) → Option TypeTree → List Broken
parts_broken told nodes facts identity [] type_ = []
parts_broken told nodes facts identity (part ∷ parts) None = []
parts_broken told nodes facts identity (part ∷ parts) (Some type_) =
    one_part_broken told nodes facts identity part type_
    ++ parts_broken told nodes facts identity parts (made_by_part told nodes facts identity part type_)

-- the type that all of them make
abbrev pub made_by_parts : Told → UnitNodes → List Fact → (identity : ℕ) → (parts : List ℕ) → Option TypeTree → Option TypeTree
made_by_parts told nodes facts identity [] type_ = type_
made_by_parts told nodes facts identity (part ∷ parts) None = None
made_by_parts told nodes facts identity (part ∷ parts) (Some type_) =
    made_by_parts told nodes facts identity parts (made_by_part told nodes facts identity part type_)

-- what stands before and behind the declarator is said of the type that its parts make
abbrev pub own_bitwise_broken : UnitNodes → (parent place : ℕ) → Option TypeTree → List Broken
own_bitwise_broken nodes parent place None = []
own_bitwise_broken nodes parent place (Some type_) =
    bitwise_broken nodes (attributes_among nodes (lists_before nodes parent place ++ lists_behind nodes parent place)) type_

abbrev pub declarator_parts_broken : Told → UnitNodes → List Fact → (handle : ℕ) → Surrounding → Option SpecifiedFact → List Broken
declarator_parts_broken told nodes facts handle surrounding None = []
declarator_parts_broken told nodes facts handle surrounding (Some specifiers) =
    parts_broken told nodes facts (node_at nodes surrounding.parent).token (children_at nodes handle) (Some specifiers.type_)
    ++ own_bitwise_broken nodes surrounding.parent surrounding.place
    (made_by_parts told nodes facts (node_at nodes surrounding.parent).token (children_at nodes handle) (Some specifiers.type_))

-- array parts whose type is larger than an object may be
abbrev pub is_large_type : Told → Option TypeTree → Bool
is_large_type told None = false
is_large_type told (Some type_) = is_too_large (extent_of told type_)

abbrev pub large_parts_of : Told → UnitNodes → List Fact → (identity : ℕ) → (parts : List ℕ) → Option TypeTree → List ℕ
large_parts_of told nodes facts identity [] type_ = []
large_parts_of told nodes facts identity (part ∷ parts) None = []
large_parts_of told nodes facts identity (part ∷ parts) (Some type_) =
    (if is_array_part (kind_at nodes part) && is_large_type told (made_by_part told nodes facts identity part type_)
    then (node_at nodes part).token ∷ []
    else [])
    ++ large_parts_of told nodes facts identity parts (made_by_part told nodes facts identity part type_)

-- `()` is taken as `(void)` (our choice)
abbrev pub empty_list_failures : (token : ℕ) → (children : List ℕ) → List Failure
empty_list_failures token [] = fails_with S6 token 0 None None [] ∷ []
empty_list_failures token (child ∷ children) = []

-- Definitions (6.9)

abbrev pub is_initializer : NodeKind → Bool
is_initializer kinds.Initializer = true
is_initializer kind = false

abbrev pub initializes : NodeKind → (otherwise : Bool) → Bool
initializes kinds.AttributeList otherwise = otherwise
initializes kind otherwise = is_initializer kind

-- the first part that is no list of attributes
abbrev pub begins_with_initializer : UnitNodes → List ℕ → Bool
begins_with_initializer nodes [] = false
begins_with_initializer nodes (handle ∷ handles) = initializes (kind_at nodes handle) (begins_with_initializer nodes handles)

abbrev pub has_initializer : UnitNodes → Surrounding → Bool
has_initializer nodes surrounding = begins_with_initializer nodes (children_from nodes surrounding.parent (surrounding.place + 1))

abbrev pub is_definition_kind : NodeKind → Bool
is_definition_kind kinds.FunctionDefinition = true
is_definition_kind kind = false

abbrev pub is_declaration_kind : NodeKind → Bool
is_declaration_kind kinds.Declaration = true
is_declaration_kind kind = false

-- it has a body or an initializer
abbrev pub defines : UnitNodes → Surrounding → Bool
defines nodes surrounding =
    is_definition_kind (kind_at nodes surrounding.parent)
    || (is_declaration_kind (kind_at nodes surrounding.parent) && has_initializer nodes surrounding)

-- Complete types of objects (6.7 p7, 6.9.2 p2), at the name

abbrev pub incomplete_name : (token : ℕ) → Bool → List Broken
incomplete_name token is_incomplete = if is_incomplete then breaks_at IncompleteType token else []

-- of an object without linkage at the end of its declarator, where an initializer may say the length
abbrev pub object_broken : Told → (token : ℕ) → (is_initialized : Bool) → DeclaredFact → List Broken
object_broken told token is_initialized declaration =
    incomplete_name token
    (not declaration.is_typedef && (not (declaration.has_linkage && not is_initialized)
    && (is_no_object told declaration.type_ && not (is_initialized && is_unbounded declaration.type_))))

-- of the result of a function that is defined: void is none (6.9.1 p3)
abbrev pub defined_result_broken : Told → (token : ℕ) → TypeTree → List Broken
defined_result_broken told token (Typed (FunctionTree result parameters variadic) _ _) =
    incomplete_name token (not (is_void result) && has_no_size told result)
defined_result_broken told token type_ = []

abbrev pub declared_object_broken : Told → UnitNodes → (token : ℕ) → Surrounding → NodeKind → DeclaredFact → List Broken
declared_object_broken told nodes token surrounding kinds.Declaration declaration = object_broken told token (has_initializer nodes surrounding) declaration
declared_object_broken told nodes token surrounding kinds.FunctionDefinition declaration = defined_result_broken told token declaration.type_
declared_object_broken told nodes token surrounding kind declaration = []

-- at the end of the unit: an object at file scope that neither says `extern` nor has an initializer; a length may be missing
abbrev pub is_extern_said : Option SpecifiedFact → Bool
is_extern_said None = false
is_extern_said (Some specifiers) = specifiers.storage.is_extern

abbrev pub is_tentative : UnitNodes → List Fact → Surrounding → DeclaredFact → Bool
is_tentative nodes facts surrounding declaration =
    is_declaration_kind (kind_at nodes surrounding.parent)
    && (in_file nodes surrounding && (not declaration.is_typedef && (not (is_function declaration.type_)
    && (not (has_initializer nodes surrounding) && not (is_extern_said (specifiers_of nodes facts surrounding.parent))))))

-- one that is declared behind a function of its name names that function, and so defines no object (6.2.2 p2, 6.9.2 p2)
abbrev pub tentative_broken : Told → (token : ℕ) → TypeTree → List Broken
tentative_broken told token type_ = incomplete_name token (not (is_function type_) && (is_no_object told type_ && not (is_unbounded type_)))

abbrev pub tentative_of : Told → UnitNodes → List Fact → (token : ℕ) → Surrounding → Fact → List Broken
tentative_of told nodes facts token surrounding (Declared declaration) =
    if is_tentative nodes facts surrounding declaration then tentative_broken told token (type_of_name facts declaration) else []
tentative_of told nodes facts token surrounding fact = []

-- an initializer has what its declarator declares, and is none
abbrev pub fact_of_declarator : UnitNodes → List Fact → (handle : ℕ) → Fact
fact_of_declarator nodes facts handle = if is_declarator (kind_at nodes handle) then fact_at facts handle else Unknown

-- of the first so many nodes
abbrev pub unit_end_broken : Told → UnitNodes → List Surrounding → List Fact → (count : ℕ) → List Broken
unit_end_broken told nodes surroundings facts zero = []
unit_end_broken told nodes surroundings facts (suc count) =
    unit_end_broken told nodes surroundings facts count
    ++ tentative_of told nodes facts (node_at nodes count).token (surrounding_at surroundings count) (fact_of_declarator nodes facts count)

-- Parameters

-- attributes in parentheses around a part of a declarator leave it what it is without them
abbrev pub are_around_part : NodeKind → Bool
are_around_part kinds.ParenthesizedAttributes = true
are_around_part kind = false

-- the part directly at the name, the last one
abbrev pub part_at_name : UnitNodes → (parts : List ℕ) → (otherwise : ℕ) → ℕ
part_at_name nodes [] otherwise = otherwise
part_at_name nodes (part ∷ parts) otherwise = part_at_name nodes parts (if are_around_part (kind_at nodes part) then otherwise else part)

-- the list directly behind the name of a function that is defined (6.9.1 p5)
abbrev pub is_list_of_body : UnitNodes → List Surrounding → (list : ℕ) → Bool
is_list_of_body nodes surroundings list =
    is_definition_kind (kind_at nodes (surrounding_at surroundings (surrounding_at surroundings list).parent).parent)
    && nat_eq (part_at_name nodes (children_at nodes (surrounding_at surroundings list).parent) (length nodes)) list

abbrev pub parameter_token : UnitNodes → (parameter : ℕ) → NodeKind → (declarator : ℕ) → ℕ
parameter_token nodes parameter kinds.Declarator declarator = (node_at nodes declarator).token
parameter_token nodes parameter kind declarator = (node_at nodes parameter).token

-- a void one is none, but where it stands alone without a name (6.7.6.3 p10)
abbrev pub void_parameter_broken : (token : ℕ) → (is_alone : Bool) → Option TypeTree → List Broken
void_parameter_broken token is_alone None = []
void_parameter_broken token is_alone (Some type_) = incomplete_name token (is_void type_ && not is_alone)

-- those of a function that is defined have complete types (6.7.6.3 p4)
abbrev pub body_parameter_broken : Told → (token : ℕ) → (of_body is_alone : Bool) → Option TypeTree → List Broken
body_parameter_broken told token of_body is_alone None = []
body_parameter_broken told token of_body is_alone (Some type_) =
    incomplete_name token (of_body && (not (is_void type_) && has_no_size told type_))

-- by the adjusted type of a parameter
abbrev pub parameter_broken : Told → (token : ℕ) → (of_body is_alone : Bool) → Option TypeTree → List Broken
parameter_broken told token of_body is_alone type_ =
    void_parameter_broken token is_alone type_ ++ body_parameter_broken told token of_body is_alone type_

abbrev pub parameter_node_broken : Told → UnitNodes → List Surrounding → List Fact → (parameter : ℕ) → Option TypeTree → List Broken
parameter_node_broken told nodes surroundings facts parameter type_ =
    parameter_broken told (parameter_token nodes parameter (kind_at nodes (child_at nodes parameter 1)) (child_at nodes parameter 1))
    (is_list_of_body nodes surroundings (surrounding_at surroundings parameter).parent)
    (is_void_list nodes facts (children_at nodes (surrounding_at surroundings parameter).parent))
    type_

-- Two definitions (6.9 p3, p5)

abbrev pub is_earlier_definition : UnitNodes → List Surrounding → List Fact → List ℕ → (other : ℕ) → Fact → Bool
is_earlier_definition nodes surroundings facts name other (Declared declaration) =
    links_name name declaration && defines nodes (surrounding_at surroundings other)
is_earlier_definition nodes surroundings facts name other fact = false

abbrev pub definition_broken : UnitNodes → List Surrounding → List Fact → (handle : ℕ) → DeclaredFact → List Broken
definition_broken nodes surroundings facts handle declaration =
    if declaration.has_linkage && (defines nodes (surrounding_at surroundings handle)
    && is_any_below (λ other. is_earlier_definition nodes surroundings facts declaration.name other (fact_at facts other)) handle)
    then breaks_named DefinedTwice (node_at nodes handle).token declaration.name
    else []

-- by what is known of its declarator
abbrev pub defined_name_broken : UnitNodes → List Surrounding → List Fact → (handle : ℕ) → Fact → List Broken
defined_name_broken nodes surroundings facts handle (Declared declaration) = definition_broken nodes surroundings facts handle declaration
defined_name_broken nodes surroundings facts handle fact = []

-- Definitions that weren't declared: at file scope, not static

abbrev pub is_linked_before : List ℕ → Fact → Bool
is_linked_before name (Declared declaration) = links_name name declaration
is_linked_before name fact = false

abbrev pub is_declared_before : List Fact → List ℕ → Bool
is_declared_before facts name = list_any (λ fact. is_linked_before name fact) facts

abbrev pub is_static_said : Option SpecifiedFact → Bool
is_static_said None = false
is_static_said (Some specifiers) = specifiers.storage.is_static

abbrev pub is_new_definition : UnitNodes → List Fact → Surrounding → DeclaredFact → Bool
is_new_definition nodes facts surrounding declaration =
    in_file nodes surrounding
    && (declaration.has_linkage && (not (is_static_said (specifiers_of nodes facts surrounding.parent))
    && ((defines nodes surrounding || is_tentative nodes facts surrounding declaration) && not (is_declared_before facts declaration.name))))

abbrev pub undeclared_failures : UnitNodes → List Fact → (token : ℕ) → Surrounding → DeclaredFact → List Failure
undeclared_failures nodes facts token surrounding declaration =
    if is_new_definition nodes facts surrounding declaration then fails_with S1 token 0 None None declaration.name ∷ [] else []

-- Names that hide others (6.2.1 p4): a declarator or an enumerator has 0 as its number, or the handle of what it hides and one

abbrev pub links_same : List ℕ → Fact → Bool
links_same name (Declared declaration) = links_name name declaration
links_same name fact = false

-- one with linkage hides none that is of the same object or function
abbrev pub hides_same : List Fact → (number : ℕ) → DeclaredFact → Bool
hides_same facts zero declaration = false
hides_same facts (suc hidden) declaration = declaration.has_linkage && links_same declaration.name (fact_at facts hidden)

abbrev pub hiding_failures : (token number : ℕ) → List ℕ → (is_counted : Bool) → List Failure
hiding_failures token zero name is_counted = []
hiding_failures token (suc hidden) name is_counted = if is_counted then fails_with S2 token 0 None None name ∷ [] else []

-- a name of a block, or a parameter of a body; those of other lists hide none
abbrev pub is_block_name : UnitNodes → List Surrounding → Surrounding → NodeKind → Bool
is_block_name nodes surroundings surrounding kinds.Parameter = is_list_of_body nodes surroundings (surrounding_at surroundings surrounding.parent).parent
is_block_name nodes surroundings surrounding kinds.Declaration = not (in_file nodes surrounding)
is_block_name nodes surroundings surrounding kind = false

abbrev pub hiding_declarator_failures : UnitNodes → List Surrounding → List Fact → (handle : ℕ) → Surrounding → DeclaredFact → List Failure
hiding_declarator_failures nodes surroundings facts handle surrounding declaration =
    hiding_failures (node_at nodes handle).token (node_at nodes handle).number declaration.name
    (is_block_name nodes surroundings surrounding (kind_at nodes surrounding.parent) && not (hides_same facts (node_at nodes handle).number declaration))

-- an enumerator of a block
abbrev pub hiding_enumerator_failures : UnitNodes → (handle : ℕ) → Surrounding → List Failure
hiding_enumerator_failures nodes handle surrounding =
    hiding_failures (node_at nodes handle).token (node_at nodes handle).number (node_at nodes handle).name (not (in_file nodes surrounding))
