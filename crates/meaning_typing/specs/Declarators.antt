-- What a declarator declares (C11 6.7.6): its parts stand from the specified type outwards, and each makes one type of
-- another.
use Rattle.std.specs.Prelude.{ℕ, ◌+◌, ◌-◌, ℤ, pos, negsuc, Bool, true, false, ◌&&◌, ◌||◌, not, List, [], ◌∷◌, ◌++◌, length, Option, Some, None, option_map, Result, Ok, Err, if◌then◌else◌}
use Rattle.std.specs.Option.{option_and_then}
use Rattle.vocabulary.specs.declared.node_kind.NodeKind.{NodeKind}
use Rattle.vocabulary.specs.declared.node_kind.NodeKind.TheVariants as kinds
use Rattle.meaning_types.specs.Types.{TypeTree, Typed, VoidTree, ArrayTree, FunctionTree, TypeTrees, NoTypes, MoreTypes, no_qualifiers, no_flags, has_flag, pointer_to, decayed}
use Rattle.meaning_types.specs.Marks.{marked}
use Rattle.meaning_layout.specs.Layouts.{LayoutFault, Incomplete, TooLarge}
use Rattle.meaning_layout.specs.Sizes.{Extent, Told, extent_of}
use Rattle.meaning_typing.specs.Units.{UnitNodes, node_at, kind_at, children_at, child_at, children_from}
use Rattle.meaning_typing.specs.Surroundings.{Surrounding}
use Rattle.meaning_typing.specs.Facts.{Fact, Unknown, Expression, Specified, Declared, NamedType, SpecifiedFact, DeclaredFact, StorageFact, fact_at}
use Rattle.meaning_typing.specs.Specifiers.{Marks, marks_among, plain_type, with_marks, words_of, type_named}

-- Around a declarator

abbrev pub specified_by : Fact → Option SpecifiedFact
specified_by (Specified specifiers) = Some specifiers
specified_by fact = None

-- what the specifiers of a declaration, a function or a parameter say: they are its first part
abbrev pub specifiers_of : UnitNodes → List Fact → (parent : ℕ) → Option SpecifiedFact
specifiers_of nodes facts parent = specified_by (fact_at facts (child_at nodes parent 0))

-- lists of attributes before a declarator behind the first one are its own
abbrev pub leading_lists : NodeKind → (children : List ℕ) → List ℕ
leading_lists kinds.LeadingAttributes children = children
leading_lists kind children = []

abbrev pub lists_before : UnitNodes → (parent place : ℕ) → List ℕ
lists_before nodes parent place =
    leading_lists (kind_at nodes (child_at nodes parent (place - 1))) (children_at nodes (child_at nodes parent (place - 1)))

-- and so are those directly behind it
abbrev pub list_before : NodeKind → (handle : ℕ) → (others : List ℕ) → List ℕ
list_before kinds.AttributeList handle others = handle ∷ others
list_before kind handle others = []

abbrev pub lists_in_front : UnitNodes → (handles : List ℕ) → List ℕ
lists_in_front nodes [] = []
lists_in_front nodes (handle ∷ handles) = list_before (kind_at nodes handle) handle (lists_in_front nodes handles)

abbrev pub lists_behind : UnitNodes → (parent place : ℕ) → List ℕ
lists_behind nodes parent place = lists_in_front nodes (children_from nodes parent (place + 1))

abbrev pub own_marks : UnitNodes → (parent place : ℕ) → Marks
own_marks nodes parent place = marks_among nodes (lists_before nodes parent place ++ lists_behind nodes parent place)

-- Parts

-- the qualifiers of a pointer itself (6.7.6.1 p1), and what its attributes add
abbrev pub pointer_type : UnitNodes → (identity : ℕ) → List ℕ → TypeTree → TypeTree
pointer_type nodes identity handles target =
    with_marks identity (marks_among nodes handles) (marked (words_of nodes handles).qualifiers no_flags (pointer_to target))

abbrev pub array_type : TypeTree → Option ℕ → TypeTree
array_type element length = plain_type (ArrayTree element length)

-- the length that an expression gives: a constant integer that isn't below 0 (6.7.6.2 p1)
abbrev pub length_of_number : Option ℤ → Option ℕ
length_of_number (Some (pos number)) = Some number
length_of_number (Some (negsuc number)) = None
length_of_number None = None

abbrev pub length_said : Fact → Option ℕ
length_said (Expression expression) = length_of_number expression.constant
length_said fact = None

-- with no size between the brackets the length is unknown (6.7.6.2 p4)
abbrev pub array_of : List Fact → (children : List ℕ) → TypeTree → Option TypeTree
array_of facts [] element = Some (array_type element None)
array_of facts (size ∷ others) element = option_map (λ length. array_type element (Some length)) (length_said (fact_at facts size))

-- the type of a parameter: an array or a function becomes a pointer, and its own qualifiers are dropped (6.7.6.3 p7, p8, p15)
abbrev pub without_qualifiers : TypeTree → TypeTree
without_qualifiers (Typed base qualifiers flags) = Typed base no_qualifiers flags

abbrev pub adjusted : TypeTree → TypeTree
adjusted type_ = without_qualifiers (decayed type_)

-- the parameters of a list, if the type of each is known
abbrev pub more_types : Option TypeTree → Option TypeTrees → Option TypeTrees
more_types (Some type_) (Some types) = Some (MoreTypes type_ types)
more_types type_ types = None

-- `...` is none of them
abbrev pub with_parameter : NodeKind → Fact → Option TypeTrees → Option TypeTrees
with_parameter kinds.Ellipsis fact types = types
with_parameter kind fact types = more_types (type_named fact) types

abbrev pub parameter_types : UnitNodes → List Fact → (handles : List ℕ) → Option TypeTrees
parameter_types nodes facts [] = Some NoTypes
parameter_types nodes facts (handle ∷ handles) = with_parameter (kind_at nodes handle) (fact_at facts handle) (parameter_types nodes facts handles)

abbrev pub is_ellipsis : NodeKind → Bool
is_ellipsis kinds.Ellipsis = true
is_ellipsis kind = false

abbrev pub is_variadic : UnitNodes → (handles : List ℕ) → Bool
is_variadic nodes [] = false
is_variadic nodes (handle ∷ handles) = is_ellipsis (kind_at nodes handle) || is_variadic nodes handles

-- `void` alone, without a name, is no parameter (6.7.6.3 p10)
abbrev pub is_plain_void : TypeTree → Bool
is_plain_void (Typed VoidTree qualifiers flags) = not (qualifiers.is_const || qualifiers.is_volatile) && not (has_flag flags)
is_plain_void (Typed base qualifiers flags) = false

-- a parameter has a declarator where it has a name or parts of one
abbrev pub is_declarator : NodeKind → Bool
is_declarator kinds.Declarator = true
is_declarator kind = false

abbrev pub has_declarator : UnitNodes → (parameter : ℕ) → Bool
has_declarator nodes parameter = is_declarator (kind_at nodes (child_at nodes parameter 1))

-- the type of a parameter without one before it is adjusted: its specifiers and the attributes behind them say it
abbrev pub nameless_type : UnitNodes → (parameter : ℕ) → SpecifiedFact → TypeTree
nameless_type nodes parameter specifiers =
    with_marks (node_at nodes parameter).token (marks_among nodes (lists_behind nodes parameter 0)) specifiers.type_

abbrev pub is_void_parameter : UnitNodes → (parameter : ℕ) → Option SpecifiedFact → Bool
is_void_parameter nodes parameter None = false
is_void_parameter nodes parameter (Some specifiers) = not (has_declarator nodes parameter) && is_plain_void (nameless_type nodes parameter specifiers)

abbrev pub is_void_list : UnitNodes → List Fact → (handles : List ℕ) → Bool
is_void_list nodes facts (handle ∷ []) = is_void_parameter nodes handle (specifiers_of nodes facts handle)
is_void_list nodes facts handles = false

abbrev pub function_type : TypeTree → (variadic : Bool) → TypeTrees → TypeTree
function_type result variadic parameters = plain_type (FunctionTree result parameters variadic)

-- a function with this result; `()` is `(void)`: our choice
abbrev pub function_of : UnitNodes → List Fact → (handles : List ℕ) → TypeTree → Option TypeTree
function_of nodes facts handles result =
    if is_void_list nodes facts handles then Some (function_type result false NoTypes)
    else option_map (function_type result (is_variadic nodes handles)) (parameter_types nodes facts handles)

-- one part, in a declaration that begins at this token
abbrev pub derived : UnitNodes → List Fact → (identity : ℕ) → NodeKind → (children : List ℕ) → TypeTree → Option TypeTree
derived nodes facts identity kinds.PointerDeclarator children type_ = Some (pointer_type nodes identity children type_)
derived nodes facts identity kinds.ArrayDeclarator children type_ = array_of facts children type_
derived nodes facts identity kinds.FunctionDeclarator children type_ = function_of nodes facts children type_
derived nodes facts identity kinds.ParenthesizedAttributes children type_ = Some (with_marks identity (marks_among nodes children) type_)
derived nodes facts identity kind children type_ = None

-- all of them
abbrev pub derived_by : UnitNodes → List Fact → (identity : ℕ) → (parts : List ℕ) → TypeTree → Option TypeTree
derived_by nodes facts identity [] type_ = Some type_
derived_by nodes facts identity (part ∷ parts) type_ =
    option_and_then (derived_by nodes facts identity parts) (derived nodes facts identity (kind_at nodes part) (children_at nodes part) type_)

-- Declarations

-- the type of a parameter
abbrev pub adjusted_in : NodeKind → TypeTree → TypeTree
adjusted_in kinds.Parameter type_ = adjusted type_
adjusted_in kind type_ = type_

-- the type that a declarator of these parts gives at this place below a declaration, a function or a parameter
abbrev pub declared_type : UnitNodes → List Fact → (parent place : ℕ) → (parts : List ℕ) → TypeTree → Option TypeTree
declared_type nodes facts parent place parts type_ =
    option_map (λ derived. adjusted_in (kind_at nodes parent) (with_marks (node_at nodes parent).token (own_marks nodes parent place) derived))
    (derived_by nodes facts (node_at nodes parent).token parts type_)

-- Linkage and storage (6.2.2, 6.2.4)

abbrev pub is_function : TypeTree → Bool
is_function (Typed (FunctionTree result parameters variadic) qualifiers flags) = true
is_function (Typed base qualifiers flags) = false

abbrev pub is_unit : NodeKind → Bool
is_unit kinds.TranslationUnit = true
is_unit kind = false

-- a declaration or a function; a parameter and a name of a type are neither
abbrev pub declares_with_linkage : NodeKind → Bool
declares_with_linkage kinds.Declaration = true
declares_with_linkage kinds.FunctionDefinition = true
declares_with_linkage kind = false

-- at file scope, with `extern`, and as a function (6.2.2 p3 to p6)
abbrev pub links : (in_file : Bool) → StorageFact → TypeTree → Bool
links in_file storage type_ = not storage.is_typedef && (in_file || storage.is_extern || is_function type_)

abbrev pub in_file : UnitNodes → Surrounding → Bool
in_file nodes surrounding = is_unit (kind_at nodes surrounding.around.scope)

abbrev pub links_in : UnitNodes → Surrounding → StorageFact → TypeTree → Bool
links_in nodes surrounding storage type_ =
    declares_with_linkage (kind_at nodes surrounding.parent) && links (in_file nodes surrounding) storage type_

-- what a declarator with this name and this type declares behind these specifiers
abbrev pub declared : UnitNodes → Surrounding → (name : List ℕ) → StorageFact → TypeTree → DeclaredFact
declared nodes surrounding name storage type_ =
    record {
      name = name;
      type_ = type_;
      is_typedef = storage.is_typedef;
      has_linkage = links_in nodes surrounding storage type_;
      is_static = storage.is_static || links_in nodes surrounding storage type_;
      is_register = storage.is_register;
    }

abbrev pub declared_if : UnitNodes → Surrounding → (name : List ℕ) → StorageFact → Option TypeTree → Fact
declared_if nodes surrounding name storage None = Unknown
declared_if nodes surrounding name storage (Some type_) = Declared (declared nodes surrounding name storage type_)

abbrev pub declarator_fact : UnitNodes → Surrounding → List Fact → (handle : ℕ) → Option SpecifiedFact → Fact
declarator_fact nodes surrounding facts handle None = Unknown
declarator_fact nodes surrounding facts handle (Some specifiers) =
    declared_if nodes surrounding (node_at nodes handle).name specifiers.storage
    (declared_type nodes facts surrounding.parent surrounding.place (children_at nodes handle) specifiers.type_)

-- Parameters

abbrev pub type_declared : Fact → Option TypeTree
type_declared (Declared declaration) = Some declaration.type_
type_declared fact = None

abbrev pub parameter_type : UnitNodes → List Fact → (parameter : ℕ) → Option TypeTree
parameter_type nodes facts parameter =
    if has_declarator nodes parameter then type_declared (fact_at facts (child_at nodes parameter 1))
    else option_map (λ specifiers. adjusted (nameless_type nodes parameter specifiers)) (specifiers_of nodes facts parameter)

abbrev pub named_if : Option TypeTree → Fact
named_if None = Unknown
named_if (Some type_) = NamedType type_

abbrev pub parameter_fact : UnitNodes → List Fact → (parameter : ℕ) → Fact
parameter_fact nodes facts parameter = named_if (parameter_type nodes facts parameter)

-- Names of types (6.7.7), and `typeof`

abbrev pub named_type : UnitNodes → List Fact → (name : ℕ) → Option TypeTree
named_type nodes facts name =
    if has_declarator nodes name then type_declared (fact_at facts (child_at nodes name 1))
    else option_map (λ specifiers. specifiers.type_) (specifiers_of nodes facts name)

-- that of a place as it is declared, qualifiers and flags with it: nothing is loaded (our choice)
abbrev pub type_designated : Fact → Option TypeTree
type_designated (Expression expression) = Some expression.type_
type_designated fact = None

-- The limit of the size of an object

-- no aggregate was told
abbrev pub nothing_told : Told
nothing_told number is_union = None

abbrev pub is_too_large : Result Extent LayoutFault → Bool
is_too_large (Ok extent) = false
is_too_large (Err Incomplete) = false
is_too_large (Err TooLarge) = true

abbrev pub is_too_large_type : Option TypeTree → Bool
is_too_large_type None = false
is_too_large_type (Some type_) = is_too_large (extent_of nothing_told type_)

abbrev pub is_array_part : NodeKind → Bool
is_array_part kinds.ArrayDeclarator = true
is_array_part kind = false

-- the tokens of the array parts whose type is larger than an object may be
abbrev pub large_parts : UnitNodes → List Fact → (identity : ℕ) → (parts : List ℕ) → Option TypeTree → List ℕ
large_parts nodes facts identity [] type_ = []
large_parts nodes facts identity (part ∷ parts) None = []
large_parts nodes facts identity (part ∷ parts) (Some type_) =
    (if is_array_part (kind_at nodes part) && is_too_large_type (derived nodes facts identity (kind_at nodes part) (children_at nodes part) type_)
    then (node_at nodes part).token ∷ []
    else [])
    ++ large_parts nodes facts identity parts (derived nodes facts identity (kind_at nodes part) (children_at nodes part) type_)

abbrev pub large_in : UnitNodes → List Fact → (parent : ℕ) → (parts : List ℕ) → Option SpecifiedFact → List ℕ
large_in nodes facts parent parts None = []
large_in nodes facts parent parts (Some specifiers) = large_parts nodes facts (node_at nodes parent).token parts (Some specifiers.type_)
