-- How a type is spelled in a warning: from the inside out, parts parted by one space.
use Rattle.std.specs.Prelude.{ℕ, List, [], ◌++◌, codes, Bool, true, false, Option, Some, None, if◌then◌else◌}
use Rattle.std.specs.Fmt.{decimal}
use Rattle.vocabulary.specs.declared.int_kind.IntKind.{IntKind}
use Rattle.vocabulary.specs.declared.int_kind.IntKind.TheVariants.{Bool as BoolKind, Char, SChar, UChar, Short, UShort, Int, UInt, Long, ULong, LLong, ULLong}
use Rattle.meaning_types.specs.Types.{Space, NoSpace, NumberedSpace, NamedSpace, Qualifiers, Flags, TypeTree, Typed, BaseTree, VoidTree, IntegerTree, RestrictedTree, PointerTree, ArrayTree, FunctionTree, AggregateTree, TypeTrees, NoTypes, MoreTypes}

-- how an integer type is spelled
abbrev pub kind_spelling : IntKind → List ℕ
kind_spelling BoolKind = codes "_Bool"
kind_spelling Char = codes "char"
kind_spelling SChar = codes "signed char"
kind_spelling UChar = codes "unsigned char"
kind_spelling Short = codes "short"
kind_spelling UShort = codes "unsigned short"
kind_spelling Int = codes "int"
kind_spelling UInt = codes "unsigned int"
kind_spelling Long = codes "long"
kind_spelling ULong = codes "unsigned long"
kind_spelling LLong = codes "long long"
kind_spelling ULLong = codes "unsigned long long"

-- a space between the parentheses of `address_space()`
abbrev pub space_spelling : Space → List ℕ
space_spelling NoSpace = []
space_spelling (NumberedSpace number) = decimal number
space_spelling (NamedSpace name) = name

-- what a space adds behind a type
abbrev pub space_mark : Space → List ℕ
space_mark NoSpace = []
space_mark (NumberedSpace number) = codes " address_space(" ++ decimal number ++ codes ")"
space_mark (NamedSpace name) = codes " address_space(" ++ name ++ codes ")"

-- what flags add behind a type
abbrev pub flag_marks : Flags → List ℕ
flag_marks flags = (if flags.noderef then codes " noderef" else []) ++ space_mark flags.space

-- what follows a type, in the order const, volatile, noderef, address space
abbrev pub marks : Qualifiers → Flags → List ℕ
marks qualifiers flags =
    (if qualifiers.is_const then codes " const" else [])
    ++ (if qualifiers.is_volatile then codes " volatile" else [])
    ++ flag_marks flags

-- a length between brackets, if it is known
abbrev pub length_spelling : Option ℕ → List ℕ
length_spelling None = []
length_spelling (Some length) = decimal length

-- the keyword of an aggregate
abbrev pub aggregate_word : Bool → List ℕ
aggregate_word true = codes "union "
aggregate_word false = codes "struct "

-- a tag, or that there is none
abbrev pub tag_spelling : Option (List ℕ) → List ℕ
tag_spelling None = codes "<unnamed>"
tag_spelling (Some tag) = tag

-- the name of an identity, or its kind where it has none
abbrev pub identity_spelling : IntKind → Option (List ℕ) → List ℕ
identity_spelling kind None = kind_spelling kind
identity_spelling kind (Some name) = name

-- how types are spelled with these names of tags and of identities, where they have some
module _ (tags identities : ℕ → Option (List ℕ)) where
  abbrev mutual
    -- a type, with what follows it
    pub spelling_with : TypeTree → List ℕ
    spelling_with (Typed base qualifiers flags) = base_spelling base ++ marks qualifiers flags

    -- a base: of a derived type the one from which it is derived, and what derives it
    pub base_spelling : BaseTree → List ℕ
    base_spelling VoidTree = codes "void"
    base_spelling (IntegerTree kind) = kind_spelling kind
    base_spelling (RestrictedTree kind identity) = codes "restricted " ++ identity_spelling kind (identities identity)
    base_spelling (PointerTree target) = spelling_with target ++ codes " *"
    base_spelling (ArrayTree element length) = spelling_with element ++ codes " [" ++ length_spelling length ++ codes "]"
    base_spelling (FunctionTree result parameters variadic) =
        spelling_with result ++ codes " (" ++ parameters_spelling parameters variadic ++ codes ")"
    base_spelling (AggregateTree number is_union) = aggregate_word is_union ++ tag_spelling (tags number)

    -- what stands between the parentheses of a function
    pub parameters_spelling : TypeTrees → Bool → List ℕ
    parameters_spelling NoTypes true = codes "..."
    parameters_spelling NoTypes false = codes "void"
    parameters_spelling (MoreTypes type_ types) variadic = spelling_with type_ ++ more_spelling types variadic

    -- what stands there behind a parameter
    pub more_spelling : TypeTrees → Bool → List ℕ
    more_spelling NoTypes true = codes ", ..."
    more_spelling NoTypes false = []
    more_spelling (MoreTypes type_ types) variadic = codes ", " ++ spelling_with type_ ++ more_spelling types variadic

-- no number has a name
abbrev pub nameless : ℕ → Option (List ℕ)
nameless number = None

-- how a type is spelled where nothing in it has a name, as in the first form
abbrev pub spelling : TypeTree → List ℕ
spelling type_ = spelling_with nameless nameless type_
