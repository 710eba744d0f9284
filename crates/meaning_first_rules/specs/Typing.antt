-- The types of objects that items of the first form declare.
use Rattle.std.specs.Prelude.{ℕ, suc, zero, ◌-◌, true, List, [], ◌∷◌, Option, option_map, if◌then◌else◌}
use Rattle.std.specs.Option.{option_and_then}
use Rattle.std.specs.Str.Parse.{digits_value}
use Rattle.vocabulary.specs.declared.int_kind.IntKind.TheVariants.{Int}
use Rattle.meaning_types.specs.Types.{Space, NumberedSpace, NamedSpace, Flags, no_flags, no_qualifiers, TypeTree, Typed, IntegerTree, value_type}
use Rattle.meaning_syntax.specs.Words.{is_plain_identifier}
use Rattle.meaning_syntax.specs.Items.{Word, Noderef, AddressSpace, Item}
use Rattle.meaning_syntax.specs.Binding.{Declared, object_of}
use Rattle.meaning_first_rules.specs.Bindings.{pointer_to}
use Rattle.meaning_first_rules.specs.Expressions.{target_of}

-- the space that an attribute names by an identifier or a number
abbrev pub space_of : List ℕ → Space
space_of id = if is_plain_identifier id then NamedSpace id else NumberedSpace (digits_value 10 id)

-- the flags behind some more words of an attribute; a later space replaces an earlier one
abbrev pub flagged : Flags → List Word → Flags
flagged flags [] = flags
flagged flags (Noderef ∷ words) = flagged (record flags { noderef = true }) words
flagged flags (AddressSpace id ∷ words) = flagged (record flags { space = space_of id }) words

-- a pointer to a pointer .. to the type, with so many stars (6.7.6.1 p1)
abbrev pub behind_stars : ℕ → TypeTree → TypeTree
behind_stars zero type_ = type_
behind_stars (suc stars) type_ = pointer_to (behind_stars stars type_)

-- int with these flags
abbrev pub int_with : Flags → TypeTree
int_with flags = Typed (IntegerTree Int) no_qualifiers flags

-- the flags of the int that is declared, or behind the stars
abbrev pub int_flags : Declared → Flags
int_flags declared = flagged no_flags declared.words

-- attributes among the specifiers belong to the specified type, `int` here
abbrev pub declared_type : Declared → TypeTree
declared_type declared = behind_stars declared.stars (int_with (int_flags declared))

-- what a pointer points to, as if it were declared
abbrev pub behind_pointer : Declared → Declared
behind_pointer pointer = record pointer { stars = pointer.stars - 1 }

-- an object's address, as if it were declared
abbrev pub address_of : Declared → Declared
address_of object = record object { stars = suc object.stars }

-- the type of an object that is declared before
abbrev pub type_of : List Item → List ℕ → Option TypeTree
type_of before name = option_map declared_type (object_of before name)

-- of its value
abbrev pub value_type_of : List Item → List ℕ → Option TypeTree
value_type_of before name = option_map value_type (type_of before name)

-- of what it points to
abbrev pub target_type_of : List Item → List ℕ → Option TypeTree
target_type_of before name = option_and_then target_of (value_type_of before name)

-- of its address
abbrev pub address_type_of : List Item → List ℕ → Option TypeTree
address_type_of before name = option_map pointer_to (type_of before name)
