-- Parts of an object: the elements of an array, and the members of a structure or a union by their numbers (C11 6.7.9 p9, p17).
use Rattle.std.specs.Prelude.{ℕ, zero, suc, nat_eq, nat_lt, Bool, true, false, ◌&&◌, not, is_some, ◌||◌, List, [], ◌∷◌, ◌++◌, drop, Option, Some, None, if◌then◌else◌}
use Rattle.vocabulary.specs.declared.int_kind.IntKind.{IntKind}
use Rattle.vocabulary.specs.declared.int_kind.IntKind.TheVariants as integers
use Rattle.meaning_types.specs.Types.{TypeTree, Typed, IntegerTree, ArrayTree, AggregateTree}
use Rattle.meaning_types.specs.Equality.{are_equal_bools}
use Rattle.meaning_layout.specs.Members.{DeclaredMember, Names}
use Rattle.meaning_typing.specs.Facts.{Fact, Expression, type_of_value}
use Rattle.meaning_typing.specs.Aggregates.{Bodies, aggregates_of}
use Rattle.meaning_initializers.specs.Items.{Given, Initializer, Value, Braces, Items, Item}

-- what is known of structures and unions, by their numbers
pub record Aggregates : Type 0 where
  -- in order, those without a name too
  pub members : ℕ → List (DeclaredMember (List ℕ))
  pub names : ℕ → Names (List ℕ)

-- what was told first stays
abbrev pub members_told : Bodies → ℕ → List (DeclaredMember (List ℕ))
members_told [] number = []
members_told (entry ∷ bodies) number = if nat_eq entry.0 number then entry.1.members else members_told bodies number

abbrev pub aggregates_told : Bodies → Aggregates
aggregates_told bodies = record { members = members_told bodies; names = (aggregates_of bodies).names }

-- Parts

-- its number in the object of which it is a part, and its type
pub record Part : Type 0 where
  pub number : ℕ
  pub type_ : TypeTree

-- an array without a length is an object of its own, and as a member it has no elements (6.7.2.1 p18)
abbrev pub bounded : TypeTree → TypeTree
bounded (Typed (ArrayTree element None) qualifiers flags) = Typed (ArrayTree element (Some 0)) qualifiers flags
bounded type_ = type_

-- a member has the type with which it is declared (p11)
abbrev pub member_part : (number : ℕ) → DeclaredMember (List ℕ) → Part
member_part number member = record { number = number; type_ = bounded member.of }

-- a bit-field without a name is no part of what is initialized (p9)
abbrev pub is_passed_over : DeclaredMember (List ℕ) → Bool
is_passed_over member = is_some member.width && not (is_some member.name)

-- the first of these members that is a part, where they are those from this number on
abbrev pub first_member : (number : ℕ) → List (DeclaredMember (List ℕ)) → Option Part
first_member number [] = None
first_member number (member ∷ members) = if is_passed_over member then first_member (suc number) members else Some (member_part number member)

-- an array without a length has an element at each index
abbrev pub is_within : ℕ → Option ℕ → Bool
is_within index None = true
is_within index (Some length) = nat_lt index length

-- of a union the first one alone
abbrev pub member_from : List (DeclaredMember (List ℕ)) → (is_union : Bool) → ℕ → Option Part
member_from members false number = first_member number (drop number members)
member_from members true zero = first_member 0 members
member_from members true (suc number) = None

-- The next part from this number on, in the order in which parts are filled (p17). In braces a scalar is its own only part (p11).
abbrev pub part_from : Aggregates → TypeTree → ℕ → Option Part
part_from aggregates (Typed (ArrayTree element length) qualifiers flags) number =
    if is_within number length then Some (record { number = number; type_ = element }) else None
part_from aggregates (Typed (AggregateTree aggregate is_union) qualifiers flags) number = member_from (aggregates.members aggregate) is_union number
part_from aggregates (Typed base qualifiers flags) zero = Some (record { number = 0; type_ = Typed base qualifiers flags })
part_from aggregates (Typed base qualifiers flags) (suc number) = None

-- Where a part stands in an object: the numbers that lead to it, from the outermost on

abbrev pub path_to : TypeTree → List ℕ → Part → List ℕ
path_to (Typed (ArrayTree element length) qualifiers flags) path part = path ++ part.number ∷ []
path_to (Typed (AggregateTree aggregate is_union) qualifiers flags) path part = path ++ part.number ∷ []
path_to (Typed base qualifiers flags) path part = path

abbrev pub is_array : TypeTree → Bool
is_array (Typed (ArrayTree element length) qualifiers flags) = true
is_array (Typed base qualifiers flags) = false

-- What takes an initializer whole (p11, p13, p14, p16, p20)

abbrev pub is_character : IntKind → Bool
is_character integers.Char = true
is_character integers.SChar = true
is_character integers.UChar = true
is_character kind = false

abbrev pub is_array_of_characters : TypeTree → Bool
is_array_of_characters (Typed (ArrayTree (Typed (IntegerTree kind) _ _) length) _ _) = is_character kind
is_array_of_characters (Typed base _ _) = false

-- a string literal gives an array of characters its elements (p14)
abbrev pub is_string_for : TypeTree → Given → Bool
is_string_for type_ given = is_array_of_characters type_ && is_some given.elements

abbrev pub is_one_aggregate : (type_ other : TypeTree) → Bool
is_one_aggregate (Typed (AggregateTree number is_union) _ _) (Typed (AggregateTree other is_other_union) _ _) =
    nat_eq number other && are_equal_bools is_union is_other_union
is_one_aggregate type_ other = false

-- a value of the aggregate's type gives all members theirs (p13)
abbrev pub is_value_of : TypeTree → Fact → Bool
is_value_of type_ (Expression expression) = is_one_aggregate type_ (type_of_value expression)
is_value_of type_ fact = false

abbrev pub has_parts : TypeTree → Bool
has_parts (Typed (ArrayTree element length) qualifiers flags) = true
has_parts (Typed (AggregateTree aggregate is_union) qualifiers flags) = true
has_parts (Typed base qualifiers flags) = false

abbrev pub takes_value : TypeTree → Given → Bool
takes_value type_ given = not (has_parts type_) || (is_string_for type_ given || is_value_of type_ given.fact)

-- a scalar takes an expression, and each part takes braces
abbrev pub takes_whole : TypeTree → Initializer → Bool
takes_whole type_ (Value given) = takes_value type_ given
takes_whole type_ (Braces handle token items) = true

-- the string that stands first in braces, and the items behind it
abbrev pub string_if : Bool → Given → Items → Option (Given × Items)
string_if true given items = Some (given, items)
string_if false given items = None

abbrev pub string_before : TypeTree → Items → Option (Given × Items)
string_before type_ (Item [] is_moved (Value given) items) = string_if (is_string_for type_ given) given items
string_before type_ items = None
