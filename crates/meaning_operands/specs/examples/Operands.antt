-- The types and operands of the examples.
use Rattle.std.specs.Prelude.{true, false}
use Rattle.vocabulary.specs.declared.int_kind.IntKind.TheVariants.{Short, UShort, Int, UInt}
use Rattle.meaning_types.specs.Types.{NumberedSpace, TypeTree, pointer_to}
use Rattle.meaning_types.specs.examples.Types.{in_space, noderef_in, user, plain, flagged_int}
use Rattle.meaning_types.specs.examples.Derived.{restricted_at}
use Rattle.meaning_operands.specs.Operands.{Operand}

-- restricted types, each with the token of its declaration
abbrev pub le16 : TypeTree
le16 = restricted_at 1 UShort

abbrev pub le32 : TypeTree
le32 = restricted_at 2 UInt

abbrev pub be32 : TypeTree
be32 = restricted_at 3 UInt

-- a signed one
abbrev pub status : TypeTree
status = restricted_at 4 Short

-- an operand of this type, of which nothing else is known
abbrev pub value : TypeTree → Operand
value type_ = record { of = type_; fouled = false; zero = false }

-- the constant 0 as an int
abbrev pub zero : Operand
zero = record { of = plain Int; fouled = false; zero = true }

abbrev pub fouled : TypeTree → Operand
fouled type_ = record { of = type_; fouled = true; zero = false }

abbrev pub int : Operand
int = value (plain Int)

-- a pointer to int, and ones to ints that the user gave, in spaces, and without one
abbrev pub to_int : TypeTree
to_int = pointer_to (plain Int)

abbrev pub to_user_int : TypeTree
to_user_int = pointer_to (flagged_int (noderef_in user))

abbrev pub to_int_in_space_1 : TypeTree
to_int_in_space_1 = pointer_to (flagged_int (in_space (NumberedSpace 1)))
