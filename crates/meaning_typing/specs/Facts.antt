-- What is known of a node: all that the nodes above it, and those behind it, may ask of it.
use Rattle.std.specs.Prelude.{ℕ, ℤ, pos, Bool, true, false, ◌&&◌, not, Option, Some, None, List, get_or, if◌then◌else◌}
use Rattle.std.specs.Ordering.{int_eq}
use Rattle.meaning_types.specs.Types.{TypeTree, Typed, IntegerTree, ArrayTree, FunctionTree, value_type, decayed}
use Rattle.meaning_operands.specs.Operands.{Operand}
use Rattle.meaning_constants.specs.Nodes.{loaded_type}

-- how far an expression is an address constant (C11 6.6 p9)
pub data Addressed : Type 0 where
  NotAddress : Addressed
  -- it designates a place whose address is one
  ConstantPlace : Addressed
  -- its value is one
  ConstantAddress : Addressed

-- of an expression (6.5)
pub record ExpressionFact : Type 0 where
  -- of the place that it designates, else of its value; a function is a place of its type (6.3.2.1 p1, p4)
  pub type_ : TypeTree
  pub is_place : Bool
  -- bits may be set that its restricted type hasn't
  pub is_fouled : Bool
  -- the number of its constant (6.6 p6)
  pub constant : Option ℤ
  -- a null pointer constant of type `void *` (6.3.2.3 p3)
  pub is_null : Bool
  -- of a bit-field, in bits (6.7.2.1 p9)
  pub width : Option ℕ
  -- its address may not be taken, since it was declared `register` (6.5.3.2 p1)
  pub is_register : Bool
  pub address : Addressed
  -- it is a string literal, which may give an array its elements (6.7.9 p14)
  pub is_string : Bool

-- what the storage class of specifiers says (6.7.1)
pub record StorageFact : Type 0 where
  pub is_typedef : Bool
  pub is_extern : Bool
  pub is_static : Bool
  pub is_register : Bool

-- of specifiers (6.7)
pub record SpecifiedFact : Type 0 where
  pub type_ : TypeTree
  pub storage : StorageFact

-- of a declarator: what it declares (6.7.6)
pub record DeclaredFact : Type 0 where
  pub name : List ℕ
  pub type_ : TypeTree
  pub is_typedef : Bool
  -- all declarations of the name with linkage are of one object or function (6.2.2 p2)
  pub has_linkage : Bool
  -- it is there as long as the program runs (6.2.4 p3)
  pub is_static : Bool
  pub is_register : Bool

pub data Fact : Type 0 where
  -- It breaks a constraint, or something is unknown that is asked of a part, or there is nothing to know.
  Unknown : Fact
  Expression : ExpressionFact → Fact
  Specified : SpecifiedFact → Fact
  Declared : DeclaredFact → Fact
  -- a type that is named, or that of a parameter
  NamedType : TypeTree → Fact

abbrev pub fact_at : List Fact → ℕ → Fact
fact_at facts handle = get_or facts handle Unknown

-- Expressions

-- a value of this type, of which nothing else is known
abbrev pub value : TypeTree → ExpressionFact
value type_ =
    record {
      type_ = type_;
      is_place = false;
      is_fouled = false;
      constant = None;
      is_null = false;
      width = None;
      is_register = false;
      address = NotAddress;
      is_string = false;
    }

-- a place of this type
abbrev pub place : TypeTree → ExpressionFact
place type_ = record (value type_) { is_place = true }

-- an array or a function, which is a pointer where its value is wanted, and isn't loaded
abbrev pub decays : TypeTree → Bool
decays (Typed (ArrayTree element length) qualifiers flags) = true
decays (Typed (FunctionTree result parameters variadic) qualifiers flags) = true
decays (Typed base qualifiers flags) = false

-- the type of its value (6.3.2.1 p2 to p4, 6.3.1.1 p2)
abbrev pub type_of_value : ExpressionFact → TypeTree
type_of_value expression =
    if decays expression.type_ then decayed expression.type_
    else value_type (loaded_type expression.width expression.type_)

-- its value is wanted, and is that of a place
abbrev pub is_loaded : ExpressionFact → Bool
is_loaded expression = expression.is_place && not (decays expression.type_)

-- a plain integer
abbrev pub is_plain_integer : TypeTree → Bool
is_plain_integer (Typed (IntegerTree kind) qualifiers flags) = true
is_plain_integer (Typed base qualifiers flags) = false

abbrev pub is_zero_number : Option ℤ → Bool
is_zero_number None = false
is_zero_number (Some number) = int_eq number (pos 0)

-- what an operator or a conversion sees of its value
abbrev pub operand_of : ExpressionFact → Operand
operand_of expression =
    record {
      of = type_of_value expression;
      fouled = expression.is_fouled;
      zero = is_plain_integer (type_of_value expression) && is_zero_number expression.constant;
    }
