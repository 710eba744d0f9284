-- How what is known of a node is seen, over a table of types.
use Rattle.std.specs.Prelude.{ℕ, ℤ, nat_eq, true, false, List, [], ◌∷◌, map, Option, Some, None, if◌then◌else◌}
use Rattle.sparse_model.specs.declared.ids.NameId.{NameId}
use Rattle.sparse_model.specs.declared.ids.TypeId.{TypeId}
use Rattle.meaning_typing.specs.Types.{TypeTree}
use Rattle.const_fold.specs.Constants.{kind_of}
use Rattle.const_fold.specs.Nodes.{loaded_type}
use Rattle.meaning_typing.specs.Facts as meaning
use Rattle.c_types.specs.declared.nodes.NodeType.{NodeType}
use Rattle.c_types.specs.Table.{TypeTable, IsTypeId, type_at}
use Rattle.const_fold.specs.Known.{number_with}
use Rattle.node_facts.specs.declared.expression.Addressed.{Addressed}
use Rattle.node_facts.specs.declared.expression.Addressed.TheVariants as addresses
use Rattle.node_facts.specs.declared.expression.ExpressionMarks.{ExpressionMarks}
use Rattle.node_facts.specs.declared.expression.ExpressionFact.{ExpressionFact}
use Rattle.node_facts.specs.declared.declared.Storage.{Storage}
use Rattle.node_facts.specs.declared.declared.SpecifiedFact.{SpecifiedFact}
use Rattle.node_facts.specs.declared.declared.DeclaredFact.{DeclaredFact}
use Rattle.node_facts.specs.declared.fact.NodeFact.{NodeFact}
use Rattle.node_facts.specs.declared.fact.NodeFact.TheVariants as facts

abbrev pub addressed_seen : Addressed → meaning.Addressed
addressed_seen addresses.NotAddress = meaning.NotAddress
addressed_seen addresses.ConstantPlace = meaning.ConstantPlace
addressed_seen addresses.ConstantAddress = meaning.ConstantAddress

-- the number of a constant of this type that has these bits
abbrev pub number_in : TypeTree → (bits : Option ℕ) → Option ℤ
number_in type_ None = None
number_in type_ (Some bits) = number_with (kind_of type_) (Some bits)

abbrev pub fact_seen : TypeTable → ExpressionFact → meaning.ExpressionFact
fact_seen table fact =
    record {
      type_ = type_at table fact.node.of;
      is_place = fact.marks.is_place;
      is_fouled = fact.node.value.fouled;
      constant = number_in (loaded_type fact.node.value.width (type_at table fact.node.of)) fact.node.value.constant;
      is_null = fact.marks.is_null;
      width = fact.node.value.width;
      is_register = fact.marks.is_register;
      address = addressed_seen fact.marks.address;
      is_string = fact.marks.is_string;
    }

-- its type is of the table
abbrev pub IsKnownFact : TypeTable → ExpressionFact → Type 0
IsKnownFact table fact = IsTypeId table fact.node.of

-- Specifiers and declarators

-- a name is seen as its number alone, and number 0 is no name
abbrev pub name_seen : NameId → List ℕ
name_seen name = if nat_eq name.0 0 then [] else name.0 ∷ []

abbrev pub storage_seen : Storage → meaning.StorageFact
storage_seen storage =
    record {
      is_typedef = storage.is_typedef;
      is_extern = storage.is_extern;
      is_static = storage.is_static;
      is_register = storage.is_register;
    }

abbrev pub specified_seen : TypeTable → SpecifiedFact → meaning.SpecifiedFact
specified_seen table specifiers = record { type_ = type_at table specifiers.of; storage = storage_seen specifiers.storage }

abbrev pub declared_seen : TypeTable → DeclaredFact → meaning.DeclaredFact
declared_seen table declaration =
    record {
      name = name_seen declaration.name;
      type_ = type_at table declaration.of;
      is_typedef = declaration.is_typedef;
      has_linkage = declaration.has_linkage;
      is_static = declaration.is_static;
      is_register = declaration.is_register;
    }

-- Nodes

abbrev pub node_seen : TypeTable → NodeFact → meaning.Fact
node_seen table facts.Unknown = meaning.Unknown
node_seen table (facts.Expression expression) = meaning.Expression (fact_seen table expression)
node_seen table (facts.Specified specifiers) = meaning.Specified (specified_seen table specifiers)
node_seen table (facts.Declared declaration) = meaning.Declared (declared_seen table declaration)
node_seen table (facts.NamedType of) = meaning.NamedType (type_at table of)

-- its types are of the table
abbrev pub IsKnownNodeFact : TypeTable → NodeFact → Type 0
IsKnownNodeFact table facts.Unknown = Unit {0}
IsKnownNodeFact table (facts.Expression expression) = IsKnownFact table expression
IsKnownNodeFact table (facts.Specified specifiers) = IsTypeId table specifiers.of
IsKnownNodeFact table (facts.Declared declaration) = IsTypeId table declaration.of
IsKnownNodeFact table (facts.NamedType of) = IsTypeId table of

abbrev pub nodes_seen : TypeTable → List NodeFact → List meaning.Fact
nodes_seen table facts = map (node_seen table) facts

-- As facts are made

-- nothing is said besides the type
abbrev pub plain_node : TypeId → NodeType
plain_node of = record { of = of; value = record { fouled = false; width = None; constant = None } }

abbrev pub no_marks : ExpressionMarks
no_marks = record { is_place = false; is_null = false; is_register = false; is_string = false; address = addresses.NotAddress }

-- a value, and a place, of this type
abbrev pub value_of : TypeId → ExpressionFact
value_of of = record { node = plain_node of; marks = no_marks }

abbrev pub place_of : TypeId → ExpressionFact
place_of of = record { node = plain_node of; marks = record no_marks { is_place = true } }
