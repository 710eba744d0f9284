-- Names by what they stand for.
use Rattle.std.specs.Prelude.{◌≡◌, ℕ, nat_lt, Bool, true, false, List, length, Option}
use Rattle.vocabulary.specs.declared.node_kind.NodeKind.TheVariants as kinds
use Rattle.meaning_typing.specs.EnumRows.{enumerators_of, is_enumerator}
use Rattle.meaning_typing.specs.Facts.{Fact, fact_at}
use Rattle.meaning_typing.specs.Names.{declared_behind}
use Rattle.meaning_typing.specs.Surroundings.{Surrounding, surrounding_at}
use Rattle.meaning_typing.specs.Typing.{token_at}
use Rattle.meaning_typing.specs.Units.{UnitNodes, kind_at, node_at}
use Rattle.c_types.specs.Table.{TypeTable}
use Rattle.enum_rows.specs.declared.names.Sharing.{Sharing}
use Rattle.enum_rows.specs.Names.{IsSharing}
use Rattle.expression_rows.specs.declared.name.DeclaredName.{DeclaredName}
use Rattle.expression_rows.specs.Names.{IsNamed}
use Rattle.node_facts.specs.declared.fact.NodeFact.{NodeFact}
use Rattle.node_facts.specs.Facts.{node_seen}
use Rattle.whole_rows.specs.Rows.{is_for_value}

-- a name that stands at this token, and whose value is wanted or not
pub record IsNameAt (nodes : UnitNodes) (surroundings : List Surrounding) (handle token : ℕ) (is_valued : Bool) : Type 0 where
  pub kind : kind_at nodes handle ≡ kinds.Name
  pub stands : token_at nodes handle ≡ token
  pub want : is_for_value (surrounding_at surroundings handle).want ≡ is_valued

-- it stands for what is declared so
pub record IsNameOfDeclaration (types : TypeTable) (nodes : UnitNodes) (surroundings : List Surrounding) (facts : List Fact) (handle token : ℕ) (is_valued : Bool) (named : Option DeclaredName) : Type 0 where
  pub at : IsNameAt nodes surroundings handle token is_valued
  pub declares : is_enumerator (kind_at nodes (node_at nodes handle).number) ≡ false
  pub stands_for : IsNamed types named facts (declared_behind nodes surroundings facts (node_at nodes handle).number)

-- it stands for an enumerator of which this is known, and whose enumeration says that of all
pub record IsNameOfEnumerator (types : TypeTable) (nodes : UnitNodes) (surroundings : List Surrounding) (facts : List Fact) (handle token : ℕ) (is_valued is_behind : Bool) (sharing : Sharing) (fact : NodeFact) : Type 0 where
  pub at : IsNameAt nodes surroundings handle token is_valued
  pub enumerates : is_enumerator (kind_at nodes (node_at nodes handle).number) ≡ true
  pub behind : nat_lt (surrounding_at surroundings (node_at nodes handle).number).parent (length facts) ≡ is_behind
  pub shares : IsSharing sharing (enumerators_of nodes facts (surrounding_at surroundings (node_at nodes handle).number).parent)
  pub known : node_seen types fact ≡ fact_at facts (node_at nodes handle).number
