-- What is known of the nodes of a unit before one of them is judged.
use Rattle.std.specs.Prelude.{◌≡◌, ℕ, List, [], length}
use Rattle.meaning_typing.specs.Facts.{Fact}
use Rattle.meaning_typing.specs.MemberDeclarations.{bodies_before}
use Rattle.meaning_typing.specs.MemberRows.{aggregates_before}
use Rattle.meaning_typing.specs.Surroundings.{Surrounding}
use Rattle.meaning_typing.specs.Units.{UnitNodes}
use Rattle.c_types.specs.Table.{TypeTable}
use Rattle.declaration_judge.specs.Kept.{IsKeptOf}
use Rattle.declaration_judge.specs.Kept as declarations
use Rattle.member_names.specs.Kept.{AreTwice}
use Rattle.member_rows.specs.Aggregates.{aggregates_in, bodies_in}
use Rattle.specifier_judge.specs.Kept as enumerations
use Rattle.specifier_judge.specs.Kept.{StandsFor}
use Rattle.whole_judge.specs.Known.{AreKnownBodies}
use Rattle.whole_rows.specs.ConstAggregates.{AreConst}
use Rattle.node_judge.specs.declared.known.Known.{Known}
use Rattle.node_judge.specs.Bodies.{AreOneFirst}
use Rattle.node_judge.specs.Places.{ArePlaces}

-- what is known of each node
abbrev pub facts_seen : Known → List Fact
facts_seen known = declarations.facts_seen known.declarations

-- the table of types
abbrev pub table_of : Known → TypeTable
table_of known = known.declarations.types

-- of structures and unions the table was told the bodies that stand before, and no others
pub record HasBodies (nodes : UnitNodes) (surroundings : List Surrounding) (known : Known) : Type 0 where
  pub ids : AreKnownBodies (table_of known)
  pub told : aggregates_in (table_of known) ≡ aggregates_before nodes surroundings (facts_seen known)
  pub first : AreOneFirst (bodies_in (table_of known)) (bodies_before nodes surroundings (facts_seen known) (length (facts_seen known)))
  pub consts : AreConst (table_of known) known.consts

-- what was gathered of all nodes before the first one was judged
pub record IsGathered (nodes : UnitNodes) (surroundings : List Surrounding) (known : Known) : Type 0 where
  pub tags : StandsFor nodes known.tags
  pub names : AreTwice nodes surroundings known.names

-- this is known of the first so many nodes, where nodes stand in this
pub record IsKnownOf (nodes : UnitNodes) (surroundings : List Surrounding) (count : ℕ) (seen : List Fact) (known : Known) : Type 0 where
  -- these are the facts of the nodes
  pub facts : facts_seen known ≡ seen
  pub next : length seen ≡ count
  -- what is kept of them
  pub kept : IsKeptOf nodes surroundings known.declarations
  pub bodies : HasBodies nodes surroundings known
  pub enumerations : enumerations.IsKeptOf nodes (facts_seen known) count known.enumerations
  pub places : ArePlaces nodes known.places
  pub gathered : IsGathered nodes surroundings known
  -- no type has a name yet
  pub unnamed : (table_of known).names ≡ []
