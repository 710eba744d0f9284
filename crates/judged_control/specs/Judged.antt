-- What control asks of a unit that was judged.
use Rattle.std.specs.Prelude.{◌≡◌, ◌≤◌, ◌^◌, List, All, length}
use Rattle.sparse_model.specs.declared.ids.NameId.{NameId}
use Rattle.meaning_tree.specs.Nodes.{NodeList}
use Rattle.meaning_typing.specs.Facts.{Fact, fact_at}
use Rattle.meaning_typing.specs.Surroundings.{Surrounding}
use Rattle.meaning_typing.specs.Units.{UnitNodes}
use Rattle.meaning_statements.specs.StatementRows.{number_at}
use Rattle.meaning_objects.specs.Carried.{contexts_of_object, is_noreturn}
use Rattle.meaning_contexts.specs.Units.{constant_known, number_or_zero}
use Rattle.c_types.specs.Table.{TypeTable}
use Rattle.decl_judge.specs.Units.{nodes_of}
use Rattle.node_facts.specs.declared.fact.NodeFact.{NodeFact}
use Rattle.node_facts.specs.Facts.{IsKnownNodeFact, nodes_seen}
use Rattle.node_surroundings.specs.declared.surrounding.Surrounding.{Surrounding as KeptSurrounding}
use Rattle.node_surroundings.specs.Seen.{surroundings_seen}
use Rattle.statement_judge.specs.declared.enclosing.Enclosing.{Enclosing}
use Rattle.statement_judge.specs.Enclosing.{AreEnclosings}
use Rattle.judged_objects.specs.declared.note.ObjectNote.{ObjectNote}
use Rattle.judged_objects.specs.declared.objects.JudgedObjects.{JudgedObjects}
use Rattle.judged_objects.specs.Kept.{AreObjects}
use Rattle.linear_code.specs.declared.facts.FunctionNote.{FunctionNote}
use Rattle.linear_code.specs.Known.{KnownFacts}

-- By what is known of nodes

-- what a `judged_of` has besides its nodes
abbrev pub known_of : UnitNodes → List Surrounding → List Fact → KnownFacts
known_of nodes surroundings facts =
    record {
      facts = facts;
      constant = λ expression. constant_known (fact_at facts expression);
      case_number = λ statement. number_or_zero (number_at nodes surroundings facts statement);
      contexts = contexts_of_object nodes surroundings facts;
      is_noreturn = is_noreturn nodes surroundings facts;
    }

-- By what is kept of them

-- the nodes of a unit, what they stand in, and what is known of them over a table of types
pub record JudgedNodes : Type 0 where
  pub unit : NodeList NameId
  pub surroundings : List KeptSurrounding
  pub types : TypeTable
  pub facts : List NodeFact

abbrev pub known_of_nodes : JudgedNodes → KnownFacts
known_of_nodes judged = known_of (nodes_of judged.unit) (surroundings_seen judged.surroundings) (nodes_seen judged.types judged.facts)

-- what is kept besides belongs to these nodes
pub record IsJudged (judged : JudgedNodes) (around : List Enclosing) (kept : JudgedObjects) : Type 0 where
  pub whole : judged.unit.first ≡ 0
  pub few : length judged.facts ≤ 2 ^ 32
  pub ids : All (IsKnownNodeFact judged.types) judged.facts
  pub enclosings : AreEnclosings (nodes_of judged.unit) (surroundings_seen judged.surroundings) around
  pub objects : AreObjects (nodes_of judged.unit) (surroundings_seen judged.surroundings) (nodes_seen judged.types judged.facts) kept

-- a note of an object, as one of a function
abbrev pub function_noted : ObjectNote → FunctionNote
function_noted note = record { contexts = note.contexts; is_noreturn = note.is_noreturn }
