-- What the parts that are left make of the type so far is what all make of the first one.
use Rattle.std.proofs.Common.{◌≡◌}
use Rattle.meaning_typing.specs.Declarators as meaning
use Rattle.c_types.specs.Table.{IsTypeId, type_at}
use Rattle.node_facts.specs.Facts.{nodes_seen}
use Rattle.node_facts.specs.Growing.{TypesJoin}
use Rattle.decl_judge.specs.Units.{handles_of, nodes_of}
use Rattle.member_declarations.proofs.fact.derived_by.Given as goal

abbrev pub invariant-loop-part : goal.invariant-loop-part
invariant-loop-part l =
    record {
      made : IsTypeId l.types l.made;
      keeps : TypesJoin l.fn.types l.types;
      derived : meaning.derived_by (nodes_of l.unit) (nodes_seen l.fn.types l.facts) l.token (handles_of l.part-iterator) (type_at l.types l.made)
          ≡ meaning.derived_by (nodes_of l.unit) (nodes_seen l.fn.types l.facts) l.token (handles_of l.parts) (type_at l.fn.types l.fn.of);
    }
