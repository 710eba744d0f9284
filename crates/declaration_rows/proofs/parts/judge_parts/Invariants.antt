-- What the parts that are left make of the type so far is what all make of the first one; the least so far, and that of the parts
-- that are left, come to that of all.
use Rattle.std.proofs.Common.{◌≡◌, Some, option_map}
use Rattle.meaning_rules.specs.Rules.{least_broken, least_token, lesser}
use Rattle.meaning_typing.specs.DeclarationRows as meaning
use Rattle.c_types.specs.Layouts.{told_in}
use Rattle.c_types.specs.Table.{IsTypeId, type_at}
use Rattle.decl_judge.specs.Units.{handles_of, nodes_of}
use Rattle.expression_rows.specs.Rows.{broken_seen}
use Rattle.node_facts.specs.Facts.{nodes_seen}
use Rattle.node_facts.specs.Growing.{TypesJoin}
use Rattle.declaration_rows.specs.Parts.{lowest}
use Rattle.declaration_rows.proofs.parts.judge_parts.Given as goal

abbrev pub invariant-loop-part : goal.invariant-loop-part
invariant-loop-part l =
    record {
      known : IsTypeId l.types l.of;
      keeps : TypesJoin l.fn.types l.types;
      made :
          meaning.made_by_parts (told_in l.fn.types) (nodes_of l.unit) (nodes_seen l.fn.types l.facts) l.token (handles_of l.part-iterator)
          (Some (type_at l.types l.of))
          ≡ meaning.made_by_parts (told_in l.fn.types) (nodes_of l.unit) (nodes_seen l.fn.types l.facts) l.token (handles_of l.parts)
          (Some (type_at l.fn.types l.fn.of));
      broken :
          lesser (option_map broken_seen l.broken)
          (least_broken
          (meaning.parts_broken (told_in l.fn.types) (nodes_of l.unit) (nodes_seen l.fn.types l.facts) l.token (handles_of l.part-iterator)
          (Some (type_at l.types l.of))))
          ≡ least_broken
          (meaning.parts_broken (told_in l.fn.types) (nodes_of l.unit) (nodes_seen l.fn.types l.facts) l.token (handles_of l.parts)
          (Some (type_at l.fn.types l.fn.of)));
      passed :
          lowest l.passed
          (least_token
          (meaning.large_parts_of (told_in l.fn.types) (nodes_of l.unit) (nodes_seen l.fn.types l.facts) l.token (handles_of l.part-iterator)
          (Some (type_at l.types l.of))))
          ≡ least_token
          (meaning.large_parts_of (told_in l.fn.types) (nodes_of l.unit) (nodes_seen l.fn.types l.facts) l.token (handles_of l.parts)
          (Some (type_at l.fn.types l.fn.of)));
    }
