-- The arguments that were found stand before those that are left.
use Rattle.std.proofs.Common.{◌≡◌, ◌++◌, All, drop, map}
use Rattle.meaning_typing.specs.Typing.{argument_at}
use Rattle.decl_judge.specs.Units.{handles_of, nodes_of}
use Rattle.expression_rows.specs.Arguments.{IsKnownArgument, argument_seen}
use Rattle.node_facts.specs.Facts.{nodes_seen}
use Rattle.node_facts.specs.Growing.{TypesJoin}
use Rattle.expr_judge.specs.Parts.{only_arguments}
use Rattle.expr_judge.proofs.calls.arguments_among.Given as goal

abbrev pub invariant-loop-child : goal.invariant-loop-child
invariant-loop-child l =
    record {
      seen : map (argument_seen l.types) l.arguments.items
          ++ only_arguments (map (argument_at (nodes_of l.unit) (nodes_seen l.fn.types l.facts)) (handles_of l.child-iterator))
          ≡ only_arguments (map (argument_at (nodes_of l.unit) (nodes_seen l.fn.types l.facts)) (drop 1 (handles_of l.children)));
      known : All (IsKnownArgument l.types) l.arguments.items;
      keeps : TypesJoin l.fn.types l.types;
    }
