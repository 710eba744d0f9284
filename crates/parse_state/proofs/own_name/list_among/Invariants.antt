-- What was found, and the children that are left, lead to the same.
use Rattle.std.proofs.Common.{◌≡◌, true, None}
use Rattle.std.specs.List.{list_all}
use Rattle.meaning_tree.specs.Nodes.{end_of}
use Rattle.parse_state.specs.Giving.{is_below}
use Rattle.parse_state.specs.OwnNames.{handle_behind}
use Rattle.parse_state.proofs.own_name.list_among.Given as goal

abbrev pub invariant-loop-child : goal.invariant-loop-child
invariant-loop-child l =
    record {
      below : list_all (is_below (end_of l.unit)) l.child-iterator ≡ true;
      found : handle_behind l.unit l.found l.child-iterator ≡ handle_behind l.unit None l.children;
    }
