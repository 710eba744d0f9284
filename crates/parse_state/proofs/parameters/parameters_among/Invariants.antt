-- What was found, and the children that are left, lead to the same.
use Rattle.std.proofs.Common.{◌≡◌, true}
use Rattle.std.specs.List.{list_all}
use Rattle.meaning_tree.specs.Nodes.{end_of}
use Rattle.parse_state.specs.Giving.{is_below}
use Rattle.parse_state.specs.Parameters.{list_behind, own_list}
use Rattle.parse_state.proofs.parameters.parameters_among.Given as goal

abbrev pub invariant-loop-child : goal.invariant-loop-child
invariant-loop-child l =
    record {
      below : list_all (is_below (end_of l.unit)) l.child-iterator ≡ true;
      found : list_behind l.unit l.found l.child-iterator ≡ own_list l.unit l.children;
    }
