-- A list of members among the children so far, or among those that are left.
use Rattle.std.proofs.Common.{◌≡◌, ◌||◌, true}
use Rattle.std.specs.List.{list_all}
use Rattle.meaning_tree.specs.Nodes.{end_of}
use Rattle.meaning_derivation.specs.Scoping.{is_member_list}
use Rattle.parse_state.specs.Giving.{is_below}
use Rattle.parse_state.specs.Storage.{has_child}
use Rattle.parse_state.proofs.tags.has_members.Given as goal

abbrev pub invariant-loop-child : goal.invariant-loop-child
invariant-loop-child l =
    record {
      below : list_all (is_below (end_of l.unit)) l.child-iterator ≡ true;
      found : (l.found || has_child is_member_list l.unit l.child-iterator) ≡ has_child is_member_list l.unit l.children;
    }
