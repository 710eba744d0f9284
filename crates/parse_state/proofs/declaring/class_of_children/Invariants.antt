-- The words so far, and those among the children that are left, are all of them.
use Rattle.std.proofs.Common.{◌≡◌, ◌||◌, true}
use Rattle.std.specs.List.{list_all}
use Rattle.meaning_tree.specs.Nodes.{end_of}
use Rattle.meaning_derivation.specs.Storage.{is_typedef, is_extern}
use Rattle.parse_state.specs.Giving.{is_below}
use Rattle.parse_state.specs.Storage.{has_child}
use Rattle.parse_state.proofs.declaring.class_of_children.Given as goal

abbrev pub invariant-loop-child : goal.invariant-loop-child
invariant-loop-child l =
    record {
      below : list_all (is_below (end_of l.unit)) l.child-iterator ≡ true;
      typedefs : (l.has_typedef || has_child is_typedef l.unit l.child-iterator) ≡ has_child is_typedef l.unit l.children;
      externs : (l.has_extern || has_child is_extern l.unit l.child-iterator) ≡ has_child is_extern l.unit l.children;
    }
