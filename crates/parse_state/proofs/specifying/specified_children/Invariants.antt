-- What was specified so far, and what the children that are left add to it, come to what all of them come to.
use Rattle.std.proofs.Common.{◌≡◌, true}
use Rattle.std.specs.List.{list_all}
use Rattle.meaning_tree.specs.Nodes.{end_of}
use Rattle.meaning_derivation.specs.Specifiers.{nothing_specified, specified_from}
use Rattle.parse_state.specs.Giving.{is_below}
use Rattle.parse_state.specs.Specifying.{child_kinds, specified_seen}
use Rattle.parse_state.proofs.specifying.specified_children.Given as goal

abbrev pub invariant-loop-child : goal.invariant-loop-child
invariant-loop-child l =
    record {
      below : list_all (is_below (end_of l.unit)) l.child-iterator ≡ true;
      specified : specified_from (specified_seen l.specified) (child_kinds l.unit l.child-iterator) ≡ specified_from nothing_specified (child_kinds l.unit l.children);
    }
