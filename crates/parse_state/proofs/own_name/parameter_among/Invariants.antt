-- What is looked for stands among the children that are left.
use Rattle.std.proofs.Common.{◌≡◌, true}
use Rattle.std.specs.List.{list_all}
use Rattle.meaning_tree.specs.Nodes.{end_of}
use Rattle.parse_state.specs.Giving.{is_below}
use Rattle.parse_state.specs.OwnNames.{parameter_among}
use Rattle.parse_state.proofs.own_name.parameter_among.Given as goal

abbrev pub invariant-loop-child : goal.invariant-loop-child
invariant-loop-child l =
    record {
      below : list_all (is_below (end_of l.unit)) l.child-iterator ≡ true;
      found : parameter_among l.unit l.name l.child-iterator ≡ parameter_among l.unit l.name l.children;
    }
