-- The types so far, and those of the children that are left, are those of all.
use Rattle.std.proofs.Common.{◌≡◌, ◌++◌, option_map}
use Rattle.decl_judge.specs.Asked.{parameter_ids}
use Rattle.decl_judge.specs.Units.{handles_of, nodes_of}
use Rattle.decl_judge.proofs.parameters.parameter_types.Given as goal

abbrev pub invariant-loop-child : goal.invariant-loop-child
invariant-loop-child l =
    option_map (λ ids. l.parameters ++ ids) (parameter_ids (nodes_of l.unit) l.facts (handles_of l.child-iterator))
    ≡ parameter_ids (nodes_of l.unit) l.facts (handles_of l.children)
