-- Which nodes are asked.
use Rattle.std.specs.Prelude.{Bool, not}
use Rattle.vocabulary.specs.declared.node_kind.NodeKind.{NodeKind}
use Rattle.node_judge.specs.Kinds.{is_of_unit}

-- expressions, and nodes that say nothing: what says something of a unit is judged otherwise
abbrev pub is_asked : NodeKind → Bool
is_asked kind = not (is_of_unit kind)
