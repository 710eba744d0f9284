-- What is known of nodes, as it is kept: of each its type and the number of its value.
use Rattle.std.specs.Prelude.{ℕ, ◌<◌, List, map, Option, None, option_map, slice_get, unwrap_or}
use Rattle.std.specs.List.{AllByRecursion}
use Rattle.c_types.specs.declared.nodes.NodeValue.{NodeValue}
use Rattle.c_types.specs.declared.nodes.NodeType.{NodeType}
use Rattle.c_types.specs.declared.nodes.NodeEntry.{NodeEntry}

-- the value with this number
abbrev pub node_value_at : List (Option NodeValue) → ℕ → Option NodeValue
node_value_at values number = unwrap_or (slice_get values number) None

-- what an entry stands for: a node whose value is none has no type
abbrev pub node_in : List (Option NodeValue) → NodeEntry → Option NodeType
node_in values entry = option_map (λ value. record { of = entry.of; value = value }) (node_value_at values entry.value)

abbrev pub nodes_in : List (Option NodeValue) → List NodeEntry → List (Option NodeType)
nodes_in values entries = map (node_in values) entries

-- the numbers of values are below this one
abbrev pub AreWithin : ℕ → List NodeEntry → Type 0
AreWithin count entries = AllByRecursion (λ entry. entry.value < count) entries
