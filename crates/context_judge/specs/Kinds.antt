-- The kinds of nodes that are sought.
use Rattle.std.specs.Prelude.{Bool, true, false}
use Rattle.vocabulary.specs.declared.node_kind.NodeKind.{NodeKind}
use Rattle.vocabulary.specs.declared.node_kind.NodeKind.TheVariants as kinds

-- an attribute or a statement of contexts
abbrev pub is_context : NodeKind → Bool
is_context kinds.ContextAttribute = true
is_context kinds.ContextStatement = true
is_context kind = false

abbrev pub is_do : NodeKind → Bool
is_do kinds.DoStatement = true
is_do kind = false

abbrev pub is_function_definition : NodeKind → Bool
is_function_definition kinds.FunctionDefinition = true
is_function_definition kind = false
