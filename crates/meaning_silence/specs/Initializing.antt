-- Units that initialize nothing.
use Rattle.std.specs.Prelude.{◌≡◌, ℕ, ◌<◌, Bool, true, false, length}
use Rattle.vocabulary.specs.declared.node_kind.NodeKind.{NodeKind}
use Rattle.vocabulary.specs.declared.node_kind.NodeKind.TheVariants as kinds
use Rattle.meaning_typing.specs.Units.{UnitNodes, kind_at}

-- a node of this kind initializes something, and has its row by the initializer (C11 6.5.2.5, 6.7.9)
abbrev pub is_initializing : NodeKind → Bool
is_initializing kinds.CompoundLiteral = true
is_initializing kinds.Initializer = true
is_initializing kind = false

-- no node of the unit does
abbrev pub InitializesNothing : UnitNodes → Type 0
InitializesNothing nodes = (handle : ℕ) → handle < length nodes → is_initializing (kind_at nodes handle) ≡ false
