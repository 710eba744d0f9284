-- What is told of lists and of names that were found.
use Rattle.std.specs.Prelude.{ℕ, ◌+◌, List, Bool, Option, Some, None}
use Rattle.vocabulary.specs.declared.scope.Bound.{Bound}
use Rattle.meaning_tree.specs.Trees.{SyntaxTree, Parts, NoParts, Part}
use Rattle.meaning_scopes.specs.Scopes.{Found}
use Rattle.meaning_derivation.specs.Values.{TreeValue}
use Rattle.meaning_derivation.specs.State.{State, with_value}

-- what a look-up tells of the entry that it finds
abbrev pub found_told : Found (List ℕ) → ℕ × Bound × Bool
found_told found = (found.entry.declaration, found.entry.bound, found.is_innermost)

-- the tree of a list that has no other one
abbrev pub only_tree : Parts (List ℕ) → Option SyntaxTree
only_tree (Part role tree NoParts) = Some tree
only_tree parts = None

-- the tree in the place of the list, and of what stands above it
abbrev pub with_only : State → (depth : ℕ) → Option SyntaxTree → State
with_only s depth None = s
with_only s depth (Some tree) = with_value s (depth + 1) (TreeValue tree)
