-- Nodes whose names are told apart by numbers, which are given to spellings in the order of a unit's tokens.
use Rattle.std.specs.Prelude.{ℕ, ◌+◌, List, [], ◌∷◌, ◌++◌, map, if◌then◌else◌}
use Rattle.std.specs.List.{list_any}
use Rattle.std.specs.Str.{bytes_eq}
use Rattle.meaning_text.specs.Tokens.{Tok}
use Rattle.meaning_tree.specs.Trees.{SyntaxTree}
use Rattle.meaning_tree.specs.Nodes.{TreeNode}
use Rattle.meaning_tree.specs.Listed.{renamed_node}
use Rattle.meaning_unit_nodes.specs.Written.{nodes_in}

-- spellings, and behind them this one unless it is among them
abbrev pub with_told : List (List ℕ) → List ℕ → List (List ℕ)
with_told told spelling = if list_any (bytes_eq spelling) told then told else told ++ spelling ∷ []

-- and those of tokens, each where it stands first
abbrev pub told_behind : List (List ℕ) → List Tok → List (List ℕ)
told_behind told [] = told
told_behind told (tok ∷ toks) = told_behind (with_told told tok.text) toks

-- the empty spelling, and behind it each spelling of the tokens once, in the order in which they stand first
abbrev pub spellings_told : List Tok → List (List ℕ)
spellings_told toks = told_behind ([] ∷ []) toks

-- the place of a spelling, counted from 0, or the number of all where it isn't among them
abbrev pub place_told : List (List ℕ) → List ℕ → ℕ
place_told [] spelling = 0
place_told (first ∷ told) spelling = if bytes_eq spelling first then 0 else 1 + place_told told spelling

-- a name as its number alone; where there is no name, nothing
abbrev pub number_told : List (List ℕ) → List ℕ → List ℕ
number_told told [] = []
number_told told (byte ∷ bytes) = place_told told (byte ∷ bytes) ∷ []

-- nodes with the numbers of their names
abbrev pub numbered : List Tok → List (TreeNode (List ℕ)) → List (TreeNode (List ℕ))
numbered toks nodes = map (renamed_node (number_told (spellings_told toks))) nodes

-- the nodes of a unit, as the rules see them: they depend on its tokens and its tree alone
abbrev pub unit_nodes : List Tok → SyntaxTree → List (TreeNode (List ℕ))
unit_nodes toks tree = numbered toks (nodes_in tree)
