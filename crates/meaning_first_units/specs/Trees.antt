-- Trees of units whose form, without the numbers that link nodes, is the first form.
use Rattle.std.specs.Prelude.{◌≡◌, ℕ, true, List}
use Rattle.std.specs.List.{list_any}
use Rattle.std.specs.Str.{bytes_eq}
use Rattle.meaning_text.specs.Tokens.{Tok}
use Rattle.meaning_tree.specs.Trees.{SyntaxTree, Node, Parts, NoParts, Part}
use Rattle.meaning_unit_nodes.specs.Numbered.{spellings_told}

abbrev mutual
  -- each name in the tree is so
  pub EachName : (List ℕ → Type 0) → SyntaxTree → Type 0
  EachName IsSo (Node kind token name number parts) = IsSo name × EachNameIn IsSo parts

  pub EachNameIn : (List ℕ → Type 0) → Parts (List ℕ) → Type 0
  EachNameIn IsSo NoParts = Unit {0}
  EachNameIn IsSo (Part role tree parts) = EachName IsSo tree × EachNameIn IsSo parts

-- the name is empty or the spelling of one of the tokens
abbrev pub IsTold : List Tok → (name : List ℕ) → Type 0
IsTold tokens name = list_any (bytes_eq name) (spellings_told tokens) ≡ true

abbrev pub AreNamesTold : List Tok → SyntaxTree → Type 0
AreNamesTold tokens tree = EachName (IsTold tokens) tree
