-- What a parse answers.
use Rattle.std.specs.Prelude.{ℕ, List}
use Rattle.meaning_text.specs.Tokens.{Tok}
use Rattle.meaning_tree.specs.Trees.{SyntaxTree}
use Rattle.meaning_tree.specs.Nodes.{NodeList, IsTreeOf}
use Rattle.meaning_derivation.specs.State.{IsError, PassesLimit}
use Rattle.meaning_derivation.specs.Actions.{act}
use Rattle.meaning_derivation.specs.Units.{DerivesTree, IsRefused}
use Rattle.c_parse.specs.declared.fault.ParseFault.{ParseFault}
use Rattle.c_parse.specs.declared.fault.ParseFault.TheVariants.{Refused, Limit, Memory}

-- the tokens are refused for what the fault says, where it says; of want of memory nothing is said
abbrev pub IsFaultOf : List Tok → ParseFault → Type 0
IsFaultOf tokens (Refused kind token) = IsRefused act tokens (IsError kind) token
IsFaultOf tokens (Limit limit token) = IsRefused act tokens (PassesLimit limit) token
IsFaultOf tokens Memory = Unit {0}

-- the tokens derive the tree that these nodes stand for
abbrev pub DerivesUnit : List Tok → NodeList (List ℕ) → Type 0
DerivesUnit tokens list = (tree : SyntaxTree) × IsTreeOf list tree × DerivesTree act tokens tree
