-- What is known of the unit in the end.
use Rattle.std.proofs.Common.{◌≡◌, ℕ, List, [], ◌∷◌, subst}
use Rattle.meaning_text.specs.Tokens.{Tok}
use Rattle.meaning_tree.specs.Trees.{SyntaxTree}
use Rattle.meaning_tree.specs.Nodes.{NodeList}
use Rattle.meaning_tree.specs.Forms.{IsFormed}
use Rattle.meaning_tree.proofs.Renaming.{is_formed-named}
use Rattle.meaning_derivation.specs.Values.{Value, TreeValue}
use Rattle.meaning_derivation.specs.Actions.{act}
use Rattle.meaning_derivation.specs.Units.{DerivesTree}
use Rattle.meaning_forms.proofs.Deriving.{derived_lists_are_formed}
use Rattle.sparse_model.specs.declared.ids.NameId.{NameId}
use Rattle.c_tokens.specs.Seen.{text_of}
use Rattle.parse_state.specs.Finished.{IsOnlyTreeOf, spelled}
use Rattle.c_parse.specs.Answers.{DerivesUnit}

-- the unit stands for the tree that is left
pub is_unit : (tokens : List Tok) (names others : List (List ℕ)) (unit : NodeList NameId) (values : List Value) (tree : SyntaxTree) → names ≡ others
    → IsOnlyTreeOf (spelled names unit) values → values ≡ TreeValue tree ∷ [] → DerivesTree act tokens tree → DerivesUnit tokens (spelled others unit)
is_unit tokens names others unit values tree same only is derives =
    subst (λ (table : List (List ℕ)). DerivesUnit tokens (spelled table unit)) same (tree, only tree is, derives)

-- and has the parts that each kind allows
pub is_formed : (tokens : List Tok) (names : List (List ℕ)) (unit : NodeList NameId) → DerivesUnit tokens (spelled names unit) → IsFormed unit
is_formed tokens names unit is =
    is_formed-named (text_of names) unit (derived_lists_are_formed tokens is.0 (spelled names unit) is.2 is.1)
