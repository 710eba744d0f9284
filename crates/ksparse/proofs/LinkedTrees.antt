-- The names in a tree are spellings of tokens where those of its nodes are.
use Rattle.std.proofs.Common.{◌≡◌, ◌-◌, ◌<◌, ℕ, true, List, [], ◌∷◌, length, slice_get, Some, All, Result, Ok, Err, IfOk, sym, ap, subst, ◌∙◌}
use Rattle.std.specs.List.{list_any}
use Rattle.std.specs.Str.{bytes_eq}
use Rattle.std.proofs.lemmas.List.Elements.{All-get_or, All-map, All-weaker}
use Rattle.std.proofs.lemmas.Option.{get_or_from_slice_get, slice_get-get_or, slice_get_within, unwrap_or-slice_get}
use Rattle.sparse_model.specs.declared.ids.NameId.{NameId}
use Rattle.c_tokens.specs.Seen.{Extends, text_of}
use Rattle.c_tokens.proofs.SeenLemmas.{IsKnown-Extends, slice_get-append}
use Rattle.c_tokens.proofs.TableLemmas.{is_among-stands}
use Rattle.meaning_text.specs.Tokens.{Tok}
use Rattle.meaning_tree.specs.Trees.{SyntaxTree, Node, Parts, NoParts, Part}
use Rattle.meaning_tree.specs.Nodes.{TreeNode, NodeList, StandsFor, StandFor, IsTreeOf, end_of}
use Rattle.meaning_tree.specs.Listed.{renamed_list, renamed_node}
use Rattle.meaning_unit_nodes.specs.Numbered.{spellings_told}
use Rattle.meaning_first_units.specs.Trees.{AreNamesTold, EachName, EachNameIn, IsTold}

-- what holds of the names of nodes holds of those of a tree that they stand for
module _ (IsSo : List ℕ → Type 0) (list : NodeList (List ℕ)) (all : All (λ node. IsSo node.name) list.nodes) where
  mutual
    names-so : (handle : ℕ) (tree : SyntaxTree) → StandsFor list handle tree → EachName IsSo tree
    names-so handle (Node kind token name number parts) (children, has, stand) =
        let node : TreeNode (List ℕ) = record { kind = kind; token = token; name = name; number = number; children = children } in
        let place = handle - list.first in
        let same = get_or_from_slice_get list.nodes place node node has.1 in
        let own = All-get_or (λ (one : TreeNode (List ℕ)). IsSo one.name) list.nodes place node (slice_get_within list.nodes place node has.1) all in
        (subst (λ (one : TreeNode (List ℕ)). IsSo one.name) same own, parts-so children parts stand)

    parts-so : (children : List (ℕ × ℕ)) (parts : Parts (List ℕ)) → StandFor list children parts → EachNameIn IsSo parts
    parts-so [] NoParts stand = tt
    parts-so [] (Part role tree parts) stand = absurd stand
    parts-so (child ∷ children) NoParts stand = absurd stand
    parts-so (child ∷ children) (Part role tree parts) stand = (names-so child.0 tree stand.1, parts-so children parts stand.2)

-- an id below the count of spellings is one of theirs
told-text : (told names : List (List ℕ)) (id : NameId) → Extends told names → id.0 < length told → list_any (bytes_eq (text_of names id)) told ≡ true
told-text told names id extends known =
    let later = IsKnown-Extends told names extends id known in
    let stands : slice_get names id.0 ≡ Some (text_of names id) = slice_get-get_or names id.0 [] later ∙ ap Some (sym (unwrap_or-slice_get names id.0 [])) in
    is_among-stands (text_of names id) told id.0
    (sym (slice_get-append told extends.0 id.0 known) ∙ sym (ap (λ (table : List (List ℕ)). slice_get table id.0) extends.1) ∙ stands)

pub tree-told :
    (names : List (List ℕ)) (tokens : List Tok) (unit : NodeList NameId) (tree : SyntaxTree) → Extends (spellings_told tokens) names
    → All (λ node. node.name.0 < length (spellings_told tokens)) unit.nodes → IsTreeOf (renamed_list (text_of names) unit) tree → AreNamesTold tokens tree
tree-told names tokens unit tree extends named is =
    let list = renamed_list (text_of names) unit in
    let told = spellings_told tokens in
    let texts = All-weaker (λ (node : TreeNode NameId). node.name.0 < length told) (λ (node : TreeNode NameId). IsTold tokens (text_of names node.name))
    (λ node known. told-text told names node.name extends known) unit.nodes named in
    names-so (IsTold tokens) list (All-map (λ (node : TreeNode (List ℕ)). IsTold tokens node.name) (renamed_node (text_of names)) unit.nodes texts)
    (end_of list - 1) tree is.1

-- what holds whatever the answer is
pub known-ok : {V E : Type 0} (result : Result V E) (Known : Type 0) → Known → IfOk result (λ v. Known)
known-ok (Ok v) Known known = known
known-ok (Err e) Known known = tt

-- two clauses of one answer
pub both-ok : {V E : Type 0} (result : Result V E) (P Q R : V → Type 0) → ((v : V) → P v → Q v → R v) → IfOk result P → IfOk result Q → IfOk result R
both-ok (Ok v) P Q R all p q = all v p q
both-ok (Err e) P Q R all p q = tt
