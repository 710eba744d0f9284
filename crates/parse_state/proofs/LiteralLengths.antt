-- How many bytes string literals have, by the nodes of which they are the names.
use Rattle.std.proofs.Common.{◌≡◌, ℕ, zero, suc, ◌+◌, ◌-◌, ◌<◌, Bool, true, List, [], ◌∷◌, map, reverse, length, slice_get, Option, Some, None, Result, Ok, Err, refl, sym, ap, subst, ◌∙◌, arith}
use Rattle.std.specs.List.{list_all}
use Rattle.std.proofs.lemmas.Bool.{and_parts, ltb-true}
use Rattle.std.proofs.lemmas.Option.{same_Some}
use Rattle.vocabulary.specs.declared.role.Role.{Role}
use Rattle.vocabulary.specs.Roles.{role_of}
use Rattle.meaning_literals.specs.Constants.{Fault}
use Rattle.meaning_literals.specs.Quoted.{string_of}
use Rattle.meaning_tree.specs.Trees.{SyntaxTree, Node, Parts, Part}
use Rattle.meaning_tree.specs.Nodes.{TreeNode, NodeList, HasNode, ChildrenStandBefore}
use Rattle.meaning_tree.specs.Listed.{tree_at, parts_at}
use Rattle.meaning_derivation.specs.Literals.{BadLiteral, bad_piece, first_bad, piece_length, pieces_length}
use Rattle.meaning_derivation.specs.Values as values
use Rattle.sparse_model.specs.declared.ids.NameId.{NameId}
use Rattle.c_tokens.specs.Seen.{text_of}
use Rattle.parse_state.specs.declared.fault.ActionFault.{ActionFault}
use Rattle.parse_state.specs.declared.fault.ActionFault.TheVariants.{Refused, Limit, Memory}
use Rattle.parse_state.specs.declared.value.Value.{Value}
use Rattle.parse_state.specs.declared.value.Value.TheVariants.{Word, Tree}
use Rattle.parse_state.specs.declared.value.Value.TheVariants as kinds
use Rattle.parse_state.specs.Asking.{list_in}
use Rattle.parse_state.specs.Giving.{is_below, has_handles_below}
use Rattle.parse_state.specs.Seen.{spelled_trees, value_of}
use Rattle.parse_state.specs.Soundness.{is_known}
use Rattle.parse_state.specs.Strings.{IsOfBad}
use Rattle.parse_state.proofs.Parts.{node_seen}
use Rattle.parse_state.proofs.Seeing.{seen, value_at-seen}
use Rattle.parse_state.proofs.Stacks.{all-reverse}

-- the first piece, and those behind it
pub pieces_length-first : (role : Role) (tree : SyntaxTree) (others : Parts (List ℕ))
    → pieces_length (Part role tree others) ≡ piece_length (string_of (values.name_of (values.TreeValue tree))) + pieces_length others
pieces_length-first role (Node kind token name number parts) others = refl

pub bad_piece-first : (role : Role) (tree : SyntaxTree) (others : Parts (List ℕ))
    → bad_piece (Part role tree others)
    ≡ first_bad (string_of (values.name_of (values.TreeValue tree))) (values.stands_at (values.TreeValue tree)) (bad_piece others)
bad_piece-first role (Node kind token name number parts) others = refl

-- a literal that isn't bad says nothing of those behind it, and a bad one says what it is
pub first_bad-none : (found : Result (List ℕ) Fault) (token : ℕ) (behind : Option BadLiteral) → first_bad found token None ≡ None → first_bad found token behind ≡ behind
first_bad-none (Ok bytes) token behind is = refl
first_bad-none (Err fault) token behind is = absurd (cc is)

pub first_bad-some : (found : Result (List ℕ) Fault) (token : ℕ) (behind : Option BadLiteral) (bad : BadLiteral) → first_bad found token None ≡ Some bad → first_bad found token behind ≡ Some bad
first_bad-some (Ok bytes) token behind bad is = absurd (cc is)
first_bad-some (Err fault) token behind bad is = is

-- what is told of the first piece is told of all
pub IsOfBad-first : (found : Result (List ℕ) Fault) (token : ℕ) (behind : Option BadLiteral) (fault : ActionFault)
    → IsOfBad (first_bad found token None) fault → IsOfBad (first_bad found token behind) fault
IsOfBad-first found token behind (Refused kind at) is = first_bad-some found token behind _ is
IsOfBad-first found token behind (Limit limit at) is = absurd is
IsOfBad-first found token behind Memory is = tt

-- The list so far below the top

module _ (names : List (List ℕ)) (trees : List SyntaxTree) where
  length_found : (found : Option Value) (pieces : List (ℕ × ℕ)) → list_in found ≡ Some pieces
      → pieces_length (values.parts_of (seen (value_of names trees) found)) ≡ pieces_length (parts_at trees pieces)
  length_found None pieces is = absurd (cc is)
  length_found (Some (Word token name)) pieces is = absurd (cc is)
  length_found (Some (Tree handle)) pieces is = absurd (cc is)
  length_found (Some (kinds.List children)) pieces is = ap (λ one. pieces_length (parts_at trees one)) (same_Some _ _ is)

  pub length-seen : (stack : List Value) (depth : ℕ) (pieces : List (ℕ × ℕ)) → list_in (slice_get stack depth) ≡ Some pieces
      → pieces_length (values.parts_of (values.value_at (map (value_of names trees) stack) depth)) ≡ pieces_length (parts_at trees pieces)
  length-seen stack depth pieces is =
      ap (λ value. pieces_length (values.parts_of value)) (value_at-seen (value_of names trees) stack depth) ∙ length_found (slice_get stack depth) pieces is

  bad_found : (found : Option Value) (pieces : List (ℕ × ℕ)) → list_in found ≡ Some pieces
      → bad_piece (values.parts_of (seen (value_of names trees) found)) ≡ bad_piece (parts_at trees pieces)
  bad_found None pieces is = absurd (cc is)
  bad_found (Some (Word token name)) pieces is = absurd (cc is)
  bad_found (Some (Tree handle)) pieces is = absurd (cc is)
  bad_found (Some (kinds.List children)) pieces is = ap (λ one. bad_piece (parts_at trees one)) (same_Some _ _ is)

  pub bad-seen : (stack : List Value) (depth : ℕ) (pieces : List (ℕ × ℕ)) → list_in (slice_get stack depth) ≡ Some pieces
      → bad_piece (values.parts_of (values.value_at (map (value_of names trees) stack) depth)) ≡ bad_piece (parts_at trees pieces)
  bad-seen stack depth pieces is =
      ap (λ value. bad_piece (values.parts_of value)) (value_at-seen (value_of names trees) stack depth) ∙ bad_found (slice_get stack depth) pieces is

  bad_of_none : (found : Option Value) → list_in found ≡ None → bad_piece (values.parts_of (seen (value_of names trees) found)) ≡ None
  bad_of_none None is = refl
  bad_of_none (Some (Word token name)) is = refl
  bad_of_none (Some (Tree handle)) is = refl
  bad_of_none (Some (kinds.List children)) is = absurd (cc is)

  pub no_bad-seen : (stack : List Value) (depth : ℕ) → list_in (slice_get stack depth) ≡ None
      → bad_piece (values.parts_of (values.value_at (map (value_of names trees) stack) depth)) ≡ None
  no_bad-seen stack depth is =
      ap (λ value. bad_piece (values.parts_of value)) (value_at-seen (value_of names trees) stack depth) ∙ bad_of_none (slice_get stack depth) is

  length_of_none : (found : Option Value) → list_in found ≡ None → pieces_length (values.parts_of (seen (value_of names trees) found)) ≡ 0
  length_of_none None is = refl
  length_of_none (Some (Word token name)) is = refl
  length_of_none (Some (Tree handle)) is = refl
  length_of_none (Some (kinds.List children)) is = absurd (cc is)

  pub no_length-seen : (stack : List Value) (depth : ℕ) → list_in (slice_get stack depth) ≡ None
      → pieces_length (values.parts_of (values.value_at (map (value_of names trees) stack) depth)) ≡ 0
  no_length-seen stack depth is =
      ap (λ value. pieces_length (values.parts_of value)) (value_at-seen (value_of names trees) stack depth) ∙ length_of_none (slice_get stack depth) is

-- the handles of a list on the stack are known
list_in_front : (end : ℕ) (stack : List Value) (depth : ℕ) (pieces : List (ℕ × ℕ)) → list_all (has_handles_below end) stack ≡ true
    → list_in (slice_get stack depth) ≡ Some pieces → list_all (is_below end) pieces ≡ true
list_in_front end [] depth pieces below is = absurd (cc is)
list_in_front end (value ∷ stack) zero pieces below is = here value (and_parts (has_handles_below end value) (list_all (has_handles_below end) stack) below).0 is
  where
    here : (one : Value) → has_handles_below end one ≡ true → list_in (Some one) ≡ Some pieces → list_all (is_below end) pieces ≡ true
    here (Word token name) known stands = absurd (cc stands)
    here (Tree handle) known stands = absurd (cc stands)
    here (kinds.List children) known stands = sym (ap (list_all (is_below end)) (same_Some _ _ stands)) ∙ known
list_in_front end (value ∷ stack) (suc depth) pieces below is =
    list_in_front end stack depth pieces (and_parts (has_handles_below end value) (list_all (has_handles_below end) stack) below).1 is

pub list_known : (end : ℕ) (stack : List Value) (depth : ℕ) (pieces : List (ℕ × ℕ)) → list_all (has_handles_below end) stack ≡ true
    → list_in (slice_get (reverse stack) depth) ≡ Some pieces → list_all (is_below end) pieces ≡ true
list_known end stack depth pieces below is = list_in_front end (reverse stack) depth pieces (all-reverse (has_handles_below end) stack below) is

-- Names of nodes

all_at : {X : Type 0} (test : X → Bool) (xs : List X) (place : ℕ) (x : X) → list_all test xs ≡ true → slice_get xs place ≡ Some x → test x ≡ true
all_at test [] place x all is = absurd (cc is)
all_at test (first ∷ xs) zero x all is = sym (ap test (same_Some _ _ is)) ∙ (and_parts (test first) (list_all test xs) all).0
all_at test (first ∷ xs) (suc place) x all is = all_at test xs place x (and_parts (test first) (list_all test xs) all).1 is

-- the name of a node is known
pub node_name_known : (names : List (List ℕ)) (list : NodeList NameId) (handle : ℕ) (node : TreeNode NameId)
    → list_all (λ one. is_known names one.name) list.nodes ≡ true → HasNode list handle node → node.name.0 < length names
node_name_known names list handle node known has =
    ltb-true node.name.0 (length names) (all_at (λ (one : TreeNode NameId). is_known names one.name) list.nodes (handle - list.first) node known has.1)

-- and is that of its tree
pub node_name-seen : (names : List (List ℕ)) (list : NodeList NameId) → list.first ≡ 0 → ChildrenStandBefore list → (handle : ℕ) (node : TreeNode NameId) → HasNode list handle node
    → values.name_of (values.TreeValue (tree_at (spelled_trees names list) handle)) ≡ text_of names node.name
node_name-seen names list first order handle node has = ap (λ tree. values.name_of (values.TreeValue tree)) (node_seen names list first order handle node has)

-- One more piece is counted

module _ (trees : List SyntaxTree) where
  pub counted_none : (left pieces : List (ℕ × ℕ)) → left ≡ pieces → 0 + pieces_length (parts_at trees left) ≡ pieces_length (parts_at trees pieces)
  counted_none left pieces same =
      let all : pieces_length (parts_at trees left) ≡ pieces_length (parts_at trees pieces) = ap (λ list. pieces_length (parts_at trees list)) same in
      omega (arith, all)

  pub counted_more : (length whole bytes sum : ℕ) (left rest : List (ℕ × ℕ)) (piece : ℕ × ℕ) → left ≡ piece ∷ rest
      → length + pieces_length (parts_at trees left) ≡ whole → bytes ≡ piece_length (string_of (values.name_of (values.TreeValue (tree_at trees piece.0))))
      → sum ≡ length + bytes → sum + pieces_length (parts_at trees rest) ≡ whole
  counted_more length whole bytes sum left rest piece front so_far one more =
      let all : pieces_length (parts_at trees left) ≡ pieces_length (Part (role_of piece.1) (tree_at trees piece.0) (parts_at trees rest)) =
      ap (λ pieces. pieces_length (parts_at trees pieces)) front in
      let first = pieces_length-first (role_of piece.1) (tree_at trees piece.0) (parts_at trees rest) in
      omega (arith, all, first, so_far, one, more)

  -- what is bad in the pieces that are left, by the first of them
  bad_of_first : (left rest : List (ℕ × ℕ)) (piece : ℕ × ℕ) (text : List ℕ) (token : ℕ) → left ≡ piece ∷ rest
      → text ≡ values.name_of (values.TreeValue (tree_at trees piece.0)) → token ≡ values.stands_at (values.TreeValue (tree_at trees piece.0))
      → first_bad (string_of text) token (bad_piece (parts_at trees rest)) ≡ bad_piece (parts_at trees left)
  bad_of_first left rest piece text token front spelled stands =
      ap (λ name. first_bad (string_of name) token (bad_piece (parts_at trees rest))) spelled
      ∙ ap (λ at. first_bad (string_of (values.name_of (values.TreeValue (tree_at trees piece.0)))) at (bad_piece (parts_at trees rest))) stands
      ∙ sym (bad_piece-first (role_of piece.1) (tree_at trees piece.0) (parts_at trees rest))
      ∙ sym (ap (λ pieces. bad_piece (parts_at trees pieces)) front)

  -- the first of the pieces that are left isn't bad, so the first bad one is behind it
  pub unbroken_more : (whole : Option BadLiteral) (left rest : List (ℕ × ℕ)) (piece : ℕ × ℕ) (text : List ℕ) (token : ℕ) → left ≡ piece ∷ rest
      → bad_piece (parts_at trees left) ≡ whole → text ≡ values.name_of (values.TreeValue (tree_at trees piece.0))
      → token ≡ values.stands_at (values.TreeValue (tree_at trees piece.0)) → first_bad (string_of text) token None ≡ None → bad_piece (parts_at trees rest) ≡ whole
  unbroken_more whole left rest piece text token front so_far spelled stands good =
      sym (first_bad-none (string_of text) token (bad_piece (parts_at trees rest)) good)
      ∙ bad_of_first left rest piece text token front spelled stands ∙ so_far

  -- it is bad, and so the first bad one of all
  pub broken_here : (whole : Option BadLiteral) (left rest : List (ℕ × ℕ)) (piece : ℕ × ℕ) (text : List ℕ) (token : ℕ) (fault : ActionFault) → left ≡ piece ∷ rest
      → bad_piece (parts_at trees left) ≡ whole → text ≡ values.name_of (values.TreeValue (tree_at trees piece.0))
      → token ≡ values.stands_at (values.TreeValue (tree_at trees piece.0)) → IsOfBad (first_bad (string_of text) token None) fault → IsOfBad whole fault
  broken_here whole left rest piece text token fault front so_far spelled stands bad =
      subst (λ found. IsOfBad found fault) (bad_of_first left rest piece text token front spelled stands ∙ so_far)
      (IsOfBad-first (string_of text) token (bad_piece (parts_at trees rest)) fault bad)

  -- none is left, so none is bad
  pub unbroken_all : (whole : Option BadLiteral) (left : List (ℕ × ℕ)) → left ≡ [] → bad_piece (parts_at trees left) ≡ whole → whole ≡ None
  unbroken_all whole left none so_far = sym so_far ∙ ap (λ pieces. bad_piece (parts_at trees pieces)) none

  pub counted_all : (length whole : ℕ) (left : List (ℕ × ℕ)) → left ≡ [] → length + pieces_length (parts_at trees left) ≡ whole → length ≡ whole
  counted_all length whole left none so_far =
      let all : pieces_length (parts_at trees left) ≡ 0 = ap (λ pieces. pieces_length (parts_at trees pieces)) none in
      omega (arith, all, so_far)

-- the first of the pieces that are left, and those behind it, are known
pub first_below : (end : ℕ) (left rest : List (ℕ × ℕ)) (piece : ℕ × ℕ) → left ≡ piece ∷ rest → list_all (is_below end) left ≡ true → piece.0 < end
first_below end left rest piece front below =
    ltb-true piece.0 end (and_parts (is_below end piece) (list_all (is_below end) rest) (sym (ap (list_all (is_below end)) front) ∙ below)).0

pub rest_below : (end : ℕ) (left rest : List (ℕ × ℕ)) (piece : ℕ × ℕ) → left ≡ piece ∷ rest → list_all (is_below end) left ≡ true → list_all (is_below end) rest ≡ true
rest_below end left rest piece front below =
    (and_parts (is_below end piece) (list_all (is_below end) rest) (sym (ap (list_all (is_below end)) front) ∙ below)).1
