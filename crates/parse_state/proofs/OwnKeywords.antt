-- Specifiers that are a declaration on their own: whether they are a lone tag, and what becomes of them then.
use Rattle.std.proofs.Common.{◌≡◌, ℕ, suc, ◌+◌, ◌-◌, ◌<◌, ◌≤◌, Bool, true, false, ◌&&◌, List, [], ◌∷◌, ◌++◌, map, nat_lt, reverse, drop, length, slice_get, Option, Some, None, IfSome, IfNone, All, refl, sym, ap, ap₂, subst, ◌∙◌, arith, if◌then◌else◌}
use Rattle.std.specs.List.{list_all}
use Rattle.std.proofs.lemmas.List.{reverse-reverse}
use Rattle.std.proofs.lemmas.List.Elements.{All-head}
use Rattle.std.proofs.lemmas.Option.{same_Some, slice_get_within}
use Rattle.vocabulary.specs.declared.node_kind.NodeKind.{NodeKind}
use Rattle.vocabulary.specs.declared.role.Role.{Role}
use Rattle.vocabulary.specs.declared.scope.NameSpace.TheVariants.{Tags}
use Rattle.vocabulary.specs.declared.scope.Bound.TheVariants.{Tag}
use Rattle.vocabulary.specs.Roles.{role_of}
use Rattle.meaning_tree.specs.Trees.{SyntaxTree, Node, Parts, NoParts, Part}
use Rattle.meaning_tree.specs.Nodes.{TreeNode, NodeList, HasNode, ChildrenStandBefore, end_of}
use Rattle.meaning_tree.specs.Runs.{IsRun, run}
use Rattle.meaning_tree.specs.Listed.{tree_at, parts_at}
use Rattle.meaning_tree.proofs.Finding.{node_unique}
use Rattle.meaning_tree.proofs.Runs.{run-rises}
use Rattle.meaning_tree.proofs.Listing.{parts_at-stays}
use Rattle.meaning_scopes.specs.Scopes.{Binds}
use Rattle.meaning_derivation.specs.Values as values
use Rattle.meaning_derivation.specs.Values.{TreeValue, value_at}
use Rattle.meaning_derivation.specs.State.{ClosedList, State, Goes}
use Rattle.meaning_derivation.specs.Storage.{has_kind}
use Rattle.meaning_derivation.specs.Scoping.{is_member_list, is_lone_tag, is_new_here, with_own_keyword, tag_declared}
use Rattle.sparse_model.specs.declared.ids.NameId.{NameId}
use Rattle.c_tokens.specs.Seen.{text_of}
use Rattle.c_scope.specs.Seen.{entry_with}
use Rattle.c_tree.specs.Numbers.{numbered_at, with_number}
use Rattle.c_tree.proofs.Numbers.{length-numbered}
use Rattle.parse_state.specs.declared.value.Value.{Value}
use Rattle.parse_state.specs.declared.value.Value.TheVariants.{Word, Tree}
use Rattle.parse_state.specs.declared.value.Value.TheVariants as kinds
use Rattle.parse_state.specs.Asking.{handle_in}
use Rattle.parse_state.specs.Giving.{is_below, has_handles_below}
use Rattle.parse_state.specs.Lying.{AreStacked}
use Rattle.parse_state.specs.OnlyTrees.{only_child}
use Rattle.parse_state.specs.Seen.{Read, state_of, value_of, values_of, spelled_trees}
use Rattle.parse_state.specs.Soundness.{IsSound}
use Rattle.parse_state.specs.Storage.{has_child}
use Rattle.parse_state.specs.Tags.{IsLone, is_new_tag}
use Rattle.parse_state.proofs.DeclaredNames.{kinds-seen}
use Rattle.parse_state.proofs.Lying.{run-of_one, stacked-parted}
use Rattle.parse_state.proofs.Numbered.{last_two, numbered-last, stacked-handles, trees_before, top_tree, all_trees, count, values_numbered}
use Rattle.parse_state.proofs.Parts.{node_seen, tree_seen, no_tree_seen}
use Rattle.parse_state.proofs.Sound.{all-weaker, handles-later}
use Rattle.parse_state.proofs.SpecifiedKinds.{below_end, children_known}
use Rattle.parse_state.proofs.Stacks.{reverse-cons}

-- The only specifier

only_is : (children : List (ℕ × ℕ)) (specifier : ℕ) → only_child children ≡ Some specifier → (tag : ℕ) × (children ≡ (specifier, tag) ∷ [])
only_is [] specifier is = absurd (cc is)
only_is (child ∷ []) specifier is = (child.1, ap (λ (handle : ℕ). (handle, child.1) ∷ []) (same_Some child.0 specifier is))
only_is (child ∷ other ∷ children) specifier is = absurd (cc is)

-- more than one part
of_many : (s : State) (kind : NodeKind) (token number : ℕ) (name : List ℕ) (role other_role : Role) (tree other : SyntaxTree) (others : Parts (List ℕ))
    → tag_declared s (TreeValue (Node kind token name number (Part role tree (Part other_role other others)))) ≡ Goes s
of_many s kind token number name role other_role (Node its_kind its_token its_name its_number its_parts) other others = refl

of_no_lone : (s : State) (trees : List SyntaxTree) (kind : NodeKind) (token number : ℕ) (name : List ℕ) (children : List (ℕ × ℕ)) → only_child children ≡ None
    → tag_declared s (TreeValue (Node kind token name number (parts_at trees children))) ≡ Goes s
of_no_lone s trees kind token number name [] is = refl
of_no_lone s trees kind token number name (child ∷ []) is = absurd (cc is)
of_no_lone s trees kind token number name (child ∷ other ∷ children) is =
    of_many s kind token number name (role_of child.1) (role_of other.1) (tree_at trees child.0) (tree_at trees other.0) (parts_at trees children)

module _ (read : Read) where
  abbrev here : Type 0
  here = tag_declared (state_of read) (value_at (state_of read).values 0) ≡ Goes (state_of read)

  pub no_tree : handle_in (slice_get (reverse read.stack) 0) ≡ None → here
  no_tree none =
      no_tree_seen read.names (spelled_trees read.names read.list) (tag_declared (state_of read)) (Goes (state_of read)) (λ token text. refl) (λ parts. refl)
      (reverse read.stack) 0 none

  module _ (first : read.list.first ≡ 0) (order : ChildrenStandBefore read.list) (tree : ℕ) (node : TreeNode NameId)
      (top : handle_in (slice_get (reverse read.stack) 0) ≡ Some tree) (has : HasNode read.list tree node) where
    pub lone : (found : Option ℕ) → found ≡ only_child node.children → IfSome found (IsLone read)
    lone None is = tt
    lone (Some specifier) is =
        let (tag, only) = only_is node.children specifier (sym is) in record { tree = tree; top = top; node = node; has = has; tag = tag; only = only }

    pub not_lone : (found : Option ℕ) → found ≡ only_child node.children → IfNone found here
    not_lone (Some specifier) is = tt
    not_lone None is =
        ap (tag_declared (state_of read))
        (tree_seen read.names (spelled_trees read.names read.list) (reverse read.stack) 0 tree top ∙ ap TreeValue (node_seen read.names read.list first order tree node has))
        ∙ of_no_lone (state_of read) (spelled_trees read.names read.list) node.kind node.token node.number (text_of read.names node.name) node.children (sym is)

  -- the specifier stands before the tree
  pub lone_below : (specifier : ℕ) → ChildrenStandBefore read.list → IsLone read specifier → specifier < end_of read.list
  lone_below specifier order is =
      let all = subst (λ (children : List (ℕ × ℕ)). All (λ child. (read.list.first ≤ child.0) × (child.0 < is.tree)) children) is.only (order is.tree is.node is.has) in
      let one = All-head (λ (child : ℕ × ℕ). (read.list.first ≤ child.0) × (child.0 < is.tree)) (specifier, is.tag) [] all in
      let before = one.1 in
      let within : is.tree - read.list.first < length read.list.nodes = slice_get_within read.list.nodes (is.tree - read.list.first) is.node is.has.1 in
      let from = is.has.0 in
      omega (arith, before, within, from)

-- A specifier that isn't a lone tag, or whose tag the scope has

unless_new : (test : Bool) (first other : State) → test ≡ false → Goes (if test then first else other) ≡ Goes other
unless_new true first other is = absurd (cc is)
unless_new false first other is = refl

pub not_new :
    (read : Read) → read.list.first ≡ 0 → ChildrenStandBefore read.list → (specifier : ℕ) (node : TreeNode NameId) → HasNode read.list specifier node → IsLone read specifier
    → is_new_tag read node ≡ false → tag_declared (state_of read) (value_at (state_of read).values 0) ≡ Goes (state_of read)
not_new read first order specifier node has is old =
    let s : State = state_of read in
    let names = read.names in
    let trees = spelled_trees names read.list in
    let over : Parts (List ℕ) → SyntaxTree = λ parts. Node is.node.kind is.node.token (text_of names is.node.name) is.node.number parts in
    let members = kinds-seen names read.list first order is_member_list node.children (children_known names read.list first order specifier node has) in
    ap (tag_declared s) (tree_seen names trees (reverse read.stack) 0 is.tree is.top ∙ ap TreeValue (node_seen names read.list first order is.tree is.node is.has))
    ∙ ap (λ (children : List (ℕ × ℕ)). tag_declared s (TreeValue (over (parts_at trees children)))) is.only
    ∙ ap (λ (tree : SyntaxTree). tag_declared s (TreeValue (over (Part (role_of is.tag) tree NoParts)))) (node_seen names read.list first order specifier node has)
    ∙ unless_new (is_lone_tag node.kind (text_of names node.name) (has_kind is_member_list (parts_at trees node.children)) && is_new_here s (text_of names node.name)) _ s
    (ap (λ (has_members : Bool). is_lone_tag node.kind (text_of names node.name) has_members && is_new_here s (text_of names node.name)) members ∙ old)

-- The tree on top

handle_on_top : (turned : List Value) (tree : ℕ) → handle_in (slice_get turned 0) ≡ Some tree → (rest : List Value) × (turned ≡ Tree tree ∷ rest)
handle_on_top [] tree is = absurd (cc is)
handle_on_top (Word token name ∷ rest) tree is = absurd (cc is)
handle_on_top (Tree other ∷ rest) tree is = (rest, ap (λ (one : ℕ). Tree one ∷ rest) (same_Some other tree is))
handle_on_top (kinds.List children ∷ rest) tree is = absurd (cc is)

on_top : (stack : List Value) (tree : ℕ) → handle_in (slice_get (reverse stack) 0) ≡ Some tree → (below : List Value) × (stack ≡ below ++ Tree tree ∷ [])
on_top stack tree is =
    let (rest, turned) = handle_on_top (reverse stack) tree is in
    (reverse rest, sym (reverse-reverse stack) ∙ ap reverse turned ∙ reverse-cons (Tree tree) rest)

-- the run of a tree's only child ends directly before the tree
lone_run : (list : NodeList NameId) (first tree specifier tag : ℕ) (node : TreeNode NameId) → HasNode list tree node → node.children ≡ (specifier, tag) ∷ []
    → IsRun list first tree → (first ≤ specifier) × (specifier + 1 ≡ tree)
lone_run list first tree specifier tag node has only (run other also runs) =
    let same = node_unique list tree other node also has in
    let one = run-of_one list runs (specifier, tag) (ap (λ (it : TreeNode NameId). it.children) same ∙ only) in
    (run-rises list one.0, one.1)

-- The keyword

own_keyword-true : (test : Bool) (first other : State) → test ≡ true → Goes (if test then first else other) ≡ Goes first
own_keyword-true true first other is = refl
own_keyword-true false first other is = absurd (cc is)

module _ (read : Read) (closed : List (ClosedList NameId)) (sound : IsSound read.names read.list read.stack read.scopes closed) (order : ChildrenStandBefore read.list)
    (specifier : ℕ) (node : TreeNode NameId) (has : HasNode read.list specifier node) (lone : IsLone read specifier) (new : is_new_tag read node ≡ true) where
  -- what was read, with its own keyword as the specifier's number
  abbrev pub with_keyword : Read
  with_keyword =
      record read { list = with_number read.list specifier node.token; scopes = Binds (entry_with Tags node.name node.token Tag) ∷ read.scopes }

  pub own_keyword : tag_declared (state_of read) (value_at (state_of read).values 0) ≡ Goes (state_of with_keyword)
  own_keyword =
      let (below, stack_is) = on_top read.stack lone.tree lone.top in
      let (middle, front_laid, tree_laid) = stacked-parted read.list below (Tree lone.tree ∷ []) read.list.first (end_of read.list)
      (subst (λ (stack : List Value). AreStacked read.list stack read.list.first (end_of read.list)) stack_is sound.laid) in
      let (rises, next) = lone_run read.list middle lone.tree specifier lone.tag lone.node lone.has lone.only tree_laid.0 in
      let ends = tree_laid.1 in
      let zero_first = sound.first in
      let handles : list_all (has_handles_below specifier) below ≡ true =
      all-weaker (has_handles_below middle) (has_handles_below specifier) (handles-later middle specifier rises) below (stacked-handles read.list below read.list.first middle front_laid) in
      let place : specifier - read.list.first ≡ specifier = omega (arith, zero_first) in
      let next_place : lone.tree - read.list.first ≡ suc specifier = omega (arith, zero_first, next) in
      let (front, nodes_are, many) = last_two read.list.nodes specifier node lone.node
      (ap (slice_get read.list.nodes) (sym place) ∙ has.1) (ap (slice_get read.list.nodes) (sym next_place) ∙ lone.has.1) (omega (arith, zero_first, next, ends)) in
      let tree_next : lone.tree ≡ suc specifier = omega (arith, next) in
      let stacked : read.stack ≡ below ++ Tree (suc specifier) ∷ [] = stack_is ∙ ap (λ (tree : ℕ). below ++ Tree tree ∷ []) tree_next in
      rest_of below front many handles nodes_are stacked
    where
      rest_of : (below : List Value) (front : List (TreeNode NameId)) → length front ≡ specifier → list_all (has_handles_below specifier) below ≡ true
          → read.list.nodes ≡ front ++ node ∷ lone.node ∷ [] → read.stack ≡ below ++ Tree (suc specifier) ∷ []
          → tag_declared (state_of read) (value_at (state_of read).values 0) ≡ Goes (state_of with_keyword)
      rest_of below front many handles nodes_are stacked =
          let names = read.names in
          let s : State = state_of read in
          let text = text_of names node.name in
          let before = trees_before names read.list.first front node lone.node specifier lone.tag many lone.only in
          let all = spelled_trees names read.list in
          let tree_with = top_tree names read.list.first front node lone.node specifier lone.tag many lone.only in
          let others : List values.Value = map (value_of names before) (reverse below) in
          let list_is : read.list ≡ record { first = read.list.first; nodes = front ++ node ∷ lone.node ∷ [] } =
          ap (λ (nodes : List (TreeNode NameId)). record { first = read.list.first; nodes = nodes }) nodes_are in
          let old : s.values ≡ TreeValue (tree_with node.number) ∷ others =
          ap₂ (λ (list : NodeList NameId) (stack : List Value). values_of names list stack) list_is stacked
          ∙ values_numbered names read.list.first front node lone.node specifier lone.tag many lone.only below handles node.number in
          let zero_first = sound.first in
          let place : specifier - read.list.first ≡ specifier = omega (arith, zero_first) in
          let new_nodes : (with_number read.list specifier node.token).nodes ≡ front ++ record node { number = node.token } ∷ lone.node ∷ [] =
          ap₂ (λ (nodes : List (TreeNode NameId)) (at : ℕ). numbered_at nodes at node.token) nodes_are place
          ∙ numbered-last front node lone.node specifier node.token many in
          let now : (state_of with_keyword).values ≡ TreeValue (tree_with node.token) ∷ others =
          ap₂ (λ (nodes : List (TreeNode NameId)) (stack : List Value). values_of names (record { first = read.list.first; nodes = nodes }) stack) new_nodes stacked
          ∙ values_numbered names read.list.first front node lone.node specifier lone.tag many lone.only below handles node.token in
          let long : length before ≡ specifier = count names read.list.first front node lone.node specifier lone.tag many lone.only in
          let all_are = ap (spelled_trees names) list_is ∙ all_trees names read.list.first front node lone.node specifier lone.tag many lone.only node.number in
          let within : list_all (λ (child : ℕ × ℕ). nat_lt child.0 (length before)) node.children ≡ true =
          ap (λ (end : ℕ). list_all (is_below end) node.children) long ∙ below_end read.list.first specifier specifier (omega arith) node.children (order specifier node has) in
          let same_parts : parts_at all node.children ≡ parts_at before node.children =
          ap (λ trees. parts_at trees node.children) all_are ∙ parts_at-stays before _ node.children within in
          let members : has_kind is_member_list (parts_at before node.children) ≡ has_child is_member_list read.list node.children =
          ap (has_kind is_member_list) (sym same_parts)
          ∙ kinds-seen names read.list sound.first order is_member_list node.children (children_known names read.list sound.first order specifier node has) in
          let test : (is_lone_tag node.kind text (has_kind is_member_list (parts_at before node.children)) && is_new_here s text) ≡ true =
          ap (λ (has_members : Bool). is_lone_tag node.kind text has_members && is_new_here s text) members ∙ new in
          let counted : s.nodes ≡ (state_of with_keyword).nodes = sym (length-numbered read.list.nodes (specifier - read.list.first) node.token) in
          ap (λ (all_values : List values.Value). tag_declared s (value_at all_values 0)) old
          ∙ own_keyword-true (is_lone_tag node.kind text (has_kind is_member_list (parts_at before node.children)) && is_new_here s text)
          (with_own_keyword s text node.token (tree_with node.token)) s test
          ∙ ap₂ (λ (all_values : List values.Value) (nodes : ℕ). Goes (record (with_own_keyword s text node.token (tree_with node.token)) { values = all_values; nodes = nodes }))
          (ap (λ (all_values : List values.Value). TreeValue (tree_with node.token) ∷ drop 1 all_values) old ∙ sym now) counted
