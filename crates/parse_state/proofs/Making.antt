-- What a node and a list that are made of the last values do to the state.
use Rattle.std.proofs.Common.{◌≡◌, ℕ, ◌+◌, ◌<◌, Bool, true, List, [], ◌∷◌, ◌++◌, reverse, take, drop, length, slice_get, Some, if◌then◌else◌, sym, ap, ap₂, ◌∙◌}
use Rattle.std.specs.List.{list_all}
use Rattle.std.proofs.lemmas.Bool.{lt-ltb}
use Rattle.std.proofs.lemmas.List.{length-append}
use Rattle.vocabulary.specs.declared.limit.LimitKind.TheVariants.{Nodes}
use Rattle.meaning_tree.specs.Trees.{SyntaxTree, Node, Parts}
use Rattle.meaning_tree.specs.Nodes.{TreeNode, with_node}
use Rattle.meaning_tree.specs.Listed.{parts_at}
use Rattle.meaning_derivation.specs.Values.{TreeValue, ListValue}
use Rattle.meaning_derivation.specs.Values as values
use Rattle.meaning_derivation.specs.State.{State, PassesLimit, Goes, Refuses, made, pushed, with_value}
use Rattle.sparse_model.specs.declared.ids.NameId.{NameId}
use Rattle.c_tokens.specs.Seen.{text_of}
use Rattle.parse_state.specs.declared.value.Value.{Value}
use Rattle.parse_state.specs.declared.value.Value.TheVariants.{Tree}
use Rattle.parse_state.specs.declared.value.Value.TheVariants as kinds
use Rattle.parse_state.specs.declared.shape.Source.{Source}
use Rattle.parse_state.specs.declared.shape.Shape.{Shape}
use Rattle.parse_state.specs.Seen.{Read, state_of, value_of, spelled_trees}
use Rattle.parse_state.specs.Sources.{IsCovered, made_tree, parts_given}
use Rattle.parse_state.specs.Giving.{has_handles_below, children_in}
use Rattle.parse_state.specs.Making.{start_of, node_with}
use Rattle.parse_state.specs.Asking.{name_in_at}
use Rattle.parse_state.proofs.Seeing.{spelling_at-seen, values_of-pushed, values_of-made, values_of-collected}
use Rattle.parse_state.proofs.Covering.{children-given}

-- what was read with another stack
abbrev pub with_stack : Read → List Value → Read
with_stack read stack = record read { stack = stack }

-- a value on top
pub pushed_is : (read : Read) (value : Value)
    → state_of (with_stack read (read.stack ++ value ∷ [])) ≡ pushed (value_of read.names (spelled_trees read.names read.list) value) (state_of read)
pushed_is read value = ap (λ (stacked : List values.Value). record (state_of read) { values = stacked }) (values_of-pushed read.names read.list read.stack value)

-- a list in the place of the last values
pub collected_is : (read : Read) (takes : ℕ) (sources : List Source) → IsCovered (state_of read).values takes sources
    → state_of (with_stack read (take (start_of read.stack takes) read.stack ++ kinds.List (children_in (drop (start_of read.stack takes) read.stack) sources) ∷ []))
    ≡ with_value (state_of read) takes (ListValue (parts_given (state_of read).values sources))
collected_is read takes sources covered =
    ap (λ (stacked : List values.Value). record (state_of read) { values = stacked })
    (values_of-collected read.names read.list read.stack takes (children_in (drop (start_of read.stack takes) read.stack) sources)
    ∙ ap (λ (parts : Parts (List ℕ)). ListValue parts ∷ drop takes (state_of read).values) (children-given read.names read.list read.stack takes sources covered))

-- the tree of the node that is made
tree_is : (read : Read) (shape : Shape) → slice_get read.names 0 ≡ Some [] → IsCovered (state_of read).values shape.takes shape.sources.now
    → Node shape.kind shape.token (text_of read.names (name_in_at (reverse read.stack) shape.name)) shape.number
    (parts_at (spelled_trees read.names read.list) (children_in (drop (start_of read.stack shape.takes) read.stack) shape.sources.now))
    ≡ made_tree shape (state_of read).values
tree_is read shape empty covered =
    ap₂ (λ (name : List ℕ) (parts : Parts (List ℕ)). Node shape.kind shape.token name shape.number parts)
    (sym (spelling_at-seen read.names (spelled_trees read.names read.list) empty (reverse read.stack) shape.name))
    (children-given read.names read.list read.stack shape.takes shape.sources.now covered)

-- the node that is made, and its tree on top
abbrev pub with_made : Read → Shape → Read
with_made read shape =
    record read {
      list = with_node read.list (node_with shape (name_in_at (reverse read.stack) shape.name) (children_in (drop (start_of read.stack shape.takes) read.stack) shape.sources.now));
      stack = take (start_of read.stack shape.takes) read.stack ++ Tree (length read.list.nodes) ∷ [];
    }

pub made_goes : (read : Read) (shape : Shape) → slice_get read.names 0 ≡ Some [] → list_all (has_handles_below (length read.list.nodes)) read.stack ≡ true
    → length read.list.nodes < 16000000 → IsCovered (state_of read).values shape.takes shape.sources.now
    → made (state_of read) shape.takes (made_tree shape (state_of read).values) ≡ Goes (state_of (with_made read shape))
made_goes read shape empty known room covered =
    let s : State = state_of read in
    let children : List (ℕ × ℕ) = children_in (drop (start_of read.stack shape.takes) read.stack) shape.sources.now in
    let node : TreeNode NameId = node_with shape (name_in_at (reverse read.stack) shape.name) children in
    let tree : SyntaxTree = made_tree shape s.values in
    let stacked : TreeValue tree ∷ drop shape.takes s.values ≡ (state_of (with_made read shape)).values =
    ap (λ (made_one : SyntaxTree). TreeValue made_one ∷ drop shape.takes s.values) (sym (tree_is read shape empty covered))
    ∙ sym (values_of-made read.names read.list read.stack shape.takes node known) in
    let counted : s.nodes + 1 ≡ length (read.list.nodes ++ node ∷ []) = sym (length-append read.list.nodes (node ∷ [])) in
    ap (λ (test : Bool). if test then Goes (record s { values = TreeValue tree ∷ drop shape.takes s.values; nodes = s.nodes + 1 }) else Refuses (PassesLimit Nodes) s.next_token)
    (lt-ltb (length read.list.nodes) 16000000 room)
    ∙ ap₂ (λ (all : List values.Value) (count : ℕ). Goes (record s { values = all; nodes = count })) stacked counted
