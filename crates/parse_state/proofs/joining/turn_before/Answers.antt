-- Both lists are taken, and what is put is the first one from the back, before the other.
use Rattle.std.proofs.Common.{◌≡◌, ℕ, ◌∷◌, ◌++◌, [], List, reverse, slice_get, take, ap, ap₂, ◌∙◌}
use Rattle.parse_state.specs.declared.value.Value.{Value}
use Rattle.parse_state.specs.declared.value.Value.TheVariants as kinds
use Rattle.parse_state.specs.Joining.{children_of, suffixes_before}
use Rattle.parse_state.specs.Making.{start_of}
use Rattle.parse_state.proofs.JoinedLists.{second_last, taken_twice}
use Rattle.parse_state.proofs.joining.turn_before.Goals as goal

pub returns : goal.returns
returns c =
    let items : List Value = c.args.values.now.items in
    let inner : c.take_list-inner.result ≡ children_of (slice_get (reverse c.args.values.now.items) 1) =
    c.take_list-inner.ensures.list
    ∙ ap (λ (stack : List Value). children_of (slice_get (reverse stack) 0)) c.take_list-suffixes.ensures.left
    ∙ ap children_of (second_last c.args.values.now.items) in
    let left : c.take_list-inner.new.values.items ≡ take (start_of c.args.values.now.items 2) c.args.values.now.items =
    c.take_list-inner.ensures.left
    ∙ ap (λ (stack : List Value). take (start_of stack 1) stack) c.take_list-suffixes.ensures.left
    ∙ taken_twice c.args.values.now.items in
    let joined : c.join.new.children ≡ suffixes_before c.args.values.now.items =
    c.in_ok-join.ensures
    ∙ ap₂ (λ (front back : List (ℕ × ℕ)). front ++ back) (c.in_ok-children.ensures ∙ ap reverse c.take_list-suffixes.ensures.list) inner in
    c.in_ok-push.ensures.items ∙ ap₂ (λ (front : List Value) (children : List (ℕ × ℕ)). front ++ kinds.List children ∷ []) left joined
