-- The slots behind the last mark are the entries of the innermost scope.
use Rattle.std.proofs.Common.{reverse, drop, length, ap, sym, ◌∙◌, arith}
use Rattle.std.proofs.lemmas.List.{length-reverse, reverse-reverse, take_rest}
use Rattle.meaning_scopes.specs.Scopes.{innermost}
use Rattle.c_scope.specs.Slots.{entries_in}
use Rattle.c_scope.proofs.StackLemmas.{entries-innermost, opened_in-within}
use Rattle.c_scope.proofs.scopes.Scopes.keep.Goals as goal

pub slice_bounds-bindings_of-count : goal.slice_bounds-bindings_of-count
slice_bounds-bindings_of-count c =
    omega (arith, c.self.invariant.opened_at, opened_in-within (reverse c.self.inside.slots.items), length-reverse c.self.inside.slots.items, ap length c.deref.ensures.value)

pub slice_bounds-bindings_of-start : goal.slice_bounds-bindings_of-start
slice_bounds-bindings_of-start c =
    omega (arith, c.self.invariant.opened_at, opened_in-within (reverse c.self.inside.slots.items), length-reverse c.self.inside.slots.items, ap length c.deref.ensures.value)

pub returns-clause-kept : goal.returns-clause-kept
returns-clause-kept c =
    let stack = reverse c.self.inside.slots.items in
    c.in_ok-kept.ensures
    ∙ ap entries_in (take_rest c.deref.result.now c.self.inside.opened)
    ∙ ap (λ slots. entries_in (drop c.self.inside.opened slots)) (c.deref.ensures.value ∙ sym (reverse-reverse c.self.inside.slots.items))
    ∙ ap (λ opened. entries_in (drop opened (reverse stack))) c.self.invariant.opened_at
    ∙ entries-innermost stack
    ∙ ap (λ items. reverse (innermost items)) c.self.view_is
