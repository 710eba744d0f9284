-- The parameter stands among the nodes of the declarator below the top.
use Rattle.std.proofs.Common.{◌≡◌, length, map, option_map, reverse, slice_get, Some, None, refl, sym, ap, subst, ◌∙◌, arith}
use Rattle.std.specs.Str.{bytes_eq}
use Rattle.std.proofs.lemmas.Bool.{lt-ltb}
use Rattle.vocabulary.specs.declared.scope.NameSpace.TheVariants.{Ordinary}
use Rattle.meaning_tree.specs.Nodes.{NodeList}
use Rattle.meaning_scopes.specs.Scopes.{find, renamed}
use Rattle.meaning_derivation.specs.Values.{value_at}
use Rattle.meaning_derivation.specs.Scoping.{found_name, hidden_by_body, own_name_hidden}
use Rattle.sparse_model.specs.declared.ids.NameId.{NameId}
use Rattle.c_scope.specs.Seen.{same_name, told_of}
use Rattle.c_tokens.specs.Seen.{text_of}
use Rattle.parse_state.specs.Asking.{handle_in}
use Rattle.parse_state.specs.Looking.{found_told}
use Rattle.parse_state.specs.OwnNames.{own_parameter, told_by_body}
use Rattle.parse_state.specs.Seen.{Read, closed_seen, spelled_trees, state_of}
use Rattle.parse_state.specs.Soundness.{IsSound}
use Rattle.parse_state.proofs.DeclaredNames.{node_name_known}
use Rattle.parse_state.proofs.Naming.{find-spelled, found_told-renamed}
use Rattle.parse_state.proofs.Numbered.{sound_numbered}
use Rattle.parse_state.proofs.OwnNameHidden.{body_told, nothing_hidden, own_hidden, target_below}
use Rattle.parse_state.proofs.Parts.{handle_known, no_tree_seen}
use Rattle.parse_state.proofs.state.ParseState.hide_own_name.Goals as goal

pub returns-in_default-clause-state : goal.returns-in_default-clause-state
returns-in_default-clause-state c =
    let read : Read =
    record {
      names = c.self.inside.names.now;
      list = c.self.inside.unit;
      stack = c.self.inside.values.items;
      scopes = c.self.inside.scopes;
      taken = c.self.inside.taken;
      next_token = c.self.inside.next_token;
      last_token = c.self.inside.last_token;
      passed = c.self.inside.passed;
      held = c.self.inside.held;
      function_end = c.self.inside.function_end;
      closed = map closed_seen c.self.inside.closed.items;
      awaited = c.self.inside.awaited;
      tokens = c.self.inside.tokens.now;
    } in
    let none : handle_in (slice_get (reverse c.self.inside.values.items) 1) ≡ None =
    sym (ap (λ stack. handle_in (slice_get (reverse stack) 1)) c.deref.ensures.value) ∙ sym c.tree_at.ensures ∙ c.in_default.is in
    sym (ap state_of c.self.view_is)
    ∙ sym (no_tree_seen c.self.inside.names.now (spelled_trees c.self.inside.names.now c.self.inside.unit) (λ value. own_name_hidden (state_of read) value) (state_of read)
    (λ token text. refl) (λ parts. refl) (reverse c.self.inside.values.items) 1 none)
    ∙ ap (λ (seen : Read). own_name_hidden (state_of seen) (value_at (state_of seen).values 1)) c.self.view_is

pub name_of_node-named-requires-clause-below : goal.name_of_node-named-requires-clause-below
name_of_node-named-requires-clause-below c =
    let here : handle_in (slice_get (reverse c.self.inside.values.items) 1) ≡ Some c.in-Some.declarator =
    sym (c.in-Some.ensures ∙ ap (λ stack. handle_in (slice_get (reverse stack) 1)) c.deref.ensures.value) in
    let below = handle_known (length c.self.inside.unit.nodes) c.self.inside.values.items 1 c.in-Some.declarator c.self.invariant.handles here in
    let first = c.self.invariant.first in
    omega (arith, below, first)

pub own_parameter-requires-clause-below : goal.own_parameter-requires-clause-below
own_parameter-requires-clause-below c =
    let here : handle_in (slice_get (reverse c.self.inside.values.items) 1) ≡ Some c.in-Some.declarator =
    sym (c.in-Some.ensures ∙ ap (λ stack. handle_in (slice_get (reverse stack) 1)) c.deref.ensures.value) in
    let below = handle_known (length c.self.inside.unit.nodes) c.self.inside.values.items 1 c.in-Some.declarator c.self.invariant.handles here in
    let first = c.self.invariant.first in
    omega (arith, below, first)

pub set_number-requires-clause-below : goal.set_number-requires-clause-below
set_number-requires-clause-below c =
    let read : Read =
    record {
      names = c.self.inside.names.now;
      list = c.self.inside.unit;
      stack = c.self.inside.values.items;
      scopes = c.self.inside.scopes;
      taken = c.self.inside.taken;
      next_token = c.self.inside.next_token;
      last_token = c.self.inside.last_token;
      passed = c.self.inside.passed;
      held = c.self.inside.held;
      function_end = c.self.inside.function_end;
      closed = map closed_seen c.self.inside.closed.items;
      awaited = c.self.inside.awaited;
      tokens = c.self.inside.tokens.now;
    } in
    let here : handle_in (slice_get (reverse c.self.inside.values.items) 1) ≡ Some c.in-Some.declarator =
    sym (c.in-Some.ensures ∙ ap (λ stack. handle_in (slice_get (reverse stack) 1)) c.deref.ensures.value) in
    let (node, has, is) = c.name_of_node-named.ensures in
    let found : own_parameter c.self.inside.unit node.name c.in-Some.declarator ≡ Some c.in-Some-own_parameter.parameter =
    ap (λ (id : NameId). own_parameter c.self.inside.unit id c.in-Some.declarator) is.0 ∙ sym c.in-Some-own_parameter.ensures in
    target_below read (map closed_seen c.self.inside.closed.items) c.self.invariant c.each_node_stands_for_one_tree.ensures.order c.apart.ensures.apart c.in-Some.declarator node has here
    c.in-Some-own_parameter.parameter found

pub invariant_of-self : goal.invariant_of-self
invariant_of-self c =
    let names = c.self.inside.names.now in
    let closed = map closed_seen c.self.inside.closed.items in
    subst (λ (list : NodeList NameId). IsSound names list c.self.inside.values.items c.self.inside.scopes closed) (sym c.set_number.ensures)
    (sound_numbered names c.self.inside.unit c.self.inside.values.items c.self.inside.scopes closed c.in-Some-own_parameter.parameter c.told_by_body-number.result c.self.invariant)

pub returns-in-Some-own_parameter-clause-state : goal.returns-in-Some-own_parameter-clause-state
returns-in-Some-own_parameter-clause-state c =
    let read : Read =
    record {
      names = c.self.inside.names.now;
      list = c.self.inside.unit;
      stack = c.self.inside.values.items;
      scopes = c.self.inside.scopes;
      taken = c.self.inside.taken;
      next_token = c.self.inside.next_token;
      last_token = c.self.inside.last_token;
      passed = c.self.inside.passed;
      held = c.self.inside.held;
      function_end = c.self.inside.function_end;
      closed = map closed_seen c.self.inside.closed.items;
      awaited = c.self.inside.awaited;
      tokens = c.self.inside.tokens.now;
    } in
    let names = c.self.inside.names.now in
    let here : handle_in (slice_get (reverse c.self.inside.values.items) 1) ≡ Some c.in-Some.declarator =
    sym (c.in-Some.ensures ∙ ap (λ stack. handle_in (slice_get (reverse stack) 1)) c.deref.ensures.value) in
    let (node, has, is) = c.name_of_node-named.ensures in
    let found : own_parameter c.self.inside.unit node.name c.in-Some.declarator ≡ Some c.in-Some-own_parameter.parameter =
    ap (λ (id : NameId). own_parameter c.self.inside.unit id c.in-Some.declarator) is.0 ∙ sym c.in-Some-own_parameter.ensures in
    let known = lt-ltb node.name.0 (length names) (node_name_known names c.self.inside.unit c.in-Some.declarator node c.self.invariant.node_names has) in
    let told : c.find.result ≡ option_map found_told (find bytes_eq (renamed (text_of names) c.self.inside.scopes) Ordinary (text_of names node.name)) =
    c.find.ensures
    ∙ ap (λ (id : NameId). option_map told_of (find same_name c.self.inside.scopes Ordinary id)) (sym is.0)
    ∙ sym (found_told-renamed names (find same_name c.self.inside.scopes Ordinary node.name))
    ∙ ap (option_map found_told) (sym (find-spelled names c.apart.ensures.apart c.self.inside.scopes Ordinary node.name c.self.invariant.bound_names known)) in
    let hides : c.told_by_body-number.result ≡ hidden_by_body (found_name (state_of read) Ordinary (text_of names node.name)) =
    c.told_by_body-number.ensures ∙ ap told_by_body told ∙ sym (body_told (find bytes_eq (renamed (text_of names) c.self.inside.scopes) Ordinary (text_of names node.name))) in
    ap (λ (list : NodeList NameId). state_of (record read { list = list })) c.set_number.ensures
    ∙ own_hidden read (map closed_seen c.self.inside.closed.items) c.self.invariant c.each_node_stands_for_one_tree.ensures.order c.apart.ensures.apart c.in-Some.declarator node has here
    c.in-Some-own_parameter.parameter found c.told_by_body-number.result hides
    ∙ ap (λ (seen : Read). own_name_hidden (state_of seen) (value_at (state_of seen).values 1)) c.self.view_is

pub returns-in-None-clause-state : goal.returns-in-None-clause-state
returns-in-None-clause-state c =
    let read : Read =
    record {
      names = c.self.inside.names.now;
      list = c.self.inside.unit;
      stack = c.self.inside.values.items;
      scopes = c.self.inside.scopes;
      taken = c.self.inside.taken;
      next_token = c.self.inside.next_token;
      last_token = c.self.inside.last_token;
      passed = c.self.inside.passed;
      held = c.self.inside.held;
      function_end = c.self.inside.function_end;
      closed = map closed_seen c.self.inside.closed.items;
      awaited = c.self.inside.awaited;
      tokens = c.self.inside.tokens.now;
    } in
    let here : handle_in (slice_get (reverse c.self.inside.values.items) 1) ≡ Some c.in-Some.declarator =
    sym (c.in-Some.ensures ∙ ap (λ stack. handle_in (slice_get (reverse stack) 1)) c.deref.ensures.value) in
    let (node, has, is) = c.name_of_node-named.ensures in
    let none : own_parameter c.self.inside.unit node.name c.in-Some.declarator ≡ None =
    ap (λ (id : NameId). own_parameter c.self.inside.unit id c.in-Some.declarator) is.0 ∙ sym c.in-None.ensures in
    sym (ap state_of c.self.view_is)
    ∙ nothing_hidden read (map closed_seen c.self.inside.closed.items) c.self.invariant c.each_node_stands_for_one_tree.ensures.order c.apart.ensures.apart c.in-Some.declarator node has here none
    ∙ ap (λ (seen : Read). own_name_hidden (state_of seen) (value_at (state_of seen).values 1)) c.self.view_is
