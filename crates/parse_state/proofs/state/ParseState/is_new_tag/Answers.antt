-- Whether a specifier is a lone tag that is new is told of its node.
use Rattle.std.proofs.Common.{◌≡◌, ℕ, Bool, true, false, ◌&&◌, List, map, length, option_map, sym, ap, ap₂, subst, ◌∙◌, arith}
use Rattle.std.specs.List.{list_all}
use Rattle.std.specs.Str.{bytes_eq}
use Rattle.std.proofs.lemmas.Bool.{lt-ltb}
use Rattle.vocabulary.specs.declared.scope.NameSpace.TheVariants.{Tags}
use Rattle.meaning_tree.specs.Nodes.{TreeNode, end_of}
use Rattle.meaning_scopes.specs.Scopes.{find, renamed}
use Rattle.meaning_derivation.specs.Values.{value_at}
use Rattle.meaning_derivation.specs.State.{Goes}
use Rattle.meaning_derivation.specs.Scoping.{is_lone_tag, is_member_list, is_new_here, tag_declared}
use Rattle.sparse_model.specs.declared.ids.NameId.{NameId}
use Rattle.c_tokens.specs.Seen.{text_of}
use Rattle.c_scope.specs.Seen.{same_name}
use Rattle.c_tree.specs.Seen.{HasNodeWith, node_of}
use Rattle.parse_state.specs.Giving.{is_below}
use Rattle.parse_state.specs.Looking.{found_told}
use Rattle.parse_state.specs.Seen.{Read, closed_seen, state_of}
use Rattle.parse_state.specs.Soundness.{is_known}
use Rattle.parse_state.specs.Storage.{has_child}
use Rattle.parse_state.specs.Tags.{IsLone, is_new_tag}
use Rattle.parse_state.proofs.DeclaredNames.{node_name_known}
use Rattle.parse_state.proofs.Naming.{find-spelled, found_told-renamed}
use Rattle.parse_state.proofs.OwnKeywords.{lone_below, not_new}
use Rattle.parse_state.proofs.SpecifiedKinds.{children_known}
use Rattle.parse_state.proofs.state.ParseState.is_new_tag.Goals as goal

pub node-node-requires-clause-below : goal.node-node-requires-clause-below
node-node-requires-clause-below c =
    let read : Read =
    record {
      names = c.self.inside.names.now;
      list = c.self.inside.unit;
      stack = c.self.inside.values.items;
      scopes = c.self.inside.scopes;
      taken = c.self.inside.taken;
      next_token = c.self.inside.next_token;
      last_token = c.self.inside.last_token;
      passed = c.self.inside.passed;
      held = c.self.inside.held;
      function_end = c.self.inside.function_end;
      closed = map closed_seen c.self.inside.closed.items;
      awaited = c.self.inside.awaited;
      tokens = c.self.inside.tokens.now;
    } in
    let lone : IsLone read c.args.specifier = subst (λ (seen : Read). IsLone seen c.args.specifier) (sym c.self.view_is) c.requires.lone in
    lone_below read c.args.specifier c.each_node_stands_for_one_tree.ensures.order lone

pub has_members-has_members-requires-clause-below : goal.has_members-has_members-requires-clause-below
has_members-has_members-requires-clause-below c =
    let first = c.self.invariant.first in
    let end : end_of c.self.inside.unit ≡ length c.self.inside.unit.nodes = omega (arith, first) in
    ap (λ (one : ℕ). list_all (is_below one) c.node-node.result.now.children) end
    ∙ children_known c.self.inside.names.now c.self.inside.unit c.self.invariant.first c.each_node_stands_for_one_tree.ensures.order c.args.specifier (node_of c.node-node.result.now) c.node-node.ensures

pub spelling-requires : goal.spelling-requires
spelling-requires c =
    node_name_known c.self.inside.names.now c.self.inside.unit c.args.specifier (node_of c.node-node.result.now) c.self.invariant.node_names c.node-node.ensures

pub returns-then-is_lone_tag : goal.returns-then-is_lone_tag
returns-then-is_lone_tag c =
    let read : Read =
    record {
      names = c.self.inside.names.now;
      list = c.self.inside.unit;
      stack = c.self.inside.values.items;
      scopes = c.self.inside.scopes;
      taken = c.self.inside.taken;
      next_token = c.self.inside.next_token;
      last_token = c.self.inside.last_token;
      passed = c.self.inside.passed;
      held = c.self.inside.held;
      function_end = c.self.inside.function_end;
      closed = map closed_seen c.self.inside.closed.items;
      awaited = c.self.inside.awaited;
      tokens = c.self.inside.tokens.now;
    } in
    let names = c.self.inside.names.now in
    let node : TreeNode NameId = node_of c.node-node.result.now in
    let text : List ℕ = text_of names node.name in
    let known : is_known names node.name ≡ true =
    lt-ltb node.name.0 (length names) (node_name_known names c.self.inside.unit c.args.specifier node c.self.invariant.node_names c.node-node.ensures) in
    let found : c.find.result ≡ option_map found_told (find bytes_eq (renamed (text_of names) c.self.inside.scopes) Tags text) =
    c.find.ensures
    ∙ sym (found_told-renamed names (find same_name c.self.inside.scopes Tags node.name))
    ∙ ap (option_map found_told) (sym (find-spelled names c.apart.ensures.apart c.self.inside.scopes Tags node.name c.self.invariant.bound_names known)) in
    let lone : is_lone_tag node.kind text (has_child is_member_list c.self.inside.unit node.children) ≡ true =
    ap₂ (λ (spelled : List ℕ) (has_members : Bool). is_lone_tag node.kind spelled has_members) (sym c.spelling.ensures.seen) (sym c.has_members-has_members.ensures)
    ∙ sym c.is_lone_tag.ensures ∙ c.if-is_lone_tag.true in
    let new : c.is_new_here.result ≡ is_new_tag read node =
    c.is_new_here.ensures (find bytes_eq (renamed (text_of names) c.self.inside.scopes) Tags text) found
    ∙ ap (λ (test : Bool). test && is_new_here (state_of read) text) (sym lone) in
    let stands : IsLone read c.args.specifier = subst (λ (seen : Read). IsLone seen c.args.specifier) (sym c.self.view_is) c.requires.lone in
    record {
      new = subst (λ (seen : Read). HasNodeWith seen.list c.args.specifier (λ one. c.is_new_here.result ≡ is_new_tag seen one)) c.self.view_is (node, c.node-node.ensures, new);
      kept = λ is.
          subst (λ (seen : Read). tag_declared (state_of seen) (value_at (state_of seen).values 0) ≡ Goes (state_of seen)) c.self.view_is
          (not_new read c.self.invariant.first c.each_node_stands_for_one_tree.ensures.order c.args.specifier node c.node-node.ensures stands (sym new ∙ is));
    }

pub returns-else-is_lone_tag : goal.returns-else-is_lone_tag
returns-else-is_lone_tag c =
    let read : Read =
    record {
      names = c.self.inside.names.now;
      list = c.self.inside.unit;
      stack = c.self.inside.values.items;
      scopes = c.self.inside.scopes;
      taken = c.self.inside.taken;
      next_token = c.self.inside.next_token;
      last_token = c.self.inside.last_token;
      passed = c.self.inside.passed;
      held = c.self.inside.held;
      function_end = c.self.inside.function_end;
      closed = map closed_seen c.self.inside.closed.items;
      awaited = c.self.inside.awaited;
      tokens = c.self.inside.tokens.now;
    } in
    let names = c.self.inside.names.now in
    let node : TreeNode NameId = node_of c.node-node.result.now in
    let text : List ℕ = text_of names node.name in
    let none : is_lone_tag node.kind text (has_child is_member_list c.self.inside.unit node.children) ≡ false =
    ap₂ (λ (spelled : List ℕ) (has_members : Bool). is_lone_tag node.kind spelled has_members) (sym c.spelling.ensures.seen) (sym c.has_members-has_members.ensures)
    ∙ sym c.is_lone_tag.ensures ∙ c.if-is_lone_tag.false in
    let old : c.is_lone_tag.result ≡ is_new_tag read node = c.if-is_lone_tag.false ∙ ap (λ (test : Bool). test && is_new_here (state_of read) text) (sym none) in
    let stands : IsLone read c.args.specifier = subst (λ (seen : Read). IsLone seen c.args.specifier) (sym c.self.view_is) c.requires.lone in
    record {
      new = subst (λ (seen : Read). HasNodeWith seen.list c.args.specifier (λ one. c.is_lone_tag.result ≡ is_new_tag seen one)) c.self.view_is (node, c.node-node.ensures, old);
      kept = λ is.
          subst (λ (seen : Read). tag_declared (state_of seen) (value_at (state_of seen).values 0) ≡ Goes (state_of seen)) c.self.view_is
          (not_new read c.self.invariant.first c.each_node_stands_for_one_tree.ensures.order c.args.specifier node c.node-node.ensures stands (sym old ∙ is));
    }
