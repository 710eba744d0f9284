-- The tag is bound to the keyword that its specifier has as number then.
use Rattle.std.proofs.Common.{◌≡◌, ◌<◌, ℕ, Bool, true, ◌&&◌, ◌∷◌, map, length, sym, ap, ap₂, subst, ◌∙◌}
use Rattle.std.proofs.lemmas.Bool.{lt-ltb}
use Rattle.vocabulary.specs.declared.scope.NameSpace.TheVariants.{Tags}
use Rattle.vocabulary.specs.declared.scope.Bound.TheVariants.{Tag}
use Rattle.meaning_tree.specs.Nodes.{TreeNode, NodeList}
use Rattle.meaning_tree.proofs.Finding.{node_unique}
use Rattle.meaning_scopes.specs.Scopes.{Binds, ScopeList}
use Rattle.meaning_scopes.specs.laws.Scopes.{all_named}
use Rattle.meaning_derivation.specs.Values.{value_at}
use Rattle.meaning_derivation.specs.State.{Goes}
use Rattle.meaning_derivation.specs.Scoping.{tag_declared}
use Rattle.sparse_model.specs.declared.ids.NameId.{NameId}
use Rattle.c_scope.specs.Seen.{entry_with}
use Rattle.c_tree.specs.Seen.{HasNodeWith}
use Rattle.c_tree.specs.Numbers.{with_number}
use Rattle.parse_state.specs.Seen.{Read, closed_seen, state_of}
use Rattle.parse_state.specs.Soundness.{is_known, IsSound}
use Rattle.parse_state.specs.Tags.{IsLone, is_new_tag}
use Rattle.parse_state.proofs.DeclaredNames.{node_name_known}
use Rattle.parse_state.proofs.Numbered.{sound_numbered}
use Rattle.parse_state.proofs.OwnKeywords.{own_keyword}
use Rattle.parse_state.proofs.Sound.{sound_bound}
use Rattle.parse_state.proofs.state.ParseState.bind_own_keyword.Goals as goal

pub invariant_of-self-2 : goal.invariant_of-self-2
invariant_of-self-2 c =
    let names = c.self.inside.names.now in
    let closed = map closed_seen c.self.inside.closed.items in
    let (node, has, is) = c.name_of_node-tag.ensures in
    let known : is_known names c.name_of_node-tag.result.name ≡ true =
    lt-ltb c.name_of_node-tag.result.name.0 (length names)
    (subst (λ (id : NameId). id.0 < length names) is.0 (node_name_known names c.self.inside.unit c.args.specifier node c.self.invariant.node_names has)) in
    subst (λ (list : NodeList NameId). IsSound names list c.self.inside.values.items c.bind.new.self closed) (sym c.set_number.ensures)
    (sound_bound names (with_number c.self.inside.unit c.args.specifier c.from.result) c.self.inside.values.items c.self.inside.scopes closed
    (sound_numbered names c.self.inside.unit c.self.inside.values.items c.self.inside.scopes closed c.args.specifier c.from.result c.self.invariant)
    c.bind.new.self closed
    (ap (all_named (is_known names)) c.in_ok-bind.ensures.ok ∙ ap₂ (λ (one rest : Bool). one && rest) known c.self.invariant.bound_names)
    c.self.invariant.closed_names)

pub returns-clause-state : goal.returns-clause-state
returns-clause-state c =
    let read : Read =
    record {
      names = c.self.inside.names.now;
      list = c.self.inside.unit;
      stack = c.self.inside.values.items;
      scopes = c.self.inside.scopes;
      taken = c.self.inside.taken;
      next_token = c.self.inside.next_token;
      last_token = c.self.inside.last_token;
      passed = c.self.inside.passed;
      held = c.self.inside.held;
      function_end = c.self.inside.function_end;
      closed = map closed_seen c.self.inside.closed.items;
      awaited = c.self.inside.awaited;
      tokens = c.self.inside.tokens.now;
    } in
    let closed = map closed_seen c.self.inside.closed.items in
    let lone : IsLone read c.args.specifier = subst (λ (seen : Read). IsLone seen c.args.specifier) (sym c.self.view_is) c.requires.lone in
    let found : HasNodeWith read.list c.args.specifier (λ node. is_new_tag read node ≡ true) =
    subst (λ (seen : Read). HasNodeWith seen.list c.args.specifier (λ node. is_new_tag seen node ≡ true)) (sym c.self.view_is) c.requires.new in
    let (node, has, new) = found in
    let (other, also, is) = c.name_of_node-tag.ensures in
    let same = node_unique c.self.inside.unit c.args.specifier node other has also in
    let token : node.token ≡ c.name_of_node-tag.result.token = ap (λ (one : TreeNode NameId). one.token) same ∙ is.1 in
    let name : node.name ≡ c.name_of_node-tag.result.name = ap (λ (one : TreeNode NameId). one.name) same ∙ is.0 in
    let numbered : with_number c.self.inside.unit c.args.specifier node.token ≡ c.set_number.new.self =
    ap (with_number c.self.inside.unit c.args.specifier) (token ∙ sym c.from.ensures) ∙ sym c.set_number.ensures in
    let bound_so : Binds (entry_with Tags node.name node.token Tag) ∷ c.self.inside.scopes ≡ c.bind.new.self =
    ap₂ (λ (id : NameId) (at : ℕ). Binds (entry_with Tags id at Tag) ∷ c.self.inside.scopes) name token ∙ sym c.in_ok-bind.ensures.ok in
    sym (ap (λ (seen : Read). tag_declared (state_of seen) (value_at (state_of seen).values 0)) c.self.view_is)
    ∙ own_keyword read closed c.self.invariant c.each_node_stands_for_one_tree.ensures.order c.args.specifier node has lone new
    ∙ ap₂ (λ (list : NodeList NameId) (scopes : ScopeList NameId). Goes (state_of (record read { list = list; scopes = scopes }))) numbered bound_so
