-- The node that was added is that of the shape, and all goes on being sound.
use Rattle.std.proofs.Common.{◌≡◌, ℕ, ◌<◌, List, [], ◌∷◌, ◌++◌, drop, take, length, reverse, true, false, is_err, refl, sym, ap, ap₂, subst, ◌∙◌, arith, map}
use Rattle.meaning_tree.specs.Nodes.{NodeList, end_of, with_node}
use Rattle.meaning_derivation.specs.Values.{sorts_of}
use Rattle.meaning_derivation.specs.State.{Goes, made}
use Rattle.sparse_model.specs.declared.ids.NameId.{NameId}
use Rattle.parse_state.specs.declared.value.Value.{Value}
use Rattle.parse_state.specs.declared.value.Value.TheVariants.{Tree}
use Rattle.parse_state.specs.Seen.{Read, closed_seen, state_of}
use Rattle.parse_state.specs.Sources.{covers, made_tree}
use Rattle.parse_state.specs.Giving.{children_in}
use Rattle.parse_state.specs.Making.{start_of, node_with}
use Rattle.parse_state.specs.Asking.{name_in_at}
use Rattle.parse_state.specs.Soundness.{is_known, IsSound}
use Rattle.parse_state.proofs.Making.{made_goes}
use Rattle.parse_state.proofs.Sound.{from_ok, known_name, sound_made}
use Rattle.parse_state.proofs.state.ParseState.make.Goals as goal

pub invariant_of-self-else-is_err : goal.invariant_of-self-else-is_err
invariant_of-self-else-is_err c =
    let shape = c.args.shape.now in
    let items = c.self.inside.values.items in
    let here : c.name_of_word-name.result ≡ name_in_at (reverse c.self.inside.values.items) c.args.shape.now.name =
    c.name_of_word-name.ensures ∙ ap (λ stack. name_in_at (reverse stack) c.args.shape.now.name) c.deref.ensures.value in
    let good : is_err c.add_node-added.result ≡ false = sym c.is_err.ensures.value ∙ c.if-is_err.false in
    let values_are = from_ok c.add_node-added.result good c.add_node-added.ensures.values in
    let unit_is = from_ok c.add_node-added.result good c.add_node-added.ensures.unit in
    let first = c.self.invariant.first in
    let count = c.len.ensures.value in
    let less = c.if-len-ge-MOST_NODES.false in
    let room : length c.self.inside.unit.nodes < 16000000 = omega (arith, first, count, less) in
    let children : List (ℕ × ℕ) = children_in (drop (start_of items shape.takes) items) shape.sources.now in
    let known : is_known c.self.inside.names.now c.name_of_word-name.result ≡ true =
    ap (is_known c.self.inside.names.now) here ∙ known_name c.self.inside.names.now c.apart.ensures.empty items shape.name c.self.invariant.words in
    subst (λ (list : NodeList NameId). IsSound c.self.inside.names.now list c.add_node-added.new.values.items c.self.inside.scopes (map closed_seen c.self.inside.closed.items)) (sym unit_is)
    (subst (λ (stack : List Value). IsSound c.self.inside.names.now (with_node c.self.inside.unit (node_with shape c.name_of_word-name.result children)) stack c.self.inside.scopes (map closed_seen c.self.inside.closed.items)) (sym values_are)
    (sound_made c.self.inside.names.now c.self.inside.unit items c.self.inside.scopes (map closed_seen c.self.inside.closed.items) c.self.invariant (start_of items shape.takes) shape.sources.now (node_with shape c.name_of_word-name.result children) room known refl))

pub returns-clause-goes : goal.returns-clause-goes
returns-clause-goes c =
    let read : Read =
    record {
      names = c.self.inside.names.now;
      list = c.self.inside.unit;
      stack = c.self.inside.values.items;
      scopes = c.self.inside.scopes;
      taken = c.self.inside.taken;
      next_token = c.self.inside.next_token;
      last_token = c.self.inside.last_token;
      passed = c.self.inside.passed;
      held = c.self.inside.held;
      function_end = c.self.inside.function_end;
      closed = map closed_seen c.self.inside.closed.items;
      awaited = c.self.inside.awaited;
      tokens = c.self.inside.tokens.now;
    } in
    let shape = c.args.shape.now in
    let items = c.self.inside.values.items in
    let here : c.name_of_word-name.result ≡ name_in_at (reverse c.self.inside.values.items) c.args.shape.now.name =
    c.name_of_word-name.ensures ∙ ap (λ stack. name_in_at (reverse stack) c.args.shape.now.name) c.deref.ensures.value in
    let good : is_err c.add_node-added.result ≡ false = sym c.is_err.ensures.value ∙ c.if-is_err.false in
    let values_are = from_ok c.add_node-added.result good c.add_node-added.ensures.values in
    let unit_is = from_ok c.add_node-added.result good c.add_node-added.ensures.unit in
    let first = c.self.invariant.first in
    let count = c.len.ensures.value in
    let less = c.if-len-ge-MOST_NODES.false in
    let room : length c.self.inside.unit.nodes < 16000000 = omega (arith, first, count, less) in
    let children : List (ℕ × ℕ) = children_in (drop (start_of items shape.takes) items) shape.sources.now in
    let end : end_of c.self.inside.unit ≡ length c.self.inside.unit.nodes = omega (arith, first) in
    sym (ap (λ (seen : Read). made (state_of seen) shape.takes (made_tree shape (state_of seen).values)) c.self.view_is)
    ∙ made_goes read shape c.apart.ensures.empty c.self.invariant.handles room
    (ap (λ (seen : Read). covers (reverse (take shape.takes (sorts_of (state_of seen).values))) shape.sources.now) c.self.view_is ∙ c.requires.covers)
    ∙ ap₂ (λ (list : NodeList NameId) (stack : List Value). Goes (state_of (record read { list = list; stack = stack })))
    (sym (unit_is ∙ ap (λ (name : NameId). with_node c.self.inside.unit (node_with shape name children)) here))
    (sym (values_are ∙ ap (λ (last : ℕ). take (start_of items shape.takes) items ++ Tree last ∷ []) end))
