-- Each piece adds its own bytes, or is the first that has no value.
use Rattle.std.proofs.Common.{◌≡◌, sym, ap, ◌∙◌}
use Rattle.std.specs.List.{list_all}
use Rattle.meaning_tree.specs.Nodes.{end_of}
use Rattle.meaning_tree.specs.Listed.{parts_at}
use Rattle.meaning_derivation.specs.Literals.{bad_piece, piece_length}
use Rattle.meaning_literals.specs.Quoted.{string_of}
use Rattle.parse_state.specs.Giving.{is_below}
use Rattle.parse_state.specs.Seen.{spelled_trees}
use Rattle.parse_state.specs.Strings.{IsOfBad}
use Rattle.parse_state.proofs.LiteralLengths.{counted_none, counted_more, counted_all, first_below, rest_below, unbroken_more, unbroken_all, broken_here}
use Rattle.parse_state.proofs.HandedOn.{passed_on}
use Rattle.parse_state.proofs.Parts.{stands_at-seen}
use Rattle.parse_state.proofs.strings.literals_length.Goals as goal

pub loop-piece-init : goal.loop-piece-init
loop-piece-init c =
    let same : c.into_iter-piece-iterator.result ≡ c.args.pieces.now = c.into_iter-piece-iterator.ensures.into_iter_gives ∙ c.iter-piece-items.ensures.pairs in
    record {
      below = ap (list_all (is_below (end_of c.args.unit.now))) same ∙ c.requires.below;
      counted = counted_none (spelled_trees c.args.names.now c.args.unit.now) _ _ same;
      unbroken = ap (λ pieces. bad_piece (parts_at (spelled_trees c.args.names.now c.args.unit.now) pieces)) same;
    }

pub node_spelling-text-requires-clause-below : goal.node_spelling-text-requires-clause-below
node_spelling-text-requires-clause-below c = first_below (end_of c.args.unit.now) _ _ _ c.in-Some.ensures.steps c.loop-piece.invariant.below

pub token-requires-clause-below : goal.token-requires-clause-below
token-requires-clause-below c = first_below (end_of c.args.unit.now) _ _ _ c.in-Some.ensures.steps c.loop-piece.invariant.below

pub loop-piece-preserved : goal.loop-piece-preserved
loop-piece-preserved c =
    let (node, has, is) = c.token.ensures in
    let stands = sym is ∙ sym (stands_at-seen c.args.names.now c.args.unit.now c.requires.first c.each_node_stands_for_one_tree.ensures.order _ node has) in
    record {
      below = rest_below (end_of c.args.unit.now) _ _ _ c.in-Some.ensures.steps c.loop-piece.invariant.below;
      counted =
          counted_more (spelled_trees c.args.names.now c.args.unit.now) _ _ _ _ _ _ _ c.in-Some.ensures.steps c.loop-piece.invariant.counted
          (c.in_ok-bytes.ensures.length ∙ ap (λ text. piece_length (string_of text)) c.node_spelling-text.ensures)
          c.in_ok-length.ensures;
      unbroken =
          unbroken_more (spelled_trees c.args.names.now c.args.unit.now) _ _ _ _ _ _ c.in-Some.ensures.steps c.loop-piece.invariant.unbroken
          c.node_spelling-text.ensures stands c.in_ok-bytes.ensures.good;
    }

pub returns-in_err-bytes-clause-bad : goal.returns-in_err-bytes-clause-bad
returns-in_err-bytes-clause-bad c =
    let (node, has, is) = c.token.ensures in
    let stands = sym is ∙ sym (stands_at-seen c.args.names.now c.args.unit.now c.requires.first c.each_node_stands_for_one_tree.ensures.order _ node has) in
    passed_on (IsOfBad (bad_piece (parts_at (spelled_trees c.args.names.now c.args.unit.now) c.args.pieces.now))) _ c.from_residual.result c.from_residual.ensures.1
    (broken_here (spelled_trees c.args.names.now c.args.unit.now) _ _ _ _ _ _ _ c.in-Some.ensures.steps c.loop-piece.invariant.unbroken
    c.node_spelling-text.ensures stands c.in_err-bytes.ensures.bad)

pub returns-clause-length : goal.returns-clause-length
returns-clause-length c = counted_all (spelled_trees c.args.names.now c.args.unit.now) _ _ _ c.in-None.ensures.steps.0 c.loop-piece.invariant.counted

pub returns-clause-good : goal.returns-clause-good
returns-clause-good c = unbroken_all (spelled_trees c.args.names.now c.args.unit.now) _ _ c.in-None.ensures.steps.0 c.loop-piece.invariant.unbroken
