-- The pieces are those of the list so far below the top.
use Rattle.std.proofs.Common.{◌≡◌, length, reverse, slice_get, Some, None, IfErr, IfOk, OnOk, sym, ap, subst, ◌∙◌, arith}
use Rattle.std.specs.List.{list_all}
use Rattle.meaning_tree.specs.Nodes.{end_of}
use Rattle.meaning_derivation.specs.Literals.{bad_piece, pieces_length}
use Rattle.meaning_derivation.specs.Values.{parts_of, value_at}
use Rattle.parse_state.specs.Asking.{list_in}
use Rattle.parse_state.specs.Giving.{is_below}
use Rattle.parse_state.specs.Seen.{Read, state_of, spelled_trees}
use Rattle.parse_state.specs.Strings.{IsOfBad}
use Rattle.parse_state.proofs.LiteralLengths.{bad-seen, length-seen, list_known, no_bad-seen, no_length-seen}
use Rattle.parse_state.proofs.state.ParseState.string_length.Goals as goal

pub literals_length-requires-clause-below : goal.literals_length-requires-clause-below
literals_length-requires-clause-below c =
    let here : list_in (slice_get (reverse c.self.inside.values.items) c.args.depth) ≡ Some c.in-Some.pieces.now =
    sym (c.in-Some.ensures ∙ ap (λ stack. list_in (slice_get (reverse stack) c.args.depth)) c.deref.ensures.value) in
    let first = c.self.invariant.first in
    let end : end_of c.self.inside.unit ≡ length c.self.inside.unit.nodes = omega (arith, first) in
    ap (λ end. list_all (is_below end) c.in-Some.pieces.now) end
    ∙ list_known (length c.self.inside.unit.nodes) c.self.inside.values.items c.args.depth c.in-Some.pieces.now c.self.invariant.handles here

pub returns-in-Some : goal.returns-in-Some
returns-in-Some c =
    let here : list_in (slice_get (reverse c.self.inside.values.items) c.args.depth) ≡ Some c.in-Some.pieces.now =
    sym (c.in-Some.ensures ∙ ap (λ stack. list_in (slice_get (reverse stack) c.args.depth)) c.deref.ensures.value) in
    let bad =
    sym (bad-seen c.self.inside.names.now (spelled_trees c.self.inside.names.now c.self.inside.unit) (reverse c.self.inside.values.items) c.args.depth c.in-Some.pieces.now here)
    ∙ ap (λ (seen : Read). bad_piece (parts_of (value_at (state_of seen).values c.args.depth))) c.self.view_is in
    record {
      length =
          subst (λ total. IfOk c.literals_length.result (λ length. length ≡ total))
          (sym (length-seen c.self.inside.names.now (spelled_trees c.self.inside.names.now c.self.inside.unit) (reverse c.self.inside.values.items) c.args.depth c.in-Some.pieces.now here)
          ∙ ap (λ (seen : Read). pieces_length (parts_of (value_at (state_of seen).values c.args.depth))) c.self.view_is)
          c.literals_length.ensures.length;
      good = subst (λ found. OnOk c.literals_length.result (found ≡ None)) bad c.literals_length.ensures.good;
      bad = subst (λ found. IfErr c.literals_length.result (IsOfBad found)) bad c.literals_length.ensures.bad;
    }

pub returns-in-None : goal.returns-in-None
returns-in-None c =
    let none : list_in (slice_get (reverse c.self.inside.values.items) c.args.depth) ≡ None =
    sym (c.in-None.ensures ∙ ap (λ stack. list_in (slice_get (reverse stack) c.args.depth)) c.deref.ensures.value) in
    record {
      length =
          sym (no_length-seen c.self.inside.names.now (spelled_trees c.self.inside.names.now c.self.inside.unit) (reverse c.self.inside.values.items) c.args.depth none)
          ∙ ap (λ (seen : Read). pieces_length (parts_of (value_at (state_of seen).values c.args.depth))) c.self.view_is;
      good =
          sym (ap (λ (seen : Read). bad_piece (parts_of (value_at (state_of seen).values c.args.depth))) c.self.view_is)
          ∙ no_bad-seen c.self.inside.names.now (spelled_trees c.self.inside.names.now c.self.inside.unit) (reverse c.self.inside.values.items) c.args.depth none;
      bad = tt;
    }
