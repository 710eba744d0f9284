-- The piece on top goes next.
use Rattle.std.proofs.Common.{◌++◌, ◌<◌, ℕ, List, sym, ap, ◌∙◌, subst, append_assoc}
use Rattle.warn_print.specs.Pieces.{AreKnownPieces, piece_spelling, stack_text, stack_weight}
use Rattle.warn_print.specs.declared.pieces.Piece.{Piece}
use Rattle.warn_print.proofs.PieceLemmas.{known-last, known-rest, stack_text-push, stack_weight-push}
use Rattle.warn_print.proofs.types.write_type.Goals as goal

pub write_piece-requires-clause-known : goal.write_piece-requires-clause-known
write_piece-requires-clause-known c =
    known-last c.args.types.now c.pop.new.self.items c.in-Some.piece
    (subst (λ (stack : List Piece). AreKnownPieces c.args.types.now stack) c.in-Some.ensures.items c.pieces.invariant.known)

pub write_piece-requires-clause-below : goal.write_piece-requires-clause-below
write_piece-requires-clause-below c =
    known-rest c.args.types.now c.pop.new.self.items c.in-Some.piece
    (subst (λ (stack : List Piece). AreKnownPieces c.args.types.now stack) c.in-Some.ensures.items c.pieces.invariant.known)

pub pieces-smaller : goal.pieces-smaller
pieces-smaller c =
    subst (λ (weight : ℕ). stack_weight c.args.types.now c.write_piece.new.stack.items < weight)
    (sym (ap (stack_weight c.args.types.now) c.in-Some.ensures.items ∙ stack_weight-push c.args.types.now c.pop.new.self.items c.in-Some.piece))
    c.in_ok-write_piece.ensures.less

pub pieces-preserved : goal.pieces-preserved
pieces-preserved c =
    let names = c.args.names.now in
    let types = c.args.types.now in
    record {
      known = c.in_ok-write_piece.ensures.known;
      written = c.in_ok-write_piece.ensures.written
          ∙ append_assoc c.pieces.text.items (piece_spelling names types c.in-Some.piece) (stack_text names types c.pop.new.self.items)
          ∙ ap (λ (more : List ℕ). c.pieces.text.items ++ more)
          (sym (ap (stack_text names types) c.in-Some.ensures.items ∙ stack_text-push names types c.pop.new.self.items c.in-Some.piece))
          ∙ c.pieces.invariant.written;
    }
