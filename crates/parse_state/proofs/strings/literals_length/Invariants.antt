-- The bytes so far and those of the pieces that are left are those of all.
use Rattle.std.proofs.Common.{◌≡◌, ◌+◌, true}
use Rattle.std.specs.List.{list_all}
use Rattle.meaning_tree.specs.Listed.{parts_at}
use Rattle.meaning_tree.specs.Nodes.{end_of}
use Rattle.meaning_derivation.specs.Literals.{bad_piece, pieces_length}
use Rattle.parse_state.specs.Giving.{is_below}
use Rattle.parse_state.specs.Seen.{spelled_trees}
use Rattle.parse_state.proofs.strings.literals_length.Given as goal

abbrev pub invariant-loop-piece : goal.invariant-loop-piece
invariant-loop-piece l =
    record {
      below : list_all (is_below (end_of l.unit)) l.piece-iterator ≡ true;
      counted :
          l.length + pieces_length (parts_at (spelled_trees l.names l.unit) l.piece-iterator)
          ≡ pieces_length (parts_at (spelled_trees l.names l.unit) l.pieces);
      unbroken : bad_piece (parts_at (spelled_trees l.names l.unit) l.piece-iterator) ≡ bad_piece (parts_at (spelled_trees l.names l.unit) l.pieces);
    }
