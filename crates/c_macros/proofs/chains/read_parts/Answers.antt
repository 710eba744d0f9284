use Rattle.std.proofs.Common.{◌≡◌, map, ap, ◌∙◌, refl, false}
use Rattle.std.proofs.lemmas.List.{nil_from_length}
use Rattle.meaning_macros.specs.Bodies.{with_rests}
use Rattle.c_macros.specs.Operands.{begins_next, flat_from, grouped, is_some_list, part_by, piece_by}
use Rattle.c_macros.specs.Seen.{Spelling}
use Rattle.c_macros.proofs.ChainLemmas.{begins_next-flat_from, grouped-flat_from, none_left}
use Rattle.c_macros.proofs.chains.read_parts.Goals as goal

-- no piece is left, so the operands so far are all
all_read : (c : goal.In_default) (s : Spelling) → map (part_by s) c.loop-first.parts.items ≡ flat_from false false (with_rests c.args.variadic c.args.count (map (piece_by s) c.args.pieces.now))
all_read c s =
    none_left (map (part_by s) c.loop-first.parts.items) _ (is_some_list c.loop-first.parts.items) c.loop-first.joined (piece_by s) c.loop-first.rest.now (with_rests c.args.variadic c.args.count) refl
    (nil_from_length _ c.in_default.ensures.cases) (c.loop-first.invariant s)

pub returns-clause-chains : goal.returns-clause-chains
returns-clause-chains c = λ s. ap grouped (all_read c s) ∙ grouped-flat_from false false (with_rests c.args.variadic c.args.count (map (piece_by s) c.args.pieces.now))

pub returns-clause-begins : goal.returns-clause-begins
returns-clause-begins c = λ s. ap begins_next (all_read c s) ∙ begins_next-flat_from (with_rests c.args.variadic c.args.count (map (piece_by s) c.args.pieces.now))
