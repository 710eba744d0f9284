-- The first parameter, and the others behind it.
use Rattle.std.proofs.Common.{[]}
use Rattle.warn_print.specs.declared.pieces.Piece.TheVariants.{More, Whole}
use Rattle.warn_print.proofs.LevelLemmas.{lighter-first, parameters-first}
use Rattle.warn_print.proofs.PieceLemmas.{joined-two, known-two, lighter-more, text-two, weight-two}
use Rattle.warn_print.proofs.pieces.write_parameters.Goals as goal

pub returns-in_ok-push-in-Some-2-clause-written : goal.returns-in_ok-push-in-Some-2-clause-written
returns-in_ok-push-in-Some-2-clause-written c names =
    joined-two c.args.text.now.items _ _ _ _ _
    (text-two c.args.types.now c.args.stack.now.items c.push.new.self.items c.push-in-Some.new.self.items (More c.in-Some.rest) (Whole c.in-Some.first)
    c.in_ok-push-in-Some.ensures.items c.in_ok-push-in-Some-2.ensures.items names)
    (parameters-first names c.args.types.now c.args.t c.in-Some.first c.in-Some.rest c.in-Some.ensures.some)

pub returns-in_ok-push-in-Some-2-clause-known : goal.returns-in_ok-push-in-Some-2-clause-known
returns-in_ok-push-in-Some-2-clause-known c =
    known-two c.args.types.now c.args.stack.now.items c.push.new.self.items c.push-in-Some.new.self.items (More c.in-Some.rest) (Whole c.in-Some.first)
    c.in_ok-push-in-Some.ensures.items c.in_ok-push-in-Some-2.ensures.items c.requires.below c.in-Some.ensures.some.rest_known c.in-Some.ensures.some.first_known

pub returns-in_ok-push-in-Some-2-clause-less : goal.returns-in_ok-push-in-Some-2-clause-less
returns-in_ok-push-in-Some-2-clause-less c =
    lighter-more _ _ _ _ _
    (weight-two c.args.types.now c.args.stack.now.items c.push.new.self.items c.push-in-Some.new.self.items (More c.in-Some.rest) (Whole c.in-Some.first)
    c.in_ok-push-in-Some.ensures.items c.in_ok-push-in-Some-2.ensures.items)
    (lighter-first [] c.args.types.now c.args.t c.in-Some.first c.in-Some.rest c.in-Some.ensures.some)
