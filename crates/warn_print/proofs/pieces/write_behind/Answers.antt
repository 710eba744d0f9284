-- The parentheses of a function, and what stands between them.
use Rattle.c_types.specs.Table.{type_at}
use Rattle.warn_print.specs.declared.pieces.Piece.TheVariants.{Close, Parameters}
use Rattle.warn_print.proofs.LevelLemmas.{shape-behind, shape-weight}
use Rattle.warn_print.proofs.PieceLemmas.{joined-more, known-two, lighter-behind, text-two, weight-two}
use Rattle.warn_print.proofs.pieces.write_behind.Goals as goal

pub returns-in-Function-clause-written : goal.returns-in-Function-clause-written
returns-in-Function-clause-written c =
    joined-more c.args.text.now.items _ _ _ _ _ _ _ c.in_ok-extend_from_slice.ensures.items
    (text-two c.args.types.now c.args.stack.now.items c.push.new.self.items c.push-in-Function.new.self.items (Close c.args.t) (Parameters c.args.t)
    c.in_ok-push.ensures.items c.in_ok-push-2.ensures.items c.args.names.now)
    (shape-behind c.args.names.now c.args.types.now (type_at c.args.types.now c.args.t) c.shape-shape.result c.shape-shape.ensures.shape
    c.in-Function.field-0 c.in-Function.field-1 c.in-Function.field-2 c.in-Function.is)

pub returns-in-Function-clause-known : goal.returns-in-Function-clause-known
returns-in-Function-clause-known c =
    known-two c.args.types.now c.args.stack.now.items c.push.new.self.items c.push-in-Function.new.self.items (Close c.args.t) (Parameters c.args.t)
    c.in_ok-push.ensures.items c.in_ok-push-2.ensures.items c.requires.below c.requires.known c.requires.known

pub returns-in-Function-clause-less : goal.returns-in-Function-clause-less
returns-in-Function-clause-less c =
    lighter-behind _ _ _ _
    (weight-two c.args.types.now c.args.stack.now.items c.push.new.self.items c.push-in-Function.new.self.items (Close c.args.t) (Parameters c.args.t)
    c.in_ok-push.ensures.items c.in_ok-push-2.ensures.items)
    (shape-weight c.args.names.now c.args.types.now (type_at c.args.types.now c.args.t) c.shape-shape.result c.shape-shape.ensures.shape
    c.in-Function.field-0 c.in-Function.field-1 c.in-Function.field-2 c.in-Function.is)
