-- The type inside, and then what derives this one from it.
use Rattle.std.proofs.Common.{◌∙◌, sym}
use Rattle.c_types.specs.Table.{type_at}
use Rattle.warn_print.specs.declared.pieces.Piece.TheVariants.{Behind, Whole}
use Rattle.warn_print.proofs.LevelLemmas.{inner-known, shape-inner, shape-lighter}
use Rattle.warn_print.proofs.PieceLemmas.{joined-two, known-two, lighter-whole, text-two, weight-two}
use Rattle.warn_print.proofs.pieces.write_whole.Goals as goal

pub returns-in_ok-push-in-Some-2-clause-written : goal.returns-in_ok-push-in-Some-2-clause-written
returns-in_ok-push-in-Some-2-clause-written c =
    joined-two c.args.text.now.items _ _ _ _ _
    (text-two c.args.types.now c.args.stack.now.items c.push.new.self.items c.push-in-Some.new.self.items (Behind c.args.t) (Whole c.in-Some.inner)
    c.in_ok-push-in-Some.ensures.items c.in_ok-push-in-Some-2.ensures.items c.args.names.now)
    (shape-inner c.args.names.now c.args.types.now (type_at c.args.types.now c.args.t) c.shape-shape.result c.shape-shape.ensures.shape
    c.in-Some.inner (sym c.inside.ensures ∙ c.in-Some.is))

pub returns-in_ok-push-in-Some-2-clause-known : goal.returns-in_ok-push-in-Some-2-clause-known
returns-in_ok-push-in-Some-2-clause-known c =
    known-two c.args.types.now c.args.stack.now.items c.push.new.self.items c.push-in-Some.new.self.items (Behind c.args.t) (Whole c.in-Some.inner)
    c.in_ok-push-in-Some.ensures.items c.in_ok-push-in-Some-2.ensures.items c.requires.below c.requires.known
    (inner-known c.args.types.now c.shape-shape.result.base c.in-Some.inner c.shape-shape.ensures.known (sym c.inside.ensures ∙ c.in-Some.is))

pub returns-in_ok-push-in-Some-2-clause-less : goal.returns-in_ok-push-in-Some-2-clause-less
returns-in_ok-push-in-Some-2-clause-less c =
    lighter-whole _ _ _ _ _
    (weight-two c.args.types.now c.args.stack.now.items c.push.new.self.items c.push-in-Some.new.self.items (Behind c.args.t) (Whole c.in-Some.inner)
    c.in_ok-push-in-Some.ensures.items c.in_ok-push-in-Some-2.ensures.items)
    (shape-lighter c.args.names.now c.args.types.now (type_at c.args.types.now c.args.t) c.shape-shape.result c.shape-shape.ensures.shape
    c.in-Some.inner (sym c.inside.ensures ∙ c.in-Some.is))
