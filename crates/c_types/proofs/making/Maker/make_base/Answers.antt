-- What was remembered stays right where the rows grew.
use Rattle.c_types.proofs.MarkingLemmas.{AreMarkings-Grows}
use Rattle.c_types.proofs.making.Maker.make_base.Goals as goal

pub returns-in-Void-clause-markings : goal.returns-in-Void-clause-markings
returns-in-Void-clause-markings c = AreMarkings-Grows _ _ c.make_marked.ensures.grows _ c.requires.markings

pub returns-in-Integer-default-None-clause-markings : goal.returns-in-Integer-default-None-clause-markings
returns-in-Integer-default-None-clause-markings c = AreMarkings-Grows _ _ c.make_marked-in-Integer-default-None.ensures.grows _ c.requires.markings

pub returns-in-Integer-default-Some-clause-markings : goal.returns-in-Integer-default-Some-clause-markings
returns-in-Integer-default-Some-clause-markings c = AreMarkings-Grows _ _ c.make_marked-in-Integer-default-Some.ensures.grows _ c.requires.markings

pub returns-in-Pointer-clause-markings : goal.returns-in-Pointer-clause-markings
returns-in-Pointer-clause-markings c = AreMarkings-Grows _ _ c.make_marked-in-Pointer.ensures.grows _ c.requires.markings

pub returns-in-Aggregate-clause-markings : goal.returns-in-Aggregate-clause-markings
returns-in-Aggregate-clause-markings c = AreMarkings-Grows _ _ c.make_marked-in-Aggregate.ensures.grows _ c.requires.markings

pub returns-in-Function-clause-markings : goal.returns-in-Function-clause-markings
returns-in-Function-clause-markings c = AreMarkings-Grows _ _ c.make_function.ensures.grows _ c.requires.markings
