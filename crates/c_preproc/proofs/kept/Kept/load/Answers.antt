use Rattle.std.proofs.Common.{refl}
use Rattle.meaning_outside.specs.Loads as loads
use Rattle.c_preproc.specs.declared.pre_fault.PreFault.TheVariants.{Memory, ReadFault}
use Rattle.c_preproc.proofs.LookLemmas.{looked-fault, looked-long, looked-missing}
use Rattle.c_preproc.proofs.kept.Kept.load.Goals as goal

pub returns-in-Ok-clause-found : goal.returns-in-Ok-clause-found
returns-in-Ok-clause-found g c = λ names known earlier keeps apart here spelled new.
    looked-missing names apart known earlier c.args.self.now c.args.id c.args.path.now keeps here spelled new (g.F.Files.loads c.args.files.now) (g.F.Files.loads c.load.new.self)
    c.load.new.into.items c.keep_nothing.new.self c.in-Missing.ensures.trace c.in-Ok.ensures.there c.in-Ok.ensures.others c.keep_nothing.ensures.files

pub returns-in-Missing-clause-found : goal.returns-in-Missing-clause-found
returns-in-Missing-clause-found g c = λ names known earlier keeps apart here spelled new.
    looked-fault names apart known earlier c.args.self.now c.args.id c.args.path.now keeps here spelled new (g.F.Files.loads c.args.files.now) (g.F.Files.loads c.load.new.self)
    loads.Missing c.keep_nothing.new.self Memory c.in-Missing.ensures.trace refl

pub returns-in-TooLong-clause-found : goal.returns-in-TooLong-clause-found
returns-in-TooLong-clause-found g c = λ names known earlier keeps apart here spelled new.
    looked-long names apart known earlier c.args.self.now c.args.id c.args.path.now keeps here spelled new (g.F.Files.loads c.args.files.now) (g.F.Files.loads c.load.new.self)
    c.load.new.into.items c.args.self.now c.in-TooLong.ensures.trace

pub returns-in-Failed-clause-found : goal.returns-in-Failed-clause-found
returns-in-Failed-clause-found g c = λ names known earlier keeps apart here spelled new.
    looked-fault names apart known earlier c.args.self.now c.args.id c.args.path.now keeps here spelled new (g.F.Files.loads c.args.files.now) (g.F.Files.loads c.load.new.self)
    loads.Failed c.args.self.now ReadFault c.in-Failed.ensures.trace refl

pub returns-clause-found : goal.returns-clause-found
returns-clause-found g c = λ names known earlier keeps apart here spelled new.
    looked-fault names apart known earlier c.args.self.now c.args.id c.args.path.now keeps here spelled new (g.F.Files.loads c.args.files.now) (g.F.Files.loads c.load.new.self)
    loads.NoMemory c.args.self.now Memory c.in-NoMemory.ensures.trace refl
