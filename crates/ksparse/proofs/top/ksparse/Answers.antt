use Rattle.std.proofs.Common.{ap}
use Rattle.meaning_outside.specs.Loads.{loads_since}
use Rattle.ksparse.specs.Ending.{ending_seen}
use Rattle.ksparse.specs.Written.{reply_seen}
use Rattle.ksparse.proofs.Balanced.{answer-balanced}
use Rattle.ksparse.proofs.Counts.{told_by_none, told_of_two_by_none}
use Rattle.ksparse.proofs.Endings.{no_read_fault, no_write_fault, delivered_outcome, delivered_completes}
use Rattle.ksparse.proofs.top.ksparse.Goals as goal

pub returns-in-Err-ReadFault-clause-found : goal.returns-in-Err-ReadFault-clause-found
returns-in-Err-ReadFault-clause-found g c = c.loads_of_each_path_once_agree.ensures _ c.answer.ensures.loading.once

pub returns-in-Err-NoMemory-clause-found : goal.returns-in-Err-NoMemory-clause-found
returns-in-Err-NoMemory-clause-found g c = c.loads_of_each_path_once_agree.ensures _ c.answer.ensures.loading.once

pub returns-clause-found : goal.returns-clause-found
returns-clause-found g c = c.loads_of_each_path_once_agree.ensures _ c.answer.ensures.loading.once

pub returns-then-deliver-clause-found : goal.returns-then-deliver-clause-found
returns-then-deliver-clause-found g c = c.loads_of_each_path_once_agree.ensures _ c.answer.ensures.loading.once

pub returns-then-deliver-clause-outcome : goal.returns-then-deliver-clause-outcome
returns-then-deliver-clause-outcome g c =
    delivered_outcome c.args.words.now (loads_since (g.F.Files.loads c.args.files.now) (g.F.Files.loads c.answer.new.files))
    (c.loads_of_each_path_once_agree.ensures _ c.answer.ensures.loading.once) (reply_seen c.in-Ok.written) c.in-Ok.ensures.right _
    (c.deliver.ensures.whole c.if-deliver.true)

pub returns-then-deliver-clause-complete : goal.returns-then-deliver-clause-complete
returns-then-deliver-clause-complete g c =
    delivered_completes c.args.words.now (loads_since (g.F.Files.loads c.args.files.now) (g.F.Files.loads c.answer.new.files))
    (c.loads_of_each_path_once_agree.ensures _ c.answer.ensures.loading.once) (reply_seen c.in-Ok.written) c.in-Ok.ensures.right _
    (c.deliver.ensures.whole c.if-deliver.true) _

pub returns-then-deliver-clause-safe : goal.returns-then-deliver-clause-safe
returns-then-deliver-clause-safe g c = c.in-Ok.ensures.safe

pub returns-then-deliver-clause-balanced : goal.returns-then-deliver-clause-balanced
returns-then-deliver-clause-balanced g c = λ clean files agrees.
    answer-balanced c.args.words.now files (reply_seen c.in-Ok.written) (c.in-Ok.ensures.right files agrees) clean

pub returns-then-deliver-clause-read : goal.returns-then-deliver-clause-read
returns-then-deliver-clause-read g c =
    told_by_none _ _ _ _ c.in-Ok.ensures.cause (λ failed. cc)
    (λ is. no_read_fault c.args.words.now (loads_since (g.F.Files.loads c.args.files.now) (g.F.Files.loads c.answer.new.files))
    (c.loads_of_each_path_once_agree.ensures _ c.answer.ensures.loading.once) (reply_seen c.in-Ok.written) c.in-Ok.ensures.right (ap ending_seen is))

pub returns-then-deliver-clause-write : goal.returns-then-deliver-clause-write
returns-then-deliver-clause-write g c =
    told_of_two_by_none _ _ _ _ _ _ c.deliver.ensures.cause (λ failed. let taken = c.if-deliver.true in cc)
    (λ is. no_write_fault c.args.words.now (loads_since (g.F.Files.loads c.args.files.now) (g.F.Files.loads c.answer.new.files))
    (c.loads_of_each_path_once_agree.ensures _ c.answer.ensures.loading.once) (reply_seen c.in-Ok.written) c.in-Ok.ensures.right (ap ending_seen is))
