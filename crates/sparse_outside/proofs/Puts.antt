-- Each way in which a put ends.
use Rattle.std.proofs.Common.{sym, ◌∙◌, append-nil}
use Rattle.sparse_outside.specs.declared.sink.Put.TheVariants.{Took, Failed}
use Rattle.sparse_outside.specs.Laws.{ToldBytesWereTaken}

pub taken : ToldBytesWereTaken
taken old new piece (Took count) puts = puts.2
taken old new piece Failed puts = puts ∙ sym (append-nil old)
