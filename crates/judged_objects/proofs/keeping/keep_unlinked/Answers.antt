use Rattle.std.proofs.Common.{Some, sym, ◌∙◌}
use Rattle.indexmap.specs.IndexMap.{get}
use Rattle.judged_objects.specs.Kept.{same_handle}
use Rattle.judged_objects.specs.Notes.{says_something}
use Rattle.judged_objects.proofs.NoteLemmas.{found-if, found-unless}
use Rattle.judged_objects.proofs.keeping.keep_unlinked.Goals as goal

pub returns-then-not-says_something : goal.returns-then-not-says_something
returns-then-not-says_something c = λ other.
    found-unless (same_handle c.args.declarator other) (says_something c.args.note) (Some c.args.note) (get same_handle c.args.unlinked.now other)
    (sym c.says_something.ensures ∙ c.if-not-says_something.true)

pub returns : goal.returns
returns c = λ other.
    c.in_ok-insert.ensures.updates.0 other
    ∙ found-if (same_handle c.args.declarator other) (says_something c.args.note) (Some c.args.note) (get same_handle c.args.unlinked.now other)
    (sym c.says_something.ensures ∙ c.if-not-says_something.false)
