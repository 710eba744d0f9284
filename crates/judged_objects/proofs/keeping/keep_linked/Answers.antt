use Rattle.std.proofs.Common.{Some, if◌then◌else◌, ap, ◌∙◌}
use Rattle.indexmap.specs.IndexMap.{get}
use Rattle.judged_objects.specs.Kept.{linked_with, same_name}
use Rattle.judged_objects.proofs.keeping.keep_linked.Goals as goal

pub returns : goal.returns
returns c = λ other.
    c.in_ok-insert.ensures.updates.0 other
    ∙ ap (λ one. if same_name c.args.name other then Some one else get same_name c.args.linked.now other)
    (c.with_declarator-object.ensures ∙ ap (λ found. linked_with found c.args.declarator c.args.note) (c.copied.ensures ∙ c.get.ensures.value))
