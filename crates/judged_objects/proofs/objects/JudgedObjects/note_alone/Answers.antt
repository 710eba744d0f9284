use Rattle.std.proofs.Common.{ap, ◌∙◌}
use Rattle.judged_objects.specs.Notes.{note_or_none}
use Rattle.judged_objects.proofs.objects.JudgedObjects.note_alone.Goals as goal

pub returns-in-Some : goal.returns-in-Some
returns-in-Some c = ap note_or_none c.in-Some.ensures.value

pub returns-in-None : goal.returns-in-None
returns-in-None c = c.none.ensures ∙ ap note_or_none c.in-None.ensures.value
