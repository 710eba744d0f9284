-- By its linkage.
use Rattle.std.proofs.Common.{sym, ap, ◌∙◌}
use Rattle.judged_objects.specs.Kept.{told_alone}
use Rattle.judged_objects.proofs.KeptLemmas.{note_of_alone, note_of_linked}
use Rattle.judged_objects.proofs.objects.JudgedObjects.note_declared.Goals as goal

pub returns-then-declaration : goal.returns-then-declaration
returns-then-declaration c = λ table nodes surroundings known kept is.
    c.note_linked.ensures
    ∙ kept.notes c.args.declaration.name
    ∙ sym (note_of_linked nodes surroundings known table c.args.declarator c.args.declaration is c.if-declaration.true)

pub returns : goal.returns
returns c = λ table nodes surroundings known kept is.
    c.note_alone.ensures
    ∙ kept.own c.args.declarator
    ∙ ap (told_alone nodes surroundings c.args.declarator) is
    ∙ sym (note_of_alone nodes surroundings known table c.args.declarator c.args.declaration is c.if-declaration.false)
