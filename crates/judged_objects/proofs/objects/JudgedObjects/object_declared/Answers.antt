-- By its linkage, and then by its name.
use Rattle.std.proofs.Common.{option_map, if◌then◌else◌, sym, ap, ◌∙◌}
use Rattle.meaning_objects.specs.Objects.{first_linked, handle_or}
use Rattle.node_facts.specs.Facts.{name_seen}
use Rattle.judged_objects.specs.declared.keeping.LinkedObject.{LinkedObject}
use Rattle.judged_objects.proofs.objects.JudgedObjects.object_declared.Goals as goal

pub returns-then-not-declaration : goal.returns-then-not-declaration
returns-then-not-declaration c = λ table nodes surroundings known kept.
    ap (λ links. if links then handle_or c.args.declarator (first_linked (name_seen c.args.declaration.name) 0 known) else c.args.declarator)
    (sym c.if-not-declaration.true)

pub returns-in-Some : goal.returns-in-Some
returns-in-Some c = λ table nodes surroundings known kept.
    ap (handle_or c.args.declarator) (ap (option_map (λ (one : LinkedObject). one.object)) c.in-Some.ensures.value ∙ kept.objects c.args.declaration.name)
    ∙ ap (λ links. if links then handle_or c.args.declarator (first_linked (name_seen c.args.declaration.name) 0 known) else c.args.declarator)
    (sym c.if-not-declaration.false)

pub returns-in-None : goal.returns-in-None
returns-in-None c = λ table nodes surroundings known kept.
    ap (handle_or c.args.declarator) (ap (option_map (λ (one : LinkedObject). one.object)) c.in-None.ensures.value ∙ kept.objects c.args.declaration.name)
    ∙ ap (λ links. if links then handle_or c.args.declarator (first_linked (name_seen c.args.declaration.name) 0 known) else c.args.declarator)
    (sym c.if-not-declaration.false)
