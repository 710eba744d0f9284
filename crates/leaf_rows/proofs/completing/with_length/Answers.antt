-- Both have one type.
use Rattle.std.proofs.Common.{◌≡◌, Some, option_map, ap, ap₂, sym, ◌∙◌}
use Rattle.std.proofs.lemmas.Option.{none-some, same_Some}
use Rattle.meaning_types.specs.Composite.{composite}
use Rattle.meaning_initializers.specs.Filling.{completed}
use Rattle.c_types.specs.Table.{type_at}
use Rattle.node_facts.proofs.GrowthLemmas.{type_later}
use Rattle.leaf_rows.proofs.CompletingLemmas.{composite_is}
use Rattle.leaf_rows.proofs.completing.with_length.Goals as goal

pub returns-in-Some-clause-made : goal.returns-in-Some-clause-made
returns-in-Some-clause-made c =
    let old = c.args.types.now in
    let between = c.array_of.new.types in
    let new = c.composite.new.self in
    let found : option_map (type_at new) c.in_ok-complete.field-0 ≡ Some (completed (type_at old c.args.object) c.args.length) =
    c.in_ok-complete.ensures.composite
    ∙ (ap₂ composite (type_later old between c.in_ok-array.ensures.keeps c.args.object c.requires.object) c.in_ok-array.ensures.made
    ∙ composite_is (type_at old c.args.object) (type_at old c.args.element) c.args.length c.requires.open) in
    same_Some _ _ (sym (ap (option_map (type_at new)) c.in-Some.is) ∙ found)

pub returns-in-None-clause-made : goal.returns-in-None-clause-made
returns-in-None-clause-made c =
    let old = c.args.types.now in
    let between = c.array_of.new.types in
    let new = c.composite.new.self in
    let found : option_map (type_at new) c.in_ok-complete.field-0 ≡ Some (completed (type_at old c.args.object) c.args.length) =
    c.in_ok-complete.ensures.composite
    ∙ (ap₂ composite (type_later old between c.in_ok-array.ensures.keeps c.args.object c.requires.object) c.in_ok-array.ensures.made
    ∙ composite_is (type_at old c.args.object) (type_at old c.args.element) c.args.length c.requires.open) in
    absurd (none-some _ (sym (ap (option_map (type_at new)) c.in-None.is) ∙ found))
