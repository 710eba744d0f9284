-- The map has the newest place of a name, at which the entry stands that is found.
use Rattle.std.proofs.Common.{◌≡◌, true, None, reverse, option_map, sym, ap, ◌∙◌, arith}
use Rattle.std.proofs.lemmas.List.{length-reverse}
use Rattle.meaning_scopes.specs.Scopes.{find}
use Rattle.c_scope.specs.Seen.{same_name, told_of}
use Rattle.c_scope.specs.Slots.{newest_in}
use Rattle.c_scope.proofs.FindLemmas.{newest_in-within, none_found, told_at, told_by_place}
use Rattle.c_scope.proofs.scopes.Scopes.find.Goals as goal

pub returns-in_err-place : goal.returns-in_err-place
returns-in_err-place c =
    let none : newest_in (reverse c.self.inside.slots.items) (c.args.space, c.args.name) ≡ None =
    sym (c.self.invariant.found (c.args.space, c.args.name)) ∙ sym c.in_err-place.ensures.value in
    c.from_residual.ensures
    ∙ ap (option_map told_of)
    (sym (none_found true (reverse c.self.inside.slots.items) c.args.space c.args.name none) ∙ ap (λ items. find same_name items c.args.space c.args.name) c.self.view_is)

pub index-requires : goal.index-requires
index-requires c =
    omega (arith, newest_in-within (reverse c.self.inside.slots.items) (c.args.space, c.args.name) c.in_ok-place.field-0.now (sym (c.self.invariant.found (c.args.space, c.args.name)) ∙ sym c.in_ok-place.ensures.value), length-reverse c.self.inside.slots.items)

pub returns-in-Name : goal.returns-in-Name
returns-in-Name c =
    sym (ap (λ items. option_map told_of (find same_name items c.args.space c.args.name)) (sym c.self.view_is)
    ∙ told_by_place c.self.inside.slots.items c.args.space c.args.name c.self.inside.opened c.in_ok-place.field-0.now c.index.result.now
    (sym (c.self.invariant.found (c.args.space, c.args.name)) ∙ sym c.in_ok-place.ensures.value) c.self.invariant.opened_at c.index.ensures
    ∙ ap (told_at c.self.inside.opened c.in_ok-place.field-0.now) c.in-Name.is)

pub returns-in-Mark : goal.returns-in-Mark
returns-in-Mark c =
    sym (ap (λ items. option_map told_of (find same_name items c.args.space c.args.name)) (sym c.self.view_is)
    ∙ told_by_place c.self.inside.slots.items c.args.space c.args.name c.self.inside.opened c.in_ok-place.field-0.now c.index.result.now
    (sym (c.self.invariant.found (c.args.space, c.args.name)) ∙ sym c.in_ok-place.ensures.value) c.self.invariant.opened_at c.index.ensures
    ∙ ap (told_at c.self.inside.opened c.in_ok-place.field-0.now) c.in-Mark.is)
