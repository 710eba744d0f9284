-- One entry is another, and those that stay stand for what they stood for.
use Rattle.std.proofs.Common.{◌/◌, ap, ◌∙◌, arith}
use Rattle.std.specs.Prelude.{slice_set}
use Rattle.node_surroundings.specs.Kept.{entries_seen, settings_at}
use Rattle.node_surroundings.proofs.KeptLemmas.{AreWithin-longer, entry_within, list_there, set_kept, set_within}
use Rattle.node_surroundings.proofs.standing.Surroundings.set.Goals as goal

pub index-requires : goal.index-requires
index-requires c =
    omega (
      arith,
      entry_within (settings_at c.self.inside.settings.items) c.self.inside.entries.items c.args.self.now c.args.surrounding.parent c.self.view_is c.requires.parent,
      c.self.inside.entries.ok.0,
    )

pub number_in-requires : goal.number_in-requires
number_in-requires c =
    list_there c.self.inside.settings.items c.self.inside.entries.items c.args.self.now c.args.handle c.list_of-list.result c.index.result.now
    c.self.invariant c.self.view_is c.requires.node c.list_of-list.ensures

pub invariant_of-self : goal.invariant_of-self
invariant_of-self c =
    AreWithin-longer (settings_at c.self.inside.settings.items) (settings_at c.number_in.new.lists.items) 0 c.self.inside.entries.items
    (λ handle. c.number_in.ensures.grows (handle / 32768)) c.self.invariant

pub index_mut-requires : goal.index_mut-requires
index_mut-requires c =
    omega (
      arith,
      entry_within (settings_at c.self.inside.settings.items) c.self.inside.entries.items c.args.self.now c.args.handle c.self.view_is c.requires.node,
      c.self.inside.entries.ok.0,
    )

pub invariant_of-self-2 : goal.invariant_of-self-2
invariant_of-self-2 c =
    set_within c.self.inside.settings.items c.number_in.new.lists.items c.self.inside.entries.items c.args.handle c.list_of-list.result
    c.in_ok-setting.setting c.args.surrounding c.new.result c.number_in.ensures.grows c.self.invariant c.list_of-list.ensures
    c.in_ok-setting.ensures.stands c.new.ensures

pub returns-clause-ok : goal.returns-clause-ok
returns-clause-ok c =
    let later = c.number_in.new.lists.items in
    let entries = c.self.inside.entries.items in
    ap (λ entry. entries_seen (settings_at later) 0 (slice_set entries c.args.handle entry)) c.new.ensures
    ∙ set_kept c.self.inside.settings.items later entries c.args.self.now c.args.handle c.list_of-list.result c.in_ok-setting.setting c.args.surrounding
    c.number_in.ensures.grows c.self.invariant c.self.view_is c.list_of-list.ensures c.in_ok-setting.ensures.stands
