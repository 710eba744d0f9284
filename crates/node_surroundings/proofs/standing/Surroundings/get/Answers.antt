-- What is kept is what is seen.
use Rattle.std.proofs.Common.{arith}
use Rattle.node_surroundings.specs.Kept.{settings_at}
use Rattle.node_surroundings.proofs.KeptLemmas.{entry_within, kept_at, list_there, seen_at, setting_there}
use Rattle.node_surroundings.proofs.standing.Surroundings.get.Goals as goal

pub index-entry-requires : goal.index-entry-requires
index-entry-requires c =
    omega (
      arith,
      entry_within (settings_at c.self.inside.settings.items) c.self.inside.entries.items c.args.self.now c.args.handle c.self.view_is c.requires,
      c.self.inside.entries.ok.0,
    )

pub index-settings-requires : goal.index-settings-requires
index-settings-requires c =
    omega (
      arith,
      list_there c.self.inside.settings.items c.self.inside.entries.items c.args.self.now c.args.handle c.list_of.result c.index-entry.result.now
          c.self.invariant c.self.view_is c.requires c.list_of.ensures,
      c.self.inside.settings.ok.0,
    )

pub index-requires : goal.index-requires
index-requires c =
    omega (
      arith,
      setting_there c.self.inside.settings.items c.self.inside.entries.items c.args.self.now c.args.handle c.list_of.result c.index-entry.result.now
          c.index-settings.result.now c.self.invariant c.self.view_is c.requires c.index-entry.ensures c.list_of.ensures c.index-settings.ensures,
      c.index-settings.result.now.ok.0,
    )

pub returns-clause-kept : goal.returns-clause-kept
returns-clause-kept c =
    kept_at c.self.inside.settings.items c.self.inside.entries.items c.args.self.now c.args.handle c.list_of.result c.index-entry.result.now
    c.index-settings.result.now c.index.result.now c.self.invariant c.self.view_is c.requires c.index-entry.ensures c.list_of.ensures
    c.index-settings.ensures c.index.ensures

pub returns-clause-seen : goal.returns-clause-seen
returns-clause-seen c =
    seen_at c.args.self.now c.args.handle _
    (kept_at c.self.inside.settings.items c.self.inside.entries.items c.args.self.now c.args.handle c.list_of.result c.index-entry.result.now
    c.index-settings.result.now c.index.result.now c.self.invariant c.self.view_is c.requires c.index-entry.ensures c.list_of.ensures
    c.index-settings.ensures c.index.ensures)
