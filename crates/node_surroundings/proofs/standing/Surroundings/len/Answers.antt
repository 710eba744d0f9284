-- There are as many nodes as entries.
use Rattle.std.proofs.Common.{length, sym, ap, ◌∙◌}
use Rattle.node_surroundings.specs.Kept.{settings_at}
use Rattle.node_surroundings.proofs.KeptLemmas.{length-entries_seen}
use Rattle.node_surroundings.proofs.standing.Surroundings.len.Goals as goal

pub returns : goal.returns
returns c =
    c.len.ensures ∙ c.self.inside.entries.ok.0 ∙ sym (length-entries_seen (settings_at c.self.inside.settings.items) 0 c.self.inside.entries.items) ∙ ap length c.self.view_is
