use Rattle.std.proofs.Common.{◌++◌, List}
use Rattle.meaning_outside.specs.Loads.{Loaded, loads_since}
use Rattle.c_tokens.specs.Seen.{Extends}
use Rattle.c_preproc.specs.Loads.{HasLoaded, KeepsLoads, paths_seen}
use Rattle.c_preproc.specs.Opens.{work_left}
use Rattle.c_preproc.specs.States.{IsHeld}
use Rattle.c_preproc.specs.Steps.{ArePlaced}
use Rattle.c_preproc.proofs.ReadLemmas.{IsReadOn}
use Rattle.c_preproc.proofs.state.State.read_files.Given as goal

abbrev pub invariant-files : goal.invariant-files
invariant-files g l =
    record {
      keeps : Extends l.fn.names l.names;
      held : IsHeld l.names l.self;
      placed : ArePlaced l.kept.files.items l.waiting.items;
      loaded : HasLoaded (g.F.Files.loads l.fn.files) (g.F.Files.loads l.files) (g.F.Files.holds l.fn.files) (g.F.Files.holds l.files) (g.F.Files.faults l.fn.files) (g.F.Files.faults l.files) ⊥;
      read : (earlier : List Loaded) → KeepsLoads l.fn.names (paths_seen l.fn.names l.fn.self) earlier l.fn.kept →
          IsReadOn l.fn.names l.names l.fn.self l.self (earlier ++ loads_since (g.F.Files.loads l.fn.files) (g.F.Files.loads l.files)) l.fn.kept l.kept l.directories l.first l.waiting.items;
    }

abbrev pub decreases-files : goal.decreases-files
decreases-files g l = work_left l.self l.kept.files.items l.waiting.items
