use Rattle.std.proofs.Common.{◌≡◌, ◌++◌, List, ℕ, length, map}
use Rattle.meaning_outside.specs.Loads.{Loaded, loads_since}
use Rattle.c_tokens.specs.Seen.{Extends}
use Rattle.c_directives.specs.Headers.{bytes_of}
use Rattle.c_preproc.specs.Loads.{HasLoaded, KeepsLoads}
use Rattle.c_preproc.proofs.LookLemmas.{IsLeft}
use Rattle.c_preproc.proofs.kept.Kept.search.Given as goal

abbrev pub invariant-wanted : goal.invariant-wanted
invariant-wanted g l =
    record {
      keeps : Extends l.fn.names l.names;
      files : l.self.files ≡ l.fn.self.files;
      loaded : HasLoaded (g.F.Files.loads l.fn.files) (g.F.Files.loads l.files) (g.F.Files.holds l.fn.files) (g.F.Files.holds l.files) (g.F.Files.faults l.fn.files) (g.F.Files.faults l.files) ⊥;
      found : (known : List (List ℕ)) (earlier : List Loaded) → KeepsLoads l.fn.names known earlier l.fn.self →
          IsLeft l.names known (earlier ++ loads_since (g.F.Files.loads l.fn.files) (g.F.Files.loads l.files)) l.self (map bytes_of l.paths.items) (map bytes_of l.left);
    }

abbrev pub decreases-wanted : goal.decreases-wanted
decreases-wanted g l = length l.left
