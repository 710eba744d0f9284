-- What is found among the entries so far, or else among the names that are left, is what is found in the end.
use Rattle.std.proofs.Common.{◌≡◌, ◌≤◌, List, length}
use Rattle.std.specs.Map.{lookup}
use Rattle.sparse_model.specs.declared.ids.NameId.{NameId}
use Rattle.meaning_types.specs.Types.{TypeTree}
use Rattle.meaning_layout.specs.Sizes.{Told}
use Rattle.c_types.specs.Chains.{AreKnownEntries, ChainGrows, or_later, own_name}
use Rattle.c_types.specs.Members.{AreKnownNames, is_name}
use Rattle.c_types.proofs.chains.NameChain.enter_all.Given as goal

abbrev pub invariant-names : goal.invariant-names
invariant-names l =
    record {
      links : l.self.links ≡ l.fn.self.links;
      grows : ChainGrows l.fn.self l.self;
      first : l.first ≤ length l.self.entries;
      known : (types : List TypeTree) → AreKnownEntries types l.fn.self.entries → AreKnownNames types l.names → AreKnownEntries types l.self.entries × AreKnownNames types l.rest;
      named : (told : Told) (asked : NameId) → or_later (own_name told l.self l.first asked) (lookup (is_name asked) l.rest) ≡ or_later (own_name told l.fn.self l.first asked) (lookup (is_name asked) l.names);
    }

abbrev pub decreases-names : goal.decreases-names
decreases-names l = length l.rest
