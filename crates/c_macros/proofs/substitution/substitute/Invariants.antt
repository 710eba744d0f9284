use Rattle.std.proofs.Common.{◌<◌, ◌≤◌, List, map, length, All}
use Rattle.meaning_macros.specs.Substitution.{substituted}
use Rattle.number_sets.specs.NumberSets as sets
use Rattle.c_tokens.specs.Seen.{Extends, at_of}
use Rattle.c_macros.specs.Arguments.{HasArguments, arguments_by}
use Rattle.c_macros.specs.Operands.{grouped, part_by}
use Rattle.c_macros.specs.Reading.{HasName, HasSet, Reading, ReadsNames}
use Rattle.c_macros.specs.Substitution.{AreKnownParts}
use Rattle.c_macros.specs.declared.item.Item.{Item}
use Rattle.c_macros.proofs.BodyPartLemmas.{LaidSoFar}
use Rattle.c_macros.proofs.substitution.substitute.Given as goal

-- the parts so far and the chains that are left are the whole body
abbrev pub invariant-loop-first : goal.invariant-loop-first
invariant-loop-first l = record {
  so_far : (r : Reading) → ReadsNames l.names r → (raws readys : List (List Item)) → HasArguments l.raw raws → HasArguments l.expanded readys →
      LaidSoFar r l.most l.laid
      (substituted (at_of l.place) (arguments_by r raws) (arguments_by r readys) (grouped (map (part_by r.spelled) l.rest)))
      (substituted (at_of l.place) (arguments_by r raws) (arguments_by r readys) (grouped (map (part_by r.spelled) l.parts)));
  count : length l.laid.items.items ≤ l.most;
  parts : AreKnownParts l.names l.rest;
  raw : All (HasName l.names) l.raw.items.now;
  expanded : All (HasName l.names) l.expanded.items.now;
  items : All (HasName l.names) l.laid.items.items;
  sets : (table : sets.Table) → 0 < length table → All (HasSet table) l.raw.items.now → All (HasSet table) l.expanded.items.now → All (HasSet table) l.laid.items.items;
  keeps : Extends l.fn.names l.names;
}

abbrev pub decreases-loop-first : goal.decreases-loop-first
decreases-loop-first l = length l.rest
