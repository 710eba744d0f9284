use Rattle.std.proofs.Common.{◌≡◌, ◌<◌, List, [], ◌∷◌, map, length, All}
use Rattle.meaning_macros.specs.Substitution.{Joins, chain_tokens}
use Rattle.number_sets.specs.NumberSets as sets
use Rattle.c_tokens.specs.Seen.{Extends, at_of}
use Rattle.c_macros.specs.Arguments.{HasArguments, arguments_by}
use Rattle.c_macros.specs.Chains.{IsSplit, behind_joined, joined_here}
use Rattle.c_macros.specs.Operands.{operand_by}
use Rattle.c_macros.specs.Reading.{HasName, HasSet, Reading, ReadsNames}
use Rattle.c_macros.specs.Substitution.{AreKnownParts}
use Rattle.c_macros.specs.declared.item.Item.{Item}
use Rattle.c_macros.proofs.PastingLemmas.{GoesOn}
use Rattle.c_macros.proofs.pasting.paste_chain.Given as goal

-- what is pasted so far and what is left of the chain are all of it
abbrev pub invariant-loop-part : goal.invariant-loop-part
invariant-loop-part l = record {
  goes : (base : List Item) → IsSplit l.fn.items.items (length l.fn.items.items) base [] → (r : Reading) → ReadsNames l.names r → (raws : List (List Item)) → HasArguments l.raw raws →
      GoesOn r (length base) base l.items.items (λ so_far. chain_tokens (at_of l.place) (arguments_by r raws) so_far (map (operand_by r.spelled) (joined_here l.rest)))
      (chain_tokens (at_of l.place) (arguments_by r raws) (Joins []) (map (operand_by r.spelled) (l.fn.first ∷ joined_here l.others)));
  behind : behind_joined l.rest ≡ behind_joined l.others;
  parts : AreKnownParts l.names l.rest;
  raw : All (HasName l.names) l.raw.items.now;
  items : All (HasName l.names) l.items.items;
  sets : (table : sets.Table) → 0 < length table → All (HasSet table) l.fn.items.items → All (HasSet table) l.raw.items.now → All (HasSet table) l.items.items;
  keeps : Extends l.fn.names l.names;
}

abbrev pub decreases-loop-part : goal.decreases-loop-part
decreases-loop-part l = length l.rest
