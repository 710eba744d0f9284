-- What is looked for stands in what is left.
use Rattle.std.proofs.Common.{◌≡◌, map, drop}
use Rattle.meaning_derivation.specs.Scoping.{entries_at}
use Rattle.parse_state.specs.Seen.{closed_seen}
use Rattle.parse_state.proofs.parameters.bindings_at.Given as goal

abbrev pub invariant-loop-list : goal.invariant-loop-list
invariant-loop-list l = entries_at (map closed_seen (drop l.list-index l.closed)) l.token ≡ entries_at (map closed_seen l.closed) l.token
