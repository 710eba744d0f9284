-- No node so far is a context's.
use Rattle.std.proofs.Common.{◌≡◌, ℕ, ◌<◌, false}
use Rattle.meaning_typing.specs.Units.{kind_at}
use Rattle.decl_judge.specs.Units.{nodes_of}
use Rattle.context_judge.specs.Kinds.{is_context}
use Rattle.context_judge.proofs.unit.has_contexts.Given as goal

abbrev pub invariant-loop-handle : goal.invariant-loop-handle
invariant-loop-handle l = (k : ℕ) → k < l.handle → is_context (kind_at (nodes_of l.unit) k) ≡ false
