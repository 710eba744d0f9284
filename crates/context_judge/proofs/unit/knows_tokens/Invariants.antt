-- Each `do` so far has a token.
use Rattle.std.proofs.Common.{◌≡◌, ℕ, ◌<◌, ◌^◌, true}
use Rattle.meaning_typing.specs.Units.{kind_at, node_at}
use Rattle.decl_judge.specs.Units.{nodes_of}
use Rattle.context_judge.specs.Kinds.{is_do}
use Rattle.context_judge.proofs.unit.knows_tokens.Given as goal

abbrev pub invariant-loop-handle : goal.invariant-loop-handle
invariant-loop-handle l =
    (k : ℕ) → k < l.handle → is_do (kind_at (nodes_of l.unit) k) ≡ true → (node_at (nodes_of l.unit) k).number < 2 ^ 32
