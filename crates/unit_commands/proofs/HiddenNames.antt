-- The number of a declarator or an enumerator: nothing, or a handle and one.
use Rattle.std.proofs.Common.{◌≡◌, ℕ, zero, suc, ◌-◌, false, ◌==◌, [], refl, ap, arith}
use Rattle.meaning_tree.specs.LookUps.{node_at}
use Rattle.unit_commands.specs.TreeLines.{ShownUnit, hidden_text, node_text}

pub hidden_none : (shown : ShownUnit) → hidden_text shown 0 ≡ []
hidden_none shown = refl

pub hidden_some : (shown : ShownUnit) (number : ℕ) → (number == 0) ≡ false → hidden_text shown number ≡ node_text shown.tokens (node_at shown.list (number - 1))
hidden_some shown zero not_zero = cc
hidden_some shown (suc handle) not_zero = ap (λ n. node_text shown.tokens (node_at shown.list n)) before
  where
    before : handle ≡ suc handle - 1
    before = omega arith
