-- Whether some node of a run changes counts.
use Rattle.std.proofs.Common.{◌≡◌, ◌↔◌, ℕ, ◌<◌, ◌≤◌, inl, inr, Bool, true, false, sym, ap, subst, ◌∙◌, arith}
use Rattle.std.proofs.lemmas.Bool.{cases_lt}
use Rattle.sparse_model.specs.declared.ids.NameId.{NameId}
use Rattle.meaning_tree.specs.Nodes.{NodeList}
use Rattle.meaning_tree.specs.Laid.{IsWithin}
use Rattle.meaning_typing.specs.Units.{kind_at}
use Rattle.meaning_control.specs.Nodes.{JudgedUnit}
use Rattle.meaning_control.specs.Functions.{statement_of}
use Rattle.linear_code.specs.Changes.{BodyChanges, changes}
use Rattle.linear_code.specs.Run.{IsRunFrom}

module _ (list : NodeList NameId) (unit : JudgedUnit) (function first body : ℕ) (same : body ≡ statement_of unit function) (run : IsRunFrom list first body) where
  -- a node of the run does
  pub one-changes : (handle : ℕ) → first ≤ handle → handle ≤ body → changes unit handle (kind_at unit.nodes handle) ≡ true → BodyChanges list unit function
  one-changes handle from to is = (handle, subst (λ (root : ℕ). IsWithin list root handle) same ((run handle).1 (from, to)), is)

  -- where none before the last one does, the last one decides
  pub last-decides : ((k : ℕ) → first ≤ k → k < body → changes unit k (kind_at unit.nodes k) ≡ false) → first ≤ body → (last : Bool)
      → last ≡ changes unit body (kind_at unit.nodes body) → (last ≡ true) ↔ BodyChanges list unit function
  last-decides none from last is = (λ yes. one-changes body from (omega arith) (sym is ∙ yes), λ (handle, within, does). by handle ((run handle).0 (subst (λ (root : ℕ). IsWithin list root handle) (sym same) within)) does)
    where
      by : (handle : ℕ) → (first ≤ handle) × (handle ≤ body) → changes unit handle (kind_at unit.nodes handle) ≡ true → last ≡ true
      by handle bounds does =
          elim (cases_lt handle body) [
            | inl below ↦ absurd (cc (sym (none handle bounds.0 below) ∙ does))
            | inr past ↦ is ∙ ap (λ (k : ℕ). changes unit k (kind_at unit.nodes k)) (omega (arith, bounds.1, past)) ∙ does
          ]
