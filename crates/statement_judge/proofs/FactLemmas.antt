-- What is known of later nodes changes nothing for labels that were read.
use Rattle.std.proofs.Common.{◌≡◌, ℕ, zero, suc, ◌<◌, ◌≤◌, ◌⊎◌, inl, inr, true, List, [], ◌∷◌, ◌++◌, length, get_or, map, slice_get, Option, Some, None, refl, sym, ap, ap₂, ◌∙◌, arith}
use Rattle.std.proofs.lemmas.List.{length-map}
use Rattle.std.proofs.lemmas.Option.{none-some}
use Rattle.vocabulary.specs.declared.node_kind.NodeKind.{NodeKind}
use Rattle.vocabulary.specs.declared.node_kind.NodeKind.TheVariants as kinds
use Rattle.meaning_typing.specs.Facts.{Fact, Unknown, fact_at}
use Rattle.meaning_typing.specs.Surroundings.{Surrounding}
use Rattle.meaning_typing.specs.Typing.{part_fact}
use Rattle.meaning_typing.specs.Units.{UnitNodes, child_at, kind_at, node_at}
use Rattle.meaning_statements.specs.Jumps.{is_switch_label, switch_of}
use Rattle.meaning_statements.specs.StatementRows.{number_at, numbered_label, switch_labels_if, switched_fact}
use Rattle.meaning_statements.specs.Statements.{number_of_label}
use Rattle.meaning_typing.specs.Typing.{part_token}
use Rattle.statement_judge.specs.Later.{ComeLater, SwitchValuesStandBefore}

fact-front : (facts more : List Fact) (handle : ℕ) → handle < length facts → fact_at (facts ++ more) handle ≡ fact_at facts handle
fact-front [] more handle within = absurd (omega (arith, within))
fact-front (fact ∷ facts) more zero within = refl
fact-front (fact ∷ facts) more (suc handle) within = fact-front facts more handle (omega (arith, within))

fact-past : (facts : List Fact) (handle : ℕ) → length facts ≤ handle → fact_at facts handle ≡ Unknown
fact-past [] handle past = refl
fact-past (fact ∷ facts) zero past = absurd (omega (arith, past))
fact-past (fact ∷ facts) (suc handle) past = fact-past facts handle (omega (arith, past))

length-front : (facts more : List Fact) → length facts ≤ length (facts ++ more)
length-front [] more = omega arith
length-front (fact ∷ facts) more = omega (arith, length-front facts more)

-- a child that isn't there has a handle that no node has
child-or-none : (many place : ℕ) (children : List (ℕ × ℕ)) (parent : ℕ)
    → ((at : ℕ) (child : ℕ × ℕ) → slice_get children at ≡ Some child → child.0 < parent)
    → (get_or (map (λ child. child.0) children) place many < parent) ⊎ (get_or (map (λ child. child.0) children) place many ≡ many)
child-or-none many place [] parent before = inr refl
child-or-none many zero (child ∷ children) parent before = inl (before 0 child refl)
child-or-none many (suc place) (child ∷ children) parent before = child-or-none many place children parent (λ at other is. before (suc at) other is)

module _ (nodes : UnitNodes) (surroundings : List Surrounding) (facts later : List Fact) (come : ComeLater nodes facts later) where
  fact-later : (handle : ℕ) → (handle < length facts) ⊎ (handle ≡ length nodes) → fact_at later handle ≡ fact_at facts handle
  fact-later handle (inl within) = ap (λ all. fact_at all handle) come.behind ∙ fact-front facts come.more handle within
  fact-later handle (inr none) =
      fact-past later handle (omega (arith, come.few, none))
      ∙ sym (fact-past facts handle (omega (arith, come.few, none, ap length come.behind, length-front facts come.more)))

  module _ (handle : ℕ) (next : length facts ≡ handle) (order : SwitchValuesStandBefore nodes surroundings)
      (before : (at : ℕ) (child : ℕ × ℕ) → slice_get (node_at nodes handle).children at ≡ Some child → child.0 < handle) where
    below : (child : ℕ) → (child < handle) ⊎ (child ≡ length nodes) → (child < length facts) ⊎ (child ≡ length nodes)
    below child (inl less) = inl (omega (arith, less, next))
    below child (inr none) = inr none

    label-later : part_fact nodes later handle 0 ≡ part_fact nodes facts handle 0
    label-later = fact-later (child_at nodes handle 0) (below (child_at nodes handle 0) (child-or-none (length nodes) 0 (node_at nodes handle).children handle before))

    switched-later : (switch : Option ℕ) → is_switch_label (kind_at nodes handle) ≡ true → switch_of nodes surroundings handle ≡ switch
        → switched_fact nodes later switch ≡ switched_fact nodes facts switch
    switched-later None kind is = refl
    switched-later (Some switch) kind is =
        fact-later (child_at nodes switch 0) (below (child_at nodes switch 0) (inl (order handle switch kind is)))

    number-later : (switch : Option ℕ) → is_switch_label (kind_at nodes handle) ≡ true → switch_of nodes surroundings handle ≡ switch
        → number_at nodes surroundings later handle ≡ number_at nodes surroundings facts handle
    number-later switch kind is =
        ap₂ number_of_label
        (ap (switched_fact nodes later) is ∙ switched-later switch kind is ∙ ap (switched_fact nodes facts) (sym is)) label-later

    -- so what it adds to the labels of switches is the same
    labels_by_kind : (kind : NodeKind) (switch : Option ℕ) → kind_at nodes handle ≡ kind → switch_of nodes surroundings handle ≡ switch
        → switch_labels_if nodes surroundings later handle kind switch ≡ switch_labels_if nodes surroundings facts handle kind switch
    labels_by_kind kinds.CaseStatement (Some switch) is at =
        ap (numbered_label switch (part_token nodes handle 0)) (number-later (Some switch) (ap is_switch_label is) at)
    labels_by_kind kinds.DefaultStatement (Some switch) is at = refl
    labels_by_kind kind switch is at = refl

    pub labels-later :
        switch_labels_if nodes surroundings later handle (kind_at nodes handle) (switch_of nodes surroundings handle)
        ≡ switch_labels_if nodes surroundings facts handle (kind_at nodes handle) (switch_of nodes surroundings handle)
    labels-later = labels_by_kind (kind_at nodes handle) (switch_of nodes surroundings handle) refl refl
