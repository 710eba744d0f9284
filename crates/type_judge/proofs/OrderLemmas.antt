-- Nodes behind the values of the switches in whose bodies they stand.
use Rattle.std.proofs.Common.{◌≡◌, ℕ, ◌+◌, ◌<◌, ◌≤◌, ◌⊎◌, inl, inr, List, length, Option, Some, None, sym, ap, subst, ◌∙◌, arith}
use Rattle.std.proofs.lemmas.Bool.{cases_lt}
use Rattle.std.proofs.lemmas.Option.{none-some, same_Some}
use Rattle.meaning_statements.specs.Above.{first_above}
use Rattle.meaning_statements.specs.Jumps.{in_switch, switch_of}
use Rattle.meaning_typing.specs.Surroundings.{Surrounding}
use Rattle.meaning_typing.specs.Units.{UnitNodes, child_at}
use Rattle.statement_judge.proofs.AboveLemmas.{above-past}
use Rattle.statement_judge.specs.Later.{SwitchValuesStandBefore}
use Rattle.type_judge.specs.Order.{StandsBehindValue}

module _ (nodes : UnitNodes) (surroundings : List Surrounding) (handle : ℕ) where
  pub behind_none : (found : Option ℕ) → found ≡ switch_of nodes surroundings handle → found ≡ None → StandsBehindValue nodes surroundings handle
  behind_none found is none switch at = absurd (none-some switch (sym none ∙ is ∙ at))

  pub behind_one : (found : Option ℕ) (one : ℕ) → found ≡ switch_of nodes surroundings handle → found ≡ Some one → child_at nodes one 0 < handle
      → StandsBehindValue nodes surroundings handle
  behind_one found one is some before switch at =
      subst (λ (s : ℕ). child_at nodes s 0 < handle) (same_Some one switch (sym some ∙ is ∙ at)) before

-- the first so many do
abbrev pub AreBehind : UnitNodes → List Surrounding → (count : ℕ) → Type 0
AreBehind nodes surroundings count = (handle : ℕ) → handle < count → StandsBehindValue nodes surroundings handle

earlier-or-last : (handle count : ℕ) → handle < count + 1 → (handle < count) ⊎ (count ≡ handle)
earlier-or-last handle count within = grind arith

module _ (nodes : UnitNodes) (surroundings : List Surrounding) where
  pub behind_more : (count : ℕ) → AreBehind nodes surroundings count → StandsBehindValue nodes surroundings count
      → AreBehind nodes surroundings (count + 1)
  behind_more count are here handle within =
      elim (earlier-or-last handle count within) [
        | inl earlier ↦ are handle earlier
        | inr last ↦ subst (StandsBehindValue nodes surroundings) last here
      ]

  -- behind all nodes there is no switch
  no_switch : (handle : ℕ) → length nodes ≤ handle → switch_of nodes surroundings handle ≡ None
  no_switch handle past = ap (first_above in_switch) (above-past nodes surroundings handle past)

  pub all_behind : (count : ℕ) → length nodes ≡ count → AreBehind nodes surroundings count → SwitchValuesStandBefore nodes surroundings
  all_behind count all are label switch kind at =
      elim (cases_lt label count) [
        | inl within ↦ are label within switch at
        | inr past ↦ absurd (none-some switch (sym (no_switch label (omega (arith, past, all))) ∙ at))
      ]
