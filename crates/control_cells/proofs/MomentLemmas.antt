-- A cell of which some way leads to its moment is one that may have a moment.
use Rattle.std.proofs.Common.{◌≡◌, inl, inr, ℕ, zero, suc, ◌+◌, ◌<◌, Bool, true, false, nat_eq, nat_lt, not, List, [], ◌∷◌, Some, length, slice_get, arith, if◌then◌else◌}
use Rattle.std.proofs.lemmas.Bool.{both_ways, cases_Bool, lt-ltb}
use Rattle.std.proofs.lemmas.Option.{none-some}
use Rattle.meaning_paths.specs.Walks.{IsIn}
use Rattle.meaning_control.specs.Kinds as kinds
use Rattle.meaning_control.specs.Kinds.{ControlKind}
use Rattle.meaning_control.specs.Rows.{Into, Moment, On, Out, Way, begins, behind, onward, outs}
use Rattle.meaning_control.specs.laws.Cells.{Cell, HasMoment}
use Rattle.control_cells.specs.Seen.{may_have_moment}

other_if : (test : Bool) (one other : Way) → (one ≡ Moment → ⊥) → (other ≡ Moment → ⊥) → (if test then one else other) ≡ Moment → ⊥
other_if true one other first second is = first is
other_if false one other first second is = second is

no_into : (place : ℕ) → Into place ≡ Moment → ⊥
no_into place is = cc

no_out : (outcome : Bool) → Out outcome ≡ Moment → ⊥
no_out outcome is = cc

no_outs : (outcomes : List Bool) → IsIn (On Moment) (outs outcomes) → ⊥
no_outs [] there = there
no_outs (outcome ∷ outcomes) (inl is) = cc
no_outs (outcome ∷ outcomes) (inr there) = no_outs outcomes there

quiet_begins : (kind : ControlKind) (parts : ℕ) → may_have_moment kind parts ≡ false → IsIn (On Moment) (begins kind parts) → ⊥
quiet_begins (kinds.Value outcomes) zero is there = no_outs outcomes there
quiet_begins (kinds.Value outcomes) (suc parts) is there = both_ways (nat_lt 0 (suc parts)) is (lt-ltb 0 (suc parts) (omega arith))
quiet_begins (kinds.Calling passes outcomes) parts is there = cc
quiet_begins (kinds.Switch number) parts is there = cc
quiet_begins kinds.While parts is there = cc
quiet_begins (kinds.Do while_token) parts is there = cc
quiet_begins (kinds.For has_condition) parts is there = cc
quiet_begins kinds.Return parts is there = cc
quiet_begins kind zero is (inl same) = cc
quiet_begins kind zero is (inr none) = none
quiet_begins kind (suc parts) is (inl same) = cc
quiet_begins kind (suc parts) is (inr none) = none

quiet_onward : (kind : ControlKind) (parts : ℕ) → may_have_moment kind parts ≡ false → IsIn (On Moment) (onward kind) → ⊥
quiet_onward (kinds.Value outcomes) parts is there = no_outs outcomes there
quiet_onward (kinds.Calling passes outcomes) parts is there = cc
quiet_onward (kinds.Switch number) parts is there = cc
quiet_onward kinds.While parts is there = cc
quiet_onward (kinds.Do while_token) parts is there = cc
quiet_onward (kinds.For has_condition) parts is there = cc
quiet_onward kinds.Return parts is there = cc
quiet_onward kind parts is there = there

quiet_behind : (kind : ControlKind) (parts place : ℕ) (outcome : Bool) → place < parts → may_have_moment kind parts ≡ false → behind kind parts place outcome ≡ Moment → ⊥
quiet_behind (kinds.Value outcomes) parts place outcome within is same = both_ways (nat_lt 0 parts) is (lt-ltb 0 parts (omega (arith, within)))
quiet_behind (kinds.Calling passes outcomes) parts place outcome within is same = cc
quiet_behind (kinds.Switch number) parts place outcome within is same = cc
quiet_behind kinds.While parts place outcome within is same = cc
quiet_behind (kinds.Do while_token) parts place outcome within is same = cc
quiet_behind (kinds.For has_condition) parts place outcome within is same = cc
quiet_behind kinds.Return parts place outcome within is same = cc
quiet_behind kinds.Not parts place outcome within is same = no_out (not outcome) same
quiet_behind kinds.And parts place outcome within is same =
    other_if (nat_eq place 0) (if outcome then Into 1 else Out false) (Out outcome) (other_if outcome (Into 1) (Out false) (no_into 1) (no_out false)) (no_out outcome) same
quiet_behind kinds.Or parts place outcome within is same =
    other_if (nat_eq place 0) (if outcome then Out true else Into 1) (Out outcome) (other_if outcome (Out true) (Into 1) (no_out true) (no_into 1)) (no_out outcome) same
quiet_behind kinds.Conditional parts place outcome within is same =
    other_if (nat_eq place 0) (if outcome then Into 1 else Into 2) (Out outcome) (other_if outcome (Into 1) (Into 2) (no_into 1) (no_into 2)) (no_out outcome) same
quiet_behind kinds.Expect parts place outcome within is same =
    other_if (nat_eq place 0) (if outcome then Into 1 else Into 2) (Out (nat_eq place 1)) (other_if outcome (Into 1) (Into 2) (no_into 1) (no_into 2)) (no_out (nat_eq place 1)) same
quiet_behind kinds.If parts place outcome within is same =
    other_if (nat_eq place 0) (if outcome then Into 1 else Into 2) (Out true) (other_if outcome (Into 1) (Into 2) (no_into 1) (no_into 2)) (no_out true) same
quiet_behind kind parts place outcome within is same = other_if (nat_lt (place + 1) parts) (Into (place + 1)) (Out outcome) (no_into (place + 1)) (no_out outcome) same

part_within : (parts : List ℕ) (place part : ℕ) → slice_get parts place ≡ Some part → place < length parts
part_within [] place part at = absurd (none-some part at)
part_within (first ∷ parts) zero part at = omega arith
part_within (first ∷ parts) (suc place) part at = omega (arith, part_within parts place part at)

pub may_have : (cell : Cell) → HasMoment cell → may_have_moment cell.kind (length cell.parts) ≡ true
may_have cell has =
    elim (cases_Bool (may_have_moment cell.kind (length cell.parts))) [
      | inl is ↦ is
      | inr none ↦ absurd (never none has)
    ]
  where
    never : may_have_moment cell.kind (length cell.parts) ≡ false → HasMoment cell → ⊥
    never none (inl there) = quiet_begins cell.kind (length cell.parts) none there
    never none (inr (inl there)) = quiet_onward cell.kind (length cell.parts) none there
    never none (inr (inr (place, part, outcome, at, is))) =
        quiet_behind cell.kind (length cell.parts) place outcome (part_within cell.parts place part at) none is
