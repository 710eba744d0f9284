-- The nodes above a node, a step at a time.
use Rattle.std.proofs.Common.{◌≡◌, ℕ, zero, suc, ◌+◌, ◌-◌, ◌<◌, ◌≤◌, Bool, true, false, nat_lt, List, [], ◌∷◌, length, unwrap_or, refl, sym, ap, ◌∙◌, arith, if◌then◌else◌}
use Rattle.std.proofs.lemmas.Bool.{le-ltb}
use Rattle.std.proofs.lemmas.Bool.Decides.{nat_tests}
use Rattle.std.proofs.lemmas.Option.{slice_get_past, unwrap_or-slice_get}
use Rattle.meaning_typing.specs.Units.{UnitNodes}
use Rattle.meaning_typing.specs.Surroundings.{Surrounding, of_unit, surrounding_at}
use Rattle.meaning_statements.specs.Above.{Above, climbed, node_above, nodes_above}

-- by a test
chosen-else : {X : Type 0} (b : Bool) (x y : X) → b ≡ false → (if b then x else y) ≡ y
chosen-else b x y is = rw is refl

pub less-by : (m n : ℕ) → nat_lt m n ≡ true → m < n
less-by m n is = grind (arith, nat_tests)

-- behind the nodes each stands in the unit
pub stands-past : (surroundings : List Surrounding) (handle : ℕ) → length surroundings ≤ handle
    → surrounding_at surroundings handle ≡ of_unit (length surroundings)
stands-past surroundings handle past =
    sym (unwrap_or-slice_get surroundings handle (of_unit (length surroundings)))
    ∙ ap (λ found. unwrap_or found (of_unit (length surroundings))) (slice_get_past surroundings handle past)

-- and nothing is above
nothing-above :
    (nodes : UnitNodes) (surroundings : List Surrounding) (steps handle : ℕ) → length surroundings ≤ handle → climbed nodes surroundings steps handle ≡ []
nothing-above nodes surroundings zero handle past = refl
nothing-above nodes surroundings (suc steps) handle past =
    chosen-else (nat_lt handle (surrounding_at surroundings handle).parent) _ _
    (ap (λ (s : Surrounding). nat_lt handle s.parent) (stands-past surroundings handle past) ∙ le-ltb handle (length surroundings) past)

-- two lists behind one entry are equal where they are asked for
same-behind : (above : Above) (one other : List Above) (test : Bool) → (test ≡ true → one ≡ other)
    → (if test then above ∷ one else []) ≡ (if test then above ∷ other else [])
same-behind above one other true same = ap (λ rest. above ∷ rest) (same refl)
same-behind above one other false same = refl

-- so many steps as there are nodes behind are enough
same-climb :
    (nodes : UnitNodes) (surroundings : List Surrounding) (steps others handle : ℕ)
    → length surroundings ≤ handle + steps → length surroundings ≤ handle + others
    → climbed nodes surroundings steps handle ≡ climbed nodes surroundings others handle
same-climb nodes surroundings zero others handle one two = sym (nothing-above nodes surroundings others handle (omega (arith, one)))
same-climb nodes surroundings (suc steps) zero handle one two = nothing-above nodes surroundings (suc steps) handle (omega (arith, two))
same-climb nodes surroundings (suc steps) (suc others) handle one two =
    let parent = (surrounding_at surroundings handle).parent in
    same-behind (node_above nodes (surrounding_at surroundings handle)) (climbed nodes surroundings steps parent)
    (climbed nodes surroundings others parent) (nat_lt handle parent)
    (λ is. same-climb nodes surroundings steps others parent (omega (arith, one, less-by handle parent is)) (omega (arith, two, less-by handle parent is)))

-- those above a node are the one that it stands in, and those above that one
pub above-next :
    (nodes : UnitNodes) (surroundings : List Surrounding) (handle : ℕ) → length surroundings ≡ length nodes → handle < length nodes
    → nodes_above nodes surroundings handle
    ≡ (if nat_lt handle (surrounding_at surroundings handle).parent
    then node_above nodes (surrounding_at surroundings handle) ∷ nodes_above nodes surroundings (surrounding_at surroundings handle).parent else [])
above-next nodes surroundings handle all within =
    let parent = (surrounding_at surroundings handle).parent in
    let left = length nodes - handle - 1 in
    ap (λ steps. climbed nodes surroundings steps handle) {x = length nodes - handle} {y = suc left} (omega (arith, within))
    ∙ same-behind (node_above nodes (surrounding_at surroundings handle)) (climbed nodes surroundings left parent) (nodes_above nodes surroundings parent)
    (nat_lt handle parent)
    (λ is. same-climb nodes surroundings left (length nodes - parent) parent (omega (arith, all, within, less-by handle parent is)) (omega (arith, all)))

-- above a node that isn't there is nothing
pub above-past : (nodes : UnitNodes) (surroundings : List Surrounding) (handle : ℕ) → length nodes ≤ handle → nodes_above nodes surroundings handle ≡ []
above-past nodes surroundings handle past =
    ap (λ steps. climbed nodes surroundings steps handle) {x = length nodes - handle} {y = 0} (omega (arith, past))
