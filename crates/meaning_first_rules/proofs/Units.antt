-- The judged failures of a unit in which names are bound are those of all its statements, and stand in order.
use Rattle.std.proofs.Common.{◌≡◌, ℕ, ◌+◌, true, List, [], ◌∷◌, ◌++◌, All, codes, length, length-append, flat_map, subst, arith}
use Rattle.std.proofs.lemmas.Bool.{and_parts}
use Rattle.std.proofs.lemmas.List.Concat.{flat_map-append}
use Rattle.std.proofs.lemmas.List.Elements.{All-nil, All-cons, All-append, All-head, All-tail, All-contains}
use Rattle.std.specs.List.{list_all}
use Rattle.meaning_syntax.specs.Items.{Item, Object, Function, Statement, statement_spelled, item_spelled}
use Rattle.meaning_syntax.specs.Binding.{are_bound, item_statements, statement_binds}
use Rattle.meaning_first_rules.specs.Evaluation.{accesses_in, conversions_in}
use Rattle.meaning_first_rules.specs.Placed.{Placed, placed_body, placed_behind, placed_in, tokens_before_body, placed_accesses, placed_conversions}
use Rattle.meaning_first_rules.specs.Failures.{Failure, IsListing, Fails}
use Rattle.meaning_first_rules.specs.plain.Judging.{judged_statement, judged_placed, failures_of}
use Rattle.meaning_syntax.specs.Trees.{unit_tree}
use Rattle.meaning_first_rules.specs.laws.Listings.{ListingsExist, ListingsAreUnique}
use Rattle.meaning_first_rules.proofs.Order.{AreOrdered-unique, StandIn, StandIn-nil, StandIn-append_texts, StandIn-wider}
use Rattle.meaning_first_rules.proofs.Failing.{AreThose, AreThose-nil, AreThose-append}
use Rattle.meaning_first_rules.proofs.Trees.{accesses_in-unit_tree, conversions_in-unit_tree}
use Rattle.meaning_first_rules.proofs.Statements.{judged_statement-AreThose, judged_statement-StandIn}

-- Each placed statement binds

-- the names of the statement are objects declared before
abbrev Binds : Placed → Type 0
Binds placed = statement_binds placed.before placed.statement ≡ true

-- the statements of a body in which each binds
placed_body-Binds :
    (before : List Item) (first : ℕ) (statements : List Statement) → list_all (statement_binds before) statements ≡ true → All Binds (placed_body before first statements)
placed_body-Binds before first [] h = All-nil Binds
placed_body-Binds before first (statement ∷ statements) h =
    All-cons Binds (record { before = before; first = first; statement = statement }) _ (and_parts _ _ h).0
    (placed_body-Binds before (first + length (statement_spelled statement)) statements (and_parts _ _ h).1)

-- the statements of items in which names are bound
placed_behind-Binds : (before : List Item) (first : ℕ) (items : List Item) → are_bound before items ≡ true → All Binds (placed_behind before first items)
placed_behind-Binds before first [] h = All-nil Binds
placed_behind-Binds before first (item ∷ items) h =
    All-append Binds (placed_body before (first + tokens_before_body) (item_statements item)) _
    (placed_body-Binds before (first + tokens_before_body) (item_statements item) (and_parts _ _ (and_parts _ _ h).0).1)
    (placed_behind-Binds (before ++ item ∷ []) (first + length (item_spelled item)) items (and_parts _ _ h).1)

-- Sound and complete

-- the failures of statements that bind are those of their accesses and conversions
judged_placed-AreThose :
    (placed : List Placed) → All Binds placed →
    AreThose (flat_map judged_placed placed) (flat_map placed_accesses placed) (flat_map placed_conversions placed)
judged_placed-AreThose [] h = AreThose-nil
judged_placed-AreThose (one ∷ placed) h =
    AreThose-append (judged_placed one) (flat_map judged_placed placed) (placed_accesses one) (flat_map placed_accesses placed) (placed_conversions one)
    (flat_map placed_conversions placed)
    (judged_statement-AreThose one.before one.first one.statement (All-head Binds one placed h))
    (judged_placed-AreThose placed (All-tail Binds one placed h))

-- In order

-- the failures of a function's body stand at its tokens
placed_body-StandIn :
    (before : List Item) (first : ℕ) (statements : List Statement) →
    StandIn first (first + length (flat_map statement_spelled statements)) (flat_map judged_placed (placed_body before first statements))
placed_body-StandIn before first [] = StandIn-nil first (first + 0)
placed_body-StandIn before first (statement ∷ statements) =
    let next : ℕ = first + length (statement_spelled statement) in
    StandIn-append_texts first (statement_spelled statement) (flat_map statement_spelled statements)
    (judged_statement before first statement) (flat_map judged_placed (placed_body before next statements))
    (judged_statement-StandIn before first statement) (placed_body-StandIn before next statements)

-- a function's statements and its last brace
length-body : (statements : List Statement) → length (flat_map statement_spelled statements ++ codes "}" ∷ []) ≡ length (flat_map statement_spelled statements) + 1
length-body statements = length-append (flat_map statement_spelled statements) (codes "}" ∷ [])

-- the failures of an item stand at its tokens; an object has none
item-StandIn :
    (before : List Item) (first : ℕ) (item : Item) →
    StandIn first (first + length (item_spelled item)) (flat_map judged_placed (placed_body before (first + tokens_before_body) (item_statements item)))
item-StandIn before first (Object words stars name) = StandIn-nil first (first + length (item_spelled (Object words stars name)))
item-StandIn before first (Function name statements) =
    StandIn-wider (first + 6) (first + 6 + length (flat_map statement_spelled statements)) first (first + length (item_spelled (Function name statements)))
    (flat_map judged_placed (placed_body before (first + 6) statements))
    (omega arith) (omega (arith, length-body statements)) (placed_body-StandIn before (first + 6) statements)

-- the failures of items stand at their tokens
placed_behind-StandIn :
    (before : List Item) (first : ℕ) (items : List Item) →
    StandIn first (first + length (flat_map item_spelled items)) (flat_map judged_placed (placed_behind before first items))
placed_behind-StandIn before first [] = StandIn-nil first (first + 0)
placed_behind-StandIn before first (item ∷ items) =
    let next : ℕ = first + length (item_spelled item) in
    let body : List Placed = placed_body before (first + tokens_before_body) (item_statements item) in
    let others : List Placed = placed_behind (before ++ item ∷ []) next items in
    rw (flat_map-append judged_placed body others)
    (StandIn-append_texts first (item_spelled item) (flat_map item_spelled items) (flat_map judged_placed body) (flat_map judged_placed others)
    (item-StandIn before first item) (placed_behind-StandIn (before ++ item ∷ []) next items))

-- The laws

-- the plain program gives a listing
pub listings_exist : ListingsExist
listings_exist items bound = record {
  sound = those.sound;
  complete = those.complete;
  ordered = (placed_behind-StandIn [] 0 items).ordered;
}
  where
    those : AreThose (failures_of items) (accesses_in (unit_tree items)) (conversions_in (unit_tree items))
    those =
        rw (accesses_in-unit_tree items, conversions_in-unit_tree items)
        (judged_placed-AreThose (placed_in items) (placed_behind-Binds [] 0 items bound))

-- the plain judge finds these failures
abbrev pub AreFound : List Item → List Failure → Type 0
AreFound items failures = failures_of items ≡ failures

-- so they are the unit's listing
pub found_are_listed : (items : List Item) (failures : List Failure) → are_bound [] items ≡ true → AreFound items failures → IsListing (unit_tree items) failures
found_are_listed items failures bound found = subst (IsListing (unit_tree items)) found (listings_exist items bound)

-- two listings hold the same failures, in the same order
pub listings_are_unique : ListingsAreUnique
listings_are_unique unit failures others h k =
    AreOrdered-unique failures others h.ordered k.ordered
    (λ failure e. k.complete failure (All-contains (Fails unit) failures failure h.sound e))
    (λ failure e. h.complete failure (All-contains (Fails unit) others failure k.sound e))
