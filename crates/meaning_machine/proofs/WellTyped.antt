-- In a unit of the first form without failures each statement of a function has a type, and no rule fails in it.
use Rattle.std.proofs.Common.{◌≡◌, ◌≢◌, ℕ, zero, suc, ◌+◌, Bool, true, false, List, [], ◌∷◌, ◌++◌, All, Contains, Option, Some, None, map, option_map, option_and_then, if◌then◌else◌, nat_eq, inl, inr, refl, sym, ap, ◌∙◌, subst, append_assoc, length, flat_map, bytes_eq}
use Rattle.std.specs.List.{list_all}
use Rattle.std.proofs.lemmas.Bool.{and_parts, both_ways, false_from_ne_true, true_from_ne_false, eqb-true}
use Rattle.std.proofs.lemmas.Option.{same_Some}
use Rattle.std.proofs.lemmas.List.{map-append}
use Rattle.std.proofs.lemmas.List.Concat.{flat_map-append}
use Rattle.std.proofs.lemmas.List.Elements.{All-nil, All-cons, Contains-append_left, Contains-append_right}
use Rattle.meaning_types.specs.Types.{Flags, TypeTree, PointerTree, flags_of, has_flag, value_type, bare}
use Rattle.meaning_types.specs.Spaces.{MixSpaces}
use Rattle.vocabulary.specs.declared.role.Role.TheVariants.{Evaluated}
use Rattle.meaning_tree.specs.Trees.{SyntaxTree, parts_of, external_parts}
use Rattle.meaning_syntax.specs.Items.{Statement, Assign, AssignThrough, AssignAddress, Item, Object, Function, statement_spelled, item_spelled}
use Rattle.meaning_syntax.specs.Binding.{Declared, item_statements, object_of, have_equal_stars, has_one_star_more, statement_binds, are_bound}
use Rattle.meaning_syntax.specs.Trees.{IsInFirstForm, statement_tree, statement_trees, item_tree, item_trees, unit_tree}
use Rattle.meaning_first_rules.specs.Bindings.{Binding, pointer_to, type_in}
use Rattle.meaning_first_rules.specs.Expressions.{target_of}
use Rattle.meaning_first_rules.specs.Typing.{behind_stars, int_with, declared_type, int_flags, behind_pointer, address_of}
use Rattle.meaning_first_rules.specs.Evaluation.{Access, Conversion, InAssignment, access_at, assignment_at, accesses_in, conversions_in}
use Rattle.meaning_first_rules.specs.Placed.{Placed, placed_body, placed_behind, placed_in, tokens_before_body, statement_accesses, statement_conversions, placed_accesses, placed_conversions, item_binding}
use Rattle.meaning_first_rules.specs.Failures.{IsListing, access_failure, conversion_failure}
use Rattle.meaning_types.specs.Equality.{are_equal_flags}
use Rattle.meaning_first_rules.proofs.Elements.{Contains-nil, Contains-cons_head}
use Rattle.meaning_types.proofs.Equality.{are_equal_flags-Decides}
use Rattle.meaning_first_rules.proofs.MixedSpaces.{stars_mix}
use Rattle.meaning_first_rules.proofs.Pointers.{target_of-pointer, behind_pointer-equal_stars, address_of-equal_stars}
use Rattle.meaning_first_rules.proofs.Trees.{type_in-items, bindings_of-item_tree, accesses_in-unit_tree, conversions_in-unit_tree}
use Rattle.meaning_machine.specs.Code.{ValueCode, statement_code, statements_code, body_code}
use Rattle.meaning_machine.specs.Runs.{body_at, bindings_among, bindings_in}
use Rattle.meaning_machine.specs.laws.Soundness.{IsUnflagged, Agree, IsStatement}

-- Silence

-- None of these accesses fails, and none of these conversions.
record AreSilent (accesses : List Access) (conversions : List Conversion) : Type 0 where
  unflagged : (access : Access) → Contains accesses access → IsUnflagged access.place
  unmixed : (conversion : Conversion) → Contains conversions conversion → MixSpaces conversion.to conversion.from → ⊥

-- in a unit without failures none fails
listing-AreSilent : (unit : SyntaxTree) → IsListing unit [] → AreSilent (accesses_in unit) (conversions_in unit)
listing-AreSilent unit listing = record {
  unflagged = λ access there. false_from_ne_true (has_flag (flags_of access.place))
      (λ flag. Contains-nil (access_failure access) (listing.complete (access_failure access) (inl (access, there, flag, refl))));
  unmixed = λ conversion there mixed.
      Contains-nil (conversion_failure conversion) (listing.complete (conversion_failure conversion) (inr (conversion, there, mixed, refl)));
}

-- of two parts that do not fail neither does
AreSilent-parts :
    (accesses more : List Access) (conversions further : List Conversion) → AreSilent (accesses ++ more) (conversions ++ further)
    → AreSilent accesses conversions × AreSilent more further
AreSilent-parts accesses more conversions further h = (
  record {
    unflagged = λ access there. h.unflagged access (Contains-append_left accesses more access there);
    unmixed = λ conversion there. h.unmixed conversion (Contains-append_left conversions further conversion there);
  },
  record {
    unflagged = λ access there. h.unflagged access (Contains-append_right accesses more access there);
    unmixed = λ conversion there. h.unmixed conversion (Contains-append_right conversions further conversion there);
  },
)

-- an access among others that do not fail
unflagged_first : (token : ℕ) (place : TypeTree) (more : List Access) (conversions : List Conversion) →
    AreSilent (access_at token (Some place) ++ more) conversions → IsUnflagged place
unflagged_first token place more conversions h = h.unflagged (record { token = token; place = place }) (Contains-cons_head _ more)

-- the one conversion, where it does not fail
unmixed_only : (token : ℕ) (to from : TypeTree) (accesses : List Access) →
    AreSilent accesses (assignment_at token (Some to) (Some from)) → MixSpaces to from → ⊥
unmixed_only token to from accesses h =
    h.unmixed (record { token = token; position = InAssignment; to = to; from = from }) (Contains-cons_head _ [])

-- Types that agree

-- flags that do not differ are equal
equal_flags : (f g : Flags) → (f ≢ g → ⊥) → f ≡ g
equal_flags f g h =
    (are_equal_flags-Decides f g).0 (true_from_ne_false (are_equal_flags f g) (λ e. h (λ same. both_ways (are_equal_flags f g) e ((are_equal_flags-Decides f g).1 same))))

-- under equally many stars, types that do not mix spaces agree
stars-Agree :
    (stars : ℕ) (f g : Flags) → (MixSpaces (behind_stars stars (int_with f)) (value_type (behind_stars stars (int_with g))) → ⊥) →
    Agree (value_type (behind_stars stars (int_with g))) (behind_stars stars (int_with f))
stars-Agree zero f g unmixed = refl
stars-Agree (suc stars) f g unmixed =
    ap (λ flags. PointerTree (bare (behind_stars stars (int_with flags)))) (sym (equal_flags f g (λ differ. unmixed (stars_mix stars f g differ))))

-- so do those of two objects with equally many stars
declared-Agree :
    (target source : Declared) → nat_eq target.stars source.stars ≡ true →
    (MixSpaces (declared_type target) (value_type (declared_type source)) → ⊥) → Agree (value_type (declared_type source)) (declared_type target)
declared-Agree target source equal =
    subst
    (λ stars. (MixSpaces (behind_stars stars (int_with (int_flags target))) (value_type (declared_type source)) → ⊥)
    → Agree (value_type (declared_type source)) (behind_stars stars (int_with (int_flags target))))
    (sym (eqb-true target.stars source.stars equal)) (stars-Agree source.stars (int_flags target) (int_flags source))

-- Scopes

-- a test of names decides the same, whatever bindings follow
type_in-test :
    (test : Bool) (first found others : Option TypeTree) (type_ : TypeTree) → (found ≡ Some type_ → others ≡ Some type_) →
    (if test then first else found) ≡ Some type_ → (if test then first else others) ≡ Some type_
type_in-test true first found others type_ h e = e
type_in-test false first found others type_ h e = h e

-- the object that a name stands for in a scope, it stands for with more bindings behind it
type_in-append :
    (scope more : List Binding) (name : List ℕ) (type_ : TypeTree) → type_in scope name ≡ Some type_ → type_in (scope ++ more) name ≡ Some type_
type_in-append [] more name type_ e = cc e
type_in-append (binding ∷ scope) more name type_ e =
    type_in-test (bytes_eq binding.name name) binding.object (type_in scope name) (type_in (scope ++ more) name) type_ (type_in-append scope more name type_) e

-- where an object is found, the name stands for it in the scope
abbrev Extends : List Binding → List ℕ → Option Declared → Type 0
Extends scope name found = (declared : Declared) → found ≡ Some declared → type_in scope name ≡ Some (declared_type declared)

-- the object of a name among items is found in their scope and behind it
object_of-Extends : (before : List Item) (more : List Binding) (name : List ℕ) → Extends (map item_binding before ++ more) name (object_of before name)
object_of-Extends before more name declared e =
    type_in-append (map item_binding before) more name (declared_type declared) (type_in-items before name ∙ ap (option_map declared_type) e)

-- the names that items declare, by their trees
pub bindings_among-items : (first : ℕ) (items : List Item) → bindings_among (parts_of Evaluated (item_trees first items)) ≡ map item_binding items
bindings_among-items first [] = refl
bindings_among-items first (item ∷ items) =
    rw (bindings_of-item_tree first item) (ap (λ others. item_binding item ∷ others) (bindings_among-items (first + length (item_spelled item)) items))

-- Statements

-- `target = source ;`
assign-IsStatement :
    (scope : List Binding) (first : ℕ) (target source : List ℕ) (left right : Option Declared) → Extends scope target left → Extends scope source right →
    have_equal_stars left right ≡ true →
    AreSilent (access_at first (option_map declared_type left) ++ access_at (first + 2) (option_map declared_type right))
    (assignment_at (first + 1) (option_map declared_type left) (option_map value_type (option_map declared_type right))) →
    IsStatement scope (statement_code (statement_tree first (Assign target source)))
assign-IsStatement scope first target source (Some left) (Some right) at_left at_right equal silent = (
  value_type (declared_type left),
  (
    declared_type left,
    value_type (declared_type right),
    at_left left refl,
    unflagged_first first (declared_type left) (access_at (first + 2) (Some (declared_type right))) _ silent,
    (declared_type right, at_right right refl, unflagged_last, refl),
    declared-Agree left right equal (unmixed_only (first + 1) (declared_type left) (value_type (declared_type right)) _ silent),
    refl,
  ),
)
  where
    unflagged_last : IsUnflagged (declared_type right)
    unflagged_last =
        unflagged_first (first + 2) (declared_type right) [] (assignment_at (first + 1) (Some (declared_type left)) (Some (value_type (declared_type right))))
        (AreSilent-parts (access_at first (Some (declared_type left))) _ [] _ silent).1
assign-IsStatement scope first target source (Some left) None at_left at_right equal silent = cc
assign-IsStatement scope first target source None right at_left at_right equal silent = cc

-- `* pointer = source ;`, where the place behind the pointer has this type
through-IsStatement :
    (scope : List Binding) (first : ℕ) (name source : List ℕ) (pointer place right : Declared) →
    type_in scope name ≡ Some (declared_type pointer) → type_in scope source ≡ Some (declared_type right) →
    target_of (value_type (declared_type pointer)) ≡ Some (declared_type place) → nat_eq place.stars right.stars ≡ true →
    AreSilent (access_at first (Some (declared_type place)) ++ access_at (first + 1) (Some (declared_type pointer)) ++ access_at (first + 3) (Some (declared_type right)))
    (assignment_at (first + 2) (Some (declared_type place)) (Some (value_type (declared_type right)))) →
    IsStatement scope (statement_code (statement_tree first (AssignThrough name source)))
through-IsStatement scope first name source pointer place right at_pointer at_right target equal silent = (
  value_type (declared_type place),
  (
    declared_type place,
    value_type (declared_type right),
    (value_type (declared_type pointer), (declared_type pointer, at_pointer, unflagged_pointer, refl), target),
    unflagged_first first (declared_type place) (access_at (first + 1) (Some (declared_type pointer)) ++ access_at (first + 3) (Some (declared_type right)))
        conversions silent,
    (declared_type right, at_right, unflagged_last, refl),
    declared-Agree place right equal (unmixed_only (first + 2) (declared_type place) (value_type (declared_type right)) _ silent),
    refl,
  ),
)
  where
    conversions : List Conversion
    conversions = assignment_at (first + 2) (Some (declared_type place)) (Some (value_type (declared_type right)))

    behind_store : AreSilent (access_at (first + 1) (Some (declared_type pointer)) ++ access_at (first + 3) (Some (declared_type right))) conversions
    behind_store = (AreSilent-parts (access_at first (Some (declared_type place))) _ [] conversions silent).1

    unflagged_pointer : IsUnflagged (declared_type pointer)
    unflagged_pointer = unflagged_first (first + 1) (declared_type pointer) (access_at (first + 3) (Some (declared_type right))) conversions behind_store

    unflagged_last : IsUnflagged (declared_type right)
    unflagged_last =
        unflagged_first (first + 3) (declared_type right) [] conversions
        (AreSilent-parts (access_at (first + 1) (Some (declared_type pointer))) _ [] conversions behind_store).1

-- `* pointer = source ;`
assign_through-IsStatement :
    (scope : List Binding) (first : ℕ) (name source : List ℕ) (pointer right : Option Declared) → Extends scope name pointer → Extends scope source right →
    has_one_star_more pointer right ≡ true →
    AreSilent (access_at first (option_and_then target_of (option_map value_type (option_map declared_type pointer)))
    ++ access_at (first + 1) (option_map declared_type pointer)
    ++ access_at (first + 3) (option_map declared_type right))
    (assignment_at (first + 2) (option_and_then target_of (option_map value_type (option_map declared_type pointer)))
    (option_map value_type (option_map declared_type right))) →
    IsStatement scope (statement_code (statement_tree first (AssignThrough name source)))
assign_through-IsStatement scope first name source (Some pointer) (Some right) at_pointer at_right more silent =
    let target = target_of-pointer pointer right more in
    through-IsStatement scope first name source pointer (behind_pointer pointer) right (at_pointer pointer refl) (at_right right refl) target
    (behind_pointer-equal_stars pointer right more)
    (subst (λ place. AreSilent (access_at first place ++ access_at (first + 1) (Some (declared_type pointer)) ++ access_at (first + 3) (Some (declared_type right)))
    (assignment_at (first + 2) place (Some (value_type (declared_type right))))) target silent)
assign_through-IsStatement scope first name source (Some pointer) None at_pointer at_right more silent = cc
assign_through-IsStatement scope first name source None right at_pointer at_right more silent = cc

-- `target = & object ;`
assign_address-IsStatement :
    (scope : List Binding) (first : ℕ) (target name : List ℕ) (left object : Option Declared) → Extends scope target left → Extends scope name object →
    has_one_star_more left object ≡ true →
    AreSilent (access_at first (option_map declared_type left))
    (assignment_at (first + 1) (option_map declared_type left) (option_map pointer_to (option_map declared_type object))) →
    IsStatement scope (statement_code (statement_tree first (AssignAddress target name)))
assign_address-IsStatement scope first target name (Some left) (Some object) at_left at_object more silent = (
  value_type (declared_type left),
  (
    declared_type left,
    pointer_to (declared_type object),
    at_left left refl,
    unflagged_first first (declared_type left) [] _ silent,
    (declared_type object, at_object object refl, refl),
    declared-Agree left (address_of object) (address_of-equal_stars left object more)
        (unmixed_only (first + 1) (declared_type left) (pointer_to (declared_type object)) _ silent),
    refl,
  ),
)
assign_address-IsStatement scope first target name (Some left) None at_left at_object more silent = cc
assign_address-IsStatement scope first target name None object at_left at_object more silent = cc

-- a statement that binds and does not fail has a type, also in a scope with more bindings
statement-IsStatement :
    (before : List Item) (more : List Binding) (first : ℕ) (statement : Statement) → statement_binds before statement ≡ true →
    AreSilent (statement_accesses before first statement) (statement_conversions before first statement) →
    IsStatement (map item_binding before ++ more) (statement_code (statement_tree first statement))
statement-IsStatement before more first (Assign target source) binds silent =
    assign-IsStatement (map item_binding before ++ more) first target source (object_of before target) (object_of before source)
    (object_of-Extends before more target) (object_of-Extends before more source) binds silent
statement-IsStatement before more first (AssignThrough pointer source) binds silent =
    assign_through-IsStatement (map item_binding before ++ more) first pointer source (object_of before pointer) (object_of before source)
    (object_of-Extends before more pointer) (object_of-Extends before more source) binds silent
statement-IsStatement before more first (AssignAddress target object) binds silent =
    assign_address-IsStatement (map item_binding before ++ more) first target object (object_of before target) (object_of before object)
    (object_of-Extends before more target) (object_of-Extends before more object) binds silent

-- Functions

-- no rule fails in these statements
abbrev ArePlacedSilent : List Placed → Type 0
ArePlacedSilent placed = AreSilent (flat_map placed_accesses placed) (flat_map placed_conversions placed)

-- of two lists of statements neither fails if both together do not
ArePlacedSilent-parts : (placed others : List Placed) → ArePlacedSilent (placed ++ others) → ArePlacedSilent placed × ArePlacedSilent others
ArePlacedSilent-parts placed others h =
    AreSilent-parts (flat_map placed_accesses placed) (flat_map placed_accesses others) (flat_map placed_conversions placed) (flat_map placed_conversions others)
    (rw (← flat_map-append placed_accesses placed others, ← flat_map-append placed_conversions placed others) h)

-- statements of a body that bind and do not fail have types
body-IsStatement :
    (before : List Item) (more : List Binding) (first : ℕ) (statements : List Statement) → list_all (statement_binds before) statements ≡ true →
    ArePlacedSilent (placed_body before first statements) →
    All (IsStatement (map item_binding before ++ more)) (statements_code (parts_of Evaluated (statement_trees first statements)))
body-IsStatement before more first [] bind silent = All-nil (IsStatement (map item_binding before ++ more))
body-IsStatement before more first (statement ∷ statements) bind silent =
    let next : ℕ = first + length (statement_spelled statement) in
    let others : List Placed = placed_body before next statements in
    let parts : AreSilent (statement_accesses before first statement) (statement_conversions before first statement) × ArePlacedSilent others =
    AreSilent-parts (statement_accesses before first statement) (flat_map placed_accesses others)
    (statement_conversions before first statement) (flat_map placed_conversions others) silent
    in
    All-cons (IsStatement (map item_binding before ++ more)) (statement_code (statement_tree first statement))
    (statements_code (parts_of Evaluated (statement_trees next statements)))
    (statement-IsStatement before more first statement (and_parts _ _ bind).0 parts.0)
    (body-IsStatement before more next statements (and_parts _ _ bind).1 parts.1)

-- the body of an item, if it is a function that binds and does not fail
item-IsStatement :
    (before : List Item) (more : List Binding) (first : ℕ) (item : Item) → list_all (statement_binds before) (item_statements item) ≡ true →
    ArePlacedSilent (placed_body before (first + tokens_before_body) (item_statements item)) →
    (body : List ValueCode) → body_code (item_tree first item) ≡ Some body → All (IsStatement (map item_binding before ++ more)) body
item-IsStatement before more first (Object words stars name) bind silent body found = cc found
item-IsStatement before more first (Function name statements) bind silent body found =
    subst (All (IsStatement (map item_binding before ++ more))) (same_Some _ _ found)
    (body-IsStatement before more (first + tokens_before_body) statements bind silent)

-- the body of each function among items that bind and do not fail
behind-IsStatement :
    (before : List Item) (first : ℕ) (items : List Item) → are_bound before items ≡ true → ArePlacedSilent (placed_behind before first items) →
    (function : ℕ) (body : List ValueCode) → body_at function (parts_of Evaluated (item_trees first items)) ≡ Some body →
    All (IsStatement (map item_binding before ++ map item_binding items)) body
behind-IsStatement before first [] bound silent function body found = cc found
behind-IsStatement before first (item ∷ items) bound silent zero body found =
    item-IsStatement before (map item_binding (item ∷ items)) first item (and_parts _ _ (and_parts _ _ bound).0).1
    (ArePlacedSilent-parts (placed_body before (first + tokens_before_body) (item_statements item))
    (placed_behind (before ++ item ∷ []) (first + length (item_spelled item)) items) silent).0
    body found
behind-IsStatement before first (item ∷ items) bound silent (suc function) body found =
    let next : ℕ = first + length (item_spelled item) in
    subst (λ scope. All (IsStatement scope) body)
    (ap (λ scope. scope ++ map item_binding items) (map-append item_binding before (item ∷ []))
    ∙ append_assoc (map item_binding before) (item_binding item ∷ []) (map item_binding items))
    (behind-IsStatement (before ++ item ∷ []) next items (and_parts _ _ bound).1
    (ArePlacedSilent-parts (placed_body before (first + tokens_before_body) (item_statements item)) (placed_behind (before ++ item ∷ []) next items) silent).1
    function body found)

-- Units

-- no rule fails in the statements of items whose tree has no failures
items-ArePlacedSilent : (items : List Item) → IsListing (unit_tree items) [] → ArePlacedSilent (placed_in items)
items-ArePlacedSilent items listing =
    subst (λ accesses. AreSilent accesses (flat_map placed_conversions (placed_in items))) (accesses_in-unit_tree items)
    (subst (λ conversions. AreSilent (accesses_in (unit_tree items)) conversions) (conversions_in-unit_tree items) (listing-AreSilent (unit_tree items) listing))

-- each statement of a function of these items has a type in the scope of all
items-IsStatement :
    (items : List Item) → are_bound [] items ≡ true → IsListing (unit_tree items) [] →
    (function : ℕ) (body : List ValueCode) → body_at function (external_parts (unit_tree items)) ≡ Some body →
    All (IsStatement (bindings_in (unit_tree items))) body
items-IsStatement items bound listing function body found =
    subst (λ scope. All (IsStatement scope) body) (sym (bindings_among-items 0 items))
    (behind-IsStatement [] 0 items bound (items-ArePlacedSilent items listing) function body found)

-- each statement of a function has a type, and no rule fails in it
pub are_statements :
    (unit : SyntaxTree) → IsInFirstForm unit → IsListing unit [] →
    (function : ℕ) (body : List ValueCode) → body_at function (external_parts unit) ≡ Some body → All (IsStatement (bindings_in unit)) body
are_statements unit form =
    subst
    (λ tree. IsListing tree [] → (function : ℕ) (body : List ValueCode) → body_at function (external_parts tree) ≡ Some body → All (IsStatement (bindings_in tree)) body)
    (sym form.is_tree) (items-IsStatement form.items form.bound)
