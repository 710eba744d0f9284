-- The plain program beside the listing: it judges the items of the first form statement by statement, by how
-- objects are declared.
use Rattle.std.specs.Prelude.{ℕ, Bool, true, false, ◌+◌, ◌&&◌, List, [], ◌∷◌, ◌++◌, Option, Some, None, not, nat_eq, nat_lt, if◌then◌else◌}
use Rattle.std.specs.List.{flat_map}
use Rattle.std.specs.Str.{bytes_eq}
use Rattle.meaning_types.specs.Types.{has_flag, value_type}
use Rattle.meaning_types.specs.Equality.{are_equal_flags}
use Rattle.meaning_syntax.specs.Items.{Statement, Assign, AssignThrough, AssignAddress, Item}
use Rattle.meaning_syntax.specs.Binding.{Declared, object_of}
use Rattle.meaning_first_rules.specs.Typing.{int_flags, declared_type, behind_pointer, address_of}
use Rattle.meaning_first_rules.specs.Evaluation.{InAssignment}
use Rattle.meaning_first_rules.specs.Placed.{Placed, placed_in}
use Rattle.meaning_first_rules.specs.Failures.{Failure, SpacesMixed, FlaggedAccess}

-- the object itself is an int with a flag
abbrev pub is_flagged_int : Declared → Bool
is_flagged_int declared = nat_eq declared.stars 0 && has_flag (int_flags declared)

abbrev pub judged_access : ℕ → Declared → List Failure
judged_access token declared =
    if is_flagged_int declared then record { token = token; part = 0; cause = FlaggedAccess (declared_type declared) } ∷ []
    else []

-- of two objects with equally many stars
abbrev pub judged_assignment : ℕ → Declared → Declared → List Failure
judged_assignment token target source =
    if nat_lt 0 target.stars && not (are_equal_flags (int_flags target) (int_flags source))
    then record { token = token; part = 0; cause = SpacesMixed InAssignment (declared_type target) (value_type (declared_type source)) } ∷ []
    else []

-- of `target = source ;`
abbrev pub judged_assign : ℕ → Declared → Declared → List Failure
judged_assign first target source =
    judged_access first target ++ judged_assignment (first + 1) target source ++ judged_access (first + 2) source

-- of `* pointer = source ;`, where the pointer itself has no flag
abbrev pub judged_assign_through : ℕ → Declared → Declared → List Failure
judged_assign_through first pointer source =
    judged_access first (behind_pointer pointer)
    ++ judged_assignment (first + 2) (behind_pointer pointer) source
    ++ judged_access (first + 3) source

-- of `target = & object ;`, where the target is a pointer and has no flag itself
abbrev pub judged_assign_address : ℕ → Declared → Declared → List Failure
judged_assign_address first target object = judged_assignment (first + 1) target (address_of object)

-- where both are objects
abbrev pub judged_objects : (Declared → Declared → List Failure) → Option Declared → Option Declared → List Failure
judged_objects judged (Some left) (Some right) = judged left right
judged_objects judged (Some left) None = []
judged_objects judged None right = []

abbrev pub judged_statement : List Item → ℕ → Statement → List Failure
judged_statement before first (Assign target source) =
    judged_objects (judged_assign first) (object_of before target) (object_of before source)
judged_statement before first (AssignThrough pointer source) =
    judged_objects (judged_assign_through first) (object_of before pointer) (object_of before source)
judged_statement before first (AssignAddress target object) =
    judged_objects (judged_assign_address first) (object_of before target) (object_of before object)

abbrev pub judged_placed : Placed → List Failure
judged_placed placed = judged_statement placed.before placed.first placed.statement

-- the failures of a unit in which each name is declared once, before it is used
abbrev pub failures_of : List Item → List Failure
failures_of unit = flat_map judged_placed (placed_in unit)
