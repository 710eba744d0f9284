-- The judged failures of a statement are those of its accesses and its conversion, and stand in order.
use Rattle.std.proofs.Common.{◌≡◌, ℕ, ◌+◌, ◌<◌, ◌≤◌, Bool, true, false, ◌&&◌, not, nat_eq, nat_lt, List, [], ◌∷◌, ◌++◌, Contains, Option, Some, None, option_map, option_and_then, if◌then◌else◌, inl, inr, refl, sym, subst, ◌∙◌, ap, length, arith}
use Rattle.meaning_types.specs.Types.{flags_of, has_flag, value_type}
use Rattle.meaning_types.specs.Spaces.{MixSpaces}
use Rattle.meaning_syntax.specs.Items.{Item, Statement, Assign, AssignThrough, AssignAddress, statement_spelled}
use Rattle.meaning_syntax.specs.Binding.{Declared, object_of, have_equal_stars, has_one_star_more, statement_binds}
use Rattle.meaning_first_rules.specs.Bindings.{pointer_to}
use Rattle.meaning_first_rules.specs.Expressions.{target_of}
use Rattle.meaning_first_rules.specs.Typing.{declared_type, int_flags, behind_pointer, address_of}
use Rattle.meaning_first_rules.specs.Evaluation.{Access, Conversion, InAssignment, access_at, assignment_at}
use Rattle.meaning_first_rules.specs.Placed.{statement_accesses, statement_conversions}
use Rattle.meaning_first_rules.specs.Failures.{Failure, access_failure, conversion_failure}
use Rattle.meaning_types.specs.Equality.{are_equal_flags}
use Rattle.meaning_first_rules.specs.plain.Judging.{is_flagged_int, judged_access, judged_assignment, judged_assign, judged_assign_through, judged_assign_address, judged_objects, judged_statement}
use Rattle.meaning_first_rules.proofs.Elements.{Contains-nil, Contains-cons_head, Contains-single, Contains-if, All-if}
use Rattle.meaning_first_rules.proofs.Failing.{AccessFails, ConversionFails, EitherFails, AreThose, AreThose-append}
use Rattle.meaning_first_rules.proofs.Order.{StandIn, StandIn-nil, StandIn-append, StandIn-if}
use Rattle.meaning_first_rules.proofs.MixedSpaces.{declared-MixSpaces-Decides, has_flag-declared_type}
use Rattle.meaning_first_rules.proofs.Pointers.{pointer-is_not_flagged_int, target_of-pointer, pointer_to-declared_type, behind_pointer-equal_stars, address_of-equal_stars}

-- The parts of a statement

-- an access fails where the object is an int with a flag
judged_access-AreThose : (token : ℕ) (declared : Declared) → AreThose (judged_access token declared) (access_at token (Some (declared_type declared))) []
judged_access-AreThose token declared = record {
  sound = All-if (EitherFails accesses []) (is_flagged_int declared) failure
      (λ h. inl (access, Contains-cons_head access [], has_flag-declared_type declared ∙ h, refl));
  complete = λ g e. found g e;
}
  where
    access : Access
    access = record { token = token; place = declared_type declared }

    accesses : List Access
    accesses = access ∷ []

    failure : Failure
    failure = access_failure access

    of_access : (g : Failure) → AccessFails accesses g → Contains (judged_access token declared) g
    of_access g h =
        let same : access ≡ h.0 = Contains-single access h.0 h.1 in
        let flag : is_flagged_int declared ≡ true = sym (has_flag-declared_type declared) ∙ ap (λ a. has_flag (flags_of a.place)) same ∙ h.2 in
        subst (Contains (judged_access token declared)) (ap access_failure same ∙ sym h.3) (Contains-if (is_flagged_int declared) failure flag)

    found : (g : Failure) → EitherFails accesses [] g → Contains (judged_access token declared) g
    found g (inl h) = of_access g h
    found g (inr h) = absurd (Contains-nil h.0 h.1)

-- an access to an object that is no int with a flag does not fail
plain_access-AreThose : (token : ℕ) (declared : Declared) → is_flagged_int declared ≡ false → AreThose [] (access_at token (Some (declared_type declared))) []
plain_access-AreThose token declared plain =
    subst (λ failures. AreThose failures (access_at token (Some (declared_type declared))) []) none (judged_access-AreThose token declared)
  where
    none : judged_access token declared ≡ []
    none = ap (λ test. if test then access_failure (record { token = token; place = declared_type declared }) ∷ [] else []) plain

-- whether an assignment mixes spaces
abbrev mixes : Declared → Declared → Bool
mixes target source = nat_lt 0 target.stars && not (are_equal_flags (int_flags target) (int_flags source))

-- an assignment fails where its objects mix spaces
judged_assignment-AreThose :
    (token : ℕ) (target source : Declared) → nat_eq target.stars source.stars ≡ true →
    AreThose (judged_assignment token target source) [] (assignment_at token (Some (declared_type target)) (Some (value_type (declared_type source))))
judged_assignment-AreThose token target source equal = record {
  sound = All-if (EitherFails [] conversions) (mixes target source) failure
      (λ h. inr (conversion, Contains-cons_head conversion [], (declared-MixSpaces-Decides target source equal).0 h, refl));
  complete = λ g e. found g e;
}
  where
    conversion : Conversion
    conversion = record { token = token; position = InAssignment; to = declared_type target; from = value_type (declared_type source) }

    conversions : List Conversion
    conversions = conversion ∷ []

    failure : Failure
    failure = conversion_failure conversion

    of_conversion : (g : Failure) → ConversionFails conversions g → Contains (judged_assignment token target source) g
    of_conversion g h =
        let same : conversion ≡ h.0 = Contains-single conversion h.0 h.1 in
        let mix : mixes target source ≡ true = (declared-MixSpaces-Decides target source equal).1 (subst (λ c. MixSpaces c.to c.from) (sym same) h.2) in
        subst (Contains (judged_assignment token target source)) (ap conversion_failure same ∙ sym h.3) (Contains-if (mixes target source) failure mix)

    found : (g : Failure) → EitherFails [] conversions g → Contains (judged_assignment token target source) g
    found g (inl h) = absurd (Contains-nil h.0 h.1)
    found g (inr h) = of_conversion g h

-- The whole statement

-- the failures where an object is assigned to another with equally many stars
judged_assign-AreThose :
    (first : ℕ) (target source : Declared) → nat_eq target.stars source.stars ≡ true →
    AreThose (judged_assign first target source)
    (access_at first (Some (declared_type target)) ++ access_at (first + 2) (Some (declared_type source)))
    (assignment_at (first + 1) (Some (declared_type target)) (Some (value_type (declared_type source))))
judged_assign-AreThose first target source equal =
    AreThose-append (judged_access first target ++ judged_assignment (first + 1) target source) (judged_access (first + 2) source)
    (access_at first (Some (declared_type target))) (access_at (first + 2) (Some (declared_type source)))
    (assignment_at (first + 1) (Some (declared_type target)) (Some (value_type (declared_type source)))) []
    (AreThose-append (judged_access first target) (judged_assignment (first + 1) target source)
    (access_at first (Some (declared_type target))) [] [] (assignment_at (first + 1) (Some (declared_type target)) (Some (value_type (declared_type source))))
    (judged_access-AreThose first target) (judged_assignment-AreThose (first + 1) target source equal))
    (judged_access-AreThose (first + 2) source)

-- the failures of an assignment with one more access, to an object that is no int with a flag
accessed_assignment-AreThose :
    (token place : ℕ) (declared target source : Declared) → is_flagged_int declared ≡ false → nat_eq target.stars source.stars ≡ true →
    AreThose (judged_assignment token target source)
    (access_at place (Some (declared_type declared))) (assignment_at token (Some (declared_type target)) (Some (value_type (declared_type source))))
accessed_assignment-AreThose token place declared target source plain equal =
    AreThose-append [] (judged_assignment token target source)
    (access_at place (Some (declared_type declared))) [] [] (assignment_at token (Some (declared_type target)) (Some (value_type (declared_type source))))
    (plain_access-AreThose place declared plain) (judged_assignment-AreThose token target source equal)

-- the failures where an object is assigned to the one behind a pointer with one star more, which is read itself
judged_assign_through-AreThose :
    (first : ℕ) (pointer source : Declared) → nat_eq pointer.stars (source.stars + 1) ≡ true →
    AreThose (judged_assign_through first pointer source)
    (access_at first (target_of (value_type (declared_type pointer))) ++ access_at (first + 1) (Some (declared_type pointer))
    ++ access_at (first + 3) (Some (declared_type source)))
    (assignment_at (first + 2) (target_of (value_type (declared_type pointer))) (Some (value_type (declared_type source))))
judged_assign_through-AreThose first pointer source more =
    let target : Declared = behind_pointer pointer in
    rw (target_of-pointer pointer source more)
    (AreThose-append (judged_access first target ++ judged_assignment (first + 2) target source) (judged_access (first + 3) source)
    (access_at first (Some (declared_type target)) ++ access_at (first + 1) (Some (declared_type pointer))) (access_at (first + 3) (Some (declared_type source)))
    (assignment_at (first + 2) (Some (declared_type target)) (Some (value_type (declared_type source)))) []
    (AreThose-append (judged_access first target) (judged_assignment (first + 2) target source)
    (access_at first (Some (declared_type target))) (access_at (first + 1) (Some (declared_type pointer)))
    [] (assignment_at (first + 2) (Some (declared_type target)) (Some (value_type (declared_type source))))
    (judged_access-AreThose first target)
    (accessed_assignment-AreThose (first + 2) (first + 1) pointer target source (pointer-is_not_flagged_int pointer source more)
    (behind_pointer-equal_stars pointer source more)))
    (judged_access-AreThose (first + 3) source))

-- the failures where an object's address is assigned to a pointer with one star more
judged_assign_address-AreThose :
    (first : ℕ) (target object : Declared) → nat_eq target.stars (object.stars + 1) ≡ true →
    AreThose (judged_assign_address first target object)
    (access_at first (Some (declared_type target)))
    (assignment_at (first + 1) (Some (declared_type target)) (Some (pointer_to (declared_type object))))
judged_assign_address-AreThose first target object more =
    rw (pointer_to-declared_type object)
    (accessed_assignment-AreThose (first + 1) first target target (address_of object) (pointer-is_not_flagged_int target object more)
    (address_of-equal_stars target object more))

-- the failures of `target = source ;`, where both are objects
objects_assign-AreThose :
    (first : ℕ) (target source : Option Declared) → have_equal_stars target source ≡ true →
    AreThose (judged_objects (judged_assign first) target source)
    (access_at first (option_map declared_type target) ++ access_at (first + 2) (option_map declared_type source))
    (assignment_at (first + 1) (option_map declared_type target) (option_map value_type (option_map declared_type source)))
objects_assign-AreThose first (Some target) (Some source) equal = judged_assign-AreThose first target source equal
objects_assign-AreThose first (Some target) None equal = grind arith
objects_assign-AreThose first None source equal = grind arith

-- of `* pointer = source ;`
objects_assign_through-AreThose :
    (first : ℕ) (pointer source : Option Declared) → has_one_star_more pointer source ≡ true →
    AreThose (judged_objects (judged_assign_through first) pointer source)
    (access_at first (option_and_then target_of (option_map value_type (option_map declared_type pointer)))
    ++ access_at (first + 1) (option_map declared_type pointer)
    ++ access_at (first + 3) (option_map declared_type source))
    (assignment_at (first + 2) (option_and_then target_of (option_map value_type (option_map declared_type pointer)))
    (option_map value_type (option_map declared_type source)))
objects_assign_through-AreThose first (Some pointer) (Some source) more = judged_assign_through-AreThose first pointer source more
objects_assign_through-AreThose first (Some pointer) None more = grind arith
objects_assign_through-AreThose first None source more = grind arith

-- of `target = & object ;`
objects_assign_address-AreThose :
    (first : ℕ) (target object : Option Declared) → has_one_star_more target object ≡ true →
    AreThose (judged_objects (judged_assign_address first) target object)
    (access_at first (option_map declared_type target))
    (assignment_at (first + 1) (option_map declared_type target) (option_map pointer_to (option_map declared_type object)))
objects_assign_address-AreThose first (Some target) (Some object) more = judged_assign_address-AreThose first target object more
objects_assign_address-AreThose first (Some target) None more = grind arith
objects_assign_address-AreThose first None object more = grind arith

-- the judged failures of a statement that binds are those of its accesses and its conversion
pub judged_statement-AreThose :
    (before : List Item) (first : ℕ) (statement : Statement) → statement_binds before statement ≡ true →
    AreThose (judged_statement before first statement) (statement_accesses before first statement) (statement_conversions before first statement)
judged_statement-AreThose before first (Assign target source) binds = objects_assign-AreThose first (object_of before target) (object_of before source) binds
judged_statement-AreThose before first (AssignThrough pointer source) binds =
    objects_assign_through-AreThose first (object_of before pointer) (object_of before source) binds
judged_statement-AreThose before first (AssignAddress target object) binds =
    objects_assign_address-AreThose first (object_of before target) (object_of before object) binds

-- In order

-- an access fails at its token
judged_access-StandIn : (token low high : ℕ) (declared : Declared) → low ≤ token → token < high → StandIn low high (judged_access token declared)
judged_access-StandIn token low high declared l h = StandIn-if (is_flagged_int declared) low high _ l h

-- and so does an assignment
judged_assignment-StandIn : (token low high : ℕ) (target source : Declared) → low ≤ token → token < high → StandIn low high (judged_assignment token target source)
judged_assignment-StandIn token low high target source l h = StandIn-if (mixes target source) low high _ l h

-- an access, an assignment behind it and an access behind that do not fail at one token
three_parts-StandIn :
    (first middle last high : ℕ) (target source : Declared) → first < middle → middle < last → last < high →
    StandIn first high (judged_access first target ++ judged_assignment middle target source ++ judged_access last source)
three_parts-StandIn first middle last high target source l m h =
    StandIn-append first last high (judged_access first target ++ judged_assignment middle target source) (judged_access last source) (omega arith) (omega arith)
    (StandIn-append first middle last (judged_access first target) (judged_assignment middle target source) (omega arith) (omega arith)
    (judged_access-StandIn first first middle target (omega arith) l)
    (judged_assignment-StandIn middle middle last target source (omega arith) m))
    (judged_access-StandIn last last high source (omega arith) h)

-- what is judged of two objects stands where it stands of any two
judged_objects-StandIn :
    (low high : ℕ) (judged : Declared → Declared → List Failure) → ((left right : Declared) → StandIn low high (judged left right)) →
    (left right : Option Declared) → StandIn low high (judged_objects judged left right)
judged_objects-StandIn low high judged h (Some left) (Some right) = h left right
judged_objects-StandIn low high judged h (Some left) None = StandIn-nil low high
judged_objects-StandIn low high judged h None right = StandIn-nil low high

-- the judged failures of a statement stand in order at its tokens
pub judged_statement-StandIn :
    (before : List Item) (first : ℕ) (statement : Statement) → StandIn first (first + length (statement_spelled statement)) (judged_statement before first statement)
judged_statement-StandIn before first (Assign target source) =
    judged_objects-StandIn first (first + 4) (judged_assign first)
    (λ left right. three_parts-StandIn first (first + 1) (first + 2) (first + 4) left right (omega arith) (omega arith) (omega arith))
    (object_of before target) (object_of before source)
judged_statement-StandIn before first (AssignThrough pointer source) =
    judged_objects-StandIn first (first + 5) (judged_assign_through first)
    (λ left right. three_parts-StandIn first (first + 2) (first + 3) (first + 5) (behind_pointer left) right (omega arith) (omega arith) (omega arith))
    (object_of before pointer) (object_of before source)
judged_statement-StandIn before first (AssignAddress target object) =
    judged_objects-StandIn first (first + 5) (judged_assign_address first)
    (λ left right. judged_assignment-StandIn (first + 1) first (first + 5) left (address_of right) (omega arith) (omega arith))
    (object_of before target) (object_of before object)
