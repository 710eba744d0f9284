-- Types of one form, and types that agree.
use Rattle.std.proofs.Common.{◌≡◌, Bool, true, false, ◌&&◌, ◌||◌, not, Decides, Option, Some, None, is_some, option_map, if◌then◌else◌, refl, sym, ◌∙◌, subst}
use Rattle.std.proofs.lemmas.Bool.{false≢true}
use Rattle.std.proofs.lemmas.Bool.Decides.{same_from_decides}
use Rattle.std.proofs.lemmas.Option.{none-some}
use Rattle.std.proofs.Math.Bool.{and-false}
use Rattle.meaning_types.specs.Types.{TypeTree, Typed, ArrayTree, bare}
use Rattle.meaning_types.specs.Equality.{are_equal_bools, are_equal_flags, are_equal_lengths, are_same}
use Rattle.meaning_types.specs.Composite.{composite}
use Rattle.meaning_types.proofs.Equality.{are_same-Decides}
use Rattle.linked_names.specs.Forms.{array_in, have_one_form, is_open_array}

-- Types that are the same

pub same-itself : (type_ : TypeTree) → are_same type_ type_ ≡ true
same-itself type_ = (are_same-Decides type_ type_).1 refl

pub same-comm : (type_ other : TypeTree) → are_same type_ other ≡ are_same other type_
same-comm type_ other =
    let back = are_same-Decides other type_ in
    same_from_decides (are_same type_ other) (are_same other type_) (are_same-Decides type_ other) (λ h. sym (back.0 h), λ e. back.1 (sym e))

-- what one is the same as, the other is the same as
pub same-either : (type_ other third : TypeTree) → are_same type_ other ≡ true → are_same type_ third ≡ are_same other third
same-either type_ other third same =
    same_from_decides (are_same type_ third) (are_same other third) (are_same-Decides type_ third)
    (subst (λ left. Decides (are_same other third) (left ≡ bare third)) (sym ((are_same-Decides type_ other).0 same)) (are_same-Decides other third))

-- Types of one form

abbrev element_in : TypeTree → Option TypeTree
element_in type_ = option_map (λ parts. parts.0) (array_in type_)

abbrev by_elements : Option TypeTree → Option TypeTree → Bool → Bool
by_elements (Some element) (Some other) same = are_same element other
by_elements element other same = same

form-by_elements : (type_ other : TypeTree) → have_one_form type_ other ≡ by_elements (element_in type_) (element_in other) (are_same type_ other)
form-by_elements (Typed (ArrayTree element length) qualifiers flags) (Typed (ArrayTree other another) others more) = refl
form-by_elements type_ other = refl

-- an array is no other type
array-differs : (type_ other element : TypeTree) → element_in type_ ≡ Some element → element_in other ≡ None → are_same type_ other ≡ false
array-differs (Typed (ArrayTree inner length) qualifiers flags) (Typed (ArrayTree other another) others more) element is none = absurd (none-some _ (sym none))
array-differs (Typed (ArrayTree inner length) qualifiers flags) (Typed base others more) element is none = and-false (are_equal_flags flags more)
array-differs (Typed base qualifiers flags) other element is none = absurd (none-some _ is)

module _ (type_ other : TypeTree) where
  by_parts : (left right : Option TypeTree) → element_in type_ ≡ left → element_in other ≡ right → have_one_form type_ other ≡ by_elements left right (are_same type_ other)
  by_parts left right is_left is_right = form-by_elements type_ other ∙ (λ i. by_elements (is_left i) (is_right i) (are_same type_ other))

  form-comm_by : (left right : Option TypeTree) → element_in type_ ≡ left → element_in other ≡ right
      → by_elements left right (are_same type_ other) ≡ by_elements right left (are_same other type_)
  form-comm_by (Some element) (Some another) is_left is_right = same-comm element another
  form-comm_by (Some element) None is_left is_right = same-comm type_ other
  form-comm_by None (Some another) is_left is_right = same-comm type_ other
  form-comm_by None None is_left is_right = same-comm type_ other

pub form-comm : (type_ other : TypeTree) → have_one_form type_ other ≡ have_one_form other type_
form-comm type_ other = form-by_elements type_ other ∙ form-comm_by type_ other _ _ refl refl ∙ sym (form-by_elements other type_)

module _ (type_ other third : TypeTree) where
  form-either_by : (one two three : Option TypeTree) → element_in type_ ≡ one → element_in other ≡ two → element_in third ≡ three
      → by_elements one two (are_same type_ other) ≡ true → by_elements one three (are_same type_ third) ≡ by_elements two three (are_same other third)
  form-either_by (Some a) (Some b) (Some c) is_one is_two is_three same = same-either a b c same
  form-either_by (Some a) (Some b) None is_one is_two is_three same = array-differs type_ third a is_one is_three ∙ sym (array-differs other third b is_two is_three)
  form-either_by (Some a) None three is_one is_two is_three same = absurd (false≢true (sym (array-differs type_ other a is_one is_two) ∙ same))
  form-either_by None (Some b) three is_one is_two is_three same = absurd (false≢true (sym (array-differs other type_ b is_two is_one) ∙ same-comm other type_ ∙ same))
  form-either_by None None (Some c) is_one is_two is_three same = same-either type_ other third same
  form-either_by None None None is_one is_two is_three same = same-either type_ other third same

-- what one has the form of, the other has the form of
pub form-either : (type_ other third : TypeTree) → have_one_form type_ other ≡ true → have_one_form type_ third ≡ have_one_form other third
form-either type_ other third same =
    form-by_elements type_ third
    ∙ form-either_by type_ other third _ _ _ refl refl refl (sym (form-by_elements type_ other) ∙ same)
    ∙ sym (form-by_elements other third)

-- Types that agree

-- they have one form, and are the same, or one of them alone is an open array
abbrev pub agree : TypeTree → TypeTree → Bool
agree type_ other = have_one_form type_ other && (are_same type_ other || not (are_equal_bools (is_open_array type_) (is_open_array other)))

-- types that are no arrays
same_alone : (type_ : TypeTree) (same apart : Bool) → is_some (if same then Some type_ else None) ≡ (same && (same || apart))
same_alone type_ true apart = refl
same_alone type_ false apart = refl

-- arrays that both have a length, or both have none
same_lengths : (type_ : TypeTree) (flags elements lengths : Bool)
    → is_some (if flags && (elements && lengths) then Some type_ else None) ≡ (elements && ((flags && (elements && lengths)) || false))
same_lengths type_ true true true = refl
same_lengths type_ true true false = refl
same_lengths type_ true false lengths = refl
same_lengths type_ false true lengths = refl
same_lengths type_ false false lengths = refl

-- arrays of which one has a length
one_length : (type_ completed : TypeTree) (flags elements : Bool)
    → is_some (if flags && (elements && false) then Some type_ else (if elements then Some completed else None)) ≡ (elements && ((flags && (elements && false)) || true))
one_length type_ completed true true = refl
one_length type_ completed true false = refl
one_length type_ completed false true = refl
one_length type_ completed false false = refl

pub composite-agree : (type_ other : TypeTree) → is_some (composite type_ other) ≡ agree type_ other
composite-agree (Typed (ArrayTree element None) qualifiers flags) (Typed (ArrayTree other None) others more) = same_lengths _ (are_equal_flags flags more) (are_same element other) true
composite-agree (Typed (ArrayTree element None) qualifiers flags) (Typed (ArrayTree other (Some n)) others more) = one_length _ _ (are_equal_flags flags more) (are_same element other)
composite-agree (Typed (ArrayTree element (Some m)) qualifiers flags) (Typed (ArrayTree other None) others more) = one_length _ _ (are_equal_flags flags more) (are_same element other)
composite-agree (Typed (ArrayTree element (Some m)) qualifiers flags) (Typed (ArrayTree other (Some n)) others more) =
    same_lengths _ (are_equal_flags flags more) (are_same element other) (are_equal_lengths (Some m) (Some n))
composite-agree (Typed (ArrayTree element None) qualifiers flags) (Typed base others more) =
    same_alone _ (are_same (Typed (ArrayTree element None) qualifiers flags) (Typed base others more)) _
composite-agree (Typed (ArrayTree element (Some m)) qualifiers flags) (Typed base others more) =
    same_alone _ (are_same (Typed (ArrayTree element (Some m)) qualifiers flags) (Typed base others more)) _
composite-agree (Typed base qualifiers flags) other = same_alone _ (are_same (Typed base qualifiers flags) other) _
