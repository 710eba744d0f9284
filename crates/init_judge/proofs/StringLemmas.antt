-- Strings, and the arrays that they are for.
use Rattle.std.proofs.Common.{◌≡◌, ℕ, ◌+◌, ◌-◌, nat_lt, Bool, true, false, ◌&&◌, is_some, List, Option, Some, None, refl, sym, ap, ap₂, ◌∙◌, arith, if◌then◌else◌}
use Rattle.std.proofs.lemmas.Bool.Decides.{nat_tests}
use Rattle.meaning_types.specs.Types.{TypeTree, Typed, VoidTree, IntegerTree, RestrictedTree, PointerTree, ArrayTree, FunctionTree, AggregateTree}
use Rattle.meaning_initializers.specs.Items.{Given}
use Rattle.meaning_initializers.specs.Parts.{is_array_of_characters, is_string_for}
use Rattle.meaning_initializers.specs.Plans.{is_longer, plan_of_elements, string_plan, value_plan}
use Rattle.initializer_levels.specs.Parts.{Elements, PartsTree, parts_in}

abbrev longer_than : (elements : ℕ) → PartsTree → Bool
longer_than elements (Elements element (Some length)) = nat_lt (length + 1) elements
longer_than elements parts = false

longer_in : (elements : ℕ) (type_ : TypeTree) → longer_than elements (parts_in type_) ≡ is_longer elements type_
longer_in elements (Typed VoidTree _ _) = refl
longer_in elements (Typed (IntegerTree kind) _ _) = refl
longer_in elements (Typed (RestrictedTree kind identity) _ _) = refl
longer_in elements (Typed (PointerTree target) _ _) = refl
longer_in elements (Typed (ArrayTree element (Some length)) _ _) = refl
longer_in elements (Typed (ArrayTree element None) _ _) = refl
longer_in elements (Typed (FunctionTree result parameters variadic) _ _) = refl
longer_in elements (Typed (AggregateTree number is_union) _ _) = refl

one_less : (length elements : ℕ) → nat_lt length (elements - 1) ≡ nat_lt (length + 1) elements
one_less length elements = grind (arith, nat_tests)

-- an array of so many
pub longer_array : (elements length : ℕ) (element type_ : TypeTree) → Elements element (Some length) ≡ parts_in type_ → nat_lt length (elements - 1) ≡ is_longer elements type_
longer_array elements length element type_ is = one_less length elements ∙ (ap (longer_than elements) is ∙ longer_in elements type_)

-- no array with a length
pub never_longer : (elements : ℕ) (parts : PartsTree) (type_ : TypeTree) → longer_than elements parts ≡ false → parts ≡ parts_in type_ → false ≡ is_longer elements type_
never_longer elements parts type_ none is = sym none ∙ (ap (longer_than elements) is ∙ longer_in elements type_)

pub string_elements : (characters : Bool) (elements : Option ℕ)
    → (if characters then elements else None) ≡ (if characters && is_some elements then elements else None)
string_elements true None = refl
string_elements true (Some elements) = refl
string_elements false elements = refl

-- What an expression comes to, by the elements that it gives as a string

abbrev pub elements_for : TypeTree → Given → Option ℕ
elements_for type_ given = if is_string_for type_ given then given.elements else None

pub for_string : (type_ : TypeTree) (given : Given) (found : Option ℕ) (characters : Bool) → found ≡ given.elements → characters ≡ is_array_of_characters type_
    → (if characters then found else None) ≡ elements_for type_ given
for_string type_ given found characters is test =
    string_elements characters found ∙ ap₂ (λ (b : Bool) (e : Option ℕ). if b && is_some e then e else None) test is

module _ (is_static : Bool) (type_ : TypeTree) (path : List ℕ) (is_moved : Bool) (given : Given) where
  pub length_none : elements_for type_ given ≡ None → 0 ≡ (value_plan is_static type_ path is_moved given).length
  length_none is = ap (λ (e : Option ℕ). (plan_of_elements is_static e type_ path is_moved given).length) (sym is)

  by_length : (elements : ℕ) (longer : Bool) → is_longer elements type_ ≡ longer → (if longer then 0 else elements) ≡ (string_plan elements type_ path is_moved given).length
  by_length elements true is = rw is refl
  by_length elements false is = rw is refl

  pub length_some : (elements : ℕ) (longer : Bool) → elements_for type_ given ≡ Some elements → longer ≡ is_longer elements type_
      → (if longer then 0 else elements) ≡ (value_plan is_static type_ path is_moved given).length
  length_some elements longer is test =
      by_length elements longer (sym test) ∙ ap (λ (e : Option ℕ). (plan_of_elements is_static e type_ path is_moved given).length) (sym is)

-- a string is for an array of characters alone
and_left : (a b : Bool) → (a && b) ≡ true → a ≡ true
and_left true b is = refl
and_left false b is = absurd (cc is)

only_true : (test : Bool) (elements : Option ℕ) (count : ℕ) → (if test then elements else None) ≡ Some count → test ≡ true
only_true true elements count is = refl
only_true false elements count is = absurd (cc is)

pub for_characters : (type_ : TypeTree) (given : Given) (elements : ℕ) → elements_for type_ given ≡ Some elements → is_array_of_characters type_ ≡ true
for_characters type_ given elements is =
    and_left (is_array_of_characters type_) (is_some given.elements) (only_true (is_string_for type_ given) given.elements elements is)
