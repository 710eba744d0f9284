-- The witnesses tell which declaration is the first that disagrees with a type.
use Rattle.std.proofs.Common.{◌≡◌, ◌+◌, Bool, true, false, ◌&&◌, ◌||◌, not, nat_le, List, [], ◌∷◌, slice_get, Option, Some, None, IfSome, is_some, option_map, if◌then◌else◌, refl, sym, ap, ◌∙◌}
use Rattle.std.proofs.lemmas.Bool.{not_from_false}
use Rattle.std.proofs.lemmas.Option.{none-some, same_Some}
use Rattle.sparse_model.specs.declared.ids.TypeId.{TypeId}
use Rattle.meaning_types.specs.Types.{TypeTree}
use Rattle.meaning_types.specs.Equality.{are_equal_bools, are_same}
use Rattle.meaning_types.specs.Composite.{composite}
use Rattle.meaning_typing.specs.Names.{first_unlike}
use Rattle.c_types.specs.Table.{TypeTable, IsTypeId, type_at}
use Rattle.linked_names.specs.Forms.{have_one_form, is_open_array}
use Rattle.linked_names.specs.Witnesses.{PlacedType, AreWitnessIds, AreWitnesses, IsGroup, IsPlacedId, differs_in_group, earlier_of, first_passing, is_foreign, is_in_group, placed_in, second_in_group, unlike_in, unlike_in_group, unlike_witness}
use Rattle.linked_names.specs.declared.placed.Placed.{Placed}
use Rattle.linked_names.specs.declared.group.Group.{Group}
use Rattle.linked_names.specs.declared.witnesses.Witnesses.{Witnesses}
use Rattle.linked_names.proofs.FormLemmas.{composite-agree, form-comm, form-either, same-comm, same-either}
use Rattle.linked_names.proofs.PassingLemmas.{disagrees, earlier_type, passing-alike, passing-either, passing-none, passing-passes, passing-strongly, unlike-passing}

-- Which types disagree with one of the form of the first

equal-comm : (one other : Bool) → are_equal_bools one other ≡ are_equal_bools other one
equal-comm true true = refl
equal-comm true false = refl
equal-comm false true = refl
equal-comm false false = refl

either_reason : (form same equal : Bool) → not (form && (same || not equal)) ≡ (not form || ((form && equal) && not same))
either_reason true true true = refl
either_reason true true false = refl
either_reason true false true = refl
either_reason true false false = refl
either_reason false same equal = refl

-- those of another form, and those of its group that aren't the same
disagrees-either : (first type_ other : TypeTree) → have_one_form first type_ ≡ true
    → disagrees type_ other ≡ (is_foreign first other || differs_in_group first (is_open_array type_) type_ other)
disagrees-either first type_ other form =
    ap not (composite-agree other type_)
    ∙ (λ i. not ((form-comm other type_ ∙ sym (form-either first type_ other form)) i && (same-comm other type_ i || not (equal-comm (is_open_array other) (is_open_array type_) i))))
    ∙ either_reason (have_one_form first other) (are_same type_ other) (are_equal_bools (is_open_array type_) (is_open_array other))

-- What a group tells

abbrev unlike_type : Option PlacedType → Option PlacedType → TypeTree → Option PlacedType
unlike_type None second type_ = None
unlike_type (Some first) second type_ = if are_same first.type_ type_ then second else Some first

pub and-left : (one other : Bool) → (one && other) ≡ true → one ≡ true
and-left true other both = refl
and-left false other both = both

both-true : (one other : Bool) → one ≡ true → other ≡ true → (one && other) ≡ true
both-true one other is is_other = (λ i. is i && is_other i)

module _ (first : TypeTree) (are_open : Bool) (type_ : TypeTree) (types : List TypeTree) where
  differs_by : (found : Option PlacedType) → first_passing (is_in_group first are_open) 0 types ≡ found
      → first_passing (differs_in_group first are_open type_) 0 types ≡ unlike_type found (second_in_group first are_open found types) type_
  differs_by None none =
      passing-none (is_in_group first are_open) (differs_in_group first are_open type_) (λ other passes. and-left _ _ passes) 0 types none
  differs_by (Some found) is = by (are_same found.type_ type_) refl
    where
      by : (same : Bool) → are_same found.type_ type_ ≡ same
          → first_passing (differs_in_group first are_open type_) 0 types ≡ (if same then first_passing (differs_in_group first are_open found.type_) 0 types else Some found)
      by true same =
          passing-alike (differs_in_group first are_open type_) (differs_in_group first are_open found.type_)
          (λ other. ap (λ (test : Bool). is_in_group first are_open other && not test) (sym (same-either found.type_ type_ other same))) 0 types
      by false same =
          passing-strongly (is_in_group first are_open) (differs_in_group first are_open type_) (λ other passes. and-left _ _ passes) 0 types found is
          (both-true _ _ (passing-passes (is_in_group first are_open) 0 types found is) (not_from_false _ (same-comm type_ found.type_ ∙ same)))

  differs-told : first_passing (differs_in_group first are_open type_) 0 types
      ≡ unlike_type (first_passing (is_in_group first are_open) 0 types) (second_in_group first are_open (first_passing (is_in_group first are_open) 0 types) types) type_
  differs-told = differs_by _ refl

-- By ids

pub earlier-placed : (table : TypeTable) (one other : Option Placed) → option_map (placed_in table) (earlier_of one other) ≡ earlier_type (option_map (placed_in table) one) (option_map (placed_in table) other)
earlier-placed table None other = refl
earlier-placed table (Some one) None = refl
earlier-placed table (Some one) (Some other) = by (nat_le one.place other.place)
  where
    by : (test : Bool) → option_map (placed_in table) (if test then Some one else Some other) ≡ (if test then Some (placed_in table one) else Some (placed_in table other))
    by true = refl
    by false = refl

unlike-placed : (table : TypeTable) (first second : Option Placed) (type_ : TypeTree)
    → option_map (placed_in table) (unlike_in table first second type_) ≡ unlike_type (option_map (placed_in table) first) (option_map (placed_in table) second) type_
unlike-placed table None second type_ = refl
unlike-placed table (Some first) second type_ = by (are_same (type_at table first.of) type_)
  where
    by : (test : Bool) → option_map (placed_in table) (if test then second else Some first) ≡ (if test then option_map (placed_in table) second else Some (placed_in table first))
    by true = refl
    by false = refl

pub type-placed : (table : TypeTable) (found : Option Placed) → option_map (type_at table) (option_map (λ placed. placed.of) found) ≡ option_map (λ (one : PlacedType). one.type_) (option_map (placed_in table) found)
type-placed table None = refl
type-placed table (Some found) = refl

module _ (table : TypeTable) (types : List TypeTree) (first type_ : TypeTree) where
  group-told : (are_open : Bool) (group : Group) → IsGroup table first are_open types group
      → option_map (placed_in table) (unlike_in_group table group type_) ≡ first_passing (differs_in_group first are_open type_) 0 types
  group-told are_open group is =
      unlike-placed table group.first group.second type_
      ∙ (λ i. unlike_type (is.first i) (is.second i) type_)
      ∙ sym (differs-told first are_open type_ types)

module _ (table : TypeTable) (types : List TypeTree) (witnesses : Witnesses) (are : AreWitnesses table types witnesses) (of : TypeId) where
  abbrev first : TypeTree
  first = type_at table witnesses.first

  abbrev type_ : TypeTree
  type_ = type_at table of

  group_by : (are_open : Bool) → option_map (placed_in table) (unlike_in_group table (if are_open then witnesses.open_arrays else witnesses.others) type_) ≡ first_passing (differs_in_group first are_open type_) 0 types
  group_by true = group-told table types first type_ true witnesses.open_arrays are.open_arrays
  group_by false = group-told table types first type_ false witnesses.others are.others

  -- a type of the form of the first one, with its place
  pub placed_of_form : have_one_form first type_ ≡ true
      → option_map (placed_in table) (earlier_of witnesses.foreign (unlike_in_group table (if is_open_array type_ then witnesses.open_arrays else witnesses.others) type_))
      ≡ first_passing (disagrees type_) 0 types
  placed_of_form form =
      earlier-placed table witnesses.foreign (unlike_in_group table (if is_open_array type_ then witnesses.open_arrays else witnesses.others) type_)
      ∙ (λ i. earlier_type (are.foreign i) (group_by (is_open_array type_) i))
      ∙ sym (passing-either (is_foreign first) (differs_in_group first (is_open_array type_) type_) 0 types)
      ∙ sym (passing-alike (disagrees type_) (λ other. is_foreign first other || differs_in_group first (is_open_array type_) type_ other) (λ other. disagrees-either first type_ other form) 0 types)

  of_form : have_one_form first type_ ≡ true
      → option_map (type_at table) (option_map (λ placed. placed.of) (earlier_of witnesses.foreign (unlike_in_group table (if is_open_array type_ then witnesses.open_arrays else witnesses.others) type_)))
      ≡ first_unlike type_ types
  of_form form =
      let group = unlike_in_group table (if is_open_array type_ then witnesses.open_arrays else witnesses.others) type_ in
      type-placed table (earlier_of witnesses.foreign group)
      ∙ ap (option_map (λ (one : PlacedType). one.type_)) (placed_of_form form)
      ∙ sym (unlike-passing type_ 0 types)

  -- a type of another form
  pub placed_of_another : have_one_form first type_ ≡ false → slice_get types 0 ≡ Some first
      → Some (record { place = 0; type_ = first }) ≡ first_passing (disagrees type_) 0 types
  placed_of_another form is = by types is
    where
      by : (others : List TypeTree) → slice_get others 0 ≡ Some first → Some (record { place = 0; type_ = first }) ≡ first_passing (disagrees type_) 0 others
      by [] is = absurd (none-some first is)
      by (other ∷ others) is =
          let same = same_Some _ _ is in
          let agrees : is_some (composite other type_) ≡ false = ap (λ t. is_some (composite t type_)) same ∙ composite-agree first type_ ∙ (λ i. form i && (are_same first type_ || not (are_equal_bools (is_open_array first) (is_open_array type_)))) in
          sym
          (ap (λ (test : Bool). if not test then Some (record { place = 0; type_ = other }) else first_passing (disagrees type_) (0 + 1) others) agrees
          ∙ ap (λ t. Some (record { place = 0; type_ = t })) same)

  of_another : have_one_form first type_ ≡ false → slice_get types 0 ≡ Some first → Some first ≡ first_unlike type_ types
  of_another form is = by types is
    where
      by : (others : List TypeTree) → slice_get others 0 ≡ Some first → Some first ≡ first_unlike type_ others
      by [] is = absurd (none-some first is)
      by (other ∷ others) is =
          let same = same_Some _ _ is in
          let agrees : is_some (composite other type_) ≡ false = ap (λ t. is_some (composite t type_)) same ∙ composite-agree first type_ ∙ (λ i. form i && (are_same first type_ || not (are_equal_bools (is_open_array first) (is_open_array type_)))) in
          sym (ap (λ (test : Bool). if test then first_unlike type_ others else Some other) agrees ∙ is)

  pub unlike-told : slice_get types 0 ≡ Some first → option_map (type_at table) (unlike_witness table witnesses of) ≡ first_unlike type_ types
  unlike-told is = by (have_one_form first type_) refl
    where
      by : (form : Bool) → have_one_form first type_ ≡ form
          → option_map (type_at table)
          (if form
          then option_map (λ placed. placed.of) (earlier_of witnesses.foreign (unlike_in_group table (if is_open_array type_ then witnesses.open_arrays else witnesses.others) type_))
          else Some witnesses.first)
          ≡ first_unlike type_ types
      by true form = of_form form
      by false form = of_another form is

-- what is told is a type of the table
module _ (table : TypeTable) where
  pub earlier-known : (one other : Option Placed) → IsPlacedId table one → IsPlacedId table other → IsPlacedId table (earlier_of one other)
  earlier-known None other is is_other = is_other
  earlier-known (Some one) None is is_other = is
  earlier-known (Some one) (Some other) is is_other = by (nat_le one.place other.place)
    where
      by : (test : Bool) → IsPlacedId table (if test then Some one else Some other)
      by true = is
      by false = is_other

  pub unlike_in-known : (first second : Option Placed) (against : TypeTree) → IsPlacedId table first → IsPlacedId table second → IsPlacedId table (unlike_in table first second against)
  unlike_in-known None second against is is_second = tt
  unlike_in-known (Some first) second against is is_second = by (are_same (type_at table first.of) against)
    where
      by : (test : Bool) → IsPlacedId table (if test then second else Some first)
      by true = is_second
      by false = is

  pub type-known : (found : Option Placed) → IsPlacedId table found → IfSome (option_map (λ placed. placed.of) found) (IsTypeId table)
  type-known None is = tt
  type-known (Some found) is = is

  pub unlike-known : (witnesses : Witnesses) (of : TypeId) → AreWitnessIds table witnesses → IfSome (unlike_witness table witnesses of) (IsTypeId table)
  unlike-known witnesses of are = by (have_one_form (type_at table witnesses.first) (type_at table of)) (is_open_array (type_at table of))
    where
      told : (is_open : Bool) → IsPlacedId table (unlike_in_group table (if is_open then witnesses.open_arrays else witnesses.others) (type_at table of))
      told true = unlike_in-known witnesses.open_arrays.first witnesses.open_arrays.second (type_at table of) are.open_arrays.first are.open_arrays.second
      told false = unlike_in-known witnesses.others.first witnesses.others.second (type_at table of) are.others.first are.others.second

      by : (is_of_form is_open : Bool)
          → IfSome
          (if is_of_form
          then option_map (λ placed. placed.of) (earlier_of witnesses.foreign (unlike_in_group table (if is_open then witnesses.open_arrays else witnesses.others) (type_at table of)))
          else Some witnesses.first)
          (IsTypeId table)
      by true is_open = type-known _ (earlier-known witnesses.foreign _ are.foreign (told is_open))
      by false is_open = are.first
