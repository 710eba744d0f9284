-- A level behind one of its parts.
use Rattle.std.proofs.Common.{◌≡◌, ℕ, suc, ◌+◌, ◌≤◌, max, Bool, true, false, ◌||◌, not, nat_lt, List, Option, option_map, refl, sym, ap, ◌∙◌, arith, if◌then◌else◌}
use Rattle.std.proofs.lemmas.Bool.Decides.{nat_tests}
use Rattle.meaning_types.specs.Types.{TypeTree, Typed, VoidTree, IntegerTree, RestrictedTree, PointerTree, ArrayTree, FunctionTree, AggregateTree}
use Rattle.meaning_initializers.specs.Items.{Items}
use Rattle.meaning_initializers.specs.Parts.{is_array}
use Rattle.meaning_initializers.specs.Plans.{length_with}
use Rattle.c_types.specs.Table.{TypeTable}
use Rattle.initializer_levels.specs.declared.items.ItemList.{ItemList}
use Rattle.initializer_levels.specs.declared.level.Level as kept
use Rattle.initializer_levels.specs.declared.parts.Parts.{Parts}
use Rattle.initializer_levels.specs.declared.parts.Parts.TheVariants as parts
use Rattle.initializer_levels.specs.Kept.{IsKnownLevel, goes_on_kept, length_kept, level_seen}
use Rattle.initializer_levels.specs.Levels.{Level, behind_part}
use Rattle.initializer_levels.specs.Paths.{path_at}
use Rattle.initializer_levels.specs.Parts.{Elements, Itself, Members, PartsTree, is_elements, parts_in, parts_seen, type_seen}

abbrev are_elements : PartsTree → Bool
are_elements (Elements element count) = true
are_elements (Members number is_union) = false
are_elements Itself = false

elements_seen : (table : TypeTable) (of : Parts) → is_elements of ≡ are_elements (parts_seen table of)
elements_seen table (parts.Elements element count) = refl
elements_seen table (parts.Members number is_union) = refl
elements_seen table parts.Itself = refl

array_is : (type_ : TypeTree) → are_elements (parts_in type_) ≡ is_array type_
array_is (Typed VoidTree qualifiers flags) = refl
array_is (Typed (IntegerTree kind) qualifiers flags) = refl
array_is (Typed (RestrictedTree kind identity) qualifiers flags) = refl
array_is (Typed (PointerTree target) qualifiers flags) = refl
array_is (Typed (ArrayTree element count) qualifiers flags) = refl
array_is (Typed (FunctionTree result parameters variadic) qualifiers flags) = refl
array_is (Typed (AggregateTree number is_union) qualifiers flags) = refl

nat_less : (a b : ℕ) → nat_lt a b ≡ true → suc a ≤ b
nat_less a b is = grind (arith, nat_tests)

nat_least : (a b : ℕ) → nat_lt a b ≡ false → b ≤ a
nat_least a b is = grind (arith, nat_tests)

longer_if : (length number : ℕ) (test : Bool) → nat_lt length (number + 1) ≡ test → (if test then number + 1 else length) ≡ max length (suc number)
longer_if length number true is = let less = nat_less length (number + 1) is in omega (arith, less)
longer_if length number false is = let less = nat_least length (number + 1) is in omega (arith, less)

longer : (length number : ℕ) (is_filled : Bool) → length_kept length (number + 1) is_filled ≡ max length (length_with number is_filled)
longer length number false = omega arith
longer length number true = longer_if length number (nat_lt length (number + 1)) refl

next_is : (number : ℕ) → number + 1 ≡ suc number
next_is number = omega arith

abbrev level_of : (type_ : TypeTree) (path : List ℕ) (number : ℕ) (is_over is_filled : Bool) (length : ℕ) (behind : Option Items) → Level
level_of type_ path number is_over is_filled length behind =
    record { type_ = type_; path = path; number = number; is_over = is_over; is_designated = false; is_filled = is_filled; length = length; behind = behind }

pub behind_seen : (table : TypeTable) (paths : List (List ℕ)) (read : ItemList → Items) (level : kept.Level) (is_filled : Bool) (next : ℕ) → IsKnownLevel table paths level
    → next ≡ level.number + 1
    → level_seen table paths read
    (record level {
      number = next;
      is_over = not (goes_on_kept level is_filled);
      is_designated = false;
      is_filled = level.is_filled || is_filled;
      length = length_kept level.length next is_filled;
    })
    ≡ behind_part (level_seen table paths read level) is_filled
behind_seen table paths read level is_filled next known is =
    let see = level_of (type_seen table level.of) (path_at paths level.path) in
    let behind = option_map read level.behind in
    let over : goes_on_kept level is_filled ≡ (level.is_designated || (is_filled || not (is_array (type_seen table level.of)))) =
    ap (λ (b : Bool). level.is_designated || (is_filled || not b))
    (elements_seen table level.parts ∙ (ap are_elements known.parts ∙ array_is (type_seen table level.of))) in
    ap (λ (n : ℕ). see n (not (goes_on_kept level is_filled)) (level.is_filled || is_filled) (length_kept level.length n is_filled) behind) (is ∙ next_is level.number)
    ∙ (ap (λ (b : Bool). see (suc level.number) (not b) (level.is_filled || is_filled) (length_kept level.length (suc level.number) is_filled) behind) over
    ∙ ap (λ (n : ℕ). see (suc level.number) (not (level.is_designated || (is_filled || not (is_array (type_seen table level.of))))) (level.is_filled || is_filled) n behind)
    (ap (λ (n : ℕ). length_kept level.length n is_filled) (sym (next_is level.number)) ∙ longer level.length level.number is_filled))
