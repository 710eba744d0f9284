-- The next item, and those behind it.
use Rattle.std.proofs.Common.{◌≡◌, ℕ, suc, ◌-◌, ◌<◌, ◌≤◌, ◌↔◌, nat_lt, slice_get, IsSome, option_to_list, Bool, true, false, not, ◌&&◌, List, [], ◌∷◌, ◌++◌, drop, length, map, take, reverse, Option, Some, None, refl, sym, ap, ◌∙◌, arith, if◌then◌else◌}
use Rattle.std.proofs.lemmas.Bool.{false≢true}
use Rattle.std.proofs.lemmas.Bool.Decides.{nat_tests}
use Rattle.std.proofs.lemmas.List.{append-nil, length-map, length-take, reverse-append, reverse-reverse}
use Rattle.std.proofs.lemmas.Option.{same_Some}
use Rattle.meaning_typing.specs.Facts.{Fact}
use Rattle.meaning_typing.specs.Units.{UnitNodes, children_at, node_at}
use Rattle.meaning_initializers.specs.Items.{Designator, Initializer, Items, NoItems, Item, from_designator, moved_with}
use Rattle.meaning_initializers.specs.Reading.{designator_at, designators_of, initializer_at, items_of, parts_before_last}
use Rattle.initializer_levels.specs.declared.items.ItemList.{ItemList}
use Rattle.initializer_levels.specs.Items.{items_behind, items_in, items_left, last_part, led_with, parts_count}

not_less : (a b : ℕ) → nat_lt a b ≡ false → b ≤ a
not_less a b is = grind (arith, nat_tests)

-- Lists from their ends

reverse_cons : (x : ℕ) (xs : List ℕ) → reverse (x ∷ xs) ≡ reverse xs ++ x ∷ []
reverse_cons x xs = reverse-append (x ∷ []) xs

last_tail : (xs : List ℕ) (item : ℕ) → slice_get xs (length xs - 1) ≡ Some item → (tail : List ℕ) × (reverse xs ≡ item ∷ tail)
last_tail [] item is = absurd (cc is)
last_tail (x ∷ []) item is = ([], ap (λ (y : ℕ). y ∷ []) (same_Some x item is))
last_tail (x ∷ y ∷ xs) item is =
    let place : length (x ∷ y ∷ xs) - 1 ≡ suc (length (y ∷ xs) - 1) = omega arith in
    let tail = last_tail (y ∷ xs) item (ap (slice_get (x ∷ y ∷ xs)) (sym place) ∙ is) in
    (tail.0 ++ x ∷ [], reverse_cons x (y ∷ xs) ∙ ap (λ (l : List ℕ). l ++ x ∷ []) tail.1)

first_is : (xs tail : List ℕ) (item : ℕ) → reverse xs ≡ item ∷ tail → reverse xs ≡ item ∷ drop 1 (reverse xs)
first_is xs tail item is = is ∙ ap (λ (l : List ℕ). item ∷ drop 1 l) (sym is)

pub reversed_twice : (xs ys : List ℕ) → xs ≡ reverse ys → reverse xs ≡ ys
reversed_twice xs ys is = ap reverse is ∙ reverse-reverse ys

pub popped_behind : (old new : List ℕ) (popped : Option ℕ) → old ≡ new ++ option_to_list popped → (IsSome popped ↔ (0 < length old)) → reverse new ≡ drop 1 (reverse old)
popped_behind old new (Some x) is some = sym (ap (λ (l : List ℕ). drop 1 (reverse l)) is ∙ ap (drop 1) (reverse-append new (x ∷ [])))
popped_behind [] new None is some = ap reverse (sym (append-nil new) ∙ sym is)
popped_behind (x ∷ old) new None is some = absurd (false≢true (some.1 (omega arith)))

-- Items

moved_one : (is_moved : Bool) (designators : List Designator) (initializer : Initializer) (items : Items)
    → moved_with is_moved (Item designators false initializer items) ≡ Item designators is_moved initializer items
moved_one true designators initializer items = refl
moved_one false designators initializer items = refl

module _ (nodes : UnitNodes) (facts : List Fact) where
  undesignated : (item : ℕ) → parts_count nodes item ≤ 1 → designators_of nodes facts item ≡ []
  undesignated item few =
      let none : parts_count nodes item - 1 ≡ 0 = omega (arith, few) in
      ap (λ (count : ℕ). map (λ handle. designator_at nodes facts handle) (take count (children_at nodes item))) none

  few_if : (item : ℕ) (test : Bool) → nat_lt 1 (parts_count nodes item) ≡ test → designators_of nodes facts item ≡ (if test then designators_of nodes facts item else [])
  few_if item true is = refl
  few_if item false is = undesignated item (not_less 1 (parts_count nodes item) is)

  led_one : (is_led is_moved : Bool) (item : ℕ) (initializer : Initializer) (items : Items)
      → led_with is_led (Item (designators_of nodes facts item) is_moved initializer items)
      ≡ Item (if not is_led && nat_lt 1 (parts_count nodes item) then designators_of nodes facts item else []) is_moved initializer items
  led_one true is_moved item initializer items = refl
  led_one false is_moved item initializer items =
      ap (λ (ds : List Designator). Item ds is_moved initializer items) (few_if item (nat_lt 1 (parts_count nodes item)) refl)

  pub next_seen : (list : ItemList) (item : ℕ) → slice_get list.left.items (length list.left.items - 1) ≡ Some item
      → items_left nodes facts list
      ≡ Item (if not list.is_led && nat_lt 1 (parts_count nodes item) then designators_of nodes facts item else []) list.is_moved
      (initializer_at nodes facts (last_part nodes item)) (items_behind nodes facts list)
  next_seen list item is =
      let tail = last_tail list.left.items item is in
      let behind = drop 1 (reverse list.left.items) in
      ap (λ (l : List ℕ). led_with list.is_led (items_in nodes facts list.is_moved l)) (first_is list.left.items tail.0 item tail.1)
      ∙ (ap (led_with list.is_led)
      (moved_one list.is_moved (designators_of nodes facts item) (initializer_at nodes facts (last_part nodes item)) (items_of nodes facts (initializer_at nodes facts) behind))
      ∙ led_one list.is_led list.is_moved item (initializer_at nodes facts (last_part nodes item)) (items_of nodes facts (initializer_at nodes facts) behind))

  nothing_moved : (is_led is_moved : Bool) → led_with is_led (moved_with is_moved NoItems) ≡ NoItems
  nothing_moved true true = refl
  nothing_moved true false = refl
  nothing_moved false true = refl
  nothing_moved false false = refl

  pub none_seen : (list : ItemList) → list.left.items ≡ [] → items_left nodes facts list ≡ NoItems
  none_seen list is = ap (λ (l : List ℕ). led_with list.is_led (items_in nodes facts list.is_moved (reverse l))) is ∙ nothing_moved list.is_led list.is_moved

  pub some_designators : (item : ℕ) → 1 < parts_count nodes item → 0 < length (designators_of nodes facts item)
  some_designators item more =
      let count = length-map (take (parts_before_last nodes item) (children_at nodes item)) (λ handle. designator_at nodes facts handle) in
      let taken = length-take (parts_before_last nodes item) (children_at nodes item) in
      let all = length-map (node_at nodes item).children (λ (child : ℕ × ℕ). child.0) in
      omega (arith, more, count, taken, all)

  -- From a designator on

  pub designated_first : (items behind : Items) (designators : List Designator) (is_designated is_moved : Bool) (initializer : Initializer)
      → items ≡ Item (if is_designated then designators else []) is_moved initializer behind → is_designated ≡ true → 0 < length designators
      → items ≡ from_designator items
  designated_first items behind [] is_designated is_moved initializer is designated some = absurd (omega (arith, some))
  designated_first items behind (designator ∷ designators) true is_moved initializer is designated some = is ∙ sym (ap from_designator is)
  designated_first items behind (designator ∷ designators) false is_moved initializer is designated some = absurd (cc designated)

  pub passed_over : (items behind : Items) (designators : List Designator) (is_designated is_moved : Bool) (initializer : Initializer)
      → items ≡ Item (if is_designated then designators else []) is_moved initializer behind → is_designated ≡ false → from_designator items ≡ from_designator behind
  passed_over items behind designators true is_moved initializer is undesignated = absurd (cc undesignated)
  passed_over items behind designators false is_moved initializer is undesignated = ap from_designator is
