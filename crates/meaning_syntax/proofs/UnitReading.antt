-- Whole lists of items, and units: what is read is spelled so, and what is spelled so is read.
use Rattle.std.proofs.Common.{◌≡◌, true, List, [], ◌++◌, Some, None, flat_map, refl, sym, ap, ◌∙◌, subst, append-nil}
use Rattle.std.specs.List.{list_all}
use Rattle.std.proofs.lemmas.Option.{cond_some}
use Rattle.meaning_syntax.specs.Items.{Item, item_spelled, item_fits}
use Rattle.meaning_syntax.specs.Binding.{are_bound}
use Rattle.meaning_syntax.specs.Form.{IsSpelled, IsUnit}
use Rattle.meaning_syntax.specs.plain.Reading.{Texts, if_whole, read_many, read_object, read_function, read_item, read_items, read_unit}
use Rattle.meaning_syntax.proofs.Readers.{after_parts, if_whole_parts, read_many_spelled, read_many_here}
use Rattle.meaning_syntax.proofs.ItemReading.{read_item_spelled, read_item_here, read_item-Shrinks}

-- no item stands where nothing is left
read_item_none : read_item [] ≡ None
unfolding read_item read_object read_function
read_item_none = refl

-- what is read as items is spelled so
pub IsSpelled-read_items : (texts : Texts) (items : List Item) → read_items texts ≡ Some items → IsSpelled texts items
unfolding read_items
IsSpelled-read_items texts items h =
    let found = subst
    (λ (found : List Item × Texts). (texts ≡ flat_map item_spelled found.0 ++ found.1) × (list_all item_fits found.0 ≡ true))
    (if_whole_parts (read_many read_item texts) items h)
    (read_many_spelled read_item item_spelled item_fits read_item_spelled texts) in
    record { spelled = found.0 ∙ append-nil _; fits = found.1 }

-- what is spelled as items is read
pub read_items-IsSpelled : (texts : Texts) (items : List Item) → IsSpelled texts items → read_items texts ≡ Some items
unfolding read_items
read_items-IsSpelled texts items spelled =
    ap (λ t. if_whole (read_many read_item t)) (spelled.spelled ∙ sym (append-nil _))
    ∙ ap if_whole (read_many_here read_item item_spelled item_fits read_item-Shrinks read_item_here items [] spelled.fits read_item_none)

-- what is read as a unit is one
pub IsUnit-read_unit : (texts : Texts) (items : List Item) → read_unit texts ≡ Some items → IsUnit texts items
unfolding read_unit
IsUnit-read_unit texts items h =
    let found = after_parts (read_items texts) _ items h in
    let bound = cond_some (are_bound [] found.0) found.0 items found.2 in
    subst (IsUnit texts) bound.1 (record { is_spelled = IsSpelled-read_items texts found.0 found.1; bound = bound.0 })

-- what is a unit is read
pub read_unit-IsUnit : (texts : Texts) (items : List Item) → IsUnit texts items → read_unit texts ≡ Some items
unfolding read_unit
read_unit-IsUnit texts items unit = rw (read_items-IsSpelled texts items unit.is_spelled, unit.bound)
