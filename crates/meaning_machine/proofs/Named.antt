-- The name of an object designates the one element of the object's block.
use Rattle.std.proofs.Common.{◌≡◌, ℕ, zero, suc, ◌+◌, ◌||◌, Bool, true, false, not, List, [], ◌∷◌, ◌++◌, Some, map, slice_get, refl, sym, ap, ◌∙◌, subst, arith}
use Rattle.std.specs.Str.{bytes_eq}
use Rattle.std.proofs.lemmas.Bool.{and_parts, false≢true}
use Rattle.std.proofs.lemmas.List.Folds.{list_any-append}
use Rattle.std.proofs.lemmas.Option.{same_Some}
use Rattle.std.proofs.lemmas.Slice.Eq.{bytes_eq-Decides}
use Rattle.meaning_syntax.specs.Items.{Word, Item, Object}
use Rattle.meaning_syntax.specs.Binding.{item_name, is_declared, are_bound}
use Rattle.meaning_first_rules.specs.Typing.{declared_type}
use Rattle.meaning_first_rules.specs.Placed.{item_binding}
use Rattle.meaning_machine.specs.Values.{In, Lvalue}
use Rattle.meaning_machine.specs.Machine.{lvalue_from, lvalue_of}
use Rattle.meaning_machine.specs.Runs.{bindings_in}
use Rattle.meaning_machine.specs.laws.Runs.{NamesDesignate}
use Rattle.meaning_machine.proofs.WellTyped.{bindings_among-items}

-- Names that are declared once

-- neither holds where one of both doesn't
neither : (a b : Bool) → (a || b) ≡ false → (a ≡ false) × (b ≡ false)
neither true b e = absurd (false≢true (sym e))
neither false b e = (refl, e)

-- what must not hold doesn't
unholding : (a : Bool) → not a ≡ true → a ≡ false
unholding true e = absurd (false≢true e)
unholding false e = refl

-- an item has this name
abbrev has_name : List ℕ → Item → Bool
has_name name item = bytes_eq (item_name item) name

-- where a name is declared once, no item before its own declares it
undeclared :
    (before items : List Item) (number : ℕ) (one : Item) → are_bound before items ≡ true → slice_get items number ≡ Some one
    → is_declared before (item_name one) ≡ false
undeclared before [] number one bound there = cc there
undeclared before (item ∷ items) zero one bound there =
    subst (λ i. is_declared before (item_name i) ≡ false) (same_Some _ _ there) (unholding _ (and_parts _ _ (and_parts _ _ bound).0).0)
undeclared before (item ∷ items) (suc number) one bound there =
    (neither _ _ (sym (list_any-append (has_name (item_name one)) before (item ∷ [])) ∙ undeclared (before ++ item ∷ []) items number one (and_parts _ _ bound).1 there)).0

-- and the item before has another name
renamed :
    (before items : List Item) (item : Item) (number : ℕ) (one : Item) → are_bound before (item ∷ items) ≡ true → slice_get items number ≡ Some one
    → bytes_eq (item_name item) (item_name one) ≡ false
renamed before items item number one bound there =
    (neither _ _ (neither _ _ (sym (list_any-append (has_name (item_name one)) before (item ∷ []))
    ∙ undeclared (before ++ item ∷ []) items number one (and_parts _ _ bound).1 there)).1).0

-- Lvalues

-- the place of an object whose block has this number
abbrev lvalue_at : ℕ → List Word → ℕ → Lvalue
lvalue_at number words stars = record { type_ = declared_type (record { words = words; stars = stars }); spot = In number [] 0 1 }

-- the name of an object among items whose blocks begin at this number
lvalue_from-object :
    (before items : List Item) (start number : ℕ) (words : List Word) (stars : ℕ) (name : List ℕ) → are_bound before items ≡ true
    → slice_get items number ≡ Some (Object words stars name) → lvalue_from start (map item_binding items) name ≡ Some (lvalue_at (start + number) words stars)
lvalue_from-object before [] start number words stars name bound there = cc there
lvalue_from-object before (item ∷ items) start zero words stars name bound there =
    subst (λ i. lvalue_from start (map item_binding (i ∷ items)) name ≡ Some (lvalue_at (start + 0) words stars)) (sym (same_Some _ _ there))
    (rw ((bytes_eq-Decides name name).1 refl) (ap (λ k. Some (lvalue_at k words stars)) (omega arith)))
lvalue_from-object before (item ∷ items) start (suc number) words stars name bound there =
    rw (renamed before items item number (Object words stars name) bound there)
    (lvalue_from-object (before ++ item ∷ []) items (start + 1) number words stars name (and_parts _ _ bound).1 there
    ∙ ap (λ k. Some (lvalue_at k words stars)) (omega arith))

pub names_designate : NamesDesignate
names_designate unit form number words stars name there =
    ap (λ tree. lvalue_of (bindings_in tree) name) form.is_tree
    ∙ ap (λ scope. lvalue_of scope name) (bindings_among-items 0 form.items)
    ∙ lvalue_from-object [] form.items 0 number words stars name form.bound there
    ∙ ap (λ k. Some (lvalue_at k words stars)) (omega arith)
