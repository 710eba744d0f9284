-- Of items whose names are bound no two have one name.
use Rattle.std.proofs.Common.{◌≡◌, Bool, true, false, ◌||◌, ◌&&◌, not, List, [], ◌∷◌, ◌++◌, Contains, Some, if◌then◌else◌, inl, inr, refl, sym, ap, subst, ◌∙◌, ℕ}
use Rattle.std.specs.List.{list_any, list_all}
use Rattle.std.specs.Str.{bytes_eq}
use Rattle.std.proofs.lemmas.Bool.{and_parts, both_ways, not-true}
use Rattle.std.proofs.lemmas.List.Folds.{list_any-append}
use Rattle.std.proofs.lemmas.Slice.Eq.{bytes_eq-Decides}
use Rattle.std.proofs.lemmas.Option.{none-some, same_Some}
use Rattle.meaning_syntax.specs.Items.{Item, Object, Function}
use Rattle.meaning_syntax.specs.Binding.{Declared, are_bound, is_declared, item_name, item_declared, item_statements, object_of, statement_binds}
use Rattle.meaning_first_rules.proofs.Elements.{Contains-nil, Contains-cons_cases, Contains-cons_head, Contains-cons_tail}

or-parts : (b c : Bool) → (b || c) ≡ false → (b ≡ false) × (c ≡ false)
or-parts false false is = (refl, refl)
or-parts false true is = absurd (cc is)
or-parts true c is = absurd (cc is)

bound-parts :
    (before : List Item) (item : Item) (items : List Item) → are_bound before (item ∷ items) ≡ true
    → (is_declared before (item_name item) ≡ false) × (are_bound (before ++ item ∷ []) items ≡ true)
bound-parts before item items bound =
    let all = and_parts (not (is_declared before (item_name item)) && list_all (statement_binds before) (item_statements item)) (are_bound (before ++ item ∷ []) items) bound in
    let own = and_parts (not (is_declared before (item_name item))) (list_all (statement_binds before) (item_statements item)) all.0 in
    (not-true (is_declared before (item_name item)) own.0, all.1)

-- one more item
not-among : (before : List Item) (first : Item) (name : List ℕ) → is_declared (before ++ first ∷ []) name ≡ false
    → (is_declared before name ≡ false) × (bytes_eq (item_name first) name ≡ false)
not-among before first name none =
    let named : Item → Bool = λ one. bytes_eq (item_name one) name in
    let both = or-parts (list_any named before) (list_any named (first ∷ [])) (sym (list_any-append named before (first ∷ [])) ∙ none) in
    (both.0, (or-parts (bytes_eq (item_name first) name) false both.1).0)

-- what is declared behind others isn't declared among them
fresh : (before items : List Item) (item : Item) → are_bound before items ≡ true → Contains items item → is_declared before (item_name item) ≡ false
fresh before [] item bound among = absurd (Contains-nil item among)
fresh before (first ∷ items) item bound among =
    let parts = bound-parts before first items bound in
    elim (Contains-cons_cases first items item among) [
      | inl same ↦ subst (λ one. is_declared before (item_name one) ≡ false) same parts.0
      | inr behind ↦ (not-among before first (item_name item) (fresh (before ++ first ∷ []) items item parts.1 behind)).0
    ]

-- a name that the first one of some items has isn't that of a later one
later-differs : (before items : List Item) (first item : Item) → are_bound (before ++ first ∷ []) items ≡ true → Contains items item → item_name first ≡ item_name item → ⊥
later-differs before items first item bound among same =
    both_ways (bytes_eq (item_name first) (item_name item))
    (not-among before first (item_name item) (fresh (before ++ first ∷ []) items item bound among)).1
    ((bytes_eq-Decides (item_name first) (item_name item)).1 same)

pub same-item : (before items : List Item) (one other : Item) → are_bound before items ≡ true → Contains items one → Contains items other → item_name one ≡ item_name other → one ≡ other
same-item before [] one other bound among also same = absurd (Contains-nil one among)
same-item before (first ∷ items) one other bound among also same =
    let behind = (bound-parts before first items bound).1 in
    elim (Contains-cons_cases first items one among) [
      | inl is_first ↦ elim (Contains-cons_cases first items other also) [
        | inl first_too ↦ sym is_first ∙ first_too
        | inr later ↦ absurd (later-differs before items first other behind later (ap item_name is_first ∙ same))
      ]
      | inr later ↦ elim (Contains-cons_cases first items other also) [
        | inl is_first ↦ absurd (later-differs before items first one behind later (ap item_name is_first ∙ sym same))
        | inr later_too ↦ same-item (before ++ first ∷ []) items one other behind later later_too same
      ]
    ]

-- an object that is found by its name
by-item : (item : Item) (items : List Item) (name : List ℕ) (declared : Declared) → item_name item ≡ name → item_declared item ≡ Some declared
    → Contains (item ∷ items) (Object declared.words declared.stars name)
by-item (Object words stars own) items name declared named is =
    let same = same_Some _ declared is in
    subst (λ (d : Declared). Contains (Object words stars own ∷ items) (Object d.words d.stars name)) same
    (subst (λ n. Contains (Object words stars own ∷ items) (Object words stars n)) named (Contains-cons_head (Object words stars own) items))
by-item (Function own statements) items name declared named is = absurd (none-some declared is)

pub found : (items : List Item) (name : List ℕ) (declared : Declared) → object_of items name ≡ Some declared → Contains items (Object declared.words declared.stars name)
found [] name declared is = absurd (none-some declared is)
found (item ∷ items) name declared is = by (found items name declared) (bytes_eq (item_name item) name) refl is
  where
    by : (object_of items name ≡ Some declared → Contains items (Object declared.words declared.stars name))
        → (test : Bool) → bytes_eq (item_name item) name ≡ test → (if test then item_declared item else object_of items name) ≡ Some declared
        → Contains (item ∷ items) (Object declared.words declared.stars name)
    by among true same here = by-item item items name declared ((bytes_eq-Decides (item_name item) name).0 same) here
    by among false other there = Contains-cons_tail item items (Object declared.words declared.stars name) (among there)
