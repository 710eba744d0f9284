-- The slot at a name's newest place is the entry that the name stands for.
use Rattle.std.proofs.Common.{◌≡◌, ◌+◌, ◌<◌, ◌&&◌, ℕ, suc, Bool, true, false, nat_le, if◌then◌else◌, List, [], ◌∷◌, length, map, reverse, slice_get, get_or, Option, None, Some, option_map, refl, sym, ap, ◌∙◌, arith}
use Rattle.std.proofs.lemmas.Bool.{le-leb, lt-leb}
use Rattle.std.proofs.lemmas.List.{length-reverse, reverse-reverse}
use Rattle.std.proofs.lemmas.Option.{none-some, same_Some, slice_get_read}
use Rattle.vocabulary.specs.declared.scope.NameSpace.{NameSpace}
use Rattle.vocabulary.specs.declared.scope.NameSpace.TheVariants.{Ordinary, Tags, Labels}
use Rattle.vocabulary.specs.declared.scope.Bound.{Bound}
use Rattle.vocabulary.specs.contracts.scope.NameSpacePartialEq.TheImpl as spaces
use Rattle.sparse_model.specs.declared.ids.NameId.{NameId}
use Rattle.meaning_scopes.specs.Scopes.{Binds, same_space, is_of, find_from, find}
use Rattle.c_scope.specs.declared.slot.Binding.{Binding}
use Rattle.c_scope.specs.declared.slot.Slot.{Slot}
use Rattle.c_scope.specs.declared.slot.Slot.TheVariants.{Mark, Name}
use Rattle.c_scope.specs.Seen.{entry_of, same_name, told_of}
use Rattle.c_scope.specs.Slots.{item_of, same_key, newest_in, opened_in}
use Rattle.c_scope.proofs.StackLemmas.{at-first, at-others, opened_in-within}

same_spaces : (space other : NameSpace) → spaces.eq-value.it space other ≡ same_space space other
same_spaces Ordinary Ordinary = refl
same_spaces Ordinary Tags = refl
same_spaces Ordinary Labels = refl
same_spaces Tags Ordinary = refl
same_spaces Tags Tags = refl
same_spaces Tags Labels = refl
same_spaces Labels Ordinary = refl
same_spaces Labels Tags = refl
same_spaces Labels Labels = refl

-- the map compares as the definition does
same_key-is : (binding : Binding) (space : NameSpace) (name : NameId) → same_key (binding.space, binding.name) (space, name) ≡ is_of same_name space name (entry_of binding)
same_key-is binding space name = ap (λ test. test && same_name binding.name name) (same_spaces binding.space space)

-- the last place or one before
within_either : (test : Bool) (last : ℕ) (before : Option ℕ) (place : ℕ) → (if test then Some last else before) ≡ Some place
    → (before ≡ Some place → place < last) → place < suc last
within_either true last before place found within = omega (arith, same_Some last place found)
within_either false last before place found within = omega (arith, within found)

-- a newest place is one of the stack
pub newest_in-within : (stack : List Slot) (key : NameSpace × NameId) (place : ℕ) → newest_in stack key ≡ Some place → place < length stack
newest_in-within [] key place found = absurd (none-some place found)
newest_in-within (Mark opened ∷ stack) key place found = omega (arith, newest_in-within stack key place found)
newest_in-within (Name binding hides ∷ stack) key place found =
    within_either (same_key (binding.space, binding.name) key) (length stack) (newest_in stack key) place found (newest_in-within stack key place)

-- What stands at a place, and that the name stands for it.
pub record IsFoundAt (here : Bool) (stack : List Slot) (space : NameSpace) (name : NameId) (place : ℕ) : Type 0 where
  pub binding : Binding
  pub hides : Option ℕ
  pub stands : slice_get (reverse stack) place ≡ Some (Name binding hides)
  pub found : find_from same_name here (map item_of stack) space name ≡ Some (record { entry = entry_of binding; is_innermost = here && nat_le (opened_in stack) place })

and-false : (test : Bool) → (test && false) ≡ false
and-false true = refl
and-false false = refl

and-true : (test : Bool) → (test && true) ≡ test
and-true true = refl
and-true false = refl

-- an entry is of the name, or what stands behind it is found
found_either : (here : Bool) (binding : Binding) (hides : Option ℕ) (stack : List Slot) (space : NameSpace) (name : NameId) (place : ℕ) (test : Bool)
    → is_of same_name space name (entry_of binding) ≡ test
    → (if test then Some (length stack) else newest_in stack (space, name)) ≡ Some place
    → (newest_in stack (space, name) ≡ Some place → IsFoundAt here stack space name place)
    → IsFoundAt here (Name binding hides ∷ stack) space name place
found_either here binding hides stack space name place true same found later =
    let first : length stack ≡ place = same_Some (length stack) place found in
    record {
      binding = binding;
      hides = hides;
      stands = ap (slice_get (reverse (Name binding hides ∷ stack))) (sym first) ∙ at-first (Name binding hides) stack;
      found =
          ap (λ test. if test then Some (record { entry = entry_of binding; is_innermost = here }) else find_from same_name here (map item_of stack) space name) same
          ∙ ap (λ test. Some (record { entry = entry_of binding; is_innermost = test }))
          (sym (and-true here) ∙ ap (λ test. here && test) (sym (le-leb (opened_in stack) place (omega (arith, opened_in-within stack, first)))));
    }
found_either here binding hides stack space name place false differs found later =
    let behind = later found in
    record {
      binding = behind.binding;
      hides = behind.hides;
      stands = at-others (Name binding hides) stack place (newest_in-within stack (space, name) place found) ∙ behind.stands;
      found =
          ap (λ test. if test then Some (record { entry = entry_of binding; is_innermost = here }) else find_from same_name here (map item_of stack) space name) differs
          ∙ behind.found;
    }

none_either : (here : Bool) (binding : Binding) (stack : List Slot) (space : NameSpace) (name : NameId) (test : Bool)
    → is_of same_name space name (entry_of binding) ≡ test
    → (if test then Some (length stack) else newest_in stack (space, name)) ≡ None
    → (newest_in stack (space, name) ≡ None → find_from same_name here (map item_of stack) space name ≡ None)
    → find_from same_name here (Binds (entry_of binding) ∷ map item_of stack) space name ≡ None
none_either here binding stack space name true same none later = absurd (none-some (length stack) (sym none))
none_either here binding stack space name false differs none later =
    ap (λ test. if test then Some (record { entry = entry_of binding; is_innermost = here }) else find_from same_name here (map item_of stack) space name) differs
    ∙ later none

pub found_at : (here : Bool) (stack : List Slot) (space : NameSpace) (name : NameId) (place : ℕ) → newest_in stack (space, name) ≡ Some place → IsFoundAt here stack space name place
found_at here [] space name place found = absurd (none-some place found)
found_at here (Mark opened ∷ stack) space name place found =
    let outer = found_at false stack space name place found in
    let within = newest_in-within stack (space, name) place found in
    record {
      binding = outer.binding;
      hides = outer.hides;
      stands = at-others (Mark opened) stack place within ∙ outer.stands;
      found =
          outer.found
          ∙ ap (λ test. Some (record { entry = entry_of outer.binding; is_innermost = test }))
          (sym (and-false here) ∙ ap (λ test. here && test) (sym (lt-leb (length stack + 1) place (omega (arith, within)))));
    }
found_at here (Name binding hides ∷ stack) space name place found =
    found_either here binding hides stack space name place (same_key (binding.space, binding.name) (space, name)) (sym (same_key-is binding space name)) found (found_at here stack space name place)

-- a name without a newest place stands for nothing
pub none_found : (here : Bool) (stack : List Slot) (space : NameSpace) (name : NameId) → newest_in stack (space, name) ≡ None → find_from same_name here (map item_of stack) space name ≡ None
none_found here [] space name none = refl
none_found here (Mark opened ∷ stack) space name none = none_found false stack space name none
none_found here (Name binding hides ∷ stack) space name none =
    none_either here binding stack space name (same_key (binding.space, binding.name) (space, name)) (sym (same_key-is binding space name)) none (none_found here stack space name)

-- what is told of a slot at a place, where so many stand up to the last mark
abbrev pub told_at : (opened place : ℕ) → Slot → Option (ℕ × Bound × Bool)
told_at opened place (Mark before) = None
told_at opened place (Name binding hides) = Some (binding.handle, binding.bound, nat_le opened place)

-- the slot that is read at a name's newest place tells what the name stands for
pub told_by_place : (slots : List Slot) (space : NameSpace) (name : NameId) (opened place : ℕ) (slot : Slot)
    → newest_in (reverse slots) (space, name) ≡ Some place → opened ≡ opened_in (reverse slots) → slot ≡ get_or slots place slot
    → option_map told_of (find same_name (map item_of (reverse slots)) space name) ≡ told_at opened place slot
told_by_place slots space name opened place slot newest last read =
    let at = found_at true (reverse slots) space name place newest in
    let within : place < length slots = omega (arith, newest_in-within (reverse slots) (space, name) place newest, length-reverse slots) in
    let stands : Some slot ≡ Some (Name at.binding at.hides) =
    sym (slice_get_read slots (length slots) place slot refl within read) ∙ ap (λ xs. slice_get xs place) (sym (reverse-reverse slots)) ∙ at.stands in
    ap (option_map told_of) at.found
    ∙ ap (λ first. told_at first place (Name at.binding at.hides)) (sym last)
    ∙ ap (told_at opened place) (sym (same_Some slot (Name at.binding at.hides) stands))
