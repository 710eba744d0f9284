-- Slots with the last one first, and the scopes that they are.
use Rattle.std.proofs.Common.{◌≡◌, ◌+◌, ◌<◌, ◌≤◌, ℕ, zero, suc, nat_lt, List, [], ◌∷◌, ◌++◌, length, map, reverse, take, drop, slice_get, get_or, Some, refl, sym, ap, ◌∙◌, arith}
use Rattle.std.proofs.lemmas.List.{reverse-append, length-reverse, take_more, drop_all, drop-append-le}
use Rattle.std.proofs.lemmas.Bool.{lt-ltb}
use Rattle.meaning_scopes.specs.Scopes.{innermost, is_open}
use Rattle.c_scope.specs.declared.slot.Slot.{Slot}
use Rattle.c_scope.specs.declared.slot.Slot.TheVariants.{Mark, Name}
use Rattle.c_scope.specs.Seen.{entry_of}
use Rattle.c_scope.specs.Slots.{item_of, entries_in, opened_in}

-- and the other way round
pub reverse-cons : {X : Type 0} (x : X) (xs : List X) → reverse (x ∷ xs) ≡ reverse xs ++ x ∷ []
reverse-cons x xs = reverse-append (x ∷ []) xs

slice_get-append : {X : Type 0} (xs ys : List X) (k : ℕ) → k < length xs → slice_get (xs ++ ys) k ≡ slice_get xs k
slice_get-append [] ys k within = absurd (omega (arith, within))
slice_get-append (x ∷ xs) ys zero within = refl
slice_get-append (x ∷ xs) ys (suc k) within = slice_get-append xs ys k (omega (arith, within))

slice_get-end : {X : Type 0} (xs : List X) (x : X) → slice_get (xs ++ x ∷ []) (length xs) ≡ Some x
slice_get-end [] x = refl
slice_get-end (y ∷ xs) x = slice_get-end xs x

-- the first slot of a stack stands at the number of the others
pub at-first : {X : Type 0} (x : X) (stack : List X) → slice_get (reverse (x ∷ stack)) (length stack) ≡ Some x
at-first x stack =
    ap (λ xs. slice_get xs (length stack)) (reverse-cons x stack)
    ∙ ap (slice_get (reverse stack ++ x ∷ [])) (sym (length-reverse stack))
    ∙ slice_get-end (reverse stack) x

-- the others stand where they stood
pub at-others : {X : Type 0} (x : X) (stack : List X) (place : ℕ) → place < length stack → slice_get (reverse (x ∷ stack)) place ≡ slice_get (reverse stack) place
at-others x stack place within =
    ap (λ xs. slice_get xs place) (reverse-cons x stack)
    ∙ slice_get-append (reverse stack) (x ∷ []) place (omega (arith, within, length-reverse stack))

-- the last mark is one of the slots
pub opened_in-within : (stack : List Slot) → opened_in stack ≤ length stack
opened_in-within [] = omega arith
opened_in-within (Mark opened ∷ stack) = omega arith
opened_in-within (Name binding hides ∷ stack) = omega (arith, opened_in-within stack)

-- a scope is open where a slot is a mark
pub opened_in-open : (stack : List Slot) → nat_lt 0 (opened_in stack) ≡ is_open (map item_of stack)
opened_in-open [] = refl
opened_in-open (Mark opened ∷ stack) = lt-ltb 0 (length stack + 1) (omega arith)
opened_in-open (Name binding hides ∷ stack) = opened_in-open stack

pub entries_in-append : (slots more : List Slot) → entries_in (slots ++ more) ≡ entries_in slots ++ entries_in more
entries_in-append [] more = refl
entries_in-append (Mark opened ∷ slots) more = entries_in-append slots more
entries_in-append (Name binding hides ∷ slots) more = ap (λ entries. entry_of binding ∷ entries) (entries_in-append slots more)

-- one slot more, read at any default
pub entries_in-more : (slots : List Slot) (k : ℕ) (other slot : Slot) → k < length slots → get_or slots k other ≡ slot
    → entries_in (take (k + 1) slots) ≡ entries_in (take k slots) ++ entries_in (slot ∷ [])
entries_in-more slots k other slot within read =
    ap entries_in (take_more slots k other within)
    ∙ entries_in-append (take k slots) (get_or slots k other ∷ [])
    ∙ ap (λ last. entries_in (take k slots) ++ entries_in (last ∷ [])) read

-- the slots behind the last mark are the entries of the innermost scope, in their order
pub entries-innermost : (stack : List Slot) → entries_in (drop (opened_in stack) (reverse stack)) ≡ reverse (innermost (map item_of stack))
entries-innermost [] = refl
entries-innermost (Mark opened ∷ stack) =
    ap entries_in (drop_all (length stack + 1) (reverse (Mark opened ∷ stack)) (omega (arith, length-reverse (Mark opened ∷ stack))))
entries-innermost (Name binding hides ∷ stack) =
    ap (λ slots. entries_in (drop (opened_in stack) slots)) (reverse-cons (Name binding hides) stack)
    ∙ ap entries_in (drop-append-le (opened_in stack) (reverse stack) (Name binding hides ∷ []) (omega (arith, opened_in-within stack, length-reverse stack)))
    ∙ entries_in-append (drop (opened_in stack) (reverse stack)) (Name binding hides ∷ [])
    ∙ ap (λ entries. entries ++ entry_of binding ∷ []) (entries-innermost stack)
    ∙ sym (reverse-cons (entry_of binding) (innermost (map item_of stack)))
