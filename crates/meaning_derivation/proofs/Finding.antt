-- What waits finds the values that it takes, behind each step.
use Rattle.std.proofs.Common.{◌≡◌, Bool, true, false, List, [], ◌∷◌, ◌++◌, Option, Some, None, refl, sym, ap, ◌∙◌, if◌then◌else◌, is_some}
use Rattle.std.specs.Option.{option_and_then}
use Rattle.vocabulary.specs.declared.symbol.Symbol.{Symbol}
use Rattle.vocabulary.specs.declared.action.Action.{Action}
use Rattle.vocabulary.specs.declared.production_item.ProductionItem.{ProductionItem}
use Rattle.vocabulary.specs.declared.production_item.ProductionItem.TheVariants.{Nonterminal, Do}
use Rattle.meaning_grammar.specs.Sorts.{Sort, AWord, ATree, AList, is_same_sort, needs, gives, exchanged, effect, effects, KeepsSorts}

-- behind no stack there is none
effects-none : (items : List ProductionItem) → effects items None ≡ None
effects-none [] = refl
effects-none (item ∷ items) = effects-none items

effects-append : (items others : List ProductionItem) (before : Option (List Sort)) → effects (items ++ others) before ≡ effects others (effects items before)
effects-append [] others before = refl
effects-append (item ∷ items) others before = effects-append items others (option_and_then (effect item) before)

same_sort : (sort other : Sort) → is_same_sort sort other ≡ true → sort ≡ other
same_sort AWord AWord is = refl
same_sort ATree ATree is = refl
same_sort AList AList is = refl
same_sort AWord ATree is = absurd (cc is)
same_sort AWord AList is = absurd (cc is)
same_sort ATree AWord is = absurd (cc is)
same_sort ATree AList is = absurd (cc is)
same_sort AList AWord is = absurd (cc is)
same_sort AList ATree is = absurd (cc is)

-- what was on the top, and is now there in its place
abbrev Exchange : (takes leaves sorts after : List Sort) → Type 0
Exchange takes leaves sorts after = (rest : List Sort) × (sorts ≡ takes ++ rest) × (leaves ++ rest ≡ after)

exchange_if : (test : Bool) (sort other : Sort) (takes leaves sorts after : List Sort) → is_same_sort sort other ≡ test
    → (exchanged takes leaves sorts ≡ Some after → Exchange takes leaves sorts after)
    → (if test then exchanged takes leaves sorts else None) ≡ Some after → Exchange (sort ∷ takes) leaves (other ∷ sorts) after
exchange_if true sort other takes leaves sorts after same behind is =
    let found = behind is in
    let top = same_sort sort other same in
    (found.0, ap (λ one. one ∷ sorts) (sym top) ∙ ap (λ all. sort ∷ all) found.1, found.2)
exchange_if false sort other takes leaves sorts after same behind is = absurd (cc is)

exchanged-Exchange : (takes leaves sorts after : List Sort) → exchanged takes leaves sorts ≡ Some after → Exchange takes leaves sorts after
exchanged-Exchange [] leaves sorts after is = (sorts, refl, cc)
exchanged-Exchange (sort ∷ takes) leaves [] after is = absurd (cc is)
exchanged-Exchange (sort ∷ takes) leaves (other ∷ sorts) after is =
    exchange_if (is_same_sort sort other) sort other takes leaves sorts after refl (exchanged-Exchange takes leaves sorts after) is

-- a row in the place of its symbol
row_sorted_at : (symbol : Symbol) (row others : List ProductionItem) (sorts all : List Sort) (found : Option (List Sort)) → KeepsSorts symbol row
    → effect (Nonterminal symbol) sorts ≡ found → effects others found ≡ Some all → effects (row ++ others) (Some sorts) ≡ Some all
row_sorted_at symbol row others sorts all None keeps is have =
    let clash : None ≡ Some all = sym (effects-none others) ∙ have in absurd (cc clash)
row_sorted_at symbol row others sorts all (Some after) keeps is have =
    let exchange = exchanged-Exchange (needs symbol) (gives symbol) sorts after is in
    effects-append row others (Some sorts)
    ∙ ap (λ stack. effects others (effects row (Some stack))) exchange.1
    ∙ ap (effects others) (keeps exchange.0 ∙ ap Some exchange.2)
    ∙ have

pub row_sorted : (symbol : Symbol) (row others : List ProductionItem) (sorts all : List Sort) → KeepsSorts symbol row
    → effects (Nonterminal symbol ∷ others) (Some sorts) ≡ Some all → effects (row ++ others) (Some sorts) ≡ Some all
row_sorted symbol row others sorts all keeps have = row_sorted_at symbol row others sorts all (effect (Nonterminal symbol) sorts) keeps refl have

-- an action finds what it takes
fits_at : (others : List ProductionItem) (all : List Sort) (found : Option (List Sort)) → effects others found ≡ Some all → is_some found ≡ true
fits_at others all None have = let clash : None ≡ Some all = sym (effects-none others) ∙ have in absurd (cc clash)
fits_at others all (Some after) have = refl

pub action_fits : (action : Action) (others : List ProductionItem) (sorts all : List Sort) → effects (Do action ∷ others) (Some sorts) ≡ Some all
    → is_some (effect (Do action) sorts) ≡ true
action_fits action others sorts all have = fits_at others all (effect (Do action) sorts) have
