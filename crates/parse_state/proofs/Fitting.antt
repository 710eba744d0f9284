-- Values of the sorts that an action takes are covered by sources that cover those sorts.
use Rattle.std.proofs.Common.{◌≡◌, Bool, true, false, List, [], ◌∷◌, None, IsSome, take, reverse, length, if◌then◌else◌, refl, sym, ap, ap₂, ◌∙◌}
use Rattle.vocabulary.specs.declared.action.Action.{Action}
use Rattle.vocabulary.specs.declared.production_item.ProductionItem.TheVariants.{Do}
use Rattle.meaning_grammar.specs.Sorts.{Sort, AWord, ATree, AList, is_same_sort, action_effect, exchanged, effect}
use Rattle.meaning_derivation.specs.Values.{Value, sorts_of}
use Rattle.parse_state.specs.declared.shape.Source.{Source}
use Rattle.parse_state.specs.Sources.{covers, IsCovered, IsFit}

same_sort : (sort other : Sort) → is_same_sort sort other ≡ true → sort ≡ other
same_sort AWord AWord is = refl
same_sort ATree ATree is = refl
same_sort AList AList is = refl
same_sort AWord ATree is = absurd (cc is)
same_sort AWord AList is = absurd (cc is)
same_sort ATree AWord is = absurd (cc is)
same_sort ATree AList is = absurd (cc is)
same_sort AList AWord is = absurd (cc is)
same_sort AList ATree is = absurd (cc is)

first_fits :
    (test : Bool) (sort other : Sort) (takes leaves sorts : List Sort) → (test ≡ true → sort ≡ other)
    → (IsSome (exchanged takes leaves sorts) → take (length takes) sorts ≡ takes) → IsSome (if test then exchanged takes leaves sorts else None)
    → other ∷ take (length takes) sorts ≡ sort ∷ takes
first_fits true sort other takes leaves sorts same behind is = ap₂ (λ one rest. one ∷ rest) (sym (same refl)) (behind is)
first_fits false sort other takes leaves sorts same behind is = absurd (cc is)

fits : (takes leaves sorts : List Sort) → IsSome (exchanged takes leaves sorts) → take (length takes) sorts ≡ takes
fits [] leaves sorts is = refl
fits (sort ∷ takes) leaves [] is = absurd (cc is)
fits (sort ∷ takes) leaves (other ∷ sorts) is =
    first_fits (is_same_sort sort other) sort other takes leaves sorts (same_sort sort other) (fits takes leaves sorts) is

pub fit : (action : Action) (values : List Value) → IsSome (effect (Do action) (sorts_of values)) → IsFit action values
fit action values is = fits (action_effect action).takes (action_effect action).leaves (sorts_of values) is

pub covered : (action : Action) (values : List Value) (sources : List Source) → IsSome (effect (Do action) (sorts_of values))
    → covers (reverse (action_effect action).takes) sources ≡ true → IsCovered values (length (action_effect action).takes) sources
covered action values sources is all = ap (λ sorts. covers (reverse sorts) sources) (fit action values is) ∙ all
