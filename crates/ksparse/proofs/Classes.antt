-- Each class stands once in what is kept of all of them.
use Rattle.std.proofs.Common.{◌≡◌, Bool, true, false, List, [], ◌∷◌, sym, subst, if◌then◌else◌}
use Rattle.std.specs.List.{filter}
use Rattle.vocabulary.specs.declared.class.Class.{Class}
use Rattle.vocabulary.specs.Rules.{all_classes}
use Rattle.meaning_answer.specs.Options.{Switch}
use Rattle.meaning_answer.specs.Requests.{classes_on, is_switched_on}
use Rattle.ksparse.specs.Words.{IsNotAmong, EachStandsOnce}

all_once : EachStandsOnce all_classes
all_once = ((λ is. cc, (λ is. cc, (λ is. cc, (λ is. cc, (λ is. cc, (λ is. cc, (λ is. cc, (λ is. cc, (λ is. cc, (λ is. cc, (λ is. cc, (λ is. cc, tt)))))))))))), ((λ is. cc, (λ is. cc, (λ is. cc, (λ is. cc, (λ is. cc, (λ is. cc, (λ is. cc, (λ is. cc, (λ is. cc, (λ is. cc, (λ is. cc, tt))))))))))), ((λ is. cc, (λ is. cc, (λ is. cc, (λ is. cc, (λ is. cc, (λ is. cc, (λ is. cc, (λ is. cc, (λ is. cc, (λ is. cc, tt)))))))))), ((λ is. cc, (λ is. cc, (λ is. cc, (λ is. cc, (λ is. cc, (λ is. cc, (λ is. cc, (λ is. cc, (λ is. cc, tt))))))))), ((λ is. cc, (λ is. cc, (λ is. cc, (λ is. cc, (λ is. cc, (λ is. cc, (λ is. cc, (λ is. cc, tt)))))))), ((λ is. cc, (λ is. cc, (λ is. cc, (λ is. cc, (λ is. cc, (λ is. cc, (λ is. cc, tt))))))), ((λ is. cc, (λ is. cc, (λ is. cc, (λ is. cc, (λ is. cc, (λ is. cc, tt)))))), ((λ is. cc, (λ is. cc, (λ is. cc, (λ is. cc, (λ is. cc, tt))))), ((λ is. cc, (λ is. cc, (λ is. cc, (λ is. cc, tt)))), ((λ is. cc, (λ is. cc, (λ is. cc, tt))), ((λ is. cc, (λ is. cc, tt)), ((λ is. cc, tt), (tt, tt)))))))))))))

module _ (p : Class → Bool) where
  kept_not_among : (class_ : Class) (classes : List Class) → IsNotAmong class_ classes → IsNotAmong class_ (filter p classes)
  kept_not_among class_ [] not = tt
  kept_not_among class_ (other ∷ others) not =
      elim (p other) as (λ b. IsNotAmong class_ (if b then other ∷ filter p others else filter p others)) [
        | true ↦ (not.0, kept_not_among class_ others not.1)
        | false ↦ kept_not_among class_ others not.1
      ]

  kept_once : (classes : List Class) → EachStandsOnce classes → EachStandsOnce (filter p classes)
  kept_once [] once = tt
  kept_once (class_ ∷ classes) once =
      elim (p class_) as (λ b. EachStandsOnce (if b then class_ ∷ filter p classes else filter p classes)) [
        | true ↦ (kept_not_among class_ classes once.0, kept_once classes once.1)
        | false ↦ kept_once classes once.1
      ]

-- those that are on
pub on_once : (switches : List Switch) (classes : List Class) → classes ≡ classes_on switches → EachStandsOnce classes
on_once switches classes is = subst EachStandsOnce (sym is) (kept_once (is_switched_on switches) all_classes all_once)
