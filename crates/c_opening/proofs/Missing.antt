-- Operators that aren't there.
use Rattle.std.proofs.Common.{◌≡◌, ℕ, ◌+◌, ◌<◌, Bool, List, [], ◌∷◌, ◌++◌, Some, IsTrue, length, take, get_or, subst, sym}
use Rattle.std.proofs.lemmas.List.{take_more}
use Rattle.vocabulary.specs.declared.token_class.TokenClass.{TokenClass}
use Rattle.vocabulary.specs.declared.symbol.Symbol.{Symbol}
use Rattle.vocabulary.specs.declared.production_item.ProductionItem.{ProductionItem}
use Rattle.meaning_grammar.specs.Choice.{choice}
use Rattle.c_opening.specs.Absent.{AreAbsent, IsAbsent}

-- what is said of a symbol by its own function is said of the symbol that is asked
pub absent-for :
    (symbol other : Symbol) (next : TokenClass) (result : Bool) → symbol ≡ other
    → ((second : TokenClass) → IsTrue result → choice other next second ≡ Some [])
    → (second : TokenClass) → IsTrue result → choice symbol next second ≡ Some []
absent-for symbol other next result is absent second holds =
    subst (λ (one : Symbol). choice one next second ≡ Some []) (sym is) (absent second holds)

absent-append : (first second : TokenClass) (items : List ProductionItem) (item : ProductionItem) → AreAbsent first second items
    → IsAbsent first second item → AreAbsent first second (items ++ item ∷ [])
absent-append first second [] item all one = (one, tt)
absent-append first second (other ∷ items) item all one = (all.0, absent-append first second items item all.1 one)

-- one more in front
pub absent-more : (first second : TokenClass) (items : List ProductionItem) (index : ℕ) (d : ProductionItem) → AreAbsent first second (take index items)
    → IsAbsent first second (get_or items index d) → index < length items → AreAbsent first second (take (index + 1) items)
absent-more first second items index d all one inside =
    subst (AreAbsent first second) (sym (take_more items index d inside)) (absent-append first second (take index items) (get_or items index d) all one)
