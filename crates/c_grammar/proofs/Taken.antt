-- What holds of the row that is taken holds of the items that are answered.
use Rattle.std.proofs.Common.{◌≡◌, List, Option, Some, None, IfSome, option_map, subst, sym}
use Rattle.vocabulary.specs.declared.token_class.TokenClass.{TokenClass}
use Rattle.vocabulary.specs.declared.symbol.Symbol.{Symbol}
use Rattle.vocabulary.specs.declared.production_item.ProductionItem.{ProductionItem}
use Rattle.meaning_grammar.specs.Choice.{choice}

pub taken-IfSome :
    {Items : Type 0} (now : Items → List ProductionItem) (symbol : Symbol) (first second : TokenClass) (P : List ProductionItem → Type 0)
    → ((row : List ProductionItem) → choice symbol first second ≡ Some row → P row)
    → (items : Option Items) → choice symbol first second ≡ option_map now items → IfSome items (λ some. P (now some))
taken-IfSome now symbol first second P says None is = tt
taken-IfSome now symbol first second P says (Some items) is = says (now items) is

-- what is chosen for a symbol whatever stands behind is chosen for it before this class
pub chosen-for :
    {Items : Type 0} (now : Items → List ProductionItem) (symbol other : Symbol) (next behind : TokenClass) (result : Option Items)
    → symbol ≡ other → ((second : TokenClass) → choice other next second ≡ option_map now result)
    → choice symbol next behind ≡ option_map now result
chosen-for now symbol other next behind result is chosen =
    subst (λ (one : Symbol). choice one next behind ≡ option_map now result) (sym is) (chosen behind)
