-- Each row leaves what its symbol does: computed for each symbol.
use Rattle.std.proofs.Common.{◌≡◌, true, refl}
use Rattle.std.specs.List.{list_all}
use Rattle.vocabulary.specs.declared.symbol.Symbol.{Symbol}
use Rattle.vocabulary.specs.declared.symbol.Symbol.TheVariants.{ExternalDeclarations}
use Rattle.meaning_grammar.specs.Productions.{productions}
use Rattle.meaning_forms.proofs.Effects.{keeps_known}

pub all_keep_known : (symbol : Symbol) → list_all (keeps_known symbol) (productions symbol) ≡ true
all_keep_known ExternalDeclarations = refl
all_keep_known symbol = refl
