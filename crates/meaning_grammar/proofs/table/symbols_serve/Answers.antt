-- Computed for each symbol.
use Rattle.std.proofs.Common.{◌≡◌, true, refl}
use Rattle.vocabulary.specs.declared.symbol.Symbol.{Symbol}
use Rattle.vocabulary.specs.declared.symbol.Symbol.TheVariants.{ExternalDeclarations}
use Rattle.meaning_grammar.specs.laws.Reach.{is_found, reached, derived}
use Rattle.meaning_grammar.proofs.table.symbols_serve.Goals as goal

are_reached : (symbol : Symbol) → is_found reached symbol ≡ true
are_reached ExternalDeclarations = refl
are_reached symbol = refl

derive : (symbol : Symbol) → is_found derived symbol ≡ true
derive ExternalDeclarations = refl
derive symbol = refl

pub returns : goal.returns
returns c = record { reached_ = are_reached; derive = derive }
