-- Every symbol of the grammar serves: a unit can have it, and it derives something.
use Rattle.std.specs.Prelude.{◌≡◌, Bool, true, List, [], ◌∷◌, reverse, if◌then◌else◌}
use Rattle.std.specs.List.{list_all, list_any, flat_map}
use Rattle.vocabulary.specs.declared.symbol.Symbol.{Symbol}
use Rattle.vocabulary.specs.declared.symbol.Symbol.TheVariants.{ExternalDeclarations}
use Rattle.vocabulary.specs.declared.production_item.ProductionItem.{ProductionItem}
use Rattle.vocabulary.specs.declared.production_item.ProductionItem.TheVariants.{Nonterminal}
use Rattle.meaning_grammar.specs.Symbols.{all_symbols, is_same_symbol}
use Rattle.meaning_grammar.specs.Productions.{productions}

-- the symbol is one of these
abbrev pub is_found : List Symbol → Symbol → Bool
is_found symbols symbol = list_any (is_same_symbol symbol) symbols

-- the symbol of an item, if it has one
abbrev pub symbol_of : ProductionItem → List Symbol
symbol_of (Nonterminal symbol) = symbol ∷ []
symbol_of item = []

-- the symbols of a row
abbrev pub symbols_in : List ProductionItem → List Symbol
symbols_in row = flat_map symbol_of row

-- with these, each once
abbrev pub with_new : List Symbol → List Symbol → List Symbol
with_new found [] = found
with_new found (symbol ∷ symbols) = with_new (if is_found found symbol then found else symbol ∷ found) symbols

-- with what the rows of a symbol have, where the symbol itself is among them
abbrev pub with_rows_of : List Symbol → Symbol → List Symbol
with_rows_of found symbol =
    if is_found found symbol then with_new found (flat_map symbols_in (productions symbol)) else found

-- with a symbol that has a row of nothing but these
abbrev pub with_deriving : List Symbol → Symbol → List Symbol
with_deriving found symbol =
    if list_any (λ row. list_all (is_found found) (symbols_in row)) (productions symbol) then symbol ∷ found else found

-- one symbol behind the other
abbrev pub along : (List Symbol → Symbol → List Symbol) → List Symbol → List Symbol → List Symbol
along step found [] = found
along step found (symbol ∷ symbols) = along step (step found symbol) symbols

-- what a unit can have: each symbol stands in the table behind one that has it in a row
abbrev pub reached : List Symbol
reached = along with_rows_of (ExternalDeclarations ∷ []) all_symbols

-- what derives something: from the end of the table, and once more for what stands before what it needs
abbrev pub derived : List Symbol
derived = along with_deriving (along with_deriving [] (reverse all_symbols)) (reverse all_symbols)

-- Every symbol is reached from the unit, and derives something
pub record SymbolsServe : Type 0 where
  pub reached_ : (symbol : Symbol) → is_found reached symbol ≡ true
  pub derive : (symbol : Symbol) → is_found derived symbol ≡ true
