-- Which tokens an item takes.
use Rattle.std.specs.Prelude.{Bool, true, false, not, List, [], ◌∷◌}
use Rattle.std.specs.List.{filter}
use Rattle.vocabulary.specs.declared.token_class.TokenClass.{TokenClass}
use Rattle.vocabulary.specs.declared.token_class.TokenClass.TheVariants.{RightBracket, LeftParenthesis, RightParenthesis, Colon, End}
use Rattle.vocabulary.specs.declared.production_item.ProductionItem.{ProductionItem}
use Rattle.vocabulary.specs.declared.production_item.ProductionItem.TheVariants.{Token, Passed, PassedAny, Name, LabelName, AttributeWord, CaseColon, DesignatorEnd, Nonterminal, Do}
use Rattle.meaning_grammar.specs.Classes.{is_same, is_among}
use Rattle.meaning_grammar.specs.ClassLists.{names, attribute_words}

-- between balanced parentheses each token is passed over but a parenthesis and the end
abbrev pub is_passed_over : TokenClass → Bool
is_passed_over class_ = not (is_among (LeftParenthesis ∷ RightParenthesis ∷ End ∷ []) class_)

-- the item takes a token of this class
abbrev pub takes : ProductionItem → TokenClass → Bool
takes (Token wanted) class_ = is_same wanted class_
takes (Passed wanted) class_ = is_same wanted class_
takes PassedAny class_ = is_passed_over class_
takes Name class_ = is_among names class_
takes LabelName class_ = is_among names class_
takes AttributeWord class_ = is_among attribute_words class_
takes CaseColon class_ = is_same Colon class_
takes DesignatorEnd class_ = is_same RightBracket class_
takes (Nonterminal symbol) class_ = false
takes (Do action) class_ = false

-- the item is a part of the grammar's own row: it is no action
abbrev pub is_part : ProductionItem → Bool
is_part (Do action) = false
is_part item = true

-- a row without its actions: the grammar's own
abbrev pub plain_parts : List ProductionItem → List ProductionItem
plain_parts items = filter is_part items
