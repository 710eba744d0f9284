-- Worked examples: rows that two tokens choose, and rows without their actions.
use Rattle.std.specs.Prelude.{◌≡◌, ℕ, List, [], ◌∷◌, None, map, slice_get, slice_range}
use Rattle.vocabulary.specs.declared.token_class.TokenClass.{TokenClass}
use Rattle.vocabulary.specs.declared.token_class.TokenClass.TheVariants.{LeftBracket, RightBracket, LeftParenthesis, RightParenthesis, Star, Plus, Minus, Colon, Semicolon, Ellipsis, Assign, Comma, StaticKeyword, ConstKeyword, IntKeyword, StructKeyword, AttributeKeyword, ElseKeyword, CaseKeyword, ForKeyword, Identifier, TypedefName, Number, RefusedString, OtherToken, End}
use Rattle.vocabulary.specs.declared.symbol.Symbol.{Symbol}
use Rattle.vocabulary.specs.declared.symbol.Symbol.TheVariants.{ExternalDeclarations, OptionalInitializer, Initializer, ArraySize, Parameters, ParameterOrEllipsis, AnyDirectDeclarator, BalancedTokens, BlockItem, Statement, OptionalElse, ForInitialization, OptionalExpression, ConditionalExpression, MiddleOperand, MultiplicativeExpression, AdditiveTail, CastExpression, SizeofOperand, Arguments, FurtherStringLiterals}
use Rattle.vocabulary.specs.declared.production_item.ProductionItem.TheVariants.{Token, Passed, CaseColon, Nonterminal}
use Rattle.meaning_grammar.specs.Classes.{all_token_classes}
use Rattle.meaning_grammar.specs.Items.{plain_parts}
use Rattle.meaning_grammar.specs.Productions.{productions}
use Rattle.meaning_grammar.specs.Choice.{choice}

-- at this class before each of those the row of the symbol at this place is taken, counted from 0
abbrev pub TakesRow : Symbol → ℕ → TokenClass → List TokenClass → Type 0
TakesRow symbol place first seconds =
    map (λ second. choice symbol first second) seconds ≡ map (λ second. slice_get (productions symbol) place) seconds

-- at this class no row is taken, whatever stands behind
abbrev pub TakesNoRow : Symbol → TokenClass → Type 0
TakesNoRow symbol first = map (λ second. choice symbol first second) all_token_classes ≡ map (λ second. None) all_token_classes

pub record ChoiceExamples : Type 0 where
  pub cast : TakesRow CastExpression 0 LeftParenthesis (IntKeyword ∷ StructKeyword ∷ TypedefName ∷ AttributeKeyword ∷ [])
  pub no_cast : TakesRow CastExpression 1 LeftParenthesis (Identifier ∷ LeftParenthesis ∷ Star ∷ Number ∷ End ∷ [])
  pub size_of_type : TakesRow SizeofOperand 0 LeftParenthesis (IntKeyword ∷ StructKeyword ∷ TypedefName ∷ AttributeKeyword ∷ [])
  pub size_of_expression : TakesRow SizeofOperand 1 LeftParenthesis (Identifier ∷ LeftParenthesis ∷ Star ∷ Number ∷ End ∷ [])
  pub labels : TakesRow BlockItem 0 Identifier (Colon ∷ []) × TakesRow BlockItem 0 TypedefName (Colon ∷ [])
  pub declared :
      TakesRow BlockItem 2 TypedefName (LeftParenthesis ∷ Star ∷ Identifier ∷ TypedefName ∷ Semicolon ∷ [])
      × TakesRow BlockItem 2 AttributeKeyword all_token_classes
  pub evaluated : TakesRow BlockItem 3 Identifier (Semicolon ∷ Assign ∷ LeftParenthesis ∷ End ∷ [])
  pub label_of_statement : TakesRow Statement 0 Identifier (Colon ∷ []) × TakesRow Statement 0 TypedefName all_token_classes
  pub expression_statement : TakesRow Statement 15 Identifier (Semicolon ∷ Assign ∷ LeftParenthesis ∷ [])
  pub suffixes : TakesRow AnyDirectDeclarator 1 LeftParenthesis (RightParenthesis ∷ IntKeyword ∷ TypedefName ∷ [])
  pub parenthesized :
      TakesRow AnyDirectDeclarator 2 LeftParenthesis (Star ∷ LeftParenthesis ∷ Identifier ∷ AttributeKeyword ∷ LeftBracket ∷ [])
  pub parameters :
      TakesRow ParameterOrEllipsis 1 RightParenthesis all_token_classes × TakesRow ParameterOrEllipsis 1 Comma all_token_classes
      × TakesRow ParameterOrEllipsis 1 IntKeyword all_token_classes × TakesRow ParameterOrEllipsis 1 Identifier all_token_classes
  pub ellipsis : TakesRow ParameterOrEllipsis 0 Ellipsis all_token_classes
  pub empty_lists :
      TakesRow Parameters 0 RightParenthesis all_token_classes × TakesRow Arguments 0 RightParenthesis all_token_classes
      × TakesRow ArraySize 0 RightBracket all_token_classes × TakesRow MiddleOperand 0 Colon all_token_classes
      × TakesRow BalancedTokens 2 RightParenthesis all_token_classes
  pub array_sizes : TakesNoRow ArraySize ConstKeyword × TakesNoRow ArraySize StaticKeyword × TakesRow ArraySize 1 Star all_token_classes
  pub else_belongs_to_the_nearest_if : TakesRow OptionalElse 0 ElseKeyword all_token_classes × TakesRow OptionalElse 1 Semicolon all_token_classes
  -- words and literals that aren't supported, too
  pub balanced :
      TakesNoRow BalancedTokens End × TakesRow BalancedTokens 1 OtherToken all_token_classes × TakesRow BalancedTokens 1 RefusedString all_token_classes
  pub unsupported_string_ends_a_row : TakesNoRow FurtherStringLiterals RefusedString × TakesRow FurtherStringLiterals 1 Semicolon all_token_classes
  pub end_of_unit : TakesRow ExternalDeclarations 1 End all_token_classes × TakesRow ExternalDeclarations 1 RightParenthesis all_token_classes

-- rows as the grammar of C11 has them
pub record PlainExamples : Type 0 where
  pub initializer :
      map plain_parts (productions OptionalInitializer) ≡ (Token Assign ∷ Nonterminal Initializer ∷ []) ∷ [] ∷ []
  pub additive :
      map plain_parts (productions AdditiveTail)
      ≡ (Token Plus ∷ Nonterminal MultiplicativeExpression ∷ Nonterminal AdditiveTail ∷ [])
      ∷ (Token Minus ∷ Nonterminal MultiplicativeExpression ∷ Nonterminal AdditiveTail ∷ []) ∷ [] ∷ []
  pub case_ :
      map plain_parts (slice_range (productions Statement) 1 2)
      ≡ (Token CaseKeyword ∷ Nonterminal ConditionalExpression ∷ CaseColon ∷ Nonterminal Statement ∷ []) ∷ []
  pub for_ :
      map plain_parts (slice_range (productions Statement) 8 9)
      ≡ (Token ForKeyword ∷ Passed LeftParenthesis ∷ Nonterminal ForInitialization ∷ Nonterminal OptionalExpression ∷ Token Semicolon ∷ Nonterminal OptionalExpression ∷ Token RightParenthesis ∷ Nonterminal Statement ∷ [])
      ∷ []
