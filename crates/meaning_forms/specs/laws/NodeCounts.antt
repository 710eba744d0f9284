-- No form makes more than three nodes a token: what a row of the grammar makes beside what its tokens pay for, at three a token, is
-- paid for by the row that asks for its symbol, or by the symbols that it asks for.
use Rattle.std.specs.Prelude.{◌≡◌, ℕ, ◌+◌, ◌*◌, nat_lt, Bool, true, not, List, [], ◌∷◌}
use Rattle.std.specs.List.{list_all}
use Rattle.vocabulary.specs.declared.action.Action.{Action}
use Rattle.vocabulary.specs.declared.action.Action.TheVariants as actions
use Rattle.vocabulary.specs.declared.production_item.ProductionItem.{ProductionItem}
use Rattle.vocabulary.specs.declared.production_item.ProductionItem.TheVariants.{Token, Passed, PassedAny, Name, LabelName, AttributeWord, CaseColon, DesignatorEnd, Nonterminal, Do}
use Rattle.vocabulary.specs.declared.symbol.Symbol.{Symbol}
use Rattle.vocabulary.specs.declared.symbol.Symbol.TheVariants as symbols
use Rattle.meaning_grammar.specs.Symbols.{all_symbols}
use Rattle.meaning_grammar.specs.Productions.{productions}

-- how many nodes an action makes at most: that of a context in an attribute has its two numbers below it
abbrev pub nodes_made : Action → ℕ
nodes_made actions.AppendAttribute = 3
nodes_made (actions.Append role) = 0
nodes_made actions.AppendDeclarator = 0
nodes_made actions.AwaitBody = 0
nodes_made actions.BeginAtNext = 0
nodes_made actions.BeginDeclarators = 0
nodes_made actions.BeginList = 0
nodes_made actions.BindDeclarator = 0
nodes_made actions.BindEnumerator = 0
nodes_made actions.BindFurtherDeclarator = 0
nodes_made actions.BindParameter = 0
nodes_made actions.CloseParameters = 0
nodes_made actions.CloseScope = 0
nodes_made actions.CountParameter = 0
nodes_made actions.DeclareTag = 0
nodes_made actions.DefineTag = 0
nodes_made actions.JoinAnyParts = 0
nodes_made actions.JoinParts = 0
nodes_made actions.JoinSuffixes = 0
nodes_made actions.NoteFunctionDeclarator = 0
nodes_made actions.OpenBody = 0
nodes_made actions.OpenScope = 0
nodes_made actions.RequireType = 0
nodes_made actions.RequireTypeOrAttributes = 0
nodes_made actions.UseTag = 0
nodes_made actions.WithoutTag = 0
nodes_made action = 1

-- what the row that asks for a symbol pays for
abbrev pub owed : Symbol → ℕ
owed symbols.TypeofOperand = 4
owed symbols.TypeName = 3
owed symbols.Parameters = 3
owed symbols.ParameterOrEllipsis = 3
owed symbols.Parameter = 3
owed symbols.SizeofTypeEnd = 1
owed symbol = 0

-- what the tokens of a symbol pay for beside its own nodes
abbrev pub spare : Symbol → ℕ
spare symbols.ExternalDeclarators = 1
spare symbols.Declarator = 2
spare symbols.DirectDeclarator = 2
spare symbols.Initializer = 1
spare symbols.CompoundStatement = 1
spare symbols.Declarators = 1
spare symbols.AssignmentExpression = 1
spare symbols.ConditionalExpression = 1
spare symbols.LogicalOrExpression = 1
spare symbols.LogicalAndExpression = 1
spare symbols.InclusiveOrExpression = 1
spare symbols.ExclusiveOrExpression = 1
spare symbols.AndExpression = 1
spare symbols.EqualityExpression = 1
spare symbols.RelationalExpression = 1
spare symbols.ShiftExpression = 1
spare symbols.AdditiveExpression = 1
spare symbols.MultiplicativeExpression = 1
spare symbols.CastExpression = 1
spare symbols.BracedInitializer = 1
spare symbols.UnaryExpression = 1
spare symbols.PrimaryExpression = 1
spare symbols.StringLiterals = 1
spare symbol = 0

-- the nodes that a token pays for, and those that the tokens of a symbol do
abbrev pub paid_by_item : ProductionItem → ℕ
paid_by_item (Token class_) = 3
paid_by_item (Passed class_) = 3
paid_by_item PassedAny = 3
paid_by_item Name = 3
paid_by_item LabelName = 3
paid_by_item AttributeWord = 3
paid_by_item CaseColon = 3
paid_by_item DesignatorEnd = 3
paid_by_item (Nonterminal symbol) = spare symbol
paid_by_item (Do action) = 0

abbrev pub asked_by_item : ProductionItem → ℕ
asked_by_item (Nonterminal symbol) = owed symbol
asked_by_item (Do action) = nodes_made action
asked_by_item item = 0

abbrev pub paid : List ProductionItem → ℕ
paid [] = 0
paid (item ∷ items) = paid_by_item item + paid items

abbrev pub asked : List ProductionItem → ℕ
asked [] = 0
asked (item ∷ items) = asked_by_item item + asked items

abbrev pub is_paid : Symbol → List ProductionItem → Bool
is_paid symbol row = not (nat_lt (paid row + owed symbol) (asked row + spare symbol))

-- each row, and the symbol of a whole unit owes nothing
pub record RowsArePaid : Type 0 where
  pub rows : list_all (λ symbol. list_all (is_paid symbol) (productions symbol)) all_symbols ≡ true
  pub unit : owed symbols.ExternalDeclarations ≡ 0
