-- Which crate does what an action says: that of expressions, statements and plain nodes, or that of declarations.
use Rattle.std.specs.Prelude.{Bool, true, false}
use Rattle.vocabulary.specs.declared.action.Action.{Action}
use Rattle.vocabulary.specs.declared.action.Action.TheVariants.{Append, BeginAtNext, BeginList, CloseScope, CountParameter, MakeBinary, MakeBuiltinOffsetof, MakeCall, MakeCharacterConstant, MakeCompoundStatement, MakeConditional, MakeContextStatement, MakeDoStatement, MakeForPart, MakeForStatement, MakeIfStatement, MakeInitializerItem, MakeIntegerConstant, MakeLabelStatement, MakeLeaf, MakeMember, MakeNamed, MakeOver, MakeOverList, MakeOverTwo, MakePostfix, MakeSizeofType, MakeStringLiteral, MakeStringPiece, OpenScope, UseName}

abbrev pub is_expression_action : Action → Bool
is_expression_action BeginList = true
is_expression_action BeginAtNext = true
is_expression_action (Append role) = true
is_expression_action (MakeLeaf kind) = true
is_expression_action (MakeNamed kind) = true
is_expression_action (MakeOver kind role) = true
is_expression_action (MakeOverTwo kind role other) = true
is_expression_action (MakeOverList kind) = true
is_expression_action (MakeBinary kind role) = true
is_expression_action (MakePostfix kind) = true
is_expression_action (MakeMember kind) = true
is_expression_action CountParameter = true
is_expression_action OpenScope = true
is_expression_action CloseScope = true
is_expression_action MakeInitializerItem = true
is_expression_action MakeCompoundStatement = true
is_expression_action MakeLabelStatement = true
is_expression_action MakeIfStatement = true
is_expression_action MakeDoStatement = true
is_expression_action MakeForPart = true
is_expression_action MakeForStatement = true
is_expression_action MakeContextStatement = true
is_expression_action MakeConditional = true
is_expression_action MakeSizeofType = true
is_expression_action MakeCall = true
is_expression_action UseName = true
is_expression_action MakeIntegerConstant = true
is_expression_action MakeCharacterConstant = true
is_expression_action MakeStringPiece = true
is_expression_action MakeStringLiteral = true
is_expression_action MakeBuiltinOffsetof = true
is_expression_action action = false
