-- Each action that has a shape makes its node, by computation.
use Rattle.std.proofs.Common.{refl}
use Rattle.vocabulary.specs.declared.action.Action.TheVariants.{Append, AppendAttribute, AppendDeclarator, AppendLeadingAttributes, AwaitBody, BeginAtNext, BeginDeclarators, BeginList, BindDeclarator, BindEnumerator, BindFurtherDeclarator, BindParameter, CloseParameters, CloseScope, CountParameter, DeclareTag, DefineTag, JoinAnyParts, JoinParts, JoinSuffixes, MakeAttributeList, MakeBlockSpecifiers, MakeCharacterConstant, MakeContextStatement, MakeFileSpecifiers, MakeForPart, MakeIntegerConstant, MakeMemberSpecifiers, MakeOptionalDeclarator, MakeParameterSpecifiers, MakeParenthesizedAttributes, MakeStringLiteral, MakeTypeName, MakeTypeNameSpecifiers, NoteFunctionDeclarator, OpenBody, OpenScope, RequireType, RequireTypeOrAttributes, UseName, UseTag, UseTypedefName, WithoutTag}
use Rattle.meaning_derivation.specs.laws.Shapes.{ShapesAreMade}

pub shapes_are_made : ShapesAreMade
shapes_are_made BeginList s = tt
shapes_are_made BeginAtNext s = tt
shapes_are_made (Append role) s = tt
shapes_are_made BeginDeclarators s = tt
shapes_are_made AppendDeclarator s = tt
shapes_are_made AppendLeadingAttributes s = tt
shapes_are_made BindDeclarator s = tt
shapes_are_made BindFurtherDeclarator s = tt
shapes_are_made NoteFunctionDeclarator s = tt
shapes_are_made AwaitBody s = tt
shapes_are_made MakeFileSpecifiers s = tt
shapes_are_made MakeBlockSpecifiers s = tt
shapes_are_made MakeMemberSpecifiers s = tt
shapes_are_made MakeParameterSpecifiers s = tt
shapes_are_made MakeTypeNameSpecifiers s = tt
shapes_are_made RequireType s = tt
shapes_are_made RequireTypeOrAttributes s = tt
shapes_are_made DeclareTag s = tt
shapes_are_made UseTypedefName s = tt
shapes_are_made DefineTag s = tt
shapes_are_made UseTag s = tt
shapes_are_made WithoutTag s = tt
shapes_are_made BindEnumerator s = tt
shapes_are_made MakeAttributeList s = tt
shapes_are_made AppendAttribute s = tt
shapes_are_made JoinParts s = tt
shapes_are_made JoinAnyParts s = tt
shapes_are_made JoinSuffixes s = tt
shapes_are_made MakeParenthesizedAttributes s = tt
shapes_are_made MakeOptionalDeclarator s = tt
shapes_are_made MakeTypeName s = tt
shapes_are_made CountParameter s = tt
shapes_are_made BindParameter s = tt
shapes_are_made CloseParameters s = tt
shapes_are_made OpenScope s = tt
shapes_are_made CloseScope s = tt
shapes_are_made OpenBody s = tt
shapes_are_made MakeForPart s = tt
shapes_are_made UseName s = tt
shapes_are_made MakeContextStatement s = tt
shapes_are_made MakeIntegerConstant s = tt
shapes_are_made MakeCharacterConstant s = tt
shapes_are_made MakeStringLiteral s = tt
-- each other one
shapes_are_made action s = refl
