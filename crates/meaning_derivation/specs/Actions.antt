-- What each action does with what was read.
use Rattle.std.specs.Prelude.{ℕ, [], ◌∷◌}
use Rattle.vocabulary.specs.declared.error_kind.ErrorKind.TheVariants.{BadDeclaration}
use Rattle.vocabulary.specs.declared.role.Role.TheVariants.{Evaluated, Condition, TypePart}
use Rattle.vocabulary.specs.declared.node_kind.NodeKind.TheVariants as kinds
use Rattle.vocabulary.specs.declared.scope.NameSpace.TheVariants.{Ordinary, Tags}
use Rattle.vocabulary.specs.declared.scope.Bound.TheVariants.{Enumerator}
use Rattle.vocabulary.specs.declared.action.Action.{Action}
use Rattle.vocabulary.specs.declared.action.Action.TheVariants.{Append, AppendAttribute, AppendDeclarator, AppendLeadingAttributes, AwaitBody, BeginAtNext, BeginDeclarators, BeginList, BindDeclarator, BindEnumerator, BindFurtherDeclarator, BindParameter, CloseParameters, CloseScope, CountParameter, DeclareTag, DefineTag, JoinAnyParts, JoinParts, JoinSuffixes, MakeAttributeList, MakeBinary, MakeBlockSpecifiers, MakeBuiltinOffsetof, MakeCall, MakeCharacterConstant, MakeCompoundStatement, MakeConditional, MakeContextStatement, MakeDeclaration, MakeDeclarator, MakeDoStatement, MakeEnumerator, MakeFileSpecifiers, MakeForPart, MakeForStatement, MakeFunctionDefinition, MakeIfStatement, MakeInitializerItem, MakeIntegerConstant, MakeLabelStatement, MakeLeaf, MakeLoneDeclaration, MakeMember, MakeMemberDeclaration, MakeMemberSpecifiers, MakeNamed, MakeOptionalDeclarator, MakeOver, MakeOverList, MakeOverTwo, MakeParameter, MakeParameterSpecifiers, MakeParenthesizedAttributes, MakePostfix, MakeSizeofType, MakeStringLiteral, MakeStringPiece, MakeTagged, MakeTranslationUnit, MakeTypeName, MakeTypeNameSpecifiers, NoteFunctionDeclarator, OpenBody, OpenScope, RequireType, RequireTypeOrAttributes, UseName, UseTag, UseTypedefName, WithoutTag}
use Rattle.meaning_attributes.specs.Pieces.{in_parentheses}
use Rattle.meaning_attributes.specs.Contexts.{change_of}
use Rattle.meaning_attributes.specs.Attributes.{no_attributes}
use Rattle.meaning_attributes.specs.Items.{attribute_of}
use Rattle.meaning_attributes.specs.Reading.{attributes_read}
use Rattle.meaning_literals.specs.Integers.{integer_of}
use Rattle.meaning_literals.specs.Quoted.{char_of}
use Rattle.meaning_tree.specs.Trees.{Node, NoParts, with_parts}
use Rattle.meaning_scopes.specs.Scopes.{Opened, without_scope}
use Rattle.meaning_derivation.specs.Values.{Value, ListValue, value_at, token_of, text_of, parts_of, before, alone, stands_at, plain_tree, named_tree}
use Rattle.meaning_derivation.specs.State.{State, ActionOutcome, Goes, pushed, with_value, made}
use Rattle.meaning_derivation.specs.Storage.{noted_class, specifiers_tree}
use Rattle.meaning_derivation.specs.Specifiers.{Specified, specified_by, is_bad_in_file, is_bad_in_block, is_bad_member, is_refused_parameter, parameter_error, lacks_type, lacks_type_or_attributes, held_where}
use Rattle.meaning_derivation.specs.Lists.{appended, joined, suffixed, name_or, declarator_values, optional_declarator, attributes_list, leading_attributes, with_parameter, part_of_for, type_name}
use Rattle.meaning_derivation.specs.Scoping.{with_scopes, found_name, found_here, bound_as, declared, tag_at, tag_declared, place, with_first_keyword, name_used, typedef_named, parameter_bound, parts_below, function_noted, parameters_closed, without_closed, body_awaited, body_opened, takes_no_body}
use Rattle.meaning_derivation.specs.Literals.{constant_made, bad_piece, string_made}
use Rattle.meaning_derivation.specs.Contexts.{tokens_behind, context_made}
use Rattle.meaning_derivation.specs.Attributes.{tokens_from, listed_tokens, attributes_made, item_appended}

-- The value so far below the top of the stack. An action's comment names what it takes, the top on the right.
abbrev pub below : State → ℕ → Value
below s depth = value_at s.values depth

-- what the list of specifiers on top comes to
abbrev pub specified : State → Specified
specified s = specified_by (parts_of (below s 0))

-- so does the node of specifiers there
abbrev pub specified_tree : State → Specified
specified_tree s = specified_by (parts_below (below s 0))

abbrev pub act : Action → State → ActionOutcome
-- Lists, and places of tokens
act BeginList s = Goes (pushed (ListValue NoParts) s)
act BeginAtNext s = Goes (pushed (ListValue NoParts) (pushed (place s.next_token) s))
act (Append role) s = Goes (with_value s 2 (appended role (below s 1) (below s 0)))
-- Nodes that need nothing but what they are made of
act (MakeLeaf kind) s = made s 1 (plain_tree kind (token_of (below s 0)) NoParts)
act (MakeNamed kind) s = made s 2 (named_tree kind (token_of (below s 1)) (text_of (below s 0)) NoParts)
act (MakeOver kind role) s = made s 2 (plain_tree kind (token_of (below s 1)) (alone role (below s 0)))
act (MakeOverTwo kind role other) s =
    made s 3 (plain_tree kind (token_of (below s 2)) (before role (below s 1) (alone other (below s 0))))
act (MakeOverList kind) s = made s 2 (plain_tree kind (token_of (below s 1)) (parts_of (below s 0)))
act (MakeBinary kind role) s =
    made s 3 (plain_tree kind (token_of (below s 1)) (before role (below s 2) (alone role (below s 0))))
act (MakePostfix kind) s = made s 2 (plain_tree kind (token_of (below s 0)) (alone Evaluated (below s 1)))
act (MakeMember kind) s =
    made s 3 (named_tree kind (token_of (below s 1)) (text_of (below s 0)) (alone Evaluated (below s 2)))
-- Units, declarations and functions (6.7, 6.9)
act MakeTranslationUnit s = made s 1 (plain_tree kinds.TranslationUnit 0 (parts_of (below s 0)))
act MakeLoneDeclaration s = made s 1 (plain_tree kinds.Declaration (stands_at (below s 0)) (alone TypePart (below s 0)))
act MakeDeclaration s =
    made s 2 (plain_tree kinds.Declaration (stands_at (below s 1)) (before TypePart (below s 1) (parts_of (below s 0))))
act MakeFunctionDefinition s =
    made s 4
    (plain_tree kinds.FunctionDefinition (stands_at (below s 3))
    (before TypePart (below s 3) (before TypePart (below s 2) (with_parts (parts_of (below s 1)) (alone Evaluated (below s 0))))))
act BeginDeclarators s = Goes (with_value s 2 (ListValue (before Evaluated (below s 1) (parts_of (below s 0)))))
act AppendDeclarator s =
    Goes (with_value s 3 (ListValue (with_parts (parts_of (below s 2)) (before Evaluated (below s 1) (parts_of (below s 0))))))
act AppendLeadingAttributes s = leading_attributes s (below s 1) (parts_of (below s 0))
act BindDeclarator s = declared s (below s 0) (bound_as s (below s 1) (below s 0))
act BindFurtherDeclarator s = declared s (below s 0) (bound_as s (below s 2) (below s 0))
act NoteFunctionDeclarator s = Goes (function_noted s (below s 1))
act AwaitBody s =
    Goes (held_where (takes_no_body (noted_class (below s 2)) (below s 1)) BadDeclaration s.next_token (body_awaited s (below s 1)))
-- Specifiers (6.7.1 to 6.7.4)
act MakeFileSpecifiers s =
    made (held_where (is_bad_in_file (specified s)) BadDeclaration (token_of (below s 1)) (without_closed s)) 2
    (specifiers_tree (below s 1) (below s 0))
act MakeBlockSpecifiers s =
    made (held_where (is_bad_in_block (specified s)) BadDeclaration (token_of (below s 1)) s) 2 (specifiers_tree (below s 1) (below s 0))
act MakeMemberSpecifiers s =
    made (held_where (is_bad_member (specified s)) BadDeclaration (token_of (below s 1)) s) 2 (specifiers_tree (below s 1) (below s 0))
act MakeParameterSpecifiers s =
    made (held_where (is_refused_parameter (specified s)) (parameter_error (specified s)) (token_of (below s 1)) s) 2
    (specifiers_tree (below s 1) (below s 0))
act MakeTypeNameSpecifiers s =
    made (held_where (is_bad_member (specified s)) BadDeclaration (token_of (below s 1)) s) 2 (specifiers_tree (below s 1) (below s 0))
act RequireType s = Goes (held_where (lacks_type (specified_tree s)) BadDeclaration (stands_at (below s 0)) s)
act RequireTypeOrAttributes s =
    Goes (held_where (lacks_type_or_attributes (specified_tree s)) BadDeclaration (stands_at (below s 0)) s)
act DeclareTag s = tag_declared s (below s 0)
act UseTypedefName s = typedef_named s (found_name s Ordinary (text_of (below s 0))) (below s 0)
act DefineTag s = tag_at s (found_here (found_name s Tags (text_of (below s 0)))) (text_of (below s 0)) (token_of (below s 2))
act UseTag s = tag_at s (found_name s Tags (text_of (below s 0))) (text_of (below s 0)) (token_of (below s 2))
act WithoutTag s = Goes (with_first_keyword (pushed (place (token_of (below s 1))) s) (token_of (below s 1)))
act (MakeTagged kind) s =
    made s 5
    (Node kind (token_of (below s 4)) (text_of (below s 2)) (token_of (below s 1)) (with_parts (parts_of (below s 3)) (parts_of (below s 0))))
act MakeMemberDeclaration s =
    made s 2 (plain_tree kinds.MemberDeclaration (stands_at (below s 1)) (before TypePart (below s 1) (parts_of (below s 0))))
act MakeEnumerator s = made s 2 (named_tree kinds.Enumerator (token_of (below s 1)) (text_of (below s 1)) (parts_of (below s 0)))
act BindEnumerator s = declared s (below s 0) Enumerator
-- Attributes
act MakeAttributeList s = attributes_made s (below s 1) (below s 0) (attributes_read no_attributes (listed_tokens s (below s 1)))
act AppendAttribute s = item_appended s (below s 0) (attribute_of (tokens_from s (below s 0)))
-- Declarators and type names (6.7.6, 6.7.7)
act JoinParts s = declarator_values s 3 (below s 1) (joined (below s 2) (below s 0))
act JoinAnyParts s = declarator_values s 4 (name_or (below s 3) (below s 1)) (joined (below s 2) (below s 0))
act JoinSuffixes s = Goes (with_value s 2 (suffixed (below s 0) (below s 1)))
act MakeParenthesizedAttributes s = attributes_list s (below s 1) (parts_of (below s 0))
act MakeDeclarator s = made s 2 (named_tree kinds.Declarator (token_of (below s 1)) (text_of (below s 1)) (parts_of (below s 0)))
act MakeOptionalDeclarator s = optional_declarator s (below s 1) (below s 0)
act MakeTypeName s = type_name s (below s 1) (parts_of (below s 0))
act CountParameter s = with_parameter s (parts_of (below s 0))
act BindParameter s = parameter_bound s (below s 1) (parts_of (below s 0))
act MakeParameter s = made s 2 (plain_tree kinds.Parameter (stands_at (below s 1)) (before TypePart (below s 1) (parts_of (below s 0))))
act CloseParameters s = Goes (parameters_closed s (token_of (below s 1)))
-- Scopes (6.2.1)
act OpenScope s = Goes (with_scopes s (Opened ∷ s.scopes))
act CloseScope s = Goes (with_scopes s (without_scope s.scopes))
act OpenBody s = Goes (body_opened s)
-- Initializers and statements (6.7.9, 6.8)
act MakeInitializerItem s =
    made s 3 (plain_tree kinds.InitializerItem (token_of (below s 2)) (with_parts (parts_of (below s 1)) (alone Evaluated (below s 0))))
act MakeCompoundStatement s =
    made s 3 (Node kinds.CompoundStatement (token_of (below s 2)) [] (token_of (below s 0)) (parts_of (below s 1)))
act MakeLabelStatement s =
    made s 2 (named_tree kinds.LabelStatement (token_of (below s 1)) (text_of (below s 1)) (alone Evaluated (below s 0)))
act MakeIfStatement s =
    made s 3 (plain_tree kinds.IfStatement (token_of (below s 2)) (before Condition (below s 1) (parts_of (below s 0))))
act MakeDoStatement s =
    made s 4
    (Node kinds.DoStatement (token_of (below s 3)) [] (token_of (below s 1)) (before Evaluated (below s 2) (alone Condition (below s 0))))
act MakeForPart s = part_of_for s (parts_of (below s 1)) (below s 0)
act MakeForStatement s =
    made s 5
    (plain_tree kinds.ForStatement (token_of (below s 4))
    (before Evaluated (below s 3) (before Condition (below s 2) (before Evaluated (below s 1) (alone Evaluated (below s 0))))))
act MakeContextStatement s = context_made s (below s 0) (change_of (in_parentheses (tokens_behind s (below s 0))))
-- Expressions (6.5)
act MakeConditional s =
    made s 4
    (plain_tree kinds.Conditional (token_of (below s 2))
    (before Condition (below s 3) (with_parts (parts_of (below s 1)) (alone Evaluated (below s 0)))))
act MakeSizeofType s = made s 3 (plain_tree kinds.SizeofType (token_of (below s 2)) (alone TypePart (below s 0)))
act MakeCall s = made s 3 (plain_tree kinds.Call (token_of (below s 1)) (before Evaluated (below s 2) (parts_of (below s 0))))
act UseName s = name_used s (found_name s Ordinary (text_of (below s 0))) (below s 0)
act MakeIntegerConstant s = constant_made s kinds.IntegerConstant (below s 0) (integer_of (text_of (below s 0)))
act MakeCharacterConstant s = constant_made s kinds.CharacterConstant (below s 0) (char_of (text_of (below s 0)))
act MakeStringPiece s = made s 1 (named_tree kinds.StringPiece (token_of (below s 0)) (text_of (below s 0)) NoParts)
act MakeStringLiteral s = string_made s (below s 1) (below s 0) (bad_piece (parts_of (below s 0)))
act MakeBuiltinOffsetof s =
    made s 4
    (named_tree kinds.BuiltinOffsetof (token_of (below s 3)) (text_of (below s 1)) (before TypePart (below s 2) (parts_of (below s 0))))
