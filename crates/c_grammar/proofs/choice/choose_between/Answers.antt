-- What is chosen for a symbol by its own function is chosen for the symbol that is asked.
use Rattle.vocabulary.specs.declared.symbol.Symbol.TheVariants as symbols
use Rattle.c_grammar.proofs.Taken.{chosen-for}
use Rattle.c_grammar.proofs.choice.choose_between.Goals as goal

pub returns-in-ExternalDeclarations : goal.returns-in-ExternalDeclarations
returns-in-ExternalDeclarations c = chosen-for (λ items. items.now) c.args.symbol symbols.ExternalDeclarations c.args.next c.args.behind c.choose_external_declarations.result c.in-ExternalDeclarations.is c.choose_external_declarations.ensures

pub returns-in-ExternalDeclaration : goal.returns-in-ExternalDeclaration
returns-in-ExternalDeclaration c = chosen-for (λ items. items.now) c.args.symbol symbols.ExternalDeclaration c.args.next c.args.behind c.choose_external_declaration.result c.in-ExternalDeclaration.is c.choose_external_declaration.ensures

pub returns-in-ExternalDeclarators : goal.returns-in-ExternalDeclarators
returns-in-ExternalDeclarators c = chosen-for (λ items. items.now) c.args.symbol symbols.ExternalDeclarators c.args.next c.args.behind c.choose_external_declarators.result c.in-ExternalDeclarators.is c.choose_external_declarators.ensures

pub returns-in-BodyOrDeclarators : goal.returns-in-BodyOrDeclarators
returns-in-BodyOrDeclarators c = chosen-for (λ items. items.now) c.args.symbol symbols.BodyOrDeclarators c.args.next c.args.behind c.choose_body_or_declarators.result c.in-BodyOrDeclarators.is c.choose_body_or_declarators.ensures

pub returns-in-OptionalInitializer : goal.returns-in-OptionalInitializer
returns-in-OptionalInitializer c = chosen-for (λ items. items.now) c.args.symbol symbols.OptionalInitializer c.args.next c.args.behind c.choose_optional_initializer.result c.in-OptionalInitializer.is c.choose_optional_initializer.ensures

pub returns-in-FurtherDeclarators : goal.returns-in-FurtherDeclarators
returns-in-FurtherDeclarators c = chosen-for (λ items. items.now) c.args.symbol symbols.FurtherDeclarators c.args.next c.args.behind c.choose_further_declarators.result c.in-FurtherDeclarators.is c.choose_further_declarators.ensures

pub returns-in-Specifiers : goal.returns-in-Specifiers
returns-in-Specifiers c = chosen-for (λ items. items.now) c.args.symbol symbols.Specifiers c.args.next c.args.behind c.choose_specifiers.result c.in-Specifiers.is c.choose_specifiers.ensures

pub returns-in-SpecifiersBehindType : goal.returns-in-SpecifiersBehindType
returns-in-SpecifiersBehindType c = chosen-for (λ items. items.now) c.args.symbol symbols.SpecifiersBehindType c.args.next c.args.behind c.choose_specifiers_behind_type.result c.in-SpecifiersBehindType.is c.choose_specifiers_behind_type.ensures

pub returns-in-StorageClassSpecifier : goal.returns-in-StorageClassSpecifier
returns-in-StorageClassSpecifier c = chosen-for (λ items. items.now) c.args.symbol symbols.StorageClassSpecifier c.args.next c.args.behind c.choose_storage_class_specifier.result c.in-StorageClassSpecifier.is c.choose_storage_class_specifier.ensures

pub returns-in-TypeQualifier : goal.returns-in-TypeQualifier
returns-in-TypeQualifier c = chosen-for (λ items. items.now) c.args.symbol symbols.TypeQualifier c.args.next c.args.behind c.choose_type_qualifier.result c.in-TypeQualifier.is c.choose_type_qualifier.ensures

pub returns-in-TypeWord : goal.returns-in-TypeWord
returns-in-TypeWord c = chosen-for (λ items. items.now) c.args.symbol symbols.TypeWord c.args.next c.args.behind c.choose_type_word.result c.in-TypeWord.is c.choose_type_word.ensures

pub returns-in-StructOrUnionSpecifier : goal.returns-in-StructOrUnionSpecifier
returns-in-StructOrUnionSpecifier c = chosen-for (λ items. items.now) c.args.symbol symbols.StructOrUnionSpecifier c.args.next c.args.behind c.choose_struct_or_union_specifier.result c.in-StructOrUnionSpecifier.is c.choose_struct_or_union_specifier.ensures

pub returns-in-TagOrMembers : goal.returns-in-TagOrMembers
returns-in-TagOrMembers c = chosen-for (λ items. items.now) c.args.symbol symbols.TagOrMembers c.args.next c.args.behind c.choose_tag_or_members.result c.in-TagOrMembers.is c.choose_tag_or_members.ensures

pub returns-in-MembersBehindTag : goal.returns-in-MembersBehindTag
returns-in-MembersBehindTag c = chosen-for (λ items. items.now) c.args.symbol symbols.MembersBehindTag c.args.next c.args.behind c.choose_members_behind_tag.result c.in-MembersBehindTag.is c.choose_members_behind_tag.ensures

pub returns-in-MemberDeclarations : goal.returns-in-MemberDeclarations
returns-in-MemberDeclarations c = chosen-for (λ items. items.now) c.args.symbol symbols.MemberDeclarations c.args.next c.args.behind c.choose_member_declarations.result c.in-MemberDeclarations.is c.choose_member_declarations.ensures

pub returns-in-MemberDeclaration : goal.returns-in-MemberDeclaration
returns-in-MemberDeclaration c = chosen-for (λ items. items.now) c.args.symbol symbols.MemberDeclaration c.args.next c.args.behind c.choose_member_declaration.result c.in-MemberDeclaration.is c.choose_member_declaration.ensures

pub returns-in-MemberDeclarators : goal.returns-in-MemberDeclarators
returns-in-MemberDeclarators c = chosen-for (λ items. items.now) c.args.symbol symbols.MemberDeclarators c.args.next c.args.behind c.choose_member_declarators.result c.in-MemberDeclarators.is c.choose_member_declarators.ensures

pub returns-in-FurtherMemberDeclarators : goal.returns-in-FurtherMemberDeclarators
returns-in-FurtherMemberDeclarators c = chosen-for (λ items. items.now) c.args.symbol symbols.FurtherMemberDeclarators c.args.next c.args.behind c.choose_further_member_declarators.result c.in-FurtherMemberDeclarators.is c.choose_further_member_declarators.ensures

pub returns-in-MemberDeclarator : goal.returns-in-MemberDeclarator
returns-in-MemberDeclarator c = chosen-for (λ items. items.now) c.args.symbol symbols.MemberDeclarator c.args.next c.args.behind c.choose_member_declarator.result c.in-MemberDeclarator.is c.choose_member_declarator.ensures

pub returns-in-OptionalWidth : goal.returns-in-OptionalWidth
returns-in-OptionalWidth c = chosen-for (λ items. items.now) c.args.symbol symbols.OptionalWidth c.args.next c.args.behind c.choose_optional_width.result c.in-OptionalWidth.is c.choose_optional_width.ensures

pub returns-in-EnumSpecifier : goal.returns-in-EnumSpecifier
returns-in-EnumSpecifier c = chosen-for (λ items. items.now) c.args.symbol symbols.EnumSpecifier c.args.next c.args.behind c.choose_enum_specifier.result c.in-EnumSpecifier.is c.choose_enum_specifier.ensures

pub returns-in-TagOrEnumerators : goal.returns-in-TagOrEnumerators
returns-in-TagOrEnumerators c = chosen-for (λ items. items.now) c.args.symbol symbols.TagOrEnumerators c.args.next c.args.behind c.choose_tag_or_enumerators.result c.in-TagOrEnumerators.is c.choose_tag_or_enumerators.ensures

pub returns-in-EnumeratorsBehindTag : goal.returns-in-EnumeratorsBehindTag
returns-in-EnumeratorsBehindTag c = chosen-for (λ items. items.now) c.args.symbol symbols.EnumeratorsBehindTag c.args.next c.args.behind c.choose_enumerators_behind_tag.result c.in-EnumeratorsBehindTag.is c.choose_enumerators_behind_tag.ensures

pub returns-in-Enumerator : goal.returns-in-Enumerator
returns-in-Enumerator c = chosen-for (λ items. items.now) c.args.symbol symbols.Enumerator c.args.next c.args.behind c.choose_enumerator.result c.in-Enumerator.is c.choose_enumerator.ensures

pub returns-in-OptionalEnumeratorValue : goal.returns-in-OptionalEnumeratorValue
returns-in-OptionalEnumeratorValue c = chosen-for (λ items. items.now) c.args.symbol symbols.OptionalEnumeratorValue c.args.next c.args.behind c.choose_optional_enumerator_value.result c.in-OptionalEnumeratorValue.is c.choose_optional_enumerator_value.ensures

pub returns-in-FurtherEnumerators : goal.returns-in-FurtherEnumerators
returns-in-FurtherEnumerators c = chosen-for (λ items. items.now) c.args.symbol symbols.FurtherEnumerators c.args.next c.args.behind c.choose_further_enumerators.result c.in-FurtherEnumerators.is c.choose_further_enumerators.ensures

pub returns-in-EnumeratorsBehindComma : goal.returns-in-EnumeratorsBehindComma
returns-in-EnumeratorsBehindComma c = chosen-for (λ items. items.now) c.args.symbol symbols.EnumeratorsBehindComma c.args.next c.args.behind c.choose_enumerators_behind_comma.result c.in-EnumeratorsBehindComma.is c.choose_enumerators_behind_comma.ensures

pub returns-in-AttributeLists : goal.returns-in-AttributeLists
returns-in-AttributeLists c = chosen-for (λ items. items.now) c.args.symbol symbols.AttributeLists c.args.next c.args.behind c.choose_attribute_lists.result c.in-AttributeLists.is c.choose_attribute_lists.ensures

pub returns-in-AttributeList : goal.returns-in-AttributeList
returns-in-AttributeList c = chosen-for (λ items. items.now) c.args.symbol symbols.AttributeList c.args.next c.args.behind c.choose_attribute_list.result c.in-AttributeList.is c.choose_attribute_list.ensures

pub returns-in-FurtherAttributes : goal.returns-in-FurtherAttributes
returns-in-FurtherAttributes c = chosen-for (λ items. items.now) c.args.symbol symbols.FurtherAttributes c.args.next c.args.behind c.choose_further_attributes.result c.in-FurtherAttributes.is c.choose_further_attributes.ensures

pub returns-in-Attribute : goal.returns-in-Attribute
returns-in-Attribute c = chosen-for (λ items. items.now) c.args.symbol symbols.Attribute c.args.next c.args.behind c.choose_attribute.result c.in-Attribute.is c.choose_attribute.ensures

pub returns-in-AttributeArguments : goal.returns-in-AttributeArguments
returns-in-AttributeArguments c = chosen-for (λ items. items.now) c.args.symbol symbols.AttributeArguments c.args.next c.args.behind c.choose_attribute_arguments.result c.in-AttributeArguments.is c.choose_attribute_arguments.ensures

pub returns-in-BalancedTokens : goal.returns-in-BalancedTokens
returns-in-BalancedTokens c = chosen-for (λ items. items.now) c.args.symbol symbols.BalancedTokens c.args.next c.args.behind c.choose_balanced_tokens.result c.in-BalancedTokens.is c.choose_balanced_tokens.ensures

pub returns-in-TypeofSpecifier : goal.returns-in-TypeofSpecifier
returns-in-TypeofSpecifier c = chosen-for (λ items. items.now) c.args.symbol symbols.TypeofSpecifier c.args.next c.args.behind c.choose_typeof_specifier.result c.in-TypeofSpecifier.is c.choose_typeof_specifier.ensures

pub returns-in-TypeofOperand : goal.returns-in-TypeofOperand
returns-in-TypeofOperand c = chosen-for (λ items. items.now) c.args.symbol symbols.TypeofOperand c.args.next c.args.behind c.choose_typeof_operand.result c.in-TypeofOperand.is c.choose_typeof_operand.ensures

pub returns-in-TypeName : goal.returns-in-TypeName
returns-in-TypeName c = chosen-for (λ items. items.now) c.args.symbol symbols.TypeName c.args.next c.args.behind c.choose_type_name.result c.in-TypeName.is c.choose_type_name.ensures

pub returns-in-Declarator : goal.returns-in-Declarator
returns-in-Declarator c = chosen-for (λ items. items.now) c.args.symbol symbols.Declarator c.args.next c.args.behind c.choose_declarator.result c.in-Declarator.is c.choose_declarator.ensures

pub returns-in-Pointers : goal.returns-in-Pointers
returns-in-Pointers c = chosen-for (λ items. items.now) c.args.symbol symbols.Pointers c.args.next c.args.behind c.choose_pointers.result c.in-Pointers.is c.choose_pointers.ensures

pub returns-in-PointerQualifiers : goal.returns-in-PointerQualifiers
returns-in-PointerQualifiers c = chosen-for (λ items. items.now) c.args.symbol symbols.PointerQualifiers c.args.next c.args.behind c.choose_pointer_qualifiers.result c.in-PointerQualifiers.is c.choose_pointer_qualifiers.ensures

pub returns-in-DirectDeclarator : goal.returns-in-DirectDeclarator
returns-in-DirectDeclarator c = chosen-for (λ items. items.now) c.args.symbol symbols.DirectDeclarator c.args.next c.args.behind c.choose_direct_declarator.result c.in-DirectDeclarator.is c.choose_direct_declarator.ensures

pub returns-in-DeclaratorSuffixes : goal.returns-in-DeclaratorSuffixes
returns-in-DeclaratorSuffixes c = chosen-for (λ items. items.now) c.args.symbol symbols.DeclaratorSuffixes c.args.next c.args.behind c.choose_declarator_suffixes.result c.in-DeclaratorSuffixes.is c.choose_declarator_suffixes.ensures

pub returns-in-ArraySize : goal.returns-in-ArraySize
returns-in-ArraySize c = chosen-for (λ items. items.now) c.args.symbol symbols.ArraySize c.args.next c.args.behind c.choose_array_size.result c.in-ArraySize.is c.choose_array_size.ensures

pub returns-in-Parameters : goal.returns-in-Parameters
returns-in-Parameters c = chosen-for (λ items. items.now) c.args.symbol symbols.Parameters c.args.next c.args.behind c.choose_parameters.result c.in-Parameters.is c.choose_parameters.ensures

pub returns-in-FurtherParameters : goal.returns-in-FurtherParameters
returns-in-FurtherParameters c = chosen-for (λ items. items.now) c.args.symbol symbols.FurtherParameters c.args.next c.args.behind c.choose_further_parameters.result c.in-FurtherParameters.is c.choose_further_parameters.ensures

pub returns-in-ParameterOrEllipsis : goal.returns-in-ParameterOrEllipsis
returns-in-ParameterOrEllipsis c = chosen-for (λ items. items.now) c.args.symbol symbols.ParameterOrEllipsis c.args.next c.args.behind c.choose_parameter_or_ellipsis.result c.in-ParameterOrEllipsis.is c.choose_parameter_or_ellipsis.ensures

pub returns-in-Parameter : goal.returns-in-Parameter
returns-in-Parameter c = chosen-for (λ items. items.now) c.args.symbol symbols.Parameter c.args.next c.args.behind c.choose_parameter.result c.in-Parameter.is c.choose_parameter.ensures

pub returns-in-AnyDeclarator : goal.returns-in-AnyDeclarator
returns-in-AnyDeclarator c = chosen-for (λ items. items.now) c.args.symbol symbols.AnyDeclarator c.args.next c.args.behind c.choose_any_declarator.result c.in-AnyDeclarator.is c.choose_any_declarator.ensures

pub returns-in-Initializer : goal.returns-in-Initializer
returns-in-Initializer c = chosen-for (λ items. items.now) c.args.symbol symbols.Initializer c.args.next c.args.behind c.choose_initializer.result c.in-Initializer.is c.choose_initializer.ensures

pub returns-in-InitializerItems : goal.returns-in-InitializerItems
returns-in-InitializerItems c = chosen-for (λ items. items.now) c.args.symbol symbols.InitializerItems c.args.next c.args.behind c.choose_initializer_items.result c.in-InitializerItems.is c.choose_initializer_items.ensures

pub returns-in-FurtherInitializerItems : goal.returns-in-FurtherInitializerItems
returns-in-FurtherInitializerItems c = chosen-for (λ items. items.now) c.args.symbol symbols.FurtherInitializerItems c.args.next c.args.behind c.choose_further_initializer_items.result c.in-FurtherInitializerItems.is c.choose_further_initializer_items.ensures

pub returns-in-InitializerItem : goal.returns-in-InitializerItem
returns-in-InitializerItem c = chosen-for (λ items. items.now) c.args.symbol symbols.InitializerItem c.args.next c.args.behind c.choose_initializer_item.result c.in-InitializerItem.is c.choose_initializer_item.ensures

pub returns-in-Designator : goal.returns-in-Designator
returns-in-Designator c = chosen-for (λ items. items.now) c.args.symbol symbols.Designator c.args.next c.args.behind c.choose_designator.result c.in-Designator.is c.choose_designator.ensures

pub returns-in-FurtherDesignators : goal.returns-in-FurtherDesignators
returns-in-FurtherDesignators c = chosen-for (λ items. items.now) c.args.symbol symbols.FurtherDesignators c.args.next c.args.behind c.choose_further_designators.result c.in-FurtherDesignators.is c.choose_further_designators.ensures

pub returns-in-StaticAssertion : goal.returns-in-StaticAssertion
returns-in-StaticAssertion c = chosen-for (λ items. items.now) c.args.symbol symbols.StaticAssertion c.args.next c.args.behind c.choose_static_assertion.result c.in-StaticAssertion.is c.choose_static_assertion.ensures

pub returns-in-CompoundStatement : goal.returns-in-CompoundStatement
returns-in-CompoundStatement c = chosen-for (λ items. items.now) c.args.symbol symbols.CompoundStatement c.args.next c.args.behind c.choose_compound_statement.result c.in-CompoundStatement.is c.choose_compound_statement.ensures

pub returns-in-BlockItems : goal.returns-in-BlockItems
returns-in-BlockItems c = chosen-for (λ items. items.now) c.args.symbol symbols.BlockItems c.args.next c.args.behind c.choose_block_items.result c.in-BlockItems.is c.choose_block_items.ensures

pub returns-in-Declaration : goal.returns-in-Declaration
returns-in-Declaration c = chosen-for (λ items. items.now) c.args.symbol symbols.Declaration c.args.next c.args.behind c.choose_declaration.result c.in-Declaration.is c.choose_declaration.ensures

pub returns-in-Declarators : goal.returns-in-Declarators
returns-in-Declarators c = chosen-for (λ items. items.now) c.args.symbol symbols.Declarators c.args.next c.args.behind c.choose_declarators.result c.in-Declarators.is c.choose_declarators.ensures

pub returns-in-OptionalElse : goal.returns-in-OptionalElse
returns-in-OptionalElse c = chosen-for (λ items. items.now) c.args.symbol symbols.OptionalElse c.args.next c.args.behind c.choose_optional_else.result c.in-OptionalElse.is c.choose_optional_else.ensures

pub returns-in-ForInitialization : goal.returns-in-ForInitialization
returns-in-ForInitialization c = chosen-for (λ items. items.now) c.args.symbol symbols.ForInitialization c.args.next c.args.behind c.choose_for_initialization.result c.in-ForInitialization.is c.choose_for_initialization.ensures

pub returns-in-OptionalExpression : goal.returns-in-OptionalExpression
returns-in-OptionalExpression c = chosen-for (λ items. items.now) c.args.symbol symbols.OptionalExpression c.args.next c.args.behind c.choose_optional_expression.result c.in-OptionalExpression.is c.choose_optional_expression.ensures

pub returns-in-Expression : goal.returns-in-Expression
returns-in-Expression c = chosen-for (λ items. items.now) c.args.symbol symbols.Expression c.args.next c.args.behind c.choose_expression.result c.in-Expression.is c.choose_expression.ensures

pub returns-in-CommaTail : goal.returns-in-CommaTail
returns-in-CommaTail c = chosen-for (λ items. items.now) c.args.symbol symbols.CommaTail c.args.next c.args.behind c.choose_comma_tail.result c.in-CommaTail.is c.choose_comma_tail.ensures

pub returns-in-AssignmentExpression : goal.returns-in-AssignmentExpression
returns-in-AssignmentExpression c = chosen-for (λ items. items.now) c.args.symbol symbols.AssignmentExpression c.args.next c.args.behind c.choose_assignment_expression.result c.in-AssignmentExpression.is c.choose_assignment_expression.ensures

pub returns-in-AssignmentTail : goal.returns-in-AssignmentTail
returns-in-AssignmentTail c = chosen-for (λ items. items.now) c.args.symbol symbols.AssignmentTail c.args.next c.args.behind c.choose_assignment_tail.result c.in-AssignmentTail.is c.choose_assignment_tail.ensures

pub returns-in-ConditionalExpression : goal.returns-in-ConditionalExpression
returns-in-ConditionalExpression c = chosen-for (λ items. items.now) c.args.symbol symbols.ConditionalExpression c.args.next c.args.behind c.choose_conditional_expression.result c.in-ConditionalExpression.is c.choose_conditional_expression.ensures

pub returns-in-ConditionalTail : goal.returns-in-ConditionalTail
returns-in-ConditionalTail c = chosen-for (λ items. items.now) c.args.symbol symbols.ConditionalTail c.args.next c.args.behind c.choose_conditional_tail.result c.in-ConditionalTail.is c.choose_conditional_tail.ensures

pub returns-in-MiddleOperand : goal.returns-in-MiddleOperand
returns-in-MiddleOperand c = chosen-for (λ items. items.now) c.args.symbol symbols.MiddleOperand c.args.next c.args.behind c.choose_middle_operand.result c.in-MiddleOperand.is c.choose_middle_operand.ensures

pub returns-in-LogicalOrExpression : goal.returns-in-LogicalOrExpression
returns-in-LogicalOrExpression c = chosen-for (λ items. items.now) c.args.symbol symbols.LogicalOrExpression c.args.next c.args.behind c.choose_logical_or_expression.result c.in-LogicalOrExpression.is c.choose_logical_or_expression.ensures

pub returns-in-LogicalOrTail : goal.returns-in-LogicalOrTail
returns-in-LogicalOrTail c = chosen-for (λ items. items.now) c.args.symbol symbols.LogicalOrTail c.args.next c.args.behind c.choose_logical_or_tail.result c.in-LogicalOrTail.is c.choose_logical_or_tail.ensures

pub returns-in-LogicalAndExpression : goal.returns-in-LogicalAndExpression
returns-in-LogicalAndExpression c = chosen-for (λ items. items.now) c.args.symbol symbols.LogicalAndExpression c.args.next c.args.behind c.choose_logical_and_expression.result c.in-LogicalAndExpression.is c.choose_logical_and_expression.ensures

pub returns-in-LogicalAndTail : goal.returns-in-LogicalAndTail
returns-in-LogicalAndTail c = chosen-for (λ items. items.now) c.args.symbol symbols.LogicalAndTail c.args.next c.args.behind c.choose_logical_and_tail.result c.in-LogicalAndTail.is c.choose_logical_and_tail.ensures

pub returns-in-InclusiveOrExpression : goal.returns-in-InclusiveOrExpression
returns-in-InclusiveOrExpression c = chosen-for (λ items. items.now) c.args.symbol symbols.InclusiveOrExpression c.args.next c.args.behind c.choose_inclusive_or_expression.result c.in-InclusiveOrExpression.is c.choose_inclusive_or_expression.ensures

pub returns-in-InclusiveOrTail : goal.returns-in-InclusiveOrTail
returns-in-InclusiveOrTail c = chosen-for (λ items. items.now) c.args.symbol symbols.InclusiveOrTail c.args.next c.args.behind c.choose_inclusive_or_tail.result c.in-InclusiveOrTail.is c.choose_inclusive_or_tail.ensures

pub returns-in-ExclusiveOrExpression : goal.returns-in-ExclusiveOrExpression
returns-in-ExclusiveOrExpression c = chosen-for (λ items. items.now) c.args.symbol symbols.ExclusiveOrExpression c.args.next c.args.behind c.choose_exclusive_or_expression.result c.in-ExclusiveOrExpression.is c.choose_exclusive_or_expression.ensures

pub returns-in-ExclusiveOrTail : goal.returns-in-ExclusiveOrTail
returns-in-ExclusiveOrTail c = chosen-for (λ items. items.now) c.args.symbol symbols.ExclusiveOrTail c.args.next c.args.behind c.choose_exclusive_or_tail.result c.in-ExclusiveOrTail.is c.choose_exclusive_or_tail.ensures

pub returns-in-AndExpression : goal.returns-in-AndExpression
returns-in-AndExpression c = chosen-for (λ items. items.now) c.args.symbol symbols.AndExpression c.args.next c.args.behind c.choose_and_expression.result c.in-AndExpression.is c.choose_and_expression.ensures

pub returns-in-AndTail : goal.returns-in-AndTail
returns-in-AndTail c = chosen-for (λ items. items.now) c.args.symbol symbols.AndTail c.args.next c.args.behind c.choose_and_tail.result c.in-AndTail.is c.choose_and_tail.ensures

pub returns-in-EqualityExpression : goal.returns-in-EqualityExpression
returns-in-EqualityExpression c = chosen-for (λ items. items.now) c.args.symbol symbols.EqualityExpression c.args.next c.args.behind c.choose_equality_expression.result c.in-EqualityExpression.is c.choose_equality_expression.ensures

pub returns-in-EqualityTail : goal.returns-in-EqualityTail
returns-in-EqualityTail c = chosen-for (λ items. items.now) c.args.symbol symbols.EqualityTail c.args.next c.args.behind c.choose_equality_tail.result c.in-EqualityTail.is c.choose_equality_tail.ensures

pub returns-in-RelationalExpression : goal.returns-in-RelationalExpression
returns-in-RelationalExpression c = chosen-for (λ items. items.now) c.args.symbol symbols.RelationalExpression c.args.next c.args.behind c.choose_relational_expression.result c.in-RelationalExpression.is c.choose_relational_expression.ensures

pub returns-in-RelationalTail : goal.returns-in-RelationalTail
returns-in-RelationalTail c = chosen-for (λ items. items.now) c.args.symbol symbols.RelationalTail c.args.next c.args.behind c.choose_relational_tail.result c.in-RelationalTail.is c.choose_relational_tail.ensures

pub returns-in-ShiftExpression : goal.returns-in-ShiftExpression
returns-in-ShiftExpression c = chosen-for (λ items. items.now) c.args.symbol symbols.ShiftExpression c.args.next c.args.behind c.choose_shift_expression.result c.in-ShiftExpression.is c.choose_shift_expression.ensures

pub returns-in-ShiftTail : goal.returns-in-ShiftTail
returns-in-ShiftTail c = chosen-for (λ items. items.now) c.args.symbol symbols.ShiftTail c.args.next c.args.behind c.choose_shift_tail.result c.in-ShiftTail.is c.choose_shift_tail.ensures

pub returns-in-AdditiveExpression : goal.returns-in-AdditiveExpression
returns-in-AdditiveExpression c = chosen-for (λ items. items.now) c.args.symbol symbols.AdditiveExpression c.args.next c.args.behind c.choose_additive_expression.result c.in-AdditiveExpression.is c.choose_additive_expression.ensures

pub returns-in-AdditiveTail : goal.returns-in-AdditiveTail
returns-in-AdditiveTail c = chosen-for (λ items. items.now) c.args.symbol symbols.AdditiveTail c.args.next c.args.behind c.choose_additive_tail.result c.in-AdditiveTail.is c.choose_additive_tail.ensures

pub returns-in-MultiplicativeExpression : goal.returns-in-MultiplicativeExpression
returns-in-MultiplicativeExpression c = chosen-for (λ items. items.now) c.args.symbol symbols.MultiplicativeExpression c.args.next c.args.behind c.choose_multiplicative_expression.result c.in-MultiplicativeExpression.is c.choose_multiplicative_expression.ensures

pub returns-in-MultiplicativeTail : goal.returns-in-MultiplicativeTail
returns-in-MultiplicativeTail c = chosen-for (λ items. items.now) c.args.symbol symbols.MultiplicativeTail c.args.next c.args.behind c.choose_multiplicative_tail.result c.in-MultiplicativeTail.is c.choose_multiplicative_tail.ensures

pub returns-in-CastOperand : goal.returns-in-CastOperand
returns-in-CastOperand c = chosen-for (λ items. items.now) c.args.symbol symbols.CastOperand c.args.next c.args.behind c.choose_cast_operand.result c.in-CastOperand.is c.choose_cast_operand.ensures

pub returns-in-BracedInitializer : goal.returns-in-BracedInitializer
returns-in-BracedInitializer c = chosen-for (λ items. items.now) c.args.symbol symbols.BracedInitializer c.args.next c.args.behind c.choose_braced_initializer.result c.in-BracedInitializer.is c.choose_braced_initializer.ensures

pub returns-in-UnaryExpression : goal.returns-in-UnaryExpression
returns-in-UnaryExpression c = chosen-for (λ items. items.now) c.args.symbol symbols.UnaryExpression c.args.next c.args.behind c.choose_unary_expression.result c.in-UnaryExpression.is c.choose_unary_expression.ensures

pub returns-in-SizeofTypeEnd : goal.returns-in-SizeofTypeEnd
returns-in-SizeofTypeEnd c = chosen-for (λ items. items.now) c.args.symbol symbols.SizeofTypeEnd c.args.next c.args.behind c.choose_sizeof_type_end.result c.in-SizeofTypeEnd.is c.choose_sizeof_type_end.ensures

pub returns-in-PostfixTail : goal.returns-in-PostfixTail
returns-in-PostfixTail c = chosen-for (λ items. items.now) c.args.symbol symbols.PostfixTail c.args.next c.args.behind c.choose_postfix_tail.result c.in-PostfixTail.is c.choose_postfix_tail.ensures

pub returns-in-Arguments : goal.returns-in-Arguments
returns-in-Arguments c = chosen-for (λ items. items.now) c.args.symbol symbols.Arguments c.args.next c.args.behind c.choose_arguments.result c.in-Arguments.is c.choose_arguments.ensures

pub returns-in-FurtherArguments : goal.returns-in-FurtherArguments
returns-in-FurtherArguments c = chosen-for (λ items. items.now) c.args.symbol symbols.FurtherArguments c.args.next c.args.behind c.choose_further_arguments.result c.in-FurtherArguments.is c.choose_further_arguments.ensures

pub returns-in-PrimaryExpression : goal.returns-in-PrimaryExpression
returns-in-PrimaryExpression c = chosen-for (λ items. items.now) c.args.symbol symbols.PrimaryExpression c.args.next c.args.behind c.choose_primary_expression.result c.in-PrimaryExpression.is c.choose_primary_expression.ensures

pub returns-in-OffsetofDesignators : goal.returns-in-OffsetofDesignators
returns-in-OffsetofDesignators c = chosen-for (λ items. items.now) c.args.symbol symbols.OffsetofDesignators c.args.next c.args.behind c.choose_offsetof_designators.result c.in-OffsetofDesignators.is c.choose_offsetof_designators.ensures

pub returns-in-ParenthesizedExpression : goal.returns-in-ParenthesizedExpression
returns-in-ParenthesizedExpression c = chosen-for (λ items. items.now) c.args.symbol symbols.ParenthesizedExpression c.args.next c.args.behind c.choose_parenthesized_expression.result c.in-ParenthesizedExpression.is c.choose_parenthesized_expression.ensures

pub returns-in-StringLiterals : goal.returns-in-StringLiterals
returns-in-StringLiterals c = chosen-for (λ items. items.now) c.args.symbol symbols.StringLiterals c.args.next c.args.behind c.choose_string_literals.result c.in-StringLiterals.is c.choose_string_literals.ensures

pub returns-in-FurtherStringLiterals : goal.returns-in-FurtherStringLiterals
returns-in-FurtherStringLiterals c = chosen-for (λ items. items.now) c.args.symbol symbols.FurtherStringLiterals c.args.next c.args.behind c.choose_further_string_literals.result c.in-FurtherStringLiterals.is c.choose_further_string_literals.ensures
