-- Worked examples: the line of each error.
use Rattle.std.specs.Prelude.{◌≡◌, ℕ, List, [], ◌∷◌, codes, map}
use Rattle.vocabulary.specs.declared.error_kind.ErrorKind.{ErrorKind}
use Rattle.vocabulary.specs.declared.error_kind.ErrorKind.TheVariants as errors
use Rattle.meaning_warnings.specs.Errors.{error_lines}
use Rattle.meaning_warnings.specs.examples.Units.{a_place}

-- at one place, each with this word
abbrev pub lines_with : List ℕ → List ErrorKind → List (List ℕ)
lines_with word kinds = map (λ kind. error_lines kind (codes "t.c") a_place word) kinds

pub record ErrorExamples : Type 0 where
  -- of words, files and preprocessing
  pub preprocessing :
      lines_with [] (errors.UnterminatedComment ∷ errors.UnterminatedLiteral ∷ errors.UnterminatedConditional ∷ errors.ConditionalWithoutIf ∷ errors.ConditionalAfterElse ∷ errors.MalformedDirective ∷ errors.UnknownDirective ∷ errors.BadMacroDefinition ∷ errors.WrongNumberOfMacroArguments ∷ errors.UnterminatedMacroCall ∷ errors.BadPaste ∷ errors.BadIfExpression ∷ errors.DivisionByZeroInIf ∷ [])
      ≡ codes "t.c:3:28: error[3]: unterminated comment\n"
      ∷ codes "t.c:3:28: error[4]: unterminated literal\n"
      ∷ codes "t.c:3:28: error[5]: unterminated conditional\n"
      ∷ codes "t.c:3:28: error[6]: conditional without #if\n"
      ∷ codes "t.c:3:28: error[7]: conditional after #else\n"
      ∷ codes "t.c:3:28: error[8]: malformed directive\n"
      ∷ codes "t.c:3:28: error[9]: unknown directive\n"
      ∷ codes "t.c:3:28: error[11]: bad macro definition\n"
      ∷ codes "t.c:3:28: error[12]: wrong number of macro arguments\n"
      ∷ codes "t.c:3:28: error[13]: unterminated macro call\n"
      ∷ codes "t.c:3:28: error[14]: bad paste\n"
      ∷ codes "t.c:3:28: error[15]: bad #if expression\n"
      ∷ codes "t.c:3:28: error[16]: division by zero in #if\n"
      ∷ []
  -- of words, files and preprocessing, which name a word
  pub preprocessing_named :
      lines_with (codes "zz") (errors.NoSuchFile ∷ errors.IncludeNotFound ∷ errors.MacroRedefined ∷ [])
      ≡ codes "ksparse: error[1]: no such file: zz\n"
      ∷ codes "t.c:3:28: error[2]: include not found: zz\n"
      ∷ codes "t.c:3:28: error[10]: macro 'zz' redefined\n"
      ∷ []
  -- the tokens of a directive's line, a space before each
  pub error_directive :
      lines_with (codes " zz") (errors.ErrorDirective ∷ [])
      ≡ codes "t.c:3:28: error[17]: #error zz\n"
      ∷ []
  -- of syntax, names, attributes and literals
  pub syntax :
      lines_with [] (errors.BadAttribute ∷ errors.BadNumber ∷ errors.NumberTooLarge ∷ errors.BadEscape ∷ errors.EmptyCharacterConstant ∷ errors.BadDeclaration ∷ [])
      ≡ codes "t.c:3:28: error[23]: bad attribute\n"
      ∷ codes "t.c:3:28: error[24]: bad number\n"
      ∷ codes "t.c:3:28: error[25]: number too large\n"
      ∷ codes "t.c:3:28: error[26]: bad escape or character constant\n"
      ∷ codes "t.c:3:28: error[27]: empty character constant\n"
      ∷ codes "t.c:3:28: error[28]: bad declaration\n"
      ∷ []
  -- of syntax, names, attributes and literals, which name a word
  pub syntax_named :
      lines_with (codes "zz") (errors.SyntaxError ∷ errors.NotDeclared ∷ errors.Redeclared ∷ [])
      ≡ codes "t.c:3:28: error[20]: syntax error: unexpected 'zz'\n"
      ∷ codes "t.c:3:28: error[21]: 'zz' is not declared\n"
      ∷ codes "t.c:3:28: error[22]: 'zz' redeclared\n"
      ∷ []
  -- of what C has and the checker doesn't take
  pub unsupported :
      lines_with [] (errors.FloatingType ∷ errors.InlineAssembly ∷ errors.ParameterWithoutType ∷ errors.NestedFunction ∷ errors.ComputedGoto ∷ errors.GenericSelection ∷ errors.AtomicType ∷ errors.ComplexType ∷ errors.ThreadLocal ∷ errors.Int128 ∷ errors.LocalLabel ∷ errors.UniversalCharacterName ∷ errors.WideOrUtfLiteral ∷ errors.CaseRange ∷ errors.DesignatorRange ∷ errors.AutoType ∷ errors.Alignas ∷ errors.Builtin ∷ errors.PragmaOperator ∷ errors.QualifierInArrayBrackets ∷ [])
      ≡ codes "t.c:3:28: error[30]: unsupported: floating type\n"
      ∷ codes "t.c:3:28: error[31]: unsupported: inline assembly\n"
      ∷ codes "t.c:3:28: error[32]: unsupported: parameter without a type\n"
      ∷ codes "t.c:3:28: error[33]: unsupported: nested function\n"
      ∷ codes "t.c:3:28: error[34]: unsupported: computed goto\n"
      ∷ codes "t.c:3:28: error[35]: unsupported: _Generic\n"
      ∷ codes "t.c:3:28: error[36]: unsupported: _Atomic\n"
      ∷ codes "t.c:3:28: error[37]: unsupported: _Complex\n"
      ∷ codes "t.c:3:28: error[38]: unsupported: _Thread_local\n"
      ∷ codes "t.c:3:28: error[39]: unsupported: __int128\n"
      ∷ codes "t.c:3:28: error[40]: unsupported: __label__\n"
      ∷ codes "t.c:3:28: error[41]: unsupported: universal character name\n"
      ∷ codes "t.c:3:28: error[42]: unsupported: wide or UTF literal\n"
      ∷ codes "t.c:3:28: error[43]: unsupported: case range\n"
      ∷ codes "t.c:3:28: error[44]: unsupported: designator range\n"
      ∷ codes "t.c:3:28: error[45]: unsupported: __auto_type\n"
      ∷ codes "t.c:3:28: error[46]: unsupported: _Alignas\n"
      ∷ codes "t.c:3:28: error[47]: unsupported: builtin\n"
      ∷ codes "t.c:3:28: error[48]: unsupported: _Pragma\n"
      ∷ codes "t.c:3:28: error[49]: unsupported: qualifier in array brackets\n"
      ∷ []
  -- of scripts
  pub scripts :
      lines_with [] (errors.BadScriptLine ∷ [])
      ≡ codes "t.c:3:28: error[51]: bad script line\n"
      ∷ []
  -- of scripts, which name a word
  pub scripts_named :
      lines_with (codes "zz") (errors.NotPlain ∷ [])
      ≡ codes "t.c:3:28: error[52]: not plain: zz\n"
      ∷ []
  -- of constraints on expressions
  pub expressions :
      lines_with [] (errors.CannotDereference ∷ errors.CannotTakeAddress ∷ errors.NotModifiable ∷ errors.WrongOperandTypes ∷ errors.CalledObjectIsNoFunction ∷ errors.WrongNumberOfArguments ∷ errors.NoAggregate ∷ errors.VoidValueUsed ∷ errors.IncompleteType ∷ errors.IncompatibleTypes ∷ errors.BadCast ∷ [])
      ≡ codes "t.c:3:28: error[61]: cannot dereference this type\n"
      ∷ codes "t.c:3:28: error[62]: cannot take this address\n"
      ∷ codes "t.c:3:28: error[63]: not a modifiable place\n"
      ∷ codes "t.c:3:28: error[64]: wrong operand types\n"
      ∷ codes "t.c:3:28: error[65]: called object is not a function\n"
      ∷ codes "t.c:3:28: error[66]: wrong number of arguments\n"
      ∷ codes "t.c:3:28: error[68]: not a structure or union\n"
      ∷ codes "t.c:3:28: error[69]: void value used\n"
      ∷ codes "t.c:3:28: error[70]: incomplete type\n"
      ∷ codes "t.c:3:28: error[71]: incompatible types\n"
      ∷ codes "t.c:3:28: error[72]: bad cast\n"
      ∷ []
  -- of constraints on expressions, which name a word
  pub expressions_named :
      lines_with (codes "zz") (errors.NoSuchMember ∷ [])
      ≡ codes "t.c:3:28: error[67]: no such member 'zz'\n"
      ∷ []
  -- of constraints on statements
  pub statements :
      lines_with [] (errors.ConditionIsNotScalar ∷ errors.SwitchOnNoInteger ∷ errors.CaseLabelIsNotConstant ∷ errors.CaseValueUsedTwice ∷ errors.TwoDefaultLabels ∷ errors.LabelOutsideSwitch ∷ errors.JumpOutsideLoop ∷ errors.JumpIntoStatementExpression ∷ errors.ValueReturnedFromVoid ∷ errors.ReturnWithoutValue ∷ [])
      ≡ codes "t.c:3:28: error[73]: condition is not scalar\n"
      ∷ codes "t.c:3:28: error[74]: switch on a value that is not an integer\n"
      ∷ codes "t.c:3:28: error[75]: case label is not constant\n"
      ∷ codes "t.c:3:28: error[76]: case value used twice\n"
      ∷ codes "t.c:3:28: error[77]: two default labels\n"
      ∷ codes "t.c:3:28: error[78]: label outside switch\n"
      ∷ codes "t.c:3:28: error[79]: jump outside loop\n"
      ∷ codes "t.c:3:28: error[82]: jump into statement expression\n"
      ∷ codes "t.c:3:28: error[83]: value returned from void function\n"
      ∷ codes "t.c:3:28: error[84]: return without value\n"
      ∷ []
  -- of constraints on statements, which name a word
  pub statements_named :
      lines_with (codes "zz") (errors.LabelIsNotDefined ∷ errors.LabelDefinedTwice ∷ [])
      ≡ codes "t.c:3:28: error[80]: label 'zz' is not defined\n"
      ∷ codes "t.c:3:28: error[81]: label 'zz' defined twice\n"
      ∷ []
  -- of constraints on declarations
  pub declarations :
      lines_with [] (errors.VariableLengthArray ∷ errors.NegativeArraySize ∷ errors.BadElementType ∷ errors.BadResultType ∷ errors.BadBitField ∷ errors.RestrictedBitField ∷ errors.BitwiseOnNoInteger ∷ errors.EnumeratorIsNotConstant ∷ errors.EnumeratorOutOfRange ∷ errors.StaticAssertionFailed ∷ [])
      ≡ codes "t.c:3:28: error[85]: unsupported: variable-length array\n"
      ∷ codes "t.c:3:28: error[86]: negative array size\n"
      ∷ codes "t.c:3:28: error[87]: bad element type\n"
      ∷ codes "t.c:3:28: error[88]: bad result type\n"
      ∷ codes "t.c:3:28: error[89]: bad bit-field\n"
      ∷ codes "t.c:3:28: error[90]: unsupported: restricted bit-field\n"
      ∷ codes "t.c:3:28: error[91]: bitwise on a type that is not an integer\n"
      ∷ codes "t.c:3:28: error[92]: enumerator is not constant\n"
      ∷ codes "t.c:3:28: error[93]: enumerator out of range\n"
      ∷ codes "t.c:3:28: error[97]: static assertion failed\n"
      ∷ []
  -- of constraints on declarations, which name a word
  pub declarations_named :
      lines_with (codes "zz") (errors.MemberDeclaredTwice ∷ errors.TagRedeclared ∷ errors.DefinedTwice ∷ [])
      ≡ codes "t.c:3:28: error[94]: member 'zz' declared twice\n"
      ∷ codes "t.c:3:28: error[95]: tag 'zz' redeclared\n"
      ∷ codes "t.c:3:28: error[96]: 'zz' defined twice\n"
      ∷ []
  -- of constraints on initializers, and on typedefs
  pub initializers :
      lines_with [] (errors.ExtraInitializer ∷ errors.InitializerIsNotConstant ∷ errors.BadDesignator ∷ [])
      ≡ codes "t.c:3:28: error[98]: extra initializer\n"
      ∷ codes "t.c:3:28: error[99]: initializer is not constant\n"
      ∷ codes "t.c:3:28: error[100]: bad designator\n"
      ∷ []
  -- of constraints on initializers, and on typedefs, which name a word
  pub initializers_named :
      lines_with (codes "zz") (errors.TypedefHasAnotherType ∷ [])
      ≡ codes "t.c:3:28: error[101]: typedef 'zz' has another type\n"
      ∷ []
  -- where the file ends too early
  pub no_token : lines_with [] (errors.SyntaxError ∷ []) ≡ codes "t.c:3:28: error[20]: syntax error: unexpected end of file\n" ∷ []
