-- What a file can be refused for: each error with its number and its text.
use Rattle.std.specs.Prelude.{ℕ, List, [], ◌++◌, codes}
use Rattle.std.specs.Fmt.{decimal}
use Rattle.vocabulary.specs.declared.error_kind.ErrorKind.{ErrorKind}
use Rattle.vocabulary.specs.declared.error_kind.ErrorKind.TheVariants.{NoSuchFile, IncludeNotFound, UnterminatedComment, UnterminatedLiteral, UnterminatedConditional, ConditionalWithoutIf, ConditionalAfterElse, MalformedDirective, UnknownDirective, MacroRedefined, BadMacroDefinition, WrongNumberOfMacroArguments, UnterminatedMacroCall, BadPaste, BadIfExpression, DivisionByZeroInIf, ErrorDirective, SyntaxError, NotDeclared, Redeclared, BadAttribute, BadNumber, NumberTooLarge, BadEscape, EmptyCharacterConstant, BadDeclaration, FloatingType, InlineAssembly, ParameterWithoutType, NestedFunction, ComputedGoto, GenericSelection, AtomicType, ComplexType, ThreadLocal, Int128, LocalLabel, UniversalCharacterName, WideOrUtfLiteral, CaseRange, DesignatorRange, AutoType, Alignas, Builtin, PragmaOperator, QualifierInArrayBrackets, BadScriptLine, NotPlain, CannotDereference, CannotTakeAddress, NotModifiable, WrongOperandTypes, CalledObjectIsNoFunction, WrongNumberOfArguments, NoSuchMember, NoAggregate, VoidValueUsed, IncompleteType, IncompatibleTypes, BadCast, ConditionIsNotScalar, SwitchOnNoInteger, CaseLabelIsNotConstant, CaseValueUsedTwice, TwoDefaultLabels, LabelOutsideSwitch, JumpOutsideLoop, LabelIsNotDefined, LabelDefinedTwice, JumpIntoStatementExpression, ValueReturnedFromVoid, ReturnWithoutValue, VariableLengthArray, NegativeArraySize, BadElementType, BadResultType, BadBitField, RestrictedBitField, BitwiseOnNoInteger, EnumeratorIsNotConstant, EnumeratorOutOfRange, MemberDeclaredTwice, TagRedeclared, DefinedTwice, StaticAssertionFailed, ExtraInitializer, InitializerIsNotConstant, BadDesignator, TypedefHasAnotherType}

-- The number of an error, and its text, which is parted where it names a word.
pub record ErrorRow : Type 0 where
  pub number : ℕ
  pub front : List ℕ
  pub back : List ℕ

-- a text that names no word
abbrev pub plain : ℕ → List ℕ → ErrorRow
plain number text = record { number = number; front = text; back = [] }

-- a text that names a word between its two parts
abbrev pub named : ℕ → List ℕ → List ℕ → ErrorRow
named number front back = record { number = number; front = front; back = back }

-- the row of an error
abbrev pub error_row : ErrorKind → ErrorRow
error_row NoSuchFile = named 1 (codes "no such file: ") []
error_row IncludeNotFound = named 2 (codes "include not found: ") []
error_row UnterminatedComment = plain 3 (codes "unterminated comment")
error_row UnterminatedLiteral = plain 4 (codes "unterminated literal")
error_row UnterminatedConditional = plain 5 (codes "unterminated conditional")
error_row ConditionalWithoutIf = plain 6 (codes "conditional without #if")
error_row ConditionalAfterElse = plain 7 (codes "conditional after #else")
error_row MalformedDirective = plain 8 (codes "malformed directive")
error_row UnknownDirective = plain 9 (codes "unknown directive")
error_row MacroRedefined = named 10 (codes "macro '") (codes "' redefined")
error_row BadMacroDefinition = plain 11 (codes "bad macro definition")
error_row WrongNumberOfMacroArguments = plain 12 (codes "wrong number of macro arguments")
error_row UnterminatedMacroCall = plain 13 (codes "unterminated macro call")
error_row BadPaste = plain 14 (codes "bad paste")
error_row BadIfExpression = plain 15 (codes "bad #if expression")
error_row DivisionByZeroInIf = plain 16 (codes "division by zero in #if")
error_row ErrorDirective = named 17 (codes "#error") []
error_row SyntaxError = named 20 (codes "syntax error: unexpected ") []
error_row NotDeclared = named 21 (codes "'") (codes "' is not declared")
error_row Redeclared = named 22 (codes "'") (codes "' redeclared")
error_row BadAttribute = plain 23 (codes "bad attribute")
error_row BadNumber = plain 24 (codes "bad number")
error_row NumberTooLarge = plain 25 (codes "number too large")
error_row BadEscape = plain 26 (codes "bad escape or character constant")
error_row EmptyCharacterConstant = plain 27 (codes "empty character constant")
error_row BadDeclaration = plain 28 (codes "bad declaration")
error_row FloatingType = plain 30 (codes "unsupported: floating type")
error_row InlineAssembly = plain 31 (codes "unsupported: inline assembly")
error_row ParameterWithoutType = plain 32 (codes "unsupported: parameter without a type")
error_row NestedFunction = plain 33 (codes "unsupported: nested function")
error_row ComputedGoto = plain 34 (codes "unsupported: computed goto")
error_row GenericSelection = plain 35 (codes "unsupported: _Generic")
error_row AtomicType = plain 36 (codes "unsupported: _Atomic")
error_row ComplexType = plain 37 (codes "unsupported: _Complex")
error_row ThreadLocal = plain 38 (codes "unsupported: _Thread_local")
error_row Int128 = plain 39 (codes "unsupported: __int128")
error_row LocalLabel = plain 40 (codes "unsupported: __label__")
error_row UniversalCharacterName = plain 41 (codes "unsupported: universal character name")
error_row WideOrUtfLiteral = plain 42 (codes "unsupported: wide or UTF literal")
error_row CaseRange = plain 43 (codes "unsupported: case range")
error_row DesignatorRange = plain 44 (codes "unsupported: designator range")
error_row AutoType = plain 45 (codes "unsupported: __auto_type")
error_row Alignas = plain 46 (codes "unsupported: _Alignas")
error_row Builtin = plain 47 (codes "unsupported: builtin")
error_row PragmaOperator = plain 48 (codes "unsupported: _Pragma")
error_row QualifierInArrayBrackets = plain 49 (codes "unsupported: qualifier in array brackets")
error_row BadScriptLine = plain 51 (codes "bad script line")
error_row NotPlain = named 52 (codes "not plain: ") []
error_row CannotDereference = plain 61 (codes "cannot dereference this type")
error_row CannotTakeAddress = plain 62 (codes "cannot take this address")
error_row NotModifiable = plain 63 (codes "not a modifiable place")
error_row WrongOperandTypes = plain 64 (codes "wrong operand types")
error_row CalledObjectIsNoFunction = plain 65 (codes "called object is not a function")
error_row WrongNumberOfArguments = plain 66 (codes "wrong number of arguments")
error_row NoSuchMember = named 67 (codes "no such member '") (codes "'")
error_row NoAggregate = plain 68 (codes "not a structure or union")
error_row VoidValueUsed = plain 69 (codes "void value used")
error_row IncompleteType = plain 70 (codes "incomplete type")
error_row IncompatibleTypes = plain 71 (codes "incompatible types")
error_row BadCast = plain 72 (codes "bad cast")
error_row ConditionIsNotScalar = plain 73 (codes "condition is not scalar")
error_row SwitchOnNoInteger = plain 74 (codes "switch on a value that is not an integer")
error_row CaseLabelIsNotConstant = plain 75 (codes "case label is not constant")
error_row CaseValueUsedTwice = plain 76 (codes "case value used twice")
error_row TwoDefaultLabels = plain 77 (codes "two default labels")
error_row LabelOutsideSwitch = plain 78 (codes "label outside switch")
error_row JumpOutsideLoop = plain 79 (codes "jump outside loop")
error_row LabelIsNotDefined = named 80 (codes "label '") (codes "' is not defined")
error_row LabelDefinedTwice = named 81 (codes "label '") (codes "' defined twice")
error_row JumpIntoStatementExpression = plain 82 (codes "jump into statement expression")
error_row ValueReturnedFromVoid = plain 83 (codes "value returned from void function")
error_row ReturnWithoutValue = plain 84 (codes "return without value")
error_row VariableLengthArray = plain 85 (codes "unsupported: variable-length array")
error_row NegativeArraySize = plain 86 (codes "negative array size")
error_row BadElementType = plain 87 (codes "bad element type")
error_row BadResultType = plain 88 (codes "bad result type")
error_row BadBitField = plain 89 (codes "bad bit-field")
error_row RestrictedBitField = plain 90 (codes "unsupported: restricted bit-field")
error_row BitwiseOnNoInteger = plain 91 (codes "bitwise on a type that is not an integer")
error_row EnumeratorIsNotConstant = plain 92 (codes "enumerator is not constant")
error_row EnumeratorOutOfRange = plain 93 (codes "enumerator out of range")
error_row MemberDeclaredTwice = named 94 (codes "member '") (codes "' declared twice")
error_row TagRedeclared = named 95 (codes "tag '") (codes "' redeclared")
error_row DefinedTwice = named 96 (codes "'") (codes "' defined twice")
error_row StaticAssertionFailed = plain 97 (codes "static assertion failed")
error_row ExtraInitializer = plain 98 (codes "extra initializer")
error_row InitializerIsNotConstant = plain 99 (codes "initializer is not constant")
error_row BadDesignator = plain 100 (codes "bad designator")
error_row TypedefHasAnotherType = named 101 (codes "typedef '") (codes "' has another type")

-- the number by which users see an error
abbrev pub error_number : ErrorKind → ℕ
error_number kind = (error_row kind).number

-- `error[NUMBER]: TEXT`, with the word that the text names, if it names one
abbrev pub error_line : ErrorKind → (word : List ℕ) → List ℕ
error_line kind word = codes "error[" ++ decimal (error_row kind).number ++ codes "]: " ++ (error_row kind).front ++ word ++ (error_row kind).back
