-- Worked rows: definitions and conditions of one file.
use Rattle.std.specs.Prelude.{◌≡◌, ℕ, List, [], ◌∷◌, ◌++◌, map, replicate, codes}
use Rattle.vocabulary.specs.declared.error_kind.ErrorKind.TheVariants.{MalformedDirective, MacroRedefined, BadMacroDefinition, WrongNumberOfMacroArguments, UnterminatedMacroCall, BadPaste, BadIfExpression, DivisionByZeroInIf}
use Rattle.std.specs.List.{concat}
use Rattle.vocabulary.specs.Words.{in_a_line}
use Rattle.vocabulary.specs.declared.words.TheConstants.{PREDEFINED_MACROS}
use Rattle.meaning_macros.specs.Macros.{Definition}
use Rattle.meaning_preprocessing.specs.Unit.{first_definitions}
use Rattle.meaning_preprocessing.specs.examples.Rows.{main_path, Shown, Yields, FailsWith, reply, replies, fails_at, left_in, left_at}

-- what stands behind `#define` on one line
abbrev pub replies_to_definitions : List (List ℕ) → List Shown
replies_to_definitions texts = map (λ text. reply (codes "#define " ++ text)) texts

pub record DefinitionRows : Type 0 where
  pub malformed :
      replies
      (codes "#define" ∷ codes "#define 1" ∷ codes "#define \"a\"" ∷ codes "#undef" ∷ codes "#undef 1" ∷ codes "#undef X 1" ∷ codes "#ifdef"
      ∷ codes "#ifdef X Y\n#endif" ∷ codes "#ifndef X Y\n#endif" ∷ [])
      ≡ replicate 9 (fails_at MalformedDirective 1 1)
  pub bad_names_and_bodies :
      replies_to_definitions
      (codes "defined 1" ∷ codes "__VA_ARGS__ 1" ∷ codes "X __VA_ARGS__" ∷ codes "X ##" ∷ codes "X ## a" ∷ codes "f(a...) __VA_ARGS__"
      ∷ codes "f(a) #" ∷ codes "f(a) #b" ∷ codes "f(a) # # a" ∷ codes "f(a) a ##" ∷ codes "f() #" ∷ codes "f(...) #a" ∷ [])
      ≡ replicate 12 (fails_at BadMacroDefinition 1 1)
  pub bad_lists :
      replies_to_definitions
      (codes "f(" ∷ codes "f(1)" ∷ codes "f(a,)" ∷ codes "f(,a)" ∷ codes "f(a a)" ∷ codes "f(a,a)" ∷ codes "f(a" ∷ codes "f(...,a)"
      ∷ codes "f(a..., b)" ∷ codes "f(a b...)" ∷ codes "f(__VA_ARGS__)" ∷ [])
      ≡ replicate 11 (fails_at BadMacroDefinition 1 1)
  pub odd :
      replies_to_definitions
      (codes "a # b\na" ∷ codes "d(x...) #x\nd(1,2)" ∷ codes "f(defined) defined\nf(1)" ∷ codes "X+1\nX" ∷ codes "f (a) a\nf"
      ∷ codes "f/**/(a) a\nf(1)" ∷ codes "f\\\n(a) <a>\nf(1)" ∷ codes "v(a, ...) a __VA_ARGS__\nv(1,2,3)" ∷ [])
      ≡ map Yields
      (codes "# b" ∷ codes "\"1,2\"" ∷ codes "1" ∷ codes "+ 1" ∷ codes "( a ) a" ∷ codes "( a ) a ( 1 )" ∷ codes "< 1 >" ∷ codes "1 2 , 3" ∷ [])
  pub redefined :
      replies (codes "#define X 1\n#define X 2" ∷ codes "#define X  a /* */ b \n#define X a\\\n\tb\nX" ∷ codes "#define X 1\n#undef Y\n#undef X\n#define X 2\nX" ∷ [])
      ≡ FailsWith MacroRedefined main_path 2 1 (codes "X") ∷ Yields (codes "a b") ∷ Yields (codes "2") ∷ []
  pub behind_the_line : reply (codes "X\n#define X 1\nX\n#undef X\nX") ≡ Yields (codes "X 1 X")
  pub faults :
      replies (codes "#define f(a) a\n f(1, 2)" ∷ codes "#define c(a, b) a ## b\n c(+, *)" ∷ [])
      ≡ fails_at WrongNumberOfMacroArguments 2 2 ∷ fails_at BadPaste 2 2 ∷ []
  -- the four entries and the three names that change are the table of predefined macros
  pub names_before_the_first_line :
      in_a_line PREDEFINED_MACROS
      ≡ concat (map (λ (definition : Definition). definition.name ++ codes " ") first_definitions) ++ codes "__FILE__ __LINE__ __COUNTER__ "
  pub predefined :
      replies (codes "__CHECKER__ __STDC__ __STDC_VERSION__ __LP64__ __GNUC__" ∷ codes "#define __STDC__ 2" ∷ codes "#define __STDC__ 1" ∷ codes "#undef __CHECKER__\n__CHECKER__" ∷ [])
      ≡ Yields (codes "1 1 201112L 1 __GNUC__") ∷ FailsWith MacroRedefined main_path 1 1 (codes "__STDC__") ∷ Yields []
      ∷ Yields (codes "__CHECKER__") ∷ []

pub record ConditionRows : Type 0 where
  pub bad_questions :
      replies (map (λ text. codes "#if " ++ text ++ codes "\n#endif") (codes "defined" ∷ codes "defined 1" ∷ codes "defined(X" ∷ codes "defined (X Y)" ∷ []))
      ≡ replicate 4 (fails_at BadIfExpression 1 1)
  pub questions :
      replies (codes "#if defined X || defined(__LINE__) && !defined ( Y )\na\n#endif" ∷ codes "#define X 0\n#if defined(X)\na\n#endif" ∷ [])
      ≡ Yields (codes "a") ∷ Yields (codes "a") ∷ []
  -- a `defined` that a macro makes is an identifier that is left
  pub made_questions :
      replies (codes "#define D defined\n#if D(X)\n#endif" ∷ codes "#define D defined\n#if D\nx\n#else\ny\n#endif" ∷ [])
      ≡ fails_at BadIfExpression 2 1 ∷ Yields (codes "y") ∷ []
  pub replaced :
      replies (codes "#define f(x) x\n#if f(defined f)\na\n#endif" ∷ codes "#define f(x) x\n#if f\nb\n#endif" ∷ codes "#define f(x) x\n#if 1 + f(1\n#endif" ∷ [])
      ≡ Yields (codes "a") ∷ Yields [] ∷ fails_at UnterminatedMacroCall 2 9 ∷ []
  pub numbers :
      replies (codes "#if __LINE__ == 1\na\n#endif" ∷ codes "#if __COUNTER__ == 0\na\n#endif\n__COUNTER__" ∷ []) ≡ Yields (codes "a") ∷ Yields (codes "a 1") ∷ []
  pub zero_divisors :
      replies (codes "#if 1\n#elif 1/0\n#endif\n#if 0\n#elif 1/0\n#endif" ∷ codes "#if 1 || 1/0\na\n#endif" ∷ codes "#if 1/0\n#endif" ∷ [])
      ≡ fails_at DivisionByZeroInIf 5 1 ∷ Yields (codes "a") ∷ fails_at DivisionByZeroInIf 1 1 ∷ []
  pub types :
      reply (codes "#if -1 > 0u\nint a;\n#elif defined X\nint b;\n#endif") ≡ Yields (codes "int a ;")

pub record LeftNameRows : Type 0 where
  pub each_line :
      left_in (codes "#if A || B\n#elif C\n#endif\n#if 1\n#elif D\n#endif\n#ifdef E\n#endif")
      ≡ left_at (codes "A") 1 5 ∷ left_at (codes "B") 1 10 ∷ left_at (codes "C") 2 7 ∷ []
  pub by_macros :
      left_in (codes "#define m x + y\n#if m + m\n#endif")
      ≡ left_at (codes "x") 2 5 ∷ left_at (codes "y") 2 5 ∷ left_at (codes "x") 2 9 ∷ left_at (codes "y") 2 9 ∷ []
  pub unevaluated : left_in (codes "#if 1 || A\n#endif") ≡ left_at (codes "A") 1 10 ∷ []
  pub keywords : left_in (codes "#if int\n#endif") ≡ left_at (codes "int") 1 5 ∷ []
