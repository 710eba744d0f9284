-- Worked examples: which specifiers stand together, where that is told, and which declarators have a body.
use Rattle.std.specs.Prelude.{◌≡◌, ℕ, zero, suc, ◌+◌, Bool, true, false, ◌||◌, ◌&&◌, not, nat_eq, List, [], ◌∷◌, ◌++◌, map, codes, if◌then◌else◌}
use Rattle.std.specs.List.{list_all, list_any}
use Rattle.vocabulary.specs.declared.error_kind.ErrorKind.TheVariants.{SyntaxError, BadDeclaration, ParameterWithoutType, FloatingType}
use Rattle.meaning_derivation.specs.State.{IsError}
use Rattle.meaning_derivation.specs.Specifiers.{SpecifierWord, WholeWord, CharWord, SignWord, ShortWord, LongWord, IntWord, TypeWords, NoType, type_with, is_bad_type, is_no_type}
use Rattle.meaning_derivation.specs.examples.Units.{Shown, IsTold, unit, is_read}

-- The sets of type words

-- each set of 6.7.2 p2 but the floating ones, where `signed` and `unsigned` are one word, and what stands alone is another
abbrev pub good_sets : List (List SpecifierWord)
good_sets =
    (WholeWord ∷ [])
    ∷ (CharWord ∷ []) ∷ (SignWord ∷ CharWord ∷ [])
    ∷ (ShortWord ∷ []) ∷ (SignWord ∷ ShortWord ∷ []) ∷ (ShortWord ∷ IntWord ∷ []) ∷ (SignWord ∷ ShortWord ∷ IntWord ∷ [])
    ∷ (IntWord ∷ []) ∷ (SignWord ∷ []) ∷ (SignWord ∷ IntWord ∷ [])
    ∷ (LongWord ∷ []) ∷ (SignWord ∷ LongWord ∷ []) ∷ (LongWord ∷ IntWord ∷ []) ∷ (SignWord ∷ LongWord ∷ IntWord ∷ [])
    ∷ (LongWord ∷ LongWord ∷ []) ∷ (SignWord ∷ LongWord ∷ LongWord ∷ []) ∷ (LongWord ∷ LongWord ∷ IntWord ∷ [])
    ∷ (SignWord ∷ LongWord ∷ LongWord ∷ IntWord ∷ []) ∷ []

abbrev pub type_words : List SpecifierWord
type_words = WholeWord ∷ CharWord ∷ SignWord ∷ ShortWord ∷ LongWord ∷ IntWord ∷ []

abbrev pub word_number : SpecifierWord → ℕ
word_number WholeWord = 0
word_number CharWord = 1
word_number SignWord = 2
word_number ShortWord = 3
word_number LongWord = 4
word_number word = 5

-- how often a word is among these
abbrev pub times : SpecifierWord → List SpecifierWord → ℕ
times word [] = 0
times word (other ∷ words) = (if nat_eq (word_number word) (word_number other) then 1 else 0) + times word words

-- the same words in some order
abbrev pub is_order_of : List SpecifierWord → List SpecifierWord → Bool
is_order_of words others = list_all (λ word. nat_eq (times word words) (times word others)) type_words

abbrev pub type_of_words : TypeWords → List SpecifierWord → TypeWords
type_of_words words [] = words
type_of_words words (word ∷ more) = type_of_words (type_with word words) more

abbrev pub is_good : TypeWords → Bool
is_good words = not (is_bad_type words || is_no_type words)

-- the words are a type exactly where they are one of the sets, in some order
abbrev pub is_judged_by_sets : List SpecifierWord → Bool
is_judged_by_sets words = same (is_good (type_of_words NoType words)) (list_any (is_order_of words) good_sets)
  where
    same : Bool → Bool → Bool
    same true other = other
    same false other = not other

-- each list of so many type words
abbrev pub words_of_length : ℕ → List (List SpecifierWord)
words_of_length zero = [] ∷ []
words_of_length (suc length) = before_each type_words (words_of_length length)
  where
    before_each : List SpecifierWord → List (List SpecifierWord) → List (List SpecifierWord)
    before_each [] lists = []
    before_each (word ∷ words) lists = map (λ list. word ∷ list) lists ++ before_each words lists

pub record SetExamples : Type 0 where
  pub one : list_all is_judged_by_sets (words_of_length 1) ≡ true
  pub two : list_all is_judged_by_sets (words_of_length 2) ≡ true
  pub three : list_all is_judged_by_sets (words_of_length 3) ≡ true
  pub four : list_all is_judged_by_sets (words_of_length 4) ≡ true

-- Where they are told

-- a declaration that is bad from the unit's first token on, told at that terminal
abbrev pub bad_until : (decided : ℕ) → Shown
bad_until decided = IsTold (IsError BadDeclaration) decided 0

pub record SpecifierExamples : Type 0 where
  -- when the token behind them is taken, and not if it can't stand there
  pub taken : unit (codes "short char x @") ≡ bad_until 2
  pub syntax : unit (codes "short char )") ≡ IsTold (IsError SyntaxError) 2 2
  pub word : unit (codes "short char double") ≡ IsTold (IsError FloatingType) 2 2
  -- no type, but for attributes alone
  pub none : unit (codes "x;") ≡ bad_until 0
  pub class_alone : unit (codes "static;") ≡ bad_until 1
  pub qualifier_alone : unit (codes "const;") ≡ bad_until 1
  pub function_alone : unit (codes "inline;") ≡ bad_until 1
  pub attributes : is_read (unit (codes "__attribute__((noderef));")) ≡ true
  pub attributes_of_name : unit (codes "__attribute__((noderef)) x;") ≡ bad_until 6
  -- a typedef name is a type, and there is no second one
  pub typedefs : is_read (unit (codes "typedef int t; const t; unsigned; long unsigned long int x;")) ≡ true
  pub typedef_and_word : unit (codes "typedef int t; t int x;") ≡ IsTold (IsError BadDeclaration) 6 4
  pub structure_and_word : unit (codes "struct s int x;") ≡ bad_until 3
  pub enumeration_and_word : unit (codes "enum e { A } int x;") ≡ bad_until 6
  pub typeof_and_word : unit (codes "typeof(int) int x;") ≡ bad_until 5
  -- one storage class; at file scope neither of a block's own
  pub classes : unit (codes "static extern int x;") ≡ bad_until 3
  pub class_twice : unit (codes "static static int x;") ≡ bad_until 3
  pub automatic : unit (codes "auto int x;") ≡ bad_until 2
  pub in_register : unit (codes "register int x;") ≡ bad_until 2
  pub block : is_read (unit (codes "void f(void) { auto int x; register int y; static int z; }")) ≡ true
  pub block_classes : unit (codes "void f(void) { auto register int x; }") ≡ IsTold (IsError BadDeclaration) 9 6

-- Word by word

abbrev pub is_bad : Shown → Bool
is_bad (IsTold (IsError BadDeclaration) decided stands) = true
is_bad shown = false

-- a type by itself has no other word beside it
abbrev pub stands_alone : List ℕ → Bool
stands_alone word =
    is_read (unit (word ++ codes " x;")) && (is_bad (unit (word ++ codes " int x;")) && is_bad (unit (word ++ codes " unsigned x;")))

-- the words of storage classes but `register`, and those of functions
abbrev pub classes_and_functions : List (List ℕ)
classes_and_functions =
    codes "typedef" ∷ codes "extern" ∷ codes "static" ∷ codes "auto" ∷ codes "inline" ∷ codes "_Noreturn" ∷ []

pub record WordExamples : Type 0 where
  pub whole :
      list_all stands_alone
      (codes "void" ∷ codes "_Bool" ∷ codes "struct s" ∷ codes "union u" ∷ codes "enum e { A }" ∷ codes "typeof(int)" ∷ codes "typeof(1)" ∷ [])
      ≡ true
  pub typedef_name : is_bad (unit (codes "typedef int t; t unsigned x;")) ≡ true
  pub signs : is_bad (unit (codes "signed unsigned x;")) ≡ true
  pub signed_words : is_read (unit (codes "signed char a; unsigned char b; signed short c; unsigned long d;")) ≡ true
  pub alone :
      list_all (λ word. is_bad (unit (word ++ codes ";")))
      (codes "register" ∷ codes "const" ∷ codes "volatile" ∷ codes "restrict" ∷ classes_and_functions)
      ≡ true
  pub parameters : list_all (λ word. is_bad (unit (codes "int f(" ++ word ++ codes " int a);"))) classes_and_functions ≡ true
  pub members : list_all (λ word. is_bad (unit (codes "struct s { " ++ word ++ codes " int a; };"))) (codes "register" ∷ classes_and_functions) ≡ true
  -- two of them at file scope: those of functions aren't classes
  pub functions : is_read (unit (codes "static inline _Noreturn void f(void);")) ≡ true
  pub qualified : is_read (unit (codes "static const volatile int x;")) ≡ true
  pub second_class : list_all (λ word. is_bad (unit (codes "static " ++ word ++ codes " int x;"))) (codes "typedef" ∷ codes "extern" ∷ codes "static" ∷ []) ≡ true

pub record PlaceExamples : Type 0 where
  -- parameters: no class but `register`, and no type goes before a bad class
  pub parameter : unit (codes "void f(static int x);") ≡ IsTold (IsError BadDeclaration) 5 3
  pub automatic_parameter : unit (codes "void f(auto int x);") ≡ IsTold (IsError BadDeclaration) 5 3
  pub inline_parameter : unit (codes "void f(inline int x);") ≡ IsTold (IsError BadDeclaration) 5 3
  pub register_parameter : is_read (unit (codes "void f(register int x);")) ≡ true
  pub typeless : unit (codes "int f(a) int a; { }") ≡ IsTold (IsError ParameterWithoutType) 3 3
  pub typeless_class : unit (codes "void f(static x);") ≡ IsTold (IsError ParameterWithoutType) 4 3
  pub without_tokens : unit (codes "int f(int,);") ≡ IsTold (IsError ParameterWithoutType) 5 5
  -- members and type names: no class at all
  pub member : unit (codes "struct s { static int a; };") ≡ IsTold (IsError BadDeclaration) 5 3
  pub register_member : unit (codes "struct s { register int a; };") ≡ IsTold (IsError BadDeclaration) 5 3
  pub member_of_no_type : unit (codes "struct s { : 3; };") ≡ IsTold (IsError BadDeclaration) 3 3
  pub qualifier_of_member : unit (codes "struct s { ; int; const; };") ≡ IsTold (IsError BadDeclaration) 7 6
  pub type_name : unit (codes "int x = sizeof(static int);") ≡ IsTold (IsError BadDeclaration) 7 5
  pub no_type_name : unit (codes "int x = _Alignof();") ≡ IsTold (IsError BadDeclaration) 5 5
  -- a type name declares nothing, which is told at its last token
  pub named_type_name : unit (codes "int x = sizeof(int y);") ≡ IsTold (IsError BadDeclaration) 6 6
  pub named_within : unit (codes "int x = sizeof(int (*f)(void));") ≡ IsTold (IsError BadDeclaration) 12 8
  pub nameless : is_read (unit (codes "int x = sizeof(int (*)(void));")) ≡ true

-- Bodies: the first declarator is a function's by itself, and no type's name
pub record FunctionExamples : Type 0 where
  pub object : unit (codes "int x { }") ≡ IsTold (IsError BadDeclaration) 2 2
  pub pointer : unit (codes "int (*f)(int a) { }") ≡ IsTold (IsError BadDeclaration) 9 9
  pub array : unit (codes "int f[2](int a) { }") ≡ IsTold (IsError BadDeclaration) 9 9
  pub typedef : unit (codes "typedef int f(void) { }") ≡ IsTold (IsError BadDeclaration) 6 6
  pub by_typedef : unit (codes "typedef int F(void); F f { }") ≡ IsTold (IsError BadDeclaration) 9 9
  pub in_parentheses : is_read (unit (codes "int ((f))(int a) { }")) ≡ true
  pub of_function : is_read (unit (codes "int f(int a)(int b) { }")) ≡ true
  pub pointer_to_function : is_read (unit (codes "int *f(void) { }")) ≡ true
  -- a later declarator has none
  pub later : unit (codes "int x, f(void) { }") ≡ IsTold (IsError SyntaxError) 7 7
  pub behind_initializer : unit (codes "int f(void) = 1 { }") ≡ IsTold (IsError SyntaxError) 7 7
