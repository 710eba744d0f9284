-- Worked rows: what stands behind `#define`, a text, and what it becomes.
use Rattle.std.specs.Prelude.{true, false, [], ◌∷◌, codes}
use Rattle.vocabulary.specs.declared.token_kind.TokenKind.TheVariants.{Identifier, Number, String, LeftBracket, RightBracket, Minus}
use Rattle.meaning_macros.specs.Expansion.{WrongArguments, OpenCall, BadPaste, MadeTokens, Failed, Passed}
use Rattle.meaning_macros.specs.examples.Rows.{Becomes, IsWrong, EndsWithin, BecomesTokens, budget, at_line}

-- Rescanning (6.10.3.4)
pub record RescanningExamples : Type 0 where
  pub nested_calls :
      Becomes (codes "f(a) a*g" ∷ codes "g(a) f(a)" ∷ []) (codes "f(2)(9)") (codes "2 * 9 * g")
  -- by the set of the name alone it would be `1 < 2 > f ( 3 )`
  pub closing_parenthesis :
      Becomes (codes "f(x) x g" ∷ codes "g(x) <x> f" ∷ []) (codes "f(1)(2)(3)") (codes "1 < 2 > 3 g")
  pub own_name :
      Becomes (codes "f(x) x f" ∷ []) (codes "f(1)(2)(3)") (codes "1 f ( 2 ) ( 3 )")
  pub circle :
      Becomes (codes "a b" ∷ codes "b a" ∷ []) (codes "a b") (codes "a b")
  pub argument_keeps_its_set :
      Becomes (codes "f(x) x" ∷ codes "z z[0]" ∷ []) (codes "f(z)") (codes "z [ 0 ]")
  pub rest_is_taken :
      Becomes (codes "AA BB" ∷ codes "BB AA" ∷ codes "f(x) x AA" ∷ []) (codes "f(AA)(BB)") (codes "AA AA ( BB )")
  pub from_an_argument :
      Becomes (codes "nil(x) x" ∷ codes "g_0(arg) G_0(arg)" ∷ codes "G_0(arg) g_0(arg)" ∷ []) (codes "nil(g_0)(1)") (codes "g_0 ( 1 )")
  pub named_as_argument :
      Becomes (codes "f(x) x(f)" ∷ []) (codes "f(f)(1)") (codes "f ( f ) ( 1 )")
  pub within_itself :
      Becomes (codes "f(x) x" ∷ []) (codes "f(f)(1) f(f(f)(1)) f(f(1))") (codes "f ( 1 ) f ( 1 ) 1")
  -- compilers that mark macros while they are replaced give `B ( )`
  pub with_the_rest :
      Becomes (codes "LP (" ∷ codes "A() B LP )" ∷ codes "B() A LP )" ∷ codes "SCAN(x) x" ∷ []) (codes "SCAN(SCAN(A()))") (codes "A ( )")
  pub begun_by_a_body :
      Becomes (codes "o f(" ∷ codes "f(a) <a>" ∷ []) (codes "o 1)") (codes "< 1 >")
  -- a name of a function-like macro that no `(` follows stays
  pub name_without_call :
      Becomes (codes "f(x) x" ∷ []) (codes "f f;f") (codes "f f ; f")
  pub over_a_line :
      Becomes (codes "f(x) [x]" ∷ []) (codes "f\n(\n1\n)") (codes "[ 1 ]")
  -- a keyword can name a macro, a number not
  pub keyword :
      Becomes (codes "if x" ∷ codes "x 1" ∷ []) (codes "if 1") (codes "1 1")

-- `##` (6.10.3.3)
pub record PastingExamples : Type 0 where
  pub unexpanded :
      Becomes (codes "c(a,b) a##b" ∷ codes "x y" ∷ codes "xc(a,b) c(a,b)" ∷ []) (codes "c(x,1) xc(x,1) c(,1) c(x,) c(,)") (codes "x1 y1 1 y")
  pub kinds :
      Becomes (codes "c(a,b) a##b" ∷ []) (codes "c(-,>)c(<,<=)c(.,5)c(L,\"a\")c(1,e)c(1.,5e+)") (codes "-> <<= .5 L\"a\" 1e 1.5e+")
  pub no_token :
      IsWrong (codes "c(a,b) a##b" ∷ []) (codes "c(+,*)") BadPaste
      × IsWrong (codes "c(a,b) a##b" ∷ []) (codes "c(/,/)") BadPaste
      × IsWrong (codes "c(a,b) a##b" ∷ []) (codes "c(.,.)") BadPaste
      × IsWrong (codes "c(a,b) a##b" ∷ []) (codes "c(\"a\",\"b\")") BadPaste
  pub chain :
      Becomes (codes "c(a,b,d) a##b##d" ∷ []) (codes "c(1,,2) c(,,) c(a b,c d,e f)") (codes "12 a bc de f")
  pub pasted_hides_nothing :
      Becomes (codes "f(x) g(x)" ∷ codes "g(x, y) x ## y" ∷ codes "pq p, q" ∷ []) (codes "f(pq)") (codes "p , q")
  pub digraphs :
      Becomes (codes "c(a,b) a %:%: b" ∷ []) (codes "c(x,1)") (codes "x1")
      × Becomes (codes "s(x) %:x" ∷ []) (codes "s(a)") (codes "\"a\"")
  pub of_signs :
      Becomes (codes "c(a,b) a##b" ∷ []) (codes "c(#,#) c(%:,%:)") (codes "## %:%:")
      × IsWrong (codes "c(a,b) a##b" ∷ []) (codes "c(%:,#)") BadPaste
      × IsWrong (codes "c(a,b) a##b" ∷ []) (codes "c(#,x)") BadPaste
  pub object_like :
      Becomes (codes "x x ## x" ∷ []) (codes "x") (codes "xx")
      × Becomes (codes "x x ## x" ∷ codes "xx x" ∷ []) (codes "x xx") (codes "x xx")
  pub nothing_between :
      Becomes (codes "c(a,b) a ## ## b" ∷ []) (codes "c(a,b)") (codes "ab")
  -- a parameter that stands beside `##` and apart from it is both
  pub beside_and_apart :
      Becomes (codes "c(a) a ## 1 a" ∷ codes "x y" ∷ []) (codes "c(x)") (codes "x1 y")
  -- the first bad one counts, behind the tokens before it
  pub first_bad :
      EndsWithin (budget 1 3 0) (codes "c(a,b) 1 2 a ## b x ## -" ∷ []) (codes "c(3 +,*)") (codes "") (Failed BadPaste (at_line 1 1))
      × EndsWithin (budget 1 2 0) (codes "c(a,b) 1 2 a ## b x ## -" ∷ []) (codes "c(3 +,*)") (codes "") (Passed MadeTokens)

-- `#` (6.10.3.2)
pub record StringizingExamples : Type 0 where
  pub escapes :
      Becomes (codes "s(x) #x" ∷ []) (codes "s( \"a\\n\"  b )") (codes "\"\\\"a\\\\n\\\" b\"")
      × Becomes (codes "s(x) #x" ∷ []) (codes "s()") (codes "\"\"")
      × Becomes (codes "s(x) #x" ∷ []) (codes "s(@ # ## <: \"a\")") (codes "\"@ # ## <: \\\"a\\\"\"")
  pub literals_alone :
      Becomes (codes "s(x) #x" ∷ []) (codes "s('\"' '\\'' L\"\\0\" \\ a\\b)") (codes "\"'\\\"' '\\\\'' L\\\"\\\\0\\\" \\ a\\b\"")
  pub spaces_of_bodies :
      Becomes (codes "q(x) #x" ∷ codes "s(x) q(x)" ∷ codes "e" ∷ []) (codes "s(a e b) s(e a) s(a e)") (codes "\"a b\" \"a\" \"a\"")
  pub spaces_of_calls :
      Becomes (codes "q(x) #x" ∷ codes "s(x) q(x)" ∷ codes "f(x)x" ∷ []) (codes "s(f(a)f( b ) f()c)") (codes "\"ab c\"")
  -- white space before a body is none of it, and white space before an empty part stays
  pub spaces_of_parameters :
      Becomes (codes "q(x) #x" ∷ codes "s(x) q(x)" ∷ codes "f(x)   x" ∷ codes "g(x, y) x y" ∷ []) (codes "s(-f(a)-g(,b)-g(a,)-(g(a,)))") (codes "\"-a- b-a -(a )\"")
  -- a chain has the white space of its first operand
  pub spaces_of_chains :
      Becomes (codes "q(x) #x" ∷ codes "s(x) q(x)" ∷ codes "c(a,b)a ## b" ∷ codes "d(a,b)- a##b" ∷ []) (codes "s(-c( x, y)-c(, y)-d(, y)-c( x p,q y))") (codes "\"-xy-y-- y-x pq y\"")
  -- a new-line in an argument is white space
  pub lines :
      Becomes (codes "s(x) #x" ∷ []) (codes "s(a\n\n b)") (codes "\"a b\"")
  -- a `##` that `##` makes joins nothing
  pub hash_hash :
      Becomes (codes "hash_hash # ## #" ∷ codes "mkstr(a) # a" ∷ codes "in_between(a) mkstr(a)" ∷ codes "join(c, d) in_between(c hash_hash d)" ∷ []) (codes "join(x, y)") (codes "\"x ## y\"")
  -- `#` joins nothing in an object-like macro
  pub object_like :
      Becomes (codes "h(x) #x" ∷ codes "o # x" ∷ []) (codes "o") (codes "# x")
  pub within_a_chain :
      Becomes (codes "w(x) L ## #x" ∷ []) (codes "w(a b)") (codes "L\"a b\"")

-- Variable arguments (6.10.3 p12), and the comma before them
pub record VariadicExamples : Type 0 where
  pub comma_goes :
      Becomes (codes "pr(fmt, ...) printk(fmt, ## __VA_ARGS__)" ∷ []) (codes "pr(\"a\") pr(\"b\", 1) pr(\"c\",)") (codes "printk ( \"a\" ) printk ( \"b\" , 1 ) printk ( \"c\" )")
  -- an argument that becomes empty isn't empty
  pub comma_stays :
      Becomes (codes "E" ∷ codes "v(a, ...) <a, ## __VA_ARGS__>" ∷ []) (codes "v(1, E)") (codes "< 1 , >")
  pub named :
      Becomes (codes "v(a, r...) <a, ## r> [r]" ∷ []) (codes "v(1) v(1, 2, 3) v(1,)") (codes "< 1 > [ ] < 1 , 2 , 3 > [ 2 , 3 ] < 1 > [ ]")
  pub goes_on :
      Becomes (codes "v(a, ...) a, ## __VA_ARGS__ ## z" ∷ []) (codes "v(1, 2) v(1)") (codes "1 , 2z 1 z")
  pub comma_is_pasted :
      Becomes (codes "v(a, ...) a ## , ## __VA_ARGS__" ∷ []) (codes "v(,2)") (codes ", 2")
      × IsWrong (codes "v(a, ...) a ## , ## __VA_ARGS__" ∷ []) (codes "v(1,2)") BadPaste
  -- `, ## x ## V` is no such form: its comma stays
  pub not_behind_another :
      Becomes (codes "v(x, ...) [, ## x ## __VA_ARGS__]" ∷ []) (codes "v()") (codes "[ , ]")
  pub no_comma :
      Becomes (codes "v(x, ...) x ## __VA_ARGS__" ∷ []) (codes "v(a) v(a,b) v(a,b,c)") (codes "a ab ab , c")
  pub alone :
      Becomes (codes "v(...) [__VA_ARGS__]" ∷ []) (codes "v() v(a) v(a, b)") (codes "[ ] [ a ] [ a , b ]")
  pub unexpanded :
      Becomes (codes "v(...) f(0, ## __VA_ARGS__)" ∷ codes "e 1" ∷ []) (codes "v(e)") (codes "f ( 0 , 1 )")
  pub space_of_rest :
      Becomes (codes "q(x) #x" ∷ codes "s(...) q((__VA_ARGS__))" ∷ codes "v(a, ...) (a, ## __VA_ARGS__) (a , ##__VA_ARGS__)" ∷ []) (codes "s(v(1,2))") (codes "\"((1, 2) (1 ,2))\"")
  -- a comma before another parameter is pasted
  pub not_the_last :
      IsWrong (codes "v(a, ...) , ## a" ∷ []) (codes "v(1)") BadPaste

-- `__FILE__`, `__LINE__` and `__COUNTER__` (6.10.8.1)
pub record PredefinedExamples : Type 0 where
  pub counter :
      Becomes (codes "f(x) x x" ∷ []) (codes "__COUNTER__ f(__COUNTER__) __COUNTER__") (codes "0 1 1 2")
  pub line :
      Becomes (codes "f(x) #x x" ∷ []) (codes "\nf(__LINE__ __COUNTER__) __COUNTER__") (codes "\"__LINE__ __COUNTER__\" 2 0 1")
  -- one that is expanded by itself has its own line; one that isn't is met at the place of the call
  pub line_of_argument :
      Becomes (codes "f(x) x" ∷ codes "v(x, ...) x, ## __VA_ARGS__" ∷ []) (codes "f(\n__LINE__) v(\n__LINE__,\n__LINE__)") (codes "2 3 , 2")
  pub line_of_body :
      Becomes (codes "l __LINE__" ∷ []) (codes "\n\nl") (codes "3")
  pub file :
      Becomes [] (codes "__FILE__") (codes "\"t.c\"")
  -- a definition of one goes before its number
  pub defined :
      Becomes (codes "__LINE__ 5" ∷ []) (codes "__LINE__") (codes "5")
      × Becomes (codes "__LINE__ __LINE__ 1" ∷ []) (codes "__LINE__") (codes "__LINE__ 1")

-- Calls that are wrong (6.10.3 p4)
pub record CallExamples : Type 0 where
  pub arguments :
      IsWrong (codes "f() 1" ∷ []) (codes "f(1)") WrongArguments
      × IsWrong (codes "f(a,b) 1" ∷ []) (codes "f()") WrongArguments
      × IsWrong (codes "f(a) 1" ∷ []) (codes "f(1,2)") WrongArguments
      × IsWrong (codes "f(a,b) 1" ∷ []) (codes "f(1)") WrongArguments
      × IsWrong (codes "f(a,b,...) 1" ∷ []) (codes "f(1)") WrongArguments
  pub open_goes_before_arguments :
      IsWrong (codes "f(a) 1" ∷ []) (codes "f(1,2") OpenCall
  pub never_closed :
      IsWrong (codes "f(a) 1" ∷ []) (codes "f(") OpenCall
      × IsWrong (codes "f(a) 1" ∷ []) (codes "f((1)") OpenCall
  pub none :
      Becomes (codes "f() 1" ∷ []) (codes "f() f( ) f(\n)") (codes "1 1 1")
  pub one_empty :
      Becomes (codes "f(a) [a]" ∷ codes "g(a,b) [a][b]" ∷ []) (codes "f() g(,)") (codes "[ ] [ ] [ ]")
  pub parenthesised :
      Becomes (codes "f(a) [a]" ∷ codes "g(a,b) [a][b]" ∷ []) (codes "f((1,2)) g((1,2),((3),4))") (codes "[ ( 1 , 2 ) ] [ ( 1 , 2 ) ] [ ( ( 3 ) , 4 ) ]")
  pub behind_tokens :
      EndsWithin (budget 0 0 0) (codes "f(a) a" ∷ []) (codes "x y f(1,2)") (codes "x y") (Failed WrongArguments (at_line 1 5))
  pub at_the_outermost_name :
      EndsWithin (budget 9 9 0) (codes "f(x) x" ∷ codes "g(a,b) a" ∷ []) (codes "\n\nf(\ng(1))") (codes "") (Failed WrongArguments (at_line 3 1))
      × EndsWithin (budget 9 9 0) (codes "f(x) x" ∷ codes "o f(" ∷ []) (codes "f(\no 1)") (codes "") (Failed OpenCall (at_line 1 1))
      × EndsWithin (budget 9 9 0) (codes "f(x) x" ∷ codes "c(a,b) a ## b" ∷ []) (codes "f(f(\nc(+,*)))") (codes "") (Failed BadPaste (at_line 1 1))
      × EndsWithin (budget 9 9 0) (codes "b g(1)" ∷ codes "g(a,b) a" ∷ []) (codes "x\n b") (codes "x") (Failed WrongArguments (at_line 2 2))

-- Places, white space and lines of what is put
pub record PlaceExamples : Type 0 where
  -- tokens that an expansion puts stand at its name, and begin no line
  pub call :
      BecomesTokens (codes "f(x) [ x]" ∷ []) (codes "\n f( a) b")
      (record { kind = LeftBracket; text = codes "["; at = at_line 2 2; space_before = true; line_start = false }
      ∷ record { kind = Identifier; text = codes "a"; at = at_line 2 2; space_before = true; line_start = false }
      ∷ record { kind = RightBracket; text = codes "]"; at = at_line 2 2; space_before = false; line_start = false }
      ∷ record { kind = Identifier; text = codes "b"; at = at_line 2 8; space_before = true; line_start = false }
      ∷ [])
  -- at the outermost name
  pub nested :
      BecomesTokens (codes "f(x) x" ∷ codes "g(x) f(x)" ∷ []) (codes "g(\nf(a))")
      (record { kind = Identifier; text = codes "a"; at = at_line 1 1; space_before = false; line_start = false }
      ∷ [])
  -- an argument on another line begins none there
  pub argument_line :
      BecomesTokens (codes "f(x) x" ∷ []) (codes "f(\na)")
      (record { kind = Identifier; text = codes "a"; at = at_line 1 1; space_before = false; line_start = false }
      ∷ [])
  -- a token that stays is as it was
  pub stays :
      BecomesTokens (codes "f(x) x" ∷ []) (codes "f\nb")
      (record { kind = Identifier; text = codes "f"; at = at_line 1 1; space_before = false; line_start = true }
      ∷ record { kind = Identifier; text = codes "b"; at = at_line 2 1; space_before = true; line_start = true }
      ∷ [])
  -- white space before an empty expansion goes to what follows
  pub empty :
      BecomesTokens (codes "e" ∷ []) (codes "[ e]")
      (record { kind = LeftBracket; text = codes "["; at = at_line 1 1; space_before = false; line_start = true }
      ∷ record { kind = RightBracket; text = codes "]"; at = at_line 1 4; space_before = true; line_start = false }
      ∷ [])
  pub pasted :
      BecomesTokens (codes "c(a,b) -a ## b" ∷ []) (codes "x c(- p, 1)")
      (record { kind = Identifier; text = codes "x"; at = at_line 1 1; space_before = false; line_start = true }
      ∷ record { kind = Minus; text = codes "-"; at = at_line 1 3; space_before = true; line_start = false }
      ∷ record { kind = Minus; text = codes "-"; at = at_line 1 3; space_before = false; line_start = false }
      ∷ record { kind = Identifier; text = codes "p1"; at = at_line 1 3; space_before = true; line_start = false }
      ∷ [])
  pub predefined :
      BecomesTokens (codes "c __COUNTER__" ∷ []) (codes " __FILE__\nc")
      (record { kind = String; text = codes "\"t.c\""; at = at_line 1 2; space_before = true; line_start = false }
      ∷ record { kind = Number; text = codes "0"; at = at_line 2 1; space_before = true; line_start = false }
      ∷ [])
      × BecomesTokens [] (codes "__LINE__\n__COUNTER__")
      (record { kind = Number; text = codes "1"; at = at_line 1 1; space_before = false; line_start = false }
      ∷ record { kind = Number; text = codes "0"; at = at_line 2 1; space_before = true; line_start = false }
      ∷ [])
  pub stringized :
      BecomesTokens (codes "s(x) [#x #x]" ∷ []) (codes "s(a)")
      (record { kind = LeftBracket; text = codes "["; at = at_line 1 1; space_before = false; line_start = false }
      ∷ record { kind = String; text = codes "\"a\""; at = at_line 1 1; space_before = false; line_start = false }
      ∷ record { kind = String; text = codes "\"a\""; at = at_line 1 1; space_before = true; line_start = false }
      ∷ record { kind = RightBracket; text = codes "]"; at = at_line 1 1; space_before = false; line_start = false }
      ∷ [])
