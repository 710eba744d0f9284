-- Worked rows: directives of one file.
use Rattle.std.specs.Prelude.{◌≡◌, [], ◌∷◌, ◌++◌, map, replicate, codes}
use Rattle.vocabulary.specs.declared.error_kind.ErrorKind.TheVariants.{UnterminatedLiteral, UnterminatedConditional, ConditionalWithoutIf, ConditionalAfterElse, MalformedDirective, UnknownDirective, UnterminatedMacroCall, ErrorDirective, BadIfExpression}
use Rattle.meaning_preprocessing.specs.examples.Rows.{main_path, Yields, FailsWith, reply, replies, fails_at}

pub record LineRows : Type 0 where
  pub unread :
      replies (codes "#\n #\n#/* */\na" ∷ codes "#line foo\n#pragma \"a\" #\n#ident\n#warning x\na" ∷ []) ≡ Yields (codes "a") ∷ Yields (codes "a") ∷ []
  pub unknown :
      replies (codes "  /* */ # foo" ∷ codes "# 1 \"a\"" ∷ codes "#include_next <a>" ∷ codes "#elifdef X" ∷ [])
      ≡ fails_at UnknownDirective 1 9 ∷ replicate 3 (fails_at UnknownDirective 1 1)
  pub errors :
      replies (codes "#  error  a+b \"c d\" /* */ <e>" ∷ codes "#error" ∷ codes "%:error a" ∷ [])
      ≡ FailsWith ErrorDirective main_path 1 1 (codes " a + b \"c d\" < e >") ∷ FailsWith ErrorDirective main_path 1 1 []
      ∷ FailsWith ErrorDirective main_path 1 1 (codes " a") ∷ []
  -- the tokens of a file come before its lines
  pub literals :
      replies (codes "#error it's" ∷ codes "#if 0\nit's\n#endif" ∷ codes "#error a\n\"" ∷ [])
      ≡ fails_at UnterminatedLiteral 1 10 ∷ fails_at UnterminatedLiteral 2 3 ∷ fails_at UnterminatedLiteral 2 1 ∷ []
  -- a line that isn't a directive is text, and so is a `#` within one
  pub text :
      replies (codes "a # b" ∷ codes "a\n  b  c" ∷ []) ≡ Yields (codes "a # b") ∷ Yields (codes "a b c") ∷ []

pub record GroupRows : Type 0 where
  pub skipped :
      reply (codes "#if 0\n#foo\n#error x\n#define 1\n#include\n#if (\n#elif )\n#else\n#endif\n#ifdef\n#endif\nb\n#endif\na") ≡ Yields (codes "a")
  pub without_if :
      replies (codes "#else" ∷ codes "#elif 1" ∷ codes "#endif" ∷ []) ≡ replicate 3 (fails_at ConditionalWithoutIf 1 1)
  -- the outermost one is told
  pub unterminated : reply (codes "#if 1\n #if 1\n#else") ≡ fails_at UnterminatedConditional 1 1
  pub after_else :
      replies
      (codes "#if 1\n#else\n#else\n#endif" ∷ codes "#if 1\n#else\n#elif 1\n#endif" ∷ codes "#if 0\n#if 1\n#else\n#else\n#endif\n#endif" ∷ [])
      ≡ fails_at ConditionalAfterElse 3 1 ∷ fails_at ConditionalAfterElse 3 1 ∷ fails_at ConditionalAfterElse 4 1 ∷ []
  pub within_skipped : reply (codes "#if 0\n#if 1\n#else x\n#endif x\n#endif") ≡ Yields []
  pub nested :
      replies (codes "#if 0\n#if 0\n#else\na\n#endif\n#elif 1\nb\n#endif" ∷ codes "#if 1\n#if 1\n#endif\n#else\na\n#endif\nb" ∷ [])
      ≡ Yields (codes "b") ∷ Yields (codes "b") ∷ []
  pub tokens_behind :
      replies (codes "#if 1\n#else x\n#endif" ∷ codes "#if 1\n#endif x" ∷ codes "#if 0\n#endif x" ∷ []) ≡ replicate 3 (fails_at MalformedDirective 2 1)
  pub behind_a_taken_part :
      reply (codes "#if 1\na\n#elif (\nb\n#elif\nc\n#else\nd\n#endif") ≡ Yields (codes "a")
  pub one_part :
      replies (codes "#if 0\na\n#elif 1\nb\n#else\nc\n#endif\nd" ∷ codes "#if 0\na\n#elif 0\nb\n#else\nc\n#endif\nd" ∷ [])
      ≡ Yields (codes "b d") ∷ Yields (codes "c d") ∷ []
  pub nothing_behind :
      replies (codes "#if 0\n#elif\n#endif" ∷ codes "#if\n#endif" ∷ []) ≡ fails_at BadIfExpression 2 1 ∷ fails_at BadIfExpression 1 1 ∷ []
  pub built_in_names :
      reply (codes "#ifdef __FILE__\na\n#endif\n#undef __FILE__\n#ifdef __FILE__\nb\n#endif") ≡ Yields (codes "a b")
  pub order_of_errors :
      replies (codes "#else x" ∷ codes "#if 1\n#else\n#else x\n#endif" ∷ []) ≡ fails_at ConditionalWithoutIf 1 1 ∷ fails_at ConditionalAfterElse 3 1 ∷ []

-- Each directive ends a list of text lines.
pub record TextRows : Type 0 where
  pub open_calls :
      replies
      (map (λ text. codes "#define f(x) x\n" ++ text)
      (codes "f(\n#error b" ∷ codes "f(1\n#define g\n)" ∷ codes "f(1\n#pragma x\n)" ∷ codes "f(1\n#if 0\n#endif\n)" ∷ []))
      ≡ replicate 4 (fails_at UnterminatedMacroCall 2 1)
  pub no_call_over_a_directive : reply (codes "#define f(a) <a>\nf\n#\n(1)") ≡ Yields (codes "f ( 1 )")
  pub call_over_lines : reply (codes "#define f(a) <a>\nf\n(\n1)") ≡ Yields (codes "< 1 >")
  -- at the end of a file the text comes first
  pub text_before_the_end : reply (codes "#define f(a) a\n#if 1\nf(") ≡ fails_at UnterminatedMacroCall 3 1
