-- Worked rows: files in files, the text of `<command>`, and limits.
use Rattle.std.specs.Prelude.{◌≡◌, ℕ, zero, suc, ◌+◌, ◌*◌, ◌^◌, decimal, List, [], ◌∷◌, ◌++◌, map, replicate, codes}
use Rattle.vocabulary.specs.declared.error_kind.ErrorKind.TheVariants.{NoSuchFile, IncludeNotFound, UnterminatedComment, UnterminatedLiteral, UnterminatedConditional, ConditionalWithoutIf, MalformedDirective, UnknownDirective, MacroRedefined, UnterminatedMacroCall}
use Rattle.vocabulary.specs.declared.limit.LimitKind.TheVariants.{FileSize, AllFiles, IncludeDepth, MacroReplacements, MacroTokens, UnitTokens}
use Rattle.meaning_conditions.specs.plain.Reading.{answer_of}
use Rattle.meaning_preprocessing.specs.Unit.{Limits, unit_limits, unit_in}
use Rattle.meaning_preprocessing.specs.examples.Rows.{main_path, NamedText, files_of, unit_among, paths_in, Shown, Yields, FailsWith, Limited, reply_of_unit, plain_options, fails_at, reply, reply_among, reply_behind, reply_within}

-- `a.h` = `1`, `d/a.h` = `2`, `e/a.h` = `3`, `/x/a.h` = `4`, and two headers that ask for `a.h`
abbrev pub headers : List NamedText
headers =
    (codes "a.h", codes "1") ∷ (codes "d/a.h", codes "2") ∷ (codes "e/a.h", codes "3") ∷ (codes "/x/a.h", codes "4")
    ∷ (codes "d/b.h", codes "#include \"a.h\"") ∷ (codes "d/c.h", codes "#include <a.h>") ∷ []

-- with these headers
abbrev pub with_headers : List (List ℕ) → List ℕ → Shown
with_headers directories text = reply_among directories headers text

-- beside one header with this path and text
abbrev pub beside : List ℕ → List ℕ → List ℕ → Shown
beside path text main = reply_among [] ((path, text) ∷ []) main

-- of a file with another path
abbrev pub reply_of_path : List ℕ → List (List ℕ) → List NamedText → Shown
reply_of_path path directories entries =
    reply_of_unit (unit_in (record { options = record { directories = directories; command = [] }; files = files_of entries; value = answer_of; limits = unit_limits }) path)

pub record SearchRows : Type 0 where
  pub quoted_and_angled :
      with_headers [] (codes "#include \"a.h\"") ∷ with_headers (codes "d" ∷ codes "e" ∷ []) (codes "#include <a.h>")
      ∷ with_headers (codes "e/" ∷ codes "d" ∷ []) (codes "#include <a.h>") ∷ []
      ≡ Yields (codes "1") ∷ Yields (codes "2") ∷ Yields (codes "3") ∷ []
  pub nowhere :
      with_headers [] (codes "#include <a.h>") ∷ with_headers (codes "d" ∷ []) (codes "#include \"/y/a.h\"") ∷ with_headers [] (codes "#include \"d/../a.h\"") ∷ []
      ≡ FailsWith IncludeNotFound main_path 1 10 (codes "a.h") ∷ FailsWith IncludeNotFound main_path 1 10 (codes "/y/a.h")
      ∷ FailsWith IncludeNotFound main_path 1 10 (codes "d/../a.h") ∷ []
  pub beside_the_header :
      with_headers [] (codes "#include \"d/b.h\"") ∷ with_headers (codes "e" ∷ []) (codes "#include \"d/c.h\"") ∷ [] ≡ Yields (codes "2") ∷ Yields (codes "3") ∷ []
  pub from_the_root : with_headers [] (codes "#include </x/a.h>") ≡ Yields (codes "4")
  pub beside_the_file :
      reply_of_path (codes "e/t.c") [] ((codes "e/t.c", codes "#include \"a.h\"") ∷ headers)
      ∷ reply_of_path (codes "e/t.c") (codes "d" ∷ []) ((codes "e/t.c", codes "#include \"z.h\"") ∷ headers) ∷ []
      ≡ Yields (codes "3") ∷ FailsWith IncludeNotFound (codes "e/t.c") 1 10 (codes "z.h") ∷ []
  -- in quotation marks too, where the file has none beside it
  pub behind_the_file :
      reply_of_path (codes "e/t.c") (codes "d" ∷ []) ((codes "e/t.c", codes "#include \"c.h\"") ∷ headers)
      ∷ reply_of_path (codes "d/e/t.c") [] ((codes "d/e/t.c", codes "#include \"a.h\"") ∷ (codes "d/e/a.h", codes "5") ∷ headers) ∷ []
      ≡ Yields (codes "2") ∷ Yields (codes "5") ∷ []
  pub in_a_directory :
      reply_among (codes "d" ∷ []) ((codes "d/g.h", codes "#foo") ∷ []) (codes "#include <g.h>") ≡ FailsWith UnknownDirective (codes "d/g.h") 1 1 []
  pub no_file : reply_of_path (codes "no.c") [] headers ≡ FailsWith NoSuchFile (codes "no.c") 1 1 (codes "no.c")
  pub empty_names :
      map reply (codes "#include \"\"" ∷ codes "\n #include <>" ∷ [])
      ≡ FailsWith IncludeNotFound main_path 1 10 [] ∷ FailsWith IncludeNotFound main_path 2 11 [] ∷ []

pub record HeaderRows : Type 0 where
  pub by_macros :
      with_headers [] (codes "#define H \"a.h\"\n#include H")
      ∷ reply_among (codes "d" ∷ []) ((codes "d/a. h", codes "5") ∷ (codes "d/b.h", codes "6") ∷ headers) (codes "#define H <b. h>\n#define b a\n#include H")
      ∷ with_headers (codes "d" ∷ []) (codes "#define E\n#include E <a.h>") ∷ with_headers [] (codes "#define E\n#include E")
      ∷ with_headers [] (codes "#define H \"n.h\"\n#include  H") ∷ []
      ≡ Yields (codes "1") ∷ Yields (codes "2") ∷ Yields (codes "2") ∷ fails_at MalformedDirective 2 1
      ∷ FailsWith IncludeNotFound main_path 2 11 (codes "n.h") ∷ []
  pub no_header_by_macros :
      map (λ text. with_headers [] (codes "#define H " ++ text ++ codes "\n#include H")) (codes "\"a.h\" \"b\"" ∷ codes "<a.h> b" ∷ codes "L\"a.h\"" ∷ [])
      ≡ replicate 3 (fails_at MalformedDirective 2 1)
  pub no_header :
      map (with_headers [])
      (codes "#include" ∷ codes "#include <a.h> x" ∷ codes "#include \"a.h\" x" ∷ codes "#include <a" ∷ codes "#include 1" ∷ [])
      ≡ replicate 5 (fails_at MalformedDirective 1 1)
  pub escapes : beside (codes "a\\\"b") (codes "__FILE__") (codes "#include \"a\\\"b\"") ≡ Yields (codes "\"a\\\\\\\"b\"")

pub record FileRows : Type 0 where
  pub skipped_and_read :
      beside (codes "n.h") (codes "/*") (codes "#if 0\n#include \"n.h\"\n#endif") ∷ beside (codes "n.h") (codes "/*") (codes "#if 1\n#include \"n.h\"\n#endif") ∷ []
      ≡ Yields [] ∷ FailsWith UnterminatedComment (codes "n.h") 1 1 [] ∷ []
  pub names_and_lines :
      beside (codes "d/f.h") (codes "__FILE__ __LINE__") (codes "__FILE__\n#include \"d/f.h\"\n__FILE__ __LINE__")
      ≡ Yields (codes "\"t.c\" \"d/f.h\" 1 \"t.c\" 3")
  pub what_stays :
      beside (codes "c.h") (codes "__COUNTER__") (codes "#include \"c.h\"\n__COUNTER__") ∷ beside (codes "m.h") (codes "#define X y") (codes "#include \"m.h\"\nX") ∷ []
      ≡ Yields (codes "0 1") ∷ Yields (codes "y") ∷ []
  pub own_groups :
      beside (codes "g.h") (codes " #if 1") (codes "#include \"g.h\"\n#endif") ∷ beside (codes "g.h") (codes "#endif") (codes "#if 1\n#include \"g.h\"") ∷ []
      ≡ FailsWith UnterminatedConditional (codes "g.h") 1 2 [] ∷ FailsWith ConditionalWithoutIf (codes "g.h") 1 1 [] ∷ []
  pub own_text :
      map (λ text. beside (codes "g.h") text (codes "#define f(a) <a>\n#include \"g.h\"\n(1)")) (codes "f" ∷ codes "f(" ∷ [])
      ≡ Yields (codes "f ( 1 )") ∷ FailsWith UnterminatedMacroCall (codes "g.h") 1 1 [] ∷ []
  pub own_errors :
      map (λ text. beside (codes "g.h") text (codes "#include \"g.h\"")) (codes "\n#foo" ∷ codes "#error a\n\"" ∷ [])
      ≡ FailsWith UnknownDirective (codes "g.h") 2 1 [] ∷ FailsWith UnterminatedLiteral (codes "g.h") 2 1 [] ∷ []
  pub twice : beside (codes "h") (codes "1") (codes "#include \"h\"\n#include \"h\"") ≡ Yields (codes "1 1")
  pub numbers :
      paths_in (unit_among unit_limits plain_options ((codes "h", codes "1") ∷ (codes "k", codes "#include \"h\"") ∷ []) (codes "#include \"h\"\n#include \"k\"")).end
      ≡ main_path ∷ codes "h" ∷ codes "k" ∷ []
  pub itself : reply (codes "#ifndef X\n#define X\n#include \"t.c\"\n#endif\na") ≡ Yields (codes "a a")

pub record CommandRows : Type 0 where
  pub by_the_letter : reply_behind (codes "#define X a\\\n#define Y 1\n") (codes "X Y") ≡ Yields (codes "a # define Y 1 Y")
  pub errors :
      reply_behind (codes "#define X 1\n#define X 2\n") (codes "a") ∷ reply_behind (codes "#define X /*\n") (codes "a") ∷ []
      ≡ FailsWith MacroRedefined (codes "<command>") 2 1 (codes "X") ∷ FailsWith UnterminatedComment (codes "<command>") 1 11 [] ∷ []
  -- before the file is looked for
  pub before_a_missing_file :
      reply_of_unit
      (unit_in
      (record {
        options = record { directories = []; command = codes "#define X 1\n#define X 2\n" };
        files = files_of [];
        value = answer_of;
        limits = unit_limits;
      })
      main_path)
      ≡ FailsWith MacroRedefined (codes "<command>") 2 1 (codes "X")
  pub another_file :
      beside (codes "<command>") (codes "__FILE__ #") (codes "#include \"<command>\"\n#define Y 1") ≡ Yields (codes "\"<command>\" #")

-- h1.h, h2.h and so on
abbrev pub header_path : ℕ → List ℕ
header_path number = codes "h" ++ decimal number ++ codes ".h"

-- the header with this number, so many more, each of which is asked for by the one before, and what the last one has
abbrev pub headers_from : ℕ → ℕ → List ℕ → List NamedText
headers_from number zero last = (header_path number, last) ∷ []
headers_from number (suc count) last =
    (header_path number, codes "#include \"" ++ header_path (number + 1) ++ codes "\"") ∷ headers_from (number + 1) count last

-- of a file that asks for the first of two hundred headers
abbrev pub reply_to_headers : List ℕ → List NamedText → Shown
reply_to_headers last others = reply_among [] (headers_from 1 199 last ++ others) (codes "#include \"h1.h\"")

pub record DepthRows : Type 0 where
  pub deepest : reply_to_headers (codes "1") [] ≡ Yields (codes "1")
  pub too_deep : reply_to_headers (codes "#include \"no.h\"") ((codes "no.h", []) ∷ []) ≡ Limited IncludeDepth
  pub endless : reply (codes "#include \"t.c\"") ≡ Limited IncludeDepth
  pub missing_beyond : reply_to_headers (codes "#include \"no.h\"") [] ≡ FailsWith IncludeNotFound (codes "h200.h") 1 10 (codes "no.h")

-- small numbers in place of those that hold
abbrev pub small : Limits
small = record { file_size = 30; all_files = 59; include_depth = 2; replacements = 3; made_tokens = 6; unit_tokens = 4 }

-- of `t.c` alone
abbrev pub small_reply : List ℕ → Shown
small_reply text = reply_within small [] text

-- so many spaces
abbrev pub spaces : ℕ → List ℕ
spaces count = replicate count 32

-- `t.c` asks for the first of three headers, and each for the next
abbrev pub reply_to_chain : List NamedText → Shown
reply_to_chain last =
    reply_within small ((codes "1.h", codes "#include \"2.h\"") ∷ (codes "2.h", codes "#include \"3.h\"") ∷ last) (codes "#include \"1.h\"")

pub record LimitRows : Type 0 where
  pub numbers_that_hold :
      (unit_limits.file_size ≡ 8 * 2 ^ 20) × (unit_limits.all_files ≡ 8 * unit_limits.file_size)
      × (unit_limits.made_tokens ≡ 4 * unit_limits.replacements) × (unit_limits.replacements ≡ 2 * unit_limits.unit_tokens)
      × (unit_limits.unit_tokens ≡ 2 * 10 ^ 6)
  pub one_size : map small_reply (spaces 30 ∷ spaces 31 ∷ []) ≡ Yields [] ∷ Limited FileSize ∷ []
  -- a file counts each time
  pub all_sizes :
      map (λ count. reply_within small ((codes "h", spaces count) ∷ []) (codes "#include \"h\"\n#include \"h\"")) (17 ∷ 18 ∷ 31 ∷ [])
      ≡ Yields [] ∷ Limited AllFiles ∷ Limited FileSize ∷ []
  -- a file is looked for and counted before it is too deep
  pub depth :
      map reply_to_chain ([] ∷ ((codes "3.h", []) ∷ []) ∷ ((codes "3.h", spaces 18) ∷ []) ∷ ((codes "3.h", spaces 31) ∷ []) ∷ [])
      ≡ FailsWith IncludeNotFound (codes "2.h") 1 10 (codes "3.h") ∷ Limited IncludeDepth ∷ Limited AllFiles ∷ Limited FileSize ∷ []
  pub not_too_deep : reply_within small ((codes "1.h", codes "#include \"2.h\"") ∷ (codes "2.h", codes "1") ∷ []) (codes "#include \"1.h\"") ≡ Yields (codes "1")
  pub endless : reply_within small [] (codes "#include \"t.c\"") ≡ Limited IncludeDepth
  -- before an error that comes later, and behind one that comes earlier
  pub unit_tokens :
      map small_reply
      (codes "a b c d" ∷ codes "a b c d e" ∷ codes "a b c d\n#foo" ∷ codes "a b c d e\n#foo" ∷ codes "#foo\na b c d e" ∷ [])
      ≡ Yields (codes "a b c d") ∷ Limited UnitTokens ∷ fails_at UnknownDirective 2 1 ∷ Limited UnitTokens ∷ fails_at UnknownDirective 1 1 ∷ []
  pub in_one_list :
      map small_reply (codes "#define f(a) a\nx x x x x f(" ∷ codes "#define f(a) a\nf( x x x x x" ∷ [])
      ≡ Limited UnitTokens ∷ fails_at UnterminatedMacroCall 2 1 ∷ []
  -- one budget for the unit, with the lines of `#if`
  pub replacements :
      map small_reply
      (codes "#define e 1\ne e\n#\ne" ∷ codes "#define e 1\ne e\n#\ne e" ∷ codes "#define e 1\n#if e-e\n#endif\ne e" ∷ codes "#define e 1 1 1\n#if e e e" ∷ [])
      ≡ Yields (codes "1 1 1") ∷ Limited MacroReplacements ∷ Limited MacroReplacements ∷ Limited MacroTokens ∷ []
