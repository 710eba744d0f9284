-- Worked examples: small commands and files, with their answers.
use Rattle.std.specs.Prelude.{◌≡◌, ℕ, List, [], ◌∷◌, ◌++◌, codes, map, Option, Some, None}
use Rattle.vocabulary.specs.declared.class.Class.{Class}
use Rattle.vocabulary.specs.declared.class.Class.TheVariants.{AddressSpace, Bitwise, CastTruncate, Context, Decl, NonPointerNull, Shadow, StrictPrototypes, Undef}
use Rattle.vocabulary.specs.Rules.{default_classes}
use Rattle.meaning_outside.specs.Files.{FileMap}
use Rattle.meaning_conditions.specs.plain.Reading.{answer_of}
use Rattle.vocabulary.specs.declared.limit.LimitKind.TheVariants.{Parameters}
use Rattle.meaning_derivation.specs.State.{PassesLimit}
use Rattle.meaning_preprocessing.specs.Unit.{Ends, PreprocessedUnit, unit_in, unit_limits}
use Rattle.meaning_preprocessing.specs.examples.Rows.{main_path, files_of, plain_options, unit_among}
use Rattle.meaning_answer.specs.Reply.{Reply, Clean, Warned, Refused, Usage, ReadFault, WriteFault, NoMemory, Limit, status_of, silence, line}
use Rattle.meaning_answer.specs.Requests.{Options, Request, BadWord, MissingFile, Check, Expand, classes_on, request_of, switches_of}
use Rattle.meaning_answer.specs.Lines.{refusal_reply}
use Rattle.meaning_answer.specs.Answers.{expand_reply}
use Rattle.meaning_answer.specs.plain.Replying.{end_reply, reply_to}

-- how many steps within one another parsing an example may make
abbrev pub enough : ℕ
enough = 400

-- the reply to a check of a unit
abbrev pub checked_unit : List Class → PreprocessedUnit → Option Reply
checked_unit classes unit = end_reply enough classes unit.tokens unit.end

-- to a check of `t.c` where it has this text
abbrev pub checked : List ℕ → Option Reply
checked text = checked_unit default_classes (unit_among unit_limits plain_options [] text)

-- with the class of undefined identifiers on too
abbrev pub checked_undefined : List ℕ → Option Reply
checked_undefined text = checked_unit (Undef ∷ default_classes) (unit_among unit_limits plain_options [] text)

-- beside a header `k.h`
abbrev pub checked_with : List ℕ → List ℕ → Option Reply
checked_with header text = checked_unit default_classes (unit_among unit_limits plain_options ((codes "k.h", header) ∷ []) text)

-- where `t.c` isn't there
abbrev pub unit_without : PreprocessedUnit
unit_without = unit_in (record { options = plain_options; files = files_of []; value = answer_of; limits = unit_limits }) main_path

-- to the question for its tokens
abbrev pub expanded : List ℕ → Reply
expanded text = let unit = unit_among unit_limits plain_options [] text in expand_reply unit.tokens unit.end

-- this text on `out`
abbrev pub out_of : List ℕ → Reply
out_of text = record { out = text; err = []; ending = Clean }

-- no text
abbrev pub is_silent : Option Reply
is_silent = Some silence

-- this text on `err`
abbrev pub warns : List ℕ → Option Reply
warns text = Some (record { out = []; err = text; ending = Warned })

-- the line of an error
abbrev pub refuses : List ℕ → Option Reply
refuses text = Some (line Refused text)

-- or of words at fault, whatever the files hold
abbrev pub faults : List (List ℕ) → List ℕ → Type 0
faults words text = (files : FileMap) → reply_to 0 words files ≡ Some (line Usage text)

-- the flags of a pointer as kernel headers define them
abbrev pub user_macro : List ℕ
user_macro = codes "#define __user __attribute__((noderef, address_space(__user)))\n"

-- Each reply is worked out by hand from the rules.
pub record AnswerExamples : Type 0 where
  pub statuses :
      map status_of (Clean ∷ Warned ∷ Refused ∷ Usage ∷ ReadFault ∷ WriteFault ∷ NoMemory ∷ Limit ∷ [])
      ≡ 0 ∷ 1 ∷ 2 ∷ 3 ∷ 4 ∷ 5 ∷ 6 ∷ 7 ∷ []
  pub empty : checked [] ≡ is_silent
  pub definition : checked (codes "#define X 1") ≡ is_silent
  pub declaration : checked (codes "int x;") ≡ is_silent
  pub open_comment : checked (codes "/* a") ≡ refuses (codes "t.c:1:1: error[3]: unterminated comment")
  pub open_literal : checked (codes "char *s = \"a") ≡ refuses (codes "t.c:1:11: error[4]: unterminated literal")
  -- `L` is a token, so that the literal opens behind it
  pub prefixed : checked (codes "L\"a") ≡ refuses (codes "t.c:1:2: error[4]: unterminated literal")
  -- errors of preprocessing go before the form
  pub opening_first : checked (codes "x + 'a") ≡ refuses (codes "t.c:1:5: error[4]: unterminated literal")
  pub directive_first : checked (codes "x\n#error a  b") ≡ refuses (codes "t.c:2:1: error[17]: #error a b")
  pub comments : checked (codes "/* nothing */ // at all") ≡ is_silent
  pub declared_twice : checked (codes "extern int x; extern int x;") ≡ is_silent
  pub missing : checked_unit default_classes unit_without ≡ refuses (codes "ksparse: error[1]: no such file: t.c")
  pub no_header : checked (codes "#include \"no.h\"") ≡ refuses (codes "t.c:1:10: error[2]: include not found: no.h")
  pub header_error : checked_with (codes "\n #foo") (codes "x\n#include \"k.h\"") ≡ refuses (codes "k.h:2:2: error[9]: unknown directive")
  pub no_word : faults [] (codes "ksparse: missing file")
  pub option : faults (codes "-Wfoo" ∷ codes "t.c" ∷ []) (codes "ksparse: bad word: -Wfoo")
  pub command : faults (codes "eval" ∷ []) (codes "ksparse: bad word: eval")
  pub generator : faults (codes "gen" ∷ codes "4" ∷ []) (codes "ksparse: bad word: gen")
  pub second_file : faults (codes "t.c" ∷ codes "u.c" ∷ []) (codes "ksparse: bad word: u.c")
  pub space_lost :
      checked
      (codes "extern int *p;\n"
      ++ codes "extern int __attribute__((noderef, address_space(__user))) *u;\n"
      ++ codes "void f(void) { p = u; }\n")
      ≡ warns
      (codes "t.c:3:18: warning: incorrect type in assignment (different address spaces)\n"
      ++ codes "t.c:3:18:    expected int *\n"
      ++ codes "t.c:3:18:    got int noderef address_space(__user) *\n")
  -- a warning stands where the name of the macro stands
  pub lost_in_a_macro :
      checked (user_macro ++ codes "#define SET(a, b) a = b\nextern int *p;\nextern int __user *u;\nvoid f(void) { SET(p, u); }\n")
      ≡ warns
      (codes "t.c:5:16: warning: incorrect type in assignment (different address spaces)\n"
      ++ codes "t.c:5:16:    expected int *\n"
      ++ codes "t.c:5:16:    got int noderef address_space(__user) *\n")
  -- with the path of its own file
  pub lost_in_a_header :
      checked_with (codes "extern int __attribute__((noderef)) *u;\nvoid f(void) { p = u; }\n") (codes "extern int *p;\n#include \"k.h\"\n")
      ≡ warns
      (codes "k.h:2:18: warning: incorrect type in assignment (different address spaces)\n"
      ++ codes "k.h:2:18:    expected int *\n"
      ++ codes "k.h:2:18:    got int noderef *\n")
  pub undefined_off : checked (codes "#if FOO\n#endif") ≡ is_silent
  pub undefined_on : checked_undefined (codes "#if FOO\n#endif") ≡ warns (codes "t.c:1:5: warning: undefined preprocessor identifier 'FOO'\n")
  -- they come first, each at its own token or at the outermost macro name
  pub undefined_first :
      checked_undefined (codes "extern int __attribute__((noderef)) x;\nextern int y;\nvoid f(void) { x = y; }\n#define m a + b\n#if m\n#endif")
      ≡ warns
      (codes "t.c:5:5: warning: undefined preprocessor identifier 'a'\n"
      ++ codes "t.c:5:5: warning: undefined preprocessor identifier 'b'\n"
      ++ codes "t.c:3:16: warning: dereference of noderef expression\n")
  pub classes_off : checked_unit (Bitwise ∷ Context ∷ NonPointerNull ∷ []) (unit_among unit_limits plain_options [] (codes "extern int __attribute__((noderef)) x;\nextern int y;\nvoid f(void) { x = y; }\n")) ≡ is_silent

-- A device whose status is a little-endian number in a flagged structure, as kernel headers have them
abbrev pub device : List ℕ
device =
    codes "typedef unsigned int __attribute__((bitwise)) __le32;\n"
    ++ codes "struct regs { __le32 status; };\n"
    ++ codes "extern struct regs __attribute__((noderef, address_space(__iomem))) *regs;\n"

-- to a check of `t.c` with these classes
abbrev pub checked_for : List Class → List ℕ → Option Reply
checked_for classes text = checked_unit classes (unit_among unit_limits plain_options [] text)

-- with the classes that these words set
abbrev pub checked_by : (words : List (List ℕ)) → (text : List ℕ) → Option Reply
checked_by words text = checked_for (classes_on (switches_of words)) text

-- a pointer into another space, and a plain 0
abbrev pub spaces_and_null : List ℕ
spaces_and_null = codes "extern int *p; extern int __attribute__((address_space(2))) *u; void f(void) { p = u; p = 0; }"

-- what the rules and the constraints say of units of every form
pub record JudgementExamples : Type 0 where
  -- a rule on an access and one on operands, with the names of types
  pub device_read :
      checked (device ++ codes "int ready(void) { return regs->status == 1; }")
      ≡ warns
      (codes "t.c:4:30: warning: dereference of noderef expression\n"
      ++ codes "t.c:4:39: warning: operands of different restricted types\n"
      ++ codes "t.c:4:39:    left restricted __le32\n"
      ++ codes "t.c:4:39:    right int\n")
  -- a class that is off says nothing
  pub bitwise_off :
      checked_for (AddressSpace ∷ []) (device ++ codes "int ready(void) { return regs->status == 1; }")
      ≡ warns (codes "t.c:4:30: warning: dereference of noderef expression\n")
  pub silent : checked (codes "struct s { int a; struct s *next; };\nint sum(struct s *p) { int n = 0; while (p) { n += p->a; p = p->next; } return n; }") ≡ is_silent
  pub tagged :
      checked (codes "struct s { int a; } *p;\nextern struct s __attribute__((noderef)) *q;\nvoid f(void) { p = q; }")
      ≡ warns
      (codes "t.c:3:18: warning: incorrect type in assignment (different address spaces)\n"
      ++ codes "t.c:3:18:    expected struct s *\n"
      ++ codes "t.c:3:18:    got struct s noderef *\n")
  pub undeclared_off : checked (codes "int x;") ≡ is_silent
  pub undeclared_on : checked_for (Decl ∷ []) (codes "int x;") ≡ warns (codes "t.c:1:5: warning: symbol 'x' was not declared. Should it be static?\n")
  pub null_alone :
      checked_by (codes "-Wno-address-space" ∷ []) spaces_and_null ≡ warns (codes "t.c:1:89: warning: using plain integer as NULL pointer\n")
  -- the later word wins
  pub both :
      checked_by (codes "-Wno-address-space" ∷ codes "-Waddress-space" ∷ []) spaces_and_null
      ≡ warns
      (codes "t.c:1:82: warning: incorrect type in assignment (different address spaces)\n"
      ++ codes "t.c:1:82:    expected int *\n"
      ++ codes "t.c:1:82:    got int address_space(2) *\n"
      ++ codes "t.c:1:89: warning: using plain integer as NULL pointer\n")
  pub neither : checked_by (codes "-Wdecl" ∷ codes "-Wno-decl" ∷ []) (codes "int x;") ≡ is_silent
  pub truncated : checked_for (CastTruncate ∷ []) (codes "char c = (char)300;") ≡ warns (codes "t.c:1:10: warning: cast truncates constant (300 becomes 44)\n")
  -- in the order of tokens, whatever the classes are
  pub several_classes :
      checked_for (Shadow ∷ StrictPrototypes ∷ Decl ∷ []) (codes "int x;\nstatic int f() { int x = 1; return x; }")
      ≡ warns
      (codes "t.c:1:5: warning: symbol 'x' was not declared. Should it be static?\n"
      ++ codes "t.c:2:13: warning: empty parameter list taken as (void)\n"
      ++ codes "t.c:2:22: warning: symbol 'x' shadows an earlier one\n")
  pub undefined_first :
      checked_for (Decl ∷ Undef ∷ []) (codes "int x;\n#if FOO\n#endif\nint y;")
      ≡ warns
      (codes "t.c:2:5: warning: undefined preprocessor identifier 'FOO'\n"
      ++ codes "t.c:1:5: warning: symbol 'x' was not declared. Should it be static?\n"
      ++ codes "t.c:4:5: warning: symbol 'y' was not declared. Should it be static?\n")
  -- the least constraint, with the name that its text has, goes before warnings
  pub negative : checked (codes "int a[-1];") ≡ refuses (codes "t.c:1:7: error[86]: negative array size")
  pub no_member : checked (codes "struct s { int a; };\nint f(struct s *p) { return p->b; }") ≡ refuses (codes "t.c:2:30: error[67]: no such member 'b'")
  pub least :
      checked (codes "struct s { int a; } g;\nint f(int __attribute__((noderef)) *u) { return *u + g.b; }\nint n[-1];")
      ≡ refuses (codes "t.c:2:55: error[67]: no such member 'b'")
  pub in_header : checked_with (codes "int n;\nint a[-2];\n") (codes "#include \"k.h\"\n") ≡ refuses (codes "k.h:2:7: error[86]: negative array size")
  -- the limit where it stands before
  pub too_large : checked (codes "char a[1099511627777]; int n[-1];") ≡ Some (line Limit (codes "ksparse: limit: object size"))
  pub behind_constraint : checked (codes "int n[-1]; char a[1099511627777];") ≡ refuses (codes "t.c:1:7: error[86]: negative array size")
  -- what fails on control paths is told behind constraints and the limit; the plain program doesn't walk them
  pub no_context : checked (codes "int x __attribute__((unused(context(x,0,1))));") ≡ is_silent
  pub context : checked (codes "void f(void) __attribute__((context(x,0,1)));") ≡ None
  pub context_statement : checked (codes "void f(void) { __context__(x, 1); int *p = 0; }") ≡ None
  pub context_behind_constraint :
      checked (codes "void f(void) __attribute__((context(x,0,1))); int a[-1];") ≡ refuses (codes "t.c:1:53: error[86]: negative array size")
  pub context_behind_limit :
      checked (codes "void f(void) __attribute__((context(x,0,1))); char a[1099511627777];") ≡ Some (line Limit (codes "ksparse: limit: object size"))

-- what parsing refuses
pub record ParsingExamples : Type 0 where
  pub unexpected : checked (codes "int f(void) { return 1 }") ≡ refuses (codes "t.c:1:24: error[20]: syntax error: unexpected '}'")
  -- where the name of the macro stands
  pub from_a_macro : checked (codes "#define X 1\nX") ≡ refuses (codes "t.c:2:1: error[20]: syntax error: unexpected '1'")
  -- with the path of the file of its token
  pub in_a_header : checked_with (codes "\n int )") (codes "#include \"k.h\"\n;") ≡ refuses (codes "k.h:2:6: error[20]: syntax error: unexpected ')'")
  -- a digraph is told as it is spelled (6.4.6 p3)
  pub digraph : checked (codes "int x %>") ≡ refuses (codes "t.c:1:7: error[20]: syntax error: unexpected '%>'")
  -- the end of the file is told at its last token, whether that is the unexpected one's place or not
  pub last_token : checked (codes "int x }") ≡ refuses (codes "t.c:1:7: error[20]: syntax error: unexpected '}'")
  pub end_of_file : checked (codes "void f(void) {") ≡ refuses (codes "t.c:1:14: error[20]: syntax error: unexpected end of file")
  pub behind_extension : checked (codes "int x __extension__") ≡ refuses (codes "t.c:1:7: error[20]: syntax error: unexpected end of file")
  -- an action's refusal names the name at which it stands
  pub undeclared : checked (codes "int f(void) { return x; }") ≡ refuses (codes "t.c:1:22: error[21]: 'x' is not declared")
  pub redeclared : checked (codes "int x; typedef int x;") ≡ refuses (codes "t.c:1:20: error[22]: 'x' redeclared")
  -- what isn't supported names nothing
  pub unsupported : checked (codes "double d;") ≡ refuses (codes "t.c:1:1: error[30]: unsupported: floating type")
  -- an error of preprocessing goes before, and one of the form behind
  pub behind_preprocessing : checked (codes "int ) ;\n#error late") ≡ refuses (codes "t.c:2:1: error[17]: #error late")
  pub before_the_form : checked (codes "int x; int }") ≡ refuses (codes "t.c:1:12: error[20]: syntax error: unexpected '}'")
  -- a limit has no place
  pub limit : refusal_reply (main_path ∷ []) [] (PassesLimit Parameters) 7 ≡ line Limit (codes "ksparse: limit: parameters")
  -- with too few steps the plain program doesn't answer
  pub too_few : end_reply 3 default_classes (unit_among unit_limits plain_options [] (codes "int x;")).tokens (Ends [] []) ≡ None

-- what `-E` writes
pub record ExpandExamples : Type 0 where
  pub empty : expanded [] ≡ silence
  pub one_line : expanded (codes "a  b/**/c") ≡ out_of (codes "a b c\n")
  pub lines : expanded (codes "a\n\n\n b") ≡ out_of (codes "a\nb\n")
  pub call : expanded (codes "#define f(a) a\nx f(1\n) y\n z") ≡ out_of (codes "x 1\ny\nz\n")
  -- a token that is made stands on the line of the name
  pub joined : expanded (codes "__LINE__\n__LINE__ \\\n__LINE__") ≡ out_of (codes "1\n2\n3\n")
  pub refused : expanded (codes "x\n#foo") ≡ line Refused (codes "t.c:2:1: error[9]: unknown directive")
  -- neither the form nor an undefined identifier is told
  pub any_tokens : expanded (codes "#if FOO\n#else\nint 1.5 @\n#endif") ≡ out_of (codes "int 1.5 @\n")

-- where nothing is set
abbrev pub plain_request : Options
plain_request = record { preprocessing = plain_options; classes = default_classes }

-- with these directories and this text of `<command>`
abbrev pub set_to : List (List ℕ) → List ℕ → Options
set_to directories command = record { preprocessing = record { directories = directories; command = command }; classes = default_classes }

-- with these classes
abbrev pub with_classes : List Class → Options
with_classes classes = record { preprocessing = plain_options; classes = classes }

-- a word alone
abbrev pub alone : List ℕ → Request
alone word = request_of (word ∷ [])

-- a word before `t.c`
abbrev pub before_file : List ℕ → Request
before_file word = request_of (word ∷ main_path ∷ [])

-- what words ask for, and where the word at fault stands
pub record RequestExamples : Type 0 where
  pub file : alone main_path ≡ Check plain_request main_path
  -- the empty word is a path like any other, and a hyphen alone is an option
  pub empty_word : alone [] ≡ Check plain_request []
  pub hyphen_alone : alone (codes "-") ≡ BadWord 0 (codes "-")
  pub hyphen_inside : alone (codes "a-b") ≡ Check plain_request (codes "a-b")
  pub commands :
      map alone (codes "eval" ∷ codes "gen" ∷ codes "link" ∷ codes "index" ∷ codes "annotate" ∷ [])
      ≡ BadWord 0 (codes "eval") ∷ BadWord 0 (codes "gen") ∷ BadWord 0 (codes "link") ∷ BadWord 0 (codes "index") ∷ BadWord 0 (codes "annotate") ∷ []
  pub longer_than_a_command : alone (codes "eval.c") ≡ Check plain_request (codes "eval.c")
  -- behind another word they are paths
  pub later_command : request_of (codes "-E" ∷ codes "eval" ∷ []) ≡ Expand plain_request (codes "eval")
  pub any_order : request_of (main_path ∷ codes "-E" ∷ codes "-E" ∷ []) ≡ Expand plain_request main_path
  pub first_bad_word : request_of (main_path ∷ codes "-E" ∷ codes "-x" ∷ codes "-y" ∷ []) ≡ BadWord 2 (codes "-x")
  pub second_operand : request_of (main_path ∷ codes "u.c" ∷ codes "-q" ∷ []) ≡ BadWord 1 (codes "u.c")
  pub no_operand : map request_of ([] ∷ (codes "-DX" ∷ codes "-UY" ∷ []) ∷ (codes "-E" ∷ []) ∷ []) ≡ MissingFile ∷ MissingFile ∷ MissingFile ∷ []
  pub directories : request_of (codes "-Ia" ∷ main_path ∷ codes "-I/b" ∷ []) ≡ Check (set_to (codes "a" ∷ codes "/b" ∷ []) []) main_path
  pub definitions :
      request_of (codes "-DX" ∷ codes "-UY" ∷ codes "-DZ=a=b" ∷ codes "-D_1=" ∷ main_path ∷ [])
      ≡ Check (set_to [] (codes "#define X 1\n#undef Y\n#define Z a=b\n#define _1 \n")) main_path
  pub universal_name : before_file (codes "-U\\u00e9") ≡ Check (set_to [] (codes "#undef \\u00e9\n")) main_path
  pub bad_options :
      map before_file
      (codes "-D1" ∷ codes "-D" ∷ codes "-D=1" ∷ codes "-Df(x)=x" ∷ codes "-DX=a\nb" ∷ codes "-U" ∷ codes "-UX=1" ∷ codes "-I" ∷ codes "--" ∷ codes "-EE" ∷ [])
      ≡ map (BadWord 0)
      (codes "-D1" ∷ codes "-D" ∷ codes "-D=1" ∷ codes "-Df(x)=x" ∷ codes "-DX=a\nb" ∷ codes "-U" ∷ codes "-UX=1" ∷ codes "-I" ∷ codes "--" ∷ codes "-EE" ∷ [])
  pub bad_classes :
      map before_file (codes "-Wfoo" ∷ codes "-Wall" ∷ codes "-Wno-" ∷ codes "-W" ∷ codes "-include" ∷ [])
      ≡ map (BadWord 0) (codes "-Wfoo" ∷ codes "-Wall" ∷ codes "-Wno-" ∷ codes "-W" ∷ codes "-include" ∷ [])
  pub class_on : before_file (codes "-Wundef") ≡ Check (with_classes (AddressSpace ∷ Bitwise ∷ Context ∷ NonPointerNull ∷ Undef ∷ [])) main_path
  pub class_off : before_file (codes "-Wno-non-pointer-null") ≡ Check (with_classes (AddressSpace ∷ Bitwise ∷ Context ∷ [])) main_path
  -- the later word wins
  pub later_class :
      map (λ words. request_of (main_path ∷ words)) ((codes "-Wundef" ∷ codes "-Wno-undef" ∷ []) ∷ (codes "-Wno-bitwise" ∷ codes "-Wbitwise" ∷ []) ∷ [])
      ≡ Check plain_request main_path ∷ Check plain_request main_path ∷ []
