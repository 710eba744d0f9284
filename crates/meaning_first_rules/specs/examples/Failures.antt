-- Worked examples: small files, with the failures and warnings that they have.
use Rattle.std.specs.Prelude.{◌≡◌, ℕ, true, false, List, [], ◌∷◌, ◌++◌, codes}
use Rattle.meaning_text.specs.Tokens.{Tok}
use Rattle.meaning_text.specs.Terminals.{terminals_of}
use Rattle.meaning_text.specs.Lexing.{Lexed, Tokens, Refused, lexed_file}
use Rattle.meaning_types.specs.Types.{NoSpace, NumberedSpace, NamedSpace, Flags, no_flags}
use Rattle.meaning_types.specs.Spaces.{MixSpaces}
use Rattle.meaning_syntax.specs.Items.{Word, Noderef, AddressSpace, Statement, Assign, AssignThrough, AssignAddress, Item, Object, Function}
use Rattle.meaning_syntax.specs.Form.{IsUnit}
use Rattle.meaning_first_rules.specs.Bindings.{pointer_to}
use Rattle.meaning_first_rules.specs.Typing.{int_with, flagged}
use Rattle.meaning_first_rules.specs.Evaluation.{InAssignment}
use Rattle.meaning_first_rules.specs.Failures.{Failure, SpacesMixed, FlaggedAccess}
use Rattle.meaning_first_rules.specs.plain.Judging.{failures_of}
use Rattle.meaning_text.specs.Places.{main_file}
use Rattle.meaning_first_rules.specs.Text.{warnings_text}

-- the tokens that were found, if no fault was
abbrev pub tokens_found : Lexed → List Tok
tokens_found (Tokens tokens) = tokens
tokens_found (Refused fault) = []

abbrev pub tokens_in : List ℕ → List Tok
tokens_in text = tokens_found (lexed_file main_file text)

-- The file `t.c` with this text is this unit, which has these failures and these warnings.
pub record Warns (text : List ℕ) (unit : List Item) (failures : List Failure) (warnings : List ℕ) : Type 0 where
  pub is_unit : IsUnit (terminals_of (tokens_in text)) unit
  pub listed : failures_of unit ≡ failures
  pub warned : warnings_text (codes "t.c") (tokens_in text) failures ≡ warnings

-- the checked file is number 1
abbrev pub CheckedFileIsFirst : Type 0
CheckedFileIsFirst = main_file ≡ 1

-- What the examples are made of

-- the flags that `__attribute__((noderef, address_space(__user)))` gives
abbrev pub user_flags : Flags
user_flags = record { noderef = true; space = NamedSpace (codes "__user") }

-- the words of that attribute
abbrev pub user_words : List Word
user_words = Noderef ∷ AddressSpace (codes "__user") ∷ []

-- the flags that `__attribute__((noderef))` gives
abbrev pub noderef_flags : Flags
noderef_flags = record { noderef = true; space = NoSpace }

-- `void f(void) {` these statements `}`
abbrev pub function_of : List Statement → Item
function_of statements = Function (codes "f") statements

-- the `=` of `p = u` is token 28, in line 3 at column 18
abbrev pub SpaceIsLost : Type 0
SpaceIsLost =
    Warns
    (codes "extern int *p;\n"
    ++ codes "extern int __attribute__((noderef, address_space(__user))) *u;\n"
    ++ codes "void f(void) { p = u; }\n")
    (Object [] 1 (codes "p") ∷ Object user_words 1 (codes "u") ∷ function_of (Assign (codes "p") (codes "u") ∷ []) ∷ [])
    (record { token = 28; part = 0; cause = SpacesMixed InAssignment (pointer_to (int_with no_flags)) (pointer_to (int_with user_flags)) } ∷ [])
    (codes "t.c:3:18: warning: incorrect type in assignment (different address spaces)\n"
    ++ codes "t.c:3:18:    expected int *\n"
    ++ codes "t.c:3:18:    got int noderef address_space(__user) *\n")

-- a space behind two stars is lost as one behind one star is
abbrev pub SpaceBehindTwoStarsIsLost : Type 0
SpaceBehindTwoStarsIsLost =
    Warns
    (codes "extern int **p;\n"
    ++ codes "extern int __attribute__((noderef, address_space(__user))) **u;\n"
    ++ codes "void f(void) { p = u; }\n")
    (Object [] 2 (codes "p") ∷ Object user_words 2 (codes "u") ∷ function_of (Assign (codes "p") (codes "u") ∷ []) ∷ [])
    (record { token = 30; part = 0; cause = SpacesMixed InAssignment (pointer_to (pointer_to (int_with no_flags))) (pointer_to (pointer_to (int_with user_flags))) } ∷ [])
    (codes "t.c:3:18: warning: incorrect type in assignment (different address spaces)\n"
    ++ codes "t.c:3:18:    expected int * *\n"
    ++ codes "t.c:3:18:    got int noderef address_space(__user) * *\n")

-- and by the rule itself these types mix spaces
abbrev pub TwoStarsMixSpaces : Type 0
TwoStarsMixSpaces = MixSpaces (pointer_to (pointer_to (int_with no_flags))) (pointer_to (pointer_to (int_with user_flags)))

-- pointers that differ in their number of stars alone do not mix spaces
abbrev pub StarsAloneDoNotMix : Type 0
StarsAloneDoNotMix = MixSpaces (pointer_to (int_with no_flags)) (pointer_to (pointer_to (int_with no_flags))) → ⊥

-- the place of `x` has a flag: a store to it fails at token 20, a load from it at token 26, all in one line
abbrev pub NoderefIsAccessed : Type 0
NoderefIsAccessed =
    Warns
    (codes "extern int __attribute__((noderef)) x; extern int y; void f(void) { x = y; y = x; }\n")
    (Object (Noderef ∷ []) 0 (codes "x") ∷ Object [] 0 (codes "y")
    ∷ function_of (Assign (codes "x") (codes "y") ∷ Assign (codes "y") (codes "x") ∷ []) ∷ [])
    (record { token = 20; part = 0; cause = FlaggedAccess (int_with noderef_flags) }
    ∷ record { token = 26; part = 0; cause = FlaggedAccess (int_with noderef_flags) } ∷ [])
    (codes "t.c:1:69: warning: dereference of noderef expression\n"
    ++ codes "t.c:1:80: warning: dereference of noderef expression\n")

-- the load is token 25, in line 3 at column 20
abbrev pub SpaceIsAccessed : Type 0
SpaceIsAccessed =
    Warns
    (codes "extern int __attribute__((address_space(2))) x;\n"
    ++ codes "extern int y;\n"
    ++ codes "void f(void) { y = x; }\n")
    (Object (AddressSpace (codes "2") ∷ []) 0 (codes "x") ∷ Object [] 0 (codes "y") ∷ function_of (Assign (codes "y") (codes "x") ∷ []) ∷ [])
    (record { token = 25; part = 0; cause = FlaggedAccess (int_with (record { noderef = false; space = NumberedSpace 2 })) } ∷ [])
    (codes "t.c:3:20: warning: dereference in address space 2\n")

-- of a place with both flags noderef is told; the load is token 27
abbrev pub NoderefIsToldBeforeSpace : Type 0
NoderefIsToldBeforeSpace =
    Warns
    (codes "extern int __attribute__((noderef, address_space(__user))) x;\n"
    ++ codes "extern int y;\n"
    ++ codes "void f(void) { y = x; }\n")
    (Object user_words 0 (codes "x") ∷ Object [] 0 (codes "y") ∷ function_of (Assign (codes "y") (codes "x") ∷ []) ∷ [])
    (record { token = 27; part = 0; cause = FlaggedAccess (int_with user_flags) } ∷ [])
    (codes "t.c:3:20: warning: dereference of noderef expression\n")

-- of two spaces in one list the later one counts
abbrev pub LaterSpaceCounts : Type 0
LaterSpaceCounts =
    flagged no_flags (AddressSpace (codes "1") ∷ AddressSpace (codes "2") ∷ []) ≡ record { noderef = false; space = NumberedSpace 2 }

-- pointers with equal flags do not mix spaces, in whichever order the flags are written
abbrev pub EqualFlagsPass : Type 0
EqualFlagsPass =
    Warns
    (codes "extern int __attribute__((address_space(__user), noderef)) *p;\n"
    ++ codes "extern int __attribute__((noderef, address_space(__user))) *u;\n"
    ++ codes "void f(void) { p = u; }\n")
    (Object (AddressSpace (codes "__user") ∷ Noderef ∷ []) 1 (codes "p") ∷ Object user_words 1 (codes "u")
    ∷ function_of (Assign (codes "p") (codes "u") ∷ []) ∷ [])
    [] []

-- plain ints are read and written
abbrev pub PlainIntsPass : Type 0
PlainIntsPass =
    Warns
    (codes "extern int x;\n" ++ codes "extern int y;\n" ++ codes "void f(void) { x = y; }\n")
    (Object [] 0 (codes "x") ∷ Object [] 0 (codes "y") ∷ function_of (Assign (codes "x") (codes "y") ∷ []) ∷ [])
    [] []

-- Through pointers, and with addresses

-- the store stands at the `*`, token 21; the `=` behind which an address gets flags is token 27
abbrev pub NoderefIsStoredThrough : Type 0
NoderefIsStoredThrough =
    Warns
    (codes "extern int __attribute__((noderef)) *u;\n"
    ++ codes "extern int x;\n"
    ++ codes "void f(void) { *u = x; u = &x; }\n")
    (Object (Noderef ∷ []) 1 (codes "u") ∷ Object [] 0 (codes "x")
    ∷ function_of (AssignThrough (codes "u") (codes "x") ∷ AssignAddress (codes "u") (codes "x") ∷ []) ∷ [])
    (record { token = 21; part = 0; cause = FlaggedAccess (int_with noderef_flags) }
    ∷ record { token = 27; part = 0; cause = SpacesMixed InAssignment (pointer_to (int_with noderef_flags)) (pointer_to (int_with no_flags)) } ∷ [])
    (codes "t.c:3:16: warning: dereference of noderef expression\n"
    ++ codes "t.c:3:26: warning: incorrect type in assignment (different address spaces)\n"
    ++ codes "t.c:3:26:    expected int noderef *\n"
    ++ codes "t.c:3:26:    got int *\n")

-- a pointer loses its flags at the place behind another pointer; the `=` is token 25
abbrev pub NoderefIsLostBehindPointer : Type 0
NoderefIsLostBehindPointer =
    Warns
    (codes "extern int **p;\n"
    ++ codes "extern int __attribute__((noderef)) *u;\n"
    ++ codes "void f(void) { *p = u; }\n")
    (Object [] 2 (codes "p") ∷ Object (Noderef ∷ []) 1 (codes "u") ∷ function_of (AssignThrough (codes "p") (codes "u") ∷ []) ∷ [])
    (record { token = 25; part = 0; cause = SpacesMixed InAssignment (pointer_to (int_with no_flags)) (pointer_to (int_with noderef_flags)) } ∷ [])
    (codes "t.c:3:19: warning: incorrect type in assignment (different address spaces)\n"
    ++ codes "t.c:3:19:    expected int *\n"
    ++ codes "t.c:3:19:    got int noderef *\n")

-- the place behind `p` is plain, so the load at token 24 alone warns
abbrev pub LoadAloneWarns : Type 0
LoadAloneWarns =
    Warns
    (codes "extern int *p;\n"
    ++ codes "extern int __attribute__((noderef)) x;\n"
    ++ codes "void f(void) { *p = x; }\n")
    (Object [] 1 (codes "p") ∷ Object (Noderef ∷ []) 0 (codes "x") ∷ function_of (AssignThrough (codes "p") (codes "x") ∷ []) ∷ [])
    (record { token = 24; part = 0; cause = FlaggedAccess (int_with noderef_flags) } ∷ [])
    (codes "t.c:3:21: warning: dereference of noderef expression\n")

-- nothing is loaded from an object whose address is taken, and the flags are equal
abbrev pub AddressPasses : Type 0
AddressPasses =
    Warns
    (codes "extern int __attribute__((noderef)) x;\n"
    ++ codes "extern int __attribute__((noderef)) *u;\n"
    ++ codes "void f(void) { u = &x; }\n")
    (Object (Noderef ∷ []) 0 (codes "x") ∷ Object (Noderef ∷ []) 1 (codes "u") ∷ function_of (AssignAddress (codes "u") (codes "x") ∷ []) ∷ [])
    [] []
