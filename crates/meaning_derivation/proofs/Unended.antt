-- No terminal of a unit is the end.
use Rattle.std.proofs.Common.{◌≡◌, ℕ, ◌+◌, ◌==◌, Bool, true, false, not, ◌&&◌, List, [], ◌∷◌, codes, Option, Some, None, Result, Err, refl, ap, ◌∙◌, if◌then◌else◌}
use Rattle.std.specs.List.{list_all, list_any, starts_with}
use Rattle.std.specs.Str.{bytes_eq}
use Rattle.std.proofs.lemmas.Bool.{and_parts}
use Rattle.vocabulary.specs.declared.error_kind.ErrorKind.TheVariants.{Builtin, UniversalCharacterName}
use Rattle.vocabulary.specs.declared.token_kind.TokenKind.{TokenKind}
use Rattle.vocabulary.specs.declared.token_kind.TokenKind.TheVariants as kinds
use Rattle.vocabulary.specs.declared.token_class.TokenClass.TheVariants.{End, Identifier}
use Rattle.meaning_text.specs.Bytes.{backslash}
use Rattle.meaning_text.specs.Tokens.{Tok}
use Rattle.meaning_literals.specs.Constants.{Constant, Fault, FloatingFault, WideFault}
use Rattle.meaning_literals.specs.Integers.{integer_of}
use Rattle.meaning_literals.specs.Quoted.{char_of, string_of}
use Rattle.meaning_grammar.specs.Classes.{is_same}
use Rattle.meaning_grammar.specs.Words.{Reading, WordRow, words, reading_in, read_as, refused_as, extension}
use Rattle.meaning_grammar.specs.Terminals.{Terminal, number_reading, character_reading, string_reading, reading_of, terminal_at, terminals_from}
use Rattle.vocabulary.specs.declared.token_class.TokenClass.{TokenClass}
use Rattle.vocabulary.specs.declared.scope.NameSpace.TheVariants.{Ordinary}
use Rattle.vocabulary.specs.declared.scope.Bound.{Bound}
use Rattle.vocabulary.specs.declared.scope.Bound.TheVariants.{Typedef}
use Rattle.meaning_scopes.specs.Scopes.{Found, find}
use Rattle.meaning_scopes.specs.Classes.{bound_class, found_class}
use Rattle.meaning_derivation.specs.State.{State}
use Rattle.meaning_derivation.specs.Taking.{look_of}
use Rattle.meaning_derivation.specs.Leading.{is_no_end}

abbrev reads_no_end : Reading → Bool
reads_no_end reading = not (is_same End reading.class_)

name_if : (builtin universal : Bool) → reads_no_end (if builtin then refused_as Builtin else (if universal then refused_as UniversalCharacterName else read_as Identifier)) ≡ true
name_if true universal = refl
name_if false true = refl
name_if false false = refl

reading_if : (test : Bool) (reading other : Reading) → reads_no_end reading ≡ true → reads_no_end other ≡ true → reads_no_end (if test then reading else other) ≡ true
reading_if true reading other one rest = one
reading_if false reading other one rest = rest

reading_in-no_end : (rows : List WordRow) (text : List ℕ) → list_all (λ row. reads_no_end row.reading) rows ≡ true → reads_no_end (reading_in rows text) ≡ true
reading_in-no_end [] text all = name_if (starts_with ◌==◌ text (codes "__builtin_")) (list_any (λ byte. byte == backslash) text)
reading_in-no_end (row ∷ rows) text all =
    let halves = and_parts (reads_no_end row.reading) (list_all (λ (other : WordRow). reads_no_end other.reading) rows) all in
    reading_if (bytes_eq row.spelling text) row.reading (reading_in rows text) halves.0 (reading_in-no_end rows text halves.1)

number-no_end : (found : Result Constant Fault) → reads_no_end (number_reading found) ≡ true
number-no_end (Err FloatingFault) = refl
number-no_end found = refl

character-no_end : (found : Result Constant Fault) → reads_no_end (character_reading found) ≡ true
character-no_end (Err WideFault) = refl
character-no_end found = refl

string-no_end : (found : Result (List ℕ) Fault) → reads_no_end (string_reading found) ≡ true
string-no_end (Err WideFault) = refl
string-no_end found = refl

reading-no_end : (kind : TokenKind) (text : List ℕ) → reads_no_end (reading_of kind text) ≡ true
reading-no_end kinds.Identifier text = reading_in-no_end words text refl
reading-no_end kinds.Number text = number-no_end (integer_of text)
reading-no_end kinds.Character text = character-no_end (char_of text)
reading-no_end kinds.String text = string-no_end (string_of text)
reading-no_end kind text = refl

over_if : (test : Bool) (terminal : Terminal) (terminals : List Terminal) → is_no_end terminal ≡ true → list_all is_no_end terminals ≡ true
    → list_all is_no_end (if test then terminals else terminal ∷ terminals) ≡ true
over_if true terminal terminals one rest = rest
over_if false terminal terminals one rest = ap (λ first. first && list_all is_no_end terminals) one ∙ rest

pub terminals-no_end : (index : ℕ) (tokens : List Tok) → list_all is_no_end (terminals_from index tokens) ≡ true
terminals-no_end index [] = refl
terminals-no_end index (token ∷ tokens) =
    over_if (bytes_eq token.text extension) (terminal_at index token) (terminals_from (index + 1) tokens)
    (reading-no_end token.kind token.text) (terminals-no_end (index + 1) tokens)

-- Where the end comes next nothing is left

bound-no_end : (bound : Bound) → is_same End (bound_class bound) ≡ false
bound-no_end Typedef = refl
bound-no_end bound = refl

found-no_end : (found : Option (Found (List ℕ))) → is_same End (found_class found) ≡ false
found-no_end None = refl
found-no_end (Some found) = bound-no_end found.entry.bound

class_if : (test : Bool) (bound own : TokenClass) → is_same End bound ≡ false → is_same End own ≡ false → is_same End (if test then bound else own) ≡ false
class_if true bound own one other = one
class_if false bound own one other = other

unless : (test : Bool) → not test ≡ true → test ≡ false
unless true is = absurd (cc is)
unless false is = refl

clash : (test : Bool) → test ≡ false → test ≡ true → ⊥
clash true first second = cc first
clash false first second = cc second

pub end_left : (s : State) (left : List Terminal) → list_all is_no_end left ≡ true → is_same End (look_of s left) ≡ true → left ≡ []
end_left s [] unended is = refl
end_left s (terminal ∷ left) unended is =
    let own = unless (is_same End terminal.class_) (and_parts (is_no_end terminal) (list_all is_no_end left) unended).0 in
    absurd (clash (is_same End (look_of s (terminal ∷ left)))
    (class_if (is_same Identifier terminal.class_) (found_class (find bytes_eq s.scopes Ordinary terminal.text)) terminal.class_
    (found-no_end (find bytes_eq s.scopes Ordinary terminal.text)) own) is)
