-- A file without `#` and without names of macros becomes its tokens.
use Rattle.std.proofs.Common.{◌≡◌, ℕ, ◌+◌, ◌≤◌, true, false, List, [], ◌∷◌, ◌++◌, map, length, take, Option, nat_lt, if◌then◌else◌, bytes_eq, refl, ap, sym, ◌∙◌, arith, append-nil}
use Rattle.std.specs.List.{list_any}
use Rattle.std.proofs.lemmas.Bool.{or_parts, le-ltb}
use Rattle.std.proofs.lemmas.List.Folds.{list_any-append}
use Rattle.std.proofs.lemmas.Slice.Eq.{bytes_eq-Decides}
use Rattle.vocabulary.specs.declared.limit.LimitKind.TheVariants.{FileSize, AllFiles, UnitTokens}
use Rattle.meaning_outside.specs.Files.{FileMap, file_at}
use Rattle.meaning_text.specs.Logical.{logical_text}
use Rattle.meaning_text.specs.Places.{main_file}
use Rattle.meaning_text.specs.Tokens.{Tok, AtLineStart, is_hash}
use Rattle.meaning_text.specs.Lexing.{Lexed, Tokens}
use Rattle.meaning_text.proofs.Lexing.{tokens_are_unique}
use Rattle.meaning_macros.specs.Macros.{MacroTable, Definition, macro_of}
use Rattle.meaning_macros.specs.Hiding.{Hiding, hides_nothing}
use Rattle.meaning_macros.specs.Expansion.{Expanded}
use Rattle.meaning_macros.specs.laws.Expansion.{NameNothing}
use Rattle.meaning_macros.proofs.PlainTokens.{expansion-plain}
use Rattle.meaning_preprocessing.specs.Lines.{Line, lines_of, FileParts, LastText, text_before, file_parts}
use Rattle.meaning_preprocessing.specs.State.{UnitState, table_in, paths_with, Passes, Continues, IsOver, Piece, only_ending, and_then, ending_of, token_alone, expanded_in}
use Rattle.meaning_preprocessing.specs.Groups.{Evaluation, closed_file}
use Rattle.meaning_preprocessing.specs.Unit.{Options, Limits, Setting, Reader, reader, over_parts, lexed_piece, text_of_file, file_piece, sized, main_piece_of, main_piece, command_piece, capped, first_state, unit_piece, unit_limits, unit_end, Ends, preprocessed}
use Rattle.meaning_preprocessing.specs.laws.Units.{is_hash_token, first_table, IsPlainFile, PlainFilesStay}
use Rattle.meaning_preprocessing.specs.laws.Lines.{tokens_of_lines}
use Rattle.meaning_preprocessing.proofs.LinesRead.{lines_have_all_tokens, file_parts-text}

plain_lines : (lines : List Line) → list_any is_hash_token (tokens_of_lines lines) ≡ false → file_parts lines ≡ LastText (tokens_of_lines lines)
plain_lines [] h = refl
plain_lines (line ∷ lines) h =
    let both = or_parts (is_hash line.first.kind) (list_any is_hash_token (line.rest ++ tokens_of_lines lines)) h in
    let later = or_parts (list_any is_hash_token line.rest) (list_any is_hash_token (tokens_of_lines lines))
    (sym (list_any-append is_hash_token line.rest (tokens_of_lines lines)) ∙ both.1) in
    file_parts-text line lines both.0 ∙ ap (text_before line) (plain_lines lines later.1)

plain_parts : (tokens : List Tok) → list_any is_hash_token tokens ≡ false → file_parts (lines_of tokens) ≡ LastText tokens
plain_parts tokens h =
    plain_lines (lines_of tokens) (ap (list_any is_hash_token) (lines_have_all_tokens tokens) ∙ h) ∙ ap LastText (lines_have_all_tokens tokens)

alone_again : (tokens : List Tok) → map token_alone (map hides_nothing tokens) ≡ tokens
alone_again [] = refl
alone_again (t ∷ ts) = ap (λ us. t ∷ us) (alone_again ts)

-- by another table with the same definitions
same_names : (table other : MacroTable) → other.definitions ≡ table.definitions → (ts : List Hiding) → NameNothing table ts → NameNothing other ts
same_names table other e [] h = tt
same_names table other e (t ∷ ts) h = (
  record {
    no_macro = λ name. ap (λ (definitions : List Definition). macro_of definitions t.token.text) e ∙ h.0.no_macro name;
    no_predefined = h.0.no_predefined;
  },
  same_names table other e ts h.1,
)

pub plain_text : (s : UnitState) (tokens : List Tok) → NameNothing (table_in s) (map hides_nothing tokens)
    → expanded_in s tokens ≡ record { tokens = tokens; ending = Continues s }
plain_text s tokens h =
    ap (λ (all : Expanded). record { tokens = map token_alone all.tokens; ending = ending_of s all.end })
    (expansion-plain (table_in s) s.budget (map hides_nothing tokens) h)
    ∙ ap (λ (all : List Tok). record { tokens = all; ending = Continues s }) (alone_again tokens)

plain_lexed : (value : Evaluation) (include : Reader) (tokens : List Tok) (s : UnitState) → list_any is_hash_token tokens ≡ false
    → NameNothing (table_in s) (map hides_nothing tokens) → lexed_piece value include (Tokens tokens) s ≡ record { tokens = tokens; ending = Continues s }
plain_lexed value include tokens s no_hash h =
    ap (λ (parts : FileParts). over_parts value include parts [] s) (plain_parts tokens no_hash)
    ∙ ap (λ (piece : Piece). and_then piece (closed_file [])) (plain_text s tokens h)
    ∙ ap (λ (all : List Tok). record { tokens = all; ending = Continues s }) (append-nil tokens)

sized-small : (limits : Limits) (bytes : List ℕ) (s : UnitState) (next : UnitState → Piece) → length bytes ≤ limits.file_size
    → s.bytes + length bytes ≤ limits.all_files → sized limits bytes s next ≡ next (record s { bytes = s.bytes + length bytes })
sized-small limits bytes s next small few =
    ap (λ v. elim v as (λ _. Piece) [
      | true ↦ only_ending (IsOver (Passes FileSize))
      | false ↦ elim (nat_lt limits.all_files (s.bytes + length bytes)) as (λ _. Piece) [
        | true ↦ only_ending (IsOver (Passes AllFiles))
        | false ↦ next (record s { bytes = s.bytes + length bytes })
      ]
    ]) (le-ltb limits.file_size (length bytes) small)
    ∙ ap (λ v. elim v as (λ _. Piece) [
      | true ↦ only_ending (IsOver (Passes AllFiles))
      | false ↦ next (record s { bytes = s.bytes + length bytes })
    ]) (le-ltb limits.all_files (s.bytes + length bytes) few)

capped-few : (most : ℕ) (piece : Piece) → length piece.tokens ≤ most → capped most piece ≡ piece
capped-few most piece few =
    ap (λ v. elim v as (λ _. Piece) [
      | true ↦ record { tokens = take most piece.tokens; ending = IsOver (Passes UnitTokens) }
      | false ↦ piece
    ]) (le-ltb most (length piece.tokens) few)

same_path : (path : List ℕ) → bytes_eq path path ≡ true
same_path path = (bytes_eq-Decides path path).1 refl

-- the state at the end
abbrev end_state : List ℕ → List ℕ → UnitState
end_state path bytes = record (first_state unit_limits path) { bytes = 0 + length bytes; paths = paths_with path (path ∷ []) }

plain_main : (value : Evaluation) (options : Options) (files : FileMap) (path bytes : List ℕ) (tokens : List Tok)
    → IsPlainFile options files path bytes tokens
    → main_piece (record { options = options; files = file_at files; value = value; limits = unit_limits }) path (first_state unit_limits path)
    ≡ record { tokens = tokens; ending = Continues (end_state path bytes) }
plain_main value options files path bytes tokens h =
    let setting : Setting = record { options = options; files = file_at files; value = value; limits = unit_limits } in
    let include : Reader = reader setting unit_limits.include_depth in
    let s : UnitState = first_state unit_limits path in
    ap (λ (found : Option (List ℕ)). main_piece_of setting path found s) h.found
    ∙ sized-small unit_limits bytes s (file_piece value include (record { path = path; bytes = bytes })) h.small (omega (arith, h.small))
    ∙ ap (λ v. text_of_file value include (if v then 1 else 2) bytes (end_state path bytes)) (same_path path)
    ∙ ap (λ (all : Lexed). lexed_piece value include all (end_state path bytes)) (tokens_are_unique AtLineStart (logical_text main_file bytes) tokens h.lexes)
    ∙ plain_lexed value include tokens (end_state path bytes) h.no_hash
    (same_names first_table (table_in (end_state path bytes)) refl (map hides_nothing tokens) h.no_names)

plain_command : (value : Evaluation) (options : Options) (files : FileMap) (path : List ℕ) → options.command ≡ []
    → command_piece (record { options = options; files = file_at files; value = value; limits = unit_limits }) (first_state unit_limits path)
    ≡ record { tokens = []; ending = Continues (first_state unit_limits path) }
plain_command value options files path e =
    let setting : Setting = record { options = options; files = file_at files; value = value; limits = unit_limits } in
    let include : Reader = reader setting unit_limits.include_depth in
    ap (λ (text : List ℕ). text_of_file value include 0 text (first_state unit_limits path)) e
    ∙ plain_lexed value include [] (first_state unit_limits path) refl tt

pub plain_files_stay : PlainFilesStay
unfolding preprocessed
plain_files_stay value options files path bytes tokens h =
    let setting : Setting = record { options = options; files = file_at files; value = value; limits = unit_limits } in
    let s : UnitState = first_state unit_limits path in
    let whole : unit_piece setting path ≡ record { tokens = tokens; ending = Continues (end_state path bytes) } =
    ap (λ (piece : Piece). capped unit_limits.unit_tokens (and_then piece (main_piece setting path))) (plain_command value options files path h.no_command)
    ∙ ap (capped unit_limits.unit_tokens) (plain_main value options files path bytes tokens h)
    ∙ capped-few unit_limits.unit_tokens (record { tokens = tokens; ending = Continues (end_state path bytes) }) h.few in
    ap (λ (piece : Piece). record { tokens = piece.tokens; end = unit_end piece.ending }) whole
    ∙ ap (λ v. record { tokens = tokens; end = Ends [] (if v then path ∷ [] else path ∷ path ∷ []) }) (same_path path)
