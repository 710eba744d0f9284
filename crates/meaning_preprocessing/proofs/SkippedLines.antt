-- In a group that is skipped a line that isn't a conditional may be left out.
use Rattle.std.proofs.Common.{◌≡◌, true, false, ◌&&◌, List, [], ◌∷◌, ◌++◌, refl, ap, sym, ◌∙◌, true≢false}
use Rattle.meaning_text.specs.Tokens.{Tok, is_hash}
use Rattle.meaning_preprocessing.specs.Lines.{Line, FileParts, LastText, DirectiveBehind, text_before, file_parts, DirectiveName, IfLine, IfdefLine, IfndefLine, ElifLine, ElseLine, EndifLine, IncludeLine, DefineLine, UndefLine, ErrorLine, UnreadLine, UnknownLine, directive_of, behind_word, is_conditional}
use Rattle.meaning_preprocessing.specs.State.{UnitState, Continues, Piece, only_ending, and_then, expanded_in}
use Rattle.meaning_preprocessing.specs.Groups.{Group, are_read, Turn, Turns, Evaluation, closed_file}
use Rattle.meaning_preprocessing.specs.Directives.{read_turn, skipped_turn, turn_of}
use Rattle.meaning_preprocessing.specs.Unit.{Reader, text_piece, turn_piece, over_parts}
use Rattle.meaning_preprocessing.specs.laws.Lines.{over_lines, SkippedLinesDoNotShow}
use Rattle.meaning_preprocessing.proofs.LinesRead.{file_parts-directive, file_parts-text}

text_skipped : (groups : List Group) (text : List Tok) (s : UnitState) → are_read groups ≡ false → text_piece groups text s ≡ only_ending (Continues s)
text_skipped groups text s h = ap (λ v. elim v as (λ _. Piece) [ true ↦ expanded_in s text | false ↦ only_ending (Continues s) ]) h

other_text : (value : Evaluation) (include : Reader) (line : Line) (parts : FileParts) (groups : List Group) (s : UnitState) → are_read groups ≡ false
    → over_parts value include (text_before line parts) groups s ≡ over_parts value include parts groups s
other_text value include line (LastText text) groups s h =
    ap (λ (piece : Piece). and_then piece (closed_file groups)) (text_skipped groups (line.first ∷ line.rest ++ text) s h ∙ sym (text_skipped groups text s h))
other_text value include line (DirectiveBehind text hash rest parts) groups s h =
    ap (λ (piece : Piece). and_then piece (λ u.
    turn_piece include groups (λ others v. over_parts value include parts others v) (turn_of value hash rest groups u)))
    (text_skipped groups (line.first ∷ line.rest ++ text) s h ∙ sym (text_skipped groups text s h))

other_name : (value : Evaluation) (name : DirectiveName) (hash : Tok) (rest : List Tok) (groups : List Group) (s : UnitState)
    → is_conditional name ≡ false → skipped_turn value name hash rest groups s ≡ Turns groups s
other_name value IfLine hash rest groups s e = absurd (true≢false e)
other_name value IfdefLine hash rest groups s e = absurd (true≢false e)
other_name value IfndefLine hash rest groups s e = absurd (true≢false e)
other_name value ElifLine hash rest groups s e = absurd (true≢false e)
other_name value ElseLine hash rest groups s e = absurd (true≢false e)
other_name value EndifLine hash rest groups s e = absurd (true≢false e)
other_name value IncludeLine hash rest groups s e = refl
other_name value DefineLine hash rest groups s e = refl
other_name value UndefLine hash rest groups s e = refl
other_name value ErrorLine hash rest groups s e = refl
other_name value UnreadLine hash rest groups s e = refl
other_name value UnknownLine hash rest groups s e = refl

other_turn : (value : Evaluation) (hash : Tok) (rest : List Tok) (groups : List Group) (s : UnitState) → are_read groups ≡ false
    → is_conditional (directive_of rest) ≡ false → turn_of value hash rest groups s ≡ Turns groups s
other_turn value hash rest groups s h e =
    ap (λ v. elim v as (λ _. Turn) [
      | true ↦ read_turn value (directive_of rest) hash (behind_word rest) groups s
      | false ↦ skipped_turn value (directive_of rest) hash (behind_word rest) groups s
    ]) h
    ∙ other_name value (directive_of rest) hash (behind_word rest) groups s e

other_directive : (value : Evaluation) (include : Reader) (hash : Tok) (rest : List Tok) (parts : FileParts) (groups : List Group) (s : UnitState)
    → are_read groups ≡ false → is_conditional (directive_of rest) ≡ false
    → over_parts value include (DirectiveBehind [] hash rest parts) groups s ≡ over_parts value include parts groups s
other_directive value include hash rest parts groups s h e =
    ap (λ (piece : Piece). and_then piece (λ u.
    turn_piece include groups (λ others v. over_parts value include parts others v) (turn_of value hash rest groups u)))
    (text_skipped groups [] s h)
    ∙ ap (turn_piece include groups (λ others v. over_parts value include parts others v)) (other_turn value hash rest groups s h e)

pub skipped_lines_do_not_show : SkippedLinesDoNotShow
skipped_lines_do_not_show value include line lines groups s h e =
    elim (is_hash line.first.kind) as (λ v. is_hash line.first.kind ≡ v → (v && is_conditional (directive_of line.rest)) ≡ false
    → over_lines value include (line ∷ lines) groups s ≡ over_lines value include lines groups s) [
      | true ↦ λ is other.
          ap (λ (parts : FileParts). over_parts value include parts groups s) (file_parts-directive line lines is)
          ∙ other_directive value include line.first line.rest (file_parts lines) groups s h other
      | false ↦ λ is other.
          ap (λ (parts : FileParts). over_parts value include parts groups s) (file_parts-text line lines is)
          ∙ other_text value include line (file_parts lines) groups s h
    ] refl e
