-- Lines behind the one at which a file breaks off.
use Rattle.std.proofs.Common.{◌≡◌, true, false, List, [], ◌∷◌, ◌++◌, ◌⊎◌, inl, inr, refl, ap, sym, ◌∙◌, subst, true≢false}
use Rattle.std.specs.Prelude.{⊤}
use Rattle.meaning_preprocessing.specs.Lines.{Line, LastText}
use Rattle.meaning_preprocessing.specs.State.{UnitState, Stop, PieceEnd, Continues, IsOver, Piece, only_ending, expanded_in, and_then}
use Rattle.meaning_preprocessing.specs.Groups.{Group, are_read, Evaluation, closed_file}
use Rattle.meaning_preprocessing.specs.Unit.{Reader, text_piece, over_parts}
use Rattle.meaning_preprocessing.specs.laws.Lines.{over_lines, EndsBefore, GoesOnBehind, stops_at_open_group, LinesBehindTheEnd}
use Rattle.meaning_preprocessing.proofs.LinesRead.{lines_behind_a_directive}
use Rattle.meaning_preprocessing.proofs.PlainFiles.{plain_text}

no_text : (groups : List Group) (s : UnitState) → text_piece groups [] s ≡ only_ending (Continues s)
no_text groups s =
    elim (are_read groups) as (λ v. (elim v as (λ _. Piece) [ true ↦ expanded_in s [] | false ↦ only_ending (Continues s) ]) ≡ only_ending (Continues s)) [
      | true ↦ plain_text s [] tt
      | false ↦ refl
    ]

-- it goes on, or a group is open
abbrev EndsAtMostAtAGroup : PieceEnd → Type 0
EndsAtMostAtAGroup (Continues s) = ⊤
EndsAtMostAtAGroup (IsOver stop) = stops_at_open_group stop ≡ true

closed_file-end : (groups : List Group) (s : UnitState) → EndsAtMostAtAGroup (closed_file groups s).ending
closed_file-end [] s = tt
closed_file-end (group ∷ groups) s = refl

nothing_more : (value : Evaluation) (include : Reader) (groups : List Group) (s : UnitState)
    → EndsAtMostAtAGroup (over_parts value include (LastText []) groups s).ending
nothing_more value include groups s =
    subst (λ (piece : Piece). EndsAtMostAtAGroup (and_then piece (closed_file groups)).ending) (sym (no_text groups s)) (closed_file-end groups s)

by_cases : (value : Evaluation) (include : Reader) (piece : List Line → Piece) (stop : Stop) → (piece []).ending ≡ IsOver stop
    → stops_at_open_group stop ≡ false → EndsBefore piece ⊎ GoesOnBehind value include piece → (lines : List Line) → piece lines ≡ piece []
by_cases value include piece stop over other (inl h) lines = h.1 lines ∙ sym (h.1 [])
by_cases value include piece stop over other (inr h) lines =
    let ends : (over_parts value include (LastText []) h.1 h.2).ending ≡ IsOver stop =
    ap (λ (all : Piece). all.ending) (sym (h.3 [])) ∙ over in
    absurd (true≢false (sym (subst EndsAtMostAtAGroup ends (nothing_more value include h.1 h.2)) ∙ other))

pub lines_behind_the_end : LinesBehindTheEnd
lines_behind_the_end value include before directive groups s stop e over other =
    by_cases value include (λ lines. over_lines value include (before ++ directive ∷ lines) groups s) stop over other
    (lines_behind_a_directive value include before directive groups s e)
