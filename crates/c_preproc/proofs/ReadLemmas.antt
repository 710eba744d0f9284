-- What comes of a file behind the steps that read it with those that it includes.
use Rattle.std.proofs.Common.{◌≡◌, ℕ, List, [], ◌∷◌, ◌++◌, length, Ok, Err, sym, ap, subst, ◌∙◌}
use Rattle.meaning_outside.specs.Files.{FileMap}
use Rattle.meaning_outside.specs.Loads.{Loaded, AgreesWith}
use Rattle.meaning_preprocessing.specs.Groups.{Evaluation}
use Rattle.meaning_preprocessing.specs.State.{UnitState, Piece, and_then, tokens_before}
use Rattle.meaning_preprocessing.specs.Unit.{IsEvaluation, Reader, over_parts, reader, unit_limits}
use Rattle.c_tokens.specs.declared.token.Token.{Token}
use Rattle.c_directives.specs.Groups.{groups_seen}
use Rattle.c_directives.specs.Lines.{parts_of}
use Rattle.c_directives.specs.declared.groups.Group.{Group}
use Rattle.c_preproc.specs.Kept.{tokens_kept}
use Rattle.c_preproc.specs.Loads.{KeepsLoads, paths_seen}
use Rattle.c_preproc.specs.Opens.{open_piece, waiting_piece}
use Rattle.c_preproc.specs.States.{EndsUnit, GoesOn, Holds, put_of}
use Rattle.c_preproc.specs.Steps.{IsReadWhole, IsStepped, directories_alone}
use Rattle.c_preproc.specs.Units.{setting_of}
use Rattle.c_preproc.specs.declared.file.OpenFile.{OpenFile}
use Rattle.c_preproc.specs.declared.kept.Kept.{Kept}
use Rattle.c_preproc.specs.declared.kept.KeptFile.{KeptFile}
use Rattle.c_preproc.specs.declared.pre_fault.PreFault.{PreFault}
use Rattle.c_preproc.specs.declared.state.State.{State}
use Rattle.c_preproc.proofs.LoadLemmas.{agrees-front}
use Rattle.c_preproc.proofs.OpenLemmas.{left-all}

-- what comes of the file in the place comes of what was put and of the files that are open now
abbrev pub IsReadOn : List (List ℕ) → List (List ℕ) → State → State → List Loaded → Kept → Kept → List (List ℕ) → ℕ → List OpenFile → Type 0
IsReadOn names later old new given kept now directories place waiting =
    KeepsLoads later (paths_seen later new) given now
    × ((value : Evaluation) (files : FileMap) (command : List ℕ) (path : List ℕ) (s : UnitState) (end : UnitState → Piece) → IsEvaluation value → AgreesWith files given → Holds names path old s →
    GoesOn later path new
    (tokens_before (put_of names old)
    (and_then (over_parts value (reader (setting_of (directories_alone directories command) files value) unit_limits.include_depth) (parts_of names (tokens_kept kept.files.items place)) [] s) end))
    (λ u. waiting_piece (setting_of (directories_alone directories command) files value) later now.files.items 200 waiting end u))

-- Nothing was read

module _ (names : List (List ℕ)) (files : List KeptFile) (place : ℕ) (first : OpenFile) (at : first.place ≡ place) (all : first.left ≡ length (tokens_kept files place)) (none : first.groups.items ≡ []) where
  pub first-piece : (value : Evaluation) (include : Reader) (s : UnitState) → open_piece value include names files first s ≡ over_parts value include (parts_of names (tokens_kept files place)) [] s
  first-piece value include s =
      let tokens_are = left-all files first (all ∙ ap (λ n. length (tokens_kept files n)) (sym at)) ∙ ap (tokens_kept files) at in
      ap (λ (tokens : List Token). over_parts value include (parts_of names tokens) (groups_seen first.groups.items) s) tokens_are
      ∙ ap (λ (open_groups : List Group). over_parts value include (parts_of names (tokens_kept files place)) (groups_seen open_groups) s) none

pub read-begins : (names : List (List ℕ)) (state : State) (given : List Loaded) (kept : Kept) (directories : List (List ℕ)) (place : ℕ) (first : OpenFile)
    → first.place ≡ place → first.left ≡ length (tokens_kept kept.files.items place) → first.groups.items ≡ []
    → KeepsLoads names (paths_seen names state) given kept → IsReadOn names names state state given kept kept directories place (first ∷ [])
read-begins names state given kept directories place first at all none keeps = (
  keeps,
  λ value files command path s end is agrees holds. (
    s,
    holds,
    ap (λ p. tokens_before (put_of names state) (and_then p end))
        (first-piece names kept.files.items place first at all none value (reader (setting_of (directories_alone directories command) files value) 200) s),
  ),
)

-- A step

module _ (names mid later : List (List ℕ)) (old self new : State) (before since given : List Loaded) (same : given ≡ before ++ since) (kept midst now : Kept) (directories : List (List ℕ)) (place : ℕ) (waiting next : List OpenFile)
    (on : IsReadOn names mid old self before kept midst directories place waiting) where
  pub read-on : IsStepped mid later self new (before ++ since) midst now directories waiting next (Ok tt) → IsReadOn names later old new given kept now directories place next
  read-on stepped = subst (λ all. IsReadOn names later old new all kept now directories place next) (sym same) (
    stepped.0,
    λ value files command path s end is agrees holds.
        let goes = on.1 value files command path s end is (agrees-front files before since agrees) holds in
        let further = stepped.1 value files command path goes.0 end is agrees goes.1 in
        (further.0, further.1, further.2 ∙ goes.2),
  )

  pub read-ends : (fault : PreFault) → IsStepped mid later self new (before ++ since) midst now directories waiting next (Err fault) → IsReadWhole names later old new given kept now directories place (Err fault)
  read-ends fault stepped = subst (λ all. IsReadWhole names later old new all kept now directories place (Err fault)) (sym same) (
    stepped.0,
    λ value files command path s end is agrees holds.
        let goes = on.1 value files command path s end is (agrees-front files before since agrees) holds in
        subst (λ whole. EndsUnit later whole fault) goes.2 (stepped.1 value files command path goes.0 end is agrees goes.1),
  )
