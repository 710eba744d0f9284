-- What all of a unit comes to, and the one file that is loaded.
use Rattle.std.proofs.Common.{◌≡◌, ◌<◌, ◌≤◌, ◌+◌, ℕ, Bool, true, false, nat_lt, List, [], ◌∷◌, ◌++◌, length, map, All, Option, Some, None, IfSome, IsErrAnd, IsSomeAnd, Result, Ok, Err, if◌then◌else◌, refl, sym, ap, subst, ◌∙◌, arith, length-append}
use Rattle.std.proofs.lemmas.Bool.{lt-ltb, le-ltb}
use Rattle.std.proofs.lemmas.List.{append-nil, length-map}
use Rattle.vocabulary.specs.declared.limit.LimitKind.TheVariants.{FileSize, AllFiles}
use Rattle.meaning_outside.specs.Files.{FileMap}
use Rattle.meaning_outside.specs.Loads.{Loaded}
use Rattle.meaning_conditions.proofs.Valuing.{answers_exist}
use Rattle.meaning_conditions.specs.plain.Reading.{answer_of}
use Rattle.meaning_preprocessing.specs.State.{UnitState, Stop, Passes, PieceEnd, Continues, IsOver, Piece, only_ending, tokens_before, and_then, behind_ending}
use Rattle.meaning_preprocessing.specs.Unit.{Limits, Setting, sized, file_piece, text_of_file, reader, command_piece, main_piece, main_piece_of, first_state, capped, unit_end, unit_limits, preprocessed, IsPreprocessedUnit, Ends, EndsEarly}
use Rattle.meaning_preprocessing.specs.Unit as unit
use Rattle.sparse_outside.specs.Load.{loaded}
use Rattle.sparse_outside.specs.declared.files.Load.TheVariants as load
use Rattle.c_tokens.specs.Seen.{IsKnown, text_of, toks_of, tok_of}
use Rattle.c_directives.specs.Conditions.{AreKnown}
use Rattle.c_preproc.specs.Loads.{HasLoaded}
use Rattle.c_preproc.specs.States.{EndsUnit, Holds, IsFaultInText, IsHeld, put_of, stop_of}
use Rattle.c_preproc.specs.Units.{EndsEarlySo, IsKnownUnit, IsUnit, setting_of}
use Rattle.c_preproc.specs.declared.pre_fault.PreFault.{PreFault}
use Rattle.c_preproc.specs.declared.state.State.{State}
use Rattle.c_preproc.specs.declared.unit.UnitTokens.{UnitTokens}
use Rattle.c_preproc.specs.declared.pre_fault.PreFault.TheVariants.{Memory, ReadFault}
use Rattle.c_preproc.proofs.LoadLemmas.{loaded-then, ok-err}
use Rattle.c_preproc.proofs.PieceLemmas.{capped-within}

-- nothing behind a piece
pub then-nothing : (piece : Piece) → and_then piece (λ s. only_ending (Continues s)) ≡ piece
then-nothing piece = by piece.ending refl
  where
    by : (ending : PieceEnd) → piece.ending ≡ ending → behind_ending piece.tokens ending (λ s. only_ending (Continues s)) ≡ piece
    by (Continues s) is = λ i. record { tokens = append-nil piece.tokens i; ending = sym is i }
    by (IsOver stop) is = λ i. record { tokens = piece.tokens; ending = sym is i }

-- The sizes of files

abbrev sized_by : Bool → Bool → Piece → Piece
sized_by large many piece = elim large as (λ _. Piece) [
  | true ↦ only_ending (IsOver (Passes FileSize))
  | false ↦ elim many as (λ _. Piece) [
    | true ↦ only_ending (IsOver (Passes AllFiles))
    | false ↦ piece
  ]
]

module _ (limits : Limits) (bytes : List ℕ) (s : UnitState) (next : UnitState → Piece) where
  pub sized-large : limits.file_size < length bytes → sized limits bytes s next ≡ only_ending (IsOver (Passes FileSize))
  sized-large large = ap (λ b. sized_by b (nat_lt limits.all_files (s.bytes + length bytes)) (next (record s { bytes = s.bytes + length bytes }))) (lt-ltb limits.file_size (length bytes) large)

  pub sized-small : length bytes ≤ limits.file_size → s.bytes + length bytes ≤ limits.all_files → sized limits bytes s next ≡ next (record s { bytes = s.bytes + length bytes })
  sized-small small few =
      ap (λ b. sized_by b (nat_lt limits.all_files (s.bytes + length bytes)) (next (record s { bytes = s.bytes + length bytes }))) (le-ltb limits.file_size (length bytes) small)
      ∙ ap (λ b. sized_by false b (next (record s { bytes = s.bytes + length bytes }))) (le-ltb limits.all_files (s.bytes + length bytes) few)

-- a file that is larger than the limit
pub long-piece : (setting : Setting) (path : List ℕ) (found : Option (List ℕ)) (s : UnitState) → IsSomeAnd found (λ bytes. setting.limits.file_size < length bytes) → main_piece_of setting path found s ≡ only_ending (IsOver (Passes FileSize))
long-piece setting path None s large = absurd large
long-piece setting path (Some bytes) s large =
    sized-large setting.limits bytes s (file_piece setting.value (reader setting setting.limits.include_depth) (record { path = path; bytes = bytes })) large

-- All of a unit

module _ (options : unit.Options) (files : FileMap) (path : List ℕ) where
  abbrev setting : Setting
  setting = setting_of options files answer_of

  abbrev pub all_of_unit : Piece
  all_of_unit = and_then (command_piece setting (first_state unit_limits path)) (main_piece setting path)

  pub unit-is : (names : List (List ℕ)) (state : State) (s : UnitState) → Holds names path state s → tokens_before (put_of names state) (only_ending (Continues s)) ≡ all_of_unit
      → IsPreprocessedUnit options files path (record { tokens = put_of names state; end = Ends (toks_of names state.undefined.items) s.paths })
  unfolding preprocessed
  unit-is names state s holds is = (
    answer_of,
    answers_exist,
    ap (λ (all : Piece). record { tokens = all.tokens; end = unit_end all.ending }) capped_is
        ∙ λ i. record { tokens = append-nil (put_of names state) i; end = Ends (sym holds.undefined i) s.paths },
  )
    where
      capped_is : capped unit_limits.unit_tokens all_of_unit ≡ tokens_before (put_of names state) (only_ending (Continues s))
      capped_is = ap (capped unit_limits.unit_tokens) (sym is)
          ∙ capped-within unit_limits.unit_tokens (tokens_before (put_of names state) (only_ending (Continues s)))
          (omega (arith, holds.few, length-append (put_of names state) [], length-map state.tokens.items (tok_of names)))

  pub unit-ends : (names : List (List ℕ)) (fault : PreFault) → EndsUnit names all_of_unit fault → EndsEarlySo options files path names fault
  unfolding preprocessed
  unit-ends names fault ends = by (stop_of names fault) ends
    where
      by : (found : Option Stop) → IfSome found (λ stop. (capped unit_limits.unit_tokens all_of_unit).ending ≡ IsOver stop)
          → IfSome found (λ stop. (whole : unit.PreprocessedUnit) × (whole.end ≡ EndsEarly stop) × IsPreprocessedUnit options files path whole)
      by None is = tt
      by (Some stop) is = (preprocessed answer_of options files path, ap unit_end is, (answer_of, answers_exist, refl))

  -- the unit that is handed out is that
  pub unit-made : (names : List (List ℕ)) (state : State) (s : UnitState) (found : UnitTokens) → Holds names path state s → tokens_before (put_of names state) (only_ending (Continues s)) ≡ all_of_unit
      → found.tokens ≡ state.tokens.items → found.undef_tokens ≡ state.undefined.items → found.files ≡ state.paths.items → IsUnit options files path names found
  unit-made names state s found holds is tokens undefined paths = (
    s.paths,
    ap (map (text_of names)) paths ∙ holds.paths,
    subst (λ (whole : unit.PreprocessedUnit). IsPreprocessedUnit options files path whole)
        (λ i. record { tokens = toks_of names (sym tokens i); end = Ends (toks_of names (sym undefined i)) s.paths })
        (unit-is names state s holds is),
  )

  -- before the first line nothing was put
  pub begins : (names : List (List ℕ)) (state : State) (directories : List (List ℕ)) (text : List ℕ) → state.tokens.items ≡ [] → directories ≡ options.directories → text ≡ options.command
      → tokens_before (put_of names state)
      (and_then (text_of_file answer_of (reader (setting_of (record { directories = directories; command = options.command }) files answer_of) unit_limits.include_depth) 0 text (first_state unit_limits path))
      (main_piece (setting_of (record { directories = directories; command = options.command }) files answer_of) path))
      ≡ all_of_unit
  begins names state directories text empty same is = λ i.
      tokens_before (toks_of names (empty i))
      (and_then (text_of_file answer_of (reader (setting_of (record { directories = same i; command = options.command }) files answer_of) unit_limits.include_depth) 0 (is i) (first_state unit_limits path))
      (main_piece (setting_of (record { directories = same i; command = options.command }) files answer_of) path))

-- what is handed out of a state is known
pub unit-known : (names : List (List ℕ)) (state : State) → IsHeld names state → (found : UnitTokens) → found.tokens ≡ state.tokens.items → found.undef_tokens ≡ state.undefined.items → found.files ≡ state.paths.items → IsKnownUnit names found
unit-known names state held found tokens undefined paths = record {
  tokens = subst (AreKnown names) (sym tokens) held.2.tokens_known;
  undef_tokens = subst (AreKnown names) (sym undefined) held.2.undefined_known;
  files = subst (All (IsKnown names)) (sym paths) held.2.paths_known;
}

-- want of memory is no failed load
pub memory-err : {T : Type 0} (result : Result T PreFault) → IsErrAnd result (λ fault. fault ≡ Memory) → result ≡ Err ReadFault → ⊥
memory-err {T} result memory is = subst (IsFaultInText []) (sym (subst (λ (r : Result T PreFault). IsErrAnd r (λ fault. fault ≡ Memory)) is memory)) tt

-- the same fault, of another call
pub fault-err : {T E : Type 0} (fault : PreFault) → ◌≡◌ {A = Result T PreFault} (Err fault) (Err ReadFault) → ◌≡◌ {A = Result E PreFault} (Err fault) (Err ReadFault)
fault-err {T} {E} fault is = ap (λ (r : Result T PreFault). by r) is
  where
    by : Result T PreFault → Result E PreFault
    by (Ok done) = Err fault
    by (Err told) = Err told

-- The calls

-- one that reads the command, and then one that reads the file
pub loaded-both : (first mid last : List Loaded) (held between holds : Option FileMap) (before midst now : ℕ) (done : Unit) (told : Type 0) → HasLoaded first mid held between before midst (◌≡◌ {A = Result Unit PreFault} (Ok done) (Err ReadFault))
    → HasLoaded mid last between holds midst now told → HasLoaded first last held holds before now told
loaded-both first mid last held between holds before midst now done told has then_ = loaded-then first mid last held between holds before midst now _ told (ok-err done ReadFault) has then_
