-- What comes of the texts that a unit begins with.
use Rattle.std.proofs.Common.{◌≡◌, ◌≤◌, ℕ, List, [], ◌∷◌, ◌++◌, length, drop, Option, Some, None, IfSome, Result, Ok, Err, sym, ap, subst, ◌∙◌, arith, length-append}
use Rattle.std.proofs.lemmas.List.{length-map}
use Rattle.vocabulary.specs.declared.error_kind.ErrorKind.TheVariants.{NoSuchFile}
use Rattle.meaning_outside.specs.Files.{FileMap, file_at}
use Rattle.meaning_outside.specs.Loads.{Loaded, AgreesWith, EachPathIsLoadedOnce}
use Rattle.meaning_text.specs.Places.{main_file, start_of}
use Rattle.meaning_text.specs.Tokens.{LexesFile}
use Rattle.meaning_preprocessing.specs.Groups.{Evaluation}
use Rattle.meaning_preprocessing.specs.State.{UnitState, Stop, Continues, IsOver, Piece, and_then, only_ending, refused, tokens_before}
use Rattle.meaning_preprocessing.specs.Unit.{Reader, main_piece, main_piece_of, over_parts, reader, text_of_file, unit_limits, capped}
use Rattle.c_tokens.specs.declared.token.Token.{Token}
use Rattle.c_tokens.specs.Spellings.{AreApart}
use Rattle.c_tokens.specs.Seen.{Extends, tok_of, toks_of}
use Rattle.c_directives.specs.Conditions.{AreKnown}
use Rattle.c_directives.specs.Lines.{parts_of}
use Rattle.c_directives.specs.PartEnds.{ArePartEnds}
use Rattle.c_preproc.specs.Begins.{IsReadCommand, IsReadMain}
use Rattle.c_preproc.specs.Kept.{found_at, tokens_kept}
use Rattle.c_preproc.specs.Loads.{IsFresh, IsLooked, IsSource, IsTooLong, KeepsLoads, paths_seen}
use Rattle.c_preproc.specs.Opens.{IsOpened, opened_piece}
use Rattle.c_preproc.specs.States.{EndsUnit, GoesOn, Holds, IsHeld, put_of, stop_of}
use Rattle.c_preproc.specs.Steps.{IsReadWhole, directories_alone}
use Rattle.c_preproc.specs.Units.{setting_of}
use Rattle.c_preproc.specs.declared.kept.Kept.{Kept}
use Rattle.c_preproc.specs.declared.kept.KeptFile.{KeptFile}
use Rattle.c_preproc.specs.declared.loads.Source.{Source}
use Rattle.c_preproc.specs.declared.pre_fault.PreFault.{PreFault}
use Rattle.c_preproc.specs.declared.state.State.{State}
use Rattle.c_preproc.proofs.FileLemmas.{text-read}
use Rattle.c_preproc.proofs.IncludeLemmas.{keeps-held}
use Rattle.c_preproc.proofs.KeptLemmas.{keeps-first}
use Rattle.c_preproc.proofs.PieceLemmas.{capped-within}
use Rattle.c_preproc.proofs.StateLemmas.{Holds-later, put-later, put-same}
use Rattle.c_preproc.proofs.UnitLemmas.{long-piece, then-nothing}

-- what ends at once ends the unit, behind what was put
pub ends-so : (names later : List (List ℕ)) (path : List ℕ) (state : State) (s : UnitState) → Holds names path state s → (fault : PreFault) (piece : Piece) → IfSome (stop_of later fault) (λ stop. piece ≡ only_ending (IsOver stop))
    → EndsUnit later (tokens_before (put_of names state) piece) fault
ends-so names later path state s holds fault piece ends = by (stop_of later fault) ends
  where
    by : (found : Option Stop) → IfSome found (λ stop. piece ≡ only_ending (IsOver stop)) → IfSome found (λ stop. (capped unit_limits.unit_tokens (tokens_before (put_of names state) piece)).ending ≡ IsOver stop)
    by None is = tt
    by (Some stop) is =
        ap (λ p. (capped unit_limits.unit_tokens (tokens_before (put_of names state) p)).ending) is
        ∙ ap (λ (p : Piece). p.ending) (capped-within unit_limits.unit_tokens (tokens_before (put_of names state) (only_ending (IsOver stop)))
        (omega (arith, holds.few, length-append (put_of names state) [], length-map state.tokens.items (tok_of names))))

-- the paths of the files are spelled as before
pub paths-later : (names later : List (List ℕ)) → Extends names later → AreApart later → (path : List ℕ) (state : State) (s : UnitState) → Holds names path state s → paths_seen later state ≡ paths_seen names state
paths-later names later more apart path state s holds = ap (drop 1) ((Holds-later names later more apart path state s holds).paths ∙ sym holds.paths)

-- `<command>`

-- it is the first that is kept
pub command-kept : (names mid : List (List ℕ)) → Extends names mid → AreApart mid → (old : State) → IsHeld names old → drop 1 (paths_seen names old) ≡ [] → (before now : Kept) → IsFresh before → (file : KeptFile) → now.files.items ≡ before.files.items ++ file ∷ []
    → now.paths ≡ before.paths → AreKnown mid file.tokens.items → length file.tokens.items ≤ file.bytes → ArePartEnds mid file.tokens.items file.ends.entries → KeepsLoads mid (paths_seen mid old) [] now
command-kept names mid more apart old held one before now fresh file items paths known small ends =
    keeps-first mid (paths_seen mid old) now file (ap (drop 1) (paths-later names mid more apart held.0 old held.1 held.2) ∙ one)
    (λ id. ap (λ found. found_at (record before { paths = found }) id) paths ∙ fresh.none id) (items ∙ ap (λ files. files ++ file ∷ []) fresh.files) known small ends

module _ (names mid later : List (List ℕ)) (more : Extends names mid) (apart : AreApart mid) (old new : State) (given : List Loaded) (kept now : Kept) (directories : List (List ℕ)) (place : ℕ) (text : List ℕ) (tokens : List Token)
    (lexes : LexesFile 0 text (toks_of mid tokens)) (there : tokens_kept kept.files.items place ≡ tokens) where
  command-is : (value : Evaluation) (include : Reader) (path : List ℕ) (s : UnitState) → Holds names path old s → (end : UnitState → Piece)
      → tokens_before (put_of mid old) (and_then (over_parts value include (parts_of mid (tokens_kept kept.files.items place)) [] s) end) ≡ tokens_before (put_of names old) (and_then (text_of_file value include 0 text s) end)
  command-is value include path s holds end =
      ap (λ (ts : List Token). tokens_before (put_of mid old) (and_then (over_parts value include (parts_of mid ts) [] s) end)) there
      ∙ ap (λ piece. tokens_before (put_of mid old) (and_then piece end)) (sym (text-read value include mid 0 text s tokens lexes))
      ∙ ap (λ put. tokens_before put (and_then (text_of_file value include 0 text s) end)) (put-later names mid more path old s holds)

  -- its text is read to its end
  pub command-read : (result : Result Unit PreFault) → IsReadWhole mid later old new given kept now directories place result → IsReadCommand names later old new given now directories text result
  command-read (Ok done) is = (
    is.0,
    λ value files command path s end right agrees holds.
        subst (λ whole. GoesOn later path new whole end) (command-is value (reader (setting_of (directories_alone directories command) files value) unit_limits.include_depth) path s holds end)
        (is.1 value files command path s end right agrees (Holds-later names mid more apart path old s holds)),
  )
  command-read (Err fault) is = (
    is.0,
    λ value files command path s end right agrees holds.
        subst (λ whole. EndsUnit later whole fault) (command-is value (reader (setting_of (directories_alone directories command) files value) unit_limits.include_depth) path s holds end)
        (is.1 value files command path s end right agrees (Holds-later names mid more apart path old s holds)),
  )

-- The file that a unit is of

-- it was found
pub main-found : (names mid : List (List ℕ)) (main : List ℕ) (state : State) (s : UnitState) → Holds names main state s → (earlier more : List Loaded) (old kept : Kept) (path : List ℕ) (found : Option Source) (source : Source) → found ≡ Some source
    → ((known : List (List ℕ)) (given : List Loaded) → KeepsLoads names known given old → IsLooked mid known (given ++ more) kept path (Ok found)) → KeepsLoads names (paths_seen names state) earlier old → IsSource mid s.paths (earlier ++ more) kept path source
main-found names mid main state s holds earlier more old kept path found source is looked keeps =
    subst (λ there. IsLooked mid s.paths (earlier ++ more) kept path (Ok there)) is (looked s.paths earlier (keeps-held names main state s holds earlier old keeps))

-- what is kept is kept for the paths that the state has
pub held-keeps : (names : List (List ℕ)) (main : List ℕ) (state : State) (s : UnitState) → Holds names main state s → (given : List Loaded) (kept : Kept) → KeepsLoads names s.paths given kept → KeepsLoads names (paths_seen names state) given kept
held-keeps names main state s holds given kept keeps = subst (λ paths. KeepsLoads names paths given kept) (sym (ap (drop 1) holds.paths)) keeps

module _ (names : List (List ℕ)) (old : State) (directories : List (List ℕ)) (path : List ℕ) where
  -- it was opened, and is read to its end
  pub main-read : (mid later : List (List ℕ)) → Extends names mid → (between new : State) → between.tokens ≡ old.tokens → (given all : List Loaded) → ((files : FileMap) → AgreesWith files all → AgreesWith files given)
      → (kept now : Kept) (place : ℕ) → ((s : UnitState) → Holds names path old s → IsOpened mid path between given kept path 0 s (Ok place))
      → (result : Result Unit PreFault) → IsReadWhole mid later between new all kept now directories place result → IsReadMain names later old new all directories path result
  main-read mid later first between new put given all agree kept now place opened result is = by result is
    where
      main-is : (value : Evaluation) (files : FileMap) (command : List ℕ) (s : UnitState) → AgreesWith files all → (holds : Holds names path old s)
          → tokens_before (put_of mid between)
          (and_then (over_parts value (reader (setting_of (directories_alone directories command) files value) unit_limits.include_depth) (parts_of mid (tokens_kept kept.files.items place)) [] (opened s holds).0) (λ u. only_ending (Continues u)))
          ≡ tokens_before (put_of names old) (main_piece (setting_of (directories_alone directories command) files value) path s)
      main-is value files command s agrees holds =
          let setting_here = setting_of (directories_alone directories command) files value in
          let include = reader setting_here unit_limits.include_depth in
          let t = (opened s holds).0 in
          let there = (opened s holds).4 files (agree files agrees) in
          (λ i. tokens_before (put-same names mid first path old between s holds put i) (then-nothing (over_parts value include (parts_of mid (tokens_kept kept.files.items place)) [] t) i))
          ∙ ap (tokens_before (put_of names old)) (sym (there.2 value include) ∙ ap (λ found. main_piece_of setting_here path found s) (sym there.1))

      by : (done : Result Unit PreFault) → IsReadWhole mid later between new all kept now directories place done → IsReadMain names later old new all directories path done
      by (Ok done) whole = (
        whole.0.once,
        λ value files command s right agrees holds.
            subst (λ piece. GoesOn later path new piece (λ u. only_ending (Continues u))) (main-is value files command s agrees holds)
            (whole.1 value files command path (opened s holds).0 (λ u. only_ending (Continues u)) right agrees (opened s holds).1),
      )
      by (Err fault) whole = (
        whole.0,
        λ value files command s right agrees holds.
            subst (λ piece. EndsUnit later piece fault) (main-is value files command s agrees holds)
            (whole.1 value files command path (opened s holds).0 (λ u. only_ending (Continues u)) right agrees (opened s holds).1),
      )

  -- it ends the unit where it is opened
  pub main-refused : (later : List (List ℕ)) (new between : State) (given : List Loaded) (kept : Kept) (fault : PreFault) → EachPathIsLoadedOnce given → ((s : UnitState) → Holds names path old s → IsOpened later path between given kept path 0 s (Err fault))
      → IsReadMain names later old new given directories path (Err fault)
  main-refused later new between given kept fault once opened = (
    once,
    λ value files command s right agrees holds.
        let setting_here = setting_of (directories_alone directories command) files value in
        let there = (opened s holds).1 files agrees in
        subst (λ found. EndsUnit later (tokens_before (put_of names old) (main_piece_of setting_here path found s)) fault) (sym there.1)
        (ends-so names later path old s holds fault (opened_piece value (reader setting_here unit_limits.include_depth) 0 (record { path = path; bytes = there.0 }) s) (there.2 value (reader setting_here unit_limits.include_depth))),
  )

  -- there is none
  pub main-missing : (mid later : List (List ℕ)) (new : State) (known : List (List ℕ)) (given : List Loaded) (kept : Kept) (fault : PreFault) → IsLooked mid known given kept path (Ok None)
      → ((s : UnitState) → Holds names path old s → IfSome (stop_of later fault) (λ stop. stop ≡ refused s NoSuchFile (start_of main_file) path)) → IsReadMain names later old new given directories path (Err fault)
  main-missing mid later new known given kept fault looked told = (
    looked.0.once,
    λ value files command s right agrees holds.
        let setting_here = setting_of (directories_alone directories command) files value in
        subst (λ found. EndsUnit later (tokens_before (put_of names old) (main_piece_of setting_here path found s)) fault) (sym (looked.1 files agrees))
        (ends-so names later path old s holds fault (main_piece_of setting_here path None s) (by (stop_of later fault) s (told s holds))),
  )
    where
      by : (found : Option Stop) (s : UnitState) → IfSome found (λ stop. stop ≡ refused s NoSuchFile (start_of main_file) path)
          → IfSome found (λ stop. only_ending (IsOver (refused s NoSuchFile (start_of main_file) path)) ≡ only_ending (IsOver stop))
      by None s is = tt
      by (Some stop) s is = ap (λ end. only_ending (IsOver end)) (sym is)

  -- looking for it ends the unit
  pub main-fault : (later : List (List ℕ)) (new : State) (known : List (List ℕ)) (given : List Loaded) (kept : Kept) (fault : PreFault) → IsLooked later known given kept path (Err fault) → IsReadMain names later old new given directories path (Err fault)
  main-fault later new known given kept fault looked = (
    looked.0,
    λ value files command s right agrees holds.
        let setting_here = setting_of (directories_alone directories command) files value in
        ends-so names later path old s holds fault (main_piece setting_here path s) (by value files command s (stop_of later fault) (looked.1 files agrees)),
  )
    where
      by : (value : Evaluation) (files : FileMap) (command : List ℕ) (s : UnitState) (found : Option Stop) → IfSome found (IsTooLong (file_at files path))
          → IfSome found (λ stop. main_piece (setting_of (directories_alone directories command) files value) path s ≡ only_ending (IsOver stop))
      by value files command s None long = tt
      by value files command s (Some stop) long =
          long-piece (setting_of (directories_alone directories command) files value) path (file_at files path) s long.1 ∙ ap (λ end. only_ending (IsOver end)) (sym long.0)
