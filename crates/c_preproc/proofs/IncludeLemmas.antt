-- What comes of a file that is asked for.
use Rattle.std.proofs.Common.{◌≡◌, ◌<◌, ◌+◌, ◌-◌, ℕ, List, length, drop, Option, Some, None, IfSome, IsSomeAnd, Result, Ok, Err, refl, sym, ap, subst, ◌∙◌}
use Rattle.vocabulary.specs.declared.error_kind.ErrorKind.TheVariants.{IncludeNotFound}
use Rattle.meaning_outside.specs.Files.{FileMap, file_at}
use Rattle.meaning_outside.specs.Loads.{Loaded}
use Rattle.meaning_preprocessing.specs.Groups.{Evaluation}
use Rattle.meaning_preprocessing.specs.Search as search
use Rattle.meaning_preprocessing.specs.Search.{FoundFile, first_found, name_of_header, paths_for}
use Rattle.meaning_preprocessing.specs.State.{UnitState, Stop, IsOver, Piece, only_ending, refused}
use Rattle.meaning_preprocessing.specs.Unit.{Setting, reader}
use Rattle.c_tokens.specs.Seen.{Extends}
use Rattle.c_tokens.proofs.SeenLemmas.{text_of-Extends}
use Rattle.c_directives.specs.Headers.{IsKnownHeader, header_seen}
use Rattle.c_directives.specs.declared.header.Header.{Header}
use Rattle.c_directives.specs.declared.header.Header.TheVariants.{InQuotes, InAngles}
use Rattle.c_preproc.specs.Loads.{IsSearched, IsTooLong, KeepsLoads, bytes_found, paths_seen}
use Rattle.c_preproc.specs.Opens.{IsIncluded, IsOpened}
use Rattle.c_preproc.specs.States.{Holds, stop_of}
use Rattle.c_preproc.specs.Steps.{directories_alone}
use Rattle.c_preproc.specs.Units.{setting_of}
use Rattle.c_preproc.specs.declared.kept.Kept.{Kept}
use Rattle.c_preproc.specs.declared.loads.Source.{Source}
use Rattle.c_preproc.specs.declared.pre_fault.PreFault.{PreFault}
use Rattle.c_preproc.specs.declared.state.State.{State}
use Rattle.c_preproc.proofs.OpenLemmas.{opened-long, reader-found, reader-missing}

-- a header is the same where the table of names grows
pub header-later : (names later : List (List ℕ)) → Extends names later → (header : Header) → IsKnownHeader names header → header_seen later header ≡ header_seen names header
header-later names later more (InQuotes name) known = ap search.InQuotes (text_of-Extends names later more name known)
header-later names later more (InAngles name) known = ap search.InAngles (text_of-Extends names later more name known)

-- the paths of the files are those that the state has
pub keeps-held : (names : List (List ℕ)) (main : List ℕ) (state : State) (s : UnitState) → Holds names main state s → (given : List Loaded) (kept : Kept) → KeepsLoads names (paths_seen names state) given kept → KeepsLoads names s.paths given kept
keeps-held names main state s holds given kept keeps = subst (λ paths. KeepsLoads names paths given kept) (ap (drop 1) holds.paths) keeps

module _ (names : List (List ℕ)) (main : List ℕ) (state : State) (given : List Loaded) (kept : Kept) (directories : List (List ℕ)) (request : search.HeaderRequest) (depth : ℕ) (s : UnitState)
    (wanted : List (List ℕ)) (are : wanted ≡ paths_for request.header request.asking directories) where
  first_is : (files : FileMap) (found : Option FoundFile) → first_found (file_at files) wanted ≡ found → first_found (file_at files) (paths_for request.header request.asking directories) ≡ found
  first_is files found is = ap (first_found (file_at files)) (sym are) ∙ is

  -- it is found, and opened
  pub included-place : (before : List (List ℕ)) (old : Kept) (source : Source) (found : IsSearched before s.paths given old wanted (Ok (Some source))) (place : ℕ) → IsOpened names main state given kept found.0 depth s (Ok place)
      → IsIncluded names main state given kept directories request depth s (Ok place)
  included-place before old source found place opened = (
    opened.0,
    opened.1,
    opened.2,
    opened.3,
    λ value files command deeper agrees fits.
        let there = opened.4 files agrees in
        reader-found (directories_alone directories command) files value depth deeper fits request s (record { path = found.0; bytes = there.0 }) (first_is files _ (found.2 files agrees there.0 there.1))
        ∙ there.2 value (reader (setting_of (directories_alone directories command) files value) (deeper - 1)),
  )

  -- it is found, and ends the unit
  pub included-refused : (before : List (List ℕ)) (old : Kept) (source : Source) (found : IsSearched before s.paths given old wanted (Ok (Some source))) (fault : PreFault) → IsOpened names main state given kept found.0 depth s (Err fault)
      → IsIncluded names main state given kept directories request depth s (Err fault)
  included-refused before old source found fault opened = (
    opened.0,
    λ value files command deeper agrees fits.
        let there = opened.1 files agrees in
        let setting = setting_of (directories_alone directories command) files value in
        let file : FoundFile = record { path = found.0; bytes = there.0 } in
        by setting deeper file (reader-found (directories_alone directories command) files value depth deeper fits request s file (first_is files _ (found.2 files agrees there.0 there.1))) (stop_of names fault)
        (there.2 value (reader setting (deeper - 1))),
  )
    where
      by : (setting : Setting) (deeper : ℕ) (file : FoundFile) {piece : Piece} → reader setting deeper request s ≡ piece → (found_stop : Option Stop) → IfSome found_stop (λ stop. piece ≡ only_ending (IsOver stop))
          → IfSome found_stop (λ stop. reader setting deeper request s ≡ only_ending (IsOver stop))
      by setting deeper file is None stops = tt
      by setting deeper file is (Some stop) stops = is ∙ stops

  -- what opening it comes to
  pub included-opened : (before : List (List ℕ)) (old : Kept) (source : Source) (found : IsSearched before s.paths given old wanted (Ok (Some source))) (result : Result ℕ PreFault) → IsOpened names main state given kept found.0 depth s result
      → IsIncluded names main state given kept directories request depth s result
  included-opened before old source found (Ok place) opened = included-place before old source found place opened
  included-opened before old source found (Err fault) opened = included-refused before old source found fault opened

  -- the search ends the unit
  pub included-fault : (before : List (List ℕ)) (old : Kept) (fault : PreFault) → IsSearched before s.paths given old wanted (Err fault) → stop_of before fault ≡ stop_of names fault → IsIncluded names main state given kept directories request depth s (Err fault)
  included-fault before old fault found same = (
    found.0,
    λ value files command deeper agrees fits.
        by value files command deeper fits (first_found (file_at files) wanted) refl (stop_of names fault)
        (subst (λ (o : Option Stop). IfSome o (IsTooLong (bytes_found (first_found (file_at files) wanted)))) same (found.1 files agrees)),
  )
    where
      by : (value : Evaluation) (files : FileMap) (command : List ℕ) (deeper : ℕ) → depth + deeper ≡ 201 → (there : Option FoundFile) → first_found (file_at files) wanted ≡ there → (stop : Option Stop)
          → IfSome stop (IsTooLong (bytes_found (first_found (file_at files) wanted)))
          → IfSome stop (λ found_stop. reader (setting_of (directories_alone directories command) files value) deeper request s ≡ only_ending (IsOver found_stop))
      by value files command deeper fits there is None long = tt
      by value files command deeper fits None is (Some stop) long = absurd (subst (λ (o : Option FoundFile). IsSomeAnd (bytes_found o) (λ bytes. 8388608 < length bytes)) is long.1)
      by value files command deeper fits (Some file) is (Some stop) long =
          reader-found (directories_alone directories command) files value depth deeper fits request s file (first_is files (Some file) is)
          ∙ opened-long value (reader (setting_of (directories_alone directories command) files value) (deeper - 1)) depth file s
          (subst (λ (o : Option FoundFile). IsSomeAnd (bytes_found o) (λ bytes. 8388608 < length bytes)) is long.1)
          ∙ ap (λ end. only_ending (IsOver end)) (sym long.0)

  -- there is none
  pub included-missing : (before : List (List ℕ)) (old : Kept) (fault : PreFault) → IsSearched before s.paths given old wanted (Ok None) → stop_of names fault ≡ Some (refused s IncludeNotFound request.place (name_of_header request.header))
      → IsIncluded names main state given kept directories request depth s (Err fault)
  included-missing before old fault found told = (
    found.0.once,
    λ value files command deeper agrees fits.
        subst (λ (o : Option Stop). IfSome o (λ stop. reader (setting_of (directories_alone directories command) files value) deeper request s ≡ only_ending (IsOver stop))) (sym told)
        (reader-missing (directories_alone directories command) files value depth deeper fits request s (first_is files None (found.1 files agrees))),
  )
