-- Files that are opened, and those that wait for them.
use Rattle.std.proofs.Common.{◌≡◌, ◌<◌, ◌≤◌, ◌+◌, ◌-◌, ◌⊎◌, ℕ, zero, suc, Bool, true, false, nat_eq, nat_lt, List, [], ◌∷◌, ◌++◌, length, drop, All, Option, Some, None, IfSome, if◌then◌else◌, refl, sym, ap, subst, ◌∙◌, ⊎_elim, arith}
use Rattle.std.specs.Map.{lookup}
use Rattle.std.proofs.lemmas.Bool.{lt-ltb, le-ltb}
use Rattle.std.proofs.lemmas.List.Elements.{All-drop, All-head, All-tail}
use Rattle.vocabulary.specs.declared.limit.LimitKind.TheVariants.{AllFiles, FileSize, IncludeDepth}
use Rattle.vocabulary.specs.declared.error_kind.ErrorKind.TheVariants.{IncludeNotFound}
use Rattle.meaning_outside.specs.Files.{FileMap, file_at}
use Rattle.meaning_text.specs.Lexing.{Lexed}
use Rattle.meaning_preprocessing.specs.Groups.{Evaluation, are_read}
use Rattle.meaning_preprocessing.specs.Lines.{file_parts, lines_of}
use Rattle.meaning_preprocessing.specs.Search as search
use Rattle.meaning_preprocessing.specs.Search.{FoundFile, first_found, name_of_header, paths_for}
use Rattle.meaning_preprocessing.specs.State.{UnitState, Passes, IsOver, Piece, only_ending, and_then, refused, paths_with}
use Rattle.meaning_preprocessing.specs.Unit as unit
use Rattle.meaning_preprocessing.specs.Unit.{Limits, Setting, Reader, file_piece, found_piece, lexed_piece, over_parts, reader, sized, unit_limits}
use Rattle.c_tokens.specs.declared.token.Token.{Token}
use Rattle.c_tokens.specs.Seen.{Extends, IsKnown}
use Rattle.c_tokens.proofs.SeenLemmas.{slice_get-append, toks_of-Extends}
use Rattle.c_directives.specs.Conditions.{AreKnown}
use Rattle.c_directives.specs.Groups.{groups_seen}
use Rattle.c_directives.specs.Lines.{parts_of}
use Rattle.c_directives.specs.PartEnds.{ArePartEnds}
use Rattle.c_preproc.specs.Kept.{ends_kept, tokens_in_kept, tokens_kept}
use Rattle.c_preproc.specs.Loads.{IsFileOf, IsPlace}
use Rattle.c_preproc.specs.Numbers.{IsPassed}
use Rattle.c_preproc.specs.Opens.{FilesStay, IsWorthAsMuch, left_in, left_of, open_piece, opened_piece, read_at, waiting_piece}
use Rattle.c_preproc.specs.States.{stop_of}
use Rattle.c_preproc.specs.Units.{setting_of}
use Rattle.c_preproc.specs.declared.file.OpenFile.{OpenFile}
use Rattle.c_preproc.specs.declared.kept.KeptFile.{KeptFile}
use Rattle.c_preproc.specs.declared.pre_fault.PreFault.{PreFault}
use Rattle.c_preproc.proofs.UnitLemmas.{sized-large, sized-small}

-- The limits of files

abbrev sized_many : Bool → Bool → Piece → Piece
sized_many large many piece = elim large as (λ _. Piece) [
  | true ↦ only_ending (IsOver (Passes FileSize))
  | false ↦ elim many as (λ _. Piece) [
    | true ↦ only_ending (IsOver (Passes AllFiles))
    | false ↦ piece
  ]
]

pub sized-many : (limits : Limits) (bytes : List ℕ) (s : UnitState) (next : UnitState → Piece) → length bytes ≤ limits.file_size → limits.all_files < s.bytes + length bytes → sized limits bytes s next ≡ only_ending (IsOver (Passes AllFiles))
sized-many limits bytes s next small many =
    ap (λ b. sized_many b (nat_lt limits.all_files (s.bytes + length bytes)) (next (record s { bytes = s.bytes + length bytes }))) (le-ltb limits.file_size (length bytes) small)
    ∙ ap (λ b. sized_many false b (next (record s { bytes = s.bytes + length bytes }))) (lt-ltb limits.all_files (s.bytes + length bytes) many)

module _ (value : Evaluation) (include : Reader) (depth : ℕ) (found : FoundFile) (s : UnitState) where
  -- it is read
  pub opened-enters : length found.bytes ≤ unit_limits.file_size → s.bytes + length found.bytes ≤ unit_limits.all_files → depth ≤ 200
      → opened_piece value include depth found s ≡ file_piece value include found (record s { bytes = s.bytes + length found.bytes })
  opened-enters small few shallow =
      let t : UnitState = record s { bytes = s.bytes + length found.bytes } in
      sized-small unit_limits found.bytes s (read_at value include depth found) small few
      ∙ ap (λ b. if b then only_ending (IsOver (Passes IncludeDepth)) else file_piece value include found t) (le-ltb 200 depth shallow)

  -- it is too large
  pub opened-long : unit_limits.file_size < length found.bytes → opened_piece value include depth found s ≡ only_ending (IsOver (Passes FileSize))
  opened-long large = sized-large unit_limits found.bytes s (read_at value include depth found) large

  -- it is too large with the others, or too deep
  pub opened-passed : (names : List (List ℕ)) (fault : PreFault) → length found.bytes ≤ unit_limits.file_size → IsPassed s.bytes (length found.bytes) depth fault
      → IfSome (stop_of names fault) (λ stop. opened_piece value include depth found s ≡ only_ending (IsOver stop))
  opened-passed names fault small passed = ⊎_elim
      (λ many. subst (λ f. IfSome (stop_of names f) (λ stop. opened_piece value include depth found s ≡ only_ending (IsOver stop))) (sym many.0)
      (sized-many unit_limits found.bytes s (read_at value include depth found) small many.1))
      (λ deep. subst (λ f. IfSome (stop_of names f) (λ stop. opened_piece value include depth found s ≡ only_ending (IsOver stop))) (sym deep.0)
      (let t : UnitState = record s { bytes = s.bytes + length found.bytes } in
      sized-small unit_limits found.bytes s (read_at value include depth found) small deep.1
      ∙ ap (λ b. if b then only_ending (IsOver (Passes IncludeDepth)) else file_piece value include found t) (lt-ltb 200 depth deep.2)))
      passed

-- a file that is kept is what its tokens are
pub kept-piece : (names : List (List ℕ)) (files : List KeptFile) (path bytes : List ℕ) (place : ℕ) (t : UnitState) → IsFileOf names t.paths files path bytes place → (value : Evaluation) (include : Reader)
    → file_piece value include (record { path = path; bytes = bytes }) t ≡ over_parts value include (parts_of names (tokens_kept files place)) [] t
kept-piece names files path bytes place t is value include =
    ap (λ (lexed : Lexed). lexed_piece value include lexed (record t { paths = paths_with path t.paths })) is.tokens
    ∙ ap (λ (paths : List (List ℕ)). over_parts value include (parts_of names (tokens_kept files place)) [] (record t { paths = paths })) is.numbered

-- The search

module _ (options : unit.Options) (files : FileMap) (value : Evaluation) (depth deeper : ℕ) (fits : depth + deeper ≡ 201) (request : search.HeaderRequest) (s : UnitState) where
  abbrev this_setting : Setting
  this_setting = setting_of options files value

  abbrev found_first : Option FoundFile
  found_first = first_found (file_at files) (paths_for request.header request.asking options.directories)

  abbrev read_so : Option FoundFile → Piece
  read_so found = found_piece this_setting (λ file u. read_at value (reader this_setting (deeper - 1)) depth file u) request found s

  reader-by : (d : ℕ) → depth + d ≡ 201 → reader this_setting d request s ≡ found_piece this_setting (λ file u. read_at value (reader this_setting (d - 1)) depth file u) request found_first s
  unfolding reader
  reader-by zero is =
      let deep : 200 < depth = omega (arith, is) in
      ap (λ (b : Bool). found_piece this_setting (λ file u. if b then only_ending (IsOver (Passes IncludeDepth)) else file_piece value (reader this_setting (zero - 1)) file u) request found_first s)
      (sym (lt-ltb 200 depth deep))
  reader-by (suc d) is =
      let shallow : depth ≤ 200 = omega (arith, is) in
      let less : d ≡ suc d - 1 = omega arith in
      ap (λ n. found_piece this_setting (file_piece value (reader this_setting n)) request found_first s) less
      ∙ ap (λ (b : Bool). found_piece this_setting (λ file u. if b then only_ending (IsOver (Passes IncludeDepth)) else file_piece value (reader this_setting (suc d - 1)) file u) request found_first s)
      (sym (le-ltb 200 depth shallow))

  reader-is : reader this_setting deeper request s ≡ read_so found_first
  reader-is = reader-by deeper fits

  pub reader-found : (found : FoundFile) → found_first ≡ Some found → reader this_setting deeper request s ≡ opened_piece value (reader this_setting (deeper - 1)) depth found s
  reader-found found is = reader-is ∙ ap read_so is

  pub reader-missing : found_first ≡ None → reader this_setting deeper request s ≡ only_ending (IsOver (refused s IncludeNotFound request.place (name_of_header request.header)))
  reader-missing is = reader-is ∙ ap read_so is

-- What is left of open files

same-left : (files now : List KeptFile) → FilesStay files now → (f : OpenFile) → IsPlace files f.place → left_of now f ≡ left_of files f
same-left files now stay f within =
    ap (λ all. left_of all f) stay.1 ∙ ap (λ found. drop (length (tokens_in_kept found) - f.left) (tokens_in_kept found)) (slice_get-append files stay.0 f.place within)

pub left-known : (names : List (List ℕ)) (files : List KeptFile) → ((place : ℕ) → AreKnown names (tokens_kept files place)) → (f : OpenFile) → AreKnown names (left_of files f)
left-known names files known f = All-drop (λ (t : Token). IsKnown names t.name) (length (tokens_kept files f.place) - f.left) (tokens_kept files f.place) (known f.place)

-- what is left of a part that is skipped is passed
pub worth-passed : (names : List (List ℕ)) (files : List KeptFile) (file : OpenFile) (end : ℕ) → are_read (groups_seen file.groups.items) ≡ false
    → ArePartEnds names (tokens_kept files file.place) (ends_kept files file.place) → lookup (nat_eq file.left) (ends_kept files file.place) ≡ Some end
    → IsWorthAsMuch names files file (record file { left = end })
worth-passed names files file end skipped are there =
    let passed = are file.left end there in
    record { place = refl; fewer = passed.fewer; same = λ value include s. sym (passed.same value include (groups_seen file.groups.items) s skipped) }

-- of a file of which nothing was read all is left
pub left-all : (files : List KeptFile) (f : OpenFile) → f.left ≡ length (tokens_kept files f.place) → left_of files f ≡ tokens_kept files f.place
left-all files f all = ap (λ n. drop n (tokens_kept files f.place)) (by (length (tokens_kept files f.place)) f.left all)
  where
    by : (n m : ℕ) → m ≡ n → n - m ≡ 0
    by n m is = omega (arith, is)

module _ (names later : List (List ℕ)) (more : Extends names later) (files now : List KeptFile) (stay : FilesStay files now) (known : (place : ℕ) → AreKnown names (tokens_kept files place)) where
  pub open-later : (value : Evaluation) (include : Reader) (f : OpenFile) → IsPlace files f.place → (s : UnitState) → open_piece value include later now f s ≡ open_piece value include names files f s
  open-later value include f within s =
      ap (λ tokens. over_parts value include (parts_of later tokens) (groups_seen f.groups.items) s) (same-left files now stay f within)
      ∙ ap (λ ts. over_parts value include (file_parts (lines_of ts)) (groups_seen f.groups.items) s) (toks_of-Extends names later more (left_of files f) (left-known names files known f))

  pub waiting-later : (setting : Setting) (depth : ℕ) (fs : List OpenFile) → All (λ (f : OpenFile). IsPlace files f.place) fs → (next : UnitState → Piece) (s : UnitState) → waiting_piece setting later now depth fs next s ≡ waiting_piece setting names files depth fs next s
  waiting-later setting depth [] places next s = refl
  waiting-later setting depth (f ∷ fs) places next s =
      waiting-later setting (depth - 1) fs (All-tail (λ (g : OpenFile). IsPlace files g.place) f fs places) (λ u. and_then (open_piece setting.value (reader setting depth) later now f u) next) s
      ∙ ap (λ (inner : UnitState → Piece). waiting_piece setting names files (depth - 1) fs inner s)
      (λ i u. and_then (open-later setting.value (reader setting depth) f (All-head (λ (g : OpenFile). IsPlace files g.place) f fs places) u i) next)

-- the innermost of the files that wait comes first
pub waiting-last : (setting : Setting) (names : List (List ℕ)) (files : List KeptFile) (depth : ℕ) (fs : List OpenFile) (f : OpenFile) (next : UnitState → Piece) (s : UnitState)
    → waiting_piece setting names files depth (fs ++ f ∷ []) next s
    ≡ and_then (open_piece setting.value (reader setting (depth - length fs)) names files f s) (λ u. waiting_piece setting names files depth fs next u)
waiting-last setting names files depth [] f next s =
    let all : depth ≡ depth - 0 = omega arith in ap (λ d. and_then (open_piece setting.value (reader setting d) names files f s) next) all
waiting-last setting names files depth (g ∷ fs) f next s =
    let less : depth - 1 - length fs ≡ depth - length (g ∷ fs) = omega arith in
    waiting-last setting names files (depth - 1) fs f (λ u. and_then (open_piece setting.value (reader setting depth) names files g u) next) s
    ∙ ap (λ d. and_then (open_piece setting.value (reader setting d) names files f s) (λ u. waiting_piece setting names files depth (g ∷ fs) next u)) less

-- The work that is left

pub left-later : (files now : List KeptFile) → FilesStay files now → (fs : List OpenFile) → All (λ (f : OpenFile). IsPlace files f.place) fs → left_in now fs ≡ left_in files fs
left-later files now stay [] places = refl
left-later files now stay (f ∷ fs) places =
    let here = ap length (same-left files now stay f (All-head (λ (g : OpenFile). IsPlace files g.place) f fs places)) in
    let there = left-later files now stay fs (All-tail (λ (g : OpenFile). IsPlace files g.place) f fs places) in
    λ i. here i + here i + 1 + there i

pub left-last : (files : List KeptFile) (fs : List OpenFile) (f : OpenFile) → left_in files (fs ++ f ∷ []) ≡ left_in files fs + (length (left_of files f) + length (left_of files f) + 1)
left-last files [] f = omega arith
left-last files (g ∷ fs) f = let others = left-last files fs f in omega (arith, others)
