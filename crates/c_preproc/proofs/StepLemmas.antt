-- What comes of open files behind each step.
use Rattle.std.proofs.Common.{◌≡◌, ◌<◌, ◌≤◌, ◌+◌, ◌-◌, ℕ, List, [], ◌∷◌, ◌++◌, length, drop, map, All, Option, Some, None, IfSome, refl, sym, ap, subst, ◌∙◌, arith, length-append, Result, Ok, Err, IsErrAnd}
use Rattle.std.specs.Global.{Vec}
use Rattle.std.proofs.lemmas.List.{append-nil, length-map}
use Rattle.std.proofs.lemmas.List.Elements.{All-cons, All-nil, All-pop, All-push, All-weaker}
use Rattle.meaning_outside.specs.Loads.{EachPathIsLoadedOnce, Loaded, loads_since}
use Rattle.meaning_conditions.proofs.Valuing.{answers_exist}
use Rattle.meaning_conditions.specs.plain.Reading.{answer_of}
use Rattle.meaning_preprocessing.specs.Groups.{Evaluation}
use Rattle.meaning_preprocessing.specs.Search as search
use Rattle.meaning_preprocessing.specs.State.{UnitState, Stop, Continues, IsOver, Piece, only_ending, tokens_before, and_then}
use Rattle.meaning_preprocessing.specs.Unit.{IsEvaluation, Reader, Setting, capped, over_parts, reader, unit_limits}
use Rattle.sparse_model.specs.declared.ids.NameId.{NameId}
use Rattle.c_tokens.specs.Seen.{Extends, text_of, tok_of}
use Rattle.c_directives.specs.Conditions.{AreKnown}
use Rattle.c_directives.specs.Groups.{groups_seen}
use Rattle.c_directives.specs.Lines.{parts_of}
use Rattle.c_directives.specs.declared.groups.Group.{Group}
use Rattle.c_preproc.specs.Files.{IsReadPart}
use Rattle.c_preproc.specs.Kept.{bytes_kept, tokens_kept}
use Rattle.c_preproc.specs.Loads.{IsPlace, KeepsLoads, paths_seen}
use Rattle.c_preproc.specs.Opens.{FilesStay, IsCounted, IsIncluded, IsWorthAsMuch, left_of, open_piece, waiting_piece, work_left}
use Rattle.c_preproc.specs.Requests.{request_seen}
use Rattle.c_preproc.specs.States.{EndsUnit, GoesOn, Holds, IsHeld, put_of, stop_of}
use Rattle.c_preproc.specs.Steps.{ArePlaced, IsStepped, directories_alone}
use Rattle.c_preproc.specs.Units.{setting_of}
use Rattle.c_preproc.specs.declared.file.OpenFile.{OpenFile}
use Rattle.c_preproc.specs.declared.file.Read.{Read}
use Rattle.c_preproc.specs.declared.file.Read.TheVariants as read
use Rattle.c_preproc.specs.declared.include_line.HeaderRequest.{HeaderRequest}
use Rattle.c_preproc.specs.declared.kept.Kept.{Kept}
use Rattle.c_preproc.specs.declared.kept.KeptFile.{KeptFile}
use Rattle.c_preproc.specs.declared.pre_fault.PreFault.{PreFault}
use Rattle.c_preproc.specs.declared.pre_fault.PreFault.TheVariants.{Memory}
use Rattle.c_preproc.specs.declared.state.State.{State}
use Rattle.c_preproc.proofs.KeptLemmas.{keeps-later}
use Rattle.c_preproc.proofs.LoadLemmas.{since-none}
use Rattle.c_preproc.proofs.OpenLemmas.{left-all, left-last, left-later, waiting-last, waiting-later}
use Rattle.c_preproc.proofs.PieceLemmas.{ends-then, goes-then, stops-behind, then-before, then-then}
use Rattle.c_preproc.proofs.StateLemmas.{put-same, texts-later}

-- the paths of a state are those of what it stands for
pub paths-are : (names : List (List ℕ)) (path : List ℕ) (state : State) (s : UnitState) → Holds names path state s → paths_seen names state ≡ s.paths
paths-are names path state s holds = ap (drop 1) holds.paths

pub files-stay : (files : List KeptFile) → FilesStay files files
files-stay files = ([], sym (append-nil files))

module _ (setting : Setting) (names later : List (List ℕ)) (more : Extends names later) (files : List KeptFile) (known : (place : ℕ) → AreKnown names (tokens_kept files place)) (waiting : List OpenFile) (places : All (λ (f : OpenFile). IsPlace files f.place) waiting)
    (path : List ℕ) (old new : State) (file : OpenFile) (s : UnitState) (end : UnitState → Piece) where
  abbrev depth : ℕ
  depth = 200 - length waiting

  abbrev piece : Piece
  piece = open_piece setting.value (reader setting depth) names files file s

  abbrev before : UnitState → Piece
  before = λ u. waiting_piece setting names files 200 waiting end u

  abbrev whole : Piece
  whole = tokens_before (put_of names old) (waiting_piece setting names files 200 (waiting ++ file ∷ []) end s)

  whole-is : tokens_before (put_of names old) (and_then piece before) ≡ whole
  whole-is = ap (tokens_before (put_of names old)) (sym (waiting-last setting names files 200 waiting file end s))

  same-before : (u : UnitState) → waiting_piece setting later files 200 waiting end u ≡ before u
  same-before u = waiting-later names later more files files (files-stay files) known setting 200 waiting places end u

  -- a directive of a file was done
  pub part-stepped : (next : OpenFile) → GoesOn later path new (tokens_before (put_of names old) piece) (λ u. open_piece setting.value (reader setting depth) later files next u)
      → GoesOn later path new whole (λ u. waiting_piece setting later files 200 (waiting ++ next ∷ []) end u)
  part-stepped next goes =
      let all = goes-then later path new (put_of names old) piece (λ u. open_piece setting.value (reader setting depth) later files next u) before goes in (
        all.0,
        all.1,
        ap (tokens_before (put_of later new))
            (waiting-last setting later files 200 waiting next end all.0
            ∙ ap (and_then (open_piece setting.value (reader setting depth) later files next all.0)) (λ i u. same-before u i))
            ∙ all.2 ∙ whole-is,
      )

  -- it was the last
  pub end-stepped : GoesOn later path new (tokens_before (put_of names old) piece) (λ u. only_ending (Continues u)) → GoesOn later path new whole (λ u. waiting_piece setting later files 200 waiting end u)
  end-stepped goes =
      let all = goes-then later path new (put_of names old) piece (λ u. only_ending (Continues u)) before goes in
      (all.0, all.1, ap (tokens_before (put_of later new)) (same-before all.0) ∙ all.2 ∙ whole-is)

  -- the unit ends within it
  pub fault-stepped : (fault : PreFault) → EndsUnit later (tokens_before (put_of names old) piece) fault → EndsUnit later whole fault
  fault-stepped fault ends = subst (λ p. EndsUnit later p fault) whole-is (ends-then later (put_of names old) piece before fault ends)

  -- Another file is read first

  module _ (next : OpenFile) (request : search.HeaderRequest)
      (goes : GoesOn later path new (tokens_before (put_of names old) piece) (λ u. and_then (reader setting depth request u) (λ v. open_piece setting.value (reader setting depth) later files next v))) where
    abbrev behind : UnitState → Piece
    behind = λ v. and_then (open_piece setting.value (reader setting depth) later files next v) before

    asked-is : tokens_before (put_of later new) (and_then (reader setting depth request goes.0) behind) ≡ whole
    asked-is =
        let asked = reader setting depth request goes.0 in
        let rest : UnitState → Piece = λ v. open_piece setting.value (reader setting depth) later files next v in
        ap (tokens_before (put_of later new)) (sym (then-then asked rest before)) ∙ sym (then-before (put_of later new) (and_then asked rest) before)
        ∙ ap (λ p. and_then p before) goes.2 ∙ then-before (put_of names old) piece before ∙ whole-is

    -- it can't be read
    pub include-fails : (last : List (List ℕ)) (fault : PreFault) → IfSome (stop_of last fault) (λ stop. reader setting depth request goes.0 ≡ only_ending (IsOver stop)) → EndsUnit last whole fault
    include-fails last fault stops =
        subst (λ p. EndsUnit last p fault) asked-is
        (by (stop_of last fault) refl stops)
      where
        few : length (put_of later new ++ []) ≤ unit_limits.unit_tokens
        few = omega (arith, goes.1.few, length-append (put_of later new) [], length-map new.tokens.items (tok_of later))

        by : (found : Option Stop) → stop_of last fault ≡ found → IfSome found (λ stop. reader setting depth request goes.0 ≡ only_ending (IsOver stop))
            → EndsUnit last (tokens_before (put_of later new) (and_then (reader setting depth request goes.0) behind)) fault
        by None is ends = subst (λ (o : Option Stop). IfSome o (λ (stop : Stop). (capped unit_limits.unit_tokens (tokens_before (put_of later new) (and_then (reader setting depth request goes.0) behind))).ending ≡ IsOver stop)) (sym is) tt
        by (Some stop) is ends =
            subst (λ p. EndsUnit last (tokens_before (put_of later new) p) fault) (ap (λ p. and_then p behind) (sym ends))
            (stops-behind last (put_of later new) (only_ending (IsOver stop)) fault few (subst (λ (o : Option Stop). IfSome o (λ (found : Stop). IsOver stop ≡ IsOver found)) (sym is) refl))

    -- it is read
    module _ (last : List (List ℕ)) (grew : Extends later last) (now : List KeptFile) (stay : FilesStay files now) (known_later : (place : ℕ) → AreKnown later (tokens_kept files place)) (next_place : IsPlace files next.place)
        (state : State) (t : UnitState) (holds : Holds last path state t) (put : put_of last state ≡ put_of later new) (inner : OpenFile) (all : inner.left ≡ length (tokens_kept now inner.place)) (none : inner.groups.items ≡ [])
        (opened : reader setting depth request goes.0 ≡ over_parts setting.value (reader setting (depth - 1)) (parts_of last (tokens_kept now inner.place)) [] t) where
      inner-is : open_piece setting.value (reader setting (200 - length (waiting ++ next ∷ []))) last now inner t ≡ reader setting depth request goes.0
      inner-is =
          let deeper : 200 - length (waiting ++ next ∷ []) ≡ depth - 1 = omega (arith, length-append waiting (next ∷ [])) in
          ap (λ d. open_piece setting.value (reader setting d) last now inner t) deeper
          ∙ ap (λ tokens. over_parts setting.value (reader setting (depth - 1)) (parts_of last tokens) (groups_seen inner.groups.items) t) (left-all now inner all)
          ∙ ap (λ (open_groups : List Group). over_parts setting.value (reader setting (depth - 1)) (parts_of last (tokens_kept now inner.place)) (groups_seen open_groups) t) none
          ∙ sym opened

      behind-is : (u : UnitState) → waiting_piece setting last now 200 (waiting ++ next ∷ []) end u ≡ behind u
      behind-is u =
          waiting-later later last grew files now stay known_later setting 200 (waiting ++ next ∷ []) (All-push (λ (f : OpenFile). IsPlace files f.place) waiting next places next_place) end u
          ∙ waiting-last setting later files 200 waiting next end u
          ∙ ap (and_then (open_piece setting.value (reader setting depth) later files next u)) (λ i v. same-before v i)

      pub include-stepped : GoesOn last path state whole (λ u. waiting_piece setting last now 200 ((waiting ++ next ∷ []) ++ inner ∷ []) end u)
      include-stepped = (
        t,
        holds,
        ap (tokens_before (put_of last state))
            (waiting-last setting last now 200 (waiting ++ next ∷ []) inner end t
            ∙ ap (λ p. and_then p (λ u. waiting_piece setting last now 200 (waiting ++ next ∷ []) end u)) inner-is
            ∙ ap (and_then (reader setting depth request goes.0)) (λ i u. behind-is u i))
            ∙ ap (λ tokens. tokens_before tokens (and_then (reader setting depth request goes.0) behind)) put
            ∙ asked-is,
      )

-- What is kept of loads, where the state keeps its paths

module _ (names later : List (List ℕ)) (more : Extends names later) (old new : State) (held : IsHeld names old) (same : new.paths ≡ old.paths) where
  pub keeps-seen : (given : List Loaded) (kept : Kept) → KeepsLoads names (paths_seen names old) given kept → KeepsLoads later (paths_seen later new) given kept
  keeps-seen given kept keeps =
      let are : paths_seen later new ≡ paths_seen names old =
      ap (λ (ids : Vec NameId). drop 1 (map (text_of later) ids.items)) same ∙ ap (drop 1) (texts-later names later more old.paths.items held.2.paths_known) in
      subst (λ paths. KeepsLoads later paths given kept) (sym are) (keeps-later names later more (paths_seen names old) given kept keeps)

-- where nothing was loaded
pub since-still : (earlier all : List Loaded) → earlier ++ loads_since all all ≡ earlier
since-still earlier all = ap (λ (more : List Loaded). earlier ++ more) (since-none all) ∙ append-nil earlier

-- Open files are kept, and aren't too deep

pub first-placed : (files : List KeptFile) (first : OpenFile) → IsPlace files first.place → ArePlaced files (first ∷ [])
first-placed files first place = record {
  places = All-cons (λ (f : OpenFile). IsPlace files f.place) first [] place (All-nil (λ (f : OpenFile). IsPlace files f.place));
  few = omega arith;
}

pub waiting-placed : (files : List KeptFile) (waiting : List OpenFile) (file : OpenFile) → ArePlaced files (waiting ++ file ∷ []) → All (λ (f : OpenFile). IsPlace files f.place) waiting × IsPlace files file.place
waiting-placed files waiting file placed = All-pop (λ (f : OpenFile). IsPlace files f.place) (waiting ++ file ∷ []) waiting (Some file) refl placed.places

pub end-placed : (files : List KeptFile) (waiting : List OpenFile) (file : OpenFile) → ArePlaced files (waiting ++ file ∷ []) → ArePlaced files waiting
end-placed files waiting file placed = record {
  places = (waiting-placed files waiting file placed).0;
  few = omega (arith, placed.few, length-append waiting (file ∷ []));
}

pub next-placed : (files : List KeptFile) (waiting : List OpenFile) (file next : OpenFile) → next.place ≡ file.place → ArePlaced files (waiting ++ file ∷ []) → ArePlaced files (waiting ++ next ∷ [])
next-placed files waiting file next same placed =
    let are = waiting-placed files waiting file placed in
    record {
      places = All-push (λ (f : OpenFile). IsPlace files f.place) waiting next are.0 (subst (IsPlace files) (sym same) are.1);
      few = omega (arith, placed.few, length-append waiting (file ∷ []), length-append waiting (next ∷ []));
    }

pub inner-placed : (files now : List KeptFile) → FilesStay files now → (outer : List OpenFile) (inner : OpenFile) → ArePlaced files outer → length outer ≤ 200 → IsPlace now inner.place → ArePlaced now (outer ++ inner ∷ [])
inner-placed files now stay outer inner placed shallow place = record {
  places = All-push (λ (f : OpenFile). IsPlace now f.place) outer inner (All-weaker (λ (f : OpenFile). IsPlace files f.place) (λ (f : OpenFile). IsPlace now f.place) longer outer placed.places) place;
  few = omega (arith, shallow, length-append outer (inner ∷ []));
}
  where
    longer : (f : OpenFile) → IsPlace files f.place → IsPlace now f.place
    longer f within = omega (arith, within, ap length stay.1, length-append files stay.0)

-- Less is left to do

pub next-less : (files : List KeptFile) (waiting : List OpenFile) (file next : OpenFile) (old new : State) → new.bytes ≡ old.bytes → length (left_of files next) < length (left_of files file)
    → work_left new files (waiting ++ next ∷ []) < work_left old files (waiting ++ file ∷ [])
next-less files waiting file next old new same shorter = omega (arith, same, shorter, left-last files waiting next, left-last files waiting file)

pub end-less : (files : List KeptFile) (waiting : List OpenFile) (file : OpenFile) (old new : State) → new.bytes ≡ old.bytes → work_left new files waiting < work_left old files (waiting ++ file ∷ [])
end-less files waiting file old new same = omega (arith, same, left-last files waiting file)

pub inner-less : (files : List KeptFile) (now : Kept) → FilesStay files now.files.items → (waiting : List OpenFile) (file next inner : OpenFile) → ArePlaced files (waiting ++ next ∷ []) → (old new last : State) → new.bytes ≡ old.bytes
    → length (left_of files next) < length (left_of files file) → IsCounted new last now inner.place → inner.left ≡ length (tokens_kept now.files.items inner.place)
    → length (tokens_kept now.files.items inner.place) ≤ bytes_kept now.files.items inner.place
    → work_left last now.files.items ((waiting ++ next ∷ []) ++ inner ∷ []) < work_left old files (waiting ++ file ∷ [])
inner-less files now stay waiting file next inner placed old new last same shorter counted all small =
    let here = left-last now.files.items (waiting ++ next ∷ []) inner in
    let outer = left-later files now.files.items stay (waiting ++ next ∷ []) placed.places in
    let whole = ap length (left-all now.files.items inner all) in
    omega (arith, same, shorter, counted.0, counted.1, small, here, outer, whole, left-last files waiting next, left-last files waiting file)

-- Steps, by what reading the front of a file came to

abbrev pub Reads : List (List ℕ) → List (List ℕ) → State → State → List KeptFile → OpenFile → OpenFile → Result Read PreFault → Type 0
Reads names later old new files file next result_ =
    (value : Evaluation) (include : Reader) (path : List ℕ) (s : UnitState) → IsEvaluation value → Holds names path old s →
    IsReadPart later value include path new files next (tokens_before (put_of names old) (open_piece value include names files file s)) result_

pub reads-held : (names later : List (List ℕ)) (old new : State) (files : List KeptFile) (file next : OpenFile) → IsHeld names old → (found : Read) → Reads names later old new files file next (Ok found) → IsHeld later new
reads-held names later old new files file next held found reads =
    by (tokens_before (put_of names old) (open_piece answer_of nothing names files file held.1)) found (reads answer_of nothing held.0 held.1 answers_exist held.2)
  where
    nothing : Reader
    nothing request u = only_ending (Continues u)

    by : (all : Piece) (came : Read) → IsReadPart later answer_of nothing held.0 new files next all (Ok came) → IsHeld later new
    by all read.Part goes = (held.0, goes.0, goes.1)
    by all (read.Include request) goes = (held.0, goes.0, goes.1)
    by all read.End goes = (held.0, goes.0, goes.1)

-- a directive was done, and the part that is skipped behind it is passed
pub reads-passed : (names later : List (List ℕ)) (old new : State) (files : List KeptFile) (file next passed : OpenFile) → IsWorthAsMuch later files next passed → Reads names later old new files file next (Ok read.Part)
    → Reads names later old new files file passed (Ok read.Part)
reads-passed names later old new files file next passed worth reads = λ value include path s is holds.
    let goes = reads value include path s is holds in
    (goes.0, goes.1, ap (tokens_before (put_of later new)) (worth.same value include goes.0) ∙ goes.2)

module _ (names later : List (List ℕ)) (more : Extends names later) (old new : State) (held : IsHeld names old) (same : new.paths ≡ old.paths) (kept : Kept) (directories : List (List ℕ)) (waiting : List OpenFile) (file next : OpenFile)
    (placed : ArePlaced kept.files.items (waiting ++ file ∷ [])) (earlier : List Loaded) (keeps : KeepsLoads names (paths_seen names old) earlier kept) where
  abbrev files : List KeptFile
  files = kept.files.items

  abbrev places_are : All (λ (f : OpenFile). IsPlace files f.place) waiting × IsPlace files file.place
  places_are = waiting-placed files waiting file placed

  pub keeps_now : KeepsLoads later (paths_seen later new) earlier kept
  keeps_now = keeps-seen names later more old new held same earlier kept keeps

  -- nothing is loaded
  module _ (all : List Loaded) where
    pub part-is-stepped : Reads names later old new files file next (Ok read.Part)
        → IsStepped names later old new (earlier ++ loads_since all all) kept kept directories (waiting ++ file ∷ []) (waiting ++ next ∷ []) (Ok tt)
    part-is-stepped reads = (
      subst (λ given. KeepsLoads later (paths_seen later new) given kept) (sym (since-still earlier all)) keeps_now,
      λ value over command path s end is agrees holds.
          let setting = setting_of (directories_alone directories command) over value in
          part-stepped setting names later more files keeps.tokens waiting places_are.0 path old new file s end next (reads value (reader setting (200 - length waiting)) path s is holds),
    )

    pub end-is-stepped : Reads names later old new files file next (Ok read.End)
        → IsStepped names later old new (earlier ++ loads_since all all) kept kept directories (waiting ++ file ∷ []) waiting (Ok tt)
    end-is-stepped reads = (
      subst (λ given. KeepsLoads later (paths_seen later new) given kept) (sym (since-still earlier all)) keeps_now,
      λ value over command path s end is agrees holds.
          let setting = setting_of (directories_alone directories command) over value in
          end-stepped setting names later more files keeps.tokens waiting places_are.0 path old new file s end (reads value (reader setting (200 - length waiting)) path s is holds),
    )

    pub fault-is-stepped : (fault : PreFault) (on_way : List OpenFile) → Reads names later old new files file next (Err fault)
        → IsStepped names later old new (earlier ++ loads_since all all) kept kept directories (waiting ++ file ∷ []) on_way (Err fault)
    fault-is-stepped fault on_way reads = (
      subst EachPathIsLoadedOnce (sym (since-still earlier all)) keeps.once,
      λ value over command path s end is agrees holds.
          let setting = setting_of (directories_alone directories command) over value in
          fault-stepped setting names later more files keeps.tokens waiting places_are.0 path old new file s end fault (reads value (reader setting (200 - length waiting)) path s is holds),
    )

  -- a file is asked for
  module _ (request : HeaderRequest) (reads : Reads names later old new files file next (Ok (read.Include request))) (at : next.place ≡ file.place) (deep : ℕ) (within : deep ≡ length (waiting ++ next ∷ []))
      (last : List (List ℕ)) (grew : Extends later last) (state : State) (put : state.tokens ≡ new.tokens) (now : Kept) (stay : FilesStay files now.files.items) (since : List Loaded) where
    abbrev Included : Result ℕ PreFault → Type 0
    Included result_ =
        (main : List ℕ) (s : UnitState) (before : List Loaded) → Holds later main new s → KeepsLoads later s.paths before kept →
        IsIncluded last main state (before ++ since) now directories (request_seen later request) deep s result_

    fits : deep + (200 - length waiting) ≡ 201
    fits = omega (arith, within, placed.few, length-append waiting (file ∷ []), length-append waiting (next ∷ []))

    included-so : (result_ : Result ℕ PreFault) → Included result_ → (main : List ℕ) (s : UnitState) → Holds later main new s → IsIncluded last main state (earlier ++ since) now directories (request_seen later request) deep s result_
    included-so result_ included main s holds = included main s earlier holds (subst (λ paths. KeepsLoads later paths earlier kept) (paths-are later main new s holds) keeps_now)

    abbrev held_now : IsHeld later new
    held_now = reads-held names later old new files file next held (read.Include request) reads

    -- it can't be read
    pub include-is-refused : (fault : PreFault) (on_way : List OpenFile) → Included (Err fault) → IsStepped names last old state (earlier ++ since) kept now directories (waiting ++ file ∷ []) on_way (Err fault)
    include-is-refused fault on_way included = (
      (included-so (Err fault) included held_now.0 held_now.1 held_now.2).0,
      λ value over command path s end is agrees holds.
          let setting = setting_of (directories_alone directories command) over value in
          let goes = reads value (reader setting (200 - length waiting)) path s is holds in
          include-fails setting names later more files keeps.tokens waiting places_are.0 path old new file s end next (request_seen later request) goes last fault
          ((included-so (Err fault) included path goes.0 goes.1).1 value over command (200 - length waiting) agrees fits),
    )

    -- it is read
    module _ (place : ℕ) (included : Included (Ok place)) where
      abbrev opened : (main : List ℕ) (s : UnitState) → Holds later main new s → IsIncluded last main state (earlier ++ since) now directories (request_seen later request) deep s (Ok place)
      opened = included-so (Ok place) included

      pub include-held : IsHeld last state
      include-held = let is = opened held_now.0 held_now.1 held_now.2 in (held_now.0, is.0, is.1)

      pub include-kept : KeepsLoads last (paths_seen last state) (earlier ++ since) now
      include-kept =
          let is = opened held_now.0 held_now.1 held_now.2 in
          subst (λ paths. KeepsLoads last paths (earlier ++ since) now) (sym (paths-are last held_now.0 state is.0 is.1)) is.2

      pub include-place : IsPlace now.files.items place
      include-place = (opened held_now.0 held_now.1 held_now.2).3

      pub include-is-stepped : (inner : OpenFile) → inner.place ≡ place → inner.left ≡ length (tokens_kept now.files.items place) → inner.groups.items ≡ []
          → IsStepped names last old state (earlier ++ since) kept now directories (waiting ++ file ∷ []) ((waiting ++ next ∷ []) ++ inner ∷ []) (Ok tt)
      include-is-stepped inner there all none = (
        include-kept,
        λ value over command path s end is agrees holds.
            let setting = setting_of (directories_alone directories command) over value in
            let goes = reads value (reader setting (200 - length waiting)) path s is holds in
            let is_open = opened path goes.0 goes.1 in
            let tokens_are = ap (tokens_kept now.files.items) there in
            include-stepped setting names later more files keeps.tokens waiting places_are.0 path old new file s end next (request_seen later request) goes last grew now.files.items stay keeps_now.tokens
            (subst (IsPlace files) (sym at) places_are.1) state is_open.0 is_open.1 (put-same later last grew path new state goes.0 goes.1 put) inner (all ∙ ap length (sym tokens_are)) none
            (is_open.4 value over command (200 - length waiting) agrees fits
            ∙ ap (λ tokens. over_parts value (reader setting (200 - length waiting - 1)) (parts_of last tokens) [] is_open.0) (sym tokens_are)),
      )

      -- but memory is wanting
      pub include-is-forgotten : (on_way : List OpenFile) (result_ : Result Unit PreFault) → IsErrAnd result_ (λ fault. fault ≡ Memory)
          → IsStepped names last old state (earlier ++ since) kept now directories (waiting ++ file ∷ []) on_way result_
      include-is-forgotten on_way (Ok done) is = absurd is
      include-is-forgotten on_way (Err fault) is =
          subst (λ f. IsStepped names last old state (earlier ++ since) kept now directories (waiting ++ file ∷ []) on_way (Err f)) (sym is) (include-kept.once, λ value over command path s end found agrees holds. tt)
