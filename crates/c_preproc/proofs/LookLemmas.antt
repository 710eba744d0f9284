-- What is found at a path, and at the first of several.
use Rattle.std.proofs.Common.{◌≡◌, ◌≤◌, ◌<◌, ℕ, List, [], ◌∷◌, ◌++◌, length, Option, Some, None, IfSome, IsErrAnd, IsSomeAnd, Result, Ok, Err, refl, sym, ap, subst, ◌∙◌}
use Rattle.std.proofs.lemmas.List.{append-nil}
use Rattle.vocabulary.specs.declared.limit.LimitKind.TheVariants.{FileSize}
use Rattle.meaning_outside.specs.Files.{FileMap, file_at}
use Rattle.meaning_outside.specs.Loads.{Loaded, AgreesWith, AgreesWithLoad, EachPathIsLoadedOnce, LoadsStay, NoneIsOf, loads_since}
use Rattle.meaning_outside.specs.Loads as loads
use Rattle.meaning_preprocessing.specs.Search.{FoundFile, first_found, found_or}
use Rattle.meaning_preprocessing.specs.State.{Stop}
use Rattle.sparse_model.specs.declared.ids.NameId.{NameId}
use Rattle.sparse_outside.specs.Load.{loaded}
use Rattle.sparse_outside.specs.declared.files.Load.TheVariants as load
use Rattle.c_tokens.specs.Spellings.{AreApart}
use Rattle.c_tokens.specs.Seen.{Extends, IsKnown, text_of}
use Rattle.c_preproc.specs.Kept.{found_at}
use Rattle.c_preproc.specs.Loads.{IsLooked, IsSearched, IsSource, IsTooLong, KeepsLoads, Tells, bytes_found}
use Rattle.c_preproc.specs.States.{stop_of}
use Rattle.c_preproc.specs.declared.kept.AtPath.TheVariants.{Nothing, File}
use Rattle.c_preproc.specs.declared.kept.Kept.{Kept}
use Rattle.c_preproc.specs.declared.loads.Source.{Source}
use Rattle.c_preproc.specs.declared.loads.Source.TheVariants as source
use Rattle.c_preproc.specs.declared.pre_fault.PreFault.{PreFault}
use Rattle.c_preproc.specs.declared.pre_fault.PreFault.TheVariants.{Limit, Memory}
use Rattle.c_preproc.proofs.KeptLemmas.{keeps-later, keeps-nothing, none-loaded}
use Rattle.c_preproc.proofs.LoadLemmas.{agrees-back, agrees-front, once-push, one-since, since-behind, since-none}

-- a call that loads nothing leaves what was loaded
pub nothing-since : (earlier all : List Loaded) → earlier ++ loads_since all all ≡ earlier
nothing-since earlier all = ap (λ (more : List Loaded). earlier ++ more) (since-none all) ∙ append-nil earlier

-- One load

module _ (names : List (List ℕ)) (apart : AreApart names) (paths : List (List ℕ)) (earlier : List Loaded) (kept : Kept) (id : NameId) (path : List ℕ) (keeps : KeepsLoads names paths earlier kept)
    (known : IsKnown names id) (spelled : text_of names id ≡ path) (new : found_at kept id ≡ None) (before now : List Loaded) where
  once-now : (given : loads.Given) → now ≡ before ++ record { path = path; most = 8388608; given = given } ∷ [] → EachPathIsLoadedOnce (earlier ++ loads_since before now)
  once-now given is =
      let this : Loaded = record { path = path; most = 8388608; given = given } in
      subst (λ (more : List Loaded). EachPathIsLoadedOnce (earlier ++ more)) (sym (one-since before now this is))
      (once-push earlier this keeps.once (subst (λ text. NoneIsOf text earlier) spelled (none-loaded names apart kept id known new earlier keeps.loaded)))

  agrees-now : (given : loads.Given) → now ≡ before ++ record { path = path; most = 8388608; given = given } ∷ [] → (files : FileMap) → AgreesWith files (earlier ++ loads_since before now)
      → AgreesWithLoad files (record { path = path; most = 8388608; given = given })
  agrees-now given is files agrees =
      let this : Loaded = record { path = path; most = 8388608; given = given } in
      (agrees-back files earlier (this ∷ []) (subst (λ (more : List Loaded). AgreesWith files (earlier ++ more)) (one-since before now this is) agrees)).0

  pub looked-missing : (into : List ℕ) (then_ : Kept) → now ≡ before ++ loaded path 8388608 load.Missing into ∷ [] → found_at then_ id ≡ Some Nothing → ((other : NameId) → (other ≡ id → ⊥) → found_at then_ other ≡ found_at kept other)
      → then_.files ≡ kept.files → IsLooked names paths (earlier ++ loads_since before now) then_ path (Ok None)
  looked-missing into then_ is here others same = (
    subst (λ (more : List Loaded). KeepsLoads names paths (earlier ++ more) then_) (sym (one-since before now (loaded path 8388608 load.Missing into) is))
        (keeps-nothing names apart kept id known new then_ others paths earlier keeps 8388608 path spelled here same),
    agrees-now loads.Missing is,
  )

  pub looked-long : (into : List ℕ) (then_ : Kept) → now ≡ before ++ loaded path 8388608 load.TooLong into ∷ [] → IsLooked names paths (earlier ++ loads_since before now) then_ path (Err (Limit FileSize))
  looked-long into then_ is = (once-now loads.TooLong is, λ files agrees. (refl, agrees-now loads.TooLong is files agrees))

  -- a fault that tells nothing of the file
  pub looked-fault : (given : loads.Given) (then_ : Kept) (fault : PreFault) → now ≡ before ++ record { path = path; most = 8388608; given = given } ∷ [] → stop_of names fault ≡ None → IsLooked names paths (earlier ++ loads_since before now) then_ path (Err fault)
  looked-fault given then_ fault is none = (once-now given is, λ files agrees. subst (λ (o : Option Stop). IfSome o (IsTooLong (file_at files path))) (sym none) tt)

-- What is kept already

module _ (names later : List (List ℕ)) (more : Extends names later) (paths : List (List ℕ)) (earlier all : List Loaded) (kept : Kept) (id : NameId) (path : List ℕ) (keeps : KeepsLoads names paths earlier kept) (spelled : text_of later id ≡ path) where
  keeps-now : KeepsLoads later paths (earlier ++ loads_since all all) kept
  keeps-now = subst (λ given. KeepsLoads later paths given kept) (sym (nothing-since earlier all)) (keeps-later names later more paths earlier kept keeps)

  pub looked-kept : (place : ℕ) → found_at kept id ≡ Some (File place) → IsLooked later paths (earlier ++ loads_since all all) kept path (Ok (Some (source.Kept place)))
  looked-kept place is = (
    keeps-now,
    (keeps-now.known id (File place) is).1,
    λ files agrees. subst (λ text. Tells later paths kept.files.items text (file_at files text) (File place)) spelled (keeps-now.tells id (File place) is files agrees),
  )

  pub looked-none : found_at kept id ≡ Some Nothing → IsLooked later paths (earlier ++ loads_since all all) kept path (Ok None)
  looked-none is = (keeps-now, λ files agrees. subst (λ text. file_at files text ≡ None) spelled (keeps-now.tells id Nothing is files agrees))

-- a fault before anything is loaded
pub looked-early : (names later : List (List ℕ)) (paths : List (List ℕ)) (earlier all : List Loaded) (kept : Kept) (path : List ℕ) (fault : PreFault) → KeepsLoads names paths earlier kept → stop_of later fault ≡ None
    → IsLooked later paths (earlier ++ loads_since all all) kept path (Err fault)
looked-early names later paths earlier all kept path fault keeps none = (
  subst EachPathIsLoadedOnce (sym (nothing-since earlier all)) keeps.once,
  λ files agrees. subst (λ (o : Option Stop). IfSome o (IsTooLong (file_at files path))) (sym none) tt,
)

-- or want of memory, told so
pub looked-memory : (names later : List (List ℕ)) (paths : List (List ℕ)) (earlier all : List Loaded) (kept : Kept) (path : List ℕ) → KeepsLoads names paths earlier kept → (result : Result (Option Source) PreFault) → IsErrAnd result (λ fault. fault ≡ Memory)
    → IsLooked later paths (earlier ++ loads_since all all) kept path result
looked-memory names later paths earlier all kept path keeps (Ok found) is = absurd is
looked-memory names later paths earlier all kept path keeps (Err fault) is = looked-early names later paths earlier all kept path fault keeps (ap (stop_of later) is)

-- Several paths

-- what was found so far, where these paths are left
abbrev pub IsLeft : List (List ℕ) → List (List ℕ) → List Loaded → Kept → List (List ℕ) → List (List ℕ) → Type 0
IsLeft names paths given kept wanted left =
    KeepsLoads names paths given kept × ((files : FileMap) → AgreesWith files given → first_found (file_at files) wanted ≡ first_found (file_at files) left)

module _ (names later : List (List ℕ)) (paths : List (List ℕ)) (earlier first mid last : List Loaded) (here : LoadsStay first mid) (there : LoadsStay mid last) (old kept : Kept) (wanted : List (List ℕ)) (path : List ℕ) (others : List (List ℕ))
    (left : IsLeft names paths (earlier ++ loads_since first mid) old wanted (path ∷ others)) where
  abbrev given : List Loaded
  given = (earlier ++ loads_since first mid) ++ loads_since mid last

  abbrev all : List Loaded
  all = earlier ++ loads_since first last

  all-is : all ≡ given
  all-is = since-behind first mid last here there earlier

  still : (files : FileMap) → AgreesWith files all → first_found (file_at files) wanted ≡ first_found (file_at files) (path ∷ others)
  still files agrees = left.1 files (agrees-front files (earlier ++ loads_since first mid) (loads_since mid last) (subst (AgreesWith files) all-is agrees))

  -- nothing is at the first of them
  pub left-next : IsLooked later paths given kept path (Ok None) → IsLeft later paths all kept wanted others
  left-next looked = (
    subst (λ loads_. KeepsLoads later paths loads_ kept) (sym all-is) looked.0,
    λ files agrees. still files agrees ∙ ap (λ (there_ : Option (List ℕ)). found_or path there_ (first_found (file_at files) others)) (looked.1 files (subst (AgreesWith files) all-is agrees)),
  )

  -- there is a file
  pub searched-found : (found : Source) → IsLooked later paths given kept path (Ok (Some found)) → IsSearched later paths all kept wanted (Ok (Some found))
  searched-found found looked = (
    path,
    subst (λ loads_. IsSource later paths loads_ kept path found) (sym all-is) looked,
    λ files agrees bytes is. still files agrees ∙ ap (λ (there_ : Option (List ℕ)). found_or path there_ (first_found (file_at files) others)) is,
  )

  -- or a fault
  pub searched-fault : (fault : PreFault) → IsLooked later paths given kept path (Err fault) → IsSearched later paths all kept wanted (Err fault)
  searched-fault fault looked = (
    subst EachPathIsLoadedOnce (sym all-is) looked.0,
    λ files agrees. by files (file_at files path) refl (still files agrees) (stop_of later fault) (looked.1 files (subst (AgreesWith files) all-is agrees)),
  )
    where
      by : (files : FileMap) (found : Option (List ℕ)) → file_at files path ≡ found → first_found (file_at files) wanted ≡ first_found (file_at files) (path ∷ others) → (stop : Option Stop) → IfSome stop (IsTooLong (file_at files path))
          → IfSome stop (IsTooLong (bytes_found (first_found (file_at files) wanted)))
      by files found is same None long = tt
      by files None is same (Some stop) long = absurd (subst (λ (there_ : Option (List ℕ)). IsSomeAnd there_ (λ bytes. 8388608 < length bytes)) is long.1)
      by files (Some bytes) is same (Some stop) long = (
        long.0,
        subst (λ (found_ : Option FoundFile). IsSomeAnd (bytes_found found_) (λ b. 8388608 < length b))
            (sym (same ∙ ap (λ (there_ : Option (List ℕ)). found_or path there_ (first_found (file_at files) others)) is))
            (subst (λ (there_ : Option (List ℕ)). IsSomeAnd there_ (λ b. 8388608 < length b)) is long.1),
      )
