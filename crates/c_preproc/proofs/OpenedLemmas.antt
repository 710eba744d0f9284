-- What comes of a file that was found, where it begins to be read.
use Rattle.std.proofs.Common.{◌≡◌, ◌<◌, ◌≤◌, ◌+◌, ◌⊎◌, ℕ, List, [], ◌∷◌, ◌++◌, length, Option, Some, None, IfSome, Result, Ok, Err, refl, sym, ap, subst, ◌∙◌, ⊎_elim, arith}
use Rattle.meaning_outside.specs.Files.{FileMap, file_at}
use Rattle.meaning_outside.specs.Loads.{Loaded, AgreesWith, EachPathIsLoadedOnce, NoneIsOf}
use Rattle.meaning_outside.specs.Loads as loads
use Rattle.meaning_preprocessing.specs.Groups.{Evaluation}
use Rattle.meaning_preprocessing.specs.State.{UnitState, Stop, IsOver, only_ending}
use Rattle.meaning_preprocessing.specs.Unit.{Reader, file_piece}
use Rattle.sparse_model.specs.declared.ids.NameId.{NameId}
use Rattle.c_tokens.specs.Spellings.{AreApart}
use Rattle.c_preproc.specs.Kept.{bytes_kept}
use Rattle.c_preproc.specs.Loads.{IsNew, IsSource}
use Rattle.c_preproc.specs.Numbers.{IsKeptNow, IsPassed}
use Rattle.c_preproc.specs.Opens.{IsOpened, opened_piece}
use Rattle.c_preproc.specs.States.{Holds, stop_of}
use Rattle.c_preproc.specs.declared.kept.Kept.{Kept}
use Rattle.c_preproc.specs.declared.loads.Source.TheVariants as source
use Rattle.c_preproc.specs.declared.pre_fault.PreFault.{PreFault}
use Rattle.c_preproc.specs.declared.state.State.{State}
use Rattle.c_preproc.proofs.KeptLemmas.{none-loaded}
use Rattle.c_preproc.proofs.LoadLemmas.{agrees-back, once-push}
use Rattle.c_preproc.proofs.OpenLemmas.{kept-piece, opened-enters, opened-passed}
use Rattle.c_preproc.proofs.StateLemmas.{with-bytes}

-- the same limit, by the same counts
passed-so : (before then_ count other depth : ℕ) (fault : PreFault) → before ≡ then_ → count ≡ other → IsPassed before count depth fault → IsPassed then_ other depth fault
passed-so before then_ count other depth fault same counts passed = subst (λ n. IsPassed then_ n depth fault) counts (subst (λ n. IsPassed n count depth fault) same passed)

module _ (names : List (List ℕ)) (main : List ℕ) (state : State) (s : UnitState) (holds : Holds names main state s) (given : List Loaded) (path : List ℕ) (depth : ℕ) where
  -- A file that is kept

  module _ (kept : Kept) (place : ℕ) (found : IsSource names s.paths given kept path (source.Kept place)) where
    abbrev count : ℕ
    count = bytes_kept kept.files.items place

    pub opened-kept : state.bytes + count ≤ 67108864 → depth ≤ 200 → IsOpened names main (record state { bytes = state.bytes + count }) given kept path depth s (Ok place)
    opened-kept few shallow = (
      record s { bytes = s.bytes + count },
      with-bytes names main state s count holds,
      found.0,
      found.1,
      λ files agrees.
          let there = found.2 files agrees in
          let is = there.2 in (
            there.0,
            there.1,
            λ value include.
                opened-enters value include depth (record { path = path; bytes = there.0 }) s is.small (omega (arith, few, is.size, holds.bytes)) shallow
                ∙ ap (λ n. file_piece value include (record { path = path; bytes = there.0 }) (record s { bytes = s.bytes + n })) (sym is.size)
                ∙ kept-piece names kept.files.items path there.0 place (record s { bytes = s.bytes + count }) is value include,
          ),
    )

  -- A file that was loaded just now

  module _ (apart : AreApart names) (kept : Kept) (id : NameId) (text : List ℕ) (new : IsNew names s.paths given kept path id text) where
    new-once : EachPathIsLoadedOnce given
    new-once =
        let this : Loaded = record { path = path; most = 8388608; given = loads.Whole text } in
        subst EachPathIsLoadedOnce (sym new.is)
        (once-push new.earlier this new.keeps.once (subst (λ t. NoneIsOf t new.earlier) new.spelled (none-loaded names apart kept id new.known new.new new.earlier new.keeps.loaded)))

    new-at : (files : FileMap) → AgreesWith files given → file_at files path ≡ Some text
    new-at files agrees =
        (agrees-back files new.earlier (record { path = path; most = 8388608; given = loads.Whole text } ∷ []) (subst (AgreesWith files) new.is agrees)).0

    pub new-passed : (now : Kept) (later : List (List ℕ)) (then_ : State) (fault : PreFault) → stop_of names fault ≡ stop_of later fault → IsPassed state.bytes (length text) depth fault → IsOpened later main then_ given now path depth s (Err fault)
    new-passed now later then_ fault same passed = (
      new-once,
      λ files agrees. (
        text,
        new-at files agrees,
        λ value include.
            subst (λ (o : Option Stop). IfSome o (λ stop. opened_piece value include depth (record { path = path; bytes = text }) s ≡ only_ending (IsOver stop))) same
            (opened-passed value include depth (record { path = path; bytes = text }) s names fault new.small (passed-so state.bytes s.bytes (length text) (length text) depth fault holds.bytes refl passed)),
      ),
    )

    module _ (few : state.bytes + length text ≤ 67108864) (shallow : depth ≤ 200) where
      enters : (value : Evaluation) (include : Reader)
          → opened_piece value include depth (record { path = path; bytes = text }) s ≡ file_piece value include (record { path = path; bytes = text }) (record s { bytes = s.bytes + length text })
      enters value include = opened-enters value include depth (record { path = path; bytes = text }) s new.small (omega (arith, few, holds.bytes)) shallow

      pub opened-new : (later : List (List ℕ)) (then_ : State) (now : Kept) (place : ℕ) → IsKeptNow later main then_ given now path text (record s { bytes = s.bytes + length text }) (Ok place)
          → IsOpened later main then_ given now path depth s (Ok place)
      opened-new later then_ now place is = (
        _,
        is.0,
        is.1,
        is.2,
        λ files agrees. (text, new-at files agrees, λ value include. enters value include ∙ is.3 value include),
      )

      pub new-refused : (later : List (List ℕ)) (then_ : State) (now : Kept) (fault : PreFault) → IsKeptNow later main then_ given now path text (record s { bytes = s.bytes + length text }) (Err fault)
          → IsOpened later main then_ given now path depth s (Err fault)
      new-refused later then_ now fault is = (
        new-once,
        λ files agrees. (text, new-at files agrees, λ value include. by value include (stop_of later fault) (is value include)),
      )
        where
          by : (value : Evaluation) (include : Reader) (found : Option Stop) → IfSome found (λ stop. file_piece value include (record { path = path; bytes = text }) (record s { bytes = s.bytes + length text }) ≡ only_ending (IsOver stop))
              → IfSome found (λ stop. opened_piece value include depth (record { path = path; bytes = text }) s ≡ only_ending (IsOver stop))
          by value include None is_ = tt
          by value include (Some stop) is_ = enters value include ∙ is_

      -- what keeping it comes to
      pub new-opened : (later : List (List ℕ)) (then_ : State) (now : Kept) (result : Result ℕ PreFault) → IsKeptNow later main then_ given now path text (record s { bytes = s.bytes + length text }) result
          → IsOpened later main then_ given now path depth s result
      new-opened later then_ now (Ok place) is = opened-new later then_ now place is
      new-opened later then_ now (Err fault) is = new-refused later then_ now fault is
