-- The number that a path gets, and what a state stands for then.
use Rattle.std.proofs.Common.{◌≡◌, ◌≢◌, ◌<◌, ◌≤◌, ◌+◌, ℕ, zero, suc, true, false, nat_eq, List, [], ◌∷◌, ◌++◌, length, map, slice_get, All, Option, Some, None, option_map, if◌then◌else◌, refl, sym, ap, subst, ◌∙◌, ⊎_elim, true≢false, arith, eq-eqb}
use Rattle.std.specs.Global.{Vec}
use Rattle.std.specs.Str.{bytes_eq}
use Rattle.std.proofs.lemmas.Bool.{cases_Bool, eqb-false, eqb-true}
use Rattle.std.proofs.lemmas.List.{length-map, map-append}
use Rattle.std.proofs.lemmas.List.Elements.{All-push}
use Rattle.std.proofs.lemmas.Option.{get_or_from_slice_get, none-some, same_Some, slice_get-map, slice_get_within}
use Rattle.std.proofs.lemmas.Slice.Eq.{bytes_eq-Decides}
use Rattle.meaning_preprocessing.specs.State.{UnitState, number_from, path_of, paths_with, spelled_path}
use Rattle.sparse_model.specs.declared.ids.NameId.{NameId}
use Rattle.c_tokens.specs.Spellings.{AreApart}
use Rattle.c_tokens.specs.Seen.{Extends, IsKnown, text_of}
use Rattle.c_tokens.proofs.SeenLemmas.{IsKnown-Extends, text_of-Extends, text_of-injective}
use Rattle.c_macros.specs.Seen.{KnowsAll}
use Rattle.c_macros.specs.Table.{Table, spelling_of_file}
use Rattle.c_preproc.specs.Numbers.{IsNewPath, IsNumbered, is_id, is_main}
use Rattle.c_preproc.specs.States.{Holds}
use Rattle.c_preproc.specs.declared.state.State.{State}
use Rattle.c_preproc.proofs.FirstLemmas.{same-has}
use Rattle.c_preproc.proofs.StateLemmas.{Holds-later}

-- an element behind all others
slice_get-last : {X : Type 0} (xs : List X) (x : X) → slice_get (xs ++ x ∷ []) (length xs) ≡ Some x
slice_get-last [] x = refl
slice_get-last (y ∷ xs) x = slice_get-last xs x

slice_get-others : {X : Type 0} (xs : List X) (x : X) (i : ℕ) → i ≢ length xs → slice_get (xs ++ x ∷ []) i ≡ slice_get xs i
slice_get-others [] x zero other = absurd (other refl)
slice_get-others [] x (suc i) other = refl
slice_get-others (y ∷ xs) x zero other = refl
slice_get-others (y ∷ xs) x (suc i) other = slice_get-others xs x i (λ same. other (ap suc same))

module _ (names : List (List ℕ)) (path : List ℕ) (state : State) (s : UnitState) (holds : Holds names path state s) where
  -- the second of the paths is the one of the unit
  main-text : option_map (text_of names) (slice_get state.paths.items 1) ≡ Some path
  main-text =
      sym (slice_get-map (text_of names) state.paths.items 1) ∙ ap (λ (all : List (List ℕ)). slice_get all 1) holds.paths
      ∙ ap (λ (all : List (List ℕ)). slice_get (path_of s.paths 0 ∷ all) 1) holds.main.1

  -- so is an id that is the second
  pub main-is : (id : NameId) → is_main state id ≡ true → text_of names id ≡ path
  main-is id is = by (slice_get state.paths.items 1) main-text is
    where
      by : (found : Option NameId) → option_map (text_of names) found ≡ Some path → is_id found id ≡ true → text_of names id ≡ path
      by None told same = absurd (true≢false (sym same))
      by (Some main) told same =
          let number : main.0 ≡ id.0 = eqb-true main.0 id.0 same in
          let ids : main ≡ id = λ i. record { 0 = number i } in
          ap (text_of names) (sym ids) ∙ same_Some (text_of names main) path told

  -- and no other
  pub main-only : AreApart names → (id : NameId) → IsKnown names id → is_main state id ≡ false → text_of names id ≡ path → ⊥
  main-only apart id known isnt same = by (slice_get state.paths.items 1) refl main-text isnt
    where
      by : (found : Option NameId) → slice_get state.paths.items 1 ≡ found → option_map (text_of names) found ≡ Some path → is_id found id ≡ false → ⊥
      by None at told differ = absurd (none-some path told)
      by (Some main) at told differ =
          let main_known = subst (IsKnown names) (get_or_from_slice_get state.paths.items 1 main main at) (holds.paths_known 1 main (slice_get_within state.paths.items 1 main at)) in
          let ids : main ≡ id = text_of-injective names apart main id main_known known (same_Some (text_of names main) path told ∙ sym same) in
          true≢false (sym (eq-eqb main.0 id.0 (ap (λ (n : NameId). n.0) ids)) ∙ differ)

  -- the path of the unit has the number 1
  pub main-numbered : (id : NameId) → is_main state id ≡ true → IsNumbered names path state (text_of names id) s 1
  main-numbered id is =
      let here : text_of names id ≡ path = main-is id is in
      let there = holds.main in
      let same : bytes_eq path path ≡ true = (bytes_eq-Decides path path).1 refl in
      let number : number_from 1 s.paths (text_of names id) ≡ 1 =
      ap (number_from 1 s.paths) here ∙ ap (λ (ps : List (List ℕ)). number_from 1 ps path) there.1 ∙ ap (λ b. if b then 1 else number_from 2 there.0 path) same in
      let paths : paths_with (text_of names id) s.paths ≡ s.paths =
      ap (λ t. paths_with t s.paths) here ∙ ap (paths_with path) there.1 ∙ ap (λ b. if b then path ∷ there.0 else path ∷ paths_with path there.0) same ∙ sym there.1 in
      (sym number, subst (λ (ps : List (List ℕ)). Holds names path state (record s { paths = ps })) (sym paths) holds)

  -- how many paths there are
  pub paths-count : length state.paths.items ≡ length s.paths + 1
  paths-count = sym (length-map state.paths.items (text_of names)) ∙ ap length holds.paths ∙ omega arith

  -- a further path gets the next number
  pub next-numbered : (later : List (List ℕ)) → Extends names later → AreApart later → (id : NameId) → IsKnown names id → IsNewPath s.paths (text_of names id) → (table : Table) → table.macros ≡ state.macros.macros → KnowsAll later table
      → (number : ℕ) → number ≡ length state.paths.items → option_map (text_of later) (spelling_of_file table number) ≡ Some (spelled_path (text_of names id))
      → ((other : ℕ) → other ≢ number → spelling_of_file table other ≡ spelling_of_file state.macros other) → (all : Vec NameId) → all.items ≡ state.paths.items ++ id ∷ []
      → IsNumbered later path (record state { macros = table; paths = all }) (text_of names id) s number
  next-numbered later more apart id known new table same knows number is told others all items =
      let still = Holds-later names later more apart path state s holds in
      let spelled = text_of-Extends names later more id known in (
        is ∙ paths-count ∙ sym new.1,
        record {
          made = still.made;
          macros = same-has later s.definitions state.macros table same still.macros;
          knows = knows;
          files = λ file. ⊎_elim
              (λ at. let here : file ≡ number = eqb-true file number at in
              ap (λ n. option_map (text_of later) (spelling_of_file table n)) here ∙ told ∙ sym (by file (here ∙ is)))
              (λ at. let other = eqb-false file number at in
              ap (option_map (text_of later)) (others file other) ∙ still.files file ∙ sym (past file (λ same_. other (same_ ∙ sym is))))
              (cases_Bool (nat_eq file number));
          budget = still.budget;
          sum = still.sum;
          bytes = still.bytes;
          paths = ap (map (text_of later)) items ∙ map-append (text_of later) state.paths.items (id ∷ []) ∙ (λ i. still.paths i ++ spelled i ∷ []) ∙ ap (λ (ps : List (List ℕ)). path_of s.paths 0 ∷ ps) (sym new.0);
          paths_known = subst (All (IsKnown later)) (sym items) (All-push (IsKnown later) state.paths.items id still.paths_known (IsKnown-Extends names later more id known));
          main = (holds.main.0 ++ text_of names id ∷ [], new.0 ∙ ap (λ (ps : List (List ℕ)). ps ++ text_of names id ∷ []) holds.main.1);
          undefined = still.undefined;
          undefined_known = still.undefined_known;
          few = still.few;
          tokens_known = still.tokens_known;
        },
      )
    where
      paths_then : map spelled_path (path_of s.paths 0 ∷ paths_with (text_of names id) s.paths) ≡ map spelled_path (path_of s.paths 0 ∷ s.paths) ++ spelled_path (text_of names id) ∷ []
      paths_then = ap (λ (ps : List (List ℕ)). map spelled_path (path_of s.paths 0 ∷ ps)) new.0 ∙ map-append spelled_path (path_of s.paths 0 ∷ s.paths) (text_of names id ∷ [])

      count : length (map spelled_path (path_of s.paths 0 ∷ s.paths)) ≡ length state.paths.items
      count = length-map (path_of s.paths 0 ∷ s.paths) spelled_path ∙ omega (arith, paths-count)

      by : (file : ℕ) → file ≡ length state.paths.items → slice_get (map spelled_path (path_of s.paths 0 ∷ paths_with (text_of names id) s.paths)) file ≡ Some (spelled_path (text_of names id))
      by file at = (λ i. slice_get (paths_then i) ((at ∙ sym count) i)) ∙ slice_get-last (map spelled_path (path_of s.paths 0 ∷ s.paths)) (spelled_path (text_of names id))

      past : (file : ℕ) → file ≢ length state.paths.items → slice_get (map spelled_path (path_of s.paths 0 ∷ paths_with (text_of names id) s.paths)) file ≡ slice_get (map spelled_path (path_of s.paths 0 ∷ s.paths)) file
      past file other = ap (λ (all_ : List (List ℕ)). slice_get all_ file) paths_then
          ∙ slice_get-others (map spelled_path (path_of s.paths 0 ∷ s.paths)) (spelled_path (text_of names id)) file (λ same_. other (same_ ∙ count))
