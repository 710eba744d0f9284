-- A text that was loaded just now gets a number, and its tokens are kept.
use Rattle.std.proofs.Common.{◌≡◌, ◌≢◌, ◌≤◌, ℕ, List, [], ◌∷◌, ◌++◌, length, drop, slice_get, All, Some, IfSome, option_map, Ok, Err, sym, ap, subst, ◌∙◌, arith, length-append}
use Rattle.std.proofs.lemmas.List.{append-nil}
use Rattle.meaning_outside.specs.Loads.{Loaded}
use Rattle.meaning_text.specs.Tokens.{LexesFile, OpensFile}
use Rattle.meaning_text.specs.Lexing.{lexed_file}
use Rattle.meaning_preprocessing.specs.State.{UnitState, IsOver, number_from, only_ending, paths_with}
use Rattle.meaning_preprocessing.specs.Unit.{over_parts, stop_of_fault, text_of_file}
use Rattle.sparse_model.specs.declared.ids.NameId.{NameId}
use Rattle.c_tokens.specs.declared.fault.LexFault.{LexFault}
use Rattle.c_tokens.specs.Spellings.{AreApart}
use Rattle.c_tokens.specs.Seen.{Extends, fault_of, text_of, toks_of}
use Rattle.c_tokens.proofs.SeenLemmas.{Extends-Extends, IsKnown-Extends, text_of-Extends}
use Rattle.c_directives.specs.Conditions.{AreKnown}
use Rattle.c_directives.specs.Lines.{parts_of}
use Rattle.c_directives.specs.PartEnds.{ArePartEnds}
use Rattle.c_preproc.specs.Kept.{found_at, tokens_in_kept}
use Rattle.c_preproc.specs.Loads.{IsKeptPath, IsNew}
use Rattle.c_preproc.specs.Numbers.{IsKeptNow, IsNewPath, IsNumberable, IsNumbered}
use Rattle.c_preproc.specs.Opens.{FilesStay}
use Rattle.c_preproc.specs.States.{Holds, stop_of}
use Rattle.c_preproc.specs.declared.kept.AtPath.TheVariants.{File}
use Rattle.c_preproc.specs.declared.kept.Kept.{Kept}
use Rattle.c_preproc.specs.declared.kept.KeptFile.{KeptFile}
use Rattle.c_preproc.specs.declared.pre_fault.PreFault.{PreFault}
use Rattle.c_preproc.specs.declared.state.State.{State}
use Rattle.c_preproc.proofs.FileLemmas.{lexed-tokens, text-read, text-refused}
use Rattle.c_preproc.proofs.KeptLemmas.{is-new-path, keeps-file, keeps-later, last-kept}
use Rattle.c_preproc.proofs.StateLemmas.{Holds-later}

-- it can get one
pub is-numberable : (names : List (List ℕ)) → AreApart names → (main : List ℕ) (state : State) (s : UnitState) → Holds names main state s → (given : List Loaded) (kept : Kept) (path : List ℕ) (id : NameId) (text : List ℕ) → IsNew names s.paths given kept path id text
    → IsNumberable names main s.paths id
is-numberable names apart main state s holds given kept path id text new = λ other.
    subst (λ (paths : List (List ℕ)). IsNewPath paths (text_of names id)) (sym holds.main.1)
    (is-new-path names apart kept id new.known new.new main holds.main.0 (subst (λ (paths : List (List ℕ)). All (IsKeptPath names kept) (drop 1 paths)) holds.main.1 new.keeps.numbered) other)

-- it is new in a table of names that grew
pub new-later : (names later : List (List ℕ)) → Extends names later → (paths : List (List ℕ)) (given : List Loaded) (kept : Kept) (path : List ℕ) (id : NameId) (text : List ℕ) → IsNew names paths given kept path id text → IsNew later paths given kept path id text
new-later names later more paths given kept path id text new = record {
  earlier = new.earlier;
  is = new.is;
  keeps = keeps-later names later more paths new.earlier kept new.keeps;
  known = IsKnown-Extends names later more id new.known;
  spelled = text_of-Extends names later more id new.known ∙ new.spelled;
  new = new.new;
  small = new.small;
}

-- the file that was kept last
pub last-place : (before now : List KeptFile) (file : KeptFile) (place : ℕ) → place ≡ length before → now ≡ before ++ file ∷ [] → slice_get now place ≡ Some file
last-place before now file place is items = ap (slice_get now) is ∙ ap (λ files. slice_get files (length before)) items ∙ last-kept before file

module _ (names mid later : List (List ℕ)) (first : Extends names mid) (more : Extends mid later) (apart : AreApart later) (main : List ℕ) (state : State) (s : UnitState) (given : List Loaded) (kept : Kept) (path : List ℕ) (id : NameId) (text : List ℕ)
    (new : IsNew names s.paths given kept path id text) (number : ℕ) (numbered : IsNumbered mid main state (text_of names id) s number) where
  abbrev with_path : UnitState
  with_path = record s { paths = paths_with path s.paths }

  number-is : number ≡ number_from 1 s.paths path
  number-is = numbered.0 ∙ ap (number_from 1 s.paths) new.spelled

  pub with-path-holds : Holds later main state with_path
  with-path-holds =
      subst (λ (p : List ℕ). Holds later main state (record s { paths = paths_with p s.paths })) new.spelled
      (Holds-later mid later more apart main state (record s { paths = paths_with (text_of names id) s.paths }) numbered.1)

  -- its tokens are kept
  pub kept-now : (now : Kept) (place : ℕ) (file : KeptFile) → place ≡ length kept.files.items → now.files.items ≡ kept.files.items ++ file ∷ [] → found_at now id ≡ Some (File place)
      → ((other : NameId) → other ≢ id → found_at now other ≡ found_at kept other) → file.bytes ≡ length text → LexesFile number text (toks_of later file.tokens.items) → AreKnown later file.tokens.items → length file.tokens.items ≤ length text
      → ArePartEnds later file.tokens.items file.ends.entries → IsKeptNow later main state given now path text s (Ok place)
  kept-now now place file place_is items here others size lexes known small ends =
      let tokens = lexed-tokens number text (toks_of later file.tokens.items) lexes in
      let there = last-place kept.files.items now.files.items file place place_is items in (
        with-path-holds,
        keeps-file later apart s.paths given kept path id text (new-later names later (Extends-Extends names mid later first more) s.paths given kept path id text new) now others file items size
            (ap (λ n. lexed_file n text) (sym number-is) ∙ tokens) known (omega (arith, small, size)) ends (here ∙ ap (λ n. Some (File n)) place_is),
        omega (arith, place_is, ap length items, length-append kept.files.items (file ∷ [])),
        λ value include.
            ap (λ n. text_of_file value include n text with_path) (sym number-is)
            ∙ text-read value include later number text with_path file.tokens.items lexes
            ∙ ap (λ found. over_parts value include (parts_of later (tokens_in_kept found)) [] with_path) (sym there),
      )

  -- or a comment or a literal is never closed
  pub not-kept : (now : Kept) (fault : LexFault) (told : PreFault) → IfSome (fault_of fault) (OpensFile number text)
      → ((t : UnitState) → Holds later main state t → stop_of later told ≡ option_map (stop_of_fault t) (fault_of fault)) → IsKeptNow later main state given now path text s (Err told)
  not-kept now fault told opens stops = λ value include.
      subst (λ n. IfSome (stop_of later told) (λ stop. text_of_file value include n text with_path ≡ only_ending (IsOver stop))) number-is
      (text-refused value include later number text with_path fault told opens (stops with_path with-path-holds))

-- the files that were kept stay
pub stays-as : (before now : List KeptFile) → now ≡ before → FilesStay before now
stays-as before now same = ([], same ∙ sym (append-nil before))
