-- What is kept of loads stays so where the table of names grows, and where something more is kept.
use Rattle.std.proofs.Common.{◌≡◌, ◌≢◌, ◌<◌, ◌≤◌, ◌+◌, ℕ, zero, suc, false, nat_eq, List, [], ◌∷◌, ◌++◌, length, drop, slice_get, All, Option, Some, None, ◌⊎◌, inl, inr, refl, sym, ap, subst, ◌∙◌, ⊎_elim, arith, length-append}
use Rattle.std.specs.Global.{Vec}
use Rattle.std.proofs.lemmas.Bool.{cases_Bool, eqb-true, eqb-false, ne_eqb}
use Rattle.std.proofs.lemmas.List.Elements.{All-head, All-nil, All-cons, All-push, All-tail, All-weaker}
use Rattle.std.proofs.lemmas.Option.{none-some, same_Some}
use Rattle.meaning_outside.specs.Files.{file_at}
use Rattle.meaning_outside.specs.Loads.{Loaded, NoneIsOf}
use Rattle.meaning_outside.specs.Loads as loads
use Rattle.meaning_text.specs.Lexing.{Tokens, lexed_file}
use Rattle.meaning_preprocessing.specs.State.{number_from, paths_with}
use Rattle.sparse_model.specs.declared.ids.NameId.{NameId}
use Rattle.c_tokens.specs.declared.token.Token.{Token}
use Rattle.c_tokens.specs.Spellings.{AreApart}
use Rattle.c_tokens.specs.Seen.{Extends, IsKnown, text_of, toks_of}
use Rattle.c_tokens.proofs.SeenLemmas.{IsKnown-Extends, slice_get-append, text_of-Extends, text_of-injective, toks_of-Extends}
use Rattle.c_directives.specs.Conditions.{AreKnown}
use Rattle.c_directives.specs.PartEnds.{ArePartEnds}
use Rattle.c_directives.proofs.PartLemmas.{ends-later}
use Rattle.c_preproc.specs.Kept.{bytes_in_kept, bytes_kept, ends_in_kept, ends_kept, found_at, tokens_in_kept, tokens_kept}
use Rattle.c_preproc.specs.Loads.{IsFileOf, IsFoundPlace, IsKeptPath, IsNew, IsPlace, KeepsLoads, Tells}
use Rattle.c_preproc.specs.Numbers.{IsNewPath}
use Rattle.c_preproc.specs.declared.kept.AtPath.{AtPath}
use Rattle.c_preproc.specs.declared.kept.AtPath.TheVariants.{Nothing, File}
use Rattle.c_preproc.specs.declared.kept.Kept.{Kept}
use Rattle.c_preproc.specs.declared.kept.KeptFile.{KeptFile}
use Rattle.c_preproc.proofs.LoadLemmas.{agrees-back, agrees-front, once-push}
use Rattle.c_preproc.proofs.PathLemmas.{number-new, number-self, number-with, rest-with, with-new, with-self, with-with}
use Rattle.c_preproc.proofs.StateLemmas.{known-later}

-- Where the table of names grows

module _ (names later : List (List ℕ)) (more : Extends names later) where
  kept-later : (kept : Kept) (path : List ℕ) → IsKeptPath names kept path → IsKeptPath later kept path
  kept-later kept path is = (is.0, IsKnown-Extends names later more is.0 is.1, text_of-Extends names later more is.0 is.1 ∙ is.2, is.3, is.4)

  file-later : (paths : List (List ℕ)) (files : List KeptFile) (path bytes : List ℕ) (place : ℕ) → AreKnown names (tokens_kept files place) → IsFileOf names paths files path bytes place → IsFileOf later paths files path bytes place
  file-later paths files path bytes place known is = record {
    small = is.small;
    size = is.size;
    numbered = is.numbered;
    tokens = is.tokens ∙ ap Tokens (sym (toks_of-Extends names later more (tokens_kept files place) known));
  }

  tells-later : (paths : List (List ℕ)) (files : List KeptFile) (path : List ℕ) (there : Option (List ℕ)) (found : AtPath) → ((place : ℕ) → AreKnown names (tokens_kept files place)) → Tells names paths files path there found → Tells later paths files path there found
  tells-later paths files path there Nothing known tells = tells
  tells-later paths files path there (File place) known tells = (tells.0, tells.1, file-later paths files path tells.0 place (known place) tells.2)

  pub keeps-later : (paths : List (List ℕ)) (given : List Loaded) (kept : Kept) → KeepsLoads names paths given kept → KeepsLoads later paths given kept
  keeps-later paths given kept keeps = record {
    once = keeps.once;
    loaded = All-weaker (λ (load : Loaded). IsKeptPath names kept load.path) (λ (load : Loaded). IsKeptPath later kept load.path) (λ load. kept-later kept load.path) given keeps.loaded;
    numbered = All-weaker (IsKeptPath names kept) (IsKeptPath later kept) (kept-later kept) (drop 1 paths) keeps.numbered;
    known = λ id found at. let is = keeps.known id found at in (IsKnown-Extends names later more id is.0, is.1);
    tells = λ id found at files agrees.
        subst (λ text. Tells later paths kept.files.items text (file_at files text) found) (sym (text_of-Extends names later more id (keeps.known id found at).0))
        (tells-later paths kept.files.items (text_of names id) (file_at files (text_of names id)) found keeps.tokens (keeps.tells id found at files agrees));
    tokens = λ place. known-later names later more (tokens_kept kept.files.items place) (keeps.tokens place);
    small = keeps.small;
    ends = λ place. ends-later names later more (tokens_kept kept.files.items place) (ends_kept kept.files.items place) (keeps.tokens place) (keeps.ends place);
  }

-- Paths that aren't kept

pub differ : (id other : NameId) → other ≢ id → nat_eq id.0 other.0 ≡ false
differ id other apart = ne_eqb id.0 other.0 (λ same. apart (λ i. record { 0 = sym same i }))

same-or : (id other : NameId) → (id ≡ other) ⊎ (id ≢ other)
same-or id other = ⊎_elim
    (λ is. inl (let number : id.0 ≡ other.0 = eqb-true id.0 other.0 is in λ i. record { 0 = number i }))
    (λ is. inr (λ same. eqb-false id.0 other.0 is (ap (λ (n : NameId). n.0) same)))
    (cases_Bool (nat_eq id.0 other.0))

module _ (names : List (List ℕ)) (apart : AreApart names) (kept : Kept) (id : NameId) (known : IsKnown names id) (new : found_at kept id ≡ None) where
  -- what is kept is of other paths
  other-path : (path : List ℕ) → IsKeptPath names kept path → path ≢ text_of names id
  other-path path is same =
      let ids : is.0 ≡ id = text_of-injective names apart is.0 id is.1 known (is.2 ∙ same) in
      none-some is.3 (sym new ∙ ap (found_at kept) (sym ids) ∙ is.4)

  pub none-loaded : (given : List Loaded) → All (λ (load : Loaded). IsKeptPath names kept load.path) given → NoneIsOf (text_of names id) given
  none-loaded [] all = tt
  none-loaded (load ∷ given) all =
      (other-path load.path (All-head (λ (l : Loaded). IsKeptPath names kept l.path) load given all), none-loaded given (All-tail (λ (l : Loaded). IsKeptPath names kept l.path) load given all))

  -- the path has no number yet, unless it is the first one
  pub is-new-path : (main : List ℕ) (others : List (List ℕ)) → All (IsKeptPath names kept) others → (text_of names id ≡ main → ⊥) → IsNewPath (main ∷ others) (text_of names id)
  is-new-path main others all apart_main =
      let none = All-cons (λ (other : List ℕ). other ≢ text_of names id) main others (λ same. apart_main (sym same))
      (All-weaker (IsKeptPath names kept) (λ (other : List ℕ). other ≢ text_of names id) other-path others all) in
      (with-new (text_of names id) (main ∷ others) none, number-new (text_of names id) 1 (main ∷ others) none)

  -- Where it is kept

  module _ (now : Kept) (others : (other : NameId) → other ≢ id → found_at now other ≡ found_at kept other) where
    stays-kept : (found : AtPath) → found_at now id ≡ Some found → (path : List ℕ) → IsKeptPath names kept path → IsKeptPath names now path
    stays-kept found here path is = (is.0, is.1, is.2, is.3, others is.0 (λ same. none-some is.3 (sym new ∙ ap (found_at kept) (sym same) ∙ is.4)) ∙ is.4)

    module _ (paths : List (List ℕ)) (given : List Loaded) (keeps : KeepsLoads names paths given kept) where
      -- that there is no file
      pub keeps-nothing : (most : ℕ) (path : List ℕ) → text_of names id ≡ path → found_at now id ≡ Some Nothing → now.files ≡ kept.files
          → KeepsLoads names paths (given ++ record { path = path; most = most; given = loads.Missing } ∷ []) now
      keeps-nothing most path spelled here same =
          let load : Loaded = record { path = path; most = most; given = loads.Missing } in
          let stays = stays-kept Nothing here in
          let items : now.files.items ≡ kept.files.items = ap (λ (files : Vec KeptFile). files.items) same in
          record {
            once = once-push given load keeps.once (subst (λ text. NoneIsOf text given) spelled (none-loaded given keeps.loaded));
            loaded = All-push (λ (l : Loaded). IsKeptPath names now l.path) given load
                (All-weaker (λ (l : Loaded). IsKeptPath names kept l.path) (λ (l : Loaded). IsKeptPath names now l.path) (λ l. stays l.path) given keeps.loaded) (id, known, spelled, Nothing, here);
            numbered = All-weaker (IsKeptPath names kept) (IsKeptPath names now) stays (drop 1 paths) keeps.numbered;
            known = λ other found at. ⊎_elim
                (λ is. let nothing : Nothing ≡ found = same_Some Nothing found (sym here ∙ ap (found_at now) (sym is) ∙ at) in (subst (IsKnown names) (sym is) known, subst (IsFoundPlace now.files.items) nothing tt))
                (λ apart_id. let old = keeps.known other found (sym (others other apart_id) ∙ at) in (old.0, subst (λ files. IsFoundPlace files found) (sym items) old.1))
                (same-or other id);
            tells = λ other found at files agrees. ⊎_elim
                (λ is. let nothing : Nothing ≡ found = same_Some Nothing found (sym here ∙ ap (found_at now) (sym is) ∙ at) in
                subst (λ (o : NameId). Tells names paths now.files.items (text_of names o) (file_at files (text_of names o)) found) (sym is)
                (subst (Tells names paths now.files.items (text_of names id) (file_at files (text_of names id))) nothing
                (ap (file_at files) spelled ∙ (agrees-back files given (load ∷ []) agrees).0)))
                (λ apart_id. subst (λ kept_files. Tells names paths kept_files (text_of names other) (file_at files (text_of names other)) found) (sym items)
                (keeps.tells other found (sym (others other apart_id) ∙ at) files (agrees-front files given (load ∷ []) agrees)))
                (same-or other id);
            tokens = λ place. subst (λ files. AreKnown names (tokens_kept files place)) (sym items) (keeps.tokens place);
            small = λ place. subst (λ files. length (tokens_kept files place) ≤ bytes_kept files place) (sym items) (keeps.small place);
            ends = λ place. subst (λ files. ArePartEnds names (tokens_kept files place) (ends_kept files place)) (sym items) (keeps.ends place);
          }

-- Files that are kept

-- what holds of each kept file, and of one more
each-kept : (P : Option KeptFile → Type 0) (files : List KeptFile) (file : KeptFile) → ((place : ℕ) → P (slice_get files place)) → P (Some file) → (place : ℕ) → P (slice_get (files ++ file ∷ []) place)
each-kept P [] file each here zero = here
each-kept P [] file each here (suc place) = each 0
each-kept P (first ∷ files) file each here zero = each 0
each-kept P (first ∷ files) file each here (suc place) = each-kept P files file (λ k. each (suc k)) here place

pub last-kept : (files : List KeptFile) (file : KeptFile) → slice_get (files ++ file ∷ []) (length files) ≡ Some file
last-kept [] file = refl
last-kept (first ∷ files) file = last-kept files file

-- a file that is kept already is what it was
file-stays : (names paths : List (List ℕ)) (files more : List KeptFile) (other path bytes : List ℕ) (place : ℕ) → IsPlace files place → IsFileOf names paths files path bytes place
    → IsFileOf names (paths_with other paths) (files ++ more) path bytes place
file-stays names paths files more other path bytes place within is =
    let same = slice_get-append files more place within in
    record {
      small = is.small;
      size = ap bytes_in_kept same ∙ is.size;
      numbered = with-with path other paths is.numbered;
      tokens = ap (λ number. lexed_file number bytes) (number-with path other 1 paths is.numbered) ∙ is.tokens ∙ ap (λ found. Tokens (toks_of names (tokens_in_kept found))) (sym same);
    }

tells-stays : (names paths : List (List ℕ)) (files more : List KeptFile) (other path : List ℕ) (there : Option (List ℕ)) (found : AtPath) → IsFoundPlace files found → Tells names paths files path there found
    → Tells names (paths_with other paths) (files ++ more) path there found
tells-stays names paths files more other path there Nothing within tells = tells
tells-stays names paths files more other path there (File place) within tells = (tells.0, tells.1, file-stays names paths files more other path tells.0 place within tells.2)

place-stays : (files more : List KeptFile) (found : AtPath) → IsFoundPlace files found → IsFoundPlace (files ++ more) found
place-stays files more Nothing within = tt
place-stays files more (File place) within = omega (arith, within, length-append files more)

module _ (names : List (List ℕ)) (apart : AreApart names) (paths : List (List ℕ)) (given : List Loaded) (kept : Kept) (path : List ℕ) (id : NameId) (text : List ℕ) (is : IsNew names paths given kept path id text)
    (now : Kept) (others : (other : NameId) → other ≢ id → found_at now other ≡ found_at kept other) (file : KeptFile) (items : now.files.items ≡ kept.files.items ++ file ∷ []) (size : file.bytes ≡ length text)
    (tokens : lexed_file (number_from 1 paths path) text ≡ Tokens (toks_of names file.tokens.items)) (known : AreKnown names file.tokens.items) (small : length file.tokens.items ≤ file.bytes)
    (ends : ArePartEnds names file.tokens.items file.ends.entries) where
  last : slice_get now.files.items (length kept.files.items) ≡ Some file
  last = ap (λ files. slice_get files (length kept.files.items)) items ∙ last-kept kept.files.items file

  here-is : IsFileOf names (paths_with path paths) now.files.items path text (length kept.files.items)
  here-is = record {
    small = is.small;
    size = ap bytes_in_kept last ∙ size;
    numbered = with-self path paths;
    tokens = ap (λ number. lexed_file number text) (number-self path 1 paths) ∙ tokens ∙ ap (λ found. Tokens (toks_of names (tokens_in_kept found))) (sym last);
  }

  -- a file that was loaded just now
  pub keeps-file : found_at now id ≡ Some (File (length kept.files.items)) → KeepsLoads names (paths_with path paths) given now
  keeps-file here =
      let load : Loaded = record { path = path; most = 8388608; given = loads.Whole text } in
      let keeps = is.keeps in
      let place = length kept.files.items in
      let stays = stays-kept names apart kept id is.known is.new now others (File place) here in
      let this : IsKeptPath names now path = (id, is.known, is.spelled, File place, here) in
      subst (λ all. KeepsLoads names (paths_with path paths) all now) (sym is.is) (record {
        once = once-push is.earlier load keeps.once (subst (λ t. NoneIsOf t is.earlier) is.spelled (none-loaded names apart kept id is.known is.new is.earlier keeps.loaded));
        loaded = All-push (λ (l : Loaded). IsKeptPath names now l.path) is.earlier load
            (All-weaker (λ (l : Loaded). IsKeptPath names kept l.path) (λ (l : Loaded). IsKeptPath names now l.path) (λ l. stays l.path) is.earlier keeps.loaded) this;
        numbered = rest-with path (IsKeptPath names now) paths (All-weaker (IsKeptPath names kept) (IsKeptPath names now) stays (drop 1 paths) keeps.numbered) this;
        known = λ other found at. ⊎_elim
            (λ same. let this_place : File place ≡ found = same_Some (File place) found (sym here ∙ ap (found_at now) (sym same) ∙ at) in (
              subst (IsKnown names) (sym same) is.known,
              subst (IsFoundPlace now.files.items) this_place
                  (omega (arith, ap length items, length-append kept.files.items (file ∷ []))),
            ))
            (λ apart_id. let old = keeps.known other found (sym (others other apart_id) ∙ at) in
            (old.0, subst (λ files. IsFoundPlace files found) (sym items) (place-stays kept.files.items (file ∷ []) found old.1)))
            (same-or other id);
        tells = λ other found at files agrees. ⊎_elim
            (λ same. let this_place : File place ≡ found = same_Some (File place) found (sym here ∙ ap (found_at now) (sym same) ∙ at) in
            subst (λ (o : NameId). Tells names (paths_with path paths) now.files.items (text_of names o) (file_at files (text_of names o)) found) (sym same)
            (subst (Tells names (paths_with path paths) now.files.items (text_of names id) (file_at files (text_of names id))) this_place
            (subst (λ t. Tells names (paths_with path paths) now.files.items t (file_at files t) (File place)) (sym is.spelled)
            (text, (agrees-back files is.earlier (load ∷ []) agrees).0, here-is))))
            (λ apart_id. let at_kept = sym (others other apart_id) ∙ at in
            subst (λ kept_files. Tells names (paths_with path paths) kept_files (text_of names other) (file_at files (text_of names other)) found) (sym items)
            (tells-stays names paths kept.files.items (file ∷ []) path (text_of names other) (file_at files (text_of names other)) found (keeps.known other found at_kept).1
            (keeps.tells other found at_kept files (agrees-front files is.earlier (load ∷ []) agrees))))
            (same-or other id);
        tokens = λ place_. subst (λ files. AreKnown names (tokens_kept files place_)) (sym items) (each-kept (λ found. AreKnown names (tokens_in_kept found)) kept.files.items file keeps.tokens known place_);
        small = λ place_. subst (λ files. length (tokens_kept files place_) ≤ bytes_kept files place_) (sym items) (each-kept (λ found. length (tokens_in_kept found) ≤ bytes_in_kept found) kept.files.items file keeps.small small place_);
        ends = λ place_. subst (λ files. ArePartEnds names (tokens_kept files place_) (ends_kept files place_)) (sym items) (each-kept (λ found. ArePartEnds names (tokens_in_kept found) (ends_in_kept found)) kept.files.items file keeps.ends ends place_);
      })

-- The first file

-- nothing was loaded, and one text is kept that has no path
pub keeps-first : (names paths : List (List ℕ)) (kept : Kept) (file : KeptFile) → drop 1 paths ≡ [] → ((id : NameId) → found_at kept id ≡ None) → kept.files.items ≡ file ∷ [] → AreKnown names file.tokens.items → length file.tokens.items ≤ file.bytes
    → ArePartEnds names file.tokens.items file.ends.entries → KeepsLoads names paths [] kept
keeps-first names paths kept file one none items known small ends = record {
  once = tt;
  loaded = All-nil (λ (load : Loaded). IsKeptPath names kept load.path);
  numbered = subst (All (IsKeptPath names kept)) (sym one) (All-nil (IsKeptPath names kept));
  known = λ id found at. absurd (none-some found (sym (none id) ∙ at));
  tells = λ id found at. absurd (none-some found (sym (none id) ∙ at));
  tokens = λ place. subst (λ files. AreKnown names (tokens_kept files place)) (sym items) (tokens_at place);
  small = λ place. subst (λ files. length (tokens_kept files place) ≤ bytes_kept files place) (sym items) (small_at place);
  ends = λ place. subst (λ files. ArePartEnds names (tokens_kept files place) (ends_kept files place)) (sym items) (ends_at place);
}
  where
    tokens_at : (place : ℕ) → AreKnown names (tokens_kept (file ∷ []) place)
    tokens_at zero = known
    tokens_at (suc place) = All-nil (λ (t : Token). IsKnown names t.name)

    small_at : (place : ℕ) → length (tokens_kept (file ∷ []) place) ≤ bytes_kept (file ∷ []) place
    small_at zero = small
    small_at (suc place) = omega arith

    ends_at : (place : ℕ) → ArePartEnds names (tokens_kept (file ∷ []) place) (ends_kept (file ∷ []) place)
    ends_at zero = ends
    ends_at (suc place) = λ begin end there. absurd (none-some end there)
