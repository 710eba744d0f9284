-- Entries of nodes, where more settings join those that they name.
use Rattle.std.proofs.Common.{◌≡◌, ℕ, zero, suc, ◌<◌, ◌≤◌, List, [], ◌∷◌, ◌++◌, length, get_or, replicate, slice_get, Some, refl, sym, ap, ap₂, subst, ◌∙◌, arith, length-append}
use Rattle.std.specs.Prelude.{◌+◌, ◌/◌, slice_set}
use Rattle.std.specs.Global.{Vec}
use Rattle.std.specs.Option.{option_map}
use Rattle.std.proofs.lemmas.List.{length-map, get_or_read}
use Rattle.std.proofs.lemmas.Option.{slice_get-map, slice_get_read, slice_get_within, get_or_from_slice_get}
use Rattle.meaning_typing.specs.Surroundings.{surrounding_at}
use Rattle.node_surroundings.specs.declared.surrounding.Around.{Around}
use Rattle.node_surroundings.specs.declared.surrounding.Surrounding.{Surrounding}
use Rattle.node_surroundings.specs.declared.standing.Entry.{Entry}
use Rattle.node_surroundings.specs.Kept.{AreWithin, IsLonger, entry_of, entry_seen, entries_seen, lists_of, nobody, settings_at}
use Rattle.node_surroundings.specs.Seen.{surrounding_seen, surroundings_seen}
use Rattle.node_surroundings.proofs.ListLemmas.{get_or-replicate, within-get_or}
use Rattle.node_surroundings.proofs.SettingLemmas.{settings_read}

-- what an entry stands for, by who is around
abbrev with_around : Around → Entry → Surrounding
with_around around entry = record { parent = entry.parent; place = entry.place; want = entry.want; is_evaluated = entry.is_evaluated; around = around }

-- a setting stays where more come behind it
setting-longer : (settings more : List Around) (number : ℕ) → number < length settings
    → get_or (settings ++ more) number nobody ≡ get_or settings number nobody
setting-longer [] more number within = absurd (omega (arith, within))
setting-longer (setting ∷ settings) more zero within = refl
setting-longer (setting ∷ settings) more (suc number) within = setting-longer settings more number (omega (arith, within))

-- so an entry stands for the same
entry_seen-longer : (settings later : List Around) (entry : Entry) → IsLonger settings later → entry.setting < length settings
    → entry_seen later entry ≡ entry_seen settings entry
entry_seen-longer settings later entry (more, is) within =
    ap (λ all. entry_seen all entry) is ∙ ap (λ around. with_around around entry) (setting-longer settings more entry.setting within)

-- more settings join those that a node may name
abbrev AreLonger : (settings later : ℕ → List Around) → Type 0
AreLonger settings later = (handle : ℕ) → IsLonger (settings handle) (later handle)

entries_seen-longer :
    (settings later : ℕ → List Around) (first : ℕ) (entries : List Entry) → AreLonger settings later → AreWithin settings first entries
    → entries_seen later first entries ≡ entries_seen settings first entries
entries_seen-longer settings later first [] longer within = refl
entries_seen-longer settings later first (entry ∷ entries) longer within =
    λ i. entry_seen-longer (settings first) (later first) entry (longer first) within.0 i
    ∷ entries_seen-longer settings later (suc first) entries longer within.1 i

length-longer : (settings later : List Around) → IsLonger settings later → length settings ≤ length later
length-longer settings later (more, is) = omega (arith, ap length is, length-append settings more)

-- entries name settings that are there, where more settings came
pub AreWithin-longer : (settings later : ℕ → List Around) (first : ℕ) (entries : List Entry) → AreLonger settings later → AreWithin settings first entries
    → AreWithin later first entries
AreWithin-longer settings later first [] longer within = within
AreWithin-longer settings later first (entry ∷ entries) longer within =
    let here : entry.setting < length (settings first) = within.0 in
    (omega (arith, length-longer (settings first) (later first) (longer first), here), AreWithin-longer settings later (suc first) entries longer within.1)

-- and where one entry is another
pub AreWithin-set :
    (settings : ℕ → List Around) (first : ℕ) (entries : List Entry) (handle : ℕ) (entry : Entry) → AreWithin settings first entries
    → ((at : ℕ) → at ≡ first + handle → entry.setting < length (settings at)) → AreWithin settings first (slice_set entries handle entry)
AreWithin-set settings first [] handle entry within new = within
AreWithin-set settings first (was ∷ entries) zero entry within new = (new first (omega arith), within.1)
AreWithin-set settings first (was ∷ entries) (suc handle) entry within new =
    (within.0, AreWithin-set settings (suc first) entries handle entry within.1 (λ at is. new at (omega (arith, is))))

-- the setting of an entry is there
AreWithin-at :
    (settings : ℕ → List Around) (first : ℕ) (entries : List Entry) (handle at : ℕ) (d : Entry) → AreWithin settings first entries
    → at ≡ first + handle → handle < length entries → (get_or entries handle d).setting < length (settings at)
AreWithin-at settings first [] handle at d within is inside = absurd (omega (arith, inside))
AreWithin-at settings first (entry ∷ entries) zero at d within is inside =
    subst (λ n. entry.setting < length (settings n)) (omega (arith, is)) within.0
AreWithin-at settings first (entry ∷ entries) (suc handle) at d within is inside =
    AreWithin-at settings (suc first) entries handle at d within.1 (omega (arith, is)) (omega (arith, inside))

-- another entry at its place
entries_seen-set :
    (settings : ℕ → List Around) (first : ℕ) (entries : List Entry) (handle at : ℕ) (entry : Entry) → at ≡ first + handle
    → entries_seen settings first (slice_set entries handle entry) ≡ slice_set (entries_seen settings first entries) handle (entry_seen (settings at) entry)
entries_seen-set settings first [] handle at entry is = refl
entries_seen-set settings first (was ∷ entries) zero at entry is =
    ap (λ n. entry_seen (settings n) entry ∷ entries_seen settings (suc first) entries) (omega (arith, is))
entries_seen-set settings first (was ∷ entries) (suc handle) at entry is =
    ap (λ more. entry_seen (settings first) was ∷ more) (entries_seen-set settings (suc first) entries handle at entry (omega (arith, is)))

-- the entry at a place
slice_get-entries_seen :
    (settings : ℕ → List Around) (first : ℕ) (entries : List Entry) (handle at : ℕ) → at ≡ first + handle
    → slice_get (entries_seen settings first entries) handle ≡ option_map (entry_seen (settings at)) (slice_get entries handle)
slice_get-entries_seen settings first [] handle at is = refl
slice_get-entries_seen settings first (entry ∷ entries) zero at is = ap (λ n. Some (entry_seen (settings n) entry)) (omega (arith, is))
slice_get-entries_seen settings first (entry ∷ entries) (suc handle) at is =
    slice_get-entries_seen settings (suc first) entries handle at (omega (arith, is))

pub length-entries_seen : (settings : ℕ → List Around) (first : ℕ) (entries : List Entry) → length (entries_seen settings first entries) ≡ length entries
length-entries_seen settings first [] = refl
length-entries_seen settings first (entry ∷ entries) = ap suc (length-entries_seen settings (suc first) entries)

-- Lists of settings

-- each node has the one setting
settings_at-one : (lists : List (Vec Around)) (count : ℕ) (around : Around) → lists_of lists ≡ replicate (count / 32768 + 1) (around ∷ [])
    → (handle : ℕ) → handle < count → settings_at lists handle ≡ around ∷ []
settings_at-one lists count around all handle below =
    ap (λ l. get_or l (handle / 32768) []) all
    ∙ get_or-replicate (count / 32768 + 1) (around ∷ []) (handle / 32768) [] (omega (arith, below))

-- a list that has a setting is there
list_within : (lists : List (Vec Around)) (handle number : ℕ) → number < length (settings_at lists handle) → handle / 32768 < length lists
list_within lists handle number below =
    subst (λ n. handle / 32768 < n) (length-map lists (λ list. list.items)) (within-get_or (lists_of lists) (handle / 32768) number below)

-- What is kept

-- an entry stands for what it was made of
entry_seen-of : (settings : List Around) (number : ℕ) (surrounding : Surrounding) → slice_get settings number ≡ Some surrounding.around
    → entry_seen settings (entry_of number surrounding) ≡ surrounding
entry_seen-of settings number surrounding stands =
    ap (λ around. with_around around (entry_of number surrounding)) (get_or_from_slice_get settings number surrounding.around nobody stands)

entries_seen-replicate :
    (settings : ℕ → List Around) (first count : ℕ) (surrounding : Surrounding)
    → ((handle : ℕ) → handle < first + count → settings handle ≡ surrounding.around ∷ [])
    → entries_seen settings first (replicate count (entry_of 0 surrounding)) ≡ replicate count surrounding
entries_seen-replicate settings first zero surrounding one = refl
entries_seen-replicate settings first (suc count) surrounding one =
    let is = one first (omega arith) in
    λ i. entry_seen-of (settings first) 0 surrounding (ap (λ s. slice_get s 0) is) i
    ∷ entries_seen-replicate settings (suc first) count surrounding (λ handle below. one handle (omega (arith, below))) i

AreWithin-replicate :
    (settings : ℕ → List Around) (first count : ℕ) (surrounding : Surrounding)
    → ((handle : ℕ) → handle < first + count → settings handle ≡ surrounding.around ∷ [])
    → AreWithin settings first (replicate count (entry_of 0 surrounding))
AreWithin-replicate settings first zero surrounding one = tt
AreWithin-replicate settings first (suc count) surrounding one =
    (omega (arith, ap length (one first (omega arith))), AreWithin-replicate settings (suc first) count surrounding (λ handle below. one handle (omega (arith, below))))

pub filled_kept :
    (lists : List (Vec Around)) (entries : List Entry) (count : ℕ) (surrounding : Surrounding)
    → lists_of lists ≡ replicate (count / 32768 + 1) (surrounding.around ∷ []) → entries ≡ replicate count (entry_of 0 surrounding)
    → entries_seen (settings_at lists) 0 entries ≡ replicate count surrounding
filled_kept lists entries count surrounding one all =
    ap (entries_seen (settings_at lists) 0) all
    ∙ entries_seen-replicate (settings_at lists) 0 count surrounding (λ handle below. settings_at-one lists count surrounding.around one handle (omega (arith, below)))

pub filled_within :
    (lists : List (Vec Around)) (entries : List Entry) (count : ℕ) (surrounding : Surrounding)
    → lists_of lists ≡ replicate (count / 32768 + 1) (surrounding.around ∷ []) → entries ≡ replicate count (entry_of 0 surrounding)
    → AreWithin (settings_at lists) 0 entries
filled_within lists entries count surrounding one all =
    subst (AreWithin (settings_at lists) 0) (sym all)
    (AreWithin-replicate (settings_at lists) 0 count surrounding (λ handle below. settings_at-one lists count surrounding.around one handle (omega (arith, below))))

-- one entry is another, which names a setting that is there
pub set_within :
    (lists later : List (Vec Around)) (entries : List Entry) (handle list number : ℕ) (surrounding : Surrounding) (entry : Entry)
    → ((other : ℕ) → IsLonger (get_or (lists_of lists) other []) (get_or (lists_of later) other [])) → AreWithin (settings_at lists) 0 entries
    → list ≡ handle / 32768 → slice_get (get_or (lists_of later) list []) number ≡ Some surrounding.around → entry ≡ entry_of number surrounding
    → AreWithin (settings_at later) 0 (slice_set entries handle entry)
set_within lists later entries handle list number surrounding entry longer within is stands made =
    AreWithin-set (settings_at later) 0 entries handle entry
    (AreWithin-longer (settings_at lists) (settings_at later) 0 entries (λ other. longer (other / 32768)) within)
    (λ at same.
    let here : handle ≡ at = omega (arith, same) in
    let there : slice_get (settings_at later at) number ≡ Some surrounding.around =
    subst (λ n. slice_get (get_or (lists_of later) n []) number ≡ Some surrounding.around) (is ∙ ap (λ n. n / 32768) here) stands
    in
    omega (arith, slice_get_within (settings_at later at) number surrounding.around there, ap (λ (e : Entry). e.setting) made))

pub set_kept :
    (lists later : List (Vec Around)) (entries : List Entry) (all : List Surrounding) (handle list number : ℕ) (surrounding : Surrounding)
    → ((other : ℕ) → IsLonger (get_or (lists_of lists) other []) (get_or (lists_of later) other [])) → AreWithin (settings_at lists) 0 entries
    → entries_seen (settings_at lists) 0 entries ≡ all → list ≡ handle / 32768
    → slice_get (get_or (lists_of later) list []) number ≡ Some surrounding.around
    → entries_seen (settings_at later) 0 (slice_set entries handle (entry_of number surrounding)) ≡ slice_set all handle surrounding
set_kept lists later entries all handle list number surrounding longer within seen is stands =
    entries_seen-set (settings_at later) 0 entries handle handle (entry_of number surrounding) (omega arith)
    ∙ ap₂ (λ list one. slice_set list handle one)
    (entries_seen-longer (settings_at lists) (settings_at later) 0 entries (λ other. longer (other / 32768)) within ∙ seen)
    (entry_seen-of (settings_at later handle) number surrounding
    (subst (λ n. slice_get (get_or (lists_of later) n []) number ≡ Some surrounding.around) is stands))

-- the entry of a node is there, and so are its list and its setting
pub entry_within : (settings : ℕ → List Around) (entries : List Entry) (all : List Surrounding) (handle : ℕ) → entries_seen settings 0 entries ≡ all
    → handle < length all → handle < length entries
entry_within settings entries all handle seen below = omega (arith, ap length seen, length-entries_seen settings 0 entries, below)

setting_within :
    (settings : ℕ → List Around) (entries : List Entry) (all : List Surrounding) (handle : ℕ) (d : Entry)
    → AreWithin settings 0 entries → entries_seen settings 0 entries ≡ all → handle < length all
    → (get_or entries handle d).setting < length (settings handle)
setting_within settings entries all handle d within seen below =
    AreWithin-at settings 0 entries handle handle d within (omega arith) (entry_within settings entries all handle seen below)

pub list_there :
    (lists : List (Vec Around)) (entries : List Entry) (all : List Surrounding) (handle list : ℕ) (d : Entry)
    → AreWithin (settings_at lists) 0 entries → entries_seen (settings_at lists) 0 entries ≡ all → handle < length all → list ≡ handle / 32768
    → list < length lists
list_there lists entries all handle list d within seen below is =
    subst (λ n. n < length lists) (sym is)
    (list_within lists handle (get_or entries handle d).setting (setting_within (settings_at lists) entries all handle d within seen below))

pub setting_there :
    (lists : List (Vec Around)) (entries : List Entry) (all : List Surrounding) (handle list : ℕ) (entry : Entry) (settings : Vec Around)
    → AreWithin (settings_at lists) 0 entries → entries_seen (settings_at lists) 0 entries ≡ all → handle < length all
    → entry ≡ get_or entries handle entry → list ≡ handle / 32768 → settings ≡ get_or lists list settings → entry.setting < length settings.items
setting_there lists entries all handle list entry settings within seen below found is read =
    let there : list < length lists = list_there lists entries all handle list entry within seen below is in
    let known : entry.setting < length (settings_at lists handle) =
    subst (λ (e : Entry). e.setting < length (settings_at lists handle)) (sym found) (setting_within (settings_at lists) entries all handle entry within seen below)
    in
    subst (λ row. entry.setting < length row) (settings_read lists handle list settings is there read) known

pub kept_at :
    (lists : List (Vec Around)) (entries : List Entry) (all : List Surrounding) (handle list : ℕ) (entry : Entry) (settings : Vec Around) (around : Around)
    → AreWithin (settings_at lists) 0 entries → entries_seen (settings_at lists) 0 entries ≡ all → handle < length all
    → entry ≡ get_or entries handle entry → list ≡ handle / 32768 → settings ≡ get_or lists list settings
    → around ≡ get_or settings.items entry.setting around → slice_get all handle ≡ Some (with_around around entry)
kept_at lists entries all handle list entry settings around within seen below found is read who =
    let inside : handle < length entries = entry_within (settings_at lists) entries all handle seen below in
    let there : list < length lists = list_there lists entries all handle list entry within seen below is in
    let known : entry.setting < length settings.items = setting_there lists entries all handle list entry settings within seen below found is read in
    ap (λ all. slice_get all handle) (sym seen) ∙ slice_get-entries_seen (settings_at lists) 0 entries handle handle (omega arith)
    ∙ ap (option_map (entry_seen (settings_at lists handle))) (slice_get_read entries (length entries) handle entry refl inside found)
    ∙ ap (λ row. Some (entry_seen row entry)) (settings_read lists handle list settings is there read)
    ∙ ap (λ one. Some (with_around one entry)) (sym (get_or_read settings.items entry.setting around known who nobody))

-- and is seen as it is kept
pub seen_at : (all : List Surrounding) (handle : ℕ) (surrounding : Surrounding) → slice_get all handle ≡ Some surrounding
    → surrounding_seen surrounding ≡ surrounding_at (surroundings_seen all) handle
seen_at all handle surrounding stands =
    sym (get_or_from_slice_get (surroundings_seen all) handle (surrounding_seen surrounding) _
    (slice_get-map surrounding_seen all handle ∙ ap (option_map surrounding_seen) stands))
