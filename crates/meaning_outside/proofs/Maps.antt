-- Where each path is loaded once, a map that agrees with all loads is made of them, one behind the other.
use Rattle.std.proofs.Common.{◌≡◌, ◌≢◌, ◌+◌, ℕ, Bool, true, false, cond, List, [], ◌∷◌, Option, Some, None, replicate, sym, ◌∙◌, ap, subst, refl, arith}
use Rattle.std.specs.Ordering.{nat_cmp, eq_by_cmp}
use Rattle.std.specs.Cmp.Lexicographic.{slice_cmp, nat_list_cmp_total}
use Rattle.std.specs.FinMap as map
use Rattle.std.specs.Str.{bytes_eq}
use Rattle.std.proofs.lemmas.List.{length-replicate}
use Rattle.std.proofs.lemmas.Map.Text.{is_eq-slice_cmp}
use Rattle.std.proofs.lemmas.Slice.Eq.{bytes_eq-Decides}
use Rattle.meaning_outside.specs.Files.{FileMap, file_at}
use Rattle.meaning_outside.specs.Loads.{Given, Whole, Missing, TooLong, Failed, NoMemory, Loaded, MayGive, AgreesWithLoad, AgreesWith, NoneIsOf}
use Rattle.meaning_outside.specs.laws.Loads.{LoadsOfEachPathOnceAgree}

-- The order of paths tells them apart

bytes_differ : (path other : List ℕ) (equal : Bool) → bytes_eq path other ≡ equal → path ≢ other → equal ≡ false
bytes_differ path other true is differ = absurd (differ ((bytes_eq-Decides path other).0 is))
bytes_differ path other false is differ = refl

ties_itself : (path : List ℕ) → eq_by_cmp (slice_cmp nat_cmp) path path ≡ true
ties_itself path = is_eq-slice_cmp path path ∙ (bytes_eq-Decides path path).1 refl

ties_no_other : (path other : List ℕ) → path ≢ other → eq_by_cmp (slice_cmp nat_cmp) path other ≡ false
ties_no_other path other differ = is_eq-slice_cmp path other ∙ bytes_differ path other (bytes_eq path other) refl differ

-- One load more

-- a map that agrees with the load, and holds at each other path what this one holds
record Joined (files : FileMap) (load : Loaded) : Type 0 where
  joined : FileMap
  agrees : AgreesWithLoad joined load
  elsewhere : (path : List ℕ) → path ≢ load.path → file_at joined path ≡ file_at files path

-- this map with the file of the load
module _ (files : FileMap) (path : List ℕ) (most : ℕ) (given : Given) where
  abbrev this_load : Loaded
  this_load = record { path = path; most = most; given = given }

  as_it_is : MayGive (file_at files path) most given → Joined files this_load
  as_it_is agrees = record { joined = files; agrees = agrees; elsewhere = λ other differs. refl }

  with_bytes : (bytes : List ℕ) → MayGive (Some bytes) most given → Joined files this_load
  with_bytes bytes agrees = record {
    joined = map.insert files path bytes;
    agrees =
        subst (λ (found : Option (List ℕ)). MayGive found most given)
        (sym (map.get-insert nat_list_cmp_total files path bytes path ∙ ap (λ (tied : Bool). cond tied (Some bytes) (file_at files path)) (ties_itself path)))
        agrees;
    elsewhere = λ other differs.
        map.get-insert nat_list_cmp_total files path bytes other
        ∙ ap (λ (tied : Bool). cond tied (Some bytes) (file_at files other)) (ties_no_other other path differs);
  }

  without : MayGive None most given → Joined files this_load
  without agrees = record {
    joined = map.remove files path;
    agrees =
        subst (λ (found : Option (List ℕ)). MayGive found most given)
        (sym (map.get-remove nat_list_cmp_total files path path ∙ ap (λ (tied : Bool). cond tied None (file_at files path)) (ties_itself path)))
        agrees;
    elsewhere = λ other differs.
        map.get-remove nat_list_cmp_total files path other
        ∙ ap (λ (tied : Bool). cond tied None (file_at files other)) (ties_no_other other path differs);
  }

join : (files : FileMap) (path : List ℕ) (most : ℕ) (given : Given) → Joined files (record { path = path; most = most; given = given })
join files path most (Whole bytes) = with_bytes files path most (Whole bytes) bytes refl
join files path most Missing = without files path most Missing refl
join files path most TooLong =
    with_bytes files path most TooLong (replicate (most + 1) 0) (omega (arith, length-replicate {A = ℕ} (most + 1) 0))
join files path most Failed = as_it_is files path most Failed tt
join files path most NoMemory = as_it_is files path most NoMemory tt

-- All loads

-- what agrees with loads of other paths goes on agreeing
still_agrees :
    (files : FileMap) (load : Loaded) (new : Joined files load) (loads : List Loaded) → NoneIsOf load.path loads → AgreesWith files loads
    → AgreesWith new.joined loads
still_agrees files load new [] none agrees = tt
still_agrees files load new (other ∷ loads) none agrees = (
  subst (λ (found : Option (List ℕ)). MayGive found other.most other.given) (sym (new.elsewhere other.path none.0)) agrees.0,
  still_agrees files load new loads none.1 agrees.1,
)

pub some_map_agrees : LoadsOfEachPathOnceAgree
some_map_agrees [] once = (map.empty, tt)
some_map_agrees (load ∷ loads) once =
    let rest = some_map_agrees loads once.1 in
    let new = join rest.0 load.path load.most load.given in
    (new.joined, (new.agrees, still_agrees rest.0 load new loads once.0 rest.1))
