-- Calls that load, behind one another, and maps of files that agree with what they loaded.
use Rattle.std.proofs.Common.{◌≡◌, ◌≢◌, ◌<◌, ℕ, List, [], ◌∷◌, ◌++◌, length, drop, Option, Some, None, IfErr, IfSome, Result, Ok, Err, refl, sym, ap, subst, ◌∙◌, append_assoc, arith}
use Rattle.std.proofs.Math.Seq.{drop-append_seam}
use Rattle.std.proofs.lemmas.List.{append-nil}
use Rattle.meaning_outside.specs.Faults.{Rose}
use Rattle.meaning_outside.specs.Files.{FileMap}
use Rattle.meaning_outside.specs.Loads.{Loaded, AgreesWith, EachPathIsLoadedOnce, LoadsStay, NoneIsOf, loads_since}
use Rattle.c_preproc.specs.Loads.{HasLoaded}
use Rattle.c_preproc.specs.States.{IsFaultInText}
use Rattle.c_preproc.specs.declared.pre_fault.PreFault.{PreFault}
use Rattle.c_preproc.specs.declared.pre_fault.PreFault.TheVariants.{ReadFault}

-- Maps that agree

pub agrees-front : (files : FileMap) (first others : List Loaded) → AgreesWith files (first ++ others) → AgreesWith files first
agrees-front files [] others agrees = tt
agrees-front files (load ∷ first) others agrees = (agrees.0, agrees-front files first others agrees.1)

pub agrees-back : (files : FileMap) (first others : List Loaded) → AgreesWith files (first ++ others) → AgreesWith files others
agrees-back files [] others agrees = agrees
agrees-back files (load ∷ first) others agrees = agrees-back files first others agrees.1

pub agrees-both : (files : FileMap) (first others : List Loaded) → AgreesWith files first → AgreesWith files others → AgreesWith files (first ++ others)
agrees-both files [] others here there = there
agrees-both files (load ∷ first) others here there = (here.0, agrees-both files first others here.1 there)

-- Paths that are loaded once

none-push : (path : List ℕ) (given : List Loaded) (load : Loaded) → NoneIsOf path given → load.path ≢ path → NoneIsOf path (given ++ load ∷ [])
none-push path [] load none other = (other, tt)
none-push path (first ∷ given) load none other = (none.0, none-push path given load none.1 other)

pub once-push : (given : List Loaded) (load : Loaded) → EachPathIsLoadedOnce given → NoneIsOf load.path given → EachPathIsLoadedOnce (given ++ load ∷ [])
once-push [] load once none = (tt, tt)
once-push (first ∷ given) load once none = (none-push first.path given load once.0 (λ same. none.0 (sym same)), once-push given load once.1 none.1)

-- Loads of calls

pub since-none : (all : List Loaded) → loads_since all all ≡ []
since-none all = ap (drop (length all)) (sym (append-nil all)) ∙ drop-append_seam all []

pub stay-none : (all : List Loaded) → LoadsStay all all
stay-none all = sym (append-nil all) ∙ ap (λ (more : List Loaded). all ++ more) (sym (since-none all))

-- where there was one load
pub one-since : (before now : List Loaded) (load : Loaded) → now ≡ before ++ load ∷ [] → loads_since before now ≡ load ∷ []
one-since before now load is = ap (drop (length before)) is ∙ drop-append_seam before (load ∷ [])

module _ (first mid last : List Loaded) (here : LoadsStay first mid) (there : LoadsStay mid last) where
  pub since-then : loads_since first last ≡ loads_since first mid ++ loads_since mid last
  since-then =
      ap (drop (length first)) (there ∙ ap (λ (all : List Loaded). all ++ loads_since mid last) here ∙ append_assoc first (loads_since first mid) (loads_since mid last))
      ∙ drop-append_seam first (loads_since first mid ++ loads_since mid last)

  pub stay-then : LoadsStay first last
  stay-then =
      there ∙ ap (λ (all : List Loaded). all ++ loads_since mid last) here ∙ append_assoc first (loads_since first mid) (loads_since mid last)
      ∙ ap (λ (more : List Loaded). first ++ more) (sym since-then)

  -- behind those that were loaded before
  pub since-behind : (earlier : List Loaded) → earlier ++ loads_since first last ≡ (earlier ++ loads_since first mid) ++ loads_since mid last
  since-behind earlier = ap (λ (more : List Loaded). earlier ++ more) since-then ∙ sym (append_assoc earlier (loads_since first mid) (loads_since mid last))

-- Calls

-- what is done is no fault
pub ok-err : {T E : Type 0} (done : T) (fault : E) → ◌≡◌ {A = Result T E} (Ok done) (Err fault) → ⊥
ok-err {T} {E} done fault is = subst (λ (r : Result T E). IfErr r (λ _. ⊥)) is tt

-- nor does a fault that is told in a text tell of a load
pub text-err : {T : Type 0} (names : List (List ℕ)) (fault : PreFault) → IsFaultInText names fault → ◌≡◌ {A = Result T PreFault} (Err fault) (Err ReadFault) → ⊥
text-err {T} names fault known is = subst (λ (r : Result T PreFault). IfErr r (IsFaultInText names)) is known

-- one that loads nothing
pub loaded-none : (all : List Loaded) (held : Option FileMap) (faults : ℕ) (failed : Type 0) → (failed → ⊥) → HasLoaded all all held held faults faults failed
loaded-none all held faults failed never = record {
  stay = stay-none all;
  told = by held;
  cause = record { later = omega arith; only = λ is. absurd (never is); always = λ less. absurd (omega (arith, less)) };
  same = refl;
}
  where
    by : (found : Option FileMap) → IfSome found (λ files. AgreesWith files (loads_since all all))
    by None = tt
    by (Some files) = subst (AgreesWith files) (sym (since-none all)) tt

-- the same fault, told by another answer
pub loaded-so : (before now : List Loaded) (held holds : Option FileMap) (first last : ℕ) (failed told : Type 0) → (failed → told) → (told → failed)
    → HasLoaded before now held holds first last failed → HasLoaded before now held holds first last told
loaded-so before now held holds first last failed told goes comes has = record {
  stay = has.stay;
  told = has.told;
  cause = record { later = has.cause.later; only = λ is. has.cause.only (comes is); always = λ less. goes (has.cause.always less) };
  same = has.same;
}

-- one behind another that didn't fail
pub loaded-then : (first mid last : List Loaded) (held between holds : Option FileMap) (before midst now : ℕ) (failed told : Type 0) → (failed → ⊥)
    → HasLoaded first mid held between before midst failed → HasLoaded mid last between holds midst now told → HasLoaded first last held holds before now told
loaded-then first mid last held between holds before midst now failed told never has then_ = record {
  stay = stay-then first mid last has.stay then_.stay;
  told = by held has.told (subst (λ (found : Option FileMap). IfSome found (λ files. AgreesWith files (loads_since mid last))) has.same then_.told);
  cause = record {
    later = omega (arith, has.cause.later, then_.cause.later);
    only = λ is. subst (λ count. Rose count now) still (then_.cause.only is);
    always = λ less. then_.cause.always (omega (arith, less, still));
  };
  same = then_.same ∙ has.same;
}
  where
    still : midst ≡ before
    still = let grew : before < midst → ⊥ = λ less. never (has.cause.always less) in omega (arith, has.cause.later, grew)

    by : (found : Option FileMap) → IfSome found (λ files. AgreesWith files (loads_since first mid)) → IfSome found (λ files. AgreesWith files (loads_since mid last))
        → IfSome found (λ files. AgreesWith files (loads_since first last))
    by None here there = tt
    by (Some files) here there =
        subst (AgreesWith files) (sym (since-then first mid last has.stay then_.stay)) (agrees-both files (loads_since first mid) (loads_since mid last) here there)
