-- What is remembered of types to which something was added.
use Rattle.std.proofs.Common.{◌≡◌, ℕ, ◌<◌, Bool, true, false, List, [], ◌∷◌, ◌++◌, Option, Some, None, length, slice_get, if◌then◌else◌, refl, sym, ap, ◌∙◌, subst, arith, length-append, Result, Ok, Err, OnOk, OnErr}
use Rattle.std.proofs.lemmas.Option.{none-some, same_Some}
use Rattle.std.specs.Map.{lookup}
use Rattle.std.specs.Option.{IfNone, IfSome}
use Rattle.indexmap.specs.IndexMap.{insert_entry}
use Rattle.meaning_types.specs.Types.{TypeTree, no_flags, no_qualifiers}
use Rattle.meaning_types.specs.Marks.{marked}
use Rattle.c_types.specs.declared.form.Marks.{Marks}
use Rattle.c_types.specs.declared.form.Marking.{Marking}
use Rattle.c_types.specs.Rows.{Row, type_numbered, types_of, qualifiers_in, flags_in, Grows}
use Rattle.c_types.specs.Levels.{IsMarked, AreMarkings}
use Rattle.c_types.proofs.Arrays.{marked-none}
use Rattle.c_types.proofs.Forms.{numbered-stands, numbered-kept}
use Rattle.c_types.proofs.Keys.{marking_eq, same_marking}
use Rattle.c_types.proofs.Lists.{stands-append}
use Rattle.c_types.proofs.RowLemmas.{types_of-Grows}

-- what holds of each value that an option may have holds of its own
pub IfSome_from : {X : Type 0} (P : X → Type 0) (found : Option X) → ((x : X) → found ≡ Some x → P x) → IfSome found P
IfSome_from P None h = tt
IfSome_from P (Some x) h = h x refl

-- old types stay
IsMarked-kept : (types more : List TypeTree) (marking : Marking) (number : ℕ) → IsMarked types marking number → IsMarked (types ++ more) marking number
IsMarked-kept types more marking number is =
    record {
      known = omega (arith, is.known, length-append types more);
      stands =
          stands-append types more number _ is.stands
          ∙ ap (λ t. Some (marked (qualifiers_in marking.marks) (flags_in marking.marks) t)) (sym (numbered-kept types more marking.number is.known));
    }

pub AreMarkings-Grows : (old new : List Row) → Grows old new → (markings : List (Marking × ℕ)) → AreMarkings old markings → AreMarkings new markings
AreMarkings-Grows old new grows [] all = tt
AreMarkings-Grows old new grows (entry ∷ markings) all =
    let more = types_of-Grows old new grows in
    (subst (λ types. IsMarked types entry.0 entry.1) (sym more.1) (IsMarked-kept (types_of old) more.0 entry.0 entry.1 all.0), AreMarkings-Grows old new grows markings all.1)

-- one more joins
pub AreMarkings-insert : (rows : List Row) (marking : Marking) (number : ℕ) → IsMarked (types_of rows) marking number → (markings : List (Marking × ℕ)) → AreMarkings rows markings
    → AreMarkings rows (insert_entry marking_eq markings marking number)
AreMarkings-insert rows marking number is [] all = (is, tt)
AreMarkings-insert rows marking number is (entry ∷ markings) all = by (marking_eq marking entry.0) refl (AreMarkings-insert rows marking number is markings all.1)
  where
    by : (test : Bool) → marking_eq marking entry.0 ≡ test → AreMarkings rows (insert_entry marking_eq markings marking number)
        → AreMarkings rows (if test then (entry.0, number) ∷ markings else entry ∷ insert_entry marking_eq markings marking number)
    by true e later = (subst (λ m. IsMarked (types_of rows) m number) (same_marking marking entry.0 e) is, all.1)
    by false e later = (all.0, later)

-- what is looked up is right
pub AreMarkings-found : (rows : List Row) (marking : Marking) (number : ℕ) (markings : List (Marking × ℕ)) → AreMarkings rows markings → lookup (marking_eq marking) markings ≡ Some number
    → IsMarked (types_of rows) marking number
AreMarkings-found rows marking number [] all found = absurd (none-some number found)
AreMarkings-found rows marking number (entry ∷ markings) all found = by (marking_eq marking entry.0) refl (AreMarkings-found rows marking number markings all.1)
  where
    by : (test : Bool) → marking_eq marking entry.0 ≡ test → (lookup (marking_eq marking) markings ≡ Some number → IsMarked (types_of rows) marking number) → IsMarked (types_of rows) marking number
    by true e later =
        let value : entry.1 ≡ number = same_Some _ _ (sym (ap (λ test. if test then Some entry.1 else lookup (marking_eq marking) markings) e) ∙ found) in
        subst (λ m. IsMarked (types_of rows) m number) (sym (same_marking marking entry.0 e)) (subst (IsMarked (types_of rows) entry.0) value all.0)
    by false e later = later (sym (ap (λ test. if test then Some entry.1 else lookup (marking_eq marking) markings) e) ∙ found)

-- nothing is added
pub IsMarked-none : (types : List TypeTree) (number : ℕ) (marks : Marks) → number < length types → qualifiers_in marks ≡ no_qualifiers → flags_in marks ≡ no_flags
    → IsMarked types (record { number = number; marks = marks }) number
IsMarked-none types number marks known qualifiers flags =
    record {
      known = known;
      stands =
          numbered-stands types number known
          ∙ ap Some (sym (marked-none (type_numbered types number)) ∙ (λ i. marked (sym qualifiers i) (sym flags i) (type_numbered types number)));
    }

-- the same of an option that may be none
pub IfNone_from : {X : Type 0} (P : Type 0) (found : Option X) → (found ≡ None → P) → IfNone found P
IfNone_from P None h = h refl
IfNone_from P (Some x) h = tt

-- what follows from both ways in which a call may end holds
pub from_either : {T E P Q : Type 0} (R : Type 0) (result : Result T E) → OnOk result P → OnErr result Q → (P → R) → (Q → R) → R
from_either R (Ok value) ok err f g = f ok
from_either R (Err error) ok err f g = g err

-- the type that was made of another one stays so where the types grew
pub marked-after : (old mid new : List Row) → mid ≡ old → Grows mid new → (element whole number : ℕ) (marks : Marks) → whole ≡ element → element < length (types_of old)
    → slice_get (types_of new) number ≡ Some (marked (qualifiers_in marks) (flags_in marks) (type_numbered (types_of mid) whole))
    → IsMarked (types_of new) (record { number = element; marks = marks }) number
marked-after old mid new same grows element whole number marks is known stands =
    let more = types_of-Grows mid new grows in
    let below : element < length (types_of mid) = subst (λ rows. element < length (types_of rows)) (sym same) known in
    record {
      known = omega (arith, below, ap length more.1, length-append (types_of mid) more.0);
      stands =
          stands
          ∙ ap (λ n. Some (marked (qualifiers_in marks) (flags_in marks) (type_numbered (types_of mid) n))) is
          ∙ ap (λ t. Some (marked (qualifiers_in marks) (flags_in marks) t)) (sym (ap (λ types. type_numbered types element) more.1 ∙ numbered-kept (types_of mid) more.0 element below));
    }

-- what holds in any case holds of an Ok
pub on_ok : {T E P : Type 0} (result : Result T E) → P → OnOk result P
on_ok (Ok value) p = p
on_ok (Err error) p = tt
