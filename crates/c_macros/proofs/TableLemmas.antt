-- What a table has at a name, and what a second definition is.
use Rattle.std.proofs.Common.{◌≡◌, ◌≢◌, Bool, true, false, not, nat_eq, Option, None, Some, Ok, Err, sym, ap, ◌∙◌, true≢false, Result}
use Rattle.std.specs.Result.{IsErrAnd, is_ok}
use Rattle.c_macros.specs.declared.fault.DefineFault.{DefineFault}
use Rattle.c_macros.specs.declared.fault.DefineFault.TheVariants.{Redefined, Memory}
use Rattle.std.proofs.lemmas.Bool.{ne_eqb, both_ways}
use Rattle.meaning_macros.specs.Agreement.{agree}
use Rattle.sparse_model.specs.declared.ids.NameId.{NameId}
use Rattle.c_macros.specs.declared.definition.Macro.{Macro}
use Rattle.c_macros.specs.Seen.{by_ids}
use Rattle.c_macros.specs.Redefinition.{redefines, defined_as}

-- another id has another number
pub differ : (name other : NameId) → other ≢ name → nat_eq name.0 other.0 ≡ false
differ name other apart = ne_eqb name.0 other.0 (λ same. apart (λ k. record { 0 = sym same k }))

-- a name without a macro isn't redefined
pub redefines-None : (o : Option Macro) (m : Macro) → o ≡ None → redefines o m ≡ true → ⊥
redefines-None o m none = both_ways _ (ap (λ found. redefines found m) none)

-- a name isn't redefined by a macro that agrees with its own
pub redefines-agreeing : (o : Option Macro) (old m : Macro) → o ≡ Some old → agree (by_ids old) (by_ids m) ≡ true → redefines o m ≡ true → ⊥
redefines-agreeing o old m has same = both_ways _ (ap (λ found. redefines found m) has ∙ ap not same)

-- it is by another one
pub redefines-other : (o : Option Macro) (old m : Macro) → o ≡ Some old → agree (by_ids old) (by_ids m) ≡ false → redefines o m ≡ true
redefines-other o old m has differs = ap (λ found. redefines found m) has ∙ ap not differs

-- a name that has a macro keeps it
pub defined_as-Some : (o : Option Macro) (old m : Macro) → o ≡ Some old → o ≡ Some (defined_as o m)
defined_as-Some o old m has = has ∙ ap (λ found. Some (defined_as found m)) (sym has)

-- Ok tells of no fault
pub Ok-Err : {T E : Type 0} {x : T} {e : E} → Ok x ≡ Err e → ⊥
Ok-Err told = true≢false (ap is_ok told)

abbrev is_memory : Result (Unit {0}) DefineFault → Bool
is_memory (Ok x) = false
is_memory (Err Redefined) = false
is_memory (Err Memory) = true

-- want of memory is no other macro of the name
pub Memory-Redefined : (r : Result (Unit {0}) DefineFault) → IsErrAnd r (λ fault. fault ≡ Memory) → r ≡ Err Redefined → ⊥
Memory-Redefined (Ok x) memory told = memory
Memory-Redefined (Err fault) memory told =
    true≢false (sym (ap (λ (other : DefineFault). is_memory (Err other)) memory) ∙ ap is_memory told)

-- a name that has none gets this one
pub defined_as-None : (o : Option Macro) (m : Macro) → o ≡ None → Some m ≡ Some (defined_as o m)
defined_as-None o m none = ap (λ found. Some (defined_as found m)) (sym none)
