-- What a table of macros tells of is known: for each entry, and where the tables change.
use Rattle.std.proofs.Common.{◌≡◌, ◌≢◌, ◌<◌, ℕ, zero, suc, Bool, true, false, nat_eq, List, [], ◌∷◌, length, get_or, Option, Some, None, All, cond, refl, sym, ap, subst, ◌∙◌, ⊎_elim, arith, eq-eqb}
use Rattle.std.specs.Map.{lookup}
use Rattle.std.proofs.lemmas.Bool.Decides.{eqb_tells}
use Rattle.std.proofs.lemmas.List.Elements.{All-weaker}
use Rattle.std.proofs.lemmas.Option.{same_Some, none-some}
use Rattle.sparse_model.specs.declared.ids.NameId.{NameId}
use Rattle.c_tokens.specs.declared.token.Token.{Token}
use Rattle.c_tokens.specs.Seen.{Extends, IsKnown}
use Rattle.c_tokens.proofs.SeenLemmas.{IsKnown-Extends}
use Rattle.c_macros.specs.declared.definition.Macro.{Macro}
use Rattle.c_macros.specs.Parameters.{params_in}
use Rattle.c_macros.specs.Redefinition.{defined_as}
use Rattle.c_macros.specs.Seen.{IsKnownMacro, KnowsAll}
use Rattle.c_macros.specs.Table.{Table, macro_at, spelling_of_file}

-- a look-up of the name of an entry finds something
found-at : (entries : List (NameId × Macro)) (k : ℕ) (d : NameId × Macro) → k < length entries
    → (m : Macro) × (lookup (λ (other : NameId). nat_eq (get_or entries k d).0.0 other.0) entries ≡ Some m)
found-at [] k d below = absurd (omega (arith, below))
found-at (entry ∷ entries) zero d below = (entry.1, ap (λ this. cond this (Some entry.1) (lookup (λ (other : NameId). nat_eq entry.0.0 other.0) entries)) (eq-eqb entry.0.0 entry.0.0 refl))
found-at (entry ∷ entries) (suc k) d below = by (nat_eq (get_or entries k d).0.0 entry.0.0) (found-at entries k d (omega (arith, below)))
  where
    by : (this : Bool) → (m : Macro) × (lookup (λ (other : NameId). nat_eq (get_or entries k d).0.0 other.0) entries ≡ Some m)
        → (m : Macro) × (cond this (Some entry.1) (lookup (λ (other : NameId). nat_eq (get_or entries k d).0.0 other.0) entries) ≡ Some m)
    by true later = (entry.1, refl)
    by false later = later

-- what holds of each name that has a macro holds of the name of each entry
pub All-named : (P : NameId → Type 0) (entries : List (NameId × Macro)) → ((name : NameId) (m : Macro) → lookup (λ (other : NameId). nat_eq name.0 other.0) entries ≡ Some m → P name)
    → All (λ (entry : NameId × Macro). P entry.0) entries
All-named P entries named = λ k d below. let found = found-at entries k d below in named (get_or entries k d).0 found.0 found.1

-- one number is one id
same-id : (i j : NameId) → i.0 ≡ j.0 → i ≡ j
same-id i j same = λ k. record { 0 = same k }

other-number : (i j : NameId) → (i.0 ≡ j.0 → ⊥) → i ≢ j
other-number i j apart = λ same. apart (ap (λ (id : NameId). id.0) same)

-- the macro behind a definition is one of two
defined-known : (names : List (List ℕ)) (before : Option Macro) (m : Macro) → ((old : Macro) → before ≡ Some old → IsKnownMacro names old) → IsKnownMacro names m → IsKnownMacro names (defined_as before m)
defined-known names None m old known = known
defined-known names (Some had) m old known = old had refl

-- files that were told alike are known alike
files-known : (names : List (List ℕ)) (old new : Table) → new.files ≡ old.files → KnowsAll names old → (file : ℕ) (spelled : NameId) → spelling_of_file new file ≡ Some spelled → IsKnown names spelled
files-known names old new files knows file spelled found = knows.files file spelled (ap (lookup (nat_eq file)) (sym files) ∙ found)

-- behind a definition of a known name by a known macro
pub KnowsAll-define : (names : List (List ℕ)) (old new : Table) (name : NameId) (m : Macro) → macro_at new name ≡ Some (defined_as (macro_at old name) m)
    → ((other : NameId) → other ≢ name → macro_at new other ≡ macro_at old other) → new.files ≡ old.files → KnowsAll names old → IsKnown names name → IsKnownMacro names m → KnowsAll names new
KnowsAll-define names old new name m defined others files knows known known_m = record {
  named = λ other n found. ⊎_elim
      (λ same. subst (IsKnown names) (sym (same-id other name same.1)) known)
      (λ apart. knows.named other n (sym (others other (other-number other name apart.1)) ∙ found))
      (eqb_tells other.0 name.0);
  macros = λ other n found. ⊎_elim
      (λ same. subst (IsKnownMacro names) (same_Some _ _ (sym defined ∙ ap (macro_at new) (sym (same-id other name same.1)) ∙ found))
      (defined-known names (macro_at old name) m (knows.macros name) known_m))
      (λ apart. knows.macros other n (sym (others other (other-number other name apart.1)) ∙ found))
      (eqb_tells other.0 name.0);
  files = files-known names old new files knows;
}

-- behind a definition that was dropped
pub KnowsAll-undef : (names : List (List ℕ)) (old new : Table) (name : NameId) → macro_at new name ≡ None
    → ((other : NameId) → other ≢ name → macro_at new other ≡ macro_at old other) → new.files ≡ old.files → KnowsAll names old → KnowsAll names new
KnowsAll-undef names old new name dropped others files knows = record {
  named = λ other n found. knows.named other n (earlier other n found);
  macros = λ other n found. knows.macros other n (earlier other n found);
  files = files-known names old new files knows;
}
  where
    earlier : (other : NameId) (n : Macro) → macro_at new other ≡ Some n → macro_at old other ≡ Some n
    earlier other n found = ⊎_elim
        (λ same. absurd (none-some n (sym dropped ∙ ap (macro_at new) (sym (same-id other name same.1)) ∙ found)))
        (λ apart. sym (others other (other-number other name apart.1)) ∙ found)
        (eqb_tells other.0 name.0)

-- behind a known spelling of a file
pub KnowsAll-set_file : (names : List (List ℕ)) (old new : Table) (file : ℕ) (spelled : NameId) → spelling_of_file new file ≡ Some spelled
    → ((other : ℕ) → other ≢ file → spelling_of_file new other ≡ spelling_of_file old other) → new.macros ≡ old.macros → KnowsAll names old → IsKnown names spelled → KnowsAll names new
KnowsAll-set_file names old new file spelled told others macros knows known = record {
  named = λ name m found. knows.named name m (ap (lookup (λ (other : NameId). nat_eq name.0 other.0)) (sym macros) ∙ found);
  macros = λ name m found. knows.macros name m (ap (lookup (λ (other : NameId). nat_eq name.0 other.0)) (sym macros) ∙ found);
  files = λ other text found. ⊎_elim
      (λ same. subst (IsKnown names) (same_Some _ _ (sym told ∙ ap (spelling_of_file new) (sym same.1) ∙ found)) known)
      (λ apart. knows.files other text (sym (others other apart.1) ∙ found))
      (eqb_tells other file);
}

-- a known macro stays known where the table of names grew
pub macro-Extends : (names later : List (List ℕ)) → Extends names later → (m : Macro) → IsKnownMacro names m → IsKnownMacro later m
macro-Extends names later more m known = record {
  params = All-weaker (IsKnown names) (IsKnown later) (IsKnown-Extends names later more) (params_in m.params) known.params;
  body = All-weaker (λ (t : Token). IsKnown names t.name) (λ (t : Token). IsKnown later t.name) (λ t. IsKnown-Extends names later more t.name) m.body known.body;
}

-- and so does all that a table of macros tells of
pub KnowsAll-Extends : (names later : List (List ℕ)) (table : Table) → Extends names later → KnowsAll names table → KnowsAll later table
KnowsAll-Extends names later table more knows = record {
  named = λ name m found. IsKnown-Extends names later more name (knows.named name m found);
  macros = λ name m found. macro-Extends names later more m (knows.macros name m found);
  files = λ file spelled found. IsKnown-Extends names later more spelled (knows.files file spelled found);
}
