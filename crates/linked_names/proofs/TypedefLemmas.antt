-- The first typedef of a name in a scope, once one more has joined.
use Rattle.std.proofs.Common.{◌≡◌, ℕ, Bool, true, false, List, [], ◌∷◌, ◌++◌, Option, Some, None, IfSome, if◌then◌else◌, refl, sym, ap, ◌∙◌}
use Rattle.std.specs.Option.{option_or}
use Rattle.std.specs.List.{AllByRecursion}
use Rattle.std.proofs.lemmas.List.Elements.{recursion_from_All}
use Rattle.sparse_model.specs.declared.ids.NameId.{NameId}
use Rattle.sparse_model.specs.declared.ids.TypeId.{TypeId}
use Rattle.c_types.specs.Table.{TypeTable, IsTypeId}
use Rattle.linked_names.specs.Typedefs.{AreTypedefIds, KeepsFirst, first_of, is_typedef_of, same_scoped}
use Rattle.linked_names.specs.declared.declaration.Typedef.{Typedef}

first-more : (scope : ℕ) (name : NameId) (typedefs : List Typedef) (next : Typedef)
    → first_of scope name (typedefs ++ next ∷ []) ≡ option_or (first_of scope name typedefs) (if is_typedef_of scope name next then Some next.of else None)
first-more scope name [] next = refl
first-more scope name (typedef ∷ typedefs) next = by (is_typedef_of scope name typedef) (first-more scope name typedefs next)
  where
    last : Option TypeId
    last = if is_typedef_of scope name next then Some next.of else None

    by : (test : Bool) → first_of scope name (typedefs ++ next ∷ []) ≡ option_or (first_of scope name typedefs) last
        → (if test then Some typedef.of else first_of scope name (typedefs ++ next ∷ [])) ≡ option_or (if test then Some typedef.of else first_of scope name typedefs) last
    by true later = refl
    by false later = later

pub keeps-more : (typedefs : List Typedef) (next : Typedef) (found later : ℕ × NameId → Option TypeId) → KeepsFirst typedefs found
    → ((key : ℕ × NameId) → later key ≡ option_or (found key) (if same_scoped (next.scope, next.name) key then Some next.of else None)) → KeepsFirst (typedefs ++ next ∷ []) later
keeps-more typedefs next found later keeps joins key =
    joins key
    ∙ ap (λ one. option_or one (if same_scoped (next.scope, next.name) key then Some next.of else None)) (keeps key)
    ∙ sym (first-more key.0 key.1 typedefs next)

-- the first is a type of the table where all are
pub first-known : (table : TypeTable) (scope : ℕ) (name : NameId) (typedefs : List Typedef) → AreTypedefIds table typedefs → IfSome (first_of scope name typedefs) (IsTypeId table)
first-known table scope name typedefs are = go typedefs (recursion_from_All (λ typedef. IsTypeId table typedef.of) typedefs are)
  where
    go : (typedefs : List Typedef) → AllByRecursion (λ typedef. IsTypeId table typedef.of) typedefs → IfSome (first_of scope name typedefs) (IsTypeId table)
    go [] known = tt
    go (typedef ∷ typedefs) known = by (is_typedef_of scope name typedef) (go typedefs known.1)
      where
        by : (test : Bool) → IfSome (first_of scope name typedefs) (IsTypeId table) → IfSome (if test then Some typedef.of else first_of scope name typedefs) (IsTypeId table)
        by true later = known.0
        by false later = later
