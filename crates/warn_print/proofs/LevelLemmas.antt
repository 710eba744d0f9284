-- What the outermost level of a type tells of its text and of its weight.
use Rattle.std.proofs.Common.{◌≡◌, ℕ, ◌+◌, ◌<◌, List, ◌++◌, codes, Bool, Some, None, refl, sym, ap, ◌∙◌, subst, arith, append_assoc}
use Rattle.std.proofs.lemmas.Option.{none-some, same_Some}
use Rattle.sparse_model.specs.declared.ids.TypeId.{TypeId}
use Rattle.meaning_types.specs.Types.{TypeTree, Typed, TypeTrees, Qualifiers, Flags}
use Rattle.c_types.specs.declared.shapes.OuterBase.{OuterBase}
use Rattle.c_types.specs.declared.shapes.OuterBase.TheVariants as outers
use Rattle.meaning_types.specs.Spelling.{length_spelling, marks}
use Rattle.c_types.specs.Levels.{BeginsWith}
use Rattle.c_types.specs.declared.shapes.OuterShape.{OuterShape}
use Rattle.c_types.specs.Rows.{is_variadic, parameter_types}
use Rattle.c_types.specs.Table.{TypeTable, IsOuterOver, IsTypeId, base_of_outer, space_of, type_at, type_of_outer, types_in}
use Rattle.warn_print.specs.Seen.{named_flags}
use Rattle.warn_print.specs.Pieces.{derivation_in, derivation_weight, inner_of, marks_in, more_in, parameters_in, plain_derivation, spelled_in, type_weight, types_weight}

-- four texts behind a first one, and a last one in the end
behind_four : (a b c d e : List ℕ) → a ++ b ++ c ++ d ++ e ≡ a ++ (b ++ c ++ d ++ e)
behind_four a b c d e = simp append_assoc

from_front : (a b c d : List ℕ) → a ++ b ++ c ++ d ≡ a ++ (b ++ (c ++ d))
from_front a b c d = simp append_assoc

module _ (names : List (List ℕ)) (table : TypeTable) (parameters : TypeTrees) (qualifiers : Qualifiers) (flags : Flags) where
  -- the type of an outermost level with this base
  abbrev pub level : OuterBase → TypeTree
  level base = Typed (base_of_outer (types_in table) parameters base) qualifiers flags

  -- a derived type is the one inside it, and what derives it
  pub level-inner :
      (base : OuterBase) (inner : TypeId) → inner_of base ≡ Some inner
      → spelled_in names table (level base)
      ≡ spelled_in names table (type_at table inner) ++ (derivation_in names table (level base) ++ marks_in names (level base))
  level-inner (outers.Pointer target) inner is =
      subst (λ (id : TypeId). spelled_in names table (level (outers.Pointer target)) ≡ spelled_in names table (type_at table id) ++ (derivation_in names table (level (outers.Pointer target)) ++ marks_in names (level (outers.Pointer target)))) (same_Some _ _ is)
      (append_assoc (spelled_in names table (type_at table target)) (codes " *") (marks qualifiers (named_flags names flags)))
  level-inner (outers.Array element count) inner is =
      subst (λ (id : TypeId). spelled_in names table (level (outers.Array element count)) ≡ spelled_in names table (type_at table id) ++ (derivation_in names table (level (outers.Array element count)) ++ marks_in names (level (outers.Array element count)))) (same_Some _ _ is)
      (behind_four (spelled_in names table (type_at table element)) (codes " [") (length_spelling count) (codes "]") (marks qualifiers (named_flags names flags)))
  level-inner (outers.Function result count variadic) inner is =
      subst (λ (id : TypeId). spelled_in names table (level (outers.Function result count variadic)) ≡ spelled_in names table (type_at table id) ++ (derivation_in names table (level (outers.Function result count variadic)) ++ marks_in names (level (outers.Function result count variadic)))) (same_Some _ _ is)
      (behind_four (spelled_in names table (type_at table result)) (codes " (") (parameters_in names table parameters variadic) (codes ")") (marks qualifiers (named_flags names flags)))
  level-inner outers.Void inner is = absurd (none-some inner is)
  level-inner (outers.Integer kind identity) inner is = absurd (none-some inner is)
  level-inner (outers.Aggregate number is_union) inner is = absurd (none-some inner is)

  -- and weighs more than both
  pub level-lighter :
      (base : OuterBase) (inner : TypeId) → inner_of base ≡ Some inner
      → type_weight (type_at table inner) + derivation_weight (level base) < type_weight (level base)
  level-lighter (outers.Pointer target) inner is = subst (λ (id : TypeId). type_weight (type_at table id) + 1 < type_weight (type_at table target) + 2) (same_Some _ _ is) (omega arith)
  level-lighter (outers.Array element count) inner is = subst (λ (id : TypeId). type_weight (type_at table id) + 1 < type_weight (type_at table element) + 2) (same_Some _ _ is) (omega arith)
  level-lighter (outers.Function result count variadic) inner is = subst (λ (id : TypeId). type_weight (type_at table id) + (types_weight parameters + 3) < type_weight (type_at table result) + types_weight parameters + 4) (same_Some _ _ is) (omega arith)
  level-lighter outers.Void inner is = absurd (none-some inner is)
  level-lighter (outers.Integer kind identity) inner is = absurd (none-some inner is)
  level-lighter (outers.Aggregate number is_union) inner is = absurd (none-some inner is)

-- the one inside is a type of the table
pub inner-known : (table : TypeTable) (base : OuterBase) (inner : TypeId) → IsOuterOver (types_in table) base → inner_of base ≡ Some inner → IsTypeId table inner
inner-known table (outers.Pointer target) inner known is = subst (IsTypeId table) (same_Some _ _ is) known
inner-known table (outers.Array element count) inner known is = subst (IsTypeId table) (same_Some _ _ is) known
inner-known table (outers.Function result count variadic) inner known is = subst (IsTypeId table) (same_Some _ _ is) known
inner-known table outers.Void inner known is = absurd (none-some inner is)
inner-known table (outers.Integer kind identity) inner known is = absurd (none-some inner is)
inner-known table (outers.Aggregate number is_union) inner known is = absurd (none-some inner is)

-- Parameters

module _ (names : List (List ℕ)) (table : TypeTable) (t first rest : TypeId) (begins : BeginsWith (types_in table) t.0 first.0 rest.0) where
  pub parameters-first :
      parameters_in names table (parameter_types (type_at table t)) (is_variadic (type_at table t))
      ≡ spelled_in names table (type_at table first) ++ more_in names table (parameter_types (type_at table rest)) (is_variadic (type_at table rest))
  parameters-first = rw (begins.parameters, begins.variadic) refl

  pub more-first :
      more_in names table (parameter_types (type_at table t)) (is_variadic (type_at table t))
      ≡ codes ", " ++ (spelled_in names table (type_at table first) ++ more_in names table (parameter_types (type_at table rest)) (is_variadic (type_at table rest)))
  more-first =
      rw (begins.parameters, begins.variadic)
      (append_assoc (codes ", ") (spelled_in names table (type_at table first)) (more_in names table (parameter_types (type_at table rest)) (is_variadic (type_at table rest))))

  pub lighter-first : types_weight (parameter_types (type_at table t)) ≡ type_weight (type_at table first) + types_weight (parameter_types (type_at table rest)) + 1
  lighter-first = ap types_weight begins.parameters

-- of a function without parameters
module _ (names : List (List ℕ)) (table : TypeTable) where
  -- what derives a function is its parentheses
  pub behind-function :
      (parameters : TypeTrees) (qualifiers : Qualifiers) (flags : Flags) (result : TypeId) (count : ℕ) (variadic : Bool)
      → derivation_in names table (Typed (base_of_outer (types_in table) parameters (outers.Function result count variadic)) qualifiers flags)
      ++ marks_in names (Typed (base_of_outer (types_in table) parameters (outers.Function result count variadic)) qualifiers flags)
      ≡ codes " (" ++ (parameters_in names table parameters variadic ++ (codes ")" ++ marks qualifiers (named_flags names flags)))
  behind-function parameters qualifiers flags result count variadic =
      from_front (codes " (") (parameters_in names table parameters variadic) (codes ")") (marks qualifiers (named_flags names flags))

  -- and what derives another type doesn't ask for parameters
  pub derivation-plain :
      (parameters : TypeTrees) (qualifiers : Qualifiers) (flags : Flags) (base : OuterBase)
      → ((result : TypeId) (count : ℕ) (variadic : Bool) → base ≡ outers.Function result count variadic → ⊥)
      → derivation_in names table (Typed (base_of_outer (types_in table) parameters base) qualifiers flags) ≡ plain_derivation base
  derivation-plain parameters qualifiers flags (outers.Function result count variadic) none = absurd (none result count variadic refl)
  derivation-plain parameters qualifiers flags (outers.Pointer target) none = refl
  derivation-plain parameters qualifiers flags (outers.Array element count) none = refl
  derivation-plain parameters qualifiers flags outers.Void none = refl
  derivation-plain parameters qualifiers flags (outers.Integer kind None) none = refl
  derivation-plain parameters qualifiers flags (outers.Integer kind (Some identity)) none = refl
  derivation-plain parameters qualifiers flags (outers.Aggregate number is_union) none = refl

-- Of whole types

module _ (names : List (List ℕ)) (table : TypeTable) (type_ : TypeTree) (shape : OuterShape) (is : type_of_outer (types_in table) (parameter_types type_) shape ≡ type_) where
  abbrev qualifiers_seen : Qualifiers
  qualifiers_seen = record { is_const = shape.is_const; is_volatile = shape.is_volatile }

  abbrev flags_seen : Flags
  flags_seen = record { noderef = shape.noderef; space = space_of shape.space }

  pub shape-inner :
      (inner : TypeId) → inner_of shape.base ≡ Some inner
      → spelled_in names table type_ ≡ spelled_in names table (type_at table inner) ++ (derivation_in names table type_ ++ marks_in names type_)
  shape-inner inner at =
      subst (λ (u : TypeTree). spelled_in names table u ≡ spelled_in names table (type_at table inner) ++ (derivation_in names table u ++ marks_in names u)) is
      (level-inner names table (parameter_types type_) qualifiers_seen flags_seen shape.base inner at)

  pub shape-lighter : (inner : TypeId) → inner_of shape.base ≡ Some inner → type_weight (type_at table inner) + derivation_weight type_ < type_weight type_
  shape-lighter inner at =
      subst (λ (u : TypeTree). type_weight (type_at table inner) + derivation_weight u < type_weight u) is
      (level-lighter names table (parameter_types type_) qualifiers_seen flags_seen shape.base inner at)

  function-level : (result : TypeId) (count : ℕ) (variadic : Bool) → shape.base ≡ outers.Function result count variadic
      → Typed (base_of_outer (types_in table) (parameter_types type_) (outers.Function result count variadic)) qualifiers_seen flags_seen ≡ type_
  function-level result count variadic at = ap (λ (base : OuterBase). Typed (base_of_outer (types_in table) (parameter_types type_) base) qualifiers_seen flags_seen) (sym at) ∙ is

  pub shape-behind :
      (result : TypeId) (count : ℕ) (variadic : Bool) → shape.base ≡ outers.Function result count variadic
      → derivation_in names table type_ ++ marks_in names type_
      ≡ codes " (" ++ (parameters_in names table (parameter_types type_) (is_variadic type_) ++ (codes ")" ++ marks_in names type_))
  shape-behind result count variadic at =
      subst (λ (u : TypeTree). derivation_in names table u ++ marks_in names u ≡ codes " (" ++ (parameters_in names table (parameter_types u) (is_variadic u) ++ (codes ")" ++ marks_in names u)))
      (function-level result count variadic at)
      (behind-function names table (parameter_types type_) qualifiers_seen flags_seen result count variadic)

  pub shape-weight : (result : TypeId) (count : ℕ) (variadic : Bool) → shape.base ≡ outers.Function result count variadic
      → derivation_weight type_ ≡ types_weight (parameter_types type_) + 3
  shape-weight result count variadic at =
      subst (λ (u : TypeTree). derivation_weight u ≡ types_weight (parameter_types u) + 3) (function-level result count variadic at) refl
