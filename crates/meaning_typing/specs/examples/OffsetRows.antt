-- Worked examples: `__builtin_offsetof`, whose word stands at token 2, the tokens of designators at 6, 9, .., and an index one behind.
use Rattle.std.specs.Prelude.{◌≡◌, ℕ, pos, negsuc, List, [], ◌∷◌, ◌++◌, map, replicate, codes, Some, None}
use Rattle.vocabulary.specs.declared.error_kind.ErrorKind.TheVariants.{CannotDereference, CannotTakeAddress, NoSuchMember, NoAggregate, VoidValueUsed, IncompleteType, BadDesignator}
use Rattle.vocabulary.specs.declared.rule.RuleCode.TheVariants.{B1}
use Rattle.meaning_types.specs.Types.{TypeTree}
use Rattle.meaning_typing.specs.Facts.{Unknown, Expression, NamedType, ExpressionFact, value}
use Rattle.meaning_typing.specs.Rows.{Row, breaks_at, breaks_named, fails_with}
use Rattle.meaning_typing.specs.OffsetRows.{OffsetStep, ToElement, ToMember, offset_row}
use Rattle.meaning_typing.specs.examples.Drawn.{int}
use Rattle.meaning_typing.specs.examples.Values.{i, le32, number, p, unsigned_long, void_value}
use Rattle.meaning_typing.specs.examples.Told.{known, structure_at}
use Rattle.meaning_typing.specs.examples.Members.{gives, a_value}

-- in a `struct pair` and in others
abbrev pub offset : (type_ : TypeTree) → (name : List ℕ) → List OffsetStep → Row
offset type_ name steps = offset_row known 2 name (NamedType type_) steps

abbrev pub in_pair : (name : List ℕ) → List OffsetStep → Row
in_pair name steps = offset (structure_at 9) name steps

abbrev pub index : ExpressionFact → OffsetStep
index expression = ToElement 6 7 (Expression expression)

-- `(FORCE le32)1`
abbrev pub restricted_one : ExpressionFact
restricted_one = record (value le32) { constant = Some (pos 1) }

pub record OffsetRowExamples : Type 0 where
  -- `b[7]`, `a`, and `n[1].a` of `struct 15`: silent, and unsigned longs
  pub silent :
      map (λ row. row.broken) (in_pair (codes "b") (index (number (pos 7)) ∷ []) ∷ in_pair (codes "a") [] ∷ offset (structure_at 15) (codes "n") (index (number (pos 1)) ∷ ToMember 9 (codes "a") ∷ []) ∷ [])
      ≡ replicate 3 []
  pub typed : map gives (in_pair (codes "b") (index (number (pos 7)) ∷ []) ∷ in_pair (codes "a") [] ∷ []) ≡ replicate 2 (a_value unsigned_long)
  -- `a[1]`, `b[p]`, `b[none()]`
  pub no_array : (in_pair (codes "a") (index (number (pos 1)) ∷ [])).broken ≡ breaks_at CannotDereference 6
  pub by_pointer : (in_pair (codes "b") (index p ∷ [])).broken ≡ breaks_at CannotDereference 6
  pub by_void : (in_pair (codes "b") (index void_value ∷ [])).broken ≡ breaks_at CannotDereference 6 ++ breaks_at VoidValueUsed 7
  -- `b[(FORCE le32)1]`
  pub restricted_index : (in_pair (codes "b") (index restricted_one ∷ [])).failures ≡ fails_with B1 6 0 (Some le32) None [] ∷ []
  -- `a.k`, `k`, `n[0].k`, and `int` for the structure
  pub no_aggregate : map (λ row. row.broken) (in_pair (codes "a") (ToMember 6 (codes "k") ∷ []) ∷ offset int (codes "a") [] ∷ []) ≡ breaks_at NoAggregate 6 ∷ breaks_at NoAggregate 2 ∷ []
  pub no_member :
      map (λ row. row.broken) (in_pair (codes "k") [] ∷ offset (structure_at 15) (codes "n") (index (number (pos 0)) ∷ ToMember 9 (codes "k") ∷ []) ∷ [])
      ≡ breaks_named NoSuchMember 2 (codes "k") ∷ breaks_named NoSuchMember 9 (codes "k") ∷ []
  -- `struct unknown, a`
  pub incomplete : (offset (structure_at 11) (codes "a") []).broken ≡ breaks_at IncompleteType 2
  -- `f`
  pub field : (in_pair (codes "f") []).broken ≡ breaks_at CannotTakeAddress 2
  -- `b[i]`, `b[-1]`, `b[274877906944]`, which lies at 2^40 + 4, and `b[274877906943]`, at 2^40
  pub bad_indexes :
      map (λ row. row.broken)
      (in_pair (codes "b") (index i ∷ []) ∷ in_pair (codes "b") (index (number (negsuc 0)) ∷ []) ∷ in_pair (codes "b") (index (number (pos 274877906944)) ∷ []) ∷ [])
      ≡ replicate 3 (breaks_at BadDesignator 6)
  pub last_index : (in_pair (codes "b") (index (number (pos 274877906943)) ∷ [])).broken ≡ []
  -- `b[*3]`: nothing is known of it, and nothing is told
  pub unknown_index : in_pair (codes "b") (ToElement 6 7 Unknown ∷ []) ≡ record { fact = Unknown; broken = []; failures = []; passed = [] }
  -- of a type name that isn't known
  pub unknown_type : (offset_row known 2 (codes "k") Unknown []).broken ≡ []
