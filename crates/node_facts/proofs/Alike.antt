-- Marks that are alike are one: field by field.
use Rattle.std.proofs.Common.{◌≡◌, Bool, true, false, refl, arith}
use Rattle.std.specs.Prelude.{◌&&◌}
use Rattle.node_facts.specs.declared.declared.DeclaredFact.{DeclaredFact}
use Rattle.node_facts.specs.declared.declared.SpecifiedFact.{SpecifiedFact}
use Rattle.node_facts.specs.declared.declared.Storage.{Storage}
use Rattle.node_facts.specs.declared.expression.Addressed.{Addressed}
use Rattle.node_facts.specs.declared.expression.Addressed.TheVariants.{NotAddress, ConstantPlace, ConstantAddress}
use Rattle.node_facts.specs.declared.expression.ExpressionMarks.{ExpressionMarks}
use Rattle.node_facts.specs.declared.marks.NodeMark.TheVariants as marks
use Rattle.std.specs.contracts.prelude.BoolPartialEq.TheImpl as booleans
use Rattle.node_facts.specs.contracts.declared.StoragePartialEq.TheImpl as storages
use Rattle.node_facts.specs.contracts.expression.AddressedPartialEq.TheImpl as addresses
use Rattle.node_facts.specs.contracts.marks.NodeMarkPartialEq.TheImpl.{ghosts}

pub never : false ≡ true → ⊥
never is = cc is

-- Addresses and storage classes

address-same : (one other : Addressed) → addresses.ghosts.eq one other ≡ true → one ≡ other
address-same NotAddress NotAddress is = refl
address-same NotAddress ConstantPlace is = absurd (never is)
address-same NotAddress ConstantAddress is = absurd (never is)
address-same ConstantPlace NotAddress is = absurd (never is)
address-same ConstantPlace ConstantPlace is = refl
address-same ConstantPlace ConstantAddress is = absurd (never is)
address-same ConstantAddress NotAddress is = absurd (never is)
address-same ConstantAddress ConstantPlace is = absurd (never is)
address-same ConstantAddress ConstantAddress is = refl

module _ (one other : Storage) (is : storages.ghosts.eq one other ≡ true) where
  storage-typedef : one.is_typedef ≡ other.is_typedef
  storage-typedef = grind (arith, is)

  storage-extern : one.is_extern ≡ other.is_extern
  storage-extern = grind (arith, is)

  storage-static : one.is_static ≡ other.is_static
  storage-static = grind (arith, is)

  storage-register : one.is_register ≡ other.is_register
  storage-register = grind (arith, is)

  storage-same : one ≡ other
  storage-same = λ i. record { is_typedef = storage-typedef i; is_extern = storage-extern i; is_static = storage-static i; is_register = storage-register i }

-- Expressions

last_of_five : (a b c d e : Bool) → (a && (b && (c && (d && e)))) ≡ true → e ≡ true
last_of_five a b c d e is = grind (arith, is)

module _ (one other : ExpressionMarks) (is : ghosts.eq (marks.Expression one) (marks.Expression other) ≡ true) where
  expression-place : one.is_place ≡ other.is_place
  expression-place = grind (arith, is)

  expression-null : one.is_null ≡ other.is_null
  expression-null = grind (arith, is)

  expression-register : one.is_register ≡ other.is_register
  expression-register = grind (arith, is)

  expression-string : one.is_string ≡ other.is_string
  expression-string = grind (arith, is)

  expression-address_alike : addresses.ghosts.eq one.address other.address ≡ true
  expression-address_alike =
      last_of_five (booleans.ghosts.eq one.is_place other.is_place) (booleans.ghosts.eq one.is_null other.is_null)
      (booleans.ghosts.eq one.is_register other.is_register) (booleans.ghosts.eq one.is_string other.is_string)
      (addresses.ghosts.eq one.address other.address) is

  expression-address : one.address ≡ other.address
  expression-address = address-same one.address other.address expression-address_alike

  pub expression-same : marks.Expression one ≡ marks.Expression other
  expression-same = λ i. marks.Expression (record { is_place = expression-place i; is_null = expression-null i; is_register = expression-register i; is_string = expression-string i; address = expression-address i })

-- Specifiers
module _ (one other : SpecifiedFact) (is : ghosts.eq (marks.Specified one) (marks.Specified other) ≡ true) where
  specified-type : one.of ≡ other.of
  specified-type = grind (arith, is)

  specified-storage_alike : storages.ghosts.eq one.storage other.storage ≡ true
  specified-storage_alike = grind (arith, is)

  specified-storage : one.storage ≡ other.storage
  specified-storage = storage-same one.storage other.storage specified-storage_alike

  pub specified-same : marks.Specified one ≡ marks.Specified other
  specified-same = λ i. marks.Specified (record { of = specified-type i; storage = specified-storage i })

-- Declarators
module _ (one other : DeclaredFact) (is : ghosts.eq (marks.Declared one) (marks.Declared other) ≡ true) where
  declared-name : one.name ≡ other.name
  declared-name = grind (arith, is)

  declared-type : one.of ≡ other.of
  declared-type = grind (arith, is)

  declared-typedef : one.is_typedef ≡ other.is_typedef
  declared-typedef = grind (arith, is)

  declared-linkage : one.has_linkage ≡ other.has_linkage
  declared-linkage = grind (arith, is)

  declared-static : one.is_static ≡ other.is_static
  declared-static = grind (arith, is)

  declared-register : one.is_register ≡ other.is_register
  declared-register = grind (arith, is)

  pub declared-same : marks.Declared one ≡ marks.Declared other
  declared-same = λ i. marks.Declared (record { name = declared-name i; of = declared-type i; is_typedef = declared-typedef i; has_linkage = declared-linkage i; is_static = declared-static i; is_register = declared-register i })
