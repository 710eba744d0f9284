-- What is kept of declarations with linkage tells the type of a name, and whether it was declared.
use Rattle.std.proofs.Common.{◌≡◌, ℕ, Bool, true, false, not, ◌||◌, nat_eq, List, [], ◌∷◌, Option, Some, None, IfSome, is_some, if◌then◌else◌, option_map, refl, sym, ap, ◌∙◌}
use Rattle.sparse_model.specs.declared.ids.NameId.{NameId}
use Rattle.sparse_model.specs.declared.ids.TypeId.{TypeId}
use Rattle.meaning_types.specs.Types.{TypeTree}
use Rattle.meaning_typing.specs.DeclarationRows.{is_declared_before}
use Rattle.meaning_typing.specs.Facts.{Fact, Unknown, Expression, Specified, Declared, NamedType}
use Rattle.meaning_typing.specs.Names.{before_types, common_type, linked_types, links_name, type_of_name, type_or}
use Rattle.c_types.specs.Table.{TypeTable, Extends, IsTypeId, type_at}
use Rattle.node_facts.specs.declared.declared.DeclaredFact.{DeclaredFact}
use Rattle.node_facts.specs.declared.fact.NodeFact.{NodeFact}
use Rattle.node_facts.specs.Facts.{declared_seen, name_seen, nodes_seen}
use Rattle.linked_names.specs.declared.declaration.Linked.{Linked}
use Rattle.linked_names.specs.Linked.{AreTypeIds, LinkedDeclarations, shared_type, types_of}
use Rattle.linked_names.proofs.GrowthLemmas.{type-later, types_of-grown}
use Rattle.declaration_rows.specs.Kept.{AreLinked}

-- a test whose opposite fails
pub from_not : (test : Bool) → not test ≡ false → test ≡ true
from_not true fails = refl
from_not false fails = sym fails

pub from_yes : (test : Bool) → not test ≡ true → test ≡ false
from_yes true holds = sym holds
from_yes false holds = refl

-- the type that they share, or another one where there is none
shared_or : (otherwise : TypeTree) (types : List TypeTree) → type_or otherwise (shared_type types) ≡ common_type otherwise types
shared_or otherwise [] = refl
shared_or otherwise (first ∷ types) = refl

module _ (table : TypeTable) (linked : LinkedDeclarations) (over : Extends linked.over table) where
  later : (found : Option TypeId) → IfSome found (IsTypeId linked.over) → option_map (type_at table) found ≡ option_map (type_at linked.over) found
  later None is = refl
  later (Some of) is = ap Some (type-later linked.over table over of is)

  -- the type that a declaration with linkage gives to its name
  pub type_of_name-is : (kept : List NodeFact) (declaration : DeclaredFact) (found : Option TypeId) → AreLinked table kept linked
      → AreTypeIds linked.over linked.declarations → declaration.has_linkage ≡ true
      → option_map (type_at linked.over) found ≡ shared_type (types_of linked.over declaration.name linked.declarations)
      → IfSome found (IsTypeId linked.over)
      → type_or (type_at table declaration.of) (option_map (type_at table) found)
      ≡ type_of_name (nodes_seen table kept) (declared_seen table declaration)
  type_of_name-is kept declaration found are ids links shared is =
      let own = type_at table declaration.of in
      ap (type_or own) (later found is ∙ shared)
      ∙ shared_or own (types_of linked.over declaration.name linked.declarations)
      ∙ ap (common_type own)
      (sym (types_of-grown linked.over table over declaration.name linked.declarations ids) ∙ are declaration.name)
      ∙ ap (λ test. if test then common_type own (linked_types (name_seen declaration.name) (nodes_seen table kept)) else own) (sym links)

-- Whether there is one

abbrev pub is_any : List TypeTree → Bool
is_any [] = false
is_any (type_ ∷ types) = true

shared_any : (types : List TypeTree) → is_some (shared_type types) ≡ is_any types
shared_any [] = refl
shared_any (type_ ∷ types) = refl

mapped_any : (table : TypeTable) (found : Option TypeId) → is_some (option_map (type_at table) found) ≡ is_some found
mapped_any table None = refl
mapped_any table (Some of) = refl

before_any : (test : Bool) (type_ : TypeTree) (types : List TypeTree) → is_any (before_types test type_ types) ≡ test || is_any types
before_any true type_ types = refl
before_any false type_ types = refl

-- of a name there are as many types over any table
any_table : (table other : TypeTable) (name : NameId) (declarations : List Linked)
    → is_any (types_of table name declarations) ≡ is_any (types_of other name declarations)
any_table table other name [] = refl
any_table table other name (declaration ∷ declarations) =
    let same = nat_eq declaration.name.0 name.0 in
    before_any same (type_at table declaration.of) (types_of table name declarations)
    ∙ ap (λ others. same || others) (any_table table other name declarations)
    ∙ sym (before_any same (type_at other declaration.of) (types_of other name declarations))

any_linked : (name : List ℕ) (facts : List Fact) → is_any (linked_types name facts) ≡ is_declared_before facts name
any_linked name [] = refl
any_linked name (Unknown ∷ facts) = any_linked name facts
any_linked name (Expression expression ∷ facts) = any_linked name facts
any_linked name (Specified specifiers ∷ facts) = any_linked name facts
any_linked name (Declared declaration ∷ facts) =
    before_any (links_name name declaration) declaration.type_ (linked_types name facts)
    ∙ ap (λ others. links_name name declaration || others) (any_linked name facts)
any_linked name (NamedType type_ ∷ facts) = any_linked name facts

pub declared_is : (table : TypeTable) (kept : List NodeFact) (linked : LinkedDeclarations) (name : NameId) (found : Option TypeId) → AreLinked table kept linked
    → option_map (type_at linked.over) found ≡ shared_type (types_of linked.over name linked.declarations)
    → is_some found ≡ is_declared_before (nodes_seen table kept) (name_seen name)
declared_is table kept linked name found are shared =
    sym (mapped_any linked.over found)
    ∙ ap is_some shared
    ∙ shared_any (types_of linked.over name linked.declarations)
    ∙ any_table linked.over table name linked.declarations
    ∙ ap is_any (are name)
    ∙ any_linked (name_seen name) (nodes_seen table kept)
