-- Declarations among what is kept of nodes are those that the definitions find among facts.
use Rattle.std.proofs.Common.{◌≡◌, ℕ, ◌+◌, Bool, true, false, ◌&&◌, not, nat_eq, bytes_eq, List, [], ◌∷◌, ◌++◌, All, Option, Some, None, if◌then◌else◌, option_map, refl, sym, ap, subst, ◌∙◌}
use Rattle.std.specs.Option.{option_and_then}
use Rattle.std.proofs.lemmas.List.Elements.{All-append, All-cons, All-head, All-nil, All-tail}
use Rattle.sparse_model.specs.declared.ids.NameId.{NameId}
use Rattle.sparse_model.specs.declared.ids.TypeId.{TypeId}
use Rattle.meaning_types.specs.Types.{TypeTree}
use Rattle.meaning_typing.specs.ContextSums.{LinkedDeclaration, contexts_of, declarations_with, first_differing, linked_from, linked_nodes, nodes_with, redeclared_otherwise, told_type}
use Rattle.meaning_typing.specs.ContextSums as meaning
use Rattle.meaning_typing.specs.Names.{before_types, first_typedef, is_typedef_in, links_name, linked_types, redeclared, type_if}
use Rattle.meaning_typing.specs.Surroundings.{Surrounding}
use Rattle.meaning_typing.specs.Units.{UnitNodes, node_at}
use Rattle.c_types.specs.Table.{TypeTable, IsTypeId, type_at}
use Rattle.declaration_rows.specs.Kept.{AreLinked}
use Rattle.expr_judge.proofs.NameLemmas.{name_same}
use Rattle.linked_names.specs.declared.declaration.Declared.{Declared}
use Rattle.linked_names.specs.declared.declaration.Linked.{Linked}
use Rattle.linked_names.specs.declared.declaration.Typedef.{Typedef}
use Rattle.linked_names.specs.declared.sums.ContextSums.{ContextSums}
use Rattle.linked_names.specs.Contexts.{declaration_of, declarations_of, nodes_declaring, sums_of}
use Rattle.linked_names.specs.Linked.{types_of}
use Rattle.linked_names.specs.Typedefs.{AreTypedefIds, first_of}
use Rattle.node_facts.specs.declared.declared.DeclaredFact.{DeclaredFact}
use Rattle.node_facts.specs.declared.fact.NodeFact.{NodeFact}
use Rattle.node_facts.specs.declared.fact.NodeFact.TheVariants as facts
use Rattle.node_facts.specs.Facts.{IsKnownNodeFact, declared_seen, name_seen, nodes_seen}
use Rattle.declaration_judge.specs.declared.declarations.Declarations.{Declarations}
use Rattle.declaration_judge.specs.Kept.{IsKeptOf, IsWhole, declared_of, facts_seen, linked_in, only_if, said_by, sums_kept, typedef_of, typedef_standing, typedefs_in}

-- a test whose opposite fails
pub from_not : (test : Bool) → not test ≡ false → test ≡ true
from_not true fails = refl
from_not false fails = sym fails

-- Declarations with linkage

module _ (table : TypeTable) (name : NameId) where
  one-linked : (declaration : DeclaredFact) (has_linkage : Bool) (others : List Linked)
      → before_types (has_linkage && bytes_eq (name_seen declaration.name) (name_seen name)) (type_at table declaration.of) (types_of table name others)
      ≡ types_of table name (only_if has_linkage (record { name = declaration.name; of = declaration.of }) ++ others)
  one-linked declaration true others =
      ap (λ same. before_types same (type_at table declaration.of) (types_of table name others)) (name_same declaration.name name)
  one-linked declaration false others = refl

  linked_types-are : (kept : List NodeFact) → linked_types (name_seen name) (nodes_seen table kept) ≡ types_of table name (linked_in kept)
  linked_types-are [] = refl
  linked_types-are (facts.Unknown ∷ kept) = linked_types-are kept
  linked_types-are (facts.Expression expression ∷ kept) = linked_types-are kept
  linked_types-are (facts.Specified specifiers ∷ kept) = linked_types-are kept
  linked_types-are (facts.Declared declaration ∷ kept) =
      ap (before_types (links_name (name_seen name) (declared_seen table declaration)) (type_at table declaration.of)) (linked_types-are kept)
      ∙ one-linked declaration declaration.has_linkage (linked_in kept)
  linked_types-are (facts.NamedType of ∷ kept) = linked_types-are kept

pub are_linked : (kept : Declarations) → IsWhole kept → AreLinked kept.types kept.facts kept.linked
are_linked kept whole = λ name. ap (types_of kept.types name) whole.linked ∙ sym (linked_types-are kept.types name kept.facts)

-- With contexts

sums-same : (sums : Option meaning.ContextSums) → option_map sums_of (option_map sums_kept sums) ≡ sums
sums-same None = refl
sums-same (Some sums) = refl

sums-kept : (sums : Option ContextSums) → option_map sums_kept (option_map sums_of sums) ≡ sums
sums-kept None = refl
sums-kept (Some sums) = refl

-- one that is kept with the sums that were found
pub declared_is :
    (nodes : UnitNodes) (handle : ℕ) (surrounding : Surrounding) (declaration : DeclaredFact) (sums : Option ContextSums) → declaration.has_linkage ≡ true
    → option_map sums_of sums ≡ contexts_of nodes handle surrounding
    → record { node = handle; name = declaration.name; of = declaration.of; contexts = sums } ∷ [] ≡ declared_of nodes handle surrounding (facts.Declared declaration)
declared_is nodes handle surrounding declaration sums links carries =
    let one : Option ContextSums → Declared = λ contexts. record { node = handle; name = declaration.name; of = declaration.of; contexts = contexts } in
    ap (λ contexts. one contexts ∷ []) (sym (sums-kept sums) ∙ ap (option_map sums_kept) carries)
    ∙ ap (λ test. only_if test (one (option_map sums_kept (contexts_of nodes handle surrounding)))) (sym links)

module _ (table : TypeTable) (name : NameId) (nodes : UnitNodes) where
  one-declared : (node : ℕ) (declaration : DeclaredFact) (sums : Option meaning.ContextSums) (has_linkage : Bool) (others : List Declared)
      → declarations_with (has_linkage && bytes_eq (name_seen declaration.name) (name_seen name))
      (record { type_ = type_at table declaration.of; contexts = sums }) (declarations_of table name others)
      ≡ declarations_of table name
      (only_if has_linkage (record { node = node; name = declaration.name; of = declaration.of; contexts = option_map sums_kept sums }) ++ others)
  one-declared node declaration sums true others =
      λ i. declarations_with (name_same declaration.name name i)
      (record { type_ = type_at table declaration.of; contexts = sym (sums-same sums) i }) (declarations_of table name others)
  one-declared node declaration sums false others = refl

  declared-are : (first : ℕ) (surroundings : List Surrounding) (kept : List NodeFact)
      → linked_from nodes (name_seen name) first surroundings (nodes_seen table kept)
      ≡ declarations_of table name (said_by (declared_of nodes) first surroundings kept)
  declared-are first [] kept = refl
  declared-are first (surrounding ∷ surroundings) [] = refl
  declared-are first (surrounding ∷ surroundings) (facts.Unknown ∷ kept) = declared-are (first + 1) surroundings kept
  declared-are first (surrounding ∷ surroundings) (facts.Expression expression ∷ kept) = declared-are (first + 1) surroundings kept
  declared-are first (surrounding ∷ surroundings) (facts.Specified specifiers ∷ kept) = declared-are (first + 1) surroundings kept
  declared-are first (surrounding ∷ surroundings) (facts.Declared declaration ∷ kept) =
      ap
      (declarations_with (links_name (name_seen name) (declared_seen table declaration))
      (record { type_ = type_at table declaration.of; contexts = contexts_of nodes first surrounding }))
      (declared-are (first + 1) surroundings kept)
      ∙ one-declared first declaration (contexts_of nodes first surrounding) declaration.has_linkage (said_by (declared_of nodes) (first + 1) surroundings kept)
  declared-are first (surrounding ∷ surroundings) (facts.NamedType of ∷ kept) = declared-are (first + 1) surroundings kept

  -- the nodes that declare them
  one-node : (declared : Declared) (has_linkage : Bool) (others : List Declared)
      → nodes_with (has_linkage && bytes_eq (name_seen declared.name) (name_seen name)) declared.node (nodes_declaring name others)
      ≡ nodes_declaring name (only_if has_linkage declared ++ others)
  one-node declared true others = ap (λ same. nodes_with same declared.node (nodes_declaring name others)) (name_same declared.name name)
  one-node declared false others = refl

  nodes-are : (first : ℕ) (surroundings : List Surrounding) (kept : List NodeFact)
      → linked_nodes (name_seen name) first surroundings (nodes_seen table kept)
      ≡ nodes_declaring name (said_by (declared_of nodes) first surroundings kept)
  nodes-are first [] kept = refl
  nodes-are first (surrounding ∷ surroundings) [] = refl
  nodes-are first (surrounding ∷ surroundings) (facts.Unknown ∷ kept) = nodes-are (first + 1) surroundings kept
  nodes-are first (surrounding ∷ surroundings) (facts.Expression expression ∷ kept) = nodes-are (first + 1) surroundings kept
  nodes-are first (surrounding ∷ surroundings) (facts.Specified specifiers ∷ kept) = nodes-are (first + 1) surroundings kept
  nodes-are first (surrounding ∷ surroundings) (facts.Declared declaration ∷ kept) =
      ap (nodes_with (links_name (name_seen name) (declared_seen table declaration)) first) (nodes-are (first + 1) surroundings kept)
      ∙ one-node
      (record {
        node = first;
        name = declaration.name;
        of = declaration.of;
        contexts = option_map sums_kept (contexts_of nodes first surrounding);
      })
      declaration.has_linkage (said_by (declared_of nodes) (first + 1) surroundings kept)
  nodes-are first (surrounding ∷ surroundings) (facts.NamedType of ∷ kept) = nodes-are (first + 1) surroundings kept

module _ (nodes : UnitNodes) (surroundings : List Surrounding) (kept : Declarations) (is : IsKeptOf nodes surroundings kept) where
  -- those of a name
  declarations-are : (name : NameId)
      → declarations_of kept.types name kept.contexts.declarations ≡ linked_from nodes (name_seen name) 0 surroundings (facts_seen kept)
  declarations-are name = ap (declarations_of kept.types name) is.contexts ∙ sym (declared-are kept.types name nodes 0 surroundings kept.facts)

  nodes_declaring-are : (name : NameId) → nodes_declaring name kept.contexts.declarations ≡ linked_nodes (name_seen name) 0 surroundings (facts_seen kept)
  nodes_declaring-are name = ap (nodes_declaring name) is.contexts ∙ sym (nodes-are kept.types name nodes 0 surroundings kept.facts)

  -- the failure of a declaration with linkage
  pub otherwise_told :
      (declaration : DeclaredFact) (handle token : ℕ) (surrounding : Surrounding) (sums : Option ContextSums) (earlier : Option TypeId)
      → declaration.has_linkage ≡ true → token ≡ (node_at nodes handle).token → option_map sums_of sums ≡ contexts_of nodes handle surrounding
      → option_map (type_at kept.types) earlier
      ≡ option_and_then (told_type nodes surroundings (facts_seen kept))
      (first_differing (declaration_of kept.types declaration.of sums) (nodes_declaring declaration.name kept.contexts.declarations)
      (declarations_of kept.types declaration.name kept.contexts.declarations))
      → redeclared token (declared_seen kept.types declaration) (option_map (type_at kept.types) earlier)
      ≡ redeclared_otherwise nodes surroundings (facts_seen kept) handle surrounding (declared_seen kept.types declaration)
  otherwise_told declaration handle token surrounding sums earlier links stands carries differs =
      let meant = declared_seen kept.types declaration in
      let own : Option meaning.ContextSums → LinkedDeclaration = λ contexts. record { type_ = meant.type_; contexts = contexts } in
      let first : Option meaning.ContextSums → (of_name : List ℕ) → List LinkedDeclaration → Option TypeTree =
      λ contexts of_name earlier. option_and_then (told_type nodes surroundings (facts_seen kept)) (first_differing (own contexts) of_name earlier) in
      let failures =
      redeclared (node_at nodes handle).token meant
      (first (contexts_of nodes handle surrounding) (linked_nodes meant.name 0 surroundings (facts_seen kept))
      (linked_from nodes meant.name 0 surroundings (facts_seen kept))) in
      ap (redeclared token meant) differs
      ∙ (λ i. redeclared (stands i) meant (first (carries i) (nodes_declaring-are declaration.name i) (declarations-are declaration.name i)))
      ∙ ap (λ test. if test then failures else []) (sym links)

-- Typedefs

module _ (table : TypeTable) (scope : ℕ) (name : NameId) where
  typedef-by : (test : Bool) (of : TypeId) (others : Option TypeId)
      → type_if test (type_at table of) (option_map (type_at table) others) ≡ option_map (type_at table) (if test then Some of else others)
  typedef-by true of others = refl
  typedef-by false of others = refl

  one-typedef : (surrounding : Surrounding) (declaration : DeclaredFact) (is_typedef : Bool) (others : List Typedef)
      → type_if (is_typedef && (nat_eq surrounding.around.scope scope && bytes_eq (name_seen declaration.name) (name_seen name)))
      (type_at table declaration.of) (option_map (type_at table) (first_of scope name others))
      ≡ option_map (type_at table)
      (first_of scope name (only_if is_typedef (record { scope = surrounding.around.scope; name = declaration.name; of = declaration.of }) ++ others))
  one-typedef surrounding declaration true others =
      ap
      (λ same. type_if (nat_eq surrounding.around.scope scope && same) (type_at table declaration.of) (option_map (type_at table) (first_of scope name others)))
      (name_same declaration.name name)
      ∙ typedef-by (nat_eq surrounding.around.scope scope && nat_eq declaration.name.0 name.0) declaration.of (first_of scope name others)
  one-typedef surrounding declaration false others = refl

  first_typedef-by : (first : ℕ) (surroundings : List Surrounding) (kept : List NodeFact)
      → first_typedef scope (name_seen name) surroundings (nodes_seen table kept)
      ≡ option_map (type_at table) (first_of scope name (said_by typedef_standing first surroundings kept))
  first_typedef-by first [] kept = refl
  first_typedef-by first (surrounding ∷ surroundings) [] = refl
  first_typedef-by first (surrounding ∷ surroundings) (facts.Unknown ∷ kept) = first_typedef-by (first + 1) surroundings kept
  first_typedef-by first (surrounding ∷ surroundings) (facts.Expression expression ∷ kept) = first_typedef-by (first + 1) surroundings kept
  first_typedef-by first (surrounding ∷ surroundings) (facts.Specified specifiers ∷ kept) = first_typedef-by (first + 1) surroundings kept
  first_typedef-by first (surrounding ∷ surroundings) (facts.Declared declaration ∷ kept) =
      ap (type_if (is_typedef_in scope (name_seen name) surrounding (declared_seen table declaration)) (type_at table declaration.of))
      (first_typedef-by (first + 1) surroundings kept)
      ∙ one-typedef surrounding declaration declaration.is_typedef (said_by typedef_standing (first + 1) surroundings kept)
  first_typedef-by first (surrounding ∷ surroundings) (facts.NamedType of ∷ kept) = first_typedef-by (first + 1) surroundings kept

  pub first_typedef-is : (surroundings : List Surrounding) (kept : List NodeFact)
      → first_typedef scope (name_seen name) surroundings (nodes_seen table kept) ≡ option_map (type_at table) (first_of scope name (typedefs_in surroundings kept))
  first_typedef-is surroundings kept = first_typedef-by 0 surroundings kept

-- their types are of the table
module _ (table : TypeTable) where
  one-known : (is_typedef : Bool) (typedef : Typedef) → IsTypeId table typedef.of → AreTypedefIds table (only_if is_typedef typedef)
  one-known true typedef is = All-cons (λ t. IsTypeId table t.of) typedef [] is (All-nil (λ t. IsTypeId table t.of))
  one-known false typedef is = All-nil (λ t. IsTypeId table t.of)

  typedef-known : (scope : ℕ) (fact : NodeFact) → IsKnownNodeFact table fact → AreTypedefIds table (typedef_of scope fact)
  typedef-known scope facts.Unknown known = All-nil (λ t. IsTypeId table t.of)
  typedef-known scope (facts.Expression expression) known = All-nil (λ t. IsTypeId table t.of)
  typedef-known scope (facts.Specified specifiers) known = All-nil (λ t. IsTypeId table t.of)
  typedef-known scope (facts.Declared declaration) known = one-known declaration.is_typedef _ known
  typedef-known scope (facts.NamedType of) known = All-nil (λ t. IsTypeId table t.of)

  typedefs-known : (first : ℕ) (surroundings : List Surrounding) (kept : List NodeFact) → All (IsKnownNodeFact table) kept
      → AreTypedefIds table (said_by typedef_standing first surroundings kept)
  typedefs-known first [] kept known = All-nil (λ t. IsTypeId table t.of)
  typedefs-known first (surrounding ∷ surroundings) [] known = All-nil (λ t. IsTypeId table t.of)
  typedefs-known first (surrounding ∷ surroundings) (fact ∷ kept) known =
      All-append (λ t. IsTypeId table t.of) (typedef_of surrounding.around.scope fact) (said_by typedef_standing (first + 1) surroundings kept)
      (typedef-known surrounding.around.scope fact (All-head (IsKnownNodeFact table) fact kept known))
      (typedefs-known (first + 1) surroundings kept (All-tail (IsKnownNodeFact table) fact kept known))

pub typedefs_kept : (nodes : UnitNodes) (surroundings : List Surrounding) (kept : Declarations) → IsKeptOf nodes surroundings kept
    → AreTypedefIds kept.types kept.typedefs
typedefs_kept nodes surroundings kept is =
    subst (AreTypedefIds kept.types) (sym is.typedefs) (typedefs-known kept.types 0 surroundings kept.facts is.whole.ids)
