-- The names that are defined, one more of them, and a definition of one that was defined before.
use Rattle.std.proofs.Common.{◌≡◌, ℕ, Bool, true, false, ◌||◌, ◌&&◌, nat_eq, List, [], ◌∷◌, ◌++◌, length, if◌then◌else◌, refl, sym, ap, ◌∙◌, arith}
use Rattle.std.specs.List.{list_any}
use Rattle.std.proofs.lemmas.Bool.Decides.{nat_tests}
use Rattle.sparse_model.specs.declared.ids.NameId.{NameId}
use Rattle.meaning_typing.specs.DeclarationRows.{defines, is_earlier_definition}
use Rattle.meaning_typing.specs.Facts.{Fact, fact_at}
use Rattle.meaning_typing.specs.Surroundings.{Surrounding, surrounding_at}
use Rattle.meaning_typing.specs.Tags.{is_any_below}
use Rattle.meaning_typing.specs.Units.{UnitNodes}
use Rattle.c_types.specs.Table.{TypeTable}
use Rattle.indexmap.specs.IndexSet.{insert_key}
use Rattle.node_facts.specs.declared.declared.DeclaredFact.{DeclaredFact}
use Rattle.node_facts.specs.declared.fact.NodeFact.TheVariants as facts
use Rattle.node_facts.specs.Facts.{name_seen, node_seen}
use Rattle.declaration_rows.specs.Kept.{AreDefined, is_among, is_defined_below}
use Rattle.declaration_rows.proofs.KeptLemmas.{definitions_more, name_same, turned}

or_false : (test : Bool) → test || false ≡ test
or_false true = refl
or_false false = refl

or_on : (a b c : Bool) → (a || b) || c ≡ a || (b || c)
or_on true b c = refl
or_on false b c = refl

-- One name more

abbrev same_id : NameId → NameId → Bool
same_id name other = nat_eq name.0 other.0

among_push : (other name : NameId) (names : List NameId) → is_among other (names ++ name ∷ []) ≡ is_among other names || nat_eq other.0 name.0
among_push other name [] = or_false (nat_eq other.0 name.0)
among_push other name (first ∷ names) =
    ap (λ rest. nat_eq other.0 first.0 || rest) (among_push other name names)
    ∙ sym (or_on (nat_eq other.0 first.0) (is_among other names) (nat_eq other.0 name.0))

-- what is among them already makes no difference
absorbed : (found same : Bool) → (same ≡ true → found ≡ true) → found ≡ found || same
absorbed true same implies = refl
absorbed false true implies = implies refl
absorbed false false implies = refl

same_test : (first second third : ℕ) → nat_eq first second ≡ true → nat_eq second third ≡ nat_eq first third
same_test first second third same = grind (arith, nat_tests)

among_same : (other name : NameId) (names : List NameId) → nat_eq other.0 name.0 ≡ true → is_among name names ≡ is_among other names
among_same other name [] same = refl
among_same other name (first ∷ names) same =
    (λ i. same_test other.0 name.0 first.0 same i || among_same other name names same i)

pub among_inserted : (other name : NameId) (names : List NameId)
    → is_among other (insert_key same_id names name) ≡ is_among other names || nat_eq other.0 name.0
among_inserted other name names = by (list_any (same_id name) names) refl
  where
    by : (found : Bool) → list_any (same_id name) names ≡ found
        → is_among other (if found then names else names ++ name ∷ []) ≡ is_among other names || nat_eq other.0 name.0
    by true is = absorbed (is_among other names) (nat_eq other.0 name.0) (λ same. sym (among_same other name names same) ∙ is)
    by false is = among_push other name names

-- One node more

module _ (nodes : UnitNodes) (surroundings : List Surrounding) (known : List Fact) (old new : List NameId) where
  pub defined_same : (fact : Fact) → ((name : List ℕ) → is_earlier_definition nodes surroundings known name (length known) fact ≡ false) → new ≡ old
      → AreDefined nodes surroundings known old → AreDefined nodes surroundings (known ++ fact ∷ []) new
  defined_same fact none same are =
      λ other. ap (is_among other) same
      ∙ are other
      ∙ sym (or_false (is_defined_below nodes surroundings known (name_seen other) (length known)))
      ∙ ap (λ last. is_defined_below nodes surroundings known (name_seen other) (length known) || last) (sym (none (name_seen other)))
      ∙ sym (definitions_more nodes surroundings known fact (name_seen other))

  pub defined_more : (table : TypeTable) (declaration : DeclaredFact) (surrounding : Surrounding) → surrounding_at surroundings (length known) ≡ surrounding
      → ((other : NameId) → is_among other new
      ≡ is_among other old || ((declaration.has_linkage && nat_eq other.0 declaration.name.0) && defines nodes surrounding))
      → AreDefined nodes surroundings known old → AreDefined nodes surroundings (known ++ node_seen table (facts.Declared declaration) ∷ []) new
  defined_more table declaration surrounding stands joins are =
      λ other. joins other
      ∙ (λ i. are other i
      || ((declaration.has_linkage && sym (name_same declaration.name other ∙ turned declaration.name.0 other.0) i) && defines nodes (sym stands i)))
      ∙ sym (definitions_more nodes surroundings known (node_seen table (facts.Declared declaration)) (name_seen other))

-- Again

pub again_told : (nodes : UnitNodes) (surroundings : List Surrounding) (known : List Fact) (names : List NameId) (handle : ℕ) (surrounding : Surrounding)
    (declaration : DeclaredFact) → length known ≡ handle → surrounding_at surroundings handle ≡ surrounding → AreDefined nodes surroundings known names
    → declaration.has_linkage && (defines nodes surrounding && is_among declaration.name names)
    ≡ declaration.has_linkage && (defines nodes (surrounding_at surroundings handle)
    && is_any_below (λ other. is_earlier_definition nodes surroundings known (name_seen declaration.name) other (fact_at known other)) handle)
again_told nodes surroundings known names handle surrounding declaration here stands are =
    (λ i. declaration.has_linkage && (defines nodes (sym stands i)
    && (are declaration.name ∙ ap (is_defined_below nodes surroundings known (name_seen declaration.name)) here) i))
