-- What is kept, where types join or one node more is known.
use Rattle.std.proofs.Common.{◌≡◌, ℕ, suc, ◌+◌, ◌<◌, List, [], ◌∷◌, ◌++◌, All, length, get_or, refl, sym, ap, ap₂, subst, ◌∙◌, arith, append-nil}
use Rattle.std.proofs.lemmas.List.{append_assoc, map-append}
use Rattle.std.proofs.lemmas.List.Elements.{All-append, All-cons, All-nil}
use Rattle.meaning_typing.specs.Facts.{Fact}
use Rattle.meaning_typing.specs.Surroundings.{Surrounding, of_unit, surrounding_at}
use Rattle.meaning_typing.specs.Units.{UnitNodes}
use Rattle.c_types.specs.Table.{TypeTable, Extends}
use Rattle.declaration_rows.specs.Kept.{AreDefined, AreTentative}
use Rattle.linked_names.specs.declared.declaration.Declared.{Declared}
use Rattle.linked_names.specs.declared.declaration.Linked.{Linked}
use Rattle.linked_names.specs.declared.declaration.Typedef.{Typedef}
use Rattle.linked_names.specs.Contexts.{CarriedDeclarations}
use Rattle.linked_names.specs.Linked.{LinkedDeclarations}
use Rattle.linked_names.proofs.GrowthLemmas.{Extends-twice}
use Rattle.node_facts.specs.declared.fact.NodeFact.{NodeFact}
use Rattle.node_facts.specs.Facts.{IsKnownNodeFact, node_seen, nodes_seen}
use Rattle.node_facts.specs.Growing.{TypesJoin}
use Rattle.node_facts.proofs.GrowthLemmas.{node_known, node_later, nodes_known, nodes_later}
use Rattle.declaration_judge.specs.declared.declarations.Declarations.{Declarations}
use Rattle.declaration_judge.specs.Kept.{IsKeptOf, IsWhole, OnlyTypesJoin, declared_in, declared_of, facts_seen, linked_in, linked_of, said_by, typedef_of, typedef_standing, typedefs_in}

-- Types join

-- the table of types alone is another
pub only_types : (old : Declarations) (types : TypeTable) → TypesJoin old.types types → OnlyTypesJoin old (record old { types = types })
only_types old types join = record { types = join; facts = refl; linked = refl; contexts = refl; typedefs = refl; defined = refl; tentative = refl }

module _ (old new : Declarations) (only : OnlyTypesJoin old new) where
  -- what was known is known so
  pub facts_later : IsWhole old → facts_seen new ≡ facts_seen old
  facts_later whole = ap (nodes_seen new.types) only.facts ∙ nodes_later old.types new.types only.types old.facts whole.ids

  pub whole_later : IsWhole old → IsWhole new
  whole_later whole =
      record {
        ids = subst (All (IsKnownNodeFact new.types)) (sym only.facts) (nodes_known old.types new.types only.types old.facts whole.ids);
        linked = ap (λ (l : LinkedDeclarations). l.declarations) only.linked ∙ whole.linked ∙ ap linked_in (sym only.facts);
        over =
            subst (λ (over : TypeTable). Extends over new.types) (ap (λ (l : LinkedDeclarations). l.over) (sym only.linked))
            (Extends-twice old.linked.over old.types new.types whole.over only.types.extends);
        carried =
            subst (λ (over : TypeTable). Extends over new.types) (ap (λ (l : CarriedDeclarations). l.over) (sym only.contexts))
            (Extends-twice old.contexts.over old.types new.types whole.carried only.types.extends);
      }

  pub kept_later : (nodes : UnitNodes) (surroundings : List Surrounding) → IsKeptOf nodes surroundings old → IsKeptOf nodes surroundings new
  kept_later nodes surroundings kept =
      let same = sym (facts_later kept.whole) in
      record {
        whole = whole_later kept.whole;
        contexts =
            ap (λ (l : CarriedDeclarations). l.declarations) only.contexts ∙ kept.contexts ∙ ap (declared_in nodes surroundings) (sym only.facts);
        typedefs = only.typedefs ∙ kept.typedefs ∙ ap (typedefs_in surroundings) (sym only.facts);
        defined =
            subst (AreDefined nodes surroundings (facts_seen new)) (sym only.defined)
            (subst (λ (facts : List Fact). AreDefined nodes surroundings facts old.defined) same kept.defined);
        tentative =
            subst (AreTentative nodes surroundings (facts_seen new)) (sym only.tentative)
            (subst (λ (facts : List Fact). AreTentative nodes surroundings facts old.tentative) same kept.tentative);
      }

-- What one node more says

linked_more : (facts : List NodeFact) (fact : NodeFact) → linked_in (facts ++ fact ∷ []) ≡ linked_in facts ++ linked_of fact
linked_more [] fact = append-nil (linked_of fact)
linked_more (first ∷ facts) fact =
    ap (λ others. linked_of first ++ others) (linked_more facts fact) ∙ sym (append_assoc (linked_of first) (linked_in facts) (linked_of fact))

module _ {X : Type 0} (says : (handle : ℕ) → Surrounding → NodeFact → List X) where
  said_none : (first : ℕ) (surroundings : List Surrounding) → said_by says first surroundings [] ≡ []
  said_none first [] = refl
  said_none first (surrounding ∷ surroundings) = refl

  said_more :
      (first : ℕ) (surroundings : List Surrounding) (facts : List NodeFact) (fact : NodeFact) (otherwise : Surrounding)
      → length facts < length surroundings
      → said_by says first surroundings (facts ++ fact ∷ [])
      ≡ said_by says first surroundings facts ++ says (first + length facts) (get_or surroundings (length facts) otherwise) fact
  said_more first [] facts fact otherwise within = absurd (omega (arith, within))
  said_more first (surrounding ∷ surroundings) [] fact otherwise within =
      let same : first ≡ first + 0 = omega arith in
      ap (λ others. says first surrounding fact ++ others) (said_none (first + 1) surroundings)
      ∙ append-nil (says first surrounding fact)
      ∙ ap (λ handle. says handle surrounding fact) same
  said_more first (surrounding ∷ surroundings) (other ∷ facts) fact otherwise within =
      let stands = get_or surroundings (length facts) otherwise in
      let next : (first + 1) + length facts ≡ first + suc (length facts) = omega arith in
      ap (λ others. says first surrounding other ++ others) (said_more (first + 1) surroundings facts fact otherwise (omega (arith, within)))
      ∙ sym
      (append_assoc (says first surrounding other) (said_by says (first + 1) surroundings facts) (says ((first + 1) + length facts) stands fact))
      ∙ ap (λ handle. (says first surrounding other ++ said_by says (first + 1) surroundings facts) ++ says handle stands fact) next

  -- the last one stands at the handle that comes next
  pub said_next : (surroundings : List Surrounding) (facts : List NodeFact) (fact : NodeFact) → length facts < length surroundings
      → said_by says 0 surroundings (facts ++ fact ∷ [])
      ≡ said_by says 0 surroundings facts ++ says (length facts) (surrounding_at surroundings (length facts)) fact
  said_next surroundings facts fact within =
      let same : 0 + length facts ≡ length facts = omega arith in
      said_more 0 surroundings facts fact (of_unit (length surroundings)) within
      ∙ ap (λ handle. said_by says 0 surroundings facts ++ says handle (surrounding_at surroundings (length facts)) fact) same

-- What is kept, with one node more, which stands so
pub record Joins (nodes : UnitNodes) (surroundings : List Surrounding) (handle : ℕ) (surrounding : Surrounding) (fact : NodeFact) (old new : Declarations) : Type 0 where
  pub types : TypesJoin old.types new.types
  pub facts : new.facts ≡ old.facts ++ fact ∷ []
  pub linked : new.linked.declarations ≡ old.linked.declarations ++ linked_of fact
  pub over : Extends new.linked.over new.types
  pub contexts : new.contexts.declarations ≡ old.contexts.declarations ++ declared_of nodes handle surrounding fact
  pub carried : Extends new.contexts.over new.types
  pub typedefs : new.typedefs ≡ old.typedefs ++ typedef_of surrounding.around.scope fact
  pub defined : AreDefined nodes surroundings (facts_seen old ++ node_seen old.types fact ∷ []) new.defined
  pub tentative : AreTentative nodes surroundings (facts_seen old ++ node_seen old.types fact ∷ []) new.tentative

module _ (nodes : UnitNodes) (surroundings : List Surrounding) (handle : ℕ) (surrounding : Surrounding) (fact : NodeFact) (old new : Declarations)
    (next : length old.facts ≡ handle) (stands : surrounding_at surroundings handle ≡ surrounding) (within : handle < length surroundings)
    (id : IsKnownNodeFact old.types fact) (kept : IsKeptOf nodes surroundings old) (joins : Joins nodes surroundings handle surrounding fact old new) where
  within-facts : length old.facts < length surroundings
  within-facts = omega (arith, within, next)

  standing : surrounding_at surroundings (length old.facts) ≡ surrounding
  standing = ap (surrounding_at surroundings) next ∙ stands

  seen-more : facts_seen new ≡ facts_seen old ++ node_seen old.types fact ∷ []
  seen-more =
      ap (nodes_seen new.types) joins.facts
      ∙ map-append (node_seen new.types) old.facts (fact ∷ [])
      ∙ ap₂ (λ front last. front ++ last ∷ []) (nodes_later old.types new.types joins.types old.facts kept.whole.ids)
      (node_later old.types new.types joins.types fact id)

  pub kept_more : IsKeptOf nodes surroundings new
  kept_more =
      record {
        whole = record {
          ids =
              subst (All (IsKnownNodeFact new.types)) (sym joins.facts)
              (All-append (IsKnownNodeFact new.types) old.facts (fact ∷ []) (nodes_known old.types new.types joins.types old.facts kept.whole.ids)
              (All-cons (IsKnownNodeFact new.types) fact [] (node_known old.types new.types joins.types fact id) (All-nil (IsKnownNodeFact new.types))));
          linked =
              joins.linked ∙ ap (λ (earlier : List Linked). earlier ++ linked_of fact) kept.whole.linked ∙ sym (linked_more old.facts fact)
              ∙ ap linked_in (sym joins.facts);
          over = joins.over;
          carried = joins.carried;
        };
        contexts =
            joins.contexts
            ∙ ap (λ (earlier : List Declared). earlier ++ declared_of nodes handle surrounding fact) kept.contexts
            ∙ (λ i. declared_in nodes surroundings old.facts ++ declared_of nodes (sym next i) (sym standing i) fact)
            ∙ sym (said_next (declared_of nodes) surroundings old.facts fact within-facts)
            ∙ ap (declared_in nodes surroundings) (sym joins.facts);
        typedefs =
            joins.typedefs
            ∙ ap (λ (earlier : List Typedef). earlier ++ typedef_of surrounding.around.scope fact) kept.typedefs
            ∙ (λ i. typedefs_in surroundings old.facts ++ typedef_of (sym standing i).around.scope fact)
            ∙ sym (said_next typedef_standing surroundings old.facts fact within-facts)
            ∙ ap (typedefs_in surroundings) (sym joins.facts);
        defined = subst (λ (facts : List Fact). AreDefined nodes surroundings facts new.defined) (sym seen-more) joins.defined;
        tentative = subst (λ (facts : List Fact). AreTentative nodes surroundings facts new.tentative) (sym seen-more) joins.tentative;
      }

-- Nothing is known yet

pub kept_none :
    (nodes : UnitNodes) (surroundings : List Surrounding) (kept : Declarations) → kept.facts ≡ [] → kept.linked.declarations ≡ []
    → Extends kept.linked.over kept.types → kept.contexts.declarations ≡ [] → Extends kept.contexts.over kept.types → kept.typedefs ≡ []
    → AreDefined nodes surroundings [] kept.defined → AreTentative nodes surroundings [] kept.tentative → IsKeptOf nodes surroundings kept
kept_none nodes surroundings kept none linked over contexts carried typedefs defined tentative =
    let seen : [] ≡ facts_seen kept = sym (ap (nodes_seen kept.types) none) in
    record {
      whole = record {
        ids = subst (All (IsKnownNodeFact kept.types)) (sym none) (All-nil (IsKnownNodeFact kept.types));
        linked = linked ∙ ap linked_in (sym none);
        over = over;
        carried = carried;
      };
      contexts = contexts ∙ sym (said_none (declared_of nodes) 0 surroundings) ∙ ap (declared_in nodes surroundings) (sym none);
      typedefs = typedefs ∙ sym (said_none typedef_standing 0 surroundings) ∙ ap (typedefs_in surroundings) (sym none);
      defined = subst (λ (facts : List Fact). AreDefined nodes surroundings facts kept.defined) seen defined;
      tentative = subst (λ (facts : List Fact). AreTentative nodes surroundings facts kept.tentative) seen tentative;
    }
