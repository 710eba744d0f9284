-- The first declaration of a name with linkage.
use Rattle.std.proofs.Common.{◌≡◌, ℕ, zero, suc, ◌+◌, ◌<◌, ◌≤◌, ◌⊎◌, inl, inr, Bool, true, false, ◌&&◌, nat_eq, bytes_eq, List, [], ◌∷◌, ◌++◌, length, get_or, Some, if◌then◌else◌, refl, sym, ap, ap₂, subst, ◌∙◌, arith}
use Rattle.std.proofs.lemmas.Bool.{false≢true}
use Rattle.std.proofs.lemmas.Option.{none-some, same_Some}
use Rattle.std.proofs.lemmas.Slice.Eq.{bytes_eq-Decides}
use Rattle.meaning_typing.specs.Units.{UnitNodes}
use Rattle.meaning_typing.specs.Surroundings.{Surrounding}
use Rattle.meaning_typing.specs.Facts.{Fact, Unknown, Expression, Specified, Declared, NamedType, DeclaredFact, fact_at}
use Rattle.meaning_typing.specs.Names.{links_name}
use Rattle.meaning_typing.specs.DeclarationRows.{defines, is_linked_before}
use Rattle.meaning_typing.specs.ContextSums.{first_contexts, linked_from}
use Rattle.meaning_objects.specs.Objects.{first_linked, handle_if, handle_or, object_declared, object_of}
use Rattle.meaning_objects.specs.Definitions.{defines_object, first_definition}
use Rattle.meaning_objects.specs.Carried.{contexts_declared, contexts_of_object, is_declared_noreturn, is_linked_noreturn, is_noreturn, own_contexts, is_own_noreturn}
use Rattle.meaning_objects.specs.laws.Objects.{ContextsAreShared, DefinitionsAreShared, NoreturnIsShared, ObjectsAreShared, ObjectsAreTheirOwn, ObjectsComeFirst, ObjectsStay}

-- Links

pub both-true : (one other : Bool) → (one && other) ≡ true → (one ≡ true) × (other ≡ true)
both-true true other is = (refl, is)
both-true false other is = absurd (false≢true is)

links-true : (name : List ℕ) (declaration : DeclaredFact) → declaration.has_linkage ≡ true → declaration.name ≡ name → links_name name declaration ≡ true
links-true name declaration links named = ap₂ (λ one other. one && other) links ((bytes_eq-Decides declaration.name name).1 named)

links-linkage : (name : List ℕ) (declaration : DeclaredFact) → links_name name declaration ≡ true → declaration.has_linkage ≡ true
links-linkage name declaration is = (both-true declaration.has_linkage (bytes_eq declaration.name name) is).0

links-named : (name : List ℕ) (declaration : DeclaredFact) → links_name name declaration ≡ true → declaration.name ≡ name
links-named name declaration is = (bytes_eq-Decides declaration.name name).0 (both-true declaration.has_linkage (bytes_eq declaration.name name) is).1

-- a fact that links is a declaration that does
linked-declares : (name : List ℕ) (fact : Fact) → is_linked_before name fact ≡ true → (declaration : DeclaredFact) × (fact ≡ Declared declaration) × (links_name name declaration ≡ true)
linked-declares name Unknown is = absurd (false≢true is)
linked-declares name (Expression expression) is = absurd (false≢true is)
linked-declares name (Specified specified) is = absurd (false≢true is)
linked-declares name (Declared declaration) is = (declaration, refl, is)
linked-declares name (NamedType type_) is = absurd (false≢true is)

-- The first

first_linked-step : (name : List ℕ) (first : ℕ) (fact : Fact) (facts : List Fact)
    → first_linked name first (fact ∷ facts) ≡ handle_if (is_linked_before name fact) first (first_linked name (first + 1) facts)
first_linked-step name first Unknown facts = refl
first_linked-step name first (Expression expression) facts = refl
first_linked-step name first (Specified specified) facts = refl
first_linked-step name first (Declared declaration) facts = refl
first_linked-step name first (NamedType type_) facts = refl

-- a first one is found, no later than this one
linked-found : (name : List ℕ) (first : ℕ) (facts : List Fact) (place : ℕ) → is_linked_before name (get_or facts place Unknown) ≡ true
    → (handle : ℕ) × (first_linked name first facts ≡ Some handle) × (handle ≤ first + place)
linked-found name first [] place links = absurd (false≢true links)
linked-found name first (fact ∷ facts) zero links =
    (first, first_linked-step name first fact facts ∙ ap (λ test. handle_if test first (first_linked name (first + 1) facts)) links, omega arith)
linked-found name first (fact ∷ facts) (suc place) links = by (is_linked_before name fact) refl (linked-found name (first + 1) facts place links)
  where
    by : (test : Bool) → is_linked_before name fact ≡ test → (handle : ℕ) × (first_linked name (first + 1) facts ≡ Some handle) × (handle ≤ first + 1 + place)
        → (handle : ℕ) × (first_linked name first (fact ∷ facts) ≡ Some handle) × (handle ≤ first + suc place)
    by true is later = (first, first_linked-step name first fact facts ∙ ap (λ test. handle_if test first (first_linked name (first + 1) facts)) is, omega arith)
    by false is later = (
      later.0,
      first_linked-step name first fact facts ∙ ap (λ test. handle_if test first (first_linked name (first + 1) facts)) is ∙ later.1,
      omega (arith, later.2),
    )

-- what is found links
linked-links : (name : List ℕ) (first : ℕ) (facts : List Fact) (handle : ℕ) → first_linked name first facts ≡ Some handle
    → (place : ℕ) × (handle ≡ first + place) × (is_linked_before name (get_or facts place Unknown) ≡ true)
linked-links name first [] handle is = absurd (none-some handle is)
linked-links name first (fact ∷ facts) handle is =
    by (is_linked_before name fact) refl (sym (first_linked-step name first fact facts) ∙ is) (linked-links name (first + 1) facts handle)
  where
    by : (test : Bool) → is_linked_before name fact ≡ test → handle_if (is_linked_before name fact) first (first_linked name (first + 1) facts) ≡ Some handle
        → (first_linked name (first + 1) facts ≡ Some handle
        → (place : ℕ) × (handle ≡ first + 1 + place) × (is_linked_before name (get_or facts place Unknown) ≡ true))
        → (place : ℕ) × (handle ≡ first + place) × (is_linked_before name (get_or (fact ∷ facts) place Unknown) ≡ true)
    by true links is later =
        (0, omega (arith, same_Some _ _ (sym (ap (λ test. handle_if test first (first_linked name (first + 1) facts)) links) ∙ is)), links)
    by false links is later =
        let found = later (sym (ap (λ test. handle_if test first (first_linked name (first + 1) facts)) links) ∙ is) in
        (suc found.0, omega (arith, found.1), found.2)

-- and stays where more is declared
linked-stays : (name : List ℕ) (first : ℕ) (facts more : List Fact) (handle : ℕ) → first_linked name first facts ≡ Some handle → first_linked name first (facts ++ more) ≡ Some handle
linked-stays name first [] more handle is = absurd (none-some handle is)
linked-stays name first (fact ∷ facts) more handle is =
    first_linked-step name first fact (facts ++ more)
    ∙ by (is_linked_before name fact) (sym (first_linked-step name first fact facts) ∙ is) (linked-stays name (first + 1) facts more handle)
  where
    by : (test : Bool) → handle_if test first (first_linked name (first + 1) facts) ≡ Some handle
        → (first_linked name (first + 1) facts ≡ Some handle → first_linked name (first + 1) (facts ++ more) ≡ Some handle)
        → handle_if test first (first_linked name (first + 1) (facts ++ more)) ≡ Some handle
    by true is later = is
    by false is later = later is

-- Objects

-- this declarator and its object have one name and linkage
pub record Shares (facts : List Fact) (declarator object : ℕ) : Type 0 where
  pub declaration : DeclaredFact
  pub another : DeclaredFact
  pub declared : fact_at facts declarator ≡ Declared declaration
  pub first : fact_at facts object ≡ Declared another
  pub links : declaration.has_linkage ≡ true
  pub links_too : another.has_linkage ≡ true
  pub named : another.name ≡ declaration.name
  pub found : first_linked declaration.name 0 facts ≡ Some object
  pub before : object ≤ declarator

-- without linkage it is its own
own : (facts : List Fact) (declarator : ℕ) (fact : Fact) → fact_at facts declarator ≡ fact → object_declared facts declarator fact ≡ declarator → object_of facts declarator ≡ declarator
own facts declarator fact is same = ap (object_declared facts declarator) is ∙ same

linked-object : (facts : List Fact) (declarator : ℕ) (declaration : DeclaredFact) (handle : ℕ) → fact_at facts declarator ≡ Declared declaration → declaration.has_linkage ≡ true
    → first_linked declaration.name 0 facts ≡ Some handle → object_of facts declarator ≡ handle
linked-object facts declarator declaration handle is links found =
    ap (object_declared facts declarator) is
    ∙ ap₂ (λ linked first. if linked then handle_or declarator first else declarator) links found

shares : (facts : List Fact) (declarator : ℕ) (declaration : DeclaredFact) → fact_at facts declarator ≡ Declared declaration → declaration.has_linkage ≡ true
    → Shares facts declarator (object_of facts declarator)
shares facts declarator declaration is links =
    let first = linked-found declaration.name 0 facts declarator (ap (is_linked_before declaration.name) is ∙ links-true declaration.name declaration links refl) in
    let found = linked-links declaration.name 0 facts first.0 first.1 in
    let another = linked-declares declaration.name (get_or facts found.0 Unknown) found.2 in
    let at : first.0 ≡ found.0 = omega (arith, found.1) in
    subst (Shares facts declarator) (sym (linked-object facts declarator declaration first.0 is links first.1))
    (record {
      declaration = declaration;
      another = another.0;
      declared = is;
      first = ap (fact_at facts) at ∙ another.1;
      links = links;
      links_too = links-linkage declaration.name another.0 another.2;
      named = links-named declaration.name another.0 another.2;
      found = first.1;
      before = omega (arith, first.2);
    })

pub object-cases : (facts : List Fact) (declarator : ℕ) → (object_of facts declarator ≡ declarator) ⊎ Shares facts declarator (object_of facts declarator)
object-cases facts declarator = by (fact_at facts declarator) refl
  where
    by_linkage : (declaration : DeclaredFact) → fact_at facts declarator ≡ Declared declaration → (links : Bool) → declaration.has_linkage ≡ links
        → (object_of facts declarator ≡ declarator) ⊎ Shares facts declarator (object_of facts declarator)
    by_linkage declaration is true links = inr (shares facts declarator declaration is links)
    by_linkage declaration is false links =
        inl (own facts declarator (Declared declaration) is (ap (λ linked. if linked then handle_or declarator (first_linked declaration.name 0 facts) else declarator) links))

    by : (fact : Fact) → fact_at facts declarator ≡ fact → (object_of facts declarator ≡ declarator) ⊎ Shares facts declarator (object_of facts declarator)
    by Unknown is = inl (own facts declarator Unknown is refl)
    by (Expression expression) is = inl (own facts declarator (Expression expression) is refl)
    by (Specified specified) is = inl (own facts declarator (Specified specified) is refl)
    by (Declared declaration) is = by_linkage declaration is declaration.has_linkage refl
    by (NamedType type_) is = inl (own facts declarator (NamedType type_) is refl)

-- Laws

pub objects_are_shared : ObjectsAreShared
objects_are_shared facts declarator other declaration another is is_other links links_other named =
    let one = shares facts declarator declaration is links in
    let same : first_linked another.name 0 facts ≡ Some (object_of facts declarator) =
    ap (λ name. first_linked name 0 facts) (sym named ∙ sym (ap name_in (sym one.declared ∙ is))) ∙ one.found in
    sym (linked-object facts other another (object_of facts declarator) is_other links_other same)
  where
    name_in : Fact → List ℕ
    name_in (Declared declaration) = declaration.name
    name_in fact = []

pub objects_are_their_own : ObjectsAreTheirOwn
objects_are_their_own facts declarator =
    elim (object-cases facts declarator) [
      | inl same ↦ ap (object_of facts) same
      | inr one ↦ linked-object facts (object_of facts declarator) one.another (object_of facts declarator) one.first one.links_too (ap (λ name. first_linked name 0 facts) one.named ∙ one.found)
    ]

pub objects_come_first : ObjectsComeFirst
objects_come_first facts declarator =
    elim (object-cases facts declarator) [
      | inl same ↦ omega (arith, same)
      | inr one ↦ one.before
    ]

stays-at : (facts more : List Fact) (place : ℕ) → place < length facts → get_or (facts ++ more) place Unknown ≡ get_or facts place Unknown
stays-at [] more place within = absurd (omega (arith, within))
stays-at (fact ∷ facts) more zero within = refl
stays-at (fact ∷ facts) more (suc place) within = stays-at facts more place (omega (arith, within))

own-cases : (facts : List Fact) (declarator : ℕ) (fact : Fact) → fact_at facts declarator ≡ fact → object_of facts declarator ≡ object_declared facts declarator fact
own-cases facts declarator fact is = ap (object_declared facts declarator) is

pub objects_stay : ObjectsStay
objects_stay facts more declarator within = by (fact_at facts declarator) refl
  where
    there : fact_at (facts ++ more) declarator ≡ fact_at facts declarator
    there = stays-at facts more declarator within

    both : (fact : Fact) → fact_at facts declarator ≡ fact → object_declared (facts ++ more) declarator fact ≡ object_declared facts declarator fact
        → object_of (facts ++ more) declarator ≡ object_of facts declarator
    both fact is same = own-cases (facts ++ more) declarator fact (there ∙ is) ∙ same ∙ sym (own-cases facts declarator fact is)

    by_linkage : (declaration : DeclaredFact) → fact_at facts declarator ≡ Declared declaration → (links : Bool) → declaration.has_linkage ≡ links
        → object_of (facts ++ more) declarator ≡ object_of facts declarator
    by_linkage declaration is true links =
        let one = linked-found declaration.name 0 facts declarator (ap (is_linked_before declaration.name) is ∙ links-true declaration.name declaration links refl) in
        linked-object (facts ++ more) declarator declaration one.0 (there ∙ is) links (linked-stays declaration.name 0 facts more one.0 one.1)
        ∙ sym (linked-object facts declarator declaration one.0 is links one.1)
    by_linkage declaration is false links =
        both (Declared declaration) is
        (ap (λ linked. if linked then handle_or declarator (first_linked declaration.name 0 (facts ++ more)) else declarator) links
        ∙ sym (ap (λ linked. if linked then handle_or declarator (first_linked declaration.name 0 facts) else declarator) links))

    by : (fact : Fact) → fact_at facts declarator ≡ fact → object_of (facts ++ more) declarator ≡ object_of facts declarator
    by Unknown is = both Unknown is refl
    by (Expression expression) is = both (Expression expression) is refl
    by (Specified specified) is = both (Specified specified) is refl
    by (Declared declaration) is = by_linkage declaration is declaration.has_linkage refl
    by (NamedType type_) is = both (NamedType type_) is refl

-- What is asked of an object

definition-alike : (nodes : UnitNodes) (facts : List Fact) (object other : ℕ) → object_of facts object ≡ object_of facts other
    → (first : ℕ) (surroundings : List Surrounding) (others : List Fact)
    → first_definition nodes facts object first surroundings others ≡ first_definition nodes facts other first surroundings others
definition-alike nodes facts object other same first [] others = refl
definition-alike nodes facts object other same first (surrounding ∷ surroundings) [] = refl
definition-alike nodes facts object other same first (surrounding ∷ surroundings) (fact ∷ others) =
    ap₂ (λ test rest. handle_if test first rest) (alike fact) (definition-alike nodes facts object other same (first + 1) surroundings others)
  where
    alike : (fact : Fact) → defines_object nodes facts object first surrounding fact ≡ defines_object nodes facts other first surrounding fact
    alike Unknown = refl
    alike (Expression expression) = refl
    alike (Specified specified) = refl
    alike (Declared declaration) = ap (λ (handle : ℕ). nat_eq (object_of facts first) handle && defines nodes surrounding) same
    alike (NamedType type_) = refl

pub definitions_are_shared : DefinitionsAreShared
definitions_are_shared nodes surroundings facts declarator =
    definition-alike nodes facts (object_of facts declarator) declarator (objects_are_their_own facts declarator) 0 surroundings facts

pub contexts_are_shared : ContextsAreShared
contexts_are_shared nodes surroundings facts declarator =
    elim (object-cases facts declarator) [
      | inl same ↦ ap (contexts_of_object nodes surroundings facts) same
      | inr one ↦
          said (object_of facts declarator) one.another one.first one.links_too
          ∙ ap (λ name. first_contexts (linked_from nodes name 0 surroundings facts)) one.named
          ∙ sym (said declarator one.declaration one.declared one.links)
    ]
  where
    said : (handle : ℕ) (declaration : DeclaredFact) → fact_at facts handle ≡ Declared declaration → declaration.has_linkage ≡ true
        → contexts_of_object nodes surroundings facts handle ≡ first_contexts (linked_from nodes declaration.name 0 surroundings facts)
    said handle declaration is links =
        ap (contexts_declared nodes surroundings facts handle) is
        ∙ ap (λ linked. if linked then first_contexts (linked_from nodes declaration.name 0 surroundings facts) else own_contexts nodes surroundings handle declaration) links

pub noreturn_is_shared : NoreturnIsShared
noreturn_is_shared nodes surroundings facts declarator =
    elim (object-cases facts declarator) [
      | inl same ↦ ap (is_noreturn nodes surroundings facts) same
      | inr one ↦
          said (object_of facts declarator) one.another one.first one.links_too
          ∙ ap (λ name. is_linked_noreturn nodes name 0 surroundings facts) one.named
          ∙ sym (said declarator one.declaration one.declared one.links)
    ]
  where
    said : (handle : ℕ) (declaration : DeclaredFact) → fact_at facts handle ≡ Declared declaration → declaration.has_linkage ≡ true
        → is_noreturn nodes surroundings facts handle ≡ is_linked_noreturn nodes declaration.name 0 surroundings facts
    said handle declaration is links =
        ap (is_declared_noreturn nodes surroundings facts handle) is
        ∙ ap (λ linked. if linked then is_linked_noreturn nodes declaration.name 0 surroundings facts else is_own_noreturn nodes surroundings handle declaration) links
