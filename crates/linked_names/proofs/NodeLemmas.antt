-- The node of each declaration is kept by how many of its name stand before it.
use Rattle.std.proofs.Common.{◌≡◌, ℕ, zero, suc, ◌+◌, Bool, true, false, ◌&&◌, nat_eq, List, [], ◌∷◌, ◌++◌, length, slice_get, Option, Some, None, cond, option_map, if◌then◌else◌, refl, sym, ap, ◌∙◌, subst, arith, eq-eqb}
use Rattle.std.specs.Option.{option_and_then}
use Rattle.std.proofs.lemmas.Bool.{eqb-true, false≢true}
use Rattle.std.proofs.lemmas.Option.{none-some}
use Rattle.std.proofs.lemmas.List.{append-nil, length-map}
use Rattle.sparse_model.specs.declared.ids.NameId.{NameId}
use Rattle.meaning_typing.specs.ContextSums.{LinkedDeclaration, declarations_with, differs_from, first_differing, nodes_with}
use Rattle.c_types.specs.Table.{TypeTable}
use Rattle.linked_names.specs.Contexts.{AreCarriedKept, AreKeptNodes, count_of, declaration_of, declarations_of, first_where, nodes_declaring}
use Rattle.linked_names.specs.Typedefs.{same_scoped}
use Rattle.linked_names.specs.Witnesses.{PlacedType}
use Rattle.linked_names.specs.declared.carried.Carried.{Carried}
use Rattle.linked_names.specs.declared.declaration.Declared.{Declared}

-- Telling

pub none-differs : (declaration : LinkedDeclaration) (nodes : List ℕ) → first_differing declaration nodes [] ≡ None
none-differs declaration [] = refl
none-differs declaration (node ∷ nodes) = refl

module _ (table : TypeTable) (name : NameId) where
  pub nodes-counted : (declarations : List Declared) → length (nodes_declaring name declarations) ≡ length (declarations_of table name declarations)
  nodes-counted [] = refl
  nodes-counted (declared ∷ declarations) = by (nat_eq declared.name.0 name.0) (nodes-counted declarations)
    where
      by : (same : Bool) → length (nodes_declaring name declarations) ≡ length (declarations_of table name declarations)
          → length (nodes_with same declared.node (nodes_declaring name declarations))
          ≡ length (declarations_with same (declaration_of table declared.of declared.contexts) (declarations_of table name declarations))
      by true later = ap suc later
      by false later = later

  module _ (declaration : LinkedDeclaration) (found : ℕ → Option ℕ) where
    -- the node at the place of the first that differs
    abbrev node_at_first : (place : ℕ) → List LinkedDeclaration → Option ℕ
    node_at_first place list = option_and_then found (option_map (λ (one : PlacedType). one.place) (first_where (differs_from declaration) place list))

    pub node-told : (place : ℕ) (declarations : List Declared)
        → ((further node : ℕ) → slice_get (nodes_declaring name declarations) further ≡ Some node → found (place + further) ≡ Some node)
        → node_at_first place (declarations_of table name declarations) ≡ first_differing declaration (nodes_declaring name declarations) (declarations_of table name declarations)
    node-told place [] keeps = refl
    node-told place (declared ∷ declarations) keeps = by (nat_eq declared.name.0 name.0) keeps (λ from behind. node-told from declarations behind)
      where
        here : LinkedDeclaration
        here = declaration_of table declared.of declared.contexts

        nodes : List ℕ
        nodes = nodes_declaring name declarations

        list : List LinkedDeclaration
        list = declarations_of table name declarations

        Later : Type 0
        Later = (from : ℕ) → ((further node : ℕ) → slice_get nodes further ≡ Some node → found (from + further) ≡ Some node) → node_at_first from list ≡ first_differing declaration nodes list

        by_test : (differs : Bool) → ((further node : ℕ) → slice_get (declared.node ∷ nodes) further ≡ Some node → found (place + further) ≡ Some node) → Later
            → option_and_then found
            (option_map (λ (one : PlacedType). one.place) (if differs then Some (record { place = place; type_ = here.type_ }) else first_where (differs_from declaration) (place + 1) list))
            ≡ (if differs then Some declared.node else first_differing declaration nodes list)
        by_test true keeps later =
            let end : place ≡ place + 0 = omega arith in
            ap found end ∙ keeps 0 declared.node refl
        by_test false keeps later =
            later (place + 1)
            (λ further node is.
            let same : place + 1 + further ≡ place + suc further = omega arith in
            ap found same ∙ keeps (suc further) node is)

        by : (same : Bool) → ((further node : ℕ) → slice_get (nodes_with same declared.node nodes) further ≡ Some node → found (place + further) ≡ Some node) → Later
            → node_at_first place (declarations_with same here list) ≡ first_differing declaration (nodes_with same declared.node nodes) (declarations_with same here list)
        by true keeps later = by_test (differs_from declaration here) keeps later
        by false keeps later = later place keeps

  -- how many there are
  pub nodes-kept : (declarations : List Declared) (found : Option Carried) → AreCarriedKept table (declarations_of table name declarations) found
      → count_of found ≡ length (nodes_declaring name declarations)
  nodes-kept declarations None none = sym (nodes-counted declarations ∙ ap length none)
  nodes-kept declarations (Some carried) is =
      is.declarations.witnesses.count
      ∙ length-map (declarations_of table name declarations) (λ (one : LinkedDeclaration). one.type_) ∙ sym (nodes-counted declarations)

-- One declaration more

last-at-end : (nodes : List ℕ) (last : ℕ) → slice_get (nodes ++ last ∷ []) (length nodes) ≡ Some last
last-at-end [] last = refl
last-at-end (node ∷ nodes) last = last-at-end nodes last

before-end : (nodes : List ℕ) (last place : ℕ) → (place ≡ length nodes → false ≡ true) → slice_get (nodes ++ last ∷ []) place ≡ slice_get nodes place
before-end [] last zero apart = absurd (false≢true (apart refl))
before-end [] last (suc place) apart = refl
before-end (node ∷ nodes) last zero apart = refl
before-end (node ∷ nodes) last (suc place) apart = before-end nodes last place (λ same. apart (ap suc same))

nodes_with-more : (test : Bool) (node : ℕ) (nodes more : List ℕ) → nodes_with test node nodes ++ more ≡ nodes_with test node (nodes ++ more)
nodes_with-more true node nodes more = refl
nodes_with-more false node nodes more = refl

nodes_declaring-more : (name : NameId) (declarations : List Declared) (next : Declared)
    → nodes_declaring name (declarations ++ next ∷ []) ≡ nodes_declaring name declarations ++ nodes_with (nat_eq next.name.0 name.0) next.node []
nodes_declaring-more name [] next = refl
nodes_declaring-more name (declared ∷ declarations) next =
    ap (nodes_with (nat_eq declared.name.0 name.0) declared.node) (nodes_declaring-more name declarations next)
    ∙ sym (nodes_with-more (nat_eq declared.name.0 name.0) declared.node (nodes_declaring name declarations) (nodes_with (nat_eq next.name.0 name.0) next.node []))

longer-at : (nodes more : List ℕ) (place node : ℕ) → slice_get nodes place ≡ Some node → slice_get (nodes ++ more) place ≡ Some node
longer-at [] more place node is = absurd (none-some node is)
longer-at (first ∷ nodes) more zero node is = is
longer-at (first ∷ nodes) more (suc place) node is = longer-at nodes more place node is

module _ (declarations : List Declared) (next : Declared) (found later : ℕ × NameId → Option ℕ) (keeps : AreKeptNodes declarations found) (count : ℕ)
    (end : count ≡ length (nodes_declaring next.name declarations))
    (updates : (key : ℕ × NameId) → later key ≡ cond (same_scoped (count, next.name) key) (Some next.node) (found key)) where
  at_end : (place node : ℕ) (is_end : Bool) → nat_eq count place ≡ is_end → slice_get (nodes_declaring next.name declarations ++ next.node ∷ []) place ≡ Some node
      → cond (is_end && true) (Some next.node) (found (place, next.name)) ≡ Some node
  at_end place node true same is =
      let here : length (nodes_declaring next.name declarations) ≡ place = sym end ∙ eqb-true count place same in
      sym (last-at-end (nodes_declaring next.name declarations) next.node)
      ∙ ap (λ (at : ℕ). slice_get (nodes_declaring next.name declarations ++ next.node ∷ []) at) here ∙ is
  at_end place node false apart is =
      keeps next.name place node
      (sym (before-end (nodes_declaring next.name declarations) next.node place (λ past. sym apart ∙ eq-eqb count place (end ∙ sym past))) ∙ is)

  elsewhere : (name : NameId) (place : ℕ) (is_end : Bool) → cond (is_end && false) (Some next.node) (found (place, name)) ≡ found (place, name)
  elsewhere name place true = refl
  elsewhere name place false = refl

  by_name : (name : NameId) (place node : ℕ) (same : Bool) → nat_eq next.name.0 name.0 ≡ same
      → slice_get (nodes_declaring name declarations ++ nodes_with same next.node []) place ≡ Some node
      → cond (nat_eq count place && same) (Some next.node) (found (place, name)) ≡ Some node
  by_name name place node true same =
      let one : next.name ≡ name = ap (λ number. record { 0 = number }) (eqb-true next.name.0 name.0 same) in
      subst
      (λ (other : NameId). slice_get (nodes_declaring other declarations ++ next.node ∷ []) place ≡ Some node
      → cond (nat_eq count place && true) (Some next.node) (found (place, other)) ≡ Some node)
      one
      (at_end place node (nat_eq count place) refl)
  by_name name place node false apart = λ is.
      elsewhere name place (nat_eq count place)
      ∙ keeps name place node (ap (λ (nodes : List ℕ). slice_get nodes place) (sym (append-nil (nodes_declaring name declarations))) ∙ is)

  -- one that is past the end doesn't matter
  pub nodes-stay : AreKeptNodes declarations later
  nodes-stay = λ name place node is.
      updates (place, name) ∙ by_name name place node (nat_eq next.name.0 name.0) refl (longer-at (nodes_declaring name declarations) _ place node is)

  pub nodes-more : AreKeptNodes (declarations ++ next ∷ []) later
  nodes-more = λ name place node is.
      updates (place, name)
      ∙ by_name name place node (nat_eq next.name.0 name.0) refl (ap (λ (nodes : List ℕ). slice_get nodes place) (sym (nodes_declaring-more name declarations next)) ∙ is)
