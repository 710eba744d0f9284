-- Which declarators a unit of the first form has, and what they declare.
use Rattle.std.proofs.Common.{◌≡◌, ℕ, zero, suc, ◌+◌, ◌<◌, ◌⊎◌, inl, inr, Bool, true, false, ◌||◌, List, [], ◌∷◌, length, Contains, Some, slice_get, refl, sym, ap, subst, ◌∙◌}
use Rattle.std.proofs.lemmas.Option.{none-some, same_Some}
use Rattle.vocabulary.specs.declared.node_kind.NodeKind.{NodeKind}
use Rattle.vocabulary.specs.declared.node_kind.NodeKind.TheVariants as kinds
use Rattle.vocabulary.specs.declared.role.Role.TheVariants.{Evaluated, TypePart}
use Rattle.vocabulary.specs.Roles.{role_of}
use Rattle.meaning_tree.specs.Trees.{SyntaxTree, Node, Parts, NoParts, Part, parts_of}
use Rattle.meaning_syntax.specs.Items.{Word, Statement, Item, Object, Function}
use Rattle.meaning_syntax.specs.Trees.{function_declarator, function_tree, plain_node, statement_trees, void_specifiers}
use Rattle.meaning_typing.specs.Units.{UnitNodes, kind_at, node_at}
use Rattle.meaning_first_units.specs.Units.{Renaming, TellsApart}
use Rattle.meaning_first_units.proofs.Declaring.{never}
use Rattle.meaning_first_units.proofs.Objects.{ObjectShape, object-shape}
use Rattle.meaning_first_units.proofs.Reaching.{AllFine, has_declarator, is_declarator, is_declarator_kind}
use Rattle.meaning_first_units.proofs.Saying.{keeps-names}
use Rattle.meaning_first_units.proofs.Standing.{Make, Makes, first-part, makes-kind, makes-name, no-part, node-of}

-- Functions as nodes

pub record FunctionShape (renaming : Renaming) (nodes : UnitNodes) (handle first : ℕ) (name : List ℕ) (statements : List Statement) : Type 0 where
  pub within : handle < length nodes
  pub is_kind : kind_at nodes handle ≡ kinds.FunctionDefinition
  pub specifiers : ℕ × ℕ
  pub declarator : ℕ × ℕ
  pub body : ℕ × ℕ
  pub parts : (node_at nodes handle).children ≡ specifiers ∷ declarator ∷ body ∷ []
  pub are_specifiers : kind_at nodes specifiers.0 ≡ kinds.Specifiers
  pub is_named : (node_at nodes declarator.0).name ≡ renaming name
  pub is_body : kind_at nodes body.0 ≡ kinds.CompoundStatement
  pub evaluated : role_of body.1 ≡ Evaluated
  pub statement_handles : List (ℕ × ℕ)
  pub statements_are : (node_at nodes body.0).children ≡ statement_handles
  pub make : Make renaming nodes statement_handles (parts_of Evaluated (statement_trees (first + 6) statements))

pub function-shape :
    (renaming : Renaming) (nodes : UnitNodes) (handle first : ℕ) (name : List ℕ) (statements : List Statement) → Makes renaming nodes handle (function_tree first name statements)
    → FunctionShape renaming nodes handle first name statements
function-shape renaming nodes handle first name statements makes =
    let body_parts = parts_of Evaluated (statement_trees (first + 6) statements) in
    let body_tree = plain_node kinds.CompoundStatement (first + 5) body_parts in
    let last_parts = Part Evaluated body_tree NoParts in
    let declarator_tree = function_declarator (first + 1) name in
    let more_parts = Part TypePart declarator_tree last_parts in
    let is = node-of renaming nodes handle kinds.FunctionDefinition first [] 0 (Part TypePart (void_specifiers first) more_parts) makes in
    let one = first-part renaming nodes is.0 TypePart (void_specifiers first) more_parts is.2 in
    let other = first-part renaming nodes one.others TypePart declarator_tree last_parts one.make in
    let last = first-part renaming nodes other.others Evaluated body_tree NoParts other.make in
    let body = node-of renaming nodes last.child.0 kinds.CompoundStatement (first + 5) [] 0 body_parts last.makes in
    record {
      within = is.1.within;
      is_kind = is.1.is_kind;
      specifiers = one.child;
      declarator = other.child;
      body = last.child;
      parts =
          is.1.are_children ∙ one.are
          ∙ ap (λ others. one.child ∷ others)
          (other.are ∙ ap (λ others. other.child ∷ others) (last.are ∙ ap (λ others. last.child ∷ others) (no-part renaming nodes last.others last.make)));
      are_specifiers = makes-kind renaming nodes one.child.0 (void_specifiers first) one.makes;
      is_named = makes-name renaming nodes other.child.0 declarator_tree other.makes;
      is_body = body.1.is_kind;
      evaluated = sym last.in_role;
      statement_handles = body.0;
      statements_are = body.1.are_children;
      make = body.2;
    }

-- Which of the children

of-two : (one other child : ℕ × ℕ) (place : ℕ) → slice_get (one ∷ other ∷ []) place ≡ Some child → (child ≡ one) ⊎ ((child ≡ other) × (place ≡ 1))
of-two one other child zero is = inl (sym (same_Some one child is))
of-two one other child (suc zero) is = inr (sym (same_Some other child is), refl)
of-two one other child (suc (suc place)) is = absurd (none-some child is)

of-three : (one other last child : ℕ × ℕ) (place : ℕ) → slice_get (one ∷ other ∷ last ∷ []) place ≡ Some child → (child ≡ one) ⊎ ((child ≡ other) ⊎ (child ≡ last))
of-three one other last child zero is = inl (sym (same_Some one child is))
of-three one other last child (suc zero) is = inr (inl (sym (same_Some other child is)))
of-three one other last child (suc (suc zero)) is = inr (inr (sym (same_Some last child is)))
of-three one other last child (suc (suc (suc place))) is = absurd (none-some child is)

-- no node is a declarator and of another kind
kinds-differ : (nodes : UnitNodes) (handle : ℕ) (kind : NodeKind) → kind_at nodes handle ≡ kinds.Declarator → kind_at nodes handle ≡ kind → is_declarator_kind kind ≡ false → ⊥
kinds-differ nodes handle kind is also other = never (sym other ∙ ap is_declarator_kind (sym also ∙ is))

or-true : (b : Bool) → (b || true) ≡ true
or-true false = refl
or-true true = refl

makes-declarator : (renaming : Renaming) (nodes : UnitNodes) (handle : ℕ) (tree : SyntaxTree) → Makes renaming nodes handle tree → kind_at nodes handle ≡ kinds.Declarator → is_declarator tree ≡ true
makes-declarator renaming nodes handle (Node kind token name number parts) makes is =
    ap is_declarator_kind (sym (node-of renaming nodes handle kind token name number parts makes).1.is_kind ∙ is)

part-declares :
    (renaming : Renaming) (nodes : UnitNodes) (children : List (ℕ × ℕ)) (parts : Parts (List ℕ)) (place : ℕ) (child : ℕ × ℕ) → Make renaming nodes children parts
    → slice_get children place ≡ Some child → kind_at nodes child.0 ≡ kinds.Declarator → has_declarator parts ≡ true
part-declares renaming nodes [] parts place child make at is = absurd (none-some child at)
part-declares renaming nodes (one ∷ children) NoParts place child make at is = absurd make
part-declares renaming nodes (one ∷ children) (Part role tree parts) zero child make at is =
    ap (λ b. b || has_declarator parts) (makes-declarator renaming nodes one.0 tree make.1 (ap (λ (c : ℕ × ℕ). kind_at nodes c.0) (same_Some one child at) ∙ is))
part-declares renaming nodes (one ∷ children) (Part role tree parts) (suc place) child make at is =
    ap (λ b. is_declarator tree || b) (part-declares renaming nodes children parts place child make.2 at is) ∙ or-true (is_declarator tree)

-- The declarators of items

-- of an object: the node is the second part of its declaration
pub record OfObject (renaming : Renaming) (nodes : UnitNodes) (items : List Item) (handle : ℕ) : Type 0 where
  pub words : List Word
  pub stars : ℕ
  pub name : List ℕ
  pub among : Contains items (Object words stars name)
  pub parent : ℕ
  pub shape : ObjectShape renaming nodes parent words stars name
  pub is : handle ≡ shape.second.0

-- of a function
pub record OfFunction (renaming : Renaming) (nodes : UnitNodes) (items : List Item) (handle : ℕ) : Type 0 where
  pub name : List ℕ
  pub statements : List Statement
  pub among : Contains items (Function name statements)
  pub parent : ℕ
  pub place : ℕ
  pub tag : ℕ
  pub within : parent < length nodes
  pub at : slice_get (node_at nodes parent).children place ≡ Some (handle, tag)
  pub is_kind : kind_at nodes parent ≡ kinds.FunctionDefinition
  pub is_named : (node_at nodes handle).name ≡ renaming name

pub by-parent :
    (renaming : Renaming) (nodes : UnitNodes) (items : List Item) (told : TellsApart renaming items) (handle parent place tag : ℕ) (tree : SyntaxTree)
    → kind_at nodes handle ≡ kinds.Declarator
    → slice_get (node_at nodes parent).children place ≡ Some (handle, tag) → Makes renaming nodes parent tree → AllFine items tree
    → OfObject renaming nodes items handle ⊎ OfFunction renaming nodes items handle
by-parent renaming nodes items told handle parent place tag (Node kinds.Declaration token name number parts) is at makes fine =
    let (first, words, stars, own, among, same) = fine.0 in
    let shape = object-shape renaming nodes parent first words stars own (keeps-names renaming items words stars own told among) (subst (Makes renaming nodes parent) same makes) in
    elim (of-two shape.first shape.second (handle, tag) place (ap (λ children. slice_get children place) (sym shape.parts) ∙ at)) [
      | inl one ↦
          absurd (kinds-differ nodes handle kinds.Specifiers is (ap (λ (c : ℕ × ℕ). kind_at nodes c.0) one ∙ shape.specifiers.is_kind) refl)
      | inr other ↦
          inl (record { words = words; stars = stars; name = own; among = among; parent = parent; shape = shape; is = ap (λ (c : ℕ × ℕ). c.0) other.0 })
    ]
by-parent renaming nodes items told handle parent place tag (Node kinds.FunctionDefinition token name number parts) is at makes fine =
    let (first, own, statements, among, same) = fine.0 in
    let shape = function-shape renaming nodes parent first own statements (subst (Makes renaming nodes parent) same makes) in
    elim (of-three shape.specifiers shape.declarator shape.body (handle, tag) place (ap (λ children. slice_get children place) (sym shape.parts) ∙ at)) [
      | inl one ↦ absurd (kinds-differ nodes handle kinds.Specifiers is (ap (λ (c : ℕ × ℕ). kind_at nodes c.0) one ∙ shape.are_specifiers) refl)
      | inr (inl other) ↦
          inr (record {
            name = own;
            statements = statements;
            among = among;
            parent = parent;
            place = place;
            tag = tag;
            within = shape.within;
            at = at;
            is_kind = shape.is_kind;
            is_named = ap (λ (c : ℕ × ℕ). (node_at nodes c.0).name) other ∙ shape.is_named;
          })
      | inr (inr last) ↦ absurd (kinds-differ nodes handle kinds.CompoundStatement is (ap (λ (c : ℕ × ℕ). kind_at nodes c.0) last ∙ shape.is_body) refl)
    ]
by-parent renaming nodes items told handle parent place tag (Node kind token name number parts) is at makes fine =
    let own = node-of renaming nodes parent kind token name number parts makes in
    absurd (never (sym fine.0.1
    ∙ part-declares renaming nodes own.0 parts place (handle, tag) own.2 (ap (λ children. slice_get children place) (sym own.1.are_children) ∙ at) is))
