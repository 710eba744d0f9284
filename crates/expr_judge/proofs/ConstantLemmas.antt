-- The constant of a node, as it is folded over what is kept.
use Rattle.std.proofs.Common.{◌≡◌, ◌≢◌, inl, inr, ℕ, zero, suc, ◌-◌, ◌<◌, ℤ, pos, Bool, false, List, [], ◌∷◌, All, Option, Some, None, length, map, get_or, option_map, refl, sym, ap, ◌∙◌, subst, arith}
use Rattle.std.proofs.lemmas.List.Elements.{All-cons, All-head, All-nil, All-tail}
use Rattle.std.proofs.lemmas.Option.{slice_get_cases}
use Rattle.vocabulary.specs.declared.int_kind.IntKind.{IntKind}
use Rattle.vocabulary.specs.declared.node_kind.NodeKind.{NodeKind}
use Rattle.vocabulary.specs.declared.node_kind.NodeKind.TheVariants as kinds
use Rattle.sparse_model.specs.declared.ids.NameId.{NameId}
use Rattle.meaning_tree.specs.Nodes.{TreeNode, NodeList, HasNode, end_of}
use Rattle.meaning_types.specs.Conversions.{promoted}
use Rattle.meaning_types.specs.Types.{TypeTree, Typed, IntegerTree, RestrictedTree}
use Rattle.meaning_constants.specs.Bits.{bits_of_number, number_of_bits}
use Rattle.meaning_constants.specs.Constants.{Constant, Part, kind_of, own_constant}
use Rattle.meaning_constants.specs.Nodes.{OwnFold, fold_of, folded, loaded_type, node_constant, of_one}
use Rattle.meaning_constants.specs.Sizes.{sizes_by}
use Rattle.meaning_constants.proofs.Bits.{bits_tell_numbers}
use Rattle.meaning_constants.proofs.Numbers.{wrapped_is_in_range}
use Rattle.meaning_typing.specs.Declarators.{nothing_told}
use Rattle.meaning_typing.specs.Facts as meaning
use Rattle.meaning_typing.specs.Facts.{fact_at}
use Rattle.meaning_typing.specs.Rows as rows
use Rattle.meaning_typing.specs.Typing.{constant_at, facts_for_constant, known_sizes, part_seen, row_with_constant, with_constant}
use Rattle.meaning_typing.specs.Units.{UnitNodes, child_at, children_at, kind_at}
use Rattle.c_types.specs.declared.nodes.NodeType.{NodeType}
use Rattle.c_types.specs.Layouts.{told_in}
use Rattle.c_types.specs.Table.{TypeTable, type_at}
use Rattle.node_facts.specs.Known.{IsKnownNode, enumerator_at, folded_answer, if_name, node_facts, number_with, part_at, part_of}
use Rattle.node_facts.specs.Offsets.{offset_of_node}
use Rattle.node_facts.specs.Sized.{sized_constant, sized_constant_at}
use Rattle.node_facts.specs.declared.fact.NodeFact.{NodeFact}
use Rattle.node_facts.specs.declared.fact.NodeFact.TheVariants as facts
use Rattle.node_facts.specs.Facts.{IsKnownNodeFact, fact_seen, node_seen, nodes_seen, number_in}
use Rattle.node_facts.specs.Kept.{node_kept}
use Rattle.expr_judge.specs.Constants.{bits_folded, bits_of, whole_constant, with_bits}
use Rattle.expr_judge.specs.Parts.{kept_at}
use Rattle.expr_judge.specs.Rows.{SaysOnly, known_row}
use Rattle.decl_judge.specs.Units.{nodes_of}
use Rattle.expr_judge.proofs.NodeLemmas.{node-is}
use Rattle.expr_judge.proofs.OffsetLemmas.{offset_kept, offset_said}
use Rattle.expr_judge.proofs.PartLemmas.{kept-is, known_at}

-- what is kept of known nodes is known
known-kept : (table : TypeTable) (fact : NodeFact) → IsKnownNodeFact table fact → IsKnownNode table (node_kept fact)
known-kept table facts.Unknown known = tt
known-kept table (facts.Expression expression) known = known
known-kept table (facts.Specified specifiers) known = tt
known-kept table (facts.Declared declaration) known = tt
known-kept table (facts.NamedType of) known = known

pub all_kept : (table : TypeTable) (facts : List NodeFact) → All (IsKnownNodeFact table) facts → All (IsKnownNode table) (map node_kept facts)
all_kept table [] known = All-nil (IsKnownNode table)
all_kept table (fact ∷ others) known =
    All-cons (IsKnownNode table) (node_kept fact) (map node_kept others) (known-kept table fact (All-head (IsKnownNodeFact table) fact others known))
    (all_kept table others (All-tail (IsKnownNodeFact table) fact others known))

-- Parts

number_none : (kind : Option IntKind) → number_with kind None ≡ None
number_none None = refl
number_none (Some kind) = refl

number_same : (type_ : TypeTree) (bits : Option ℕ) → number_with (kind_of type_) bits ≡ number_in type_ bits
number_same type_ None = number_none (kind_of type_)
number_same type_ (Some bits) = refl

one-known : TypeTree → (fouled : Bool) → Option ℤ → Option Part
one-known of fouled number = Some (record { of = of; fouled = fouled; number = number })

module _ (table : TypeTable) where
  one-part : (fact : NodeFact) → option_map (part_of table) (node_kept fact) ≡ part_seen (node_seen table fact)
  unfolding one-known
  one-part facts.Unknown = refl
  one-part (facts.Expression expression) =
      let of = loaded_type expression.node.value.width (type_at table expression.node.of) in
      ap (one-known of expression.node.value.fouled) (number_same of expression.node.value.constant)
  one-part (facts.Specified specifiers) = refl
  one-part (facts.Declared declaration) = refl
  one-part (facts.NamedType of) = ap (one-known (type_at table of) false) (number_none (kind_of (type_at table of)))

  pub part-is : (facts : List NodeFact) (handle : ℕ) → part_at table (map node_kept facts) handle ≡ part_seen (fact_at (nodes_seen table facts) handle)
  part-is [] handle = refl
  part-is (fact ∷ others) zero = one-part fact
  part-is (fact ∷ others) (suc handle) = part-is others handle

  pub parts-are : (facts : List NodeFact) (children : List (ℕ × ℕ))
      → map (λ child. part_at table (map node_kept facts) child.0) children
      ≡ map (λ child. part_seen (fact_at (nodes_seen table facts) child)) (map (λ child. child.0) children)
  parts-are facts [] = refl
  parts-are facts (child ∷ children) = λ i. part-is facts child.0 i ∷ parts-are facts children i

-- only a name names an enumerator
pub no_enumerator : (kind : NodeKind) (part : Option Part) → kind ≢ kinds.Name → if_name kind part ≡ None
no_enumerator kinds.Name part other = absurd (other refl)
no_enumerator kind part other = refl

module _ (unit : NodeList NameId) (whole : unit.first ≡ 0) (table : TypeTable) (facts : List NodeFact) (layouts : told_in table ≡ nothing_told) where
  facts-are : (node : TreeNode NameId) → node.kind ≢ kinds.Name
      → node_facts unit table (map node_kept facts) None node
      ≡ record { kind = node.kind; number = node.number; parts = map (λ child. part_seen (fact_at (nodes_seen table facts) child)) (map (λ child. child.0) node.children); enumerator = None; offset = None }
  facts-are node other =
      λ i. record {
        kind = node.kind;
        number = node.number;
        parts = parts-are table facts node.children i;
        enumerator = no_enumerator node.kind (enumerator_at unit table (map node_kept facts) node.number) other i;
        offset = None;
      }

  pub constant_told : (handle : ℕ) (node : TreeNode NameId) → HasNode unit handle node → kind_at (nodes_of unit) handle ≢ kinds.Name
      → sized_constant_at unit table (map node_kept facts) handle ≡ whole_constant (nodes_of unit) (nodes_seen table facts) handle
  constant_told handle node has other =
      let is = node-is unit whole handle node has in
      let kept = map node_kept facts in
      let meant = facts_for_constant (nodes_of unit) (nodes_seen table facts) handle in
      ap (sized_constant unit table kept) has.1
      ∙ ap (λ told. node_constant (sizes_by told) (node_facts unit table kept (offset_of_node unit table kept node) node)) layouts
      ∙ ap (λ offset. node_constant known_sizes (node_facts unit table kept offset node)) (offset_kept unit table kept layouts node)
      ∙ ap (node_constant known_sizes) (facts-are node (λ same. other (ap (λ n. n.kind) is ∙ same)))
      ∙ ap (λ n. node_constant known_sizes (record { kind = n.kind; number = n.number; parts = map (λ child. part_seen (fact_at (nodes_seen table facts) child)) (map (λ child. child.0) n.children); enumerator = None; offset = None })) (sym is)
      ∙ sym (ap (λ offset. node_constant known_sizes (record meant { offset = offset })) (offset_said (nodes_of unit) (nodes_seen table facts) handle))

pub answered : (constant : Option Constant) → bits_folded (folded_answer constant) ≡ bits_of constant
answered None = refl
answered (Some constant) = refl

pub bits_told :
    (unit : NodeList NameId) (table : TypeTable) (facts : List NodeFact) (kept : List (Option NodeType)) (handle : ℕ) → unit.first ≡ 0
    → handle < end_of unit → kind_at (nodes_of unit) handle ≢ kinds.Name → told_in table ≡ nothing_told → kept ≡ map node_kept facts
    → bits_folded (folded_answer (sized_constant_at unit table kept handle)) ≡ bits_of (whole_constant (nodes_of unit) (nodes_seen table facts) handle)
bits_told unit table facts kept handle whole within other layouts same =
    answered (sized_constant_at unit table kept handle)
    ∙ ap (λ l. bits_of (sized_constant_at unit table l handle)) same
    ∙ ap bits_of (elim ((slice_get_cases unit.nodes (handle - unit.first)).1) [
      | inl found ↦ constant_told unit whole table facts layouts handle found.0 (omega (arith, whole), found.2) other
      | inr past ↦ absurd (omega (arith, within, past.0))
    ])

-- Constants that are kept with a fact

abbrev number_of : Option Constant → Option ℤ
number_of constant = option_map (λ known. known.number) constant

-- the constant that a part alone has itself, and the one of parts with these handles
abbrev own_of : meaning.Fact → Option Constant
own_of fact = of_one own_constant (part_seen fact ∷ [])

abbrev own_among : List meaning.Fact → (handles : List ℕ) → Option Constant
own_among facts handles = of_one own_constant (map (λ child. part_seen (fact_at facts child)) handles)

-- a number of a promoted kind is told by its bits
bits-kept : (kind : IntKind) (bits : ℕ) → number_of_bits kind (bits_of_number (number_of_bits kind bits)) ≡ number_of_bits kind bits
bits-kept kind bits = bits_tell_numbers kind (number_of_bits kind bits) (wrapped_is_in_range (promoted kind) (pos bits))

-- so the bits of the constant that a part has itself tell its number
own-kept : (of : TypeTree) (fouled : Bool) (bits : Option ℕ)
    → number_in of (bits_of (own_constant (record { of = of; fouled = fouled; number = number_in of bits })))
    ≡ number_of (own_constant (record { of = of; fouled = fouled; number = number_in of bits }))
own-kept (Typed (IntegerTree kind) _ _) fouled (Some bits) = ap Some (bits-kept kind bits)
own-kept (Typed (RestrictedTree kind identity) _ _) fouled (Some bits) = ap Some (bits-kept kind bits)
own-kept (Typed (IntegerTree kind) _ _) fouled None = refl
own-kept (Typed (RestrictedTree kind identity) _ _) fouled None = refl
own-kept of fouled bits = refl

module _ (table : TypeTable) where
  -- nothing is kept where there is no constant
  none-kept : (fact : NodeFact) → node_seen table (with_bits None fact) ≡ with_constant None (node_seen table fact)
  none-kept facts.Unknown = refl
  none-kept (facts.Expression expression) = refl
  none-kept (facts.Specified specifiers) = refl
  none-kept (facts.Declared declaration) = refl
  none-kept (facts.NamedType of) = refl

  one-kept : (fact : NodeFact) → node_seen table (with_bits (bits_of (own_of (node_seen table fact))) fact)
      ≡ with_constant (number_of (own_of (node_seen table fact))) (node_seen table fact)
  one-kept facts.Unknown = refl
  one-kept (facts.Expression expression) =
      ap (λ constant. meaning.Expression (record (fact_seen table expression) { constant = constant }))
      (own-kept (loaded_type expression.node.value.width (type_at table expression.node.of)) expression.node.value.fouled expression.node.value.constant)
  one-kept (facts.Specified specifiers) = refl
  one-kept (facts.Declared declaration) = refl
  one-kept (facts.NamedType of) = refl

  -- the first of some parts, with the constant that comes of them all
  first-kept : (kept : List NodeFact) (handles : List ℕ) (past : ℕ)
      → node_seen table (with_bits (bits_of (own_among (nodes_seen table kept) handles)) (kept_at kept (get_or handles 0 past)))
      ≡ with_constant (number_of (own_among (nodes_seen table kept) handles)) (fact_at (nodes_seen table kept) (get_or handles 0 past))
  first-kept kept [] past = none-kept (kept_at kept past) ∙ ap (with_constant None) (kept-is table kept past)
  first-kept kept (handle ∷ []) past =
      subst (λ (seen : meaning.Fact). node_seen table (with_bits (bits_of (own_of seen)) (kept_at kept handle)) ≡ with_constant (number_of (own_of seen)) seen)
      (kept-is table kept handle) (one-kept (kept_at kept handle))
  first-kept kept (handle ∷ other ∷ handles) past = none-kept (kept_at kept handle) ∙ ap (with_constant None) (kept-is table kept handle)

  bits-known : (bits : Option ℕ) (fact : NodeFact) → IsKnownNodeFact table fact → IsKnownNodeFact table (with_bits bits fact)
  bits-known bits facts.Unknown known = known
  bits-known bits (facts.Expression expression) known = known
  bits-known bits (facts.Specified specifiers) known = known
  bits-known bits (facts.Declared declaration) known = known
  bits-known bits (facts.NamedType of) known = known

  -- a fact that is known, with a constant
  says-with : (constant : Option Constant) (fact : NodeFact) (meant : meaning.Fact) → IsKnownNodeFact table fact
      → node_seen table (with_bits (bits_of constant) fact) ≡ with_constant (number_of constant) meant
      → SaysOnly table (known_row (with_bits (bits_of constant) fact)) (row_with_constant (number_of constant) (rows.known meant))
  says-with constant fact meant known is =
      record { row = λ i. record { fact = is i; broken = None; passed = None }; ids = bits-known (bits_of constant) fact known; silent = refl }

  module _ (nodes : UnitNodes) (handle : ℕ) where
    -- what stands in parentheses
    pub own_says : (kept : List NodeFact) → fold_of (kind_at nodes handle) ≡ OwnFold → All (IsKnownNodeFact table) kept
        → SaysOnly table (known_row (with_bits (bits_of (whole_constant nodes (nodes_seen table kept) handle)) (kept_at kept (child_at nodes handle 0))))
        (row_with_constant (constant_at nodes (nodes_seen table kept) handle) (rows.known (fact_at (nodes_seen table kept) (child_at nodes handle 0))))
    own_says kept own known =
        let facts = nodes_seen table kept in
        let child = child_at nodes handle 0 in
        let is : whole_constant nodes facts handle ≡ own_among facts (children_at nodes handle) =
        ap (λ fold. folded known_sizes fold (facts_for_constant nodes facts handle)) own in
        says-with (whole_constant nodes facts handle) (kept_at kept child) (fact_at facts child) (known_at table kept child known)
        (ap (λ constant. node_seen table (with_bits (bits_of constant) (kept_at kept child))) is
        ∙ first-kept kept (children_at nodes handle) (length nodes)
        ∙ ap (λ constant. with_constant (number_of constant) (fact_at facts child)) (sym is))
