-- What is kept of all nodes answers what the definitions ask of all of them.
use Rattle.std.proofs.Common.{◌≡◌, ℕ, zero, suc, ◌<◌, ◌≤◌, min, nat_lt, nat_eq, Bool, true, false, ◌&&◌, ◌||◌, List, [], ◌∷◌, length, Option, Some, None, IfSome, option_map, inl, inr, refl, sym, ap, ap₂, ◌∙◌, arith, if◌then◌else◌}
use Rattle.std.specs.Option.{option_or}
use Rattle.std.proofs.lemmas.Bool.{cases_lt}
use Rattle.std.proofs.lemmas.Bool.Decides.{nat_tests}
use Rattle.vocabulary.specs.declared.node_kind.NodeKind.{NodeKind}
use Rattle.vocabulary.specs.declared.node_kind.NodeKind.TheVariants as nodes_kinds
use Rattle.meaning_tree.specs.Nodes.{TreeNode}
use Rattle.meaning_typing.specs.Facts.{Fact, fact_at}
use Rattle.meaning_typing.specs.Tags as meaning
use Rattle.meaning_typing.specs.Units.{UnitNodes, node_at}
use Rattle.tag_rows.specs.Kept.{below, body_here, enumeration_here, first_enumeration, first_kind, is_before, is_enumeration, kind_here, least_body, least_of}

or_none : {X : Type 0} (found : Option X) → option_or found None ≡ found
or_none None = refl
or_none (Some x) = refl

or_three : {X : Type 0} (first second third : Option X) → option_or (option_or first second) third ≡ option_or first (option_or second third)
or_three None second third = refl
or_three (Some x) second third = refl

-- The kind at a token

-- the first node, and those behind it
kind_front : (node : TreeNode (List ℕ)) (nodes : UnitNodes) (token count : ℕ)
    → first_kind (node ∷ nodes) token (suc count) ≡ option_or (kind_here node token) (first_kind nodes token count)
kind_front node nodes token zero = sym (or_none (kind_here node token))
kind_front node nodes token (suc count) =
    ap (λ found. option_or found (kind_here (node_at nodes count) token)) (kind_front node nodes token count)
    ∙ or_three (kind_here node token) (first_kind nodes token count) (kind_here (node_at nodes count) token)

kind_or : (kind : NodeKind) (is_there : Bool) (others : Option meaning.TagKind)
    → option_or (if is_there then meaning.tag_kind kind else None) others ≡ (if meaning.is_tagged kind && is_there then meaning.tag_kind kind else others)
kind_or nodes_kinds.StructSpecifier true others = refl
kind_or nodes_kinds.StructSpecifier false others = refl
kind_or nodes_kinds.UnionSpecifier true others = refl
kind_or nodes_kinds.UnionSpecifier false others = refl
kind_or nodes_kinds.EnumSpecifier true others = refl
kind_or nodes_kinds.EnumSpecifier false others = refl
kind_or kind true others = refl
kind_or kind false others = refl

pub kind_told : (nodes : UnitNodes) (token : ℕ) → first_kind nodes token (length nodes) ≡ meaning.kind_at_token token nodes
kind_told [] token = refl
kind_told (node ∷ nodes) token =
    kind_front node nodes token (length nodes)
    ∙ ap (option_or (kind_here node token)) (kind_told nodes token)
    ∙ kind_or node.kind (nat_eq node.token token) (meaning.kind_at_token token nodes)

-- Bodies

before_lower : (token other at : ℕ) → nat_lt (min token other) at ≡ (nat_lt token at || nat_lt other at)
before_lower token other at = grind (arith, nat_tests)

or_false : (test : Bool) → test ≡ (test || false)
or_false true = refl
or_false false = refl

before_least : (first second : Option ℕ) (at : ℕ) → is_before (least_of first second) at ≡ (is_before first at || is_before second at)
before_least None second at = refl
before_least (Some token) None at = or_false (nat_lt token at)
before_least (Some token) (Some other) at = before_lower token other at

earlier_here : (tagged same has_body : Bool) (token at : ℕ)
    → (tagged && (same && (has_body && nat_lt token at))) ≡ is_before (if tagged && has_body then (if same then Some token else None) else None) at
earlier_here true true true token at = refl
earlier_here true true false token at = refl
earlier_here true false true token at = refl
earlier_here true false false token at = refl
earlier_here false same has_body token at = refl

-- an earlier body is one that is before this token
pub earlier_told : (nodes : UnitNodes) (handle count : ℕ)
    → meaning.is_any_below (λ other. meaning.is_earlier_body nodes handle other) count
    ≡ is_before (least_body nodes (node_at nodes handle).number count) (node_at nodes handle).token
earlier_told nodes handle zero = refl
earlier_told nodes handle (suc count) =
    let node = node_at nodes handle in
    let other = node_at nodes count in
    ap₂ (λ before here. before || here) (earlier_told nodes handle count)
    (earlier_here (meaning.is_tagged other.kind) (nat_eq other.number node.number) (meaning.has_body nodes count) other.token node.token)
    ∙ sym (before_least (least_body nodes node.number count) (body_here other (meaning.has_body nodes count) node.number) node.token)

-- Enumerations

enumeration_kind : (kind : NodeKind) → meaning.are_one_kind (meaning.tag_kind kind) (Some meaning.EnumerationTag) ≡ is_enumeration kind
enumeration_kind nodes_kinds.StructSpecifier = refl
enumeration_kind nodes_kinds.UnionSpecifier = refl
enumeration_kind nodes_kinds.EnumSpecifier = refl
enumeration_kind kind = refl

module _ (nodes : UnitNodes) (facts : List Fact) (number : ℕ) where
  told_or : (first second : Option ℕ)
      → meaning.option_or (option_map (fact_at facts) first) (option_map (fact_at facts) second) ≡ option_map (fact_at facts) (option_or first second)
  told_or None second = refl
  told_or (Some handle) second = refl

  told_here : (is same has_body : Bool) (handle : ℕ)
      → (if is && (same && has_body) then Some (fact_at facts handle) else None)
      ≡ option_map (fact_at facts) (if is && has_body then (if same then Some handle else None) else None)
  told_here true true true handle = refl
  told_here true true false handle = refl
  told_here true false true handle = refl
  told_here true false false handle = refl
  told_here false same has_body handle = refl

  pub enumeration_found : (count : ℕ) → meaning.enumeration_told nodes facts number count ≡ option_map (fact_at facts) (first_enumeration nodes number count)
  enumeration_found zero = refl
  enumeration_found (suc count) =
      let node = node_at nodes count in
      let same = nat_eq node.number number in
      let has_body = meaning.has_body nodes count in
      ap₂ meaning.option_or (enumeration_found count)
      (ap (λ is. if is && (same && has_body) then Some (fact_at facts count) else None) (enumeration_kind node.kind)
      ∙ told_here (is_enumeration node.kind) same has_body count)
      ∙ told_or (first_enumeration nodes number count) (enumeration_here count node has_body number)

-- Of more nodes than are told the first of the others is the first of those

below_high : (count high : ℕ) → count ≤ high → nat_lt high count ≡ false
below_high count high more = grind (arith, nat_tests)

below_low : (count low : ℕ) → low < count → nat_lt low count ≡ true
below_low count low less = grind (arith, nat_tests)

below_next : (found first : Option ℕ) (count high : ℕ) (has same : Bool) → count ≤ high → below count found ≡ first
    → below count (option_or found (if has then (if same then Some high else None) else None)) ≡ first
below_next (Some handle) first count high has same more is = is
below_next None first count high true true more is = ap (λ test. if test then Some high else None) (below_high count high more) ∙ is
below_next None first count high true false more is = is
below_next None first count high false same more is = is

low_next : (found : Option ℕ) (count : ℕ) (has same : Bool) → IfSome found (λ handle. handle < count)
    → IfSome (option_or found (if has then (if same then Some count else None) else None)) (λ handle. handle < suc count)
low_next (Some handle) count has same low = omega (arith, low)
low_next None count true true low = omega arith
low_next None count true false low = tt
low_next None count false same low = tt

module _ (nodes : UnitNodes) (number : ℕ) where
  first_low : (count : ℕ) → IfSome (first_enumeration nodes number count) (λ handle. handle < count)
  first_low zero = tt
  first_low (suc count) =
      low_next (first_enumeration nodes number count) count (is_enumeration (node_at nodes count).kind && meaning.has_body nodes count)
      (nat_eq (node_at nodes count).number number) (first_low count)

  below_itself : (found : Option ℕ) (count : ℕ) → IfSome found (λ handle. handle < count) → below count found ≡ found
  below_itself None count low = refl
  below_itself (Some handle) count low = ap (λ test. if test then Some handle else None) (below_low count handle low)

  pub below_all : (count all : ℕ) → count ≤ all → below count (first_enumeration nodes number all) ≡ first_enumeration nodes number count
  below_all count zero less = at_end (omega (arith, less))
    where
      at_end : count ≡ 0 → below count (first_enumeration nodes number 0) ≡ first_enumeration nodes number count
      at_end is = ap (first_enumeration nodes number) (sym is)
  below_all count (suc all) less = elim (cases_lt count (suc all)) [
    | inl near ↦
        below_next (first_enumeration nodes number all) (first_enumeration nodes number count) count all
        (is_enumeration (node_at nodes all).kind && meaning.has_body nodes all) (nat_eq (node_at nodes all).number number) (omega (arith, near))
        (below_all count all (omega (arith, near)))
    | inr far ↦ at_end (omega (arith, far, less))
  ]
    where
      at_end : suc all ≡ count → below count (first_enumeration nodes number (suc all)) ≡ first_enumeration nodes number count
      at_end is = ap (λ end. below count (first_enumeration nodes number end)) is ∙ below_itself (first_enumeration nodes number count) count (first_low count)

-- an enumeration that is named without a body
pub named_told : (nodes : UnitNodes) (facts : List Fact) (number : ℕ) (found : Option ℕ) → length facts ≤ length nodes
    → found ≡ below (length facts) (first_enumeration nodes number (length nodes))
    → meaning.fact_or_int (option_map (fact_at facts) found) ≡ meaning.enumeration_named nodes facts number
named_told nodes facts number found before is =
    ap (λ found. meaning.fact_or_int (option_map (fact_at facts) found)) (is ∙ below_all nodes number (length facts) (length nodes) before)
    ∙ ap meaning.fact_or_int (sym (enumeration_found nodes facts number (length facts)))
