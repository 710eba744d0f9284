-- What holds of the kinds of all nodes.
use Rattle.std.proofs.Common.{◌≡◌, ◌≢◌, ℕ, ◌<◌, ◌^◌, inl, inr, true, false, List, length, refl, sym, ap, subst, ◌∙◌}
use Rattle.std.proofs.lemmas.Bool.{cases_lt}
use Rattle.std.proofs.lemmas.List.{get_or_past}
use Rattle.vocabulary.specs.declared.node_kind.NodeKind.{NodeKind}
use Rattle.vocabulary.specs.declared.node_kind.NodeKind.TheVariants as kinds
use Rattle.meaning_tree.specs.Nodes.{TreeNode}
use Rattle.meaning_typing.specs.Units.{UnitNodes, no_node, node_at, kind_at}
use Rattle.meaning_contexts.specs.Laws.{IsWithoutContexts}
use Rattle.linear_code.specs.Cells.{KnowsTokens}
use Rattle.context_judge.specs.Kinds.{is_context, is_do}

-- what holds of each node, and of one that isn't there
each-node : (nodes : UnitNodes) (P : TreeNode (List ℕ) → Type 0) → P no_node → ((handle : ℕ) → handle < length nodes → P (node_at nodes handle))
    → (handle : ℕ) → P (node_at nodes handle)
each-node nodes P none each handle =
    elim (cases_lt handle (length nodes)) [
      | inl within ↦ each handle within
      | inr past ↦ subst P (sym (get_or_past nodes handle no_node past)) none
    ]

-- Contexts

some-context : (kind : NodeKind) → is_context kind ≡ true → (kind ≢ kinds.ContextAttribute) × (kind ≢ kinds.ContextStatement) → ⊥
some-context kinds.ContextAttribute is none = none.0 refl
some-context kinds.ContextStatement is none = none.1 refl
some-context kind is none = absurd (cc is)

no-context : (kind : NodeKind) → is_context kind ≡ false → (kind ≢ kinds.ContextAttribute) × (kind ≢ kinds.ContextStatement)
no-context kind none = (λ is. absurd (cc (sym (ap is_context is) ∙ none)), λ is. absurd (cc (sym (ap is_context is) ∙ none)))

pub without-contexts : (nodes : UnitNodes) → ((handle : ℕ) → handle < length nodes → is_context (kind_at nodes handle) ≡ false) → IsWithoutContexts nodes
without-contexts nodes none handle =
    no-context (kind_at nodes handle) (each-node nodes (λ node. is_context node.kind ≡ false) refl none handle)

pub with-context : (nodes : UnitNodes) (handle : ℕ) → is_context (kind_at nodes handle) ≡ true → IsWithoutContexts nodes → ⊥
with-context nodes handle is without = some-context (kind_at nodes handle) is (without handle)

-- Tokens

do-told : (kind : NodeKind) → kind ≡ kinds.DoStatement → is_do kind ≡ true
do-told kind is = ap is_do is

do-is : (kind : NodeKind) → is_do kind ≡ true → kind ≡ kinds.DoStatement
do-is kinds.DoStatement is = refl
do-is kind is = absurd (cc is)

abbrev HasToken : TreeNode (List ℕ) → Type 0
HasToken node = is_do node.kind ≡ true → node.number < 2 ^ 32

pub all-tokens : (nodes : UnitNodes) → ((handle : ℕ) → handle < length nodes → HasToken (node_at nodes handle)) → KnowsTokens nodes
all-tokens nodes each handle is = each-node nodes HasToken (λ is. absurd (cc is)) each handle (do-told (kind_at nodes handle) is)

pub token-of : (nodes : UnitNodes) (handle : ℕ) → is_do (kind_at nodes handle) ≡ true → KnowsTokens nodes → (node_at nodes handle).number < 2 ^ 32
token-of nodes handle is knows = knows handle (do-is (kind_at nodes handle) is)
