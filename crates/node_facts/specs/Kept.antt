-- How what is known of nodes is kept: of each its type and value in one list, and its mark in another.
use Rattle.std.specs.Prelude.{◌≡◌, List, [], ◌∷◌, length, map, Option, Some, None}
use Rattle.c_types.specs.declared.nodes.NodeType.{NodeType}
use Rattle.node_facts.specs.declared.expression.ExpressionMarks.{ExpressionMarks}
use Rattle.node_facts.specs.declared.fact.NodeFact.{NodeFact}
use Rattle.node_facts.specs.declared.fact.NodeFact.TheVariants as facts
use Rattle.node_facts.specs.declared.marks.NodeMark.{NodeMark}
use Rattle.node_facts.specs.declared.marks.NodeMark.TheVariants as marks
use Rattle.node_facts.specs.Facts.{plain_node}

abbrev pub node_kept : NodeFact → Option NodeType
node_kept facts.Unknown = None
node_kept (facts.Expression expression) = Some expression.node
node_kept (facts.Specified specifiers) = None
node_kept (facts.Declared declaration) = None
node_kept (facts.NamedType of) = Some (plain_node of)

abbrev pub mark_kept : NodeFact → NodeMark
mark_kept facts.Unknown = marks.Unknown
mark_kept (facts.Expression expression) = marks.Expression expression.marks
mark_kept (facts.Specified specifiers) = marks.Specified specifiers
mark_kept (facts.Declared declaration) = marks.Declared declaration
mark_kept (facts.NamedType of) = marks.NamedType

-- what is read of them
abbrev pub expression_kept : ExpressionMarks → Option NodeType → NodeFact
expression_kept marks None = facts.Unknown
expression_kept marks (Some node) = facts.Expression (record { node = node; marks = marks })

abbrev pub named_type_kept : Option NodeType → NodeFact
named_type_kept None = facts.Unknown
named_type_kept (Some node) = facts.NamedType node.of

abbrev pub fact_kept : Option NodeType → NodeMark → NodeFact
fact_kept entry marks.Unknown = facts.Unknown
fact_kept entry (marks.Expression marks) = expression_kept marks entry
fact_kept entry (marks.Specified specifiers) = facts.Specified specifiers
fact_kept entry (marks.Declared declaration) = facts.Declared declaration
fact_kept entry marks.NamedType = named_type_kept entry

abbrev pub facts_kept : List (Option NodeType) → List NodeMark → List NodeFact
facts_kept (entry ∷ entries) (mark ∷ marks) = fact_kept entry mark ∷ facts_kept entries marks
facts_kept entries marks = []

-- as many of each, and those that have no type by their mark have none
pub record AreKept (entries : List (Option NodeType)) (marks : List NodeMark) : Type 0 where
  pub all : length entries ≡ length marks
  pub each : map node_kept (facts_kept entries marks) ≡ entries
