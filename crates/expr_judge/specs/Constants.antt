-- How the constant of a node is kept.
use Rattle.std.specs.Prelude.{ℕ, List, Option, Some, None, option_map}
use Rattle.meaning_constants.specs.Bits.{bits_of_number}
use Rattle.meaning_constants.specs.Constants.{Constant}
use Rattle.meaning_constants.specs.Nodes.{node_constant}
use Rattle.meaning_typing.specs.Facts.{Fact}
use Rattle.meaning_typing.specs.Typing.{facts_for_constant, known_sizes}
use Rattle.meaning_typing.specs.Units.{UnitNodes}
use Rattle.node_facts.specs.Folded.{Folded}
use Rattle.node_facts.specs.Folded.TheVariants as answers
use Rattle.node_facts.specs.declared.fact.NodeFact.{NodeFact}
use Rattle.node_facts.specs.declared.fact.NodeFact.TheVariants as facts

-- the constant of a node, with its kind
abbrev pub whole_constant : UnitNodes → List Fact → (handle : ℕ) → Option Constant
whole_constant nodes facts handle = node_constant known_sizes (facts_for_constant nodes facts handle)

-- its bits
abbrev pub bits_of : Option Constant → Option ℕ
bits_of constant = option_map (λ known. bits_of_number known.number) constant

abbrev pub bits_folded : Folded → Option ℕ
bits_folded answers.NotConstant = None
bits_folded (answers.Value constant) = Some constant.bits

-- an expression that has a constant of these bits
abbrev pub with_bits : Option ℕ → NodeFact → NodeFact
with_bits bits (facts.Expression expression) =
    facts.Expression (record expression { node = record expression.node { value = record expression.node.value { constant = bits } } })
with_bits bits fact = fact
