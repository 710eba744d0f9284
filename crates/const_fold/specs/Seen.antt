-- How the values of this crate are seen by the definitions.
use Rattle.std.specs.Prelude.{List, [], ◌∷◌, Option, Some, None, option_map}
use Rattle.meaning_types.specs.Types.{TypeTree, Typed, VoidTree, IntegerTree, RestrictedTree, no_qualifiers, no_flags}
use Rattle.meaning_constants.specs.Constants as meaning
use Rattle.meaning_constants.specs.Nodes as node_meaning
use Rattle.const_fold.specs.declared.constant.Constant.{Constant}
use Rattle.const_fold.specs.declared.facts.NodeFacts.{NodeFacts}
use Rattle.const_fold.specs.declared.facts.Parts.{Parts}
use Rattle.const_fold.specs.declared.facts.Parts.TheVariants as counts
use Rattle.const_fold.specs.declared.part.Part.{Part}
use Rattle.const_fold.specs.declared.part.PartType.{PartType}
use Rattle.const_fold.specs.declared.part.PartType.TheVariants as types
use Rattle.const_fold.specs.declared.way.Way.{Way}
use Rattle.const_fold.specs.declared.way.Way.TheVariants as ways

-- a type that is so: qualifiers, flags and identities are nothing to a constant
abbrev pub seen_type : PartType → TypeTree
seen_type (types.Plain kind) = Typed (IntegerTree kind) no_qualifiers no_flags
seen_type (types.Restricted kind) = Typed (RestrictedTree kind 0) no_qualifiers no_flags
seen_type types.Other = Typed VoidTree no_qualifiers no_flags

abbrev pub seen_part : Part → meaning.Part
seen_part part = record { of = seen_type part.of; fouled = part.fouled; number = part.number }

abbrev pub seen_constant : Constant → meaning.Constant
seen_constant constant = record { kind = constant.kind; number = constant.number }

abbrev pub way_seen : Way → node_meaning.Fold
way_seen ways.Nothing = node_meaning.NoFold
way_seen (ways.Literal kind) = node_meaning.LiteralFold kind
way_seen ways.Named = node_meaning.NameFold
way_seen ways.Own = node_meaning.OwnFold
way_seen (ways.Unary operator) = node_meaning.UnaryFold operator
way_seen (ways.Binary operator) = node_meaning.BinaryFold operator
way_seen ways.And = node_meaning.AndFold
way_seen ways.Or = node_meaning.OrFold
way_seen ways.Conditional = node_meaning.ConditionalFold
way_seen ways.Cast = node_meaning.CastFold
way_seen ways.Size = node_meaning.SizeFold
way_seen ways.Align = node_meaning.AlignFold
way_seen ways.Offset = node_meaning.OffsetFold

-- the parts of a node, in order
abbrev pub parts_seen : Parts → List (Option meaning.Part)
parts_seen (counts.One part) = option_map seen_part part ∷ []
parts_seen (counts.Two first second) = option_map seen_part first ∷ option_map seen_part second ∷ []
parts_seen (counts.Three first second third) = option_map seen_part first ∷ option_map seen_part second ∷ option_map seen_part third ∷ []
parts_seen counts.Other = []

abbrev pub facts_seen : NodeFacts → node_meaning.NodeFacts
facts_seen facts =
    record {
      kind = facts.kind;
      number = facts.number;
      parts = parts_seen facts.parts;
      enumerator = option_map seen_part facts.enumerator;
      offset = facts.bytes;
    }

-- the only part, if it is known
abbrev pub one_in : List (Option meaning.Part) → Option meaning.Part
one_in (part ∷ []) = part
one_in parts = None

-- two parts, if both are known
abbrev pub both_known : Option meaning.Part → Option meaning.Part → Option (meaning.Part × meaning.Part)
both_known (Some left) (Some right) = Some (left, right)
both_known first second = None

abbrev pub two_in : List (Option meaning.Part) → Option (meaning.Part × meaning.Part)
two_in (first ∷ second ∷ []) = both_known first second
two_in parts = None

abbrev pub pair_seen : Part × Part → meaning.Part × meaning.Part
pair_seen pair = (seen_part pair.0, seen_part pair.1)
