-- What `bitwise` breaks, attribute by attribute, where the type is none of integers.
use Rattle.std.specs.Prelude.{ℕ, List, [], ◌∷◌, Option, if◌then◌else◌}
use Rattle.vocabulary.specs.declared.error_kind.ErrorKind.TheVariants.{BitwiseOnNoInteger}
use Rattle.vocabulary.specs.declared.node_kind.NodeKind.{NodeKind}
use Rattle.meaning_operands.specs.Failures.{Broken}
use Rattle.meaning_rules.specs.Rules.{least_broken, lesser}
use Rattle.meaning_typing.specs.Rows.{breaks_at}
use Rattle.meaning_typing.specs.Tags.{is_bitwise_word}
use Rattle.meaning_typing.specs.Units.{UnitNodes, kind_at, node_at}

-- at one attribute
abbrev pub word_broken : NodeKind → (token : ℕ) → List Broken
word_broken kind token = if is_bitwise_word kind then breaks_at BitwiseOnNoInteger token else []

-- of one that is broken, if one is, and those at attributes the least
abbrev pub bitwise_over : UnitNodes → Option Broken → (attributes : List ℕ) → Option Broken
bitwise_over nodes least [] = least
bitwise_over nodes least (handle ∷ handles) =
    bitwise_over nodes (lesser least (least_broken (word_broken (kind_at nodes handle) (node_at nodes handle).token))) handles
