-- What a load from a place, or a store to it, says.
use Rattle.std.specs.Prelude.{Option, Some, None, if◌then◌else◌}
use Rattle.vocabulary.specs.declared.rule.RuleCode.{RuleCode}
use Rattle.vocabulary.specs.declared.rule.RuleCode.TheVariants.{A4}
use Rattle.meaning_types.specs.Types.{TypeTree, flags_of, has_flag}

-- a place whose type has a flag isn't read or written
abbrev pub access_answer : TypeTree → Option RuleCode
access_answer place = if has_flag (flags_of place) then Some A4 else None
