-- How answers are seen.
use Rattle.space_rules.specs.declared.convert.ConvertAnswer.{ConvertAnswer}
use Rattle.space_rules.specs.declared.convert.ConvertAnswer.TheVariants as answers
use Rattle.meaning_operands.specs.Conversions as meaning

abbrev pub convert_seen : ConvertAnswer → meaning.ConversionAnswer
convert_seen answers.Fine = meaning.Fine
convert_seen (answers.Fails rule) = meaning.Fails rule
convert_seen answers.Constraint = meaning.Constraint
