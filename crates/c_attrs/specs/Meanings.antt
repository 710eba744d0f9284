-- How what an item may be and mean is seen.
use Rattle.std.specs.Prelude.{ℕ, List}
use Rattle.meaning_attributes.specs.Words as words
use Rattle.meaning_attributes.specs.Items as items
use Rattle.meaning_attributes.specs.Meanings as meanings
use Rattle.c_attrs.specs.declared.arguments.Arguments.{Arguments}
use Rattle.c_attrs.specs.declared.arguments.Arguments.TheVariants.{None, Between, Other}
use Rattle.c_attrs.specs.declared.meaning.Bad.{Bad}
use Rattle.c_attrs.specs.declared.meaning.Bad.TheVariants as bad
use Rattle.c_attrs.specs.declared.meaning.Meaning.{Meaning}
use Rattle.c_attrs.specs.declared.meaning.Meaning.TheVariants as meaning
use Rattle.c_attrs.specs.declared.word.Word.{Word}
use Rattle.c_attrs.specs.declared.word.Word.TheVariants as word
use Rattle.c_attrs.specs.Seen.{attribute_seen, flag_seen, significant}

abbrev pub word_seen : Word → words.Word
word_seen word.AddressSpace = words.AddressSpaceWord
word_seen word.Context = words.ContextWord
word_seen word.Aligned = words.AlignedWord
word_seen (word.Flag flag) = words.FlagWord (flag_seen flag)
word_seen word.Other = words.OtherWord

abbrev pub arguments_seen : List (List ℕ) → Arguments → items.ItemArguments
arguments_seen names None = items.NoArguments
arguments_seen names (Between tokens) = items.Between (significant names tokens.now)
arguments_seen names Other = items.OtherTokens

abbrev pub bad_seen : Bad → meanings.Bad
bad_seen bad.Space = meanings.BadSpace
bad_seen bad.Context = meanings.BadContext
bad_seen bad.Align = meanings.BadAlign

abbrev pub meaning_seen : List (List ℕ) → Meaning → meanings.Meaning
meaning_seen names (meaning.Means attribute) = meanings.Means (attribute_seen names attribute)
meaning_seen names meaning.Nothing = meanings.MeansNothing
meaning_seen names (meaning.Bad bad) = meanings.IsBad (bad_seen bad)
meaning_seen names meaning.PassesLimit = meanings.PassesLimit
