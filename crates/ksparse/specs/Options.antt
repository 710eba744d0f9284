-- What a word is, in the code and in the definitions.
use Rattle.std.specs.Prelude.{List, map}
use Rattle.meaning_answer.specs.Options as meaning
use Rattle.ksparse.specs.declared.option.Switch.{Switch}
use Rattle.ksparse.specs.declared.option.Word.{Word}
use Rattle.ksparse.specs.declared.option.Word.TheVariants as words

abbrev pub switch_seen : Switch → meaning.Switch
switch_seen switch = record { class_ = switch.class; on = switch.on }

abbrev pub word_seen : Word → meaning.Word
word_seen words.AsksForTokens = meaning.AsksForTokens
word_seen (words.AddsDirectory directory) = meaning.AddsDirectory directory.now
word_seen (words.Defines name text) = meaning.AddsLine (meaning.define_line name.now text.now)
word_seen (words.Undefines name) = meaning.AddsLine (meaning.undef_line name.now)
word_seen (words.Switches switch) = meaning.Switches (switch_seen switch)
word_seen words.Operand = meaning.IsOperand
word_seen words.Strange = meaning.IsStrange

abbrev pub switches_seen : List Switch → List meaning.Switch
switches_seen switches = map switch_seen switches
