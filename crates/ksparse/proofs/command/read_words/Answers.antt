use Rattle.std.proofs.Common.{◌+◌, drop, sym, ◌∙◌, ap}
use Rattle.std.proofs.lemmas.Result.{IfErr-weaker}
use Rattle.meaning_answer.specs.Options.{Word}
use Rattle.meaning_answer.specs.Requests.{is_bad}
use Rattle.ksparse.specs.Reading.{Reading, has_file, reading_seen, request_behind, taken}
use Rattle.ksparse.proofs.ReadingLemmas.{command_first, words_begin, words_go_on, word_at_fault, none_left, command_right, missing_file}
use Rattle.ksparse.proofs.command.read_words.Goals as goal

pub returns-then-begins_with_command-clause-fault : goal.returns-then-begins_with_command-clause-fault
returns-then-begins_with_command-clause-fault c = command_first c.args.words.now (sym c.begins_with_command.ensures ∙ c.if-begins_with_command.true)

pub words-init : goal.words-init
words-init c =
    ap (λ (r : Reading). request_behind 0 r c.args.words.now) c.new-reading.ensures
    ∙ words_begin c.args.words.now (sym c.begins_with_command.ensures ∙ c.if-begins_with_command.false)

pub returns-then-refuses-clause-fault : goal.returns-then-refuses-clause-fault
returns-then-refuses-clause-fault c =
    let reading = reading_seen c.words.reading in
    word_at_fault c.args.words.now c.words.position reading c.words.invariant c.in-Some.text.now c.in-Some.ensures.word
    (ap (is_bad (has_file reading)) (sym c.read_word-word.ensures) ∙ sym c.refuses.ensures ∙ c.if-refuses.true)

pub words-preserved : goal.words-preserved
words-preserved c =
    let reading = reading_seen c.words.reading in
    let text = c.in-Some.text.now in
    let behind = c.in_ok-take.ensures ∙ ap (λ (w : Word). taken w text reading) c.read_word-word.ensures in
    ap (λ (r : Reading). request_behind (c.words.position + 1) r (drop (c.words.position + 1) c.args.words.now)) behind
    ∙ words_go_on c.args.words.now c.words.position reading c.words.invariant text c.in-Some.ensures.word
    (ap (is_bad (has_file reading)) (sym c.read_word-word.ensures) ∙ sym c.refuses.ensures ∙ c.if-refuses.false)

pub returns-clause-command : goal.returns-clause-command
returns-clause-command c =
    let none = none_left c.args.words.now c.words.position c.in_default.ensures.word in
    command_right c.args.words.now c.words.position (reading_seen c.words.reading) c.words.invariant c.into_command.result none c.into_command.ensures.command

pub returns-clause-fault : goal.returns-clause-fault
returns-clause-fault c =
    let none = none_left c.args.words.now c.words.position c.in_default.ensures.word in
    IfErr-weaker c.into_command.result _ _ (λ fault missing. missing_file c.args.words.now c.words.position (reading_seen c.words.reading) c.words.invariant fault none missing)
    c.into_command.ensures.fault
