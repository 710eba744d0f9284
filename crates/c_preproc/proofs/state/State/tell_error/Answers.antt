use Rattle.std.proofs.Common.{Some, refl, ap, ◌∙◌}
use Rattle.vocabulary.specs.declared.error_kind.ErrorKind.TheVariants.{ErrorDirective}
use Rattle.meaning_preprocessing.specs.State.{refused}
use Rattle.c_tokens.specs.Seen.{at_of}
use Rattle.c_preproc.proofs.StateLemmas.{Holds-later}
use Rattle.c_preproc.proofs.TaskLemmas.{halts-told}
use Rattle.c_preproc.proofs.state.State.tell_error.Goals as goal

pub returns-clause-done : goal.returns-clause-done
returns-clause-done c = λ path s groups holds.
    let later = Holds-later c.args.names.now c.intern_words.new.names c.intern_words.ensures.keeps c.apart.ensures.apart path c.args.self.now s holds in
    halts-told c.intern_words.new.names c.error.result _ _
    (c.error.ensures.stop path s later ∙ ap (λ word. Some (refused s ErrorDirective (at_of c.args.hash.now.place) word)) c.in_ok-word.ensures.words) refl

pub returns-clause-known : goal.returns-clause-known
returns-clause-known c =
    let held = c.requires.held in
    c.error.ensures.known held.0 held.1
    (Holds-later c.args.names.now c.intern_words.new.names c.intern_words.ensures.keeps c.apart.ensures.apart held.0 c.args.self.now held.1 held.2) c.in_ok-word.ensures.known
