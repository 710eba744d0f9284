use Rattle.std.proofs.Common.{Some, ap, ◌∙◌}
use Rattle.meaning_preprocessing.specs.State.{refused}
use Rattle.c_tokens.specs.Seen.{at_of}
use Rattle.c_preproc.proofs.state.State.line_error.Goals as goal

pub returns-clause-stop : goal.returns-clause-stop
returns-clause-stop c = λ path s holds.
    c.error.ensures.stop path s holds ∙ ap (λ word. Some (refused s c.args.kind (at_of c.args.hash.now.place) word)) c.known_word.ensures.text

pub returns-clause-known : goal.returns-clause-known
returns-clause-known c = λ path s holds. c.error.ensures.known path s holds c.known_word.ensures.known
