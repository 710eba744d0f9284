use Rattle.c_tokens.specs.Cursor.{ahead}
use Rattle.c_tokens.proofs.WordLemmas.{universal_left-inside}
use Rattle.c_tokens.proofs.words.universal_left.Goals as goal

pub returns-then-length-gt0 : goal.returns-then-length-gt0
returns-then-length-gt0 c = universal_left-inside c.args.left _ (ahead c.args.cursor.now) c.universal_length-length.ensures.length c.if-length-gt0.true
