use Rattle.meaning_text.proofs.LexingLines.{logical_texts_end_their_line}
use Rattle.meaning_text.proofs.tokens.logical_texts_end_their_line.Goals as goal

pub returns : goal.returns
returns c = logical_texts_end_their_line
