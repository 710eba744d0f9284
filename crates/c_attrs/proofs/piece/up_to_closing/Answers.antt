use Rattle.std.proofs.Common.{take, ap, ◌∙◌}
use Rattle.c_tokens.specs.Seen.{toks_of}
use Rattle.c_attrs.proofs.Closing.{up_to_closing-seen}
use Rattle.c_attrs.proofs.piece.up_to_closing.Goals as goal

pub returns : goal.returns
returns c = λ names.
    ap (toks_of names) c.split_at.ensures.front
    ∙ ap (λ count. toks_of names (take count c.args.toks.now)) c.length_to_closing.ensures.count
    ∙ up_to_closing-seen names 0 c.args.toks.now
