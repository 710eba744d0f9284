use Rattle.std.proofs.Common.{refl, sym, ◌∙◌}
use Rattle.c_tokens.proofs.CursorLemmas.{plain-front}
use Rattle.c_tokens.proofs.cursor.Cursor.plain.Goals as goal

pub returns-clause-bytes : goal.returns-clause-bytes
returns-clause-bytes c =
    (plain-front c.args.self.now _ c.split_at.result.0.now c.split_at.result.1.now c.args.count c.split_at.ensures.by_index.0 c.split_at.ensures.front_len c.if-count-eq0.false (sym c.is_plain.ensures ∙ c.if-not-is_plain.false) refl).0

pub returns-clause-behind : goal.returns-clause-behind
returns-clause-behind c =
    c.over_splices.ensures.same
    ∙ (plain-front c.args.self.now _ c.split_at.result.0.now c.split_at.result.1.now c.args.count c.split_at.ensures.by_index.0 c.split_at.ensures.front_len c.if-count-eq0.false (sym c.is_plain.ensures ∙ c.if-not-is_plain.false) refl).1
