use Rattle.std.proofs.Common.{sym, ap, ◌∙◌}
use Rattle.meaning_attributes.specs.Items.{space_of}
use Rattle.c_tokens.specs.Seen.{tok_of}
use Rattle.c_attrs.specs.Seen.{significant}
use Rattle.c_attrs.specs.Meanings.{arguments_seen}
use Rattle.c_attrs.proofs.ArgumentLemmas.{space_of-only}
use Rattle.c_attrs.proofs.space.space_of.Goals as goal

pub returns-in-Some : goal.returns-in-Some
returns-in-Some c =
    let names = c.args.names.now in
    c.space_at.ensures
    ∙ sym (space_of-only (significant names c.in-Between.toks.now) (tok_of names c.in-Some.token) c.in-Some.ensures)
    ∙ ap (λ arguments. space_of (arguments_seen names arguments)) (sym c.in-Between.is)
