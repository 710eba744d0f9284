use Rattle.std.proofs.Common.{◌∷◌, ap, sym, ◌∙◌}
use Rattle.meaning_preprocessing.specs.Groups.{Turns, group_of, same_truth}
use Rattle.c_tokens.specs.Seen.{text_of, tok_of, toks_of}
use Rattle.c_directives.specs.Groups.{groups_seen}
use Rattle.c_directives.proofs.GroupLemmas.{named-turn}
use Rattle.c_directives.proofs.groups.open_by_name.Goals as goal

pub returns-in-Ok : goal.returns-in-Ok
returns-in-Ok c = λ s has.
    let names = c.args.names.now in
    named-turn c.args.wanted (tok_of names c.args.hash.now) (toks_of names c.args.line.now) (groups_seen c.args.groups.now.items) s (text_of names c.in-Some.name) (sym (c.in-Some.ensures.name names))
    ∙ ap (λ holds. Turns (group_of (tok_of names c.args.hash.now) holds ∷ groups_seen c.args.groups.now.items) s)
    (ap (same_truth c.args.wanted) (sym (c.is_defined.ensures s.definitions has)) ∙ sym c.same_truth-holds.ensures)
    ∙ ap (λ open_groups. Turns open_groups s) (sym (c.in-Ok.ensures.opened names))
