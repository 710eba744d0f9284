use Rattle.std.proofs.Common.{Ok, map, ap, ◌∙◌}
use Rattle.meaning_attributes.specs.Pieces.{comma_pieces}
use Rattle.meaning_attributes.specs.Reading.{unless_bad, with_items}
use Rattle.c_tokens.specs.Seen.{toks_of}
use Rattle.c_attrs.specs.Seen.{attrs_seen, context_seen}
use Rattle.c_attrs.specs.Parts.{replacing_contexts}
use Rattle.c_attrs.proofs.PartLemmas.{parts-whole}
use Rattle.c_attrs.proofs.RefusalLemmas.{attributes_read-unless, none-found}
use Rattle.c_attrs.proofs.list.read_attrs.Goals as goal

pub returns-clause-ok : goal.returns-clause-ok
returns-clause-ok c =
    let names = c.args.names.now in
    let tokens = toks_of names c.args.toks.now in
    let before = attrs_seen names c.args.attrs.now in
    attributes_read-unless before tokens
    ∙ ap (λ refusal. unless_bad refusal (with_items before (comma_pieces tokens))) (none-found _ c.in_default.ensures)
    ∙ ap (λ attributes. Ok attributes)
    (parts-whole before _ (attrs_seen names c.set_others.new.attrs) (comma_pieces tokens) (ap (replacing_contexts before) c.in_ok-append_contexts.ensures.ok)
    c.set_others.ensures.others (ap (map context_seen) c.set_others.ensures.contexts))
