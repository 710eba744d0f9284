-- An id that is kept, or one that is kept from now on.
use Rattle.std.proofs.Common.{Some, ap, ◌∙◌}
use Rattle.std.proofs.lemmas.Option.{slice_get_within}
use Rattle.c_tokens.specs.Seen.{text_of}
use Rattle.unit_names.proofs.KeptLemmas.{kept-set, kept-stands, same_table}
use Rattle.unit_names.proofs.numbering.Numbering.number.Goals as goal

pub returns-then-kept-ne0-clause-known : goal.returns-then-kept-ne0-clause-known
returns-then-kept-ne0-clause-known c =
    slice_get_within c.args.self.now.table c.index-kept.result.now.0 (text_of c.args.names.now c.args.id)
    (kept-stands c.args.names.now c.args.self.now.table c.args.self.now.ids.items c.args.id c.index-kept.result.now c.requires.were_kept c.requires.known
    c.index-kept.ensures c.if-kept-ne0.true)

pub returns-then-kept-ne0-clause-table : goal.returns-then-kept-ne0-clause-table
returns-then-kept-ne0-clause-table c =
    same_table c.args.self.now.table (text_of c.args.names.now c.args.id) c.index-kept.result.now.0
    (kept-stands c.args.names.now c.args.self.now.table c.args.self.now.ids.items c.args.id c.index-kept.result.now c.requires.were_kept c.requires.known
    c.index-kept.ensures c.if-kept-ne0.true)

pub returns-clause-kept : goal.returns-clause-kept
returns-clause-kept c =
    kept-set c.args.names.now c.args.self.now.table c.intern.new.self c.args.self.now.ids.items c.args.id c.in_ok-new.new c.requires.were_kept
    c.intern.ensures.keeps (c.in_ok-new.ensures.stands ∙ ap Some c.spelling.ensures.seen)
