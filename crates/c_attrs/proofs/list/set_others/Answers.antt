use Rattle.std.proofs.Common.{sym, ap, ◌∙◌}
use Rattle.meaning_attributes.specs.Pieces.{comma_pieces}
use Rattle.meaning_attributes.specs.Reading.{with_items}
use Rattle.c_tokens.specs.Seen.{toks_of}
use Rattle.c_attrs.specs.Seen.{attribute_seen, attrs_seen}
use Rattle.c_attrs.specs.Cuts.{pieces_in}
use Rattle.c_attrs.specs.Parts.{replacing_contexts}
use Rattle.c_attrs.proofs.PartLemmas.{set-behind, unset-behind}
use Rattle.c_attrs.proofs.list.set_others.Goals as goal

pub items-preserved-in-Some-read_item : goal.items-preserved-in-Some-read_item
items-preserved-in-Some-read_item c =
    let names = c.args.names.now in
    let before = attrs_seen names c.items.attrs in
    record {
      same = λ contexts.
          set-behind before (attrs_seen names c.set.new.self) (attribute_seen names c.in-Some-read_item.attribute) (toks_of names c.first_piece.result.0.now)
          (comma_pieces (toks_of names c.in-Some.list.now)) (pieces_in names c.first_piece.result.1) (c.first_piece.ensures.pieces names)
          (sym c.in-Some-read_item.ensures) (c.set.ensures.set names) contexts
          ∙ ap (λ left. replacing_contexts (with_items before (pieces_in names left)) contexts) (sym c.in-Some.is)
          ∙ c.items.invariant.same contexts;
      kept = c.set.ensures.contexts ∙ c.items.invariant.kept;
    }

pub items-preserved : goal.items-preserved
items-preserved c =
    let names = c.args.names.now in
    let before = attrs_seen names c.items.attrs in
    record {
      same = λ contexts.
          unset-behind before (toks_of names c.first_piece.result.0.now) (comma_pieces (toks_of names c.in-Some.list.now)) (pieces_in names c.first_piece.result.1)
          (c.first_piece.ensures.pieces names) (sym c.in_default-read_item.ensures) contexts
          ∙ ap (λ left. replacing_contexts (with_items before (pieces_in names left)) contexts) (sym c.in-Some.is)
          ∙ c.items.invariant.same contexts;
      kept = c.items.invariant.kept;
    }

pub returns-clause-others : goal.returns-clause-others
returns-clause-others c = λ contexts.
    ap (λ left. replacing_contexts (with_items (attrs_seen c.args.names.now c.items.attrs) (pieces_in c.args.names.now left)) contexts) (sym c.in_default.is)
    ∙ c.items.invariant.same contexts
