use Rattle.std.proofs.Common.{◌≡◌, ◌+◌, suc, length, None, sym, ap, ◌∙◌, arith}
use Rattle.std.specs.List.{list_any}
use Rattle.std.proofs.lemmas.List.{length-map}
use Rattle.meaning_attributes.specs.Pieces.{comma_pieces}
use Rattle.meaning_attributes.specs.Items.{meaning_of}
use Rattle.meaning_attributes.specs.Reading.{bad_or, first_bad, passes_limit}
use Rattle.c_tokens.specs.Seen.{tok_of, toks_of}
use Rattle.c_attrs.specs.Meanings.{meaning_seen}
use Rattle.c_attrs.specs.Cuts.{pieces_in, size_left}
use Rattle.c_attrs.specs.Parts.{first_of}
use Rattle.c_attrs.proofs.RefusalLemmas.{next-first, next-limit}
use Rattle.c_attrs.proofs.list.refusal.Goals as goal

pub items-preserved : goal.items-preserved
items-preserved c =
    let names = c.args.names.now in
    let before = c.items.invariant in
    let piece = c.first_piece.result.0.now in
    let item = toks_of names piece in
    let items = comma_pieces (toks_of names c.in-Some.list.now) in
    let others = pieces_in names c.first_piece.result.1 in
    let meaning = meaning_seen names c.meaning_of-meaning.result in
    let word = c.items.start + c.extensions_len.result in
    let cut = c.first_piece.ensures.pieces names in
    let left_size : size_left c.items.left ≡ suc (length c.in-Some.list.now) = ap size_left c.in-Some.is in
    record {
      limit = next-limit item items others _ cut (ap passes_limit (sym c.meaning_of-meaning.ensures) ∙ sym (c.passes_limit.ensures names) ∙ c.if-passes_limit.false)
          (ap (λ left. list_any (λ one. passes_limit (meaning_of one)) (pieces_in names left)) (sym c.in-Some.is) ∙ before.limit);
      found = first_of before.found (bad_or meaning word None);
      told = c.earlier_or-bad.ensures names before.found before.told;
      first = next-first before.found c.items.start _ word item meaning items others _ cut c.meaning_of-meaning.ensures
          (ap (λ count. c.items.start + count) c.extensions_len.ensures.count) (omega (arith, length-map piece (tok_of names)))
          (ap (λ left. first_of before.found (first_bad c.items.start (pieces_in names left))) (sym c.in-Some.is) ∙ before.first);
      size = omega (arith, before.size, left_size, c.first_piece.ensures.size);
    }
