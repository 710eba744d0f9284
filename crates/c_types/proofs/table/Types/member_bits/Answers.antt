-- The layouts that are kept are those that were told.
use Rattle.std.proofs.Common.{◌≡◌, ap, ◌∙◌, subst}
use Rattle.meaning_layout.specs.Members.{bits_behind, first_bit_in}
use Rattle.meaning_layout.specs.Telling.{or_incomplete}
use Rattle.c_types.specs.Layouts.{told_in}
use Rattle.c_types.proofs.table.Types.member_bits.Goals as goal

pub returns : goal.returns
returns c =
    let found = c.args.found.now in
    subst (λ table. c.bits_in.result ≡ bits_behind (first_bit_in found.place (or_incomplete (told_in table c.args.aggregate c.args.is_union))) found.bits) c.self.view_is
    (c.bits_in.ensures ∙ ap (λ told. bits_behind (first_bit_in found.place (or_incomplete (told c.args.aggregate c.args.is_union))) found.bits) c.self.invariant.layouts_right)
