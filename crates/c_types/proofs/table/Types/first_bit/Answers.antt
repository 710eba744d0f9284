-- A member of the body has a first bit in its layout.
use Rattle.std.proofs.Common.{◌≡◌, ◌<◌, IfOk, IfSome, length, ap, sym, ◌∙◌, subst}
use Rattle.meaning_layout.specs.Telling.{or_incomplete}
use Rattle.c_types.specs.Layouts.{bit_in, bit_seen, told_in}
use Rattle.c_types.specs.Rows.{types_of}
use Rattle.c_types.specs.Table.{body_in}
use Rattle.c_types.proofs.LayoutLemmas.{member-inside}
use Rattle.c_types.proofs.table.Types.first_bit.Goals as goal

pub first_bit-requires : goal.first_bit-requires
first_bit-requires c =
    subst (λ told. IfOk (or_incomplete (told c.args.aggregate c.args.is_union)) (λ layout. c.args.member < length layout.first_bits)) (sym c.self.invariant.layouts_right)
    (member-inside (types_of c.self.inside.maker.rows.rows.entries) c.self.inside.bodies.entries c.args.aggregate c.args.is_union c.args.member
    (subst (λ table. IfSome (body_in table c.args.aggregate) (λ body. c.args.member < length body.members)) (sym c.self.view_is) c.requires))

pub returns : goal.returns
returns c =
    subst (λ table. bit_seen c.first_bit.result ≡ bit_in c.args.member (or_incomplete (told_in table c.args.aggregate c.args.is_union))) c.self.view_is
    (c.first_bit.ensures ∙ ap (λ told. bit_in c.args.member (or_incomplete (told c.args.aggregate c.args.is_union))) c.self.invariant.layouts_right)
