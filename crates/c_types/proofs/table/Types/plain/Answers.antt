-- The plain integers stand at the numbers of their kinds.
use Rattle.std.proofs.Common.{◌≡◌, ◌<◌, length, sym, ap, ◌∙◌, subst}
use Rattle.std.proofs.lemmas.Option.{slice_get_within}
use Rattle.c_types.specs.Rows.{type_numbered, types_of}
use Rattle.c_types.specs.Table.{plain_integer, type_at, types_in}
use Rattle.c_types.proofs.Forms.{numbered-is}
use Rattle.c_types.proofs.table.Types.plain.Goals as goal

pub returns-clause-plain : goal.returns-clause-plain
returns-clause-plain c =
    let types = types_of c.self.inside.maker.rows.rows.entries in
    subst (λ table. type_at table (record { 0 = c.kind_number.result }) ≡ plain_integer c.args.kind) c.self.view_is
    (ap (type_numbered types) c.kind_number.ensures ∙ numbered-is types _ (plain_integer c.args.kind) (c.self.invariant.integers_stand c.args.kind))

pub returns-clause-known : goal.returns-clause-known
returns-clause-known c =
    let types = types_of c.self.inside.maker.rows.rows.entries in
    subst (λ table. c.kind_number.result < length (types_in table)) c.self.view_is
    (subst (λ number. number < length types) (sym c.kind_number.ensures) (slice_get_within types _ (plain_integer c.args.kind) (c.self.invariant.integers_stand c.args.kind)))
