-- What the type is made of takes what the type takes.
use Rattle.std.proofs.Common.{◌≡◌, ap, ◌∙◌, subst}
use Rattle.meaning_layout.specs.Sizes.{extent_of}
use Rattle.c_types.specs.Layouts.{extent_seen, told_in, told_kept}
use Rattle.c_types.specs.Rows.{type_numbered, types_of}
use Rattle.c_types.specs.Table.{type_at}
use Rattle.c_types.proofs.table.Types.extent.Goals as goal

pub returns : goal.returns
returns c =
    let rows = c.self.inside.maker.rows.rows.entries in
    subst (λ table. extent_seen c.extent.result ≡ extent_of (told_in table) (type_at table c.args.t)) c.self.view_is
    (c.extent.ensures ∙ c.elements.ensures (told_kept c.self.inside.layouts.kept.entries)
    ∙ ap (λ told. extent_of told (type_numbered (types_of rows) c.args.t.0)) c.self.invariant.layouts_right)
