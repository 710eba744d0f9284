-- The part is told by the outline of its type.
use Rattle.std.proofs.Common.{◌≡◌, Option, ℤ, sym, ap, ◌∙◌}
use Rattle.c_types.specs.Table.{type_at}
use Rattle.meaning_constants.specs.Constants.{Part, kind_of}
use Rattle.meaning_constants.specs.Nodes.{loaded_type}
use Rattle.const_fold.specs.Known.{number_with}
use Rattle.const_fold.specs.Outlined.{outlined, type_with}
use Rattle.const_fold.specs.Seen.{seen_type}
use Rattle.const_fold.proofs.OutlineLemmas.{outlined-loaded, part_of_type-outlined}
use Rattle.const_fold.proofs.known.part_of.Goals as goal

pub returns : goal.returns
returns c =
    let node = c.args.node in
    let tree = type_at c.args.types.now node.of in
    let told = seen_type c.part_type-of.result in
    let loaded = loaded_type node.value.width tree in
    let of_is : told ≡ outlined loaded = c.part_type-of.ensures ∙ ap (type_with node.value.width) c.outline.ensures ∙ sym (outlined-loaded node.value.width tree) in
    let number_is : c.number_with.result ≡ number_with (kind_of told) node.value.constant =
    c.number_with.ensures ∙ ap (λ kind. number_with kind node.value.constant) c.kind.ensures in
    let part : Option ℤ → Part = λ number. record { of = told; fouled = node.value.fouled; number = number } in
    ap part number_is ∙ part_of_type-outlined loaded told node.value of_is
