use Rattle.std.proofs.Common.{ap, option_map, sym, ◌∙◌}
use Rattle.meaning_typing.specs.Names.{type_or}
use Rattle.c_types.specs.Table.{type_at}
use Rattle.declaration_rows.proofs.LinkedLemmas.{from_not, type_of_name-is}
use Rattle.declaration_rows.proofs.tentative.type_of_name.Goals as goal

pub returns-in-Some-clause-seen : goal.returns-in-Some-clause-seen
returns-in-Some-clause-seen c =
    let table = c.args.types.now in
    let own = type_at table c.args.declaration.of in
    ap (λ found. type_or own (option_map (type_at table) found)) (sym c.in-Some.is)
    ∙ type_of_name-is table c.args.linked.now c.requires.over c.args._facts.now c.args.declaration c.type_of.result c.requires.linked
    c.types_are_known.ensures (from_not c.args.declaration.has_linkage c.if-not-declaration.false) c.type_of.ensures.shared c.type_of.ensures.known

pub returns-in-None-clause-seen : goal.returns-in-None-clause-seen
returns-in-None-clause-seen c =
    let table = c.args.types.now in
    let own = type_at table c.args.declaration.of in
    ap (λ found. type_or own (option_map (type_at table) found)) (sym c.in-None.is)
    ∙ type_of_name-is table c.args.linked.now c.requires.over c.args._facts.now c.args.declaration c.type_of.result c.requires.linked
    c.types_are_known.ensures (from_not c.args.declaration.has_linkage c.if-not-declaration.false) c.type_of.ensures.shared c.type_of.ensures.known
