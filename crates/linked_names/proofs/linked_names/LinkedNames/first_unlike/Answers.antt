-- The witnesses of the name tell.
use Rattle.std.proofs.Common.{IfSome, option_map, sym, ap, ◌∙◌, subst}
use Rattle.meaning_typing.specs.Names.{first_unlike}
use Rattle.c_types.specs.Table.{Extends, IsTypeId, type_at}
use Rattle.indexmap.specs.IndexMap.{get}
use Rattle.linked_names.specs.Linked.{LinkedDeclarations, types_of}
use Rattle.linked_names.specs.Kept.{same_key}
use Rattle.linked_names.proofs.IndexLemmas.{index-empty, index-ids, index-kept}
use Rattle.linked_names.proofs.WitnessLemmas.{unlike-known, unlike-told}
use Rattle.linked_names.proofs.linked_names.LinkedNames.first_unlike.Goals as goal

pub first_unlike-requires-clause-ids : goal.first_unlike-requires-clause-ids
first_unlike-requires-clause-ids c =
    let extends = subst (λ (list : LinkedDeclarations). Extends list.over c.args.types.now) (sym c.self.view_is) c.requires.over in
    let ids =
    index-ids c.self.inside.trace.over c.args.types.now extends c.self.inside.trace.declarations (get same_key c.self.inside.kept) c.self.invariant c.args.name
    c.in-Some.declarations.now (sym c.in-Some.ensures.value)
    in
    ids.witnesses

pub returns-in-Some-clause-unlike : goal.returns-in-Some-clause-unlike
returns-in-Some-clause-unlike c =
    let types = c.args.types.now in
    let one = c.in-Some.declarations.now in
    let extends = subst (λ (list : LinkedDeclarations). Extends list.over types) (sym c.self.view_is) c.requires.over in
    let kept =
    index-kept c.self.inside.trace.over types extends c.self.inside.trace.declarations (get same_key c.self.inside.kept) c.self.invariant c.args.name one (sym c.in-Some.ensures.value)
    in
    ap (option_map (type_at types)) c.first_unlike.ensures
    ∙ unlike-told types (types_of types c.args.name c.self.inside.trace.declarations) one.witnesses kept.witnesses c.args.of kept.first
    ∙ ap (λ (list : LinkedDeclarations). first_unlike (type_at types c.args.of) (types_of types c.args.name list.declarations)) c.self.view_is

pub returns-in-Some-clause-known : goal.returns-in-Some-clause-known
returns-in-Some-clause-known c =
    let types = c.args.types.now in
    let one = c.in-Some.declarations.now in
    let extends = subst (λ (list : LinkedDeclarations). Extends list.over types) (sym c.self.view_is) c.requires.over in
    let ids =
    index-ids c.self.inside.trace.over types extends c.self.inside.trace.declarations (get same_key c.self.inside.kept) c.self.invariant c.args.name one (sym c.in-Some.ensures.value)
    in
    subst (λ found. IfSome found (IsTypeId types)) (sym c.first_unlike.ensures) (unlike-known types one.witnesses c.args.of ids.witnesses)

pub returns-in-None-clause-unlike : goal.returns-in-None-clause-unlike
returns-in-None-clause-unlike c =
    let types = c.args.types.now in
    let extends = subst (λ (list : LinkedDeclarations). Extends list.over types) (sym c.self.view_is) c.requires.over in
    let empty =
    index-empty c.self.inside.trace.over types extends c.self.inside.trace.declarations (get same_key c.self.inside.kept) c.self.invariant c.args.name (sym c.in-None.ensures.value)
    in
    ap (first_unlike (type_at types c.args.of)) (sym empty)
    ∙ ap (λ (list : LinkedDeclarations). first_unlike (type_at types c.args.of) (types_of types c.args.name list.declarations)) c.self.view_is
