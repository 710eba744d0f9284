use Rattle.std.proofs.Common.{◌≡◌, ◌++◌, [], Some, None, true, false, sym, ap, ◌∙◌, refl, append_assoc}
use Rattle.std.specs.List.{cons_option}
use Rattle.meaning_typing.specs.Declarators.{is_declarator}
use Rattle.meaning_typing.specs.MemberDeclarations.{pending_with}
use Rattle.meaning_typing.specs.Units.{kind_at}
use Rattle.decl_judge.specs.Units.{nodes_of}
use Rattle.body_members.specs.Entries.{open_and_behind}
use Rattle.body_members.proofs.EntryLemmas.{opened_by, taken}
use Rattle.body_members.proofs.entries.take_part.Goals as goal

pub returns-then-is_declarator-clause-taken : goal.returns-then-is_declarator-clause-taken
returns-then-is_declarator-clause-taken c =
    let nodes = nodes_of c.args.unit.now in
    let items = c.args.entries.now.items in
    let kind = kind_at nodes c.args.part in
    let is : is_declarator kind ≡ true = sym (c.is_declarator.ensures ∙ ap is_declarator c.kind_at.ensures) ∙ c.if-is_declarator.true in
    λ pending.
    let opened = open_and_behind nodes (Some (record { declarator = c.args.part; width = None; written = 1 })) pending in
    ap (λ entries. entries ++ opened) c.in_ok-close.ensures
    ∙ append_assoc items (cons_option c.args.opened []) opened
    ∙ ap (λ behind. items ++ behind) (opened_by nodes kind c.args.part c.args.opened pending c.requires.aligned is)

pub returns-in-Some-clause-taken : goal.returns-in-Some-clause-taken
returns-in-Some-clause-taken c =
    let nodes = nodes_of c.args.unit.now in
    let items = c.args.entries.now.items in
    let part = c.args.part in
    let kind = kind_at nodes part in
    let is : is_declarator kind ≡ false = sym (c.is_declarator.ensures ∙ ap is_declarator c.kind_at.ensures) ∙ c.if-is_declarator.false in
    λ pending.
    ap (λ entry. items ++ open_and_behind nodes (Some entry) pending) c.with_part.ensures
    ∙ ap (λ behind. items ++ behind) (taken nodes kind part c.in-Some.entry pending refl is)
    ∙ ap (λ opened. items ++ open_and_behind nodes opened (pending_with kind part pending)) (sym c.in-Some.is)
