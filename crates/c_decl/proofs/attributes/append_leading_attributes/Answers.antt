use Rattle.std.proofs.Common.{sym, ap, ◌∙◌, arith}
use Rattle.vocabulary.specs.declared.action.Action.TheVariants.{AppendLeadingAttributes}
use Rattle.vocabulary.specs.declared.node_kind.NodeKind.TheVariants as kinds
use Rattle.meaning_derivation.specs.Values.{parts_of, plain_tree}
use Rattle.meaning_derivation.specs.State.{State, Goes}
use Rattle.meaning_derivation.specs.Actions.{act, below}
use Rattle.parse_state.specs.Seen.{state_of}
use Rattle.parse_state.specs.Steps.{IsToldBy}
use Rattle.c_decl.proofs.Listing.{appended_covers, both_cover, leading_appended, leading_covers, leading_told, no_leading, passed_on}
use Rattle.c_decl.proofs.attributes.append_leading_attributes.Goals as goal

pub returns-then-part_count-eq0-clause-goes : goal.returns-then-part_count-eq0-clause-goes
returns-then-part_count-eq0-clause-goes c =
    let s : State = state_of c.args.state.now in
    no_leading s c.requires.finds (omega (arith, c.part_count.ensures, c.if-part_count-eq0.true)) ∙ ap Goes (sym c.in_ok-collect.ensures.list)

pub collect-requires : goal.collect-requires
collect-requires c = record { covers = both_cover (state_of c.args.state.now).values c.requires.finds }

pub make-requires : goal.make-requires
make-requires c = record { covers = leading_covers (state_of c.args.state.now).values c.requires.finds }

pub collect-requires-2 : goal.collect-requires-2
collect-requires-2 c =
    let s : State = state_of c.args.state.now in
    record { covers = appended_covers s (state_of c.make.new.self) (plain_tree kinds.LeadingAttributes c.first_tree_token-token.result (parts_of (below s 0))) c.requires.finds c.in_ok-make.ensures.goes }

pub returns-clause-goes : goal.returns-clause-goes
returns-clause-goes c =
    let s : State = state_of c.args.state.now in
    leading_appended s (state_of c.make.new.self) c.first_tree_token-token.result
    (λ none. absurd (omega (arith, none, c.part_count.ensures, c.if-part_count-eq0.false))) c.first_tree_token-token.ensures c.in_ok-make.ensures.goes
    ∙ ap Goes (sym c.in_ok-collect-2.ensures.list)

pub returns-in_err-make-clause-told : goal.returns-in_err-make-clause-told
returns-in_err-make-clause-told c =
    let s : State = state_of c.args.state.now in
    passed_on (IsToldBy (act AppendLeadingAttributes s)) _ c.from_residual-in_err-make.result c.from_residual-in_err-make.ensures.1
    (leading_told s c.first_tree_token-token.result _
    (λ none. absurd (omega (arith, none, c.part_count.ensures, c.if-part_count-eq0.false))) c.in_err-make.ensures.told)
