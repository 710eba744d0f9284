-- Each in its turn, the last one first.
use Rattle.std.proofs.Common.{◌≡◌, ℕ, ◌<◌, ◌++◌, [], Option, IfSome, option_map, refl, sym, ap, subst, ◌∙◌}
use Rattle.std.proofs.lemmas.Option.{same_Some}
use Rattle.meaning_rules.specs.Rules.{least_broken, lesser}
use Rattle.meaning_statements.specs.Above.{expressions_around}
use Rattle.meaning_statements.specs.Jumps.{gotos_before, labels_before}
use Rattle.meaning_statements.specs.StatementRows.{gotos_broken}
use Rattle.decl_judge.specs.Units.{nodes_of}
use Rattle.expression_rows.specs.Rows.{broken_seen}
use Rattle.node_surroundings.specs.Seen.{surroundings_seen}
use Rattle.statement_judge.proofs.GotoLemmas.{broken_by, chain-within, first-of, none-left}
use Rattle.statement_judge.specs.declared.gotos.KeptGoto.{KeptGoto}
use Rattle.statement_judge.specs.Gotos.{IsChain}
use Rattle.statement_judge.proofs.OwnerLemmas.{fewer_steps, lesser_none, none-by, one_more, steps_from}
use Rattle.statement_judge.proofs.owners.gotos_broken.Goals as goal

pub loop-next-init : goal.loop-next-init
loop-next-init c =
    let nodes = nodes_of c.args.unit.now in
    let surroundings = surroundings_seen c.args.surroundings.now in
    record {
      left = gotos_before nodes surroundings c.args.owner;
      on = c.last_of-next.ensures (expressions_around nodes surroundings) (gotos_before nodes surroundings c.args.owner) c.requires.gotos;
      all = refl;
    }

pub at-goto-requires : goal.at-goto-requires
at-goto-requires c =
    let nodes = nodes_of c.args.unit.now in
    let surroundings = surroundings_seen c.args.surroundings.now in
    let around = expressions_around nodes surroundings in
    let was = c.loop-next.invariant in
    chain-within around c.args.gotos.now.gotos.items c.args.owner c.in-Some.number was.left
    (subst (λ (next : Option ℕ). IsChain around c.args.gotos.now.gotos.items c.args.owner next was.left) c.in-Some.is was.on)

pub loop-next-preserved : goal.loop-next-preserved
loop-next-preserved c =
    let nodes = nodes_of c.args.unit.now in
    let surroundings = surroundings_seen c.args.surroundings.now in
    let around = expressions_around nodes surroundings in
    let owner = c.args.owner in
    let items = c.args.gotos.now.gotos.items in
    let labels = labels_before nodes surroundings owner in
    let was = c.loop-next.invariant in
    let on = subst (λ (next : Option ℕ). IsChain around items owner next was.left) c.in-Some.is was.on in
    let first = first-of around items owner labels c.in-Some.number was.left on in
    let goto = same_Some first.goto c.at-goto.result (sym first.is ∙ c.at-goto.ensures) in
    let broken = c.goto_broken-broken.ensures labels c.requires.labels ∙ ap (λ one. least_broken (broken_by around items owner labels one)) (sym goto) in
    record {
      left = first.rest;
      on = subst (λ (one : KeptGoto). IsChain around items owner one.before first.rest) goto first.on;
      all =
          ap (λ least. lesser least (least_broken (gotos_broken owner labels first.rest)))
          (c.lesser-least.ensures ∙ ap (lesser (option_map broken_seen c.loop-next.least)) broken)
          ∙ one_more (option_map broken_seen c.loop-next.least) (broken_by around items owner labels first.goto) (gotos_broken owner labels first.rest)
          (gotos_broken owner labels was.left) first.broken
          ∙ was.all;
    }

pub loop-next-smaller : goal.loop-next-smaller
loop-next-smaller c =
    let nodes = nodes_of c.args.unit.now in
    let surroundings = surroundings_seen c.args.surroundings.now in
    let around = expressions_around nodes surroundings in
    let owner = c.args.owner in
    let items = c.args.gotos.now.gotos.items in
    let labels = labels_before nodes surroundings owner in
    let was = c.loop-next.invariant in
    let on = subst (λ (next : Option ℕ). IsChain around items owner next was.left) c.in-Some.is was.on in
    let first = first-of around items owner labels c.in-Some.number was.left on in
    let goto = same_Some first.goto c.at-goto.result (sym first.is ∙ c.at-goto.ensures) in
    subst (λ (next : Option ℕ). steps_from c.at-goto.result.before < steps_from next) (sym c.in-Some.is)
    (fewer_steps c.at-goto.result.before c.in-Some.number (subst (λ (one : KeptGoto). IfSome one.before (λ before. before < c.in-Some.number)) goto first.before))

pub returns : goal.returns
returns c =
    let nodes = nodes_of c.args.unit.now in
    let surroundings = surroundings_seen c.args.surroundings.now in
    let around = expressions_around nodes surroundings in
    let owner = c.args.owner in
    let items = c.args.gotos.now.gotos.items in
    let labels = labels_before nodes surroundings owner in
    let was = c.loop-next.invariant in
    let on = subst (λ (next : Option ℕ). IsChain around items owner next was.left) (none-by c.loop-next.next c.in_default.not-Some) was.on in
    sym (lesser_none (option_map broken_seen c.loop-next.least))
    ∙ ap (λ broken. lesser (option_map broken_seen c.loop-next.least) (least_broken broken)) (sym (none-left around items owner labels was.left on))
    ∙ was.all
