use Rattle.std.proofs.Common.{◌≡◌, ◌++◌, ap, ◌∙◌}
use Rattle.std.proofs.lemmas.Result.{IfOk-weaker}
use Rattle.decl_judge.specs.Units.{nodes_of}
use Rattle.node_facts.specs.Facts.{node_seen}
use Rattle.node_surroundings.specs.Seen.{surrounding_seen}
use Rattle.declaration_rows.specs.Kept.{tentative_by}
use Rattle.declaration_rows.proofs.KeptLemmas.{tentative_kept}
use Rattle.declaration_rows.proofs.tentative.TentativeObjects.keep.Goals as goal

pub keep_fact-requires-clause-fact : goal.keep_fact-requires-clause-fact
keep_fact-requires-clause-fact c = c.fact_of_declarator-fact.ensures.known c.args.types.now c.requires.fact

pub returns-clause-kept : goal.returns-clause-kept
returns-clause-kept c =
    let nodes = nodes_of c.args.unit.now in
    let old = c.args.self.now in
    let new = c.keep_fact.new.self in
    let handle = c.args.handle in
    let stands = surrounding_seen c.args.surrounding in
    let table = c.args.types.now in
    let fact = node_seen table c.args.fact in
    IfOk-weaker c.keep_fact.result (λ _. new ≡ old ++ tentative_by nodes handle stands (node_seen table c.fact_of_declarator-fact.result)) _
    (λ _ joins surroundings known here stood are. tentative_kept nodes surroundings known fact old new handle stands here stood
    (joins ∙ ap (λ fact. old ++ tentative_by nodes handle stands fact) (c.fact_of_declarator-fact.ensures.seen table)) are)
    c.keep_fact.ensures.ok
