use Rattle.std.proofs.Common.{◌+◌, drop, get_or, option_map, sym, ap, ◌∙◌}
use Rattle.std.specs.List.{flat_map}
use Rattle.std.proofs.lemmas.List.{drop_more}
use Rattle.meaning_rules.specs.Rules.{least_broken, lesser}
use Rattle.c_types.specs.Layouts.{told_in}
use Rattle.decl_judge.specs.Units.{nodes_of}
use Rattle.expression_rows.specs.Rows.{broken_seen}
use Rattle.node_facts.specs.Facts.{nodes_seen}
use Rattle.node_surroundings.specs.Seen.{surroundings_seen}
use Rattle.declaration_rows.specs.Kept.{at_end}
use Rattle.declaration_rows.proofs.LeastLemmas.{least_more}
use Rattle.declaration_rows.proofs.tentative.all_at_end.Goals as goal

pub loop-handle-preserved : goal.loop-handle-preserved
loop-handle-preserved c =
    let table = c.args.types.now in
    let said = at_end (told_in table) (nodes_of c.args.unit.now) (surroundings_seen c.args.surroundings.now) (nodes_seen table c.args.facts.now) in
    let handles = c.args.handles.now in
    let index = c.loop-handle.handle-index in
    let handle = get_or handles index 0 in
    let least = option_map broken_seen c.loop-handle.least in
    let rest = flat_map said (drop (index + 1) handles) in
    ap (λ least. lesser least (least_broken rest)) (c.lesser-least.ensures ∙ ap (lesser least) c.node_at_end.ensures)
    ∙ least_more least (said handle) rest
    ∙ ap (λ others. lesser least (least_broken (flat_map said others))) (sym (drop_more handles index 0 c.loop-handle-test.true))
    ∙ c.loop-handle.invariant
