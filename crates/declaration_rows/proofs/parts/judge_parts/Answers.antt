use Rattle.std.proofs.Common.{◌≡◌, Some, None, Option, IfSome, option_map, sym, ap, ◌∙◌, subst}
use Rattle.sparse_model.specs.declared.ids.TypeId.{TypeId}
use Rattle.meaning_rules.specs.Rules.{least_broken, least_token, lesser}
use Rattle.meaning_typing.specs.DeclarationRows as meaning
use Rattle.c_types.specs.Layouts.{told_in}
use Rattle.c_types.specs.Table.{IsTypeId, type_at}
use Rattle.decl_judge.specs.Units.{handles_of, nodes_of}
use Rattle.expression_rows.specs.Rows.{broken_seen}
use Rattle.node_facts.specs.Facts.{nodes_seen}
use Rattle.node_facts.proofs.GrowthLemmas.{joins_on, nodes_later}
use Rattle.declaration_rows.specs.Parts.{large_at, lowest}
use Rattle.declaration_rows.proofs.PartLemmas.{broken_end, broken_step, large_end, large_step, made_end}
use Rattle.declaration_rows.proofs.parts.judge_parts.Goals as goal

pub loop-part-preserved : goal.loop-part-preserved
loop-part-preserved c =
    let old = c.args.types.now in
    let middle = c.loop-part.types in
    let new = c.judge_part.new.types in
    let nodes = nodes_of c.args.unit.now in
    let kept = c.args.facts.now in
    let facts = nodes_seen old kept in
    let told = told_in old in
    let token = c.args.token in
    let part = c.in-Some.part in
    let parts = handles_of c.next.new.self in
    let of = type_at middle c.loop-part.of in
    let keeps = c.loop-part.invariant.keeps in
    let judged = c.in_ok-judged.judged in
    let found = option_map (type_at new) judged.made in
    let made : Some (type_at new c.in-Some-made.made) ≡ found = sym (ap (option_map (type_at new)) c.in-Some-made.is) in
    let later = nodes_later old middle keeps kept c.requires.facts in
    let is : found ≡ meaning.made_by_part told nodes facts token part of =
    c.in_ok-judged.ensures.made ∙ (λ i. meaning.made_by_part (keeps.layouts i) nodes (later i) token part of) in
    let broken = option_map broken_seen c.loop-part.broken in
    let passed = c.loop-part.passed in
    record {
      known = subst (λ (found : Option TypeId). IfSome found (IsTypeId new)) c.in-Some-made.is c.in_ok-judged.ensures.known;
      keeps = joins_on old middle new keeps c.in_ok-judged.ensures.keeps;
      made =
          ap (meaning.made_by_parts told nodes facts token parts) (made ∙ is)
          ∙ ap (λ parts. meaning.made_by_parts told nodes facts token (handles_of parts) (Some of)) (sym c.in-Some.ensures.steps)
          ∙ c.loop-part.invariant.made;
      broken =
          ap (λ least. lesser least (least_broken (meaning.parts_broken told nodes facts token parts (Some (type_at new c.in-Some-made.made))))) c.lesser-broken.ensures
          ∙ ap (λ next. lesser (lesser broken (option_map broken_seen judged.broken)) (least_broken (meaning.parts_broken told nodes facts token parts next))) made
          ∙ broken_step told nodes facts token part parts of found is broken (option_map broken_seen judged.broken)
          (c.in_ok-judged.ensures.broken ∙ (λ i. least_broken (meaning.one_part_broken (keeps.layouts i) nodes (later i) token part of)))
          ∙ ap (λ parts. lesser broken (least_broken (meaning.parts_broken told nodes facts token (handles_of parts) (Some of)))) (sym c.in-Some.ensures.steps)
          ∙ c.loop-part.invariant.broken;
      passed =
          ap (λ least. lowest least (least_token (meaning.large_parts_of told nodes facts token parts (Some (type_at new c.in-Some-made.made))))) c.lowest-passed.ensures
          ∙ ap (λ next. lowest (lowest passed judged.passed) (least_token (meaning.large_parts_of told nodes facts token parts next))) made
          ∙ large_step told nodes facts token part parts of found is passed judged.passed
          (c.in_ok-judged.ensures.passed ∙ ap (λ t. least_token (large_at t nodes part found)) keeps.layouts)
          ∙ ap (λ parts. lowest passed (least_token (meaning.large_parts_of told nodes facts token (handles_of parts) (Some of)))) (sym c.in-Some.ensures.steps)
          ∙ c.loop-part.invariant.passed;
    }

pub returns-in-None-made-clause-made : goal.returns-in-None-made-clause-made
returns-in-None-made-clause-made c =
    let old = c.args.types.now in
    let middle = c.loop-part.types in
    let new = c.judge_part.new.types in
    let nodes = nodes_of c.args.unit.now in
    let kept = c.args.facts.now in
    let facts = nodes_seen old kept in
    let told = told_in old in
    let token = c.args.token in
    let part = c.in-Some.part in
    let parts = handles_of c.next.new.self in
    let of = type_at middle c.loop-part.of in
    let keeps = c.loop-part.invariant.keeps in
    let found = option_map (type_at new) c.in_ok-judged.judged.made in
    let later = nodes_later old middle keeps kept c.requires.facts in
    let is : found ≡ meaning.made_by_part told nodes facts token part of =
    c.in_ok-judged.ensures.made ∙ (λ i. meaning.made_by_part (keeps.layouts i) nodes (later i) token part of) in
    made_end told nodes facts token part parts of found is (ap (option_map (type_at new)) c.in-None-made.is)
    ∙ ap (λ parts. meaning.made_by_parts told nodes facts token (handles_of parts) (Some of)) (sym c.in-Some.ensures.steps)
    ∙ c.loop-part.invariant.made

pub returns-in-None-made-clause-broken : goal.returns-in-None-made-clause-broken
returns-in-None-made-clause-broken c =
    let old = c.args.types.now in
    let middle = c.loop-part.types in
    let new = c.judge_part.new.types in
    let nodes = nodes_of c.args.unit.now in
    let kept = c.args.facts.now in
    let facts = nodes_seen old kept in
    let told = told_in old in
    let token = c.args.token in
    let part = c.in-Some.part in
    let parts = handles_of c.next.new.self in
    let of = type_at middle c.loop-part.of in
    let keeps = c.loop-part.invariant.keeps in
    let judged = c.in_ok-judged.judged in
    let found = option_map (type_at new) judged.made in
    let later = nodes_later old middle keeps kept c.requires.facts in
    let is : found ≡ meaning.made_by_part told nodes facts token part of =
    c.in_ok-judged.ensures.made ∙ (λ i. meaning.made_by_part (keeps.layouts i) nodes (later i) token part of) in
    let broken = option_map broken_seen c.loop-part.broken in
    c.lesser-broken.ensures
    ∙ broken_end told nodes facts token part parts of found is broken (option_map broken_seen judged.broken) (ap (option_map (type_at new)) c.in-None-made.is)
    (c.in_ok-judged.ensures.broken ∙ (λ i. least_broken (meaning.one_part_broken (keeps.layouts i) nodes (later i) token part of)))
    ∙ ap (λ parts. lesser broken (least_broken (meaning.parts_broken told nodes facts token (handles_of parts) (Some of)))) (sym c.in-Some.ensures.steps)
    ∙ c.loop-part.invariant.broken

pub returns-in-None-made-clause-passed : goal.returns-in-None-made-clause-passed
returns-in-None-made-clause-passed c =
    let old = c.args.types.now in
    let middle = c.loop-part.types in
    let new = c.judge_part.new.types in
    let nodes = nodes_of c.args.unit.now in
    let kept = c.args.facts.now in
    let facts = nodes_seen old kept in
    let told = told_in old in
    let token = c.args.token in
    let part = c.in-Some.part in
    let parts = handles_of c.next.new.self in
    let of = type_at middle c.loop-part.of in
    let keeps = c.loop-part.invariant.keeps in
    let judged = c.in_ok-judged.judged in
    let found = option_map (type_at new) judged.made in
    let later = nodes_later old middle keeps kept c.requires.facts in
    let is : found ≡ meaning.made_by_part told nodes facts token part of =
    c.in_ok-judged.ensures.made ∙ (λ i. meaning.made_by_part (keeps.layouts i) nodes (later i) token part of) in
    let passed = c.loop-part.passed in
    c.lowest-passed.ensures
    ∙ large_end told nodes facts token part parts of found is passed judged.passed (ap (option_map (type_at new)) c.in-None-made.is)
    (c.in_ok-judged.ensures.passed ∙ ap (λ t. least_token (large_at t nodes part found)) keeps.layouts)
    ∙ ap (λ parts. lowest passed (least_token (meaning.large_parts_of told nodes facts token (handles_of parts) (Some of)))) (sym c.in-Some.ensures.steps)
    ∙ c.loop-part.invariant.passed
