use Rattle.std.proofs.Common.{◌∷◌, length, map, sym, ap, ◌∙◌, arith}
use Rattle.std.proofs.lemmas.List.{nil_from_length}
use Rattle.std.proofs.lemmas.List.Elements.{All-rest, All-same}
use Rattle.meaning_macros.specs.Substitution.{substituted}
use Rattle.c_tokens.specs.Seen.{at_of}
use Rattle.c_macros.specs.Arguments.{arguments_by}
use Rattle.c_macros.specs.Chains.{behind_joined, joined_here}
use Rattle.c_macros.specs.Operands.{grouped, operand_by, part_by}
use Rattle.c_tokens.proofs.SeenLemmas.{Extends-Extends}
use Rattle.c_macros.proofs.GrowthLemmas.{IsKnownPart, ReadsNames-back, names-grown, parts-behind, parts-grown}
use Rattle.c_macros.proofs.BodyPartLemmas.{all_laid, grouped-chain, laid_more, laid_stops, length-behind}
use Rattle.c_macros.proofs.substitution.substitute.Goals as goal

pub loop-first-smaller : goal.loop-first-smaller
loop-first-smaller c = omega (arith, ap length c.in-Ok.ensures.rest, length-behind c.in-Some.others.now, ap length c.in-Some.ensures.cases.0)

pub loop-first-preserved : goal.loop-first-preserved
loop-first-preserved c =
    let keeps = c.lay_chain.ensures.keeps in
    let others = All-rest (IsKnownPart c.loop-first.names) c.in-Some.first.now c.in-Some.others.now c.loop-first.rest.now c.in-Some.ensures.cases.0 c.loop-first.invariant.parts in
    record {
      so_far = λ r reads raws readys has has_ready.
          let so_far = c.loop-first.invariant.so_far r (ReadsNames-back _ _ keeps r reads) raws readys has has_ready in
          laid_more r c.args.most c.loop-first.laid c.lay_chain.new.laid (at_of c.args.place) (arguments_by r raws) (arguments_by r readys)
          (map (operand_by r.spelled) (c.in-Some.first.now.operand ∷ joined_here c.in-Some.others.now)) (grouped (map (part_by r.spelled) c.loop-first.rest.now)) (grouped (map (part_by r.spelled) c.in-Ok.behind.now)) _ so_far
          (ap (λ parts. grouped (map (part_by r.spelled) parts)) c.in-Some.ensures.cases.0
          ∙ grouped-chain r.spelled c.in-Some.first.now c.in-Some.others.now
          ∙ ap (λ parts. map (operand_by r.spelled) (c.in-Some.first.now.operand ∷ joined_here c.in-Some.others.now) ∷ grouped (map (part_by r.spelled) parts)) (sym c.in-Ok.ensures.rest))
          (c.in-Ok.ensures.answer so_far.parts so_far.lays r reads raws readys has has_ready);
      count = c.in-Ok.ensures.count;
      parts = All-same (IsKnownPart c.lay_chain.new.names) _ _ c.in-Ok.ensures.rest (parts-behind c.lay_chain.new.names c.in-Some.others.now (parts-grown _ _ keeps c.in-Some.others.now others));
      raw = names-grown _ _ keeps c.args.raw.items.now c.loop-first.invariant.raw;
      expanded = names-grown _ _ keeps c.args.expanded.items.now c.loop-first.invariant.expanded;
      items = c.in-Ok.ensures.known;
      sets = λ table some raw expanded. c.in-Ok.ensures.sets table some (c.loop-first.invariant.sets table some raw expanded) raw expanded;
      keeps = Extends-Extends _ _ _ c.loop-first.invariant.keeps keeps;
    }

pub returns-in-Err-clause-answer : goal.returns-in-Err-clause-answer
returns-in-Err-clause-answer c = λ r reads raws readys has has_ready.
    let keeps = c.lay_chain.ensures.keeps in
    let so_far = c.loop-first.invariant.so_far r (ReadsNames-back _ _ keeps r reads) raws readys has has_ready in
    laid_stops r c.args.most c.loop-first.laid (at_of c.args.place) (arguments_by r raws) (arguments_by r readys)
    (map (operand_by r.spelled) (c.in-Some.first.now.operand ∷ joined_here c.in-Some.others.now)) (grouped (map (part_by r.spelled) c.loop-first.rest.now)) (grouped (map (part_by r.spelled) (behind_joined c.in-Some.others.now))) _ c.in-Err.fault so_far
    (ap (λ parts. grouped (map (part_by r.spelled) parts)) c.in-Some.ensures.cases.0 ∙ grouped-chain r.spelled c.in-Some.first.now c.in-Some.others.now)
    (c.in-Err.ensures.answer so_far.parts so_far.lays r reads raws readys has has_ready)

pub returns-clause-answer : goal.returns-clause-answer
returns-clause-answer c = λ r reads raws readys has has_ready.
    all_laid r c.args.most c.loop-first.laid _ _
    (ap (λ parts. substituted (at_of c.args.place) (arguments_by r raws) (arguments_by r readys) (grouped (map (part_by r.spelled) parts))) (nil_from_length c.loop-first.rest.now c.in_default.ensures.cases))
    (c.loop-first.invariant.so_far r reads raws readys has has_ready)
