use Rattle.std.proofs.lemmas.List.{append-nil}
use Rattle.std.proofs.Common.{[], length, map, refl, sym, ap, ◌∙◌, arith}
use Rattle.std.proofs.lemmas.List.Elements.{All-head, All-rest, All-same}
use Rattle.meaning_macros.specs.Substitution.{chain_tokens}
use Rattle.c_tokens.specs.Seen.{at_of}
use Rattle.c_macros.specs.Arguments.{arguments_by}
use Rattle.c_macros.specs.Chains.{joined_here, behind_joined}
use Rattle.c_macros.specs.Operands.{operand_by}
use Rattle.c_tokens.proofs.SeenLemmas.{Extends-Extends}
use Rattle.c_macros.proofs.GrowthLemmas.{IsKnownPart, ReadsNames-back, names-grown, parts-grown}
use Rattle.c_macros.proofs.BodyPartLemmas.{goes-behind, goes-joined}
use Rattle.c_macros.proofs.PastingLemmas.{Stops-chain, goes-far, goes-first, goes-more, goes-stops}
use Rattle.c_macros.proofs.pasting.paste_chain.Goals as goal

pub returns-in-Err-clause-pasted : goal.returns-in-Err-clause-pasted
returns-in-Err-clause-pasted c = λ start base split r reads raws has.
    Stops-chain _ _ c.in-Err.fault (at_of c.args.place) (arguments_by r raws) _ (map (operand_by r.spelled) (joined_here c.args.others.now)) _ refl
    (c.in-Err.ensures.pasted base [] (record { items = split.items; length = c.len-start.ensures ∙ c.args.items.now.ok.0 ∙ ap length (split.items ∙ append-nil base) }) r reads raws has)

pub loop-part-init : goal.loop-part-init
loop-part-init c =
    record {
      goes = λ base split r reads raws has.
          goes-first r _ base c.paste_operand.new.items.items
          (λ so_far. chain_tokens (at_of c.args.place) (arguments_by r raws) so_far (map (operand_by r.spelled) (joined_here c.args.others.now))) _ _
          (c.in-Ok.ensures.pasted base [] (record { items = split.items; length = c.len-start.ensures ∙ c.args.items.now.ok.0 ∙ split.length }) r reads raws has) refl;
      behind = refl;
      parts = parts-grown _ _ c.paste_operand.ensures.keeps c.args.others.now c.requires.others;
      raw = names-grown _ _ c.paste_operand.ensures.keeps c.args.raw.items.now c.requires.raw;
      items = c.in-Ok.ensures.known;
      sets = c.in-Ok.ensures.sets;
      keeps = c.paste_operand.ensures.keeps;
    }

pub returns-then-len-most-clause-pasted : goal.returns-then-len-most-clause-pasted
returns-then-len-most-clause-pasted c = λ start base split r reads raws has.
    let goes = c.loop-part.invariant.goes base (record { items = split.items; length = ap length (split.items ∙ append-nil base) }) r reads raws has in
    goes-far r (at_of c.args.place) (arguments_by r raws) (map (operand_by r.spelled) (joined_here c.loop-part.rest.now)) c.args.most base c.loop-part.items.items _ goes (omega (arith, c.if-len-most.true, c.len.ensures, c.loop-part.items.ok.0))

pub paste_operand-requires-in-Some-clause-operand : goal.paste_operand-requires-in-Some-clause-operand
paste_operand-requires-in-Some-clause-operand c =
    All-head (IsKnownPart c.loop-part.names) c.in-Some.part.now c.in-Some.behind.now (All-same (IsKnownPart c.loop-part.names) _ _ (sym c.in-Some.ensures.cases.0) c.loop-part.invariant.parts)

pub loop-part-preserved : goal.loop-part-preserved
loop-part-preserved c =
    let keeps = c.paste_operand-in-Some.ensures.keeps in
    let front = ap joined_here c.in-Some.ensures.cases.0 ∙ goes-joined c.in-Some.part.now c.in-Some.behind.now c.if-part.false in
    record {
      goes = λ base split r reads raws has.
          let goes = c.loop-part.invariant.goes base split r (ReadsNames-back _ _ keeps r reads) raws has in
          goes-more r (at_of c.args.place) (arguments_by r raws) (map (operand_by r.spelled) (joined_here c.loop-part.rest.now)) (map (operand_by r.spelled) (joined_here c.in-Some.behind.now)) (operand_by r.spelled c.in-Some.part.now.operand)
          _ base c.loop-part.items.items c.paste_operand-in-Some.new.items.items _ goes (ap (map (operand_by r.spelled)) front)
          (c.in-Ok-paste_operand.ensures.pasted base goes.left (record { items = goes.split.items; length = c.len-start.ensures ∙ c.args.items.now.ok.0 ∙ split.length }) r reads raws has);
      behind = sym (ap behind_joined c.in-Some.ensures.cases.0 ∙ goes-behind c.in-Some.part.now c.in-Some.behind.now c.if-part.false) ∙ c.loop-part.invariant.behind;
      parts = parts-grown _ _ keeps c.in-Some.behind.now (All-rest (IsKnownPart c.loop-part.names) c.in-Some.part.now c.in-Some.behind.now c.loop-part.rest.now c.in-Some.ensures.cases.0 c.loop-part.invariant.parts);
      raw = names-grown _ _ keeps c.args.raw.items.now c.loop-part.invariant.raw;
      items = c.in-Ok-paste_operand.ensures.known;
      sets = λ table some items raw. c.in-Ok-paste_operand.ensures.sets table some (c.loop-part.invariant.sets table some items raw) raw;
      keeps = Extends-Extends _ _ _ c.loop-part.invariant.keeps keeps;
    }

pub returns-in-Err-paste_operand-clause-pasted : goal.returns-in-Err-paste_operand-clause-pasted
returns-in-Err-paste_operand-clause-pasted c = λ start base split r reads raws has.
    let keeps = c.paste_operand-in-Some.ensures.keeps in
    let front = ap joined_here c.in-Some.ensures.cases.0 ∙ goes-joined c.in-Some.part.now c.in-Some.behind.now c.if-part.false in
    let is_base = ap length (split.items ∙ append-nil base) in
    let goes = c.loop-part.invariant.goes base (record { items = split.items; length = is_base }) r (ReadsNames-back _ _ keeps r reads) raws has in
    goes-stops r (at_of c.args.place) (arguments_by r raws) (map (operand_by r.spelled) (joined_here c.loop-part.rest.now)) (map (operand_by r.spelled) (joined_here c.in-Some.behind.now)) (operand_by r.spelled c.in-Some.part.now.operand)
    c.args.most c.in-Err-paste_operand.fault base c.loop-part.items.items _ goes (ap (map (operand_by r.spelled)) front)
    (c.in-Err-paste_operand.ensures.pasted base goes.left (record { items = goes.split.items; length = c.len-start.ensures ∙ c.args.items.now.ok.0 ∙ is_base }) r reads raws has)
