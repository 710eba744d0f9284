use Rattle.std.proofs.Common.{◌≡◌, ◌∙◌, ◌+◌, ◌-◌, ◌&&◌, ◌<◌, sym, ap, subst, ◌∷◌, ◌++◌, [], length, take, nat_eq, nat_lt, refl, arith, length-append}
use Rattle.std.proofs.lemmas.Bool.{ne_eqb}
use Rattle.std.proofs.lemmas.Option.{same_Some}
use Rattle.meaning_macros.specs.Signs.{is_comma}
use Rattle.c_macros.specs.Stops.{Noted, behind, stops_from}
use Rattle.c_macros.specs.Waiting.{backwards}
use Rattle.c_macros.proofs.ClosingLemmas.{AreOpen, above, above-step, closed, jumped, none-above, noted-more, opened, passed, stepped, stop-above, stops-jumped}
use Rattle.c_macros.proofs.StopLemmas.{stops-last, stops-closed, stops-opened, stops-cut, stops-over, behind-one, none-behind, stop-noted}
use Rattle.c_macros.proofs.VectorLemmas.{backwards-append}
use Rattle.c_macros.proofs.stops.note_stops.Goals as goal

pub returns-in_default-pop-clause-stops : goal.returns-in_default-pop-clause-stops
returns-in_default-pop-clause-stops c = λ ok.
    let work = c.args.work.now in
    let floor = c.args.floor in
    let next = c.walk.top - 1 in
    let item = c.in-Some.item in
    let count = length c.walk.openings.items in
    let ts = above floor (take next work) in
    let down : take c.walk.top work ≡ take next work ++ item ∷ [] = stepped work floor c.walk.top item c.walk-test.true (sym c.item_at.ensures ∙ c.in-Some.is) in
    let read : above floor (take c.walk.top work) ≡ item ∷ ts = above-step work floor c.walk.top next (item ∷ []) down (omega (arith, c.walk-test.true)) (omega (arith, c.walk.invariant.within)) in
    let inside : next < length work = omega (arith, c.walk-test.true, c.walk.invariant.within) in
    sym (c.walk.invariant.found ok)
    ∙ ap (behind c.walk.stops.items) (ap (stops_from floor count c.walk.left) read
    ∙ stops-last floor count c.walk.left item ts (sym c.closes.ensures ∙ c.if-closes.true) (omega (arith, c.in_default-pop.ensures.cases.0, c.walk.openings.ok.0)))
    ∙ stop-noted c.walk.stops.items c.push.new.self.items _ (floor + length (item ∷ ts)) c.in_ok-push.ensures.items (stop-above work floor c.walk.top item c.walk-test.true c.walk.invariant.within)

pub note-requires : goal.note-requires
note-requires c =
    let are = subst (AreOpen c.args.work.now c.walk.top 0) (ap backwards c.in-Some-pop.ensures.items ∙ backwards-append c.pop.new.self.items (c.in-Some-pop.opening ∷ [])) c.walk.invariant.openings in
    omega (arith, are.0.inside, c.requires.count)

pub walk-preserved-then-closes : goal.walk-preserved-then-closes
walk-preserved-then-closes c =
    let work = c.args.work.now in
    let floor = c.args.floor in
    let next = c.walk.top - 1 in
    let item = c.in-Some.item in
    let count = length c.walk.openings.items in
    let ts = above floor (take next work) in
    let down : take c.walk.top work ≡ take next work ++ item ∷ [] = stepped work floor c.walk.top item c.walk-test.true (sym c.item_at.ensures ∙ c.in-Some.is) in
    let read : above floor (take c.walk.top work) ≡ item ∷ ts = above-step work floor c.walk.top next (item ∷ []) down (omega (arith, c.walk-test.true)) (omega (arith, c.walk.invariant.within)) in
    let inside : next < length work = omega (arith, c.walk-test.true, c.walk.invariant.within) in
    let opening = c.in-Some-pop.opening in
    let others = c.pop.new.self.items in
    let right = sym c.closes.ensures ∙ c.if-closes.true in
    let are = subst (AreOpen work c.walk.top 0) (ap backwards c.in-Some-pop.ensures.items ∙ backwards-append others (opening ∷ [])) c.walk.invariant.openings in
    let done = closed work c.walk.top next opening item (backwards others) inside down right are in
    let one_more : count ≡ length others + 1 = ap length c.in-Some-pop.ensures.items ∙ length-append others (opening ∷ []) in
    record {
      found = λ ok. ap (behind c.walk.stops.items) (sym (ap (stops_from floor count c.walk.left) read ∙ stops-closed floor count c.walk.left item ts right (ne_eqb count 0 (λ same. omega (arith, same, one_more)))
          ∙ ap (λ d. stops_from floor d c.walk.left ts) (omega (arith, one_more)))) ∙ c.walk.invariant.found ok;
      within = omega (arith, inside);
      closings = noted-more work c.walk.closings.items c.note.new.closings.items opening (next + 1) next refl done.0 c.in_ok-note.ensures c.walk.invariant.closings;
      openings = done.1;
    }

pub walk-preserved-in-Some-closing_of : goal.walk-preserved-in-Some-closing_of
walk-preserved-in-Some-closing_of c =
    let work = c.args.work.now in
    let floor = c.args.floor in
    let next = c.walk.top - 1 in
    let item = c.in-Some.item in
    let count = length c.walk.openings.items in
    let ts = above floor (take next work) in
    let down : take c.walk.top work ≡ take next work ++ item ∷ [] = stepped work floor c.walk.top item c.walk-test.true (sym c.item_at.ensures ∙ c.in-Some.is) in
    let read : above floor (take c.walk.top work) ≡ item ∷ ts = above-step work floor c.walk.top next (item ∷ []) down (omega (arith, c.walk-test.true)) (omega (arith, c.walk.invariant.within)) in
    let inside : next < length work = omega (arith, c.walk-test.true, c.walk.invariant.within) in
    let closing = c.in-Some-closing_of.closing in
    let right = sym c.closes.ensures ∙ c.if-closes.false in
    let left = sym c.opens.ensures ∙ c.if-opens.true in
    let noted : Noted work next closing = c.walk.invariant.closings next closing c.in-Some-closing_of.ensures.noted inside in
    record {
      found = λ ok. ap (behind c.walk.stops.items) (sym (stops-jumped work floor c.walk.top next closing c.walk.left count item down right left noted c.in-Some-closing_of.ensures.above c.in-Some-closing_of.ensures.below (omega (arith, inside))))
          ∙ c.walk.invariant.found ok;
      within = omega (arith, inside, noted.less);
      closings = c.walk.invariant.closings;
      openings = jumped work c.walk.top next closing item (backwards c.walk.openings.items) down right left noted c.walk.invariant.openings;
    }

pub walk-preserved-then-opens : goal.walk-preserved-then-opens
walk-preserved-then-opens c =
    let work = c.args.work.now in
    let floor = c.args.floor in
    let next = c.walk.top - 1 in
    let item = c.in-Some.item in
    let count = length c.walk.openings.items in
    let ts = above floor (take next work) in
    let down : take c.walk.top work ≡ take next work ++ item ∷ [] = stepped work floor c.walk.top item c.walk-test.true (sym c.item_at.ensures ∙ c.in-Some.is) in
    let read : above floor (take c.walk.top work) ≡ item ∷ ts = above-step work floor c.walk.top next (item ∷ []) down (omega (arith, c.walk-test.true)) (omega (arith, c.walk.invariant.within)) in
    let inside : next < length work = omega (arith, c.walk-test.true, c.walk.invariant.within) in
    let right = sym c.closes.ensures ∙ c.if-closes.false in
    let left = sym c.opens.ensures ∙ c.if-opens.true in
    let more = c.push-then-opens.new.self.items in
    record {
      found = λ ok. ap (behind c.walk.stops.items) (sym (ap (stops_from floor count c.walk.left) read ∙ stops-opened floor count c.walk.left item ts right left
          ∙ ap (λ d. stops_from floor d c.walk.left ts) (omega (arith, ap length c.in_ok-push-2.ensures.items, length-append c.walk.openings.items (next ∷ []))))) ∙ c.walk.invariant.found ok;
      within = omega (arith, inside);
      closings = c.walk.invariant.closings;
      openings = subst (AreOpen work next 0) (sym (ap backwards c.in_ok-push-2.ensures.items ∙ backwards-append c.walk.openings.items (next ∷ [])))
          (opened work c.walk.top next item (backwards c.walk.openings.items) inside down right left c.walk.invariant.openings);
    }

pub walk-preserved-then-parts : goal.walk-preserved-then-parts
walk-preserved-then-parts c =
    let work = c.args.work.now in
    let floor = c.args.floor in
    let next = c.walk.top - 1 in
    let item = c.in-Some.item in
    let count = length c.walk.openings.items in
    let ts = above floor (take next work) in
    let down : take c.walk.top work ≡ take next work ++ item ∷ [] = stepped work floor c.walk.top item c.walk-test.true (sym c.item_at.ensures ∙ c.in-Some.is) in
    let read : above floor (take c.walk.top work) ≡ item ∷ ts = above-step work floor c.walk.top next (item ∷ []) down (omega (arith, c.walk-test.true)) (omega (arith, c.walk.invariant.within)) in
    let inside : next < length work = omega (arith, c.walk-test.true, c.walk.invariant.within) in
    let right = sym c.closes.ensures ∙ c.if-closes.false in
    let left = sym c.opens.ensures ∙ c.if-opens.false in
    let depth : c.len.result ≡ count = c.len.ensures ∙ c.walk.openings.ok.0 in
    let comma = ap (λ n. is_comma item.token.kind && nat_eq n 0 && nat_lt 0 c.walk.left) (sym depth) ∙ sym c.parts.ensures ∙ c.if-parts.true in
    record {
      found = λ ok. ap (λ stops. behind stops (stops_from floor count (c.walk.left - 1) ts))
          (same_Some _ _ (sym (stop-noted c.walk.stops.items c.push-then-parts.new.self.items _ (floor + length (item ∷ ts)) c.in_ok-push-3.ensures.items (stop-above work floor c.walk.top item c.walk-test.true c.walk.invariant.within))))
          ∙ behind-one c.walk.stops.items (floor + length (item ∷ ts)) (stops_from floor count (c.walk.left - 1) ts)
          ∙ ap (behind c.walk.stops.items) (sym (ap (stops_from floor count c.walk.left) read ∙ stops-cut floor count c.walk.left item ts right left comma)) ∙ c.walk.invariant.found ok;
      within = omega (arith, inside);
      closings = c.walk.invariant.closings;
      openings = passed work c.walk.top next item (backwards c.walk.openings.items) down right left c.walk.invariant.openings;
    }

pub walk-preserved : goal.walk-preserved
walk-preserved c =
    let work = c.args.work.now in
    let floor = c.args.floor in
    let next = c.walk.top - 1 in
    let item = c.in-Some.item in
    let count = length c.walk.openings.items in
    let ts = above floor (take next work) in
    let down : take c.walk.top work ≡ take next work ++ item ∷ [] = stepped work floor c.walk.top item c.walk-test.true (sym c.item_at.ensures ∙ c.in-Some.is) in
    let read : above floor (take c.walk.top work) ≡ item ∷ ts = above-step work floor c.walk.top next (item ∷ []) down (omega (arith, c.walk-test.true)) (omega (arith, c.walk.invariant.within)) in
    let inside : next < length work = omega (arith, c.walk-test.true, c.walk.invariant.within) in
    let right = sym c.closes.ensures ∙ c.if-closes.false in
    let left = sym c.opens.ensures ∙ c.if-opens.false in
    let depth : c.len.result ≡ count = c.len.ensures ∙ c.walk.openings.ok.0 in
    let comma = ap (λ n. is_comma item.token.kind && nat_eq n 0 && nat_lt 0 c.walk.left) (sym depth) ∙ sym c.parts.ensures ∙ c.if-parts.false in
    record {
      found = λ ok. ap (behind c.walk.stops.items) (sym (ap (stops_from floor count c.walk.left) read ∙ stops-over floor count c.walk.left item ts right left comma)) ∙ c.walk.invariant.found ok;
      within = omega (arith, inside);
      closings = c.walk.invariant.closings;
      openings = passed work c.walk.top next item (backwards c.walk.openings.items) down right left c.walk.invariant.openings;
    }

pub returns-clause-stops : goal.returns-clause-stops
returns-clause-stops c = λ ok.
    none-behind c.args.stops.now.items _ (sym (c.walk.invariant.found ok)
    ∙ ap (λ items. behind c.walk.stops.items (stops_from c.args.floor (length c.walk.openings.items) c.walk.left items)) (none-above c.args.work.now c.args.floor c.walk.top (omega (arith, c.walk-test.false)) c.walk.invariant.within))
