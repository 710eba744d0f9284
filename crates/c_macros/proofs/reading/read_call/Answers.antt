use Rattle.std.proofs.Common.{◌∙◌, ◌-◌, sym, ap, subst, ℕ, List, length, drop, nat_eq, option_map, slice_get}
use Rattle.std.proofs.lemmas.Option.{same_Some}
use Rattle.c_macros.specs.Arguments.{arguments_by}
use Rattle.c_macros.specs.Calls.{fitted, split_items}
use Rattle.c_macros.specs.Reading.{HasSet, hidings_by}
use Rattle.c_macros.specs.Seen.{macro_by}
use Rattle.c_macros.specs.Stops.{Finds, stops_from}
use Rattle.c_macros.specs.Waiting.{backwards, later_items}
use Rattle.c_macros.proofs.CallReadLemmas.{above-is, none-found, arguments-count, closing-is, empty-is, told}
use Rattle.c_macros.proofs.KnownLemmas.{found-has}
use Rattle.c_macros.proofs.StopLemmas.{split-stops}
use Rattle.c_macros.proofs.reading.read_call.Goals as goal

pub returns-then-not-branch-clause-read : goal.returns-then-not-branch-clause-read
returns-then-not-branch-clause-read c = λ below now is floor s.
    ap (λ cuts. split_items 0 cuts now) (sym (c.cuts_of.ensures s))
    ∙ none-found c.args.floor (split_items 0 c.cuts_of.result now)
    (sym (split-stops c.args.floor 0 c.cuts_of.result now) ∙ ap (stops_from c.args.floor 0 c.cuts_of.result) (sym (above-is c.args.work.now below now c.args.floor is floor))
    ∙ subst (λ closed. Finds c.args.stops.now.items c.note_stops.new.stops.items closed (stops_from c.args.floor 0 c.cuts_of.result (backwards (drop c.args.floor c.args.work.now)))) c.if-not-branch.true (c.in_ok-note_stops.ensures.stops c.requires.above))

pub returns-in-Some-fits-clause-read : goal.returns-in-Some-fits-clause-read
returns-in-Some-fits-clause-read c = λ below now is floor.
    let old = c.args.stops.now.items in
    let new = c.note_stops.new.stops.items in
    let work = c.args.work.now in
    let before = c.len-before.ensures ∙ c.args.stops.now.ok.0 in
    let t = told work below now c.args.floor old new c.cuts_of.result c.in-Some.first c.in-Some-copied.last is floor
    (subst (λ closed. Finds old new closed (stops_from c.args.floor 0 c.cuts_of.result (backwards (drop c.args.floor work)))) c.if-not-branch.false (c.in_ok-note_stops.ensures.stops c.requires.above))
    ((λ i. slice_get (sym c.as_slice-noted.ensures.value i) (sym before i)) ∙ sym c.number_at.ensures ∙ c.in-Some.is)
    (ap (λ (stops : List ℕ). slice_get stops (length stops - 1)) (sym c.as_slice-noted.ensures.value) ∙ sym c.last.ensures.value ∙ sym c.copied.ensures ∙ c.in-Some-copied.is) in
    record {
      found = t.found;
      splits = λ s. ap (λ cuts. split_items 0 cuts now) (sym (c.cuts_of.ensures s)) ∙ t.splits;
      closes = same_Some _ _ (sym (closing-is work below now t.found is t.all) ∙ ap (slice_get work) (sym t.last_is) ∙ sym c.item_at.ensures ∙ c.in-Some-item_at.is);
      stops = t.stops;
      matches = λ r.
          c.fits.ensures r.spelled (hidings_by r t.found.first) (arguments_by r (later_items t.found.more))
          (arguments-count r t.found _ ((λ i. length (c.as_slice-noted.ensures.value i) - before i) ∙ t.count))
          (ap (λ n. nat_eq n (length work)) t.first_is ∙ empty-is r work below now t.found is t.all)
          ∙ ap (option_map (fitted (macro_by r.spelled c.args.m.now) (hidings_by r t.found.first) (arguments_by r (later_items t.found.more)))) c.in-Some-fits.is;
    }

pub returns-in-None-clause-read : goal.returns-in-None-clause-read
returns-in-None-clause-read c = λ below now is floor.
    let old = c.args.stops.now.items in
    let new = c.note_stops.new.stops.items in
    let work = c.args.work.now in
    let before = c.len-before.ensures ∙ c.args.stops.now.ok.0 in
    let t = told work below now c.args.floor old new c.cuts_of.result c.in-Some.first c.in-Some-copied.last is floor
    (subst (λ closed. Finds old new closed (stops_from c.args.floor 0 c.cuts_of.result (backwards (drop c.args.floor work)))) c.if-not-branch.false (c.in_ok-note_stops.ensures.stops c.requires.above))
    ((λ i. slice_get (sym c.as_slice-noted.ensures.value i) (sym before i)) ∙ sym c.number_at.ensures ∙ c.in-Some.is)
    (ap (λ (stops : List ℕ). slice_get stops (length stops - 1)) (sym c.as_slice-noted.ensures.value) ∙ sym c.last.ensures.value ∙ sym c.copied.ensures ∙ c.in-Some-copied.is) in
    record {
      found = t.found;
      splits = λ s. ap (λ cuts. split_items 0 cuts now) (sym (c.cuts_of.ensures s)) ∙ t.splits;
      matches = λ r.
          c.fits.ensures r.spelled (hidings_by r t.found.first) (arguments_by r (later_items t.found.more))
          (arguments-count r t.found _ ((λ i. length (c.as_slice-noted.ensures.value i) - before i) ∙ t.count))
          (ap (λ n. nat_eq n (length work)) t.first_is ∙ empty-is r work below now t.found is t.all)
          ∙ ap (option_map (fitted (macro_by r.spelled c.args.m.now) (hidings_by r t.found.first) (arguments_by r (later_items t.found.more)))) c.in-None.is;
    }

pub returns-in-Some-fits-clause-closing : goal.returns-in-Some-fits-clause-closing
returns-in-Some-fits-clause-closing c = λ table all.
    found-has (HasSet table) c.args.work.now (c.in-Some-copied.last - 1) c.in-Some-item_at.closing all (sym c.item_at.ensures ∙ c.in-Some-item_at.is)
