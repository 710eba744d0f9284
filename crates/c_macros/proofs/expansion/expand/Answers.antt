use Rattle.std.proofs.Common.{◌∙◌, sym, ap, refl, subst, map, List, length, [], ◌++◌, All, arith}
use Rattle.std.proofs.lemmas.List.{append-nil}
use Rattle.meaning_macros.specs.Expansion as expansion
use Rattle.meaning_macros.specs.Expansion.{Expanded}
use Rattle.number_sets.proofs.PlainLemmas.{length-plain}
use Rattle.c_tokens.specs.declared.token.Token.{Token}
use Rattle.c_tokens.specs.Seen.{IsKnown, toks_of}
use Rattle.c_tokens.proofs.SeenLemmas.{Extends-Extends}
use Rattle.c_macros.specs.declared.item.Item.{Item}
use Rattle.c_macros.specs.Ends.{Ends}
use Rattle.c_macros.specs.Expanded.{fresh_item, no_sets, token_of}
use Rattle.c_macros.specs.Reading.{hidings_by}
use Rattle.c_macros.specs.Run.{IsKnownItem}
use Rattle.c_macros.specs.Seen.{table_of}
use Rattle.c_macros.specs.Waiting.{put_of}
use Rattle.c_macros.proofs.BorderLemmas.{knows-table, knows-later, last_reading, last-reads, asked-is, is-expansion, ended-is, tokens-known, made-read, fresh-known}
use Rattle.c_macros.proofs.ClosingLemmas.{none-noted}
use Rattle.c_macros.proofs.HideLemmas.{Reads-earlier}
use Rattle.c_macros.proofs.expansion.expand.Goals as goal

pub steps-init : goal.steps-init
steps-init c =
    let run = c.in_ok-run.run' in
    record {
      grows = ([], sym (append-nil c.args.names.now));
      known = record {
        work = subst (λ (items : List Item). All (IsKnownItem c.args.names.now run.sets) items) (sym c.in_ok-run.ensures.holds.work)
            (fresh-known c.args.names.now run.sets c.args.toks.now (omega (arith, ap length c.in_ok-run.ensures.sets, length-plain)) c.requires.tokens);
        put = subst (λ (items : List Item). All (IsKnownItem c.args.names.now run.sets) items) (sym c.in_ok-run.ensures.holds.put) (λ k d below. absurd (omega (arith, below)));
        raw = subst (λ (items : List Item). All (IsKnownItem c.args.names.now run.sets) items) (sym c.in_ok-run.ensures.holds.raw) (λ k d below. absurd (omega (arith, below)));
        calls = λ k d below. absurd (omega (arith, below, ap length c.in_ok-run.ensures.holds.calls));
        some_set = omega (arith, ap length c.in_ok-run.ensures.sets, length-plain);
        closings = none-noted run.work.items run.closings.items c.in_ok-run.ensures.closings;
      };
      sum = c.requires.sum;
      sets = ([], c.in_ok-run.ensures.sets ∙ sym (append-nil no_sets));
      comes = record {
        shape = record { waits = []; made = []; now = map fresh_item c.args.toks.now; holds = c.in_ok-run.ensures.holds };
        means = λ r reads f is. refl;
      };
    }

pub step-requires-clause-table : goal.step-requires-clause-table
step-requires-clause-table c = knows-later c.args.names.now c.steps.names c.args.table.now c.steps.invariant.grows (knows-table c.args.names.now c.args.table.now c.requires.table)

pub steps-preserved : goal.steps-preserved
steps-preserved c =
    let s = c.steps.invariant.comes.shape in
    let next = c.in-Ok.ensures.comes s.waits s.made s.now s.holds in
    record {
      grows = Extends-Extends c.args.names.now c.steps.names c.step.new.names c.steps.invariant.grows c.step.ensures.keeps;
      known = c.in-Ok.ensures.known;
      sum = c.in-Ok.ensures.sum;
      sets = Extends-Extends no_sets c.steps.run.sets c.step.new.self.sets c.steps.invariant.sets c.step.ensures.sets;
      comes = record {
        shape = next.shape;
        means = λ r reads f is. next.means r reads f is
            ∙ c.steps.invariant.comes.means r (Reads-earlier c.steps.names c.step.new.names c.steps.run.sets c.step.new.self.sets r c.step.ensures.keeps c.step.ensures.sets reads) f is;
      };
    }

pub returns-in-Err-clause-fault : goal.returns-in-Err-clause-fault
returns-in-Err-clause-fault c =
    let names = c.args.names.now in
    let later = c.step.new.names in
    let table = c.args.table.now in
    let s = c.steps.invariant.comes.shape in
    let r = last_reading later c.step.new.self.sets in
    let sets = Extends-Extends no_sets c.steps.run.sets c.step.new.self.sets c.steps.invariant.sets c.step.ensures.sets in
    let grows = Extends-Extends names c.steps.names later c.steps.invariant.grows c.step.ensures.keeps in
    let reads = last-reads later c.step.new.self.sets c.apart.ensures.apart sets in
    let before = Reads-earlier c.steps.names later c.steps.run.sets c.step.new.self.sets r c.step.ensures.keeps c.step.ensures.sets reads in
    let first = (Reads-earlier names later c.step.new.self.sets c.step.new.self.sets r grows ([], sym (append-nil c.step.new.self.sets)) reads).spells in
    let is = is-expansion names r first table c.requires.table in
    subst (Ends c.in-Err.fault) (c.steps.invariant.comes.means r before (expansion.expansion (table_of names table)) is ∙ asked-is names later r first table c.requires.table c.args.toks.now c.requires.tokens c.args.budget.now)
    (c.in-Err.ensures.fails s.waits s.made s.now s.holds r reads (expansion.expansion (table_of names table)) is)

pub returns-in-Err-clause-keeps : goal.returns-in-Err-clause-keeps
returns-in-Err-clause-keeps c = Extends-Extends c.args.names.now c.steps.names c.step.new.names c.steps.invariant.grows c.step.ensures.keeps

pub returns-clause-tokens : goal.returns-clause-tokens
returns-clause-tokens c =
    let comes = c.steps.invariant.comes in
    let done = c.is_done.ensures.done c.steps-test.false comes.shape.waits comes.shape.made comes.shape.now comes.shape.holds in
    let ended = ended-is c.args.names.now c.steps.names c.steps.run c.args.table.now c.requires.table c.args.toks.now c.requires.tokens c.args.budget.now c.steps.left c.steps.invariant.grows c.steps.invariant.sets c.apart-2.ensures.apart comes done.0 done.1 in
    let r = last_reading c.steps.names c.steps.run.sets in
    let reads = last-reads c.steps.names c.steps.run.sets c.apart-2.ensures.apart c.steps.invariant.sets in
    let put = comes.shape.holds.put ∙ ap (λ ws. put_of ws ++ comes.shape.made) done.0 in
    ap (toks_of c.steps.names) (c.in_ok-made.ensures ∙ ap (map (λ (item : Item). item.token)) c.as_slice.ensures.value)
    ∙ made-read c.steps.names c.steps.run.sets r reads.spells c.steps.run.put.items c.steps.invariant.known.put
    ∙ ap (λ items. map token_of (hidings_by r items)) put ∙ ap (λ (e : Expanded). map token_of e.tokens) (sym ended)

pub returns-clause-budget : goal.returns-clause-budget
returns-clause-budget c =
    let comes = c.steps.invariant.comes in
    let done = c.is_done.ensures.done c.steps-test.false comes.shape.waits comes.shape.made comes.shape.now comes.shape.holds in
    ap (λ (e : Expanded). e.end)
    (ended-is c.args.names.now c.steps.names c.steps.run c.args.table.now c.requires.table c.args.toks.now c.requires.tokens c.args.budget.now c.steps.left c.steps.invariant.grows c.steps.invariant.sets c.apart-2.ensures.apart comes done.0 done.1)

pub returns-clause-known : goal.returns-clause-known
returns-clause-known c =
    subst (All (λ (t : Token). IsKnown c.steps.names t.name)) (sym (c.in_ok-made.ensures ∙ ap (map (λ (item : Item). item.token)) c.as_slice.ensures.value))
    (tokens-known c.steps.names c.steps.run.sets c.steps.run.put.items c.steps.invariant.known.put)
