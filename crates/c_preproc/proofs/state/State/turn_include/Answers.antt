use Rattle.std.proofs.Common.{◌≡◌, ◌<◌, [], length, sym, ap, arith, ◌∙◌}
use Rattle.std.proofs.lemmas.List.{nil_from_length}
use Rattle.vocabulary.specs.declared.error_kind.ErrorKind.TheVariants.{MalformedDirective}
use Rattle.meaning_preprocessing.specs.Directives.{asked, include_turn}
use Rattle.meaning_preprocessing.specs.State.{refused}
use Rattle.c_tokens.specs.Seen.{at_of, tok_of, toks_of}
use Rattle.c_preproc.proofs.AskLemmas.{line-asks, line-goes-on}
use Rattle.c_preproc.proofs.StateLemmas.{Holds-later}
use Rattle.c_preproc.proofs.TaskLemmas.{halts-told}
use Rattle.c_preproc.proofs.state.State.turn_include.Goals as goal

pub returns-in_default-clause-asked : goal.returns-in_default-clause-asked
returns-in_default-clause-asked c = λ path s holds.
    let names = c.args.names.now in
    let hash = tok_of names c.args.hash.now in
    halts-told names c.malformed.result (refused s MalformedDirective (at_of c.args.hash.now.place) []) _ (c.malformed.ensures.stop path s holds)
    (ap (λ ts. include_turn hash (toks_of names ts) s) (nil_from_length _ c.in_default.ensures.cases))

pub returns-then-not-is_empty-clause-asked : goal.returns-then-not-is_empty-clause-asked
returns-then-not-is_empty-clause-asked c = λ path s holds.
    let names = c.args.names.now in
    let some : 0 < length c.in-Some.others.now = grind (arith, c.if-not-is_empty.true, c.is_empty.ensures) in
    halts-told names c.malformed-then-not-is_empty.result (refused s MalformedDirective (at_of c.args.hash.now.place) []) _ (c.malformed-then-not-is_empty.ensures.stop path s holds)
    (line-goes-on names (tok_of names c.args.hash.now) s c.in-Some.first.now c.in-Some.others.now c.args.line.now c.in-Some.ensures.cases.0 some (sym c.is_header_name.ensures ∙ c.if-not-is_header_name.false))

pub returns-clause-asked : goal.returns-clause-asked
returns-clause-asked c = λ path s holds.
    let names = c.args.names.now in
    let hash = tok_of names c.args.hash.now in
    let first = tok_of names c.in-Some.first.now in
    let none : length c.in-Some.others.now ≡ 0 = grind (arith, c.if-not-is_empty.false, c.is_empty.ensures) in
    let still = Holds-later names c.spelled_header.new.names c.spelled_header.ensures.keeps c.apart.ensures.apart path c.args.self.now s holds in (
      s,
      still,
      line-asks names hash s c.in-Some.first.now c.in-Some.others.now c.args.line.now c.in-Some.ensures.cases.0 none (sym c.is_header_name.ensures ∙ c.if-not-is_header_name.false)
          ∙ ap (λ header. asked hash first header s) (sym c.in_ok-header.ensures.header) ∙ c.asked.ensures.asked path s still,
    )

pub returns-clause-request : goal.returns-clause-request
returns-clause-request c =
    let held = c.requires.held in
    c.asked.ensures.known
    (held.0, held.1, Holds-later c.args.names.now c.spelled_header.new.names c.spelled_header.ensures.keeps c.apart.ensures.apart held.0 c.args.self.now held.1 held.2) c.in_ok-header.ensures.known
