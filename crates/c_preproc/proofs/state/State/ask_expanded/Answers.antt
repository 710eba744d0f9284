use Rattle.std.proofs.Common.{[], List, IfSome, option_map, sym, ap, subst, ◌∙◌}
use Rattle.vocabulary.specs.declared.error_kind.ErrorKind.TheVariants.{MalformedDirective}
use Rattle.meaning_preprocessing.specs.Directives.{asked_if}
use Rattle.meaning_preprocessing.specs.Search.{header_of}
use Rattle.meaning_preprocessing.specs.State.{expanded_in, refused}
use Rattle.c_tokens.specs.declared.token.Token.{Token}
use Rattle.c_tokens.specs.Seen.{at_of, tok_of, toks_of}
use Rattle.c_directives.specs.Headers.{IsKnownHeader, header_seen}
use Rattle.c_preproc.specs.Texts.{before_in}
use Rattle.c_preproc.proofs.AskLemmas.{expanded-asks}
use Rattle.c_preproc.proofs.StateLemmas.{Holds-later}
use Rattle.c_preproc.proofs.TaskLemmas.{halts-told}
use Rattle.c_preproc.proofs.TextLemmas.{line-stops}
use Rattle.c_preproc.proofs.state.State.ask_expanded.Goals as goal

pub returns-in-Err-clause-asked : goal.returns-in-Err-clause-asked
returns-in-Err-clause-asked c = λ path s holds.
    let names = c.args.names.now in
    let piece = expanded_in s (toks_of names c.args.line.now) in
    line-stops c.expanded.new.names piece (before_in c.in-Err.fault) c.fault_of.result (λ tokens u. asked_if (tok_of names c.args.hash.now) (tok_of names c.args.first.now) (header_of tokens) u)
    (c.fault_of.ensures.stops path s piece (c.in-Err.ensures.still path s holds) (c.in-Err.ensures.stops path s holds))

pub returns-in-Err-clause-known : goal.returns-in-Err-clause-known
returns-in-Err-clause-known c =
    let held = c.requires.held in
    c.fault_of.ensures.known held.0 held.1 (c.in-Err.ensures.still held.0 held.1 held.2)

pub returns-in_default-clause-asked : goal.returns-in_default-clause-asked
returns-in_default-clause-asked c = λ path s holds.
    let names = c.args.names.now in
    let mid = c.expanded.new.names in
    let later = c.expanded_header.new.names in
    let hash = tok_of names c.args.hash.now in
    let first = tok_of names c.args.first.now in
    let done = c.in-Ok.ensures.done path s holds in
    let still = Holds-later mid later c.expanded_header.ensures.keeps c.apart.ensures.apart path c.expanded.new.self done.0 done.1 in
    let none = ap (λ (ts : List Token). header_of (toks_of mid ts)) (sym c.as_slice.ensures.value) ∙ sym c.in_ok-found.ensures.header ∙ ap (option_map (header_seen later)) c.in_default.is in
    halts-told later c.malformed.result (refused done.0 MalformedDirective (at_of c.args.hash.now.place) []) _ (c.malformed.ensures.stop path done.0 still)
    (expanded-asks hash first s (toks_of names c.args.line.now) (toks_of mid c.in-Ok.tokens.items) done.0 done.2 ∙ ap (λ found. asked_if hash first found done.0) none)

pub returns-in_default-clause-known : goal.returns-in_default-clause-known
returns-in_default-clause-known c =
    let held = c.requires.held in
    let done = c.in-Ok.ensures.done held.0 held.1 held.2 in
    c.malformed.ensures.known (held.0, done.0, Holds-later c.expanded.new.names c.expanded_header.new.names c.expanded_header.ensures.keeps c.apart.ensures.apart held.0 c.expanded.new.self done.0 done.1)

pub returns-clause-asked : goal.returns-clause-asked
returns-clause-asked c = λ path s holds.
    let names = c.args.names.now in
    let mid = c.expanded.new.names in
    let later = c.expanded_header.new.names in
    let hash = tok_of names c.args.hash.now in
    let first = tok_of names c.args.first.now in
    let done = c.in-Ok.ensures.done path s holds in
    let still = Holds-later mid later c.expanded_header.ensures.keeps c.apart.ensures.apart path c.expanded.new.self done.0 done.1 in
    let some = ap (λ (ts : List Token). header_of (toks_of mid ts)) (sym c.as_slice.ensures.value) ∙ sym c.in_ok-found.ensures.header ∙ ap (option_map (header_seen later)) c.in-Some.is in (
      done.0,
      still,
      expanded-asks hash first s (toks_of names c.args.line.now) (toks_of mid c.in-Ok.tokens.items) done.0 done.2 ∙ ap (λ found. asked_if hash first found done.0) some
          ∙ c.asked.ensures.asked path done.0 still,
    )

pub returns-clause-request : goal.returns-clause-request
returns-clause-request c =
    let held = c.requires.held in
    let later = c.expanded_header.new.names in
    let done = c.in-Ok.ensures.done held.0 held.1 held.2 in
    c.asked.ensures.known (held.0, done.0, Holds-later c.expanded.new.names later c.expanded_header.ensures.keeps c.apart.ensures.apart held.0 c.expanded.new.self done.0 done.1)
    (subst (λ found. IfSome found (IsKnownHeader later)) c.in-Some.is c.in_ok-found.ensures.known)
