use Rattle.std.proofs.Common.{Ok, refl, sym, subst, ap, ◌∙◌, ◌++◌, ◌∷◌}
use Rattle.meaning_preprocessing.specs.Directives.{turn_of}
use Rattle.meaning_preprocessing.specs.State.{Continues, and_then, only_ending, tokens_before}
use Rattle.meaning_preprocessing.specs.Unit.{over_parts}
use Rattle.c_tokens.specs.Seen.{tok_of, toks_of}
use Rattle.c_tokens.proofs.SeenLemmas.{Extends-Extends}
use Rattle.c_directives.specs.Conditions.{AreKnown}
use Rattle.c_directives.specs.Groups.{groups_seen}
use Rattle.c_directives.specs.Lines.{parts_of}
use Rattle.c_directives.proofs.KnownLemmas.{known-parts}
use Rattle.c_directives.proofs.LineLemmas.{left-behind}
use Rattle.c_preproc.specs.Files.{IsReadEnd}
use Rattle.c_preproc.specs.Kept.{tokens_kept}
use Rattle.c_preproc.specs.Opens.{IsTurnDone, left_of}
use Rattle.c_preproc.specs.Requests.{request_seen}
use Rattle.c_preproc.specs.States.{EndsUnit, GoesOn, put_of}
use Rattle.c_preproc.proofs.FileLemmas.{behind_text, end-read, part-ends, part-goes, part-includes}
use Rattle.c_preproc.proofs.StateLemmas.{known-later}
use Rattle.c_preproc.proofs.state.State.read_part.Goals as goal

pub turn-requires-clause-held : goal.turn-requires-clause-held
turn-requires-clause-held c =
    let held = c.requires.held in
    let goes = c.in-Ok.ensures.goes held.0 held.1 (λ u. only_ending (Continues u)) held.2 in
    (held.0, goes.0, goes.1)

pub turn-requires-clause-known : goal.turn-requires-clause-known
turn-requires-clause-known c =
    let names = c.args.names.now in
    let known = subst (AreKnown names) (sym c.left-left.ensures) c.requires.known in
    let parts = known-parts names c.left-left.result.now c.in-Directive.text.now c.in-Directive.hash c.in-Directive.rest.now c.in-Directive.behind.now c.in-Directive.ensures.tokens known in
    known-later names c.read_text.new.names c.read_text.ensures.keeps c.in-Directive.rest.now parts.rest_known

pub returns-in-LastText-clause-read : goal.returns-in-LastText-clause-read
returns-in-LastText-clause-read c = λ value include path s is holds.
    let names = c.args.names.now in
    let open_groups = groups_seen c.args.file.now.groups.items in
    end-read c.end_file.new.names value include path c.end_file.new.self c.args.kept.now.files.items c.args.file.now _ c.end_file.result c.end_file.ensures.end
    (subst (λ parts. IsReadEnd c.end_file.new.names path c.end_file.new.self (tokens_before (put_of names c.args.self.now) (over_parts value include parts open_groups s)) c.end_file.result)
    (sym (ap (parts_of names) (sym c.left-left.ensures) ∙ c.in-LastText.ensures.parts names)) (c.end_file.ensures.read path s holds))

pub returns-in-Ok-Done-clause-read : goal.returns-in-Ok-Done-clause-read
returns-in-Ok-Done-clause-read c = λ value include path s is holds.
    let names = c.args.names.now in
    let file = c.args.file.now in
    let mid = c.read_text.new.names in
    let later = c.turn.new.names in
    let text = c.in-Directive.text.now in
    let hash = c.in-Directive.hash in
    let rest = c.in-Directive.rest.now in
    let behind = c.in-Directive.behind.now in
    let open_groups = groups_seen file.groups.items in
    let known = known-parts names c.left-left.result.now text hash rest behind c.in-Directive.ensures.tokens (subst (AreKnown names) (sym c.left-left.ensures) c.requires.known) in
    let parts_are = ap (parts_of names) (sym c.left-left.ensures) ∙ c.in-Directive.ensures.parts names in
    let goes = c.in-Ok.ensures.goes path s (behind_text value include names hash rest behind open_groups) holds in
    let left_is = left-behind (tokens_kept c.args.kept.now.files.items file.place) (text ++ hash ∷ rest) behind file.left _ (c.in-Directive.ensures.tokens ∙ c.left-left.ensures) refl in
    let turn = turn_of value (tok_of mid hash) (toks_of mid rest) open_groups goes.0 in
    let done = subst (λ turned. IsTurnDone later path c.turn.new.self open_groups c.turn.new.groups.items (Ok turned) turn) c.in-Ok-Done.field-0-is (c.in-Ok-Done.ensures.done value path goes.0 is goes.1) in
    subst (λ left. GoesOn later path c.turn.new.self (tokens_before (put_of names c.args.self.now) (over_parts value include (parts_of names (left_of c.args.kept.now.files.items file)) open_groups s))
    (λ u. over_parts value include (parts_of later left) (groups_seen c.turn.new.groups.items) u)) (sym left_is)
    (subst (λ parts. GoesOn later path c.turn.new.self (tokens_before (put_of names c.args.self.now) (over_parts value include parts open_groups s)) (λ u. over_parts value include (parts_of later behind) (groups_seen c.turn.new.groups.items) u))
    (sym parts_are)
    (part-goes value include names mid later c.read_text.ensures.keeps c.turn.ensures.keeps (Extends-Extends names mid later c.read_text.ensures.keeps c.turn.ensures.keeps)
    text hash rest behind known open_groups path c.read_text.new.self c.turn.new.self _ goes.0 goes.1 goes.2 c.in-Ok-Done.ensures.put c.turn.new.groups.items done))

pub returns-in-Ok-Include-clause-read : goal.returns-in-Ok-Include-clause-read
returns-in-Ok-Include-clause-read c = λ value include path s is holds.
    let names = c.args.names.now in
    let file = c.args.file.now in
    let mid = c.read_text.new.names in
    let later = c.turn.new.names in
    let text = c.in-Directive.text.now in
    let hash = c.in-Directive.hash in
    let rest = c.in-Directive.rest.now in
    let behind = c.in-Directive.behind.now in
    let open_groups = groups_seen file.groups.items in
    let known = known-parts names c.left-left.result.now text hash rest behind c.in-Directive.ensures.tokens (subst (AreKnown names) (sym c.left-left.ensures) c.requires.known) in
    let parts_are = ap (parts_of names) (sym c.left-left.ensures) ∙ c.in-Directive.ensures.parts names in
    let goes = c.in-Ok.ensures.goes path s (behind_text value include names hash rest behind open_groups) holds in
    let left_is = left-behind (tokens_kept c.args.kept.now.files.items file.place) (text ++ hash ∷ rest) behind file.left _ (c.in-Directive.ensures.tokens ∙ c.left-left.ensures) refl in
    let turn = turn_of value (tok_of mid hash) (toks_of mid rest) open_groups goes.0 in
    let request = c.in-Ok-Include.request in
    let done = subst (λ turned. IsTurnDone later path c.turn.new.self open_groups c.turn.new.groups.items (Ok turned) turn) c.in-Ok-Include.field-0-is (c.in-Ok-Include.ensures.done value path goes.0 is goes.1) in
    subst (λ left. GoesOn later path c.turn.new.self (tokens_before (put_of names c.args.self.now) (over_parts value include (parts_of names (left_of c.args.kept.now.files.items file)) open_groups s))
    (λ u. and_then (include (request_seen later request) u) (λ v. over_parts value include (parts_of later left) (groups_seen c.turn.new.groups.items) v))) (sym left_is)
    (subst (λ parts. GoesOn later path c.turn.new.self (tokens_before (put_of names c.args.self.now) (over_parts value include parts open_groups s))
    (λ u. and_then (include (request_seen later request) u) (λ v. over_parts value include (parts_of later behind) (groups_seen c.turn.new.groups.items) v)))
    (sym parts_are)
    (part-includes value include names mid later c.read_text.ensures.keeps c.turn.ensures.keeps (Extends-Extends names mid later c.read_text.ensures.keeps c.turn.ensures.keeps)
    text hash rest behind known open_groups path c.read_text.new.self c.turn.new.self _ goes.0 goes.1 goes.2 c.in-Ok-Include.ensures.put c.turn.new.groups.items request done))

pub returns-in-Err-turn-clause-read : goal.returns-in-Err-turn-clause-read
returns-in-Err-turn-clause-read c = λ value include path s is holds.
    let names = c.args.names.now in
    let file = c.args.file.now in
    let mid = c.read_text.new.names in
    let later = c.turn.new.names in
    let text = c.in-Directive.text.now in
    let hash = c.in-Directive.hash in
    let rest = c.in-Directive.rest.now in
    let behind = c.in-Directive.behind.now in
    let open_groups = groups_seen file.groups.items in
    let known = known-parts names c.left-left.result.now text hash rest behind c.in-Directive.ensures.tokens (subst (AreKnown names) (sym c.left-left.ensures) c.requires.known) in
    let parts_are = ap (parts_of names) (sym c.left-left.ensures) ∙ c.in-Directive.ensures.parts names in
    let goes = c.in-Ok.ensures.goes path s (behind_text value include names hash rest behind open_groups) holds in
    subst (λ parts. EndsUnit later (tokens_before (put_of names c.args.self.now) (over_parts value include parts open_groups s)) c.in-Err-turn.fault) (sym parts_are)
    (part-ends value include names mid later c.read_text.ensures.keeps c.turn.ensures.keeps (Extends-Extends names mid later c.read_text.ensures.keeps c.turn.ensures.keeps)
    text hash rest behind known open_groups path c.read_text.new.self c.turn.new.self _ goes.0 goes.1 goes.2 c.in-Err-turn.fault c.turn.new.groups.items (c.in-Err-turn.ensures.done value path goes.0 is goes.1))

pub returns-in-Err-clause-read : goal.returns-in-Err-clause-read
returns-in-Err-clause-read c = λ value include path s is holds.
    let names = c.args.names.now in
    let open_groups = groups_seen c.args.file.now.groups.items in
    let parts_are = ap (parts_of names) (sym c.left-left.ensures) ∙ c.in-Directive.ensures.parts names in
    subst (λ parts. EndsUnit c.read_text.new.names (tokens_before (put_of names c.args.self.now) (over_parts value include parts open_groups s)) c.in-Err.fault) (sym parts_are)
    (c.in-Err.ensures.ends path s (behind_text value include names c.in-Directive.hash c.in-Directive.rest.now c.in-Directive.behind.now open_groups) holds)
