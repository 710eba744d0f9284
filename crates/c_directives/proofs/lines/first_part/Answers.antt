use Rattle.std.proofs.lemmas.List.{nil_from_length}
use Rattle.c_directives.proofs.LineLemmas.{directive_seen, from_hash_seen, last_seen}
use Rattle.c_directives.proofs.lines.first_part.Goals as goal

pub returns-in_default-clause-parts : goal.returns-in_default-clause-parts
returns-in_default-clause-parts c = λ names.
    last_seen names c.args.tokens.now c.split_at.result.0.now c.split_at.result.1.now c.text_length.result c.text_length.ensures.length
    c.split_at.ensures.front c.split_at.ensures.back (nil_from_length _ c.in_default.ensures.cases)

pub returns-clause-parts : goal.returns-clause-parts
returns-clause-parts c = λ names.
    directive_seen names c.args.tokens.now c.split_at.result.0.now c.split_at.result.1.now c.text_length.result c.in-Some.hash.now c.in-Some.others.now
    c.split_at-2.result.0.now c.split_at-2.result.1.now c.line_length.result c.text_length.ensures.length c.split_at.ensures.front c.split_at.ensures.back
    c.in-Some.ensures.cases.0 c.line_length.ensures.length c.split_at-2.ensures.front c.split_at-2.ensures.back

pub returns-clause-hash : goal.returns-clause-hash
returns-clause-hash c = λ names.
    from_hash_seen names c.args.tokens.now c.split_at.result.1.now c.text_length.result c.in-Some.hash.now c.in-Some.others.now
    c.split_at-2.result.0.now c.split_at-2.result.1.now c.line_length.result c.text_length.ensures.length c.split_at.ensures.back
    c.in-Some.ensures.cases.0 c.line_length.ensures.length c.split_at-2.ensures.front c.split_at-2.ensures.back
