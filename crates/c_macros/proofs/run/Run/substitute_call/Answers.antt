use Rattle.std.proofs.Common.{sym, subst, All}
use Rattle.meaning_macros.specs.Substitution.{substituted}
use Rattle.c_tokens.specs.Seen.{at_of}
use Rattle.c_macros.specs.Arguments.{arguments_by}
use Rattle.c_macros.specs.Reading.{HasName, HasSet}
use Rattle.c_macros.specs.Substitution.{Answers}
use Rattle.c_macros.proofs.PartLemmas.{parts-known}
use Rattle.c_macros.proofs.run.Run.substitute_call.Goals as goal

pub substitute-requires-clause-parts : goal.substitute-requires-clause-parts
substitute-requires-clause-parts c = parts-known c.args.names.now c.args.entry.now c.operands.result.now c.operands.ensures c.requires.body

pub substitute-requires-clause-raw : goal.substitute-requires-clause-raw
substitute-requires-clause-raw c = subst (All (HasName c.args.names.now)) (sym c.arguments_in-raw.ensures.items) c.requires.raw

pub substitute-requires-clause-expanded : goal.substitute-requires-clause-expanded
substitute-requires-clause-expanded c = subst (All (HasName c.args.names.now)) (sym c.arguments_in-expanded.ensures.items) c.requires.put

pub returns-clause-answer : goal.returns-clause-answer
returns-clause-answer c = λ r reads raws readys raw_row put_row.
    subst (λ body. Answers r c.args.most c.substitute.new.laid c.substitute.result (substituted (at_of c.args.call.now.name.token.place) (arguments_by r raws) (arguments_by r readys) body))
    (c.operands.ensures r.spelled reads.apart)
    (c.substitute.ensures.answer r reads raws readys (c.arguments_in-raw.ensures.row raws raw_row) (c.arguments_in-expanded.ensures.row readys put_row))

pub returns-clause-sets : goal.returns-clause-sets
returns-clause-sets c = λ table some raw put.
    c.substitute.ensures.sets table some (subst (All (HasSet table)) (sym c.arguments_in-raw.ensures.items) raw) (subst (All (HasSet table)) (sym c.arguments_in-expanded.ensures.items) put)
