use Rattle.std.proofs.Common.{◌++◌, sym, ap, subst, ◌∙◌}
use Rattle.std.proofs.lemmas.List.{append-nil}
use Rattle.meaning_macros.specs.Hiding as hiding
use Rattle.meaning_macros.specs.Substitution.{Joins, Pasted}
use Rattle.c_tokens.specs.Seen.{at_of}
use Rattle.c_macros.specs.Arguments.{arguments_by}
use Rattle.c_macros.specs.Chains.{Pastes, items_at}
use Rattle.c_macros.specs.Reading.{HasName, HasSet, hidings_by}
use Rattle.c_macros.proofs.GrowthLemmas.{All-within, names-placed, sets-placed}
use Rattle.c_macros.proofs.BodyPartLemmas.{lone-none, lone-some}
use Rattle.c_macros.proofs.PastingLemmas.{argument-read, hidings-placed}
use Rattle.c_macros.proofs.substitution.put_chain.Goals as goal

pub returns-in_ok-push_all-in-Some-clause-found : goal.returns-in_ok-push_all-in-Some-clause-found
returns-in_ok-push_all-in-Some-clause-found c = λ start base split r reads raws readys has has_ready.
    record {
      left = items_at c.args.place c.argument_of.result.now;
      split = record { items = c.in_ok-push_all-in-Some.ensures ∙ ap (λ items. items ++ items_at c.args.place c.argument_of.result.now) (split.items ∙ append-nil base); length = split.length };
      read =
          lone-some (at_of c.args.place) (arguments_by r raws) (arguments_by r readys) r.spelled c.args.first c.args.others.now c.in-Some.parameter (sym c.lone_argument.ensures ∙ c.in-Some.is)
          ∙ ap (λ tokens. Joins (hiding.set_at (at_of c.args.place) tokens)) (argument-read r readys c.in-Some.parameter ∙ sym (ap (hidings_by r) (c.argument_of.ensures.argument readys has_ready)))
          ∙ ap Joins (hidings-placed r c.args.place c.argument_of.result.now);
    }

pub returns-in_ok-push_all-in-Some-clause-known : goal.returns-in_ok-push_all-in-Some-clause-known
returns-in_ok-push_all-in-Some-clause-known c =
    names-placed c.args.names.now c.args.place c.args.items.now.items c.argument_of.result.now c.push_all.new.items.items c.in_ok-push_all-in-Some.ensures c.requires.items
    (All-within (HasName c.args.names.now) _ _ c.argument_of.ensures.within c.requires.expanded)

pub returns-in_ok-push_all-in-Some-clause-sets : goal.returns-in_ok-push_all-in-Some-clause-sets
returns-in_ok-push_all-in-Some-clause-sets c = λ table some items raw expanded.
    sets-placed table c.args.place c.args.items.now.items c.argument_of.result.now c.push_all.new.items.items c.in_ok-push_all-in-Some.ensures items
    (All-within (HasSet table) _ _ c.argument_of.ensures.within expanded)

pub returns-in-None-clause-found : goal.returns-in-None-clause-found
returns-in-None-clause-found c = λ start base split r reads raws readys has has_ready.
    subst (λ (found : Pasted). Pastes r c.args.most start base c.paste_chain.new.items.items c.paste_chain.result found)
    (sym (lone-none (at_of c.args.place) (arguments_by r raws) (arguments_by r readys) r.spelled c.args.first c.args.others.now (sym c.lone_argument.ensures ∙ c.in-None.is)))
    (c.paste_chain.ensures.pasted start base split r reads raws has)
