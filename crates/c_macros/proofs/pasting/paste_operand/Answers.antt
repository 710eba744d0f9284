use Rattle.std.proofs.Common.{◌≡◌, ◌<◌, length, ◌∷◌, [], List, ap, sym, subst, ◌∙◌}
use Rattle.meaning_macros.specs.Hiding as hiding
use Rattle.meaning_macros.specs.Hiding.{Hiding}
use Rattle.meaning_macros.specs.Stringizing.{string_of_argument}
use Rattle.meaning_macros.specs.Substitution.{argument_of, comma_before, operand_tokens, paste}
use Rattle.c_tokens.specs.Seen.{at_of}
use Rattle.c_macros.specs.Arguments.{arguments_by}
use Rattle.c_macros.specs.Chains.{Pastes}
use Rattle.c_macros.specs.Operands.{operand_by}
use Rattle.c_macros.specs.Seen.{token_by}
use Rattle.c_macros.specs.declared.operand.Operand.{Operand}
use Rattle.c_macros.specs.Reading.{HasName, HasSet, hiding_by, hidings_by}
use Rattle.c_macros.proofs.GrowthLemmas.{All-within, ReadsNames-back}
use Rattle.c_macros.proofs.PastingLemmas.{argument-read}
use Rattle.c_macros.proofs.pasting.paste_operand.Goals as goal

pub paste_all-requires-clause-argument : goal.paste_all-requires-clause-argument
paste_all-requires-clause-argument c = All-within (HasName c.args.names.now) _ _ c.argument_of-argument.ensures.within c.requires.raw

pub stringized-requires : goal.stringized-requires
stringized-requires c = All-within (HasName c.args.names.now) _ _ c.argument_of-argument-in-Stringized.ensures.within c.requires.raw

pub paste_rest-requires-clause-rest : goal.paste_rest-requires-clause-rest
paste_rest-requires-clause-rest c = All-within (HasName c.args.names.now) _ _ c.argument_of-rest.ensures.within c.requires.raw

pub returns-in-Argument-clause-pasted : goal.returns-in-Argument-clause-pasted
returns-in-Argument-clause-pasted c = λ base left split r reads raws has.
    let argument : argument_of (arguments_by r raws) c.in-Argument.parameter ≡ hidings_by r c.argument_of-argument.result.now =
    argument-read r raws c.in-Argument.parameter ∙ sym (ap (hidings_by r) (c.argument_of-argument.ensures.argument raws has)) in
    subst (λ (tokens : List Hiding). Pastes r c.args.most c.args.start base c.paste_all.new.items.items c.paste_all.result (paste (hidings_by r left) tokens))
    (sym (ap (λ (o : Operand). operand_tokens (at_of c.args.place) (arguments_by r raws) (operand_by r.spelled o)) c.in-Argument.is ∙ ap (hiding.set_at (at_of c.args.place)) argument))
    (c.paste_all.ensures.pasted base left split r reads)

pub returns-in-Argument-clause-sets : goal.returns-in-Argument-clause-sets
returns-in-Argument-clause-sets c = λ table some items raw. c.paste_all.ensures.sets table some items (All-within (HasSet table) _ _ c.argument_of-argument.ensures.within raw)

pub returns-in-Ok-clause-pasted : goal.returns-in-Ok-clause-pasted
returns-in-Ok-clause-pasted c = λ base left split r reads raws has.
    let made : hiding_by r c.in-Ok.item ≡ string_of_argument (at_of c.args.place) (argument_of (arguments_by r raws) c.in-Stringized.parameter) =
    c.in-Ok.ensures.made r (ReadsNames-back _ _ c.paste_item-in-Ok.ensures.keeps r reads)
    ∙ ap (string_of_argument (at_of c.args.place)) (ap (hidings_by r) (c.argument_of-argument-in-Stringized.ensures.argument raws has) ∙ sym (argument-read r raws c.in-Stringized.parameter)) in
    subst (λ (tokens : List Hiding). Pastes r c.args.most c.args.start base c.paste_item-in-Ok.new.items.items c.paste_item-in-Ok.result (paste (hidings_by r left) tokens))
    (sym (ap (λ (o : Operand). operand_tokens (at_of c.args.place) (arguments_by r raws) (operand_by r.spelled o)) c.in-Stringized.is ∙ ap (λ (token : Hiding). token ∷ []) (sym made)))
    (c.paste_item-in-Ok.ensures.pasted base left split r reads)

pub returns-in-CommaAndRest-clause-pasted : goal.returns-in-CommaAndRest-clause-pasted
returns-in-CommaAndRest-clause-pasted c = λ base left split r reads raws has.
    let argument : argument_of (arguments_by r raws) c.in-CommaAndRest.parameter ≡ hidings_by r c.argument_of-rest.result.now =
    argument-read r raws c.in-CommaAndRest.parameter ∙ sym (ap (hidings_by r) (c.argument_of-rest.ensures.argument raws has)) in
    subst (λ (tokens : List Hiding). Pastes r c.args.most c.args.start base c.paste_rest.new.items.items c.paste_rest.result (paste (hidings_by r left) tokens))
    (sym (ap (λ (o : Operand). operand_tokens (at_of c.args.place) (arguments_by r raws) (operand_by r.spelled o)) c.in-CommaAndRest.is
    ∙ ap (λ (tokens : List Hiding). comma_before (hiding.hides_nothing (hiding.put_at (at_of c.args.place) (token_by r.spelled c.in-CommaAndRest.comma))) (hiding.led c.in-CommaAndRest.space (hiding.set_at (at_of c.args.place) tokens))) argument
    ∙ ap (λ (comma : Hiding). comma_before comma (hiding.led c.in-CommaAndRest.space (hiding.set_at (at_of c.args.place) (hidings_by r c.argument_of-rest.result.now)))) (sym (c.own_item-comma.ensures.read r reads.empty))))
    (c.paste_rest.ensures.pasted base left split r reads)

pub returns-in-CommaAndRest-clause-sets : goal.returns-in-CommaAndRest-clause-sets
returns-in-CommaAndRest-clause-sets c = λ table some items raw.
    c.paste_rest.ensures.sets table some items (subst (λ n. n < length table) (sym c.own_item-comma.ensures.set) some) (All-within (HasSet table) _ _ c.argument_of-rest.ensures.within raw)
