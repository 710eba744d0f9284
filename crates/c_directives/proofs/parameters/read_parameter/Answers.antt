use Rattle.std.proofs.Common.{true, false, refl, ap, sym, ◌∙◌}
use Rattle.meaning_preprocessing.specs.DefinitionLines.{last_parameter}
use Rattle.c_tokens.specs.declared.token.Token.{Token}
use Rattle.c_tokens.specs.Seen.{IsKnown, toks_of}
use Rattle.c_directives.proofs.FrontLemmas.{all_behind, all_first}
use Rattle.c_directives.proofs.ParameterLemmas.{read_as}
use Rattle.c_directives.proofs.parameters.read_parameter.Goals as goal

pub returns-then-is_ellipsis-clause-parameter : goal.returns-then-is_ellipsis-clause-parameter
returns-then-is_ellipsis-clause-parameter c =
    c.last_parameter.ensures.parameter c.args.names.now ∙ ap (λ name. last_parameter true name (toks_of c.args.names.now c.in_ok-first.others.now)) c.requires.made.rest
    ∙ read_as c.args.names.now c.args.tokens.now c.in_ok-first.others.now c.in_ok-second.behind.now c.in_ok-first.first.now c.in_ok-second.second.now true _ _ _
    c.in_ok-first.ensures.cases.0 c.in_ok-second.ensures.cases.0 (sym c.if-is_ellipsis.true ∙ c.is_ellipsis.ensures) refl refl refl

pub returns-then-is_ellipsis-clause-known : goal.returns-then-is_ellipsis-clause-known
returns-then-is_ellipsis-clause-known c =
    let P = λ (t : Token). IsKnown c.args.names.now t.name in
    c.last_parameter.ensures.known c.args.names.now c.requires.made.rest_known
    (all_behind P c.args.tokens.now c.in_ok-first.others.now c.in_ok-first.first.now c.in_ok-first.ensures.cases.0 c.requires.known)

pub returns-then-is_ellipsis-2-clause-parameter : goal.returns-then-is_ellipsis-2-clause-parameter
returns-then-is_ellipsis-2-clause-parameter c =
    c.last_parameter-then-is_ellipsis-2.ensures.parameter c.args.names.now
    ∙ read_as c.args.names.now c.args.tokens.now c.in_ok-first.others.now c.in_ok-second.behind.now c.in_ok-first.first.now c.in_ok-second.second.now false true true _
    c.in_ok-first.ensures.cases.0 c.in_ok-second.ensures.cases.0 (sym c.if-is_ellipsis.false ∙ c.is_ellipsis.ensures) (sym c.if-not-is_parameter_name.false ∙ c.is_parameter_name.ensures)
    (sym c.if-is_ellipsis-2.true ∙ c.is_ellipsis-2.ensures) refl

pub returns-then-is_ellipsis-2-clause-known : goal.returns-then-is_ellipsis-2-clause-known
returns-then-is_ellipsis-2-clause-known c =
    let P = λ (t : Token). IsKnown c.args.names.now t.name in
    c.last_parameter-then-is_ellipsis-2.ensures.known c.args.names.now
    (all_first P c.args.tokens.now c.in_ok-first.others.now c.in_ok-first.first.now c.in_ok-first.ensures.cases.0 c.requires.known)
    (all_behind P c.in_ok-first.others.now c.in_ok-second.behind.now c.in_ok-second.second.now c.in_ok-second.ensures.cases.0
    (all_behind P c.args.tokens.now c.in_ok-first.others.now c.in_ok-first.first.now c.in_ok-first.ensures.cases.0 c.requires.known))

pub returns-then-is_comma-clause-parameter : goal.returns-then-is_comma-clause-parameter
returns-then-is_comma-clause-parameter c =
    read_as c.args.names.now c.args.tokens.now c.in_ok-first.others.now c.in_ok-second.behind.now c.in_ok-first.first.now c.in_ok-second.second.now false true false true
    c.in_ok-first.ensures.cases.0 c.in_ok-second.ensures.cases.0 (sym c.if-is_ellipsis.false ∙ c.is_ellipsis.ensures) (sym c.if-not-is_parameter_name.false ∙ c.is_parameter_name.ensures)
    (sym c.if-is_ellipsis-2.false ∙ c.is_ellipsis-2.ensures) (sym c.if-is_comma.true ∙ c.is_comma.ensures)

pub returns-then-is_comma-clause-known : goal.returns-then-is_comma-clause-known
returns-then-is_comma-clause-known c =
    let P = λ (t : Token). IsKnown c.args.names.now t.name in (
      all_first P c.args.tokens.now c.in_ok-first.others.now c.in_ok-first.first.now c.in_ok-first.ensures.cases.0 c.requires.known,
      all_behind P c.in_ok-first.others.now c.in_ok-second.behind.now c.in_ok-second.second.now c.in_ok-second.ensures.cases.0
          (all_behind P c.args.tokens.now c.in_ok-first.others.now c.in_ok-first.first.now c.in_ok-first.ensures.cases.0 c.requires.known),
    )

pub returns-clause-parameter : goal.returns-clause-parameter
returns-clause-parameter c =
    c.last_parameter-2.ensures.parameter c.args.names.now
    ∙ read_as c.args.names.now c.args.tokens.now c.in_ok-first.others.now c.in_ok-second.behind.now c.in_ok-first.first.now c.in_ok-second.second.now false true false false
    c.in_ok-first.ensures.cases.0 c.in_ok-second.ensures.cases.0 (sym c.if-is_ellipsis.false ∙ c.is_ellipsis.ensures) (sym c.if-not-is_parameter_name.false ∙ c.is_parameter_name.ensures)
    (sym c.if-is_ellipsis-2.false ∙ c.is_ellipsis-2.ensures) (sym c.if-is_comma.false ∙ c.is_comma.ensures)

pub returns-clause-known : goal.returns-clause-known
returns-clause-known c =
    let P = λ (t : Token). IsKnown c.args.names.now t.name in
    c.last_parameter-2.ensures.known c.args.names.now
    (all_first P c.args.tokens.now c.in_ok-first.others.now c.in_ok-first.first.now c.in_ok-first.ensures.cases.0 c.requires.known)
    (all_behind P c.args.tokens.now c.in_ok-first.others.now c.in_ok-first.first.now c.in_ok-first.ensures.cases.0 c.requires.known)
