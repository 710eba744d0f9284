-- By what is called.
use Rattle.std.proofs.Common.{◌≡◌, [], ◌++◌, IfOk, OnOk, Some, map, option_map, sym, ap, ◌∙◌, subst, append-nil}
use Rattle.std.proofs.lemmas.List.Elements.{All-nil}
use Rattle.vocabulary.specs.declared.error_kind.ErrorKind.TheVariants.{CalledObjectIsNoFunction}
use Rattle.meaning_typing.specs.Facts.{Unknown, type_of_value}
use Rattle.meaning_typing.specs.Rows.{Row, breaks, breaks_at, void_used}
use Rattle.meaning_rules.specs.Rules.{least_broken, lesser}
use Rattle.c_types.specs.Table.{type_at}
use Rattle.expression_rows.specs.Arguments.{Appends, argument_seen, without_failures}
use Rattle.expression_rows.specs.Facts.{valued_seen}
use Rattle.expression_rows.specs.Rows.{IsKnownFailure, broken_at, broken_seen, failures_seen, row_seen, told}
use Rattle.expression_rows.proofs.CallLemmas.{call_is, call_is_none}
use Rattle.expression_rows.proofs.call.call_through.Goals as goal

pub returns-in-Some-clause-row : goal.returns-in-Some-clause-row
returns-in-Some-clause-row c =
    let old = c.args.types.now in
    let callee = valued_seen old c.args.callee in
    let otherwise = breaks (breaks_at CalledObjectIsNoFunction c.args.token ++ void_used c.args.standing callee) in
    subst (λ (meant : Row). IfOk c.call_of.result (λ row. row_seen c.call_of.new.types row ≡ told (without_failures meant)))
    (call_is c.args.token (map (argument_seen old) c.args.arguments.now) (type_of_value callee) (type_at old c.in-Some.function) otherwise
    c.in-Some.ensures.function) c.call_of.ensures.row

pub returns-in-Some-clause-failures : goal.returns-in-Some-clause-failures
returns-in-Some-clause-failures c =
    let old = c.args.types.now in
    let callee = valued_seen old c.args.callee in
    let otherwise = breaks (breaks_at CalledObjectIsNoFunction c.args.token ++ void_used c.args.standing callee) in
    subst (λ (meant : Row). OnOk c.call_of.result (Appends old c.args.found.now c.call_of.new.found meant.failures))
    (call_is c.args.token (map (argument_seen old) c.args.arguments.now) (type_of_value callee) (type_at old c.in-Some.function) otherwise
    c.in-Some.ensures.function) c.call_of.ensures.failures

pub returns-in-None-clause-row : goal.returns-in-None-clause-row
returns-in-None-clause-row c =
    let old = c.args.types.now in
    let callee = valued_seen old c.args.callee in
    let used = void_used c.args.standing callee in
    let broken : option_map broken_seen c.lesser.result ≡ lesser (Some (broken_seen (broken_at CalledObjectIsNoFunction c.args.token))) (least_broken used) =
    c.lesser.ensures ∙ (λ i. lesser (option_map broken_seen (c.broken_at.ensures i)) (c.void_used.ensures i)) in
    (λ i. row_seen old (c.breaks.ensures i))
    ∙ (λ i. record { fact = Unknown; broken = broken i; failures = failures_seen old (c.none.ensures i); passed = [] })
    ∙ ap (λ meant. told (without_failures meant))
    (call_is_none c.args.token (map (argument_seen old) c.args.arguments.now) (type_of_value callee)
    (breaks (breaks_at CalledObjectIsNoFunction c.args.token ++ used)) c.in-None.ensures.function)

pub returns-in-None-clause-failures : goal.returns-in-None-clause-failures
returns-in-None-clause-failures c =
    let old = c.args.types.now in
    let callee = valued_seen old c.args.callee in (
      [],
      sym (append-nil c.args.found.now),
      ap (λ (meant : Row). meant.failures)
          (call_is_none c.args.token (map (argument_seen old) c.args.arguments.now) (type_of_value callee)
          (breaks (breaks_at CalledObjectIsNoFunction c.args.token ++ void_used c.args.standing callee)) c.in-None.ensures.function),
      All-nil (IsKnownFailure old),
    )
