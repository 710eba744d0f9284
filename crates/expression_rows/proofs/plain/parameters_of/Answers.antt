-- The first parameter of what is left stands behind those that were found.
use Rattle.std.proofs.Common.{◌≡◌, ◌<◌, All, [], ◌∷◌, ◌++◌, length, sym, ap, ◌∙◌, subst}
use Rattle.std.proofs.lemmas.List.Elements.{All-push}
use Rattle.sparse_model.specs.declared.ids.TypeId.{TypeId}
use Rattle.c_types.specs.Rows.{parameter_types}
use Rattle.c_types.specs.Table.{type_at, types_in}
use Rattle.expression_rows.specs.Values.{types_before}
use Rattle.expression_rows.proofs.PlainLemmas.{types_before-none, types_before-push}
use Rattle.expression_rows.proofs.plain.parameters_of.Goals as goal

pub parameters-preserved : goal.parameters-preserved
parameters-preserved c =
    let types = types_in c.args.types.now in
    let IsKnown = λ (id : TypeId). id.0 < length types in
    let begins = c.in-Some.ensures.some in
    let pushed : c.push.new.self ≡ c.parameters.found ++ c.in-Some.first ∷ [] = c.in_default-push.ensures.ok in
    record {
      rest = begins.rest_known;
      known = subst (All IsKnown) (sym pushed) (All-push IsKnown c.parameters.found c.in-Some.first c.parameters.invariant.known begins.first_known);
      found =
          ap (λ ids. types_before types ids (parameter_types (type_at c.args.types.now c.in-Some.behind))) pushed
          ∙ types_before-push types c.parameters.found c.in-Some.first (parameter_types (type_at c.args.types.now c.in-Some.behind))
          ∙ ap (types_before types c.parameters.found) (sym begins.parameters)
          ∙ c.parameters.invariant.found;
    }

pub returns-clause-parameters : goal.returns-clause-parameters
returns-clause-parameters c =
    let types = types_in c.args.types.now in
    sym (types_before-none types c.parameters.found)
    ∙ ap (types_before types c.parameters.found) (sym c.in_default.ensures.none)
    ∙ c.parameters.invariant.found
