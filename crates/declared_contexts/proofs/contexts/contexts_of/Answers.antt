-- What stands at the place is what stands in a surrounding of it.
use Rattle.std.proofs.Common.{◌≡◌, true, None, Option, Result, Ok, Err, IfOk, option_map, sym, ap, ◌∙◌}
use Rattle.meaning_typing.specs.ContextSums.{contexts_of}
use Rattle.meaning_typing.specs.Declarators.{is_declarator}
use Rattle.meaning_typing.specs.Surroundings.{Surrounding}
use Rattle.meaning_typing.specs.Units.{kind_at}
use Rattle.decl_judge.specs.Units.{nodes_of}
use Rattle.linked_names.specs.Contexts.{sums_of}
use Rattle.linked_names.specs.declared.sums.ContextSums.{ContextSums}
use Rattle.declared_contexts.specs.Sums.{attributes_standing, sums_over}
use Rattle.declared_contexts.proofs.SumLemmas.{no-contexts, standing-contexts}
use Rattle.declared_contexts.proofs.contexts.contexts_of.Goals as goal

pub returns-then-not-is_declarator : goal.returns-then-not-is_declarator
returns-then-not-is_declarator c = λ surrounding parent place.
    no-contexts (nodes_of c.args.unit.now) c.args.declarator surrounding
    (ap is_declarator (sym c.kind_at.ensures) ∙ sym c.is_declarator.ensures ∙ c.if-not-is_declarator.true)

pub returns : goal.returns
returns c = by c.over_all.result c.over_all.ensures
  where
    is : is_declarator (kind_at (nodes_of c.args.unit.now) c.args.declarator) ≡ true
    is = ap is_declarator (sym c.kind_at.ensures) ∙ sym c.is_declarator.ensures ∙ c.if-not-is_declarator.false

    by : {Fault : Type 0} (result : Result (Option ContextSums) Fault)
        → IfOk result (λ sums. option_map sums_of sums ≡ sums_over (nodes_of c.args.unit.now) None (attributes_standing (nodes_of c.args.unit.now) c.args.declarator c.args.parent c.args.place))
        → IfOk result (λ sums. (surrounding : Surrounding) → surrounding.parent ≡ c.args.parent → surrounding.place ≡ c.args.place
        → option_map sums_of sums ≡ contexts_of (nodes_of c.args.unit.now) c.args.declarator surrounding)
    by (Ok sums) over =
        λ surrounding parent place. over ∙ standing-contexts (nodes_of c.args.unit.now) c.args.declarator c.args.parent c.args.place is surrounding parent place
    by (Err fault) over = tt
