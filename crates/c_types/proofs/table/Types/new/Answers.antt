-- The plain integers are kept.
use Rattle.std.proofs.Common.{[], sym, ap, ◌∙◌, subst}
use Rattle.c_types.specs.Rows.{AreRows, types_of}
use Rattle.c_types.specs.Kept.{IsKept}
use Rattle.c_types.proofs.TableLemmas.{kept-integers}
use Rattle.c_types.proofs.table.Types.new.Goals as goal

pub invariant_of-result : goal.invariant_of-result
invariant_of-result c =
    let rows = c.new.result.rows.rows.entries in
    subst (λ members. IsKept rows c.new.result.markings.entries c.new-2.result.entries c.new-3.result.kept.entries c.new-4.result.chains.items members) (sym c.new-4.ensures.kept)
    (subst (λ chains. IsKept rows c.new.result.markings.entries c.new-2.result.entries c.new-3.result.kept.entries chains []) (sym c.new-4.ensures.chains)
    (subst (λ layouts. IsKept rows c.new.result.markings.entries c.new-2.result.entries layouts [] []) (sym c.new-3.ensures)
    (subst (λ bodies. IsKept rows c.new.result.markings.entries bodies [] [] []) (sym c.new-2.ensures.empty)
    (subst (λ markings. IsKept rows markings [] [] [] []) (sym c.new.ensures.markings)
    (kept-integers rows (subst AreRows (sym c.new.ensures.rows) c.in_ok-of_integers.ensures.rows) (ap types_of c.new.ensures.rows ∙ c.in_ok-of_integers.ensures.types))))))
