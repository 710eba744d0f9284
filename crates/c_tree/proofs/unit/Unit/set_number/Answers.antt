use Rattle.std.proofs.Common.{◌-◌, sym, ap, subst, ◌∙◌}
use Rattle.c_tree.specs.Seen.{IsUnitList, list_of}
use Rattle.c_tree.specs.Numbers.{with_number}
use Rattle.c_tree.proofs.Numbers.{numbered-seen, IsUnitList-numbered}
use Rattle.c_tree.proofs.unit.Unit.set_number.Goals as goal

pub invariant_of-self : goal.invariant_of-self
invariant_of-self c =
    subst (λ seen. IsUnitList (record { first = c.self.inside.first; nodes = seen }))
    (sym (numbered-seen c.self.inside.nodes (c.args.h - c.self.inside.first) c.args.number c.get_mut.result.now c.get_mut.ensures.value))
    (IsUnitList-numbered (list_of c.self.inside.first c.self.inside.nodes) c.args.h c.args.number c.self.invariant)

pub returns : goal.returns
returns c =
    ap (λ seen. record { first = c.self.inside.first; nodes = seen })
    (numbered-seen c.self.inside.nodes (c.args.h - c.self.inside.first) c.args.number c.get_mut.result.now c.get_mut.ensures.value)
    ∙ ap (λ list. with_number list c.args.h c.args.number) c.self.view_is
