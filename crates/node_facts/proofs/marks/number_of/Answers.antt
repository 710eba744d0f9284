-- The key that stands there is the mark itself.
use Rattle.std.proofs.Common.{◌≡◌, true, Some, refl, sym, ap, ◌∙◌}
use Rattle.node_facts.specs.declared.marks.NodeMark.{NodeMark}
use Rattle.node_facts.specs.declared.marks.NodeMark.TheVariants as marks
use Rattle.node_facts.specs.contracts.marks.NodeMarkPartialEq.TheImpl.{ghosts}
use Rattle.node_facts.proofs.Alike.{never, expression-same, specified-same, declared-same}
use Rattle.node_facts.proofs.marks.number_of.Goals as goal

-- marks that are alike are one
same : (one other : NodeMark) → ghosts.eq one other ≡ true → one ≡ other
same marks.Unknown marks.Unknown is = refl
same marks.Unknown (marks.Expression other) is = absurd (never is)
same marks.Unknown (marks.Specified other) is = absurd (never is)
same marks.Unknown (marks.Declared other) is = absurd (never is)
same marks.Unknown marks.NamedType is = absurd (never is)
same (marks.Expression one) marks.Unknown is = absurd (never is)
same (marks.Expression one) (marks.Expression other) is = expression-same one other is
same (marks.Expression one) (marks.Specified other) is = absurd (never is)
same (marks.Expression one) (marks.Declared other) is = absurd (never is)
same (marks.Expression one) marks.NamedType is = absurd (never is)
same (marks.Specified one) marks.Unknown is = absurd (never is)
same (marks.Specified one) (marks.Expression other) is = absurd (never is)
same (marks.Specified one) (marks.Specified other) is = specified-same one other is
same (marks.Specified one) (marks.Declared other) is = absurd (never is)
same (marks.Specified one) marks.NamedType is = absurd (never is)
same (marks.Declared one) marks.Unknown is = absurd (never is)
same (marks.Declared one) (marks.Expression other) is = absurd (never is)
same (marks.Declared one) (marks.Specified other) is = absurd (never is)
same (marks.Declared one) (marks.Declared other) is = declared-same one other is
same (marks.Declared one) marks.NamedType is = absurd (never is)
same marks.NamedType marks.Unknown is = absurd (never is)
same marks.NamedType (marks.Expression other) is = absurd (never is)
same marks.NamedType (marks.Specified other) is = absurd (never is)
same marks.NamedType (marks.Declared other) is = absurd (never is)
same marks.NamedType marks.NamedType is = refl

pub returns-clause-stands : goal.returns-clause-stands
returns-clause-stands c =
    let stored = c.in_ok-number.ensures.stored in
    stored.1 ∙ ap Some (sym (same c.args.mark stored.0 stored.2))
