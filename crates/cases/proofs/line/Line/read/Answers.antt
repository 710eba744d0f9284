use Rattle.std.proofs.Common.{◌∙◌, ◌++◌, ap, sym, codes}
use Rattle.cases.proofs.Lines.{section_line, escaped_line}
use Rattle.cases.proofs.line.Line.read.Goals as goal

pub returns-then-is_name : goal.returns-then-is_name
returns-then-is_name c =
    let head = c.in-Some-strip_prefix.ensures.cases in
    let inside = c.in-Some-strip_suffix.ensures.cases in
    let name = c.in-Some-strip_suffix-2.ensures.cases in (
      escaped_line c.args.line.now c.in-Some-strip_prefix.head.now c.in-Some-strip_suffix.inside.now c.in-Some-strip_suffix-2.name.now
          (head.1.1 ∙ ap (λ rest. codes "-- " ++ rest) (sym head.2))
          (inside.1.1 ∙ ap (λ front. front ++ codes " --") (sym inside.2))
          (name.1.1 ∙ ap (λ front. front ++ codes " escaped") (sym name.2)),
      c.is_name.ensures.0 c.if-is_name.true,
    )

pub returns-then-is_name-2 : goal.returns-then-is_name-2
returns-then-is_name-2 c =
    let head = c.in-Some-strip_prefix.ensures.cases in
    let inside = c.in-Some-strip_suffix.ensures.cases in (
      section_line c.args.line.now c.in-Some-strip_prefix.head.now c.in-Some-strip_suffix.inside.now
          (head.1.1 ∙ ap (λ rest. codes "-- " ++ rest) (sym head.2))
          (inside.1.1 ∙ ap (λ front. front ++ codes " --") (sym inside.2)),
      c.is_name-2.ensures.0 c.if-is_name-2.true,
    )
