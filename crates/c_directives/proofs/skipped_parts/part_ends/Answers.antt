use Rattle.std.proofs.Common.{◌++◌, ◌∷◌, length, reverse, refl, sym, subst, ◌∙◌, arith}
use Rattle.c_directives.specs.PartEnds.{AreOpen, last_tokens}
use Rattle.c_directives.proofs.KnownLemmas.{known-parts}
use Rattle.c_directives.proofs.LineLemmas.{left-behind}
use Rattle.c_directives.proofs.PartLemmas.{at-directive, ends-behind, last-known, open-behind, passed-text}
use Rattle.c_directives.proofs.skipped_parts.part_ends.Goals as goal

pub read_word-name-requires : goal.read_word-name-requires
read_word-name-requires c =
    let names = c.args.names.now in
    let left = c.directives.left.now in
    let known = last-known names c.args.tokens.now.items left c.directives.invariant.left c.requires in
    (known-parts names left c.in-Directive.text.now c.in-Directive.hash c.in-Directive.rest.now c.in-Directive.behind.now c.in-Directive.ensures.tokens known).rest_known

pub directives-preserved : goal.directives-preserved
directives-preserved c =
    let names = c.args.names.now in
    let tokens = c.args.tokens.now.items in
    let left = c.directives.left.now in
    let text = c.in-Directive.text.now in
    let hash = c.in-Directive.hash in
    let rest = c.in-Directive.rest.now in
    let behind = c.in-Directive.behind.now in
    let name = c.read_word-name.result.0 in
    let at = c.saturating_sub-at.result in
    let parts = reverse c.directives.parts.items in
    let here = last_tokens tokens (length behind) in
    let here_is = left-behind tokens (text ++ hash ∷ rest) behind (length left) (length behind) (c.in-Directive.ensures.tokens ∙ c.directives.invariant.left) refl in
    let is = at-directive names tokens left text hash rest behind name at c.directives.invariant.left c.in-Directive.ensures.tokens (omega (arith, c.saturating_sub-at.ensures))
    (c.in-Directive.ensures.parts names) (c.in-Directive.ensures.hash names) (sym c.read_word-name.ensures.name) in
    record {
      left = sym here_is;
      parts = subst (λ ts. AreOpen names tokens ts (reverse c.meet.new.parts.items)) here_is
          (subst (AreOpen names tokens here) (sym c.in_ok-meet.ensures.parts) (open-behind names tokens left (length behind) name (last_tokens tokens at) is parts c.directives.invariant.parts));
      ends = ends-behind names tokens left at (passed-text names name left (last_tokens tokens at) here is) c.directives.ends.entries c.meet.new.ends.entries c.directives.invariant.ends name parts c.directives.invariant.parts
          c.in_ok-meet.ensures.ends;
    }
