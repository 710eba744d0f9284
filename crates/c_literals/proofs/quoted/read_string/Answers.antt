use Rattle.std.proofs.Common.{◌≡◌, IfErr, refl, sym, ◌∙◌, subst}
use Rattle.meaning_literals.specs.Elements.{elements_of}
use Rattle.meaning_literals.specs.Quoted.{bytes_of, content, string_of}
use Rattle.c_literals.specs.Seen.{IsElementFault}
use Rattle.c_literals.proofs.ElementLemmas.{bytes_of-not_wide}
use Rattle.c_literals.proofs.quoted.read_string.Goals as goal

pub returns-clause-wide : goal.returns-clause-wide
returns-clause-wide c =
    let read : string_of c.args.text.now ≡ bytes_of (elements_of (content c.args.text.now)) = rw (← c.if-not-begins_with.ensures) refl in (
      λ wide. absurd (subst (λ r. IfErr r IsElementFault) wide c.read_content.ensures.only),
      λ wide. absurd (bytes_of-not_wide (elements_of (content c.args.text.now)) (sym read ∙ wide)),
    )
