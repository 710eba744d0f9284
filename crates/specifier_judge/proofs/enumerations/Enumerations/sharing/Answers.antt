use Rattle.std.proofs.Common.{sym, ap, subst, ◌∙◌}
use Rattle.meaning_typing.specs.EnumRows.{enumerators_of}
use Rattle.enum_rows.specs.Names.{IsSharing}
use Rattle.specifier_judge.specs.Kept.{sharing_or_own}
use Rattle.specifier_judge.proofs.enumerations.Enumerations.sharing.Goals as goal

pub returns-in-Some : goal.returns-in-Some
returns-in-Some c = λ nodes facts count stands below.
    subst (λ sharing. IsSharing sharing (enumerators_of nodes facts c.args.handle)) (ap sharing_or_own (sym c.kept.ensures ∙ c.in-Some.is))
    (stands.each c.args.handle below)

pub returns-in-None : goal.returns-in-None
returns-in-None c = λ nodes facts count stands below.
    subst (λ sharing. IsSharing sharing (enumerators_of nodes facts c.args.handle)) (ap sharing_or_own (sym c.kept.ensures ∙ c.in-None.is))
    (stands.each c.args.handle below)
