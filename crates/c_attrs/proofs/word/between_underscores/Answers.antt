use Rattle.std.proofs.Common.{Some, None, codes, ◌++◌}
use Rattle.std.proofs.lemmas.Bool.Decides.{Decides-eqb}
use Rattle.std.proofs.lemmas.Slice.Eq.{strip_prefix_is, strip_suffix_is}
use Rattle.c_attrs.proofs.WordLemmas.{stripped}
use Rattle.c_attrs.proofs.word.between_underscores.Goals as goal

pub returns-in-Some : goal.returns-in-Some
returns-in-Some c =
    let text = c.args.text.now in
    let behind = c.in-Some.behind in
    stripped text behind.now c.strip_suffix.result
    (strip_prefix_is Decides-eqb text (codes "__") (Some behind) c.in-Some.ensures.cases)
    (strip_suffix_is Decides-eqb behind.now (codes "__") c.strip_suffix.result c.strip_suffix.ensures.cases)

pub returns-in-None : goal.returns-in-None
returns-in-None c = λ plain. strip_prefix_is Decides-eqb c.args.text.now (codes "__") None c.in-None.ensures.cases (plain ++ codes "__")
