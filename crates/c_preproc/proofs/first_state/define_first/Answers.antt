use Rattle.std.proofs.Common.{[], ◌∷◌, codes, refl}
use Rattle.meaning_preprocessing.specs.Unit.{number_definition}
use Rattle.c_tokens.proofs.SeenLemmas.{Extends-Extends}
use Rattle.c_preproc.proofs.first_state.define_first.Goals as goal

pub returns-clause-defined : goal.returns-clause-defined
returns-clause-defined c = λ has knows.
    let lp64 = number_definition (codes "__LP64__") (codes "1") in
    let version = number_definition (codes "__STDC_VERSION__") (codes "201112L") in
    let standard = number_definition (codes "__STDC__") (codes "1") in
    let knows_first = c.in_ok-define_number.ensures.knows knows in
    let knows_second = c.in_ok-define_number-2.ensures.knows knows_first in
    let knows_third = c.in_ok-define_number-3.ensures.knows knows_second in
    let first = c.in_ok-define_number.ensures.defined [] has knows refl in
    let second = c.in_ok-define_number-2.ensures.defined (lp64 ∷ []) first knows_first refl in
    let third = c.in_ok-define_number-3.ensures.defined (version ∷ lp64 ∷ []) second knows_second refl in
    c.in_ok-define_number-4.ensures.defined (standard ∷ version ∷ lp64 ∷ []) third knows_third refl

pub returns-clause-keeps : goal.returns-clause-keeps
returns-clause-keeps c =
    let old = c.args.names.now in
    let first = c.define_number.new.names in
    let second = c.define_number-2.new.names in
    let third = c.define_number-3.new.names in
    Extends-Extends old third c.define_number-4.new.names
    (Extends-Extends old second third (Extends-Extends old first second c.define_number.ensures.keeps c.define_number-2.ensures.keeps) c.define_number-3.ensures.keeps) c.define_number-4.ensures.keeps
