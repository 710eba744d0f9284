-- Each law holds of what a layout is.
use Rattle.std.proofs.Common.{◌≡◌, ◌≤◌, ◌+◌, ◌*◌, ◌%◌, length, replicate, subst}
use Rattle.meaning_layout.specs.Placing.{bits_of}
use Rattle.meaning_layout.specs.Layouts.{Layout}
use Rattle.meaning_layout.specs.laws.Layouts.{StandApart, EachMember, IsAligned, IsInUnit}
use Rattle.meaning_layout.proofs.LayoutLemmas.{fields-in-units, made_by, members-aligned, members-apart, members-inside, size-multiple, unions-at-once}
use Rattle.meaning_layout.proofs.layouts.layouts_are_sound.Goals as goal

pub returns-clause-multiples : goal.returns-clause-multiples
returns-clause-multiples c = λ body layout is made.
    subst (λ (l : Layout). l.size % l.align ≡ 0) (made_by body layout made) (size-multiple body is)

pub returns-clause-inside : goal.returns-clause-inside
returns-clause-inside c = λ body layout is made.
    subst (λ (l : Layout). EachMember (λ member bit. bit + bits_of member ≤ 8 * l.size) body.members l.first_bits) (made_by body layout made) (members-inside body is)

pub returns-clause-apart : goal.returns-clause-apart
returns-clause-apart c = λ body layout is struct made.
    subst (λ (l : Layout). StandApart body.members l.first_bits) (made_by body layout made) (members-apart body is struct)

pub returns-clause-units : goal.returns-clause-units
returns-clause-units c = λ body layout is made.
    subst (λ (l : Layout). EachMember IsInUnit body.members l.first_bits) (made_by body layout made) (fields-in-units body is)

pub returns-clause-aligned : goal.returns-clause-aligned
returns-clause-aligned c = λ body layout is made.
    subst (λ (l : Layout). EachMember (IsAligned body.packed) body.members l.first_bits) (made_by body layout made) (members-aligned body is)

pub returns-clause-unions : goal.returns-clause-unions
returns-clause-unions c = λ body layout union made.
    subst (λ (l : Layout). l.first_bits ≡ replicate (length body.members) 0) (made_by body layout made) (unions-at-once body union)
