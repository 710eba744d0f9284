use Rattle.meaning_types.specs.Marks.{with_flags}
use Rattle.meaning_types.proofs.Levels.{bare-without_flags, IsNormal-bare, IsNormal-without_flags, IsNormal-remarked}
use Rattle.meaning_types.proofs.types.normal_types_stay.Goals as goal

pub returns-clause-normal : goal.returns-clause-normal
returns-clause-normal c = record {
  without_qualifiers = IsNormal-bare;
  unflagged = IsNormal-without_flags;
  with_marks = λ qualifiers flags type_ normal. IsNormal-remarked qualifiers (λ own. with_flags own flags) type_ normal;
  of_members = λ qualifiers flags type_ normal. IsNormal-remarked qualifiers (λ own. with_flags flags own) type_ normal;
}

pub returns-clause-commute : goal.returns-clause-commute
returns-clause-commute c = bare-without_flags
