-- Worked examples: texts that are safe, and texts that aren't.
use Rattle.std.specs.Prelude.{ℕ, List, [], ◌++◌, codes}
use Rattle.vocabulary.specs.Rules.{default_classes}
use Rattle.meaning_preprocessing.specs.Unit.{unit_limits}
use Rattle.meaning_preprocessing.specs.examples.Rows.{plain_options, unit_among}
use Rattle.ksparse.specs.Safe.{IsSafeUnit}

-- the unit of a file with this text is safe
abbrev pub IsSafeText : List ℕ → Type 0
IsSafeText text = IsSafeUnit default_classes (unit_among unit_limits plain_options [] text)

abbrev pub IsUnsafeText : List ℕ → Type 0
IsUnsafeText text = IsSafeText text → ⊥

pub record SafeTextExamples : Type 0 where
  pub empty : IsSafeText []
  pub no_flags : IsSafeText (codes "extern int *p;\nextern int *u;\nvoid f(void) { p = u; }\n")
  pub equal_flags :
      IsSafeText
      (codes "extern int __attribute__((noderef, address_space(__user))) *p;\n"
      ++ codes "extern int __attribute__((noderef, address_space(__user))) *u;\n"
      ++ codes "void f(void) { p = u; }\n")
  -- a macro stands for the flags
  pub equal_macros :
      IsSafeText
      (codes "#define __user __attribute__((noderef, address_space(__user)))\n"
      ++ codes "extern int __user *p;\nextern int __user *u;\nvoid f(void) { p = u; }\n")
  -- a run of it loses the space of `u`
  pub space_is_lost :
      IsUnsafeText
      (codes "extern int *p;\n"
      ++ codes "extern int __attribute__((noderef, address_space(__user))) *u;\n"
      ++ codes "void f(void) { p = u; }\n")
  -- and here one stores to what may not be dereferenced
  pub noderef_is_accessed :
      IsUnsafeText (codes "extern int __attribute__((noderef)) *u;\nextern int x;\nvoid f(void) { *u = x; }\n")
  -- no run is promised of a text of another form
  pub other_form : IsSafeText (codes "int x;\n")
