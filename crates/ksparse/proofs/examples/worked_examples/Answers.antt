-- The texts are parsed and judged by computation, once the tests of words unfold.
use Rattle.std.proofs.Common.{refl}
use Rattle.std.specs.Fmt.{digits}
use Rattle.meaning_text.specs.Punctuators.{punctuator_of, punctuators, plain_punctuators, digraphs}
use Rattle.meaning_text.specs.Kinds.{kind_in}
use Rattle.meaning_text.specs.Fronts.{front_of}
use Rattle.meaning_macros.specs.Expansion.{within, expansion}
use Rattle.meaning_preprocessing.specs.Unit.{reader}
use Rattle.meaning_syntax.specs.Words.{is_name, is_keyword, is_reserved, is_space_id, is_space_name, is_space_number, is_predefined_macro}
use Rattle.ksparse.proofs.SafeTexts.{silent_unit_is_safe, faulty_unit_is_unsafe}
use Rattle.ksparse.proofs.examples.worked_examples.Goals as goal

pub returns : goal.returns
unfolding digits front_of punctuator_of punctuators plain_punctuators digraphs kind_in within expansion reader is_name is_keyword is_reserved is_space_id is_space_name is_space_number is_predefined_macro
returns c =
    let safe = silent_unit_is_safe c.clean_checks_are_safe.ensures 400 in
    let unsafe = faulty_unit_is_unsafe c.faults_are_unsafe.ensures 400 in
    record {
      empty = safe _ refl refl;
      no_flags = safe _ refl refl;
      equal_flags = safe _ refl refl;
      equal_macros = safe _ refl refl;
      space_is_lost = unsafe _ _ _ _ _ _ _ c.worked_runs.ensures.space_lost refl;
      noderef_is_accessed = unsafe _ _ _ _ _ _ _ c.worked_runs.ensures.noderef_accessed refl;
      other_form = safe _ refl refl;
    }
