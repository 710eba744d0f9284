-- Each row computes.
use Rattle.std.proofs.Common.{ℕ, refl}
use Rattle.std.specs.Fmt.{digits}
use Rattle.meaning_text.specs.Punctuators.{plain_punctuators, digraphs, punctuators, punctuator_of}
use Rattle.meaning_text.specs.Kinds.{kind_in}
use Rattle.meaning_text.specs.Fronts.{front_of}
use Rattle.meaning_macros.specs.Expansion.{within, expansion}
use Rattle.meaning_preprocessing.specs.Unit.{reader}
use Rattle.meaning_preprocessing.proofs.units.worked_examples.Goals as goal

-- names what a row opens
opened : ℕ
unfolding plain_punctuators digraphs punctuators punctuator_of kind_in front_of digits within expansion reader
opened = 0

pub returns-clause-lines : goal.returns-clause-lines
unfolding opened
returns-clause-lines c = record {
  unread = refl;
  unknown = refl;
  errors = refl;
  literals = refl;
  text = refl;
}

pub returns-clause-groups : goal.returns-clause-groups
unfolding opened
returns-clause-groups c = record {
  skipped = refl;
  without_if = refl;
  unterminated = refl;
  after_else = refl;
  within_skipped = refl;
  nested = refl;
  tokens_behind = refl;
  behind_a_taken_part = refl;
  one_part = refl;
  nothing_behind = refl;
  built_in_names = refl;
  order_of_errors = refl;
}

pub returns-clause-text : goal.returns-clause-text
unfolding opened
returns-clause-text c = record {
  open_calls = refl;
  no_call_over_a_directive = refl;
  call_over_lines = refl;
  text_before_the_end = refl;
}

pub returns-clause-definitions : goal.returns-clause-definitions
unfolding opened
returns-clause-definitions c = record {
  malformed = refl;
  bad_names_and_bodies = refl;
  bad_lists = refl;
  odd = refl;
  redefined = refl;
  behind_the_line = refl;
  faults = refl;
  names_before_the_first_line = refl;
  predefined = refl;
}

pub returns-clause-conditions : goal.returns-clause-conditions
unfolding opened
returns-clause-conditions c = record {
  bad_questions = refl;
  questions = refl;
  made_questions = refl;
  replaced = refl;
  numbers = refl;
  zero_divisors = refl;
  types = refl;
}

pub returns-clause-left_names : goal.returns-clause-left_names
unfolding opened
returns-clause-left_names c = record {
  each_line = refl;
  by_macros = refl;
  unevaluated = refl;
  keywords = refl;
}

pub returns-clause-search : goal.returns-clause-search
unfolding opened
returns-clause-search c = record {
  quoted_and_angled = refl;
  nowhere = refl;
  beside_the_header = refl;
  from_the_root = refl;
  beside_the_file = refl;
  behind_the_file = refl;
  in_a_directory = refl;
  no_file = refl;
  empty_names = refl;
}

pub returns-clause-headers : goal.returns-clause-headers
unfolding opened
returns-clause-headers c = record {
  by_macros = refl;
  no_header_by_macros = refl;
  no_header = refl;
  escapes = refl;
}

pub returns-clause-files : goal.returns-clause-files
unfolding opened
returns-clause-files c = record {
  skipped_and_read = refl;
  names_and_lines = refl;
  what_stays = refl;
  own_groups = refl;
  own_text = refl;
  own_errors = refl;
  twice = refl;
  numbers = refl;
  itself = refl;
}

pub returns-clause-command : goal.returns-clause-command
unfolding opened
returns-clause-command c = record {
  by_the_letter = refl;
  errors = refl;
  before_a_missing_file = refl;
  another_file = refl;
}

pub returns-clause-depth : goal.returns-clause-depth
unfolding opened
returns-clause-depth c = record { deepest = refl; too_deep = refl; endless = refl; missing_beyond = refl }

pub returns-clause-limits : goal.returns-clause-limits
unfolding opened
returns-clause-limits c = record {
  numbers_that_hold = (refl, refl, refl, refl, refl);
  one_size = refl;
  all_sizes = refl;
  depth = refl;
  not_too_deep = refl;
  endless = refl;
  unit_tokens = refl;
  in_one_list = refl;
  replacements = refl;
}
