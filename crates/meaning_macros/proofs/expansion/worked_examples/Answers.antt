-- Each row computes.
use Rattle.std.proofs.Common.{ℕ, refl, arith}
use Rattle.std.specs.Fmt.{digits}
use Rattle.meaning_text.specs.Punctuators.{plain_punctuators, digraphs, punctuators, punctuator_of}
use Rattle.meaning_text.specs.Kinds.{kind_in}
use Rattle.meaning_text.specs.Fronts.{front_of}
use Rattle.meaning_macros.specs.Expansion.{within, expansion}
use Rattle.meaning_macros.proofs.expansion.worked_examples.Goals as goal

-- names what a row opens
opened : ℕ
unfolding plain_punctuators digraphs punctuators punctuator_of kind_in front_of digits within expansion
opened = 0

pub returns-clause-rescanning : goal.returns-clause-rescanning
unfolding opened
returns-clause-rescanning c = record {
  nested_calls = (refl, refl);
  closing_parenthesis = (refl, refl);
  own_name = (refl, refl);
  circle = (refl, refl);
  argument_keeps_its_set = (refl, refl);
  rest_is_taken = (refl, refl);
  from_an_argument = (refl, refl);
  named_as_argument = (refl, refl);
  within_itself = (refl, refl);
  with_the_rest = (refl, refl);
  begun_by_a_body = (refl, refl);
  name_without_call = (refl, refl);
  over_a_line = (refl, refl);
  keyword = (refl, refl);
}

pub returns-clause-pasting : goal.returns-clause-pasting
unfolding opened
returns-clause-pasting c = record {
  unexpanded = (refl, refl);
  kinds = (refl, refl);
  no_token = ((refl, refl), (refl, refl), (refl, refl), (refl, refl));
  chain = (refl, refl);
  pasted_hides_nothing = (refl, refl);
  digraphs = ((refl, refl), (refl, refl));
  of_signs = ((refl, refl), (refl, refl), (refl, refl));
  object_like = ((refl, refl), (refl, refl));
  nothing_between = (refl, refl);
  beside_and_apart = (refl, refl);
  first_bad = ((refl, refl), (refl, refl));
}

pub returns-clause-stringizing : goal.returns-clause-stringizing
unfolding opened
returns-clause-stringizing c = record {
  escapes = ((refl, refl), (refl, refl), (refl, refl));
  literals_alone = (refl, refl);
  spaces_of_bodies = (refl, refl);
  spaces_of_calls = (refl, refl);
  spaces_of_parameters = (refl, refl);
  spaces_of_chains = (refl, refl);
  lines = (refl, refl);
  hash_hash = (refl, refl);
  object_like = (refl, refl);
  within_a_chain = (refl, refl);
}

pub returns-clause-variadic : goal.returns-clause-variadic
unfolding opened
returns-clause-variadic c = record {
  comma_goes = (refl, refl);
  comma_stays = (refl, refl);
  named = (refl, refl);
  goes_on = (refl, refl);
  comma_is_pasted = ((refl, refl), (refl, refl));
  not_behind_another = (refl, refl);
  no_comma = (refl, refl);
  alone = (refl, refl);
  unexpanded = (refl, refl);
  space_of_rest = (refl, refl);
  not_the_last = (refl, refl);
}

pub returns-clause-predefined : goal.returns-clause-predefined
unfolding opened
returns-clause-predefined c = record {
  counter = (refl, refl);
  line = (refl, refl);
  line_of_argument = (refl, refl);
  line_of_body = (refl, refl);
  file = (refl, refl);
  defined = ((refl, refl), (refl, refl));
}

pub returns-clause-calls : goal.returns-clause-calls
unfolding opened
returns-clause-calls c = record {
  arguments = ((refl, refl), (refl, refl), (refl, refl), (refl, refl), (refl, refl));
  open_goes_before_arguments = (refl, refl);
  never_closed = ((refl, refl), (refl, refl));
  none = (refl, refl);
  one_empty = (refl, refl);
  parenthesised = (refl, refl);
  behind_tokens = (refl, refl);
  at_the_outermost_name = ((refl, refl), (refl, refl), (refl, refl), (refl, refl));
}

pub returns-clause-places : goal.returns-clause-places
unfolding opened
returns-clause-places c = record {
  call = refl;
  nested = refl;
  argument_line = refl;
  stays = refl;
  empty = refl;
  pasted = refl;
  predefined = (refl, refl);
  stringized = refl;
}

pub returns-clause-mixed : goal.returns-clause-mixed
unfolding opened
returns-clause-mixed c = record {
  names_of_macros = (refl, refl);
  strings = (refl, refl, refl, refl);
  empty_operands = refl;
  variable = (refl, refl, refl);
}

pub returns-clause-budgets : goal.returns-clause-budgets
unfolding opened
returns-clause-budgets c = record {
  argument_and_body = ((refl, refl), (refl, refl), (refl, refl));
  unused_argument = (refl, refl);
  before_a_bad_paste = ((refl, refl), (refl, refl));
  behind_tokens = (refl, refl);
  call_before_arguments = ((refl, refl), (refl, refl), (refl, refl));
  predefined = ((refl, refl), (refl, refl), (refl, refl), (refl, refl));
  costs = (refl, refl, refl);
}

pub returns-clause-definitions : goal.returns-clause-definitions
unfolding opened
returns-clause-definitions c = record {
  object_like = (refl, refl, refl);
  function_like = (refl, refl, refl);
  spaces = (refl, refl, refl);
  parameters = (refl, refl, refl, refl, refl);
  spellings = (refl, refl, refl, refl);
  first_entry = ((refl, refl), refl, refl);
  hash = (refl, refl, refl, refl);
  paste = (refl, refl, refl, refl);
  different = (refl, refl);
  well_formed = (
    record { different = refl; last = λ h. omega (arith); begins = refl; ends = refl; followed = λ h. refl },
    record { different = refl; last = λ h. grind (arith, h); begins = refl; ends = refl; followed = λ h. grind (arith, h) },
    record { different = refl; last = λ h. grind (arith, h); begins = refl; ends = refl; followed = λ h. refl },
  );
}
