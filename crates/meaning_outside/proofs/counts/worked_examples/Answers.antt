-- Each example is a sum or two, or files that are looked up.
use Rattle.std.proofs.Common.{◌≡◌, List, [], ◌∷◌, ◌⊎◌, Some, None, inl, inr, codes, false, true, refl, arith, ap, sym, ◌∙◌}
use Rattle.std.proofs.lemmas.Slice.Eq.{bytes_eq-Decides}
use Rattle.meaning_outside.specs.Loads.{Loaded}
use Rattle.std.specs.Cmp.Lexicographic.{nat_list_cmp_total}
use Rattle.std.specs.FinMap.{get-from_entries}
use Rattle.meaning_outside.specs.Faults.{Rose}
use Rattle.meaning_outside.specs.Files.{file_at}
use Rattle.meaning_outside.specs.examples.Outside.{two_entries, two_files}
use Rattle.meaning_outside.proofs.counts.worked_examples.Goals as goal

neither_rose : Rose 7 7 ⊎ Rose 3 3 → ⊥
neither_rose (inl rose) = omega (arith, rose)
neither_rose (inr rose) = omega (arith, rose)

pub returns-clause-risen : goal.returns-clause-risen
returns-clause-risen c = record {
  by_one = omega arith;
  by_more = omega arith;
  to_the_end = omega arith;
  at_the_end = omega arith;
  not_standing = λ rose. omega (arith, rose);
  not_standing_before_the_end = λ rose. omega (arith, rose);
  not_falling = λ rose. omega (arith, rose);
}

pub returns-clause-told : goal.returns-clause-told
returns-clause-told c = record {
  fault = record { later = omega arith; only = λ failed. omega arith; always = λ grew. tt };
  several_faults = record { later = omega arith; only = λ failed. omega arith; always = λ grew. tt };
  no_fault = record { later = omega arith; only = λ none. absurd none; always = λ grew. omega arith };
  fault_at_the_end = record { later = omega arith; only = λ failed. omega arith; always = λ grew. tt };
  no_fault_at_the_end = record { later = omega arith; only = λ none. absurd none; always = λ grew. omega arith };
  not_without_a_rise = λ told. omega (arith, told.only tt);
  not_kept_back = λ told. told.always (omega arith);
  not_falling = λ told. omega (arith, told.later);
}

pub returns-clause-of_two : goal.returns-clause-of_two
returns-clause-of_two c = record {
  out_alone = record {
    later_out = omega arith;
    later_err = omega arith;
    only = λ failed. inl (omega arith);
    always_out = λ grew. tt;
    always_err = λ grew. tt;
  };
  err_alone = record {
    later_out = omega arith;
    later_err = omega arith;
    only = λ failed. inr (omega arith);
    always_out = λ grew. tt;
    always_err = λ grew. tt;
  };
  both = record {
    later_out = omega arith;
    later_err = omega arith;
    only = λ failed. inl (omega arith);
    always_out = λ grew. tt;
    always_err = λ grew. tt;
  };
  no_fault = record {
    later_out = omega arith;
    later_err = omega arith;
    only = λ none. absurd none;
    always_out = λ grew. omega arith;
    always_err = λ grew. omega arith;
  };
  not_without_a_rise = λ told. neither_rose (told.only tt);
  out_not_kept_back = λ told. told.always_out (omega arith);
  err_not_kept_back = λ told. told.always_err (omega arith);
  out_not_falling = λ told. omega (arith, told.later_out);
  err_not_falling = λ told. omega (arith, told.later_err);
}

pub returns-clause-files : goal.returns-clause-files
returns-clause-files c = record {
  empty_file = get-from_entries nat_list_cmp_total two_entries (codes "a.c");
  other_file = get-from_entries nat_list_cmp_total two_entries (codes "b.c");
  front_of_a_path = get-from_entries nat_list_cmp_total two_entries (codes "a");
  longer_path = get-from_entries nat_list_cmp_total two_entries (codes "a.c.c");
  empty_path = get-from_entries nat_list_cmp_total two_entries [];
}

a_holds : file_at two_files (codes "a.c") ≡ Some []
a_holds = get-from_entries nat_list_cmp_total two_entries (codes "a.c")

b_holds : file_at two_files (codes "b.c") ≡ Some (codes "int x;\n")
b_holds = get-from_entries nat_list_cmp_total two_entries (codes "b.c")

c_is_missing : file_at two_files (codes "c.c") ≡ None
c_is_missing = get-from_entries nat_list_cmp_total two_entries (codes "c.c")

paths_differ : codes "b.c" ≡ codes "a.c" → ⊥
paths_differ is = let equal : false ≡ true = (bytes_eq-Decides (codes "b.c") (codes "a.c")).1 is in cc

same_first : (load other : Loaded) (loads others : List Loaded) → load ∷ loads ≡ other ∷ others → load ≡ other
same_first load other loads others is = cc

pub returns-clause-agreement : goal.returns-clause-agreement
returns-clause-agreement c = record {
  no_load = tt;
  loads = (a_holds, (b_holds, (c_is_missing, tt)));
  too_long = (rw b_holds (omega arith), tt);
  not_too_long = λ agrees. let more = rw b_holds at agrees.0 in omega (arith, more);
  nothing_said = (tt, (tt, tt));
  other_bytes = λ agrees. let is = sym a_holds ∙ agrees.0 in cc;
  not_missing = λ agrees. let is = sym b_holds ∙ agrees.1.0 in cc;
  not_there = λ agrees. let is = sym c_is_missing ∙ agrees.0 in cc;
  two_texts = λ files agrees. let is = sym agrees.0 ∙ agrees.1.0 in cc;
  each_once = ((paths_differ, tt), (tt, tt));
  not_once = λ once. once.0.1.0 refl;
  of_a_call = refl;
  stay = refl;
  not_lost = λ is. paths_differ (ap (λ (load : Loaded). load.path) (same_first _ _ _ _ is));
}
