use Rattle.std.proofs.Common.{◌≢◌, ℕ, nat_eq, [], ◌∷◌, List, Option, unwrap_or, option_map, refl, ap, arith, ◌∙◌}
use Rattle.std.specs.Map.{lookup}
use Rattle.meaning_preprocessing.specs.Unit.{first_definitions}
use Rattle.sparse_model.specs.declared.ids.NameId.{NameId}
use Rattle.c_tokens.specs.Seen.{text_of}
use Rattle.c_tokens.proofs.SeenLemmas.{Extends-Extends, IsKnown-Extends, text_of-Extends}
use Rattle.c_macros.proofs.KnowsLemmas.{KnowsAll-Extends}
use Rattle.c_preproc.proofs.FirstLemmas.{first-files, first-holds, none-has, same-has, told-later}
use Rattle.c_preproc.proofs.StateLemmas.{has-later, made-later}
use Rattle.c_preproc.proofs.first_state.first_state.Goals as goal

pub returns-clause-holds : goal.returns-clause-holds
returns-clause-holds c =
    let first = c.args.names.now in
    let defined = c.define_first.new.names in
    let command_told = c.tell_file.new.names in
    let told = c.tell_file-2.new.names in
    let made = c.new.new.names in
    let spelled = c.intern.new.self in
    let later = c.intern-2.new.self in
    let made_later = Extends-Extends made spelled later c.intern.ensures.keeps c.intern-2.ensures.keeps in
    let told_later = Extends-Extends told made later c.new.ensures.keeps made_later in
    let command_later = Extends-Extends command_told told later c.tell_file-2.ensures.keeps told_later in
    let defined_later = Extends-Extends defined command_told later c.tell_file.ensures.keeps command_later in
    let knows_none = c.new-macros.ensures.known first in
    let knows_defined = c.in_ok-define_first.ensures.knows knows_none in
    let knows_command = c.in_ok-tell_file.ensures.knows knows_defined in
    let knows_told = c.in_ok-tell_file-2.ensures.knows knows_command in
    let has = has-later defined later defined_later c.apart.ensures.apart first_definitions c.define_first.new.macros knows_defined
    (c.in_ok-define_first.ensures.defined (none-has first c.new-macros.result c.new-macros.ensures.no_macros) knows_none) in
    let command_known = IsKnown-Extends spelled later c.intern-2.ensures.keeps c.in_ok-command.command c.in_ok-command.ensures.known in
    first-holds later c.args.path.now c.in_ok-made.made c.tell_file-2.new.macros _ c.in_ok-paths.paths c.new-2.result c.new-3.result c.in_ok-command.command c.in_ok-file.file
    (made-later made later made_later c.in_ok-made.made c.in_ok-made.ensures.made)
    (same-has later first_definitions c.define_first.new.macros c.tell_file-2.new.macros (c.tell_file-2.ensures.macros ∙ c.tell_file.ensures.macros) has)
    (KnowsAll-Extends told later c.tell_file-2.new.macros told_later knows_told)
    (first-files later c.args.path.now c.tell_file-2.new.macros
    (ap (λ (found : Option NameId). option_map (text_of later) found) (c.tell_file-2.ensures.others 0 (λ same. omega (arith, same)))
    ∙ told-later command_told later command_later c.tell_file.new.macros knows_command 0 _ c.in_ok-tell_file.ensures.told)
    (told-later told later told_later c.tell_file-2.new.macros knows_told 1 _ c.in_ok-tell_file-2.ensures.told)
    (λ file command main. c.tell_file-2.ensures.others file main ∙ c.tell_file.ensures.others file command
    ∙ ap (λ (entries : List (ℕ × NameId)). lookup (nat_eq file) entries) c.define_first.ensures.files ∙ c.new-macros.ensures.no_files file))
    refl c.in_ok-paths.ensures command_known c.in_ok-file.ensures.known
    (text_of-Extends spelled later c.intern-2.ensures.keeps c.in_ok-command.command c.in_ok-command.ensures.known ∙ ap (λ found. unwrap_or found []) c.in_ok-command.ensures.stands)
    (ap (λ found. unwrap_or found []) c.in_ok-file.ensures.stands)
    c.new-2.ensures.items c.new-3.ensures.items

pub returns-in_err-tell_file-clause-keeps : goal.returns-in_err-tell_file-clause-keeps
returns-in_err-tell_file-clause-keeps c =
    Extends-Extends c.args.names.now c.define_first.new.names c.tell_file.new.names c.define_first.ensures.keeps c.tell_file.ensures.keeps

pub returns-in_err-tell_file-2-clause-keeps : goal.returns-in_err-tell_file-2-clause-keeps
returns-in_err-tell_file-2-clause-keeps c =
    Extends-Extends c.args.names.now c.tell_file.new.names c.tell_file-2.new.names (Extends-Extends c.args.names.now c.define_first.new.names c.tell_file.new.names c.define_first.ensures.keeps c.tell_file.ensures.keeps) c.tell_file-2.ensures.keeps

pub returns-in_err-made-clause-keeps : goal.returns-in_err-made-clause-keeps
returns-in_err-made-clause-keeps c =
    Extends-Extends c.args.names.now c.tell_file-2.new.names c.new.new.names (Extends-Extends c.args.names.now c.tell_file.new.names c.tell_file-2.new.names (Extends-Extends c.args.names.now c.define_first.new.names c.tell_file.new.names c.define_first.ensures.keeps c.tell_file.ensures.keeps) c.tell_file-2.ensures.keeps) c.new.ensures.keeps

pub returns-in_err-command-clause-keeps : goal.returns-in_err-command-clause-keeps
returns-in_err-command-clause-keeps c =
    Extends-Extends c.args.names.now c.new.new.names c.intern.new.self (Extends-Extends c.args.names.now c.tell_file-2.new.names c.new.new.names (Extends-Extends c.args.names.now c.tell_file.new.names c.tell_file-2.new.names (Extends-Extends c.args.names.now c.define_first.new.names c.tell_file.new.names c.define_first.ensures.keeps c.tell_file.ensures.keeps) c.tell_file-2.ensures.keeps) c.new.ensures.keeps) c.intern.ensures.keeps

pub returns-in_err-file-clause-keeps : goal.returns-in_err-file-clause-keeps
returns-in_err-file-clause-keeps c =
    Extends-Extends c.args.names.now c.intern.new.self c.intern-2.new.self (Extends-Extends c.args.names.now c.new.new.names c.intern.new.self (Extends-Extends c.args.names.now c.tell_file-2.new.names c.new.new.names (Extends-Extends c.args.names.now c.tell_file.new.names c.tell_file-2.new.names (Extends-Extends c.args.names.now c.define_first.new.names c.tell_file.new.names c.define_first.ensures.keeps c.tell_file.ensures.keeps) c.tell_file-2.ensures.keeps) c.new.ensures.keeps) c.intern.ensures.keeps) c.intern-2.ensures.keeps

pub returns-in_err-paths-clause-keeps : goal.returns-in_err-paths-clause-keeps
returns-in_err-paths-clause-keeps c =
    Extends-Extends c.args.names.now c.intern.new.self c.intern-2.new.self (Extends-Extends c.args.names.now c.new.new.names c.intern.new.self (Extends-Extends c.args.names.now c.tell_file-2.new.names c.new.new.names (Extends-Extends c.args.names.now c.tell_file.new.names c.tell_file-2.new.names (Extends-Extends c.args.names.now c.define_first.new.names c.tell_file.new.names c.define_first.ensures.keeps c.tell_file.ensures.keeps) c.tell_file-2.ensures.keeps) c.new.ensures.keeps) c.intern.ensures.keeps) c.intern-2.ensures.keeps
