-- The words of an attribute, statements and stars: what is read is spelled so, and what is spelled so is read.
use Rattle.std.proofs.Common.{◌≡◌, ℕ, zero, suc, ◌+◌, ◌<◌, Bool, true, false, ⊎_elim, List, [], ◌∷◌, ◌++◌, codes, length, replicate, Some, None, bytes_eq, refl, ap, ap₂, ◌∙◌, subst, add-one, arith}
use Rattle.std.proofs.lemmas.Bool.{and_from, and_parts, cond-false, cond_both}
use Rattle.std.proofs.lemmas.Option.{same_Some}
use Rattle.std.proofs.lemmas.Slice.Eq.{bytes_eq-Decides}
use Rattle.meaning_syntax.specs.Words.{is_name, is_space_id, is_keyword, is_reserved}
use Rattle.meaning_syntax.specs.Items.{Noderef, AddressSpace, Statement, Assign, AssignThrough, AssignAddress, word_spelled, further_word_spelled, word_fits, statement_spelled, statement_fits}
use Rattle.meaning_syntax.specs.plain.Reading.{Texts, or_else, read_noderef, read_space, read_word, read_further_word, read_assignment, read_assignment_through, read_address_assignment, read_statement, read_stars}
use Rattle.meaning_syntax.proofs.Readers.{or_else_cases, read_text_then, read_text_elsewhere, read_passing_then, bytes_eq-tests_differ, ReadsSpelled, FindsSpelled, Shrinks, Shrinks-from_spelled}

-- what a reader found, with what is left behind it, is spelled so, and fits
abbrev pub IsSpelledAt : {A : Type 0} → (A → Texts) → (A → Bool) → Texts → A × Texts → Type 0
IsSpelledAt spelled fits texts found = (texts ≡ spelled found.0 ++ found.1) × (fits found.0 ≡ true)

-- what is read as `noderef` is spelled so
read_noderef_spelled : ReadsSpelled read_noderef word_spelled word_fits
unfolding read_noderef
read_noderef_spelled texts word rest h =
    read_text_then (codes "noderef") texts _ _ h
    (λ behind at_keyword found. subst (IsSpelledAt word_spelled word_fits texts) (same_Some _ _ found) (at_keyword, refl))

-- what is read as an address space is spelled so
read_space_spelled : ReadsSpelled read_space word_spelled word_fits
unfolding read_space
read_space_spelled texts word rest h =
    read_text_then (codes "address_space") texts _ _ h (λ behind_word at_word from_word.
    read_text_then (codes "(") behind_word _ _ from_word (λ inside at_open from_open.
    read_passing_then is_space_id inside _ _ from_open (λ id behind_id at_id fits from_id.
    read_text_then (codes ")") behind_id _ _ from_id (λ behind at_close found.
    subst (IsSpelledAt word_spelled word_fits texts) (same_Some _ _ found) (cc, fits)))))

-- what is read as a word is spelled so
pub read_word_spelled : ReadsSpelled read_word word_spelled word_fits
unfolding read_word
read_word_spelled texts word rest h =
    ⊎_elim (read_noderef_spelled texts word rest) (read_space_spelled texts word rest) (or_else_cases (read_noderef texts) (read_space texts) (word, rest) h)

-- what is spelled as a word is read
pub read_word_here : FindsSpelled read_word word_spelled word_fits
unfolding read_word read_noderef read_space
read_word_here Noderef rest fit = refl
read_word_here (AddressSpace id) rest fit = rw fit

-- what is read as a further word is spelled so
pub read_further_word_spelled : ReadsSpelled read_further_word further_word_spelled word_fits
unfolding read_further_word
read_further_word_spelled texts word rest h =
    read_text_then (codes ",") texts read_word (word, rest) h
    (λ behind at_comma found.
    let at_word = read_word_spelled behind word rest found in
    (at_comma ∙ ap (λ t. codes "," ∷ t) at_word.0, at_word.1))

-- what is spelled as a further word is read
pub read_further_word_here : FindsSpelled read_further_word further_word_spelled word_fits
unfolding read_further_word
read_further_word_here word rest fit = read_word_here word rest fit

-- a further word takes a text at least
pub read_further_word-Shrinks : Shrinks read_further_word
read_further_word-Shrinks =
    Shrinks-from_spelled read_further_word further_word_spelled word_fits read_further_word_spelled (λ word. omega arith)

-- no further word begins with a bracket
pub read_further_word_none : (rest : Texts) → read_further_word (codes ")" ∷ rest) ≡ None
unfolding read_further_word
read_further_word_none rest = refl

-- what is read as an assignment is spelled so
read_assignment_spelled : ReadsSpelled read_assignment statement_spelled statement_fits
unfolding read_assignment
read_assignment_spelled texts statement rest h =
    read_passing_then is_name texts _ _ h (λ target behind_target at_target target_named from_target.
    read_text_then (codes "=") behind_target _ _ from_target (λ behind_equals at_equals from_equals.
    read_passing_then is_name behind_equals _ _ from_equals (λ source behind_source at_source source_named from_source.
    read_text_then (codes ";") behind_source _ _ from_source (λ behind at_end found.
    subst (IsSpelledAt statement_spelled statement_fits texts) (same_Some _ _ found) (cc, and_from _ _ target_named source_named)))))

-- what is read as an assignment through a pointer is spelled so
read_assignment_through_spelled : ReadsSpelled read_assignment_through statement_spelled statement_fits
unfolding read_assignment_through
read_assignment_through_spelled texts statement rest h =
    read_text_then (codes "*") texts _ _ h (λ behind_star at_star from_star.
    read_passing_then is_name behind_star _ _ from_star (λ pointer behind_pointer at_pointer pointer_named from_pointer.
    read_text_then (codes "=") behind_pointer _ _ from_pointer (λ behind_equals at_equals from_equals.
    read_passing_then is_name behind_equals _ _ from_equals (λ source behind_source at_source source_named from_source.
    read_text_then (codes ";") behind_source _ _ from_source (λ behind at_end found.
    subst (IsSpelledAt statement_spelled statement_fits texts) (same_Some _ _ found) (cc, and_from _ _ pointer_named source_named))))))

-- what is read as an assignment of an address is spelled so
read_address_assignment_spelled : ReadsSpelled read_address_assignment statement_spelled statement_fits
unfolding read_address_assignment
read_address_assignment_spelled texts statement rest h =
    read_passing_then is_name texts _ _ h (λ target behind_target at_target target_named from_target.
    read_text_then (codes "=") behind_target _ _ from_target (λ behind_equals at_equals from_equals.
    read_text_then (codes "&") behind_equals _ _ from_equals (λ behind_ampersand at_ampersand from_ampersand.
    read_passing_then is_name behind_ampersand _ _ from_ampersand (λ object behind_object at_object object_named from_object.
    read_text_then (codes ";") behind_object _ _ from_object (λ behind at_end found.
    subst (IsSpelledAt statement_spelled statement_fits texts) (same_Some _ _ found) (cc, and_from _ _ target_named object_named))))))

-- what is read as a statement is spelled so
pub read_statement_spelled : ReadsSpelled read_statement statement_spelled statement_fits
unfolding read_statement
read_statement_spelled texts statement rest h =
    ⊎_elim (read_assignment_spelled texts statement rest)
    (λ others.
    ⊎_elim (read_assignment_through_spelled texts statement rest) (read_address_assignment_spelled texts statement rest)
    (or_else_cases (read_assignment_through texts) (read_address_assignment texts) (statement, rest) others))
    (or_else_cases (read_assignment texts) (or_else (read_assignment_through texts) (read_address_assignment texts)) (statement, rest) h)

-- no name is a star
bytes_eq-name_star : (name : List ℕ) → is_name name ≡ true → bytes_eq name (codes "*") ≡ false
unfolding is_name is_keyword is_reserved
bytes_eq-name_star name named = bytes_eq-tests_differ is_name name (codes "*") named refl

-- an ampersand is no name
is_name-ampersand : is_name (codes "&") ≡ false
unfolding is_name is_keyword is_reserved
is_name-ampersand = refl

-- no assignment to a name begins with a star
read_assignment-star : (rest : Texts) → read_assignment (codes "*" ∷ rest) ≡ None
unfolding read_assignment is_name is_keyword is_reserved
read_assignment-star rest = refl

-- no assignment of a name has an ampersand
read_assignment-ampersand : (target : List ℕ) (rest : Texts) → is_name target ≡ true → read_assignment (target ∷ codes "=" ∷ codes "&" ∷ rest) ≡ None
unfolding read_assignment
read_assignment-ampersand target rest named = rw (named, is_name-ampersand) refl

-- no assignment through a pointer begins with a name
read_assignment_through-name : (name : List ℕ) (rest : Texts) → is_name name ≡ true → read_assignment_through (name ∷ rest) ≡ None
unfolding read_assignment_through
read_assignment_through-name name rest named = rw (read_text_elsewhere (codes "*") name rest (bytes_eq-name_star name named)) refl

-- what is spelled as an assignment is read
read_assignment_here :
    (target source : List ℕ) (rest : Texts) → is_name target ≡ true → is_name source ≡ true
    → read_assignment (statement_spelled (Assign target source) ++ rest) ≡ Some (Assign target source, rest)
unfolding read_assignment
read_assignment_here target source rest target_named source_named = rw (target_named, source_named)

-- what is spelled as an assignment through a pointer is read
read_assignment_through_here :
    (pointer source : List ℕ) (rest : Texts) → is_name pointer ≡ true → is_name source ≡ true
    → read_assignment_through (statement_spelled (AssignThrough pointer source) ++ rest) ≡ Some (AssignThrough pointer source, rest)
unfolding read_assignment_through
read_assignment_through_here pointer source rest pointer_named source_named = rw (pointer_named, source_named)

-- what is spelled as an assignment of an address is read
read_address_assignment_here :
    (target object : List ℕ) (rest : Texts) → is_name target ≡ true → is_name object ≡ true
    → read_address_assignment (statement_spelled (AssignAddress target object) ++ rest) ≡ Some (AssignAddress target object, rest)
unfolding read_address_assignment
read_address_assignment_here target object rest target_named object_named = rw (target_named, object_named)

-- what is spelled as a statement is read
pub read_statement_here : FindsSpelled read_statement statement_spelled statement_fits
unfolding read_statement
read_statement_here (Assign target source) rest fit =
    let names = and_parts (is_name target) (is_name source) fit in
    rw (read_assignment_here target source rest names.0 names.1)
read_statement_here (AssignThrough pointer source) rest fit =
    let names = and_parts (is_name pointer) (is_name source) fit in
    rw (read_assignment-star _, read_assignment_through_here pointer source rest names.0 names.1)
read_statement_here (AssignAddress target object) rest fit =
    let names = and_parts (is_name target) (is_name object) fit in
    rw (
      read_assignment-ampersand target (object ∷ codes ";" ∷ rest) names.0,
      read_assignment_through-name target _ names.0,
      read_address_assignment_here target object rest names.0 names.1,
    )

-- a statement is spelled by a text at least
length-statement_spelled : (statement : Statement) → 0 < length (statement_spelled statement)
length-statement_spelled (Assign target source) = omega arith
length-statement_spelled (AssignThrough pointer source) = omega arith
length-statement_spelled (AssignAddress target object) = omega arith

-- a statement takes a text at least
pub read_statement-Shrinks : Shrinks read_statement
read_statement-Shrinks =
    Shrinks-from_spelled read_statement statement_spelled statement_fits read_statement_spelled length-statement_spelled

-- no statement begins with a brace
pub read_statement_none : (rest : Texts) → read_statement (codes "}" ∷ rest) ≡ None
unfolding read_statement read_assignment read_assignment_through read_address_assignment is_name is_keyword is_reserved
read_statement_none rest = refl

-- these stars, and what stands behind them
abbrev pub HasStars : Texts → ℕ × Texts → Type 0
HasStars texts found = texts ≡ replicate found.0 (codes "*") ++ found.1

-- one star in front of others
HasStars-cons : (text : List ℕ) (texts : Texts) (found : ℕ × Texts) → text ≡ codes "*" → HasStars texts found → HasStars (text ∷ texts) (found.0 + 1, found.1)
HasStars-cons text texts found e h = rw add-one (ap₂ ◌∷◌ e h)

-- the stars that are read stand there
pub read_stars_spelled : (texts : Texts) → HasStars texts (read_stars texts)
unfolding read_stars
read_stars_spelled [] = refl
read_stars_spelled (text ∷ texts) =
    cond_both (bytes_eq text (codes "*")) ((read_stars texts).0 + 1, (read_stars texts).1) (0, text ∷ texts) (HasStars (text ∷ texts))
    (λ e. HasStars-cons text texts (read_stars texts) ((bytes_eq-Decides text (codes "*")).0 e) (read_stars_spelled texts))
    (λ e. refl)

-- stars before a name are read
pub read_stars_here : (stars : ℕ) (name : List ℕ) (rest : Texts) → is_name name ≡ true → read_stars (replicate stars (codes "*") ++ name ∷ rest) ≡ (stars, name ∷ rest)
unfolding read_stars
read_stars_here zero name rest named = cond-false (bytes_eq name (codes "*")) _ (0, name ∷ rest) (bytes_eq-name_star name named)
read_stars_here (suc stars) name rest named = rw (read_stars_here stars name rest named) (ap (λ n. (n, name ∷ rest)) (add-one stars))
