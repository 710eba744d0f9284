-- Attributes, objects, functions and items: what is read is spelled so, and what is spelled so is read.
use Rattle.std.proofs.Common.{◌≡◌, ℕ, zero, suc, ◌<◌, true, false, ◌&&◌, ⊎_elim, List, [], ◌∷◌, ◌++◌, codes, length, replicate, nat_le, Option, Some, None, bytes_eq, flat_map, refl, ap, ◌∙◌, subst, append_assoc, arith}
use Rattle.std.specs.List.{list_all}
use Rattle.std.proofs.lemmas.Bool.{and_from, and_parts}
use Rattle.std.proofs.lemmas.Option.{same_Some}
use Rattle.meaning_syntax.specs.Words.{is_name, is_keyword, is_reserved}
use Rattle.meaning_syntax.specs.Items.{Word, Statement, Item, Object, Function, word_spelled, further_word_spelled, word_fits, attribute_spelled, statement_spelled, statement_fits, item_spelled, item_fits}
use Rattle.meaning_syntax.specs.plain.Reading.{Texts, after, read_text, read_many, read_word, read_further_word, read_word_list, words_behind, read_attribute, read_stars, read_statement, read_object, read_opening, read_function, read_item}
use Rattle.meaning_syntax.proofs.Readers.{after_parts, or_else_cases, read_text_parts, read_text_then, read_text_elsewhere, read_passing_then, reads_then, test_then, bytes_eq-tests_differ, ReadsSpelled, FindsSpelled, Shrinks, Shrinks-from_spelled, read_many_spelled, read_many_here}
use Rattle.meaning_syntax.proofs.WordReading.{IsSpelledAt, read_word_spelled, read_word_here, read_further_word_spelled, read_further_word_here, read_further_word-Shrinks, read_further_word_none, read_statement_spelled, read_statement_here, read_statement-Shrinks, read_statement_none, read_stars_spelled, read_stars_here}

-- four lists end to end, however they are grouped
append_three : (a b c d : Texts) → ((a ++ b) ++ c) ++ d ≡ a ++ (b ++ (c ++ d))
append_three a b c d = simp append_assoc

-- what is read behind the keyword of an attribute is spelled so
read_word_list_spelled :
    (texts : Texts) (words : List Word) (rest : Texts) → read_word_list texts ≡ Some (words, rest)
    → IsSpelledAt attribute_spelled (list_all word_fits) (codes "__attribute__" ∷ texts) (words, rest)
unfolding read_word_list
read_word_list_spelled texts words rest h =
    read_text_then (codes "(") texts _ _ h (λ outer at_outer from_outer.
    read_text_then (codes "(") outer _ _ from_outer (λ inner at_inner from_inner.
    reads_then read_word word_spelled word_fits read_word_spelled inner _ _ from_inner (λ word behind_word at_word fits from_word.
    read_text_then (codes ")") (read_many read_further_word behind_word).1 _ _ from_word (λ behind_inner at_close from_close.
    read_text_then (codes ")") behind_inner _ _ from_close (λ behind at_end found.
    let further = read_many_spelled read_further_word further_word_spelled word_fits read_further_word_spelled behind_word in
    let grouped = append_three (word_spelled word) (flat_map further_word_spelled (read_many read_further_word behind_word).0) (codes ")" ∷ codes ")" ∷ []) behind in
    subst (IsSpelledAt attribute_spelled (list_all word_fits) (codes "__attribute__" ∷ texts)) (same_Some _ _ found) (cc, and_from _ _ fits further.1))))))

-- the words that are spelled behind the keyword are read
read_word_list_here :
    (word : Word) (words : List Word) (rest : Texts) → word_fits word ≡ true → list_all word_fits words ≡ true
    → read_word_list (codes "(" ∷ codes "(" ∷ word_spelled word ++ (flat_map further_word_spelled words ++ codes ")" ∷ codes ")" ∷ rest)) ≡ Some (word ∷ words, rest)
unfolding read_word_list
read_word_list_here word words rest fits fit =
    let first = read_word_here word (flat_map further_word_spelled words ++ codes ")" ∷ codes ")" ∷ rest) fits in
    let further =
    read_many_here read_further_word further_word_spelled word_fits read_further_word-Shrinks read_further_word_here words (codes ")" ∷ codes ")" ∷ rest) fit
    (read_further_word_none (codes ")" ∷ rest))
    in
    rw (first, further)

-- an attribute that is read, or none, is spelled so
words_behind_spelled :
    (o : Option Texts) (texts : Texts) → ((inside : Texts) → o ≡ Some inside → texts ≡ codes "__attribute__" ∷ inside) → (words : List Word) (rest : Texts)
    → words_behind o texts ≡ Some (words, rest) → IsSpelledAt attribute_spelled (list_all word_fits) texts (words, rest)
words_behind_spelled None texts at words rest h = subst (IsSpelledAt attribute_spelled (list_all word_fits) texts) (same_Some _ _ h) (refl, refl)
words_behind_spelled (Some inside) texts at words rest h =
    let list = read_word_list_spelled inside words rest h in
    (at inside refl ∙ list.0, list.1)

-- what is read as an attribute is spelled so
read_attribute_spelled : ReadsSpelled read_attribute attribute_spelled (list_all word_fits)
unfolding read_attribute
read_attribute_spelled texts words rest h =
    words_behind_spelled (read_text (codes "__attribute__") texts) texts (read_text_parts (codes "__attribute__") texts) words rest h

-- what is spelled as an attribute is read, also none where none begins
read_attribute_here :
    (words : List Word) (rest : Texts) → list_all word_fits words ≡ true → read_text (codes "__attribute__") rest ≡ None
    → read_attribute (attribute_spelled words ++ rest) ≡ Some (words, rest)
unfolding read_attribute
read_attribute_here [] rest fit none = ap (λ o. words_behind o rest) none
read_attribute_here (word ∷ words) rest fit none =
    let parts = and_parts (word_fits word) (list_all word_fits words) fit in
    ap (λ t. read_word_list (codes "(" ∷ codes "(" ∷ t)) (append_three (word_spelled word) (flat_map further_word_spelled words) (codes ")" ∷ codes ")" ∷ []) rest)
    ∙ read_word_list_here word words rest parts.0 parts.1

-- no name is the keyword of an attribute
bytes_eq-name_attribute : (name : List ℕ) → is_name name ≡ true → bytes_eq name (codes "__attribute__") ≡ false
unfolding is_name is_keyword is_reserved
bytes_eq-name_attribute name named = bytes_eq-tests_differ is_name name (codes "__attribute__") named refl

-- no attribute begins where stars or a name stand
read_text-stars_name :
    (stars : ℕ) (name : List ℕ) (rest : Texts) → is_name name ≡ true → read_text (codes "__attribute__") (replicate stars (codes "*") ++ name ∷ rest) ≡ None
read_text-stars_name zero name rest named = read_text_elsewhere (codes "__attribute__") name rest (bytes_eq-name_attribute name named)
read_text-stars_name (suc stars) name rest named = refl

-- what is read as an object is spelled so
read_object_spelled : ReadsSpelled read_object item_spelled item_fits
unfolding read_object
read_object_spelled texts item rest h =
    read_text_then (codes "extern") texts _ _ h (λ behind_extern at_extern from_extern.
    read_text_then (codes "int") behind_extern _ _ from_extern (λ behind_int at_int from_int.
    reads_then read_attribute attribute_spelled (list_all word_fits) read_attribute_spelled behind_int _ _ from_int (λ words behind_words at_words fit from_words.
    test_then (nat_le (read_stars behind_words).0 3) (read_stars behind_words) _ _ from_words (λ few from_stars.
    read_passing_then is_name (read_stars behind_words).1 _ _ from_stars (λ name behind_name at_name named from_name.
    read_text_then (codes ";") behind_name _ _ from_name (λ behind at_end found.
    let at_stars = read_stars_spelled behind_words in
    let grouped = append_three (attribute_spelled words) (replicate (read_stars behind_words).0 (codes "*")) (name ∷ codes ";" ∷ []) behind in
    subst (IsSpelledAt item_spelled item_fits texts) (same_Some _ _ found) (cc, and_from _ _ (and_from _ _ fit few) named)))))))

-- what is spelled as an object is read
read_object_here :
    (words : List Word) (stars : ℕ) (name : List ℕ) (rest : Texts) → item_fits (Object words stars name) ≡ true
    → read_object (item_spelled (Object words stars name) ++ rest) ≡ Some (Object words stars name, rest)
unfolding read_object
read_object_here words stars name rest fits =
    let parts = and_parts (list_all word_fits words && nat_le stars 3) (is_name name) fits in
    let front = and_parts (list_all word_fits words) (nat_le stars 3) parts.0 in
    let grouped = append_three (attribute_spelled words) (replicate stars (codes "*")) (name ∷ codes ";" ∷ []) rest in
    let attribute =
    read_attribute_here words (replicate stars (codes "*") ++ name ∷ codes ";" ∷ rest) front.0 (read_text-stars_name stars name (codes ";" ∷ rest) parts.1)
    in
    let few = read_stars_here stars name (codes ";" ∷ rest) parts.1 in
    rw (grouped, attribute, few, front.1, parts.1)

-- no object begins as a function does
read_object_none : (rest : Texts) → read_object (codes "void" ∷ rest) ≡ None
unfolding read_object
read_object_none rest = refl

-- what `read_opening` leaves stands behind `( void ) {`
read_opening_parts : (texts body : Texts) → read_opening texts ≡ Some body → texts ≡ codes "(" ∷ codes "void" ∷ codes ")" ∷ codes "{" ∷ body
unfolding read_opening
read_opening_parts texts body h =
    read_text_then (codes "(") texts _ _ h (λ inside at_open from_open.
    read_text_then (codes "void") inside _ _ from_open (λ behind_void at_void from_void.
    read_text_then (codes ")") behind_void _ _ from_void (λ behind_list at_close found.
    let at_brace = read_text_parts (codes "{") behind_list body found in
    cc)))

-- `read_opening` finds `( void ) {`
read_opening_here : (body : Texts) → read_opening (codes "(" ∷ codes "void" ∷ codes ")" ∷ codes "{" ∷ body) ≡ Some body
unfolding read_opening
read_opening_here body = refl

-- what follows where `( void ) {` was read, and then something
read_opening_then :
    {B P : Type 0} (texts : Texts) (next : Texts → Option B) (y : B) → after (read_opening texts) next ≡ Some y
    → ((body : Texts) → texts ≡ codes "(" ∷ codes "void" ∷ codes ")" ∷ codes "{" ∷ body → next body ≡ Some y → P) → P
read_opening_then texts next y h follows =
    let parts = after_parts (read_opening texts) next y h in
    follows parts.0 (read_opening_parts texts parts.0 parts.1) parts.2

-- what is read as a function is spelled so
read_function_spelled : ReadsSpelled read_function item_spelled item_fits
unfolding read_function
read_function_spelled texts item rest h =
    read_text_then (codes "void") texts _ _ h (λ behind_void at_void from_void.
    read_passing_then is_name behind_void _ _ from_void (λ name behind_name at_name named from_name.
    read_opening_then behind_name _ _ from_name (λ body at_opening from_opening.
    read_text_then (codes "}") (read_many read_statement body).1 _ _ from_opening (λ behind at_end found.
    let statements = read_many_spelled read_statement statement_spelled statement_fits read_statement_spelled body in
    let grouped = append_assoc (flat_map statement_spelled (read_many read_statement body).0) (codes "}" ∷ []) behind in
    subst (IsSpelledAt item_spelled item_fits texts) (same_Some _ _ found) (cc, and_from _ _ named statements.1)))))

-- what is spelled as a function is read
read_function_here :
    (name : List ℕ) (statements : List Statement) (rest : Texts) → item_fits (Function name statements) ≡ true
    → read_function (item_spelled (Function name statements) ++ rest) ≡ Some (Function name statements, rest)
unfolding read_function
read_function_here name statements rest fits =
    let parts = and_parts (is_name name) (list_all statement_fits statements) fits in
    let grouped = append_assoc (flat_map statement_spelled statements) (codes "}" ∷ []) rest in
    let body =
    read_many_here read_statement statement_spelled statement_fits read_statement-Shrinks read_statement_here statements (codes "}" ∷ rest) parts.1
    (read_statement_none rest)
    in
    rw (parts.0, grouped, read_opening_here (flat_map statement_spelled statements ++ codes "}" ∷ rest), body)

-- what is read as an item is spelled so
pub read_item_spelled : ReadsSpelled read_item item_spelled item_fits
unfolding read_item
read_item_spelled texts item rest h =
    ⊎_elim (read_object_spelled texts item rest) (read_function_spelled texts item rest) (or_else_cases (read_object texts) (read_function texts) (item, rest) h)

-- what is spelled as an item is read
pub read_item_here : FindsSpelled read_item item_spelled item_fits
unfolding read_item
read_item_here (Object words stars name) rest fits = rw (read_object_here words stars name rest fits)
read_item_here (Function name statements) rest fits = rw (read_object_none _, read_function_here name statements rest fits)

-- an item is spelled by a text at least
length-item_spelled : (item : Item) → 0 < length (item_spelled item)
length-item_spelled (Object words stars name) = omega arith
length-item_spelled (Function name statements) = omega arith

-- an item takes a text at least
pub read_item-Shrinks : Shrinks read_item
read_item-Shrinks = Shrinks-from_spelled read_item item_spelled item_fits read_item_spelled length-item_spelled
