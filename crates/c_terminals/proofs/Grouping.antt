-- A word is found among those of its group.
use Rattle.std.proofs.Common.{◌≡◌, ℕ, Bool, true, false, List, [], ◌∷◌, Option, Some, None, unwrap_or, refl, sym, ap, ◌∙◌, if◌then◌else◌}
use Rattle.std.specs.List.{filter}
use Rattle.std.specs.Str.{bytes_eq}
use Rattle.std.proofs.lemmas.Slice.Eq.{bytes_eq-Decides}
use Rattle.meaning_grammar.specs.Words.{Reading, WordRow, words, name_reading, reading_in, word_reading}
use Rattle.c_terminals.specs.declared.spellings.Group.{Group}
use Rattle.c_terminals.specs.declared.spellings.Group.TheVariants.{Underscored, UpToD, UpToR, BehindR}
use Rattle.c_terminals.specs.Groups.{is_same_group, group_of, words_in, found_in}

group_is_same : (group : Group) → is_same_group group group ≡ true
group_is_same Underscored = refl
group_is_same UpToD = refl
group_is_same UpToR = refl
group_is_same BehindR = refl

-- a row of another group is spelled otherwise
spelled_if : (kept spelled : Bool) (text : List ℕ) (row : WordRow) (rows others : List WordRow) → (spelled ≡ true → kept ≡ true)
    → bytes_eq row.spelling text ≡ spelled → found_in others text ≡ found_in rows text
    → found_in (if kept then row ∷ others else others) text ≡ (if spelled then Some row.reading else found_in rows text)
spelled_if true true text row rows others both is rest = ap (λ (test : Bool). if test then Some row.reading else found_in others text) is
spelled_if true false text row rows others both is rest = ap (λ (test : Bool). if test then Some row.reading else found_in others text) is ∙ rest
spelled_if false true text row rows others both is rest = absurd (cc (both refl))
spelled_if false false text row rows others both is rest = rest

found-group : (text : List ℕ) (rows : List WordRow) → found_in (filter (λ row. is_same_group (group_of text) (group_of row.spelling)) rows) text ≡ found_in rows text
found-group text [] = refl
found-group text (row ∷ rows) =
    spelled_if (is_same_group (group_of text) (group_of row.spelling)) (bytes_eq row.spelling text) text row rows _
    (λ spelled. ap (λ (other : List ℕ). is_same_group (group_of text) (group_of other)) ((bytes_eq-Decides row.spelling text).0 spelled) ∙ group_is_same (group_of text))
    refl (found-group text rows)

reading_if : (test : Bool) (reading : Reading) (text : List ℕ) (rows : List WordRow) → reading_in rows text ≡ unwrap_or (found_in rows text) (name_reading text)
    → (if test then reading else reading_in rows text) ≡ unwrap_or (if test then Some reading else found_in rows text) (name_reading text)
reading_if true reading text rows rest = refl
reading_if false reading text rows rest = rest

reading-found : (rows : List WordRow) (text : List ℕ) → reading_in rows text ≡ unwrap_or (found_in rows text) (name_reading text)
reading-found [] text = refl
reading-found (row ∷ rows) text = reading_if (bytes_eq row.spelling text) row.reading text rows (reading-found rows text)

pub word_reading-found : (text : List ℕ) → word_reading text ≡ unwrap_or (found_in (words_in (group_of text)) text) (name_reading text)
word_reading-found text = reading-found words text ∙ ap (λ found. unwrap_or found (name_reading text)) (sym (found-group text words))

pub word_reading-Some : (text : List ℕ) (group : Group) (rows : List WordRow) (found : Option Reading) (reading : Reading)
    → group ≡ group_of text → rows ≡ words_in group → found ≡ found_in rows text → found ≡ Some reading → reading ≡ word_reading text
word_reading-Some text group rows found reading is_group are_rows is_found is =
    let same : found_in (words_in (group_of text)) text ≡ Some reading =
    ap (λ one. found_in (words_in one) text) (sym is_group) ∙ ap (λ some. found_in some text) (sym are_rows) ∙ sym is_found ∙ is in
    sym (word_reading-found text ∙ ap (λ one. unwrap_or one (name_reading text)) same)

pub word_reading-None : (text : List ℕ) (group : Group) (rows : List WordRow) (found : Option Reading)
    → group ≡ group_of text → rows ≡ words_in group → found ≡ found_in rows text → found ≡ None → name_reading text ≡ word_reading text
word_reading-None text group rows found is_group are_rows is_found is =
    let same : found_in (words_in (group_of text)) text ≡ None =
    ap (λ one. found_in (words_in one) text) (sym is_group) ∙ ap (λ some. found_in some text) (sym are_rows) ∙ sym is_found ∙ is in
    sym (word_reading-found text ∙ ap (λ one. unwrap_or one (name_reading text)) same)
