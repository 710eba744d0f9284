-- No punctuator has a new-line, so the end of a line ends one.
use Rattle.std.proofs.Common.{◌≡◌, ◌==◌, ℕ, ◌<◌, ◌≤◌, nat_lt, Bool, true, false, not, ◌||◌, if◌then◌else◌, List, [], ◌∷◌, ◌++◌, length, drop, get_or, Some, None, refl, sym, ap, ◌∙◌, ⊎_elim, arith}
use Rattle.std.specs.List.{list_all, list_any}
use Rattle.std.specs.Str.{bytes_eq}
use Rattle.std.proofs.lemmas.Bool.{and_parts, or_from, both_ways, cases_Bool}
use Rattle.std.proofs.lemmas.Bool.Decides.{nat_tests, Decides-eqb}
use Rattle.std.proofs.lemmas.Slice.Eq.{bytes_eq-Decides}
use Rattle.meaning_text.specs.Bytes.{new_line}
use Rattle.meaning_text.specs.Punctuators.{PunctuatorRow, plain_punctuators, digraphs, punctuators, punctuator_among, punctuator_of}
use Rattle.c_tokens.specs.Front.{are_shorter}
use Rattle.meaning_text.specs.Fronts.{Found, or_else, found_spelling, found_punctuator, found_punctuator_of}

abbrev pub has_new_line : List ℕ → Bool
has_new_line text = list_any (λ b. b == new_line) text

-- a text with a new-line has one
pub has_new_line-append : (text rest : List ℕ) → has_new_line (text ++ new_line ∷ rest) ≡ true
has_new_line-append [] rest = refl
has_new_line-append (b ∷ text) rest =
    elim (b == new_line) as (λ here. here || has_new_line (text ++ new_line ∷ rest) ≡ true) [ true ↦ refl | false ↦ has_new_line-append text rest ]

punctuator_among-new_line :
    (rows : List PunctuatorRow) (text : List ℕ) → list_all (λ (row : PunctuatorRow). not (has_new_line row.spelling)) rows ≡ true →
    has_new_line text ≡ true → punctuator_among rows text ≡ None
punctuator_among-new_line [] text none has = refl
punctuator_among-new_line (row ∷ rows) text none has =
    let parts = and_parts (not (has_new_line row.spelling)) _ none in
    let differs : bytes_eq row.spelling text ≡ false =
    ⊎_elim
    (λ same. let spelled = (bytes_eq-Decides row.spelling text).0 same in
    absurd (both_ways _ (ap (λ spelling. not (has_new_line spelling)) spelled ∙ ap not has) parts.0))
    (λ differs. differs)
    (cases_Bool (bytes_eq row.spelling text)) in
    ap (λ same. if same then Some row.kind else punctuator_among rows text) differs
    ∙ punctuator_among-new_line rows text parts.1 has

pub punctuator_of-has_new_line : (text : List ℕ) → has_new_line text ≡ true → punctuator_of text ≡ None
unfolding punctuator_of punctuators plain_punctuators digraphs
punctuator_of-has_new_line text has = punctuator_among-new_line punctuators text refl has

punctuator_of-new_line : (text rest : List ℕ) → punctuator_of (text ++ new_line ∷ rest) ≡ None
punctuator_of-new_line text rest = punctuator_of-has_new_line (text ++ new_line ∷ rest) (has_new_line-append text rest)

-- found again, it is the same
or_else-four : (found : Found) → or_else found (or_else found (or_else found found)) ≡ found
or_else-four None = refl
or_else-four (Some found) = refl

or_else-three : (found other : Found) → or_else found (or_else found (or_else found other)) ≡ or_else found other
or_else-three None other = refl
or_else-three (Some found) other = refl

or_else-two : (found other : Found) → or_else found (or_else found other) ≡ or_else found other
or_else-two None other = refl
or_else-two (Some found) other = refl

-- no punctuator goes over the end of a line
none_over : (text rest : List ℕ) → found_spelling (punctuator_of (text ++ new_line ∷ rest)) (text ++ new_line ∷ rest) ≡ None
none_over text rest = ap (λ found. found_spelling found (text ++ new_line ∷ rest)) (punctuator_of-new_line text rest)

-- four bytes tell the punctuator, where new-lines stand for those behind the end of the text
found_punctuator-four :
    (text : List ℕ) → 0 < length text →
    found_punctuator (get_or text 0 new_line ∷ get_or (drop 1 text) 0 new_line ∷ get_or (drop 1 (drop 1 text)) 0 new_line ∷ get_or (drop 1 (drop 1 (drop 1 text))) 0 new_line ∷ [])
    ≡ found_punctuator text
found_punctuator-four [] some = absurd (omega arith)
found_punctuator-four (a ∷ []) some =
    let last = new_line ∷ new_line ∷ [] in
    (λ i. or_else (none_over (a ∷ []) last i) (or_else (none_over (a ∷ []) (new_line ∷ []) i) (or_else (none_over (a ∷ []) [] i) (found_punctuator_of 1 (a ∷ [])))))
    ∙ sym (or_else-four (found_punctuator_of 1 (a ∷ [])))
found_punctuator-four (a ∷ b ∷ []) some =
    (λ i. or_else (none_over (a ∷ b ∷ []) (new_line ∷ []) i) (or_else (none_over (a ∷ b ∷ []) [] i) (or_else (found_punctuator_of 2 (a ∷ b ∷ [])) (found_punctuator_of 1 (a ∷ b ∷ [])))))
    ∙ sym (or_else-three (found_punctuator_of 2 (a ∷ b ∷ [])) (found_punctuator_of 1 (a ∷ b ∷ [])))
found_punctuator-four (a ∷ b ∷ c ∷ []) some =
    let two = or_else (found_punctuator_of 2 (a ∷ b ∷ c ∷ [])) (found_punctuator_of 1 (a ∷ b ∷ c ∷ [])) in
    (λ i. or_else (none_over (a ∷ b ∷ c ∷ []) [] i) (or_else (found_punctuator_of 3 (a ∷ b ∷ c ∷ [])) two))
    ∙ sym (or_else-two (found_punctuator_of 3 (a ∷ b ∷ c ∷ [])) two)
found_punctuator-four (a ∷ b ∷ c ∷ d ∷ text) some = refl

-- the same where the bytes are read one behind the other
pub found_punctuator-ahead :
    (text second third fourth : List ℕ) (a b c d : ℕ) → 0 < length text → second ≡ drop 1 text → third ≡ drop 1 second → fourth ≡ drop 1 third →
    a ≡ get_or text 0 new_line → b ≡ get_or second 0 new_line → c ≡ get_or third 0 new_line → d ≡ get_or fourth 0 new_line →
    found_punctuator (a ∷ b ∷ c ∷ d ∷ []) ≡ found_punctuator text
found_punctuator-ahead text second third fourth a b c d some to_second to_third to_fourth is_a is_b is_c is_d =
    let at_second = to_second in
    let at_third = to_third ∙ ap (drop 1) at_second in
    let at_fourth = to_fourth ∙ ap (drop 1) at_third in
    let read_b = is_b ∙ ap (λ rest. get_or rest 0 new_line) at_second in
    let read_c = is_c ∙ ap (λ rest. get_or rest 0 new_line) at_third in
    let read_d = is_d ∙ ap (λ rest. get_or rest 0 new_line) at_fourth in
    (λ i. found_punctuator (is_a i ∷ read_b i ∷ read_c i ∷ read_d i ∷ [])) ∙ found_punctuator-four text some

-- Bytes with which no longer punctuator begins

punctuator_among-shorter :
    (rows : List PunctuatorRow) (count b : ℕ) (text : List ℕ) → list_all (λ (row : PunctuatorRow). nat_lt (length row.spelling) count || not (get_or row.spelling 0 0 == b)) rows ≡ true →
    count ≤ length (b ∷ text) → punctuator_among rows (b ∷ text) ≡ None
punctuator_among-shorter [] count b text shorter long = refl
punctuator_among-shorter (row ∷ rows) count b text shorter long =
    let parts = and_parts (nat_lt (length row.spelling) count || not (get_or row.spelling 0 0 == b)) _ shorter in
    let differs : bytes_eq row.spelling (b ∷ text) ≡ false =
    ⊎_elim
    (λ same.
    let spelled = (bytes_eq-Decides row.spelling (b ∷ text)).0 same in
    let fits : (nat_lt (length (b ∷ text)) count || not (b == b)) ≡ true = ap (λ spelling. nat_lt (length spelling) count || not (get_or spelling 0 0 == b)) (sym spelled) ∙ parts.0 in
    absurd (both_ways _ (or_from (nat_lt (length (b ∷ text)) count) (not (b == b)) (not_below (length (b ∷ text)) count long) (ap not ((Decides-eqb b b).1 refl))) fits))
    (λ differs. differs)
    (cases_Bool (bytes_eq row.spelling (b ∷ text))) in
    ap (λ same. if same then Some row.kind else punctuator_among rows (b ∷ text)) differs
    ∙ punctuator_among-shorter rows count b text parts.1 long
  where
    not_below : (m n : ℕ) → n ≤ m → nat_lt m n ≡ false
    not_below m n above = grind (arith, nat_tests, above)

punctuator_of-shorter : (count b : ℕ) (text : List ℕ) → are_shorter count b ≡ true → count ≤ length (b ∷ text) → punctuator_of (b ∷ text) ≡ None
unfolding punctuator_of
punctuator_of-shorter count b text shorter long = punctuator_among-shorter punctuators count b text shorter long

none_longer : (count b : ℕ) (text : List ℕ) → are_shorter count b ≡ true → count ≤ length (b ∷ text) → found_spelling (punctuator_of (b ∷ text)) (b ∷ text) ≡ None
none_longer count b text shorter long = ap (λ found. found_spelling found (b ∷ text)) (punctuator_of-shorter count b text shorter long)

-- two bytes tell the punctuator
pub found_punctuator-in_two :
    (text second : List ℕ) (a b : ℕ) → 0 < length text → second ≡ drop 1 text → a ≡ get_or text 0 new_line → b ≡ get_or second 0 new_line →
    are_shorter 3 a ≡ true → found_punctuator (a ∷ b ∷ new_line ∷ new_line ∷ []) ≡ found_punctuator text
found_punctuator-in_two text second a b some to_second is_a is_b shorter =
    let c = get_or (drop 1 (drop 1 text)) 0 new_line in
    let d = get_or (drop 1 (drop 1 (drop 1 text))) 0 new_line in
    let two = or_else (found_punctuator_of 2 (a ∷ b ∷ [])) (found_punctuator_of 1 (a ∷ [])) in
    let read_b = is_b ∙ ap (λ rest. get_or rest 0 new_line) to_second in
    (λ i. or_else (none_longer 3 a (b ∷ new_line ∷ new_line ∷ []) shorter (omega arith) i) (or_else (none_longer 3 a (b ∷ new_line ∷ []) shorter (omega arith) i) two))
    ∙ sym (λ i. or_else (none_longer 3 a (b ∷ c ∷ d ∷ []) shorter (omega arith) i) (or_else (none_longer 3 a (b ∷ c ∷ []) shorter (omega arith) i) two))
    ∙ (λ i. found_punctuator (is_a i ∷ read_b i ∷ c ∷ d ∷ [])) ∙ found_punctuator-four text some
