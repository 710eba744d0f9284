-- Each text is made of the elements that are computed, and of no others.
use Rattle.std.proofs.Common.{◌≡◌, ℕ, ◌+◌, ◌<◌, ◌≤◌, true, false, Option, Some, None, nat_le, List, [], ◌∷◌, ◌++◌, length, take, drop, codes, if◌then◌else◌, refl, sym, ap, ◌∙◌, subst, arith, ◌⊎◌, inl, inr, ⊎_elim, take-append-drop, length-append}
use Rattle.std.specs.Str.{bytes_eq}
use Rattle.std.specs.List.{list_all}
use Rattle.std.proofs.Math.Seq.{take-append_seam, take-append-add, drop-append_seam, drop-append-add}
use Rattle.std.proofs.lemmas.Bool.Decides.{nat_tests}
use Rattle.std.proofs.lemmas.Bool.{cases_Bool}
use Rattle.std.proofs.lemmas.List.{take-append-le, length-take-le}
use Rattle.std.proofs.lemmas.List.Folds.{length-prefix_len}
use Rattle.meaning_literals.specs.Numbers.{Octal, Hexadecimal, is_digit_of, digits_of, number}
use Rattle.meaning_literals.specs.Bytes.{is_one_of}
use Rattle.meaning_literals.specs.Elements.{Element, Plain, Escape, UnknownEscape, UniversalName, Piece, unknown_escape, simple_value, hexadecimal_escape, universal_name, lettered_escape, escape_at, piece_at, elements_of}
use Rattle.meaning_literals.specs.Grammar.{Spells, spells_plain, spells_simple, spells_octal, spells_hexadecimal, spells_short_name, spells_long_name, IsUnknown, HasBytes, IsMadeOf}
use Rattle.meaning_literals.proofs.Runs.{IsRun, run_of, take-run, drop-run, prefix_len-passes, short_run_of, list_all-take}
use Rattle.meaning_literals.proofs.ElementLemmas.{Reads, Reads-Spells, mark, escape_at-octal, hexadecimal_escape-some, elements_of-cons}

-- no bytes spell an unknown escape
not_unknown : (element : Element) (bytes rest : List ℕ) → Spells element bytes rest → element ≡ UnknownEscape → ⊥
not_unknown _ _ _ (spells_plain plain) unknown = cc
not_unknown _ _ _ (spells_simple simple) unknown = cc
not_unknown _ _ _ (spells_octal passes some few ends) unknown = cc
not_unknown _ _ _ (spells_hexadecimal passes some ends) unknown = cc
not_unknown _ _ _ (spells_short_name passes counted) unknown = cc
not_unknown _ _ _ (spells_long_name passes counted) unknown = cc

-- where an unknown escape is computed, no element is spelled
none_spelled :
    (b : ℕ) (text : List ℕ) → (piece_at b text).element ≡ UnknownEscape → (element : Element) (front others : List ℕ) → b ∷ text ≡ front ++ others
    → Spells element front others → ⊥
none_spelled b text unknown = λ element front others same spells.
    not_unknown element front others spells (sym (Reads-Spells element front others spells b text (sym same)).first ∙ unknown)

-- the element that is computed at the front of a text has the bytes that are counted there
abbrev HasFirst : ℕ → List ℕ → Type 0
HasFirst b text = HasBytes (piece_at b text).element (b ∷ take (piece_at b text).further text) (drop (piece_at b text).further text)

-- it has them where the piece has them
HasFirst-piece :
    (b : ℕ) (text : List ℕ) (piece : Piece) (bytes rest : List ℕ) → piece_at b text ≡ piece → b ∷ take piece.further text ≡ bytes
    → drop piece.further text ≡ rest → HasBytes piece.element bytes rest → HasFirst b text
HasFirst-piece b text piece bytes rest is front back has =
    let Has : Piece → Type 0 = λ p. HasBytes p.element (b ∷ take p.further text) (drop p.further text) in
    let counted = subst (λ x. HasBytes piece.element x (drop piece.further text)) (sym front) (subst (λ r. HasBytes piece.element bytes r) (sym back) has) in
    subst Has (sym is) counted

HasFirst-plain : (b : ℕ) (text : List ℕ) → is_one_of (codes "\\") b ≡ false → HasFirst b text
HasFirst-plain b text plain =
    HasFirst-piece b text (record { element = Plain b; further = 0 }) (b ∷ []) text (rw plain refl) refl refl (inl (spells_plain plain))

-- a backslash at the end
HasFirst-end : HasFirst mark []
HasFirst-end = inr (refl, record { backslash = inl (refl, refl); none = none_spelled mark [] refl })

HasFirst-unknown : (b : ℕ) (text : List ℕ) → piece_at mark (b ∷ text) ≡ unknown_escape → HasFirst mark (b ∷ text)
HasFirst-unknown b text is =
    let unknown : IsUnknown (mark ∷ b ∷ []) text = record { backslash = inr (b, refl); none = none_spelled mark (b ∷ text) (ap (λ (p : Piece). p.element) is) } in
    HasFirst-piece mark (b ∷ text) unknown_escape (mark ∷ b ∷ []) text is refl refl (inr (refl, unknown))

HasFirst-simple : (b value : ℕ) (text : List ℕ) → simple_value b ≡ Some value → HasFirst mark (b ∷ text)
HasFirst-simple b value text simple =
    HasFirst-piece mark (b ∷ text) (record { element = Escape value; further = 1 }) (mark ∷ b ∷ []) text (rw simple refl) refl refl (inl (spells_simple simple))

HasFirst-octal : (b : ℕ) (text : List ℕ) → is_digit_of Octal b ≡ true → HasFirst mark (b ∷ text)
HasFirst-octal b text digit =
    let found = short_run_of (is_digit_of Octal) (b ∷ text) in
    let run = found.0 in
    let is = found.2 in
    let piece : piece_at mark (b ∷ text) ≡ record { element = Escape (number Octal run); further = length run } =
    escape_at-octal b text digit ∙ ap (λ ds. let p : Piece = record { element = Escape (number Octal ds); further = length ds } in p) is.front in
    let some : 0 < length run =
    omega (arith, ap length is.front, length-prefix_len (is_digit_of Octal) (take 3 (b ∷ text)), prefix_len-passes (is_digit_of Octal) b (take 2 text) digit)
    in
    HasFirst-piece mark (b ∷ text) (record { element = Escape (number Octal run); further = length run }) (mark ∷ run) found.1 piece
    (ap (λ x. mark ∷ x) (ap (take (length run)) is.split ∙ take-append_seam run found.1))
    (ap (drop (length run)) is.split ∙ drop-append_seam run found.1)
    (inl (spells_octal is.passes some is.few is.ends))

-- without a digit behind it the letter x begins no escape sequence
hexadecimal_escape-none : (text : List ℕ) → digits_of Hexadecimal text ≡ [] → hexadecimal_escape text ≡ unknown_escape
hexadecimal_escape-none text none =
    ap (λ ds. let p : Piece = if bytes_eq ds [] then unknown_escape else record { element = Escape (number Hexadecimal ds); further = 1 + length ds } in p) none

hexadecimal_from : (text run rest : List ℕ) → IsRun (is_digit_of Hexadecimal) text run rest → HasFirst mark (codes "x" ++ text)
hexadecimal_from text [] rest is = HasFirst-unknown 120 text (hexadecimal_escape-none text (take-run (is_digit_of Hexadecimal) text [] rest is))
hexadecimal_from text (b ∷ run) rest is =
    let digits = b ∷ run in
    let some : 0 < length digits = omega arith in
    HasFirst-piece mark (codes "x" ++ text) (record { element = Escape (number Hexadecimal digits); further = 1 + length digits }) (codes "\\x" ++ digits) rest
    (hexadecimal_escape-some text digits (take-run (is_digit_of Hexadecimal) text digits rest is) some)
    (ap (λ x. mark ∷ x) (take-append-add (codes "x") text (length digits) ∙ ap (λ x. codes "x" ++ x) (ap (take (length digits)) is.split ∙ take-append_seam digits rest)))
    (drop-append-add (codes "x") text (length digits) ∙ drop-run (is_digit_of Hexadecimal) text digits rest is)
    (inl (spells_hexadecimal is.passes some is.ends))

-- so many of the first bytes are digits where as many are found
digits-take :
    (count : ℕ) (text run rest : List ℕ) → IsRun (is_digit_of Hexadecimal) text run rest → count ≤ length (digits_of Hexadecimal text)
    → (list_all (is_digit_of Hexadecimal) (take count text) ≡ true) × (length (take count text) ≡ count)
digits-take count text run rest is enough =
    let within : count ≤ length run = omega (arith, length-prefix_len (is_digit_of Hexadecimal) text, is.count) in
    let front : take count text ≡ take count run = ap (take count) is.split ∙ take-append-le count run rest within in
    (ap (list_all (is_digit_of Hexadecimal)) front ∙ list_all-take (is_digit_of Hexadecimal) count run is.passes, ap length front ∙ length-take-le count run within)

-- a universal character name behind its letter, or an unknown escape
HasFirst-name :
    (b count : ℕ) (text : List ℕ) → piece_at mark (b ∷ text) ≡ universal_name count text
    → ((digits rest : List ℕ) → list_all (is_digit_of Hexadecimal) digits ≡ true → length digits ≡ count → Spells UniversalName (mark ∷ b ∷ digits) rest)
    → HasFirst mark (b ∷ text)
HasFirst-name b count text is spells =
    ⊎_elim
    (λ enough.
    let few : count ≤ length (digits_of Hexadecimal text) = grind (arith, nat_tests) in
    let run = run_of (is_digit_of Hexadecimal) text in
    let digits = digits-take count text run.0 run.1 run.2 few in
    let found : universal_name count text ≡ record { element = UniversalName; further = 1 + count } = rw enough refl in
    HasFirst-piece mark (b ∷ text) (record { element = UniversalName; further = 1 + count }) (mark ∷ b ∷ take count text) (drop count text) (is ∙ found)
    (ap (λ x. mark ∷ x) (take-append-add (b ∷ []) text count))
    (drop-append-add (b ∷ []) text count)
    (inl (spells (take count text) (drop count text) digits.0 digits.1)))
    (λ wanting.
    let found : universal_name count text ≡ unknown_escape = rw wanting refl in
    HasFirst-unknown b text (is ∙ found))
    (cases_Bool (nat_le count (length (digits_of Hexadecimal text))))

-- one of a single byte is that byte
is_one_of-single : (b c : ℕ) → is_one_of (b ∷ []) c ≡ true → c ≡ b
is_one_of-single b c one = grind (arith, nat_tests)

-- any other letter begins no escape sequence
lettered_escape-none :
    (b : ℕ) (text : List ℕ) → is_one_of (codes "x") b ≡ false → is_one_of (codes "u") b ≡ false → is_one_of (codes "U") b ≡ false
    → lettered_escape b text ≡ unknown_escape
lettered_escape-none b text no_x no_u no_upper = rw (no_x, no_u, no_upper) refl

HasFirst-lettered : (b : ℕ) (text : List ℕ) → piece_at mark (b ∷ text) ≡ lettered_escape b text → HasFirst mark (b ∷ text)
HasFirst-lettered b text is =
    let Has : ℕ → Type 0 = λ c. HasFirst mark (c ∷ text) in
    let run = run_of (is_digit_of Hexadecimal) text in
    ⊎_elim
    (λ x. subst Has (sym (is_one_of-single 120 b x)) (hexadecimal_from text run.0 run.1 run.2))
    (λ no_x. ⊎_elim
    (λ u. subst Has (sym (is_one_of-single 117 b u)) (HasFirst-name 117 4 text refl (λ digits rest passes counted. spells_short_name passes counted)))
    (λ no_u. ⊎_elim
    (λ upper. subst Has (sym (is_one_of-single 85 b upper)) (HasFirst-name 85 8 text refl (λ digits rest passes counted. spells_long_name passes counted)))
    (λ no_upper. HasFirst-unknown b text (is ∙ lettered_escape-none b text no_x no_u no_upper))
    (cases_Bool (is_one_of (codes "U") b)))
    (cases_Bool (is_one_of (codes "u") b)))
    (cases_Bool (is_one_of (codes "x") b))

escape_cases : (value : Option ℕ) → ((v : ℕ) × (value ≡ Some v)) ⊎ (value ≡ None)
escape_cases None = inr refl
escape_cases (Some v) = inl (v, refl)

escape_at-lettered : (b : ℕ) (text : List ℕ) → simple_value b ≡ None → is_digit_of Octal b ≡ false → escape_at (b ∷ text) ≡ lettered_escape b text
escape_at-lettered b text none no_digit = rw (none, no_digit) refl

-- what a backslash begins
HasFirst-escape : (b : ℕ) (text : List ℕ) → HasFirst mark (b ∷ text)
HasFirst-escape b text =
    ⊎_elim
    (λ simple. HasFirst-simple b simple.0 text simple.1)
    (λ none. ⊎_elim
    (λ digit. HasFirst-octal b text digit)
    (λ no_digit. HasFirst-lettered b text (escape_at-lettered b text none no_digit))
    (cases_Bool (is_digit_of Octal b)))
    (escape_cases (simple_value b))

HasFirst-backslash : (text : List ℕ) → HasFirst mark text
HasFirst-backslash [] = HasFirst-end
HasFirst-backslash (b ∷ text) = HasFirst-escape b text

-- the first element of each text
HasFirst-each : (b : ℕ) (text : List ℕ) → HasFirst b text
HasFirst-each b text =
    let Has : ℕ → Type 0 = λ c. HasFirst c text in
    ⊎_elim
    (λ backslash. subst Has (sym (is_one_of-single mark b backslash)) (HasFirst-backslash text))
    (λ plain. HasFirst-plain b text plain)
    (cases_Bool (is_one_of (codes "\\") b))

-- a text is made of the elements that are computed
IsMadeOf-same : (elements : List Element) (text : List ℕ) → elements_of text ≡ elements → IsMadeOf text elements
IsMadeOf-same [] [] same = refl
IsMadeOf-same [] (b ∷ text) same = cc
IsMadeOf-same (element ∷ elements) [] same = cc
IsMadeOf-same (element ∷ elements) (b ∷ text) same =
    let further = (piece_at b text).further in
    let parts = sym (elements_of-cons b text) ∙ same in
    let first : (piece_at b text).element ≡ element = cc parts in
    let others : elements_of (drop further text) ≡ elements = cc parts in (
      b ∷ take further text,
      drop further text,
      ap (λ x. b ∷ x) (sym (take-append-drop further text)),
      subst (λ e. HasBytes e (b ∷ take further text) (drop further text)) first (HasFirst-each b text),
      IsMadeOf-same elements (drop further text) others,
    )

pub IsMadeOf-elements_of : (text : List ℕ) → IsMadeOf text (elements_of text)
IsMadeOf-elements_of text = IsMadeOf-same (elements_of text) text refl

-- the bytes of an unknown escape
abbrev IsBackslash : List ℕ → List ℕ → Type 0
IsBackslash bytes rest = ((bytes ≡ codes "\\") × (rest ≡ [])) ⊎ ((b : ℕ) × (bytes ≡ codes "\\" ++ b ∷ []))

-- are two bytes, or one at the end
IsBackslash-rest : (bytes rest front back : List ℕ) → IsBackslash bytes rest → IsBackslash front back → bytes ++ rest ≡ front ++ back → back ≡ rest
IsBackslash-rest bytes rest front back this that same =
    let lengths : length bytes + length rest ≡ length front + length back = sym (length-append bytes rest) ∙ ap length same ∙ length-append front back in
    ⊎_elim
    (λ one. ⊎_elim
    (λ other. other.1 ∙ sym one.1)
    (λ other. absurd (omega (arith, ap length one.0, ap length one.1, ap length other.1)))
    that)
    (λ two. ⊎_elim
    (λ other. absurd (omega (arith, ap length two.1, ap length other.0, ap length other.1)))
    (λ other.
    let all = sym (ap (λ x. x ++ rest) two.1) ∙ same ∙ ap (λ x. x ++ back) other.1 in
    cc all)
    that)
    this

-- an unknown escape is computed where it stands
Reads-unknown : (bytes rest : List ℕ) → IsUnknown bytes rest → (b : ℕ) (text : List ℕ) → bytes ++ rest ≡ b ∷ text → Reads b text UnknownEscape rest
Reads-unknown bytes rest unknown b text same =
    let further = (piece_at b text).further in
    let split : bytes ++ rest ≡ (b ∷ take further text) ++ drop further text = same ∙ ap (λ x. b ∷ x) (sym (take-append-drop further text)) in
    ⊎_elim
    (λ spelled. absurd (unknown.none (piece_at b text).element (b ∷ take further text) (drop further text) split spelled))
    (λ found. record { first = found.0; behind = IsBackslash-rest bytes rest (b ∷ take further text) (drop further text) unknown.backslash found.1.backslash split })
    (HasFirst-each b text)

-- each element is computed where it stands
Reads-HasBytes : (element : Element) (bytes rest : List ℕ) → HasBytes element bytes rest → (b : ℕ) (text : List ℕ) → bytes ++ rest ≡ b ∷ text → Reads b text element rest
Reads-HasBytes element bytes rest has b text same =
    ⊎_elim
    (λ spelled. Reads-Spells element bytes rest spelled b text same)
    (λ unknown. subst (λ e. Reads b text e rest) (sym unknown.0) (Reads-unknown bytes rest unknown.1 b text same))
    has

-- no element is spelled by no bytes
Spells-some : (element : Element) (bytes rest : List ℕ) → Spells element bytes rest → 0 < length bytes
Spells-some _ _ _ (spells_plain plain) = omega arith
Spells-some _ _ _ (spells_simple simple) = omega arith
Spells-some _ _ _ (spells_octal passes some few ends) = omega arith
Spells-some _ _ _ (spells_hexadecimal passes some ends) = omega arith
Spells-some _ _ _ (spells_short_name passes counted) = omega arith
Spells-some _ _ _ (spells_long_name passes counted) = omega arith

HasBytes-some : (element : Element) (bytes rest : List ℕ) → HasBytes element bytes rest → 0 < length bytes
HasBytes-some element bytes rest has =
    ⊎_elim
    (λ spelled. Spells-some element bytes rest spelled)
    (λ unknown. ⊎_elim (λ one. omega (arith, ap length one.0)) (λ two. omega (arith, ap length two.1)) unknown.1.backslash)
    has

-- a text is made of no other elements
pub elements_of-unique : (elements : List Element) (text : List ℕ) → IsMadeOf text elements → elements ≡ elements_of text
elements_of-unique [] text made = sym (ap elements_of made)
elements_of-unique (element ∷ elements) [] made =
    absurd (omega (arith, HasBytes-some element made.0 made.1 made.3, ap length made.2, length-append made.0 made.1))
elements_of-unique (element ∷ elements) (b ∷ text) made =
    let reads = Reads-HasBytes element made.0 made.1 made.3 b text (sym made.2) in
    let others = elements_of-unique elements made.1 made.4 in
    ap (λ es. element ∷ es) others ∙ sym (elements_of-cons b text ∙ (λ i. reads.first i ∷ elements_of (reads.behind i)))
