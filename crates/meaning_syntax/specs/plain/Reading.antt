-- The plain program beside the derivation: it reads the spellings from the front. A reader says what
-- stands there and what is left behind it, or that nothing such stands there.
use Rattle.std.specs.Prelude.{ℕ, suc, zero, ◌+◌, Bool, List, [], ◌∷◌, Option, Some, None, codes, length, nat_le, if◌then◌else◌}
use Rattle.std.specs.Str.{bytes_eq}
use Rattle.meaning_syntax.specs.Words.{is_name, is_space_id}
use Rattle.meaning_syntax.specs.Items.{Word, Noderef, AddressSpace, Statement, Assign, AssignThrough, AssignAddress, Item, Object, Function}
use Rattle.meaning_syntax.specs.Binding.{are_bound}

abbrev pub Texts : Type 0
Texts = List (List ℕ)

-- What readers are made of

-- one reader after another
abbrev pub after : {A B : Type 0} → Option A → (A → Option B) → Option B
after None next = None
after (Some read) next = next read

-- the second reader where the first finds nothing
abbrev pub or_else : {A : Type 0} → Option A → Option A → Option A
or_else None other = other
or_else (Some read) other = Some read

-- this text
abbrev pub read_text : List ℕ → Texts → Option Texts
read_text wanted [] = None
read_text wanted (text ∷ rest) = if bytes_eq text wanted then Some rest else None

-- a text that passes the test
abbrev pub read_passing : (List ℕ → Bool) → Texts → Option (List ℕ × Texts)
read_passing test [] = None
read_passing test (text ∷ rest) = if test text then Some (text, rest) else None

abbrev pub before_others : {A : Type 0} → Option (A × Texts) → Texts → (Texts → List A × Texts) → List A × Texts
before_others None texts others = ([], texts)
before_others (Some (first, rest)) texts others = (first ∷ (others rest).0, (others rest).1)

-- as many as there are, and no more than this number
unfoldable pub read_up_to : {A : Type 0} → (Texts → Option (A × Texts)) → ℕ → Texts → List A × Texts
read_up_to read zero texts = ([], texts)
read_up_to read (suc most) texts = before_others (read texts) texts (λ rest. read_up_to read most rest)

-- as many as there are: each takes a text at least, so there are no more of them than texts
unfoldable pub read_many : {A : Type 0} → (Texts → Option (A × Texts)) → Texts → List A × Texts
read_many read texts = read_up_to read (length texts) texts

-- The parts of an item

unfoldable pub read_noderef : Texts → Option (Word × Texts)
read_noderef texts = after (read_text (codes "noderef") texts) (λ rest. Some (Noderef, rest))

unfoldable pub read_space : Texts → Option (Word × Texts)
read_space texts =
    after (read_text (codes "address_space") texts) (λ behind_word.
    after (read_text (codes "(") behind_word) (λ inside.
    after (read_passing is_space_id inside) (λ id.
    after (read_text (codes ")") id.1) (λ rest. Some (AddressSpace id.0, rest)))))

unfoldable pub read_word : Texts → Option (Word × Texts)
read_word texts = or_else (read_noderef texts) (read_space texts)

unfoldable pub read_further_word : Texts → Option (Word × Texts)
read_further_word texts = after (read_text (codes ",") texts) read_word

-- what stands in an attribute behind its keyword
unfoldable pub read_word_list : Texts → Option (List Word × Texts)
read_word_list texts =
    after (read_text (codes "(") texts) (λ outer.
    after (read_text (codes "(") outer) (λ inner.
    after (read_word inner) (λ word.
    let words = read_many read_further_word word.1 in
    after (read_text (codes ")") words.1) (λ behind_inner.
    after (read_text (codes ")") behind_inner) (λ rest. Some (word.0 ∷ words.0, rest))))))

abbrev pub words_behind : Option Texts → Texts → Option (List Word × Texts)
words_behind None texts = Some ([], texts)
words_behind (Some inside) texts = read_word_list inside

-- an attribute, or no words where there is none
unfoldable pub read_attribute : Texts → Option (List Word × Texts)
read_attribute texts = words_behind (read_text (codes "__attribute__") texts) texts

-- how many stars stand here
unfoldable pub read_stars : Texts → ℕ × Texts
read_stars [] = (0, [])
read_stars (text ∷ rest) =
    if bytes_eq text (codes "*") then ((read_stars rest).0 + 1, (read_stars rest).1) else (0, text ∷ rest)

unfoldable pub read_object : Texts → Option (Item × Texts)
read_object texts =
    after (read_text (codes "extern") texts) (λ behind_extern.
    after (read_text (codes "int") behind_extern) (λ behind_int.
    after (read_attribute behind_int) (λ words.
    let stars = read_stars words.1 in
    after (if nat_le stars.0 3 then Some stars else None) (λ few.
    after (read_passing is_name few.1) (λ name.
    after (read_text (codes ";") name.1) (λ rest. Some (Object words.0 few.0 name.0, rest)))))))

-- `target = source ;`
unfoldable pub read_assignment : Texts → Option (Statement × Texts)
read_assignment texts =
    after (read_passing is_name texts) (λ target.
    after (read_text (codes "=") target.1) (λ behind_equals.
    after (read_passing is_name behind_equals) (λ source.
    after (read_text (codes ";") source.1) (λ rest. Some (Assign target.0 source.0, rest)))))

-- `* pointer = source ;`
unfoldable pub read_assignment_through : Texts → Option (Statement × Texts)
read_assignment_through texts =
    after (read_text (codes "*") texts) (λ behind_star.
    after (read_passing is_name behind_star) (λ pointer.
    after (read_text (codes "=") pointer.1) (λ behind_equals.
    after (read_passing is_name behind_equals) (λ source.
    after (read_text (codes ";") source.1) (λ rest. Some (AssignThrough pointer.0 source.0, rest))))))

-- `target = & object ;`
unfoldable pub read_address_assignment : Texts → Option (Statement × Texts)
read_address_assignment texts =
    after (read_passing is_name texts) (λ target.
    after (read_text (codes "=") target.1) (λ behind_equals.
    after (read_text (codes "&") behind_equals) (λ behind_ampersand.
    after (read_passing is_name behind_ampersand) (λ object.
    after (read_text (codes ";") object.1) (λ rest. Some (AssignAddress target.0 object.0, rest))))))

unfoldable pub read_statement : Texts → Option (Statement × Texts)
read_statement texts =
    or_else (read_assignment texts) (or_else (read_assignment_through texts) (read_address_assignment texts))

-- `( void ) {`
unfoldable pub read_opening : Texts → Option Texts
read_opening texts =
    after (read_text (codes "(") texts) (λ inside.
    after (read_text (codes "void") inside) (λ behind_void.
    after (read_text (codes ")") behind_void) (λ behind_list. read_text (codes "{") behind_list)))

unfoldable pub read_function : Texts → Option (Item × Texts)
read_function texts =
    after (read_text (codes "void") texts) (λ behind_void.
    after (read_passing is_name behind_void) (λ name.
    after (read_opening name.1) (λ body.
    let statements = read_many read_statement body in
    after (read_text (codes "}") statements.1) (λ rest. Some (Function name.0 statements.0, rest)))))

unfoldable pub read_item : Texts → Option (Item × Texts)
read_item texts = or_else (read_object texts) (read_function texts)

-- The whole

-- what was read, where nothing is left
abbrev pub if_whole : {A : Type 0} → A × Texts → Option A
if_whole (read, []) = Some read
if_whole (read, text ∷ rest) = None

unfoldable pub read_items : Texts → Option (List Item)
read_items texts = if_whole (read_many read_item texts)

unfoldable pub read_unit : Texts → Option (List Item)
read_unit texts = after (read_items texts) (λ items. if are_bound [] items then Some items else None)
