-- What readers find, whatever they read: one after another, and many of them.
use Rattle.std.proofs.Common.{◌≡◌, ℕ, zero, suc, ◌<◌, ◌≤◌, Bool, true, false, if◌then◌else◌, ◌⊎◌, inl, inr, List, [], ◌∷◌, ◌++◌, length, Option, Some, None, bytes_eq, flat_map, refl, sym, ap, ap₂, ◌∙◌, append_assoc, length-append, arith}
use Rattle.std.specs.List.{list_all}
use Rattle.std.proofs.lemmas.Bool.{and_from, and_parts, cond-false, false_from_ne_true, both_ways}
use Rattle.std.proofs.lemmas.Option.{none-some, same_Some, cond_some}
use Rattle.std.proofs.lemmas.Slice.Eq.{bytes_eq-Decides}
use Rattle.meaning_syntax.specs.plain.Reading.{Texts, after, or_else, read_text, read_passing, before_others, read_up_to, read_many, if_whole}

-- both readers found something
pub after_parts : {A B : Type 0} (o : Option A) (next : A → Option B) (y : B) → after o next ≡ Some y → (x : A) × (o ≡ Some x) × (next x ≡ Some y)
after_parts None next y h = absurd (none-some y h)
after_parts (Some x) next y h = (x, refl, h)

-- one of the two readers found it
pub or_else_cases : {A : Type 0} (o other : Option A) (x : A) → or_else o other ≡ Some x → (o ≡ Some x) ⊎ (other ≡ Some x)
or_else_cases None other x h = inr h
or_else_cases (Some y) other x h = inl h

-- what `read_text` leaves stands behind the text
pub read_text_parts : (wanted : List ℕ) (texts rest : Texts) → read_text wanted texts ≡ Some rest → texts ≡ wanted ∷ rest
read_text_parts wanted [] rest h = absurd (none-some rest h)
read_text_parts wanted (text ∷ texts) rest h =
    let found = cond_some (bytes_eq text wanted) texts rest h in
    ap₂ ◌∷◌ ((bytes_eq-Decides text wanted).0 found.0) found.1

-- a text that passes a test is none that fails it
pub bytes_eq-tests_differ : (test : List ℕ → Bool) (text other : List ℕ) → test text ≡ true → test other ≡ false → bytes_eq text other ≡ false
bytes_eq-tests_differ test text other passes fails =
    false_from_ne_true (bytes_eq text other) (λ e. both_ways (test text) (ap test ((bytes_eq-Decides text other).0 e) ∙ fails) passes)

-- `read_text` doesn't find a text that another test tells apart
pub read_text_elsewhere : (wanted text : List ℕ) (rest : Texts) → bytes_eq text wanted ≡ false → read_text wanted (text ∷ rest) ≡ None
read_text_elsewhere wanted text rest h = cond-false (bytes_eq text wanted) (Some rest) None h

-- what `read_passing` finds stands at the front, and passes
pub read_passing_parts :
    (test : List ℕ → Bool) (texts : Texts) (found : List ℕ × Texts) → read_passing test texts ≡ Some found → (texts ≡ found.0 ∷ found.1) × (test found.0 ≡ true)
read_passing_parts test [] found h = absurd (none-some found h)
read_passing_parts test (text ∷ texts) found h =
    let passed = cond_some (test text) (text, texts) found h in
    (ap₂ ◌∷◌ (ap (λ r. r.0) passed.1) (ap (λ r. r.1) passed.1), ap test (ap (λ r. r.0) (sym passed.1)) ∙ passed.0)

-- what follows where a text was read, and then something
pub read_text_then :
    {B P : Type 0} (wanted : List ℕ) (texts : Texts) (next : Texts → Option B) (y : B) → after (read_text wanted texts) next ≡ Some y
    → ((rest : Texts) → texts ≡ wanted ∷ rest → next rest ≡ Some y → P) → P
read_text_then wanted texts next y h follows =
    let parts = after_parts (read_text wanted texts) next y h in
    follows parts.0 (read_text_parts wanted texts parts.0 parts.1) parts.2

-- what follows where a text that passes was read, and then something
pub read_passing_then :
    {B P : Type 0} (test : List ℕ → Bool) (texts : Texts) (next : List ℕ × Texts → Option B) (y : B) → after (read_passing test texts) next ≡ Some y
    → ((text : List ℕ) (rest : Texts) → texts ≡ text ∷ rest → test text ≡ true → next (text, rest) ≡ Some y → P) → P
read_passing_then test texts next y h follows =
    let parts = after_parts (read_passing test texts) next y h in
    let found = read_passing_parts test texts parts.0 parts.1 in
    follows parts.0.0 parts.0.1 found.0 found.1 parts.2

-- what follows where a test passed, and then something was read
pub test_then :
    {A B P : Type 0} (test : Bool) (x : A) (next : A → Option B) (y : B) → after (if test then Some x else None) next ≡ Some y → (test ≡ true → next x ≡ Some y → P) → P
test_then true x next y h follows = follows refl h
test_then false x next y h follows = absurd (none-some y h)

-- where nothing is left, all was read
pub if_whole_parts : {A : Type 0} (found : A × Texts) (x : A) → if_whole found ≡ Some x → found ≡ (x, [])
if_whole_parts (read, []) x h = ap (λ y. (y, [])) (same_Some read x h)
if_whole_parts (read, text ∷ rest) x h = absurd (none-some x h)

-- Many of them

-- each time something is read, a text at least is taken
abbrev pub Shrinks : {A : Type 0} → (Texts → Option (A × Texts)) → Type 0
Shrinks {A} read = (texts : Texts) (x : A) (rest : Texts) → read texts ≡ Some (x, rest) → length rest < length texts

-- what is found behind the first is all that counts
before_others_same :
    {A : Type 0} (o : Option (A × Texts)) (texts : Texts) (f g : Texts → List A × Texts) → ((x : A) (rest : Texts) → o ≡ Some (x, rest) → f rest ≡ g rest)
    → before_others o texts f ≡ before_others o texts g
before_others_same None texts f g h = refl
before_others_same (Some (x, rest)) texts f g h = ap (λ others. (x ∷ others.0, others.1)) (h x rest refl)

-- where there is no first, nothing is found
before_others_none :
    {A : Type 0} (o : Option (A × Texts)) (texts : Texts) (f : Texts → List A × Texts) → ((x : A) (rest : Texts) → o ≡ Some (x, rest) → ⊥)
    → before_others o texts f ≡ ([], texts)
before_others_none None texts f h = refl
before_others_none (Some (x, rest)) texts f h = absurd (h x rest refl)

-- two numbers that are no smaller than the list read the same
read_up_to_enough :
    {A : Type 0} (read : Texts → Option (A × Texts)) → Shrinks read → (n m : ℕ) (texts : Texts) → length texts ≤ n → length texts ≤ m
    → read_up_to read n texts ≡ read_up_to read m texts
unfolding read_up_to
read_up_to_enough read shrinks zero zero texts a b = refl
read_up_to_enough read shrinks zero (suc m) texts a b = sym (before_others_none (read texts) texts _ (λ x rest e. let less = shrinks texts x rest e in omega arith))
read_up_to_enough read shrinks (suc n) zero texts a b = before_others_none (read texts) texts _ (λ x rest e. let less = shrinks texts x rest e in omega arith)
read_up_to_enough read shrinks (suc n) (suc m) texts a b =
    before_others_same (read texts) texts _ _
    (λ x rest e. let less = shrinks texts x rest e in read_up_to_enough read shrinks n m rest (omega arith) (omega arith))

-- a number that is no smaller than the list is enough
pub read_up_to-read_many :
    {A : Type 0} (read : Texts → Option (A × Texts)) → Shrinks read → (n : ℕ) (texts : Texts) → length texts ≤ n → read_up_to read n texts ≡ read_many read texts
unfolding read_many
read_up_to-read_many read shrinks n texts h = read_up_to_enough read shrinks n (length texts) texts h (omega arith)

-- where the reader finds something, it and what is found behind it
pub read_many_some :
    {A : Type 0} (read : Texts → Option (A × Texts)) → Shrinks read → (texts : Texts) (x : A) (rest : Texts) → read texts ≡ Some (x, rest)
    → read_many read texts ≡ (x ∷ (read_many read rest).0, (read_many read rest).1)
unfolding read_many read_up_to
read_many_some read shrinks [] x rest e = let less = shrinks [] x rest e in absurd (omega arith)
read_many_some read shrinks (text ∷ texts) x rest e =
    let less = shrinks (text ∷ texts) x rest e in
    ap (λ o. before_others o (text ∷ texts) (λ behind. read_up_to read (length texts) behind)) e
    ∙ ap (λ others. (x ∷ others.0, others.1)) (read_up_to-read_many read shrinks (length texts) rest (omega arith))

-- where the reader finds nothing, nothing
pub read_many_none : {A : Type 0} (read : Texts → Option (A × Texts)) (texts : Texts) → read texts ≡ None → read_many read texts ≡ ([], texts)
unfolding read_many read_up_to
read_many_none read [] e = refl
read_many_none read (text ∷ texts) e = ap (λ o. before_others o (text ∷ texts) (λ behind. read_up_to read (length texts) behind)) e

-- what this reader finds is spelled so, and fits
abbrev pub ReadsSpelled : {A : Type 0} → (Texts → Option (A × Texts)) → (A → Texts) → (A → Bool) → Type 0
ReadsSpelled {A} read spelled fits = (texts : Texts) (x : A) (rest : Texts) → read texts ≡ Some (x, rest) → (texts ≡ spelled x ++ rest) × (fits x ≡ true)

-- this reader finds what is spelled so and fits
abbrev pub FindsSpelled : {A : Type 0} → (Texts → Option (A × Texts)) → (A → Texts) → (A → Bool) → Type 0
FindsSpelled {A} read spelled fits = (x : A) (rest : Texts) → fits x ≡ true → read (spelled x ++ rest) ≡ Some (x, rest)

-- a reader of what takes a text at least to spell shrinks the list
pub Shrinks-from_spelled :
    {A : Type 0} (read : Texts → Option (A × Texts)) (spelled : A → Texts) (fits : A → Bool) → ReadsSpelled read spelled fits
    → ((x : A) → 0 < length (spelled x)) → Shrinks read
Shrinks-from_spelled read spelled fits reads some texts x rest e =
    let at = (reads texts x rest e).0 in
    let long = some x in
    omega (arith, ap length at, length-append (spelled x) rest)

-- what follows where this reader found something, and then something behind it
pub reads_then :
    {A B P : Type 0} (read : Texts → Option (A × Texts)) (spelled : A → Texts) (fits : A → Bool) → ReadsSpelled read spelled fits
    → (texts : Texts) (next : A × Texts → Option B) (y : B) → after (read texts) next ≡ Some y
    → ((x : A) (rest : Texts) → texts ≡ spelled x ++ rest → fits x ≡ true → next (x, rest) ≡ Some y → P) → P
reads_then read spelled fits reads texts next y h follows =
    let parts = after_parts (read texts) next y h in
    let found = reads texts parts.0.0 parts.0.1 parts.1 in
    follows parts.0.0 parts.0.1 found.0 found.1 parts.2

-- the first and the others are spelled one by one, and each fits
before_others_spelled :
    {A : Type 0} (spelled : A → Texts) (fits : A → Bool) (o : Option (A × Texts)) (texts : Texts) (others : Texts → List A × Texts)
    → ((x : A) (rest : Texts) → o ≡ Some (x, rest) → (texts ≡ spelled x ++ rest) × (fits x ≡ true))
    → ((rest : Texts) → (rest ≡ flat_map spelled (others rest).0 ++ (others rest).1) × (list_all fits (others rest).0 ≡ true))
    → (texts ≡ flat_map spelled (before_others o texts others).0 ++ (before_others o texts others).1) × (list_all fits (before_others o texts others).0 ≡ true)
before_others_spelled spelled fits None texts others first further = (refl, refl)
before_others_spelled spelled fits (Some (x, rest)) texts others first further =
    let here = first x rest refl in
    let behind = further rest in
    (here.0 ∙ ap (λ t. spelled x ++ t) behind.0 ∙ sym (append_assoc (spelled x) _ _), and_from _ _ here.1 behind.1)

-- what is read up to a number is spelled one by one, and each fits
read_up_to_spelled :
    {A : Type 0} (read : Texts → Option (A × Texts)) (spelled : A → Texts) (fits : A → Bool) → ReadsSpelled read spelled fits → (n : ℕ) (texts : Texts)
    → (texts ≡ flat_map spelled (read_up_to read n texts).0 ++ (read_up_to read n texts).1) × (list_all fits (read_up_to read n texts).0 ≡ true)
unfolding read_up_to
read_up_to_spelled read spelled fits reads zero texts = (refl, refl)
read_up_to_spelled read spelled fits reads (suc n) texts =
    before_others_spelled spelled fits (read texts) texts (λ rest. read_up_to read n rest) (reads texts) (read_up_to_spelled read spelled fits reads n)

-- what is read one by one is spelled one by one, and each fits
pub read_many_spelled :
    {A : Type 0} (read : Texts → Option (A × Texts)) (spelled : A → Texts) (fits : A → Bool) → ReadsSpelled read spelled fits → (texts : Texts)
    → (texts ≡ flat_map spelled (read_many read texts).0 ++ (read_many read texts).1) × (list_all fits (read_many read texts).0 ≡ true)
unfolding read_many
read_many_spelled read spelled fits reads texts = read_up_to_spelled read spelled fits reads (length texts) texts

-- what is spelled one by one is read one by one, up to where the reader finds nothing
pub read_many_here :
    {A : Type 0} (read : Texts → Option (A × Texts)) (spelled : A → Texts) (fits : A → Bool) → Shrinks read → FindsSpelled read spelled fits
    → (xs : List A) (rest : Texts) → list_all fits xs ≡ true → read rest ≡ None → read_many read (flat_map spelled xs ++ rest) ≡ (xs, rest)
read_many_here read spelled fits shrinks finds [] rest fit none = read_many_none read rest none
read_many_here read spelled fits shrinks finds (x ∷ xs) rest fit none =
    let parts = and_parts (fits x) (list_all fits xs) fit in
    let behind = flat_map spelled xs ++ rest in
    ap (read_many read) (append_assoc (spelled x) (flat_map spelled xs) rest)
    ∙ read_many_some read shrinks (spelled x ++ behind) x behind (finds x behind parts.0)
    ∙ ap (λ others. (x ∷ others.0, others.1)) (read_many_here read spelled fits shrinks finds xs rest parts.1 none)
