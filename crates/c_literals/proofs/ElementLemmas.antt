-- The elements of a text, from its first one on.
use Rattle.std.proofs.Common.{◌≡◌, ℕ, ◌-◌, Bool, true, false, cond, nat_le, length, take, Result, Ok, Err, List, [], ◌∷◌, ◌++◌, drop, refl, sym, ap, ◌∙◌, append_assoc}
use Rattle.std.proofs.lemmas.List.{take_rest}
use Rattle.meaning_literals.specs.Constants.{Fault, BadEscapeFault, WideFault}
use Rattle.meaning_literals.specs.Elements.{Element, Plain, Escape, UnknownEscape, UniversalName, piece_at, elements_of}
use Rattle.meaning_literals.proofs.ElementLemmas.{elements_of-cons}
use Rattle.meaning_literals.specs.Quoted.{byte_of, bytes_of, fault_of_two, single_byte, with_byte}

-- one element is its byte
pub single_byte-alone : (b : ℕ) (text : List ℕ) → drop (piece_at b text).further text ≡ [] → single_byte (elements_of (b ∷ text)) ≡ byte_of (piece_at b text).element
single_byte-alone b text ends =
    ap single_byte (elements_of-cons b text) ∙ ap (λ rest. single_byte ((piece_at b text).element ∷ elements_of rest)) ends

-- of more than one element the first two tell the fault
pub single_byte-two : (b : ℕ) (text : List ℕ) (c : ℕ) (others : List ℕ) → drop (piece_at b text).further text ≡ c ∷ others → single_byte (elements_of (b ∷ text)) ≡ Err (fault_of_two (byte_of (piece_at b text).element) (byte_of (piece_at c others).element))
single_byte-two b text c others goes =
    ap single_byte (elements_of-cons b text) ∙ ap (λ rest. single_byte ((piece_at b text).element ∷ elements_of rest)) goes

-- what bytes and the answer of the text behind them make up
abbrev pub behind_bytes : List ℕ → Result (List ℕ) Fault → Result (List ℕ) Fault
behind_bytes bytes (Ok others) = Ok (bytes ++ others)
behind_bytes bytes (Err fault) = Err fault

-- behind no bytes the answer is that of the text
pub behind_bytes-nil : (answer : Result (List ℕ) Fault) → behind_bytes [] answer ≡ answer
behind_bytes-nil (Ok others) = refl
behind_bytes-nil (Err fault) = refl

-- a byte joins those before it
behind_bytes-with_byte : (bytes : List ℕ) (b : ℕ) (answer : Result (List ℕ) Fault) → behind_bytes bytes (with_byte (Ok b) answer) ≡ behind_bytes (bytes ++ b ∷ []) answer
behind_bytes-with_byte bytes b (Ok others) = ap (λ all. Ok all) (sym (append_assoc bytes (b ∷ []) others))
behind_bytes-with_byte bytes b (Err fault) = refl

-- the byte of the first element joins those before it
pub behind_bytes-element : (bytes : List ℕ) (b : ℕ) (text : List ℕ) (byte : ℕ) → byte_of (piece_at b text).element ≡ Ok byte → behind_bytes bytes (bytes_of (elements_of (b ∷ text))) ≡ behind_bytes (bytes ++ byte ∷ []) (bytes_of (elements_of (drop (piece_at b text).further text)))
behind_bytes-element bytes b text byte is =
    let rest = bytes_of (elements_of (drop (piece_at b text).further text)) in
    ap (λ elements. behind_bytes bytes (bytes_of elements)) (elements_of-cons b text)
    ∙ ap (λ first. behind_bytes bytes (with_byte first rest)) is
    ∙ behind_bytes-with_byte bytes byte rest

-- a value above 255 is no fault of a prefix
escaped-not_wide : (value : ℕ) (fits : Bool) → cond fits (Ok value) (Err BadEscapeFault) ≡ Err WideFault → ⊥
escaped-not_wide value true wide = cc
escaped-not_wide value false wide = cc

-- no byte is at fault for a prefix
byte_of-not_wide : (element : Element) → byte_of element ≡ Err WideFault → ⊥
byte_of-not_wide (Plain b) wide = cc
byte_of-not_wide (Escape value) wide = escaped-not_wide value (nat_le value 255) wide
byte_of-not_wide UnknownEscape wide = cc
byte_of-not_wide UniversalName wide = cc

-- nor are bytes
with_byte-not_wide : (first : Result ℕ Fault) (others : Result (List ℕ) Fault) → (first ≡ Err WideFault → ⊥) → (others ≡ Err WideFault → ⊥) → with_byte first others ≡ Err WideFault → ⊥
with_byte-not_wide (Err fault) others first rest wide = let same : fault ≡ WideFault = cc in first (ap Err same)
with_byte-not_wide (Ok b) (Err fault) first rest wide = rest wide
with_byte-not_wide (Ok b) (Ok bytes) first rest wide = cc

pub bytes_of-not_wide : (elements : List Element) → bytes_of elements ≡ Err WideFault → ⊥
bytes_of-not_wide [] wide = cc
bytes_of-not_wide (element ∷ elements) wide =
    with_byte-not_wide (byte_of element) (bytes_of elements) (byte_of-not_wide element) (bytes_of-not_wide elements) wide

-- what is left of a text behind a piece
pub behind_piece : (text : List ℕ) (found further : ℕ) → found ≡ further → take (length text - found) (drop found text) ≡ drop further text
behind_piece text found further same = take_rest text found ∙ ap (λ count. drop count text) same
