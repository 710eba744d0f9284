-- What is pasted in a vector, and what is pasted by the definition.
use Rattle.std.proofs.Common.{◌≡◌, ◌<◌, ◌≤◌, ◌+◌, ℕ, suc, zero, Bool, false, List, [], ◌∷◌, ◌++◌, length, set, get_or, slice_get, unwrap_or, Option, Some, None, option_map, IfSome, refl, sym, ap, subst, ◌∙◌, append_assoc, arith, length-append}
use Rattle.std.proofs.lemmas.List.{get_or_at, length-map, map-append, set_at}
use Rattle.vocabulary.specs.declared.token_kind.TokenKind.{TokenKind}
use Rattle.meaning_text.specs.Kinds.{kind_in}
use Rattle.meaning_text.specs.Places.{At}
use Rattle.meaning_macros.specs.Bodies as bodies
use Rattle.meaning_macros.specs.Bodies.{Chain}
use Rattle.meaning_macros.specs.Hiding as hiding
use Rattle.meaning_macros.specs.Hiding.{Hiding, led}
use Rattle.meaning_macros.specs.Substitution.{Pasted, Joins, BadBehind, argument_of, chain_tokens, comma_before, operand_tokens, paste, pasted, put_before}
use Rattle.sparse_model.specs.declared.place.Place.{Place}
use Rattle.sparse_model.specs.declared.ids.NameId.{NameId}
use Rattle.c_tokens.specs.Seen.{IsKnown, at_of, joined_text, text_of}
use Rattle.c_macros.specs.Seen.{token_by}
use Rattle.c_macros.specs.Arguments.{arguments_by}
use Rattle.c_macros.specs.Chains.{Holds, IsSplit, Stops, item_at, item_behind, items_at, led_items, standing}
use Rattle.c_macros.specs.Reading.{HasName, Reading, ReadsNames, hiding_by, hidings_by}
use Rattle.c_macros.specs.declared.item.Item.{Item}
use Rattle.c_macros.specs.declared.substitution.SubstitutionFault.{SubstitutionFault}
use Rattle.c_macros.specs.declared.substitution.SubstitutionFault.TheVariants.{BadPaste, TooMany, Memory}

-- what comes of the items behind the base is what comes of all
pub record GoesOn (r : Reading) (start : ℕ) (base all : List Item) (goes_on : Pasted → Pasted) (found : Pasted) : Type 0 where
  pub left : List Item
  pub split : IsSplit all start base left
  pub same : goes_on (Joins (hidings_by r left)) ≡ found

-- Items as they are read

pub hidings-placed : (r : Reading) (place : Place) (items : List Item) → hiding.set_at (at_of place) (hidings_by r items) ≡ hidings_by r (items_at place items)
hidings-placed r place [] = refl
hidings-placed r place (item ∷ items) = ap (λ others. hiding_by r (item_at place item) ∷ others) (hidings-placed r place items)

pub hidings-led : (r : Reading) (space : Bool) (items : List Item) → led space (hidings_by r items) ≡ hidings_by r (led_items space items)
hidings-led r space [] = refl
hidings-led r space (item ∷ items) = refl

-- the argument of a parameter, as it is read
pub argument-read : (r : Reading) (lists : List (List Item)) (k : ℕ) → argument_of (arguments_by r lists) k ≡ hidings_by r (unwrap_or (slice_get lists k) [])
argument-read r [] k = refl
argument-read r (list ∷ lists) zero = refl
argument-read r (list ∷ lists) (suc k) = argument-read r lists k

-- an argument that begins with this item
pub placed-first : (r : Reading) (place : Place) (argument others : List Item) (first put : Item) → argument ≡ first ∷ others → put ≡ item_at place first
    → hiding.set_at (at_of place) (hidings_by r argument) ≡ hiding_by r put ∷ hidings_by r (items_at place others)
placed-first r place argument others first put begins is_put =
    ap (λ items. hiding.set_at (at_of place) (hidings_by r items)) begins
    ∙ hidings-placed r place (first ∷ others)
    ∙ ap (λ item. hiding_by r item ∷ hidings_by r (items_at place others)) (sym is_put)

-- V isn't empty, so the comma goes before it
pub comma_stays : (r : Reading) (place : Place) (space : Bool) (rest : List Item) (comma : Hiding) → 0 < length rest
    → comma_before comma (led space (hiding.set_at (at_of place) (hidings_by r rest))) ≡ comma ∷ hidings_by r (led_items space (items_at place rest))
comma_stays r place space [] comma some = absurd (omega arith)
comma_stays r place space (item ∷ items) comma some = ap (λ others. comma ∷ hiding_by r (item_behind space (item_at place item)) ∷ others) (hidings-placed r place items)

-- the first item behind the base is led
pub led_set : (items base left : List Item) (start : ℕ) (space : Bool) (item put : Item) → IsSplit items start base left → start < length items → item ≡ get_or items start item → put ≡ item_behind space item
    → set items start put ≡ base ++ led_items space left
led_set items base [] start space item put split within read is_put = absurd (omega (arith, ap length split.items, length-append base [], split.length))
led_set items base (first ∷ left) start space item put split within read is_put =
    let item_is : item ≡ first = read ∙ ap (λ list. get_or list start item) split.items ∙ get_or_at base first left item start (sym split.length) in
    ap (λ list. set list start put) split.items ∙ set_at base first left put start (sym split.length) ∙ ap (λ one. base ++ one ∷ left) (is_put ∙ ap (item_behind space) item_is)

-- Pasting

abbrev followed_by : List Hiding → Pasted → Pasted
followed_by right (Joins tokens) = Joins (tokens ++ right)
followed_by right (BadBehind count) = BadBehind count

put-followed : (a : Hiding) (right : List Hiding) (p : Pasted) → put_before a (followed_by right p) ≡ followed_by right (put_before a p)
put-followed a right (Joins tokens) = refl
put-followed a right (BadBehind count) = refl

pasted-followed : (a : Hiding) (kind : Option TokenKind) (text : List ℕ) (right : List Hiding) → pasted a kind text right ≡ followed_by right (pasted a kind text [])
pasted-followed a None text right = refl
pasted-followed a (Some kind) text right = refl

-- only the first on the right is joined
pub paste-more : (left : List Hiding) (b : Hiding) (right : List Hiding) → paste left (b ∷ right) ≡ followed_by right (paste left (b ∷ []))
paste-more [] b right = refl
paste-more (a ∷ []) b right = pasted-followed a (kind_in false (a.token.text ++ b.token.text)) (a.token.text ++ b.token.text) right
paste-more (a ∷ c ∷ left) b right = ap (put_before a) (paste-more (c ∷ left) b right) ∙ put-followed a right (paste (c ∷ left) (b ∷ []))

pub paste-nil : (left : List Hiding) → paste left [] ≡ Joins left
paste-nil [] = refl
paste-nil (a ∷ left) = refl

standing-followed : (right : List Hiding) (p : Pasted) → standing p ≤ standing (followed_by right p)
standing-followed right (Joins tokens) = omega (arith, length-append tokens right)
standing-followed right (BadBehind count) = omega arith

standing-put : (a : Hiding) (p : Pasted) → standing (put_before a p) ≡ standing p + 1
standing-put a (Joins tokens) = omega arith
standing-put a (BadBehind count) = omega arith

standing-pasted : (a : Hiding) (kind : Option TokenKind) (text : List ℕ) (right : List Hiding) → 1 ≤ standing (pasted a kind text right)
standing-pasted a None text right = omega arith
standing-pasted a (Some kind) text right = omega arith

-- pasting takes no token away, up to a bad `##`
standing-paste : (left right : List Hiding) → length left ≤ standing (paste left right)
standing-paste [] right = omega arith
standing-paste (a ∷ left) [] = omega arith
standing-paste (a ∷ []) (b ∷ right) = omega (arith, standing-pasted a (kind_in false (a.token.text ++ b.token.text)) (a.token.text ++ b.token.text) right)
standing-paste (a ∷ c ∷ left) (b ∷ right) = omega (arith, standing-paste (c ∷ left) (b ∷ right), standing-put a (paste (c ∷ left) (b ∷ right)))

standing-chain : (place : At) (raw : List (List Hiding)) (p : Pasted) (os : Chain) → standing p ≤ standing (chain_tokens place raw p os)
standing-chain place raw (BadBehind count) os = omega arith
standing-chain place raw (Joins left) [] = omega arith
standing-chain place raw (Joins left) (o ∷ os) =
    omega (arith, standing-paste left (operand_tokens place raw o), standing-chain place raw (paste left (operand_tokens place raw o)) os)

-- What is held, and why it stops

-- nothing is put where nothing comes
pub Holds-nothing : (r : Reading) (start : ℕ) (base all left : List Item) (right : List Hiding) → IsSplit all start base left → right ≡ [] → Holds r start base all (paste (hidings_by r left) right)
Holds-nothing r start base all left right split none =
    record { left = left; split = split; read = ap (paste (hidings_by r left)) none ∙ paste-nil (hidings_by r left) }

-- an item is pasted, and others are put behind it
pub Holds-more : (r : Reading) (start : ℕ) (base before more all left : List Item) (b : Hiding) (right : List Hiding) → Holds r start base before (paste (hidings_by r left) (b ∷ []))
    → all ≡ before ++ more → right ≡ b ∷ hidings_by r more → Holds r start base all (paste (hidings_by r left) right)
Holds-more r start base before more all left b right holds pushed is_right =
    record {
      left = holds.left ++ more;
      split = record { items = pushed ∙ ap (λ items. items ++ more) holds.split.items ∙ append_assoc base holds.left more; length = holds.split.length };
      read =
          ap (paste (hidings_by r left)) is_right
          ∙ paste-more (hidings_by r left) b (hidings_by r more)
          ∙ ap (followed_by (hidings_by r more)) holds.read
          ∙ ap Joins (sym (map-append (hiding_by r) holds.left more));
    }

-- why it stops at the first on the right
pub Stops-more : (most before : ℕ) (fault : SubstitutionFault) (left : List Hiding) (b : Hiding) (others right : List Hiding) → right ≡ b ∷ others
    → Stops most before fault (paste left (b ∷ [])) → Stops most before fault (paste left right)
Stops-more most before BadPaste left b others right is_right stops =
    (stops.0, ap (paste left) is_right ∙ paste-more left b others ∙ ap (followed_by others) stops.1, stops.2)
Stops-more most before TooMany left b others right is_right stops =
    omega (arith, stops, standing-followed others (paste left (b ∷ [])), ap standing (ap (paste left) is_right ∙ paste-more left b others))
Stops-more most before Memory left b others right is_right stops = tt

-- a chain that stops at an operand stops
pub Stops-chain : (most before : ℕ) (fault : SubstitutionFault) (place : At) (raw : List (List Hiding)) (p : Pasted) (os : Chain) (found : Pasted) → chain_tokens place raw p os ≡ found
    → Stops most before fault p → Stops most before fault found
Stops-chain most before BadPaste place raw p os found same stops =
    (stops.0, sym same ∙ ap (λ so_far. chain_tokens place raw so_far os) stops.1, stops.2)
Stops-chain most before TooMany place raw p os found same stops = omega (arith, stops, standing-chain place raw p os, ap standing same)
Stops-chain most before Memory place raw p os found same stops = tt

-- A chain goes on

-- the first operand is put
pub goes-first : (r : Reading) (start : ℕ) (base all : List Item) (goes_on : Pasted → Pasted) (so_far found : Pasted) → Holds r start base all so_far → goes_on so_far ≡ found
    → GoesOn r (length base) base all goes_on found
goes-first r start base all goes_on so_far found holds same =
    record { left = holds.left; split = record { items = holds.split.items; length = refl }; same = sym (ap goes_on holds.read) ∙ same }

-- one more operand is put
pub goes-more : (r : Reading) (place : At) (raw : List (List Hiding)) (os more : Chain) (o : bodies.Operand) (start : ℕ) (base before after : List Item) (found : Pasted)
    → (goes : GoesOn r (length base) base before (λ so_far. chain_tokens place raw so_far os) found) → os ≡ o ∷ more → Holds r start base after (paste (hidings_by r goes.left) (operand_tokens place raw o))
    → GoesOn r (length base) base after (λ so_far. chain_tokens place raw so_far more) found
goes-more r place raw os more o start base before after found goes front holds =
    goes-first r start base after (λ so_far. chain_tokens place raw so_far more) _ found holds (sym (ap (chain_tokens place raw (Joins (hidings_by r goes.left))) front) ∙ goes.same)

-- a chain stops at one more operand
pub goes-stops : (r : Reading) (place : At) (raw : List (List Hiding)) (os more : Chain) (o : bodies.Operand) (most : ℕ) (fault : SubstitutionFault) (base before : List Item) (found : Pasted)
    → (goes : GoesOn r (length base) base before (λ so_far. chain_tokens place raw so_far os) found) → os ≡ o ∷ more → Stops most (length base) fault (paste (hidings_by r goes.left) (operand_tokens place raw o))
    → Stops most (length base) fault found
goes-stops r place raw os more o most fault base before found goes front stops =
    Stops-chain most (length base) fault place raw _ more found (sym (ap (chain_tokens place raw (Joins (hidings_by r goes.left))) front) ∙ goes.same) stops

-- too much was put already
pub goes-far : (r : Reading) (place : At) (raw : List (List Hiding)) (os : Chain) (most : ℕ) (base all : List Item) (found : Pasted)
    → GoesOn r (length base) base all (λ so_far. chain_tokens place raw so_far os) found → most + 1 < length all → most + 1 < length base + standing found
goes-far r place raw os most base all found goes far =
    omega (arith, far, ap length goes.split.items, length-append base goes.left, length-map goes.left (hiding_by r), standing-chain place raw (Joins (hidings_by r goes.left)) os, ap standing goes.same)

-- The last item is joined

-- tokens before what is pasted
abbrev behind_front : List Hiding → Pasted → Pasted
behind_front front (Joins tokens) = Joins (front ++ tokens)
behind_front front (BadBehind count) = BadBehind (length front + count)

behind-none : (p : Pasted) → p ≡ behind_front [] p
behind-none (Joins tokens) = refl
behind-none (BadBehind count) = ap BadBehind (omega arith)

put-behind : (c : Hiding) (front : List Hiding) (p : Pasted) → put_before c (behind_front front p) ≡ behind_front (c ∷ front) p
put-behind c front (Joins tokens) = refl
put-behind c front (BadBehind count) = ap BadBehind (omega arith)

paste-last : (front : List Hiding) (a b : Hiding) → paste (front ++ a ∷ []) (b ∷ []) ≡ behind_front front (pasted a (kind_in false (a.token.text ++ b.token.text)) (a.token.text ++ b.token.text) [])
paste-last [] a b = behind-none (pasted a (kind_in false (a.token.text ++ b.token.text)) (a.token.text ++ b.token.text) [])
paste-last (c ∷ []) a b = ap (put_before c) (paste-last [] a b) ∙ put-behind c [] (pasted a (kind_in false (a.token.text ++ b.token.text)) (a.token.text ++ b.token.text) [])
paste-last (c ∷ d ∷ front) a b = ap (put_before c) (paste-last (d ∷ front) a b) ∙ put-behind c (d ∷ front) (pasted a (kind_in false (a.token.text ++ b.token.text)) (a.token.text ++ b.token.text) [])

split_last : (items : List Item) → 0 < length items → (front : List Item) × (last : Item) × (items ≡ front ++ last ∷ [])
split_last [] some = absurd (omega arith)
split_last (item ∷ []) some = ([], item, refl)
split_last (item ∷ next ∷ items) some =
    let later = split_last (next ∷ items) (omega arith) in
    (item ∷ later.0, later.1, ap (λ list. item ∷ list) later.2)

-- the last of all items, which stands at this position, is the last behind the base
pub record HasLast (all base left : List Item) (position : ℕ) (last : Item) : Type 0 where
  pub front : List Item
  pub behind_base : left ≡ front ++ last ∷ []
  pub of_all : all ≡ (base ++ front) ++ last ∷ []
  pub at : length (base ++ front) ≡ position

pub has_last : (all base left : List Item) (start position : ℕ) (last : Item) → IsSplit all start base left → start ≤ position → position + 1 ≡ length all → last ≡ get_or all position last → HasLast all base left position last
has_last all base left start position last split behind is_last read =
    let some : 0 < length left = omega (arith, behind, is_last, split.length, ap length split.items, length-append base left) in
    let found = split_last left some in
    let of_all : all ≡ (base ++ found.0) ++ found.1 ∷ [] = split.items ∙ ap (λ list. base ++ list) found.2 ∙ sym (append_assoc base found.0 (found.1 ∷ [])) in
    let at : length (base ++ found.0) ≡ position = omega (arith, is_last, ap length of_all, length-append (base ++ found.0) (found.1 ∷ [])) in
    let same : last ≡ found.1 = read ∙ ap (λ list. get_or list position last) of_all ∙ get_or_at (base ++ found.0) found.1 [] last position at in
    record {
      front = found.0;
      behind_base = found.2 ∙ ap (λ one. found.0 ++ one ∷ []) (sym same);
      of_all = of_all ∙ ap (λ one. (base ++ found.0) ++ one ∷ []) (sym same);
      at = at;
    }

paste-has_last : (r : Reading) (all base left : List Item) (position : ℕ) (last item : Item) → (has : HasLast all base left position last)
    → paste (hidings_by r left) (hiding_by r item ∷ []) ≡ behind_front (hidings_by r has.front)
    (pasted (hiding_by r last) (kind_in false (r.spelled last.token.name ++ r.spelled item.token.name)) (r.spelled last.token.name ++ r.spelled item.token.name) [])
paste-has_last r all base left position last item has =
    ap (λ list. paste list (hiding_by r item ∷ [])) (ap (hidings_by r) has.behind_base ∙ map-append (hiding_by r) has.front (last ∷ []))
    ∙ paste-last (hidings_by r has.front) (hiding_by r last) (hiding_by r item)

-- two items make one
pub Holds-joined : (r : Reading) (all base left : List Item) (start position : ℕ) (last item put : Item) → IsSplit all start base left → HasLast all base left position last
    → pasted (hiding_by r last) (kind_in false (r.spelled last.token.name ++ r.spelled item.token.name)) (r.spelled last.token.name ++ r.spelled item.token.name) [] ≡ Joins (hiding_by r put ∷ [])
    → Holds r start base (set all position put) (paste (hidings_by r left) (hiding_by r item ∷ []))
Holds-joined r all base left start position last item put split has made =
    record {
      left = has.front ++ put ∷ [];
      split = record { items = ap (λ list. set list position put) has.of_all ∙ set_at (base ++ has.front) last [] put position has.at ∙ append_assoc base has.front (put ∷ []); length = split.length };
      read =
          paste-has_last r all base left position last item has
          ∙ ap (behind_front (hidings_by r has.front)) made
          ∙ ap Joins (sym (map-append (hiding_by r) has.front (put ∷ [])));
    }

-- two items make none
pub Stops-bad : (r : Reading) (all base left : List Item) (position most : ℕ) (last item : Item) (fault : SubstitutionFault) → HasLast all base left position last
    → kind_in false (r.spelled last.token.name ++ r.spelled item.token.name) ≡ None
    → ((before count : ℕ) → before + count ≡ position → Stops most before fault (BadBehind count))
    → Stops most (length base) fault (paste (hidings_by r left) (hiding_by r item ∷ []))
Stops-bad r all base left position most last item fault has none stops =
    subst (Stops most (length base) fault)
    (sym (paste-has_last r all base left position last item has
    ∙ ap (λ kind. behind_front (hidings_by r has.front) (pasted (hiding_by r last) kind (r.spelled last.token.name ++ r.spelled item.token.name) [])) none))
    (stops (length base) (length (hidings_by r has.front) + 0) (omega (arith, has.at, length-append base has.front, length-map has.front (hiding_by r))))

-- the spellings of two known ids, side by side
joined-read : (names : List (List ℕ)) (r : Reading) → ReadsNames names r → (left right : NameId) → IsKnown names left → IsKnown names right
    → r.spelled left ++ r.spelled right ≡ joined_text names left right
joined-read names r reads left right first second = λ k. reads.texts left first k ++ reads.texts right second k

-- where the joined spelling has no kind, the tokens make none
pub none-joined : (names : List (List ℕ)) (r : Reading) → ReadsNames names r → (left right : NameId) → IsKnown names left → IsKnown names right
    → (found : Option (TokenKind × NameId)) → found ≡ None → option_map (λ (one : TokenKind × NameId). one.0) found ≡ kind_in false (joined_text names left right)
    → kind_in false (r.spelled left ++ r.spelled right) ≡ None
none-joined names r reads left right first second found none kind =
    ap (kind_in false) (joined-read names r reads left right first second) ∙ sym kind ∙ ap (option_map (λ (one : TokenKind × NameId). one.0)) none

-- the one token that is spelled as both, as it is read
pub made-joined : (old new : List (List ℕ)) (r : Reading) → ReadsNames old r → ReadsNames new r → (last item put : Item) → HasName old last → HasName old item
    → (found : Option (TokenKind × NameId)) (kind : TokenKind) (name : NameId) → found ≡ Some (kind, name)
    → option_map (λ (one : TokenKind × NameId). one.0) found ≡ kind_in false (joined_text old last.token.name item.token.name)
    → IfSome found (λ one. text_of new one.1 ≡ joined_text old last.token.name item.token.name) → IfSome found (λ one. IsKnown new one.1)
    → put.token ≡ record last.token { kind = kind; name = name } → put.hides.0 ≡ 0
    → pasted (hiding_by r last) (kind_in false (r.spelled last.token.name ++ r.spelled item.token.name)) (r.spelled last.token.name ++ r.spelled item.token.name) [] ≡ Joins (hiding_by r put ∷ [])
made-joined old new r reads_old reads_new last item put first second found kind name is_found kind_is spelled known token hides =
    let both = joined-read old r reads_old last.token.name item.token.name first second in
    let spelled_name : text_of new name ≡ joined_text old last.token.name item.token.name = subst (λ (f : Option (TokenKind × NameId)). IfSome f (λ one. text_of new one.1 ≡ joined_text old last.token.name item.token.name)) is_found spelled in
    let known_name : IsKnown new name = subst (λ (f : Option (TokenKind × NameId)). IfSome f (λ one. IsKnown new one.1)) is_found known in
    let text : joined_text old last.token.name item.token.name ≡ r.spelled name = sym (reads_new.texts name known_name ∙ spelled_name) in
    let empty : hiding.no_names ≡ r.hidden put.hides = sym (reads_new.empty put.hides hides) in
    ap (λ spelling. pasted (hiding_by r last) (kind_in false spelling) spelling []) both
    ∙ ap (λ one. pasted (hiding_by r last) one (joined_text old last.token.name item.token.name) []) (sym kind_is ∙ ap (option_map (λ (one : TokenKind × NameId). one.0)) is_found)
    ∙ (λ k. Joins (record { token = record (token_by r.spelled last.token) { kind = kind; text = text k }; hides = empty k } ∷ []))
    ∙ ap (λ one. Joins (record { token = token_by r.spelled one; hides = r.hidden put.hides } ∷ [])) (sym token)
