-- Chains that stand in a flat list, and the parts that come of them.
use Rattle.std.proofs.Common.{◌≡◌, ◌<◌, ◌≤◌, ◌+◌, ◌-◌, ℕ, suc, zero, Bool, true, false, List, [], ◌∷◌, ◌++◌, length, map, take, drop, slice_get, slice_index, unwrap_or, if◌then◌else◌, Some, None, refl, sym, ap, subst, ◌∙◌, append_assoc, arith, length-append}
use Rattle.std.proofs.lemmas.List.{drop_at, length-map, take-append-drop, take_at}
use Rattle.std.proofs.lemmas.Option.{same_Some}
use Rattle.meaning_text.specs.Places.{At}
use Rattle.meaning_macros.specs.Bodies as bodies
use Rattle.meaning_macros.specs.Bodies.{Chain, hung_before, space_of_chain}
use Rattle.meaning_macros.specs.Hiding as hiding
use Rattle.meaning_macros.specs.Hiding.{Hiding, led}
use Rattle.meaning_macros.specs.Substitution.{LaidPart, Pasted, Joins, BadBehind, Substituted, WholeBody, BrokenBehind, argument_of, chain_tokens, count_of, part_of, substituted, with_part}
use Rattle.c_macros.specs.Arguments.{HasArguments, ends_from, in_a_row}
use Rattle.c_macros.specs.Laid.{LaidItems, Lays, ends_of, items_of, part_read, parts_before}
use Rattle.c_macros.specs.Chains.{Holds, HoldsParts, Stops, begin_in, begins_here, behind_joined, IsWithin, joined_here, lone_parameter, led_items, standing, with_chain, with_parts}
use Rattle.c_macros.specs.Operands.{grouped, operand_by, part_by}
use Rattle.c_macros.specs.Reading.{Reading, hidings_by}
use Rattle.c_macros.specs.Seen.{Spelling}
use Rattle.c_macros.specs.Substitution.{IsWhole, Refuses, made_in}
use Rattle.c_macros.specs.declared.arguments.Arguments.{Arguments}
use Rattle.c_macros.specs.declared.item.Item.{Item}
use Rattle.c_macros.specs.declared.laid.Laid.{Laid}
use Rattle.c_macros.specs.declared.laid.LaidEnd.{LaidEnd}
use Rattle.c_macros.specs.declared.operand.Operand.{Operand}
use Rattle.c_macros.specs.declared.operand.Operand.TheVariants.{Own, Argument, Stringized, CommaAndRest}
use Rattle.c_macros.specs.declared.operand.Part.{Part}
use Rattle.c_macros.specs.declared.substitution.SubstitutionFault.{SubstitutionFault}
use Rattle.c_macros.specs.declared.substitution.SubstitutionFault.TheVariants.{BadPaste, TooMany, Memory}
use Rattle.c_macros.proofs.PastingLemmas.{hidings-led}

-- Chains

joined-by : (s : Spelling) (o : bodies.Operand) (begins : Bool) (p : Operand) (ps : List Part)
    → (if begins then (o ∷ []) ∷ ((operand_by s p ∷ map (operand_by s) (joined_here ps)) ∷ grouped (map (part_by s) (behind_joined ps))) else hung_before o ((operand_by s p ∷ map (operand_by s) (joined_here ps)) ∷ grouped (map (part_by s) (behind_joined ps))))
    ≡ (o ∷ map (operand_by s) (if begins then [] else p ∷ joined_here ps)) ∷ (if begins then ((operand_by s p ∷ map (operand_by s) (joined_here ps)) ∷ grouped (map (part_by s) (behind_joined ps))) else grouped (map (part_by s) (behind_joined ps)))
joined-by s o true p ps = refl
joined-by s o false p ps = refl

behind-by : (s : Spelling) (begins : Bool) (p : Part) (ps : List Part) (rest : List Chain) → grouped (map (part_by s) (p ∷ ps)) ≡ rest
    → (if begins then rest else grouped (map (part_by s) (behind_joined ps))) ≡ grouped (map (part_by s) (if begins then p ∷ ps else behind_joined ps))
behind-by s true p ps rest same = sym same
behind-by s false p ps rest same = refl

-- the chain at the front of a flat list, and those behind it
pub grouped-chain : (s : Spelling) (part : Part) (parts : List Part)
    → grouped (map (part_by s) (part ∷ parts)) ≡ map (operand_by s) (part.operand ∷ joined_here parts) ∷ grouped (map (part_by s) (behind_joined parts))
grouped-chain s part [] = refl
grouped-chain s part (p ∷ ps) =
    let later = grouped-chain s p ps in
    ap (λ chains. if p.begins then (operand_by s part.operand ∷ []) ∷ chains else hung_before (operand_by s part.operand) chains) later
    ∙ joined-by s (operand_by s part.operand) p.begins p.operand ps
    ∙ ap (λ chains. (operand_by s part.operand ∷ map (operand_by s) (joined_here (p ∷ ps))) ∷ chains) (behind-by s p.begins p ps _ later)

-- where a chain begins, nothing is joined
pub begins-nothing : (parts : List Part) → begins_here parts ≡ true → joined_here parts ≡ []
begins-nothing [] begins = refl
begins-nothing (p ∷ ps) begins = ap (λ (b : Bool). if b then [] else p.operand ∷ joined_here ps) begins

-- a parameter alone is its expanded argument
pub lone-some : (place : At) (raw expanded : List (List Hiding)) (s : Spelling) (o : Operand) (others : List Part) (k : ℕ) → lone_parameter o others ≡ Some k
    → part_of place raw expanded (map (operand_by s) (o ∷ joined_here others)) ≡ Joins (hiding.set_at place (argument_of expanded k))
lone-some place raw expanded s (Own token) others k alone = cc
lone-some place raw expanded s (Stringized space parameter) others k alone = cc
lone-some place raw expanded s (CommaAndRest comma space parameter) others k alone = cc
lone-some place raw expanded s (Argument space parameter) others k alone = by (begins_here others) (begins-nothing others) alone
  where
    by : (begins : Bool) → (begins ≡ true → joined_here others ≡ []) → (if begins then Some parameter else None) ≡ Some k
        → part_of place raw expanded (bodies.Argument space parameter ∷ map (operand_by s) (joined_here others)) ≡ Joins (hiding.set_at place (argument_of expanded k))
    by true nothing this =
        ap (λ os. part_of place raw expanded (bodies.Argument space parameter ∷ map (operand_by s) os)) (nothing refl)
        ∙ ap (λ n. Joins (hiding.set_at place (argument_of expanded n))) (same_Some _ _ this)
    by false nothing this = cc

-- any other chain is pasted
pub lone-none : (place : At) (raw expanded : List (List Hiding)) (s : Spelling) (o : Operand) (others : List Part) → lone_parameter o others ≡ None
    → part_of place raw expanded (map (operand_by s) (o ∷ joined_here others)) ≡ chain_tokens place raw (Joins []) (map (operand_by s) (o ∷ joined_here others))
lone-none place raw expanded s (Own token) others other = refl
lone-none place raw expanded s (Stringized space parameter) others other = refl
lone-none place raw expanded s (CommaAndRest comma space parameter) others other = refl
lone-none place raw expanded s (Argument space parameter) [] other = cc
lone-none place raw expanded s (Argument space parameter) (p ∷ ps) other = by p.begins other
  where
    by : (begins : Bool) → (if begins then Some parameter else None) ≡ None
        → part_of place raw expanded (bodies.Argument space parameter ∷ map (operand_by s) (if begins then [] else p.operand ∷ joined_here ps))
        ≡ chain_tokens place raw (Joins []) (bodies.Argument space parameter ∷ map (operand_by s) (if begins then [] else p.operand ∷ joined_here ps))
    by true this = cc
    by false this = refl

pub goes-joined : (p : Part) (ps : List Part) → p.begins ≡ false → joined_here (p ∷ ps) ≡ p.operand ∷ joined_here ps
goes-joined p ps goes = ap (λ (b : Bool). if b then [] else p.operand ∷ joined_here ps) goes

pub goes-behind : (p : Part) (ps : List Part) → p.begins ≡ false → behind_joined (p ∷ ps) ≡ behind_joined ps
goes-behind p ps goes = ap (λ (b : Bool). if b then p ∷ ps else behind_joined ps) goes

-- Parts

length-items : (r : Reading) (items : List Item) → length (hidings_by r items) ≡ length items
length-items r items = length-map items _

count-before : (r : Reading) (parts : List LaidItems) (others : List LaidPart) → count_of (parts_before r parts others) ≡ length (items_of parts) + count_of others
count-before r [] others = omega arith
count-before r (part ∷ parts) others =
    omega (arith, count-before r parts (part_read r part ∷ others), length-append (items_of parts) part.items, length-items r part.items)

made-with_parts : (r : Reading) (parts : List LaidItems) (others : Substituted) → made_in (with_parts r parts others) ≡ length (items_of parts) + made_in others
made-with_parts r parts (WholeBody others) = count-before r parts others
made-with_parts r parts (BrokenBehind count) = omega arith

length-led : (space : Bool) (tokens : List Hiding) → length (led space tokens) ≡ length tokens
length-led space [] = refl
length-led space (t ∷ ts) = refl

standing-part : (space : Bool) (found : Pasted) (others : Substituted) → standing found ≤ made_in (with_part space found others) + 1
standing-part space (BadBehind count) others = omega arith
standing-part space (Joins tokens) (WholeBody parts) = omega (arith, length-led false tokens)
standing-part space (Joins tokens) (BrokenBehind count) = omega arith

-- a body stops where a chain does
pub Refuses-chain : (r : Reading) (most : ℕ) (parts : List LaidItems) (fault : SubstitutionFault) (space : Bool) (found : Pasted) → Stops most (length (items_of parts)) fault found
    → (others : Substituted) → Refuses most fault (with_parts r parts (with_part space found others))
Refuses-chain r most parts BadPaste space found stops others =
    (length (items_of parts) + stops.0, ap (λ p. with_parts r parts (with_part space p others)) stops.1, stops.2)
Refuses-chain r most parts TooMany space found stops others =
    omega (arith, stops, made-with_parts r parts (with_part space found others), standing-part space found others)
Refuses-chain r most parts Memory space found stops others = tt

-- too many tokens stand at the end of a chain
pub too_many : (r : Reading) (most : ℕ) (parts : List LaidItems) (left : List Item) (space : Bool) (found : Pasted) → found ≡ Joins (hidings_by r left)
    → most < length (items_of parts) + length left → (others : Substituted) → most < made_in (with_parts r parts (with_part space found others))
too_many r most parts left space found read many others =
    omega (arith, many, ap (λ p. made_in (with_parts r parts (with_part space p others))) read, made-with_parts r parts (with_part space (Joins (hidings_by r left)) others), at_least others)
  where
    at_least : (rest : Substituted) → length left ≤ made_in (with_part space (Joins (hidings_by r left)) rest)
    at_least (WholeBody ps) = omega (arith, length-led false (hidings_by r left), length-items r left)
    at_least (BrokenBehind count) = omega (arith, length-items r left)

abbrev part_with : Bool → List Item → LaidItems
part_with space items = record { space = space; items = items }

-- one more part stands before what comes of the others
pub one_more : (r : Reading) (parts : List LaidItems) (left : List Item) (space : Bool) (found : Pasted) → found ≡ Joins (hidings_by r left)
    → (others : Substituted) → with_parts r (part_with space (led_items false left) ∷ parts) others ≡ with_parts r parts (with_part space found others)
one_more r parts left space found read others = by others ∙ sym (ap (λ p. with_parts r parts (with_part space p others)) read)
  where
    by : (rest : Substituted) → with_parts r (part_with space (led_items false left) ∷ parts) rest ≡ with_parts r parts (with_part space (Joins (hidings_by r left)) rest)
    by (WholeBody ps) = ap (λ tokens. WholeBody (parts_before r parts (record { space = space; tokens = tokens } ∷ ps))) (sym (hidings-led r false left))
    by (BrokenBehind count) = ap BrokenBehind (omega (arith, length-append (items_of parts) (led_items false left), length-items r left, length-items r (led_items false left), ap length (hidings-led r false left), length-led false (hidings_by r left)))

-- the vectors hold one more part
pub HoldsParts-more : (r : Reading) (most start : ℕ) (old new : Laid) (parts : List LaidItems) (ended : List Item) (space : Bool) (found : Pasted) (e : LaidEnd)
    → Lays old parts → (holds : Holds r start (items_of parts) ended found) → new.items.items ≡ items_of parts ++ led_items false holds.left → new.ends.items ≡ old.ends.items ++ e ∷ [] → e ≡ record { space = space; end = length new.items.items } → length new.items.items ≤ most
    → HoldsParts r most new (λ others. with_parts r parts (with_part space found others))
HoldsParts-more r most start old new parts ended space found e lays holds items ends is_end small =
    record {
      parts = part_with space (led_items false holds.left) ∷ parts;
      lays = record {
        items = items;
        ends = ends ∙ ap (λ ended. ended ++ e ∷ []) lays.ends ∙ ap (λ one. ends_of parts ++ one ∷ []) (is_end ∙ ap (λ list. record { space = space; end = length list }) items);
      };
      makes = one_more r parts holds.left space found holds.read;
      count = omega (arith, small, ap length items);
    }

-- what comes of the parts so far and of the chains that are left is what comes of all
pub record LaidSoFar (r : Reading) (most : ℕ) (laid : Laid) (left all : Substituted) : Type 0 where
  pub parts : List LaidItems
  pub lays : Lays laid parts
  pub same : with_parts r parts left ≡ all
  pub count : length (items_of parts) ≤ most

-- no chain is left
pub all_laid : (r : Reading) (most : ℕ) (laid : Laid) (left all : Substituted) → left ≡ WholeBody [] → LaidSoFar r most laid left all → IsWhole r most laid all
all_laid r most laid left all none so_far =
    record {
      parts = so_far.parts;
      lays = so_far.lays;
      whole = sym so_far.same ∙ ap (with_parts r so_far.parts) none;
      count = omega (arith, so_far.count, count-before r so_far.parts []);
    }

-- Arguments in a row

-- what stands between its begin and its end is the argument with this number
pub record IsArgument (items : List Item) (first : ℕ) (ends : List ℕ) (k : ℕ) (argument : List Item) : Type 0 where
  pub ordered : begin_in first ends k ≤ slice_index ends k
  pub within : slice_index ends k ≤ length items
  pub found : take (slice_index ends k - begin_in first ends k) (drop (begin_in first ends k) items) ≡ argument

begin-next : (first end : ℕ) (ends : List ℕ) (k : ℕ) → begin_in first (end ∷ ends) (suc k) ≡ begin_in end ends k
begin-next first end ends zero = refl
begin-next first end ends (suc k) = refl

length-ends : (first : ℕ) (lists : List (List Item)) → length (ends_from first lists) ≡ length lists
length-ends first [] = refl
length-ends first (list ∷ lists) = ap suc (length-ends (first + length list) lists)

argument-in_a_row : (lists : List (List Item)) (before items : List Item) (first k : ℕ) → first ≡ length before → items ≡ before ++ in_a_row lists → k < length lists
    → IsArgument items first (ends_from first lists) k (unwrap_or (slice_get lists k) [])
argument-in_a_row [] before items first k begins is within = absurd (omega arith)
argument-in_a_row (list ∷ lists) before items first zero begins is within =
    record {
      ordered = omega arith;
      within = omega (arith, ap length is, length-append before (list ++ in_a_row lists), length-append list (in_a_row lists));
      found =
          ap (λ all. take ((first + length list) - first) (drop first all)) is
          ∙ ap (take ((first + length list) - first)) (drop_at before (list ++ in_a_row lists) first (sym begins))
          ∙ take_at list (in_a_row lists) ((first + length list) - first) (omega arith);
    }
argument-in_a_row (list ∷ lists) before items first (suc k) begins is within =
    let end = first + length list in
    let later = argument-in_a_row lists (before ++ list) items end k (omega (arith, length-append before list)) (is ∙ sym (append_assoc before list (in_a_row lists))) (omega arith) in
    let begin = begin-next first end (ends_from end lists) k in
    record {
      ordered = subst (λ n. n ≤ slice_index (ends_from end lists) k) (sym begin) later.ordered;
      within = later.within;
      found = ap (λ n. take (slice_index (ends_from end lists) k - n) (drop n items)) begin ∙ later.found;
    }

-- what the positions say of an argument
pub argument-at : (arguments : Arguments) (lists : List (List Item)) (k : ℕ) → HasArguments arguments lists → k < length arguments.ends.now
    → IsArgument arguments.items.now arguments.first arguments.ends.now k (unwrap_or (slice_get lists k) [])
argument-at arguments lists k has within =
    let ends = ap (λ n. ends_from n lists) (sym has.first) in
    let few : k < length lists = omega (arith, within, ap length has.ends, length-ends (length has.before) lists) in
    subst (λ list. IsArgument arguments.items.now arguments.first list k (unwrap_or (slice_get lists k) [])) (sym (has.ends ∙ ends))
    (argument-in_a_row lists has.before arguments.items.now arguments.first k has.first has.items few)

none-past : (lists : List (List Item)) (k : ℕ) → length lists ≤ k → ◌≡◌ {A = List Item} [] (unwrap_or (slice_get lists k) [])
none-past [] k past = refl
none-past (list ∷ lists) zero past = absurd (omega arith)
none-past (list ∷ lists) (suc k) past = none-past lists k (omega arith)

-- past the last argument there is none
pub argument-past : (arguments : Arguments) (lists : List (List Item)) (k : ℕ) → HasArguments arguments lists → length arguments.ends.now ≤ k → ◌≡◌ {A = List Item} [] (unwrap_or (slice_get lists k) [])
argument-past arguments lists k has past = none-past lists k (omega (arith, past, ap length has.ends, length-ends (length has.before) lists))

-- what stands between two positions is within
pub between-within : (items : List Item) (first count : ℕ) → IsWithin (take count (drop first items)) items
between-within items first count =
    record {
      before = take first items;
      behind = drop count (drop first items);
      parts = sym (ap (λ list. take first items ++ list) (take-append-drop count (drop first items)) ∙ take-append-drop first items);
    }

pub length-led_items : (space : Bool) (items : List Item) → length (led_items space items) ≡ length items
length-led_items space [] = refl
length-led_items space (item ∷ items) = refl

-- what is left behind a chain is no more than all
pub length-behind : (parts : List Part) → length (behind_joined parts) ≤ length parts
length-behind [] = omega arith
length-behind (part ∷ parts) = by part.begins (length-behind parts)
  where
    by : (begins : Bool) → length (behind_joined parts) ≤ length parts → length (if begins then part ∷ parts else behind_joined parts) ≤ length (part ∷ parts)
    by true less = omega arith
    by false less = omega (arith, less)

-- nothing is laid yet
pub none_laid : (r : Reading) (most : ℕ) (laid : Laid) (all : Substituted) → Lays laid [] → LaidSoFar r most laid all all
none_laid r most laid all lays = record { parts = []; lays = lays; same = by all; count = omega arith }
  where
    by : (found : Substituted) → with_parts r [] found ≡ found
    by (WholeBody parts) = refl
    by (BrokenBehind count) = ap BrokenBehind (omega arith)

-- one more chain is laid
pub laid_more : (r : Reading) (most : ℕ) (before after : Laid) (place : At) (raw expanded : List (List Hiding)) (chain : Chain) (left more : List Chain) (all : Substituted)
    → (so_far : LaidSoFar r most before (substituted place raw expanded left) all) → left ≡ chain ∷ more
    → HoldsParts r most after (λ later. with_parts r so_far.parts (with_chain place raw expanded chain later))
    → LaidSoFar r most after (substituted place raw expanded more) all
laid_more r most before after place raw expanded chain left more all so_far front holds =
    record {
      parts = holds.parts;
      lays = holds.lays;
      same = holds.makes (substituted place raw expanded more) ∙ ap (λ chains. with_parts r so_far.parts (substituted place raw expanded chains)) (sym front) ∙ so_far.same;
      count = holds.count;
    }

-- a body stops at one more chain
pub laid_stops : (r : Reading) (most : ℕ) (before : Laid) (place : At) (raw expanded : List (List Hiding)) (chain : Chain) (left more : List Chain) (all : Substituted) (fault : SubstitutionFault)
    → (so_far : LaidSoFar r most before (substituted place raw expanded left) all) → left ≡ chain ∷ more
    → ((later : Substituted) → Refuses most fault (with_parts r so_far.parts (with_chain place raw expanded chain later)))
    → Refuses most fault all
laid_stops r most before place raw expanded chain left more all fault so_far front stops =
    subst (Refuses most fault) (ap (λ chains. with_parts r so_far.parts (substituted place raw expanded chains)) (sym front) ∙ so_far.same) (stops (substituted place raw expanded more))
