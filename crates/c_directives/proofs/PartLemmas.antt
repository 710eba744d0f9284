-- Parts of groups that are skipped, and where they end.
use Rattle.std.proofs.Common.{◌≡◌, ◌≢◌, ◌≤◌, ◌-◌, ℕ, Bool, true, false, ◌&&◌, nat_eq, List, [], ◌∷◌, ◌++◌, length, Some, None, if◌then◌else◌, refl, sym, ap, subst, ◌∙◌, ⊎_elim, append_assoc, arith, length-append}
use Rattle.std.specs.Map.{lookup}
use Rattle.std.specs.Prelude.{not}
use Rattle.std.proofs.lemmas.Bool.{cases_Bool, eqb-true, eqb-false}
use Rattle.std.proofs.lemmas.List.Elements.{All-drop}
use Rattle.std.proofs.lemmas.Option.{same_Some}
use Rattle.vocabulary.specs.declared.error_kind.ErrorKind.TheVariants.{ConditionalAfterElse, MalformedDirective}
use Rattle.meaning_text.specs.Tokens.{Tok}
use Rattle.meaning_preprocessing.specs.Directives.{read_turn, skipped_turn, turn_of}
use Rattle.meaning_preprocessing.specs.Groups.{Evaluation, Group, Turn, Turns, Halts, are_read, elif_turn, else_turn, endif_turn, has_tokens, skipped_group, with_condition}
use Rattle.meaning_preprocessing.specs.Lines.{FileParts, DirectiveBehind, behind_word, directive_of, file_parts, lines_of}
use Rattle.meaning_preprocessing.specs.State.{UnitState, Continues, Piece, and_then, expanded_in, only_ending, refused}
use Rattle.meaning_preprocessing.specs.Unit.{Reader, over_parts, text_piece, turn_piece}
use Rattle.c_tokens.proofs.SeenLemmas.{toks_of-Extends}
use Rattle.c_tokens.specs.Seen.{Extends, IsKnown, tok_of, toks_of}
use Rattle.c_tokens.specs.declared.token.Token.{Token}
use Rattle.c_directives.specs.Conditions.{AreKnown}
use Rattle.c_directives.specs.Lines.{name_seen, parts_of}
use Rattle.c_directives.specs.PartEnds.{AreOpen, ArePartEnds, ArePassed, StandWithin, BeginGroup, HasEnd, IsAtDirective, IsInner, ended_part, followed, innermost, last_tokens, next_open}
use Rattle.c_directives.proofs.LineLemmas.{left-behind}
use Rattle.c_directives.specs.declared.skipped_parts.OpenPart.{OpenPart}
use Rattle.c_directives.specs.declared.words.DirectiveName.{DirectiveName}
use Rattle.c_directives.specs.declared.words.DirectiveName.TheVariants as found

-- Tokens that are passed, one behind the other

module _ (names : List (List ℕ)) where
  pub passed-self : (a : List Token) → ArePassed names a a
  passed-self a = record { fewer = omega arith; same = λ value include groups s h. refl }

  passed-then : (a b c : List Token) → ArePassed names a b → ArePassed names b c → ArePassed names a c
  passed-then a b c first more = record {
    fewer = omega (arith, first.fewer, more.fewer);
    same = λ value include groups s h. first.same value include groups s h ∙ more.same value include groups s h;
  }

  passed-begun : (a b : List Token) (last : Bool) (c : List Token) → ArePassed names a b → BeginGroup names b last c → BeginGroup names a last c
  passed-begun a b last c passed begun = record {
    fewer = omega (arith, passed.fewer, begun.fewer);
    same = λ value include groups s h.
        let inner = begun.same value include groups s h in (inner.0, inner.1, passed.same value include groups s h ∙ inner.2);
  }

  begun-passed : (a : List Token) (last : Bool) (b c : List Token) → BeginGroup names a last b → ArePassed names b c → BeginGroup names a last c
  begun-passed a last b c begun passed = record {
    fewer = omega (arith, begun.fewer, passed.fewer);
    same = λ value include groups s h.
        let inner = begun.same value include groups s h in
        (inner.0, inner.1, inner.2 ∙ passed.same value include (inner.0 ∷ groups) s inner.1.reads);
  }

-- A directive where lines are skipped

skipped-text : (groups : List Group) (text : List Tok) (s : UnitState) → are_read groups ≡ false → text_piece groups text s ≡ only_ending (Continues s)
skipped-text groups text s h = ap (λ v. elim v as (λ _. Piece) [ true ↦ expanded_in s text | false ↦ only_ending (Continues s) ]) h

skipped-directive : (value : Evaluation) (include : Reader) (text : List Tok) (hash : Tok) (rest : List Tok) (parts : FileParts) (groups : List Group) (s : UnitState) → are_read groups ≡ false
    → over_parts value include (DirectiveBehind text hash rest parts) groups s
    ≡ turn_piece include groups (λ others u. over_parts value include parts others u) (skipped_turn value (directive_of rest) hash (behind_word rest) groups s)
skipped-directive value include text hash rest parts groups s h =
    ap (λ (piece : Piece). and_then piece (λ u. turn_piece include groups (λ others v. over_parts value include parts others v) (turn_of value hash rest groups u))) (skipped-text groups text s h)
    ∙ ap (λ v. turn_piece include groups (λ others u. over_parts value include parts others u) (elim v as (λ _. Turn) [
      | true ↦ read_turn value (directive_of rest) hash (behind_word rest) groups s
      | false ↦ skipped_turn value (directive_of rest) hash (behind_word rest) groups s
    ])) h

module _ (names : List (List ℕ)) (name : DirectiveName) (left from_hash behind : List Token) (is : IsAtDirective names name left from_hash behind) where
  skipped-line : (value : Evaluation) (include : Reader) (groups : List Group) (s : UnitState) → are_read groups ≡ false
      → over_parts value include (parts_of names left) groups s
      ≡ turn_piece include groups (λ others u. over_parts value include (parts_of names behind) others u) (skipped_turn value (name_seen name) is.hash (behind_word is.rest) groups s)
  skipped-line value include groups s h =
      ap (λ parts. over_parts value include parts groups s) is.parts
      ∙ skipped-directive value include is.text is.hash is.rest (parts_of names behind) groups s h
      ∙ ap (λ named. turn_piece include groups (λ others u. over_parts value include (parts_of names behind) others u) (skipped_turn value named is.hash (behind_word is.rest) groups s)) is.named

  -- the text before it is passed
  pub passed-text : ArePassed names left from_hash
  passed-text = record {
    fewer = is.fewer_from_hash;
    same = λ value include groups s h.
        ap (λ parts. over_parts value include parts groups s) is.parts
        ∙ skipped-directive value include is.text is.hash is.rest (parts_of names behind) groups s h
        ∙ sym (ap (λ parts. over_parts value include parts groups s) is.parts_from_hash ∙ skipped-directive value include [] is.hash is.rest (parts_of names behind) groups s h);
  }

  -- it is no conditional
  passed-line : ((value : Evaluation) (groups : List Group) (s : UnitState) → skipped_turn value (name_seen name) is.hash (behind_word is.rest) groups s ≡ Turns groups s) → ArePassed names left behind
  passed-line turns = record {
    fewer = omega (arith, is.fewer, is.fewer_from_hash);
    same = λ value include groups s h.
        skipped-line value include groups s h ∙ ap (turn_piece include groups (λ others u. over_parts value include (parts_of names behind) others u)) (turns value groups s);
  }

  -- it begins a group
  begun-line : ((value : Evaluation) (groups : List Group) (s : UnitState) → skipped_turn value (name_seen name) is.hash (behind_word is.rest) groups s ≡ Turns (skipped_group is.hash ∷ groups) s)
      → BeginGroup names left false behind
  begun-line turns = record {
    fewer = omega (arith, is.fewer, is.fewer_from_hash);
    same = λ value include groups s h. (
      skipped_group is.hash,
      record { outer = refl; reads = refl; last = refl },
      skipped-line value include groups s h ∙ ap (turn_piece include groups (λ others u. over_parts value include (parts_of names behind) others u)) (turns value groups s),
    );
  }

  -- it begins the next part of one
  next-line : (last : Bool)
      → ((value : Evaluation) (group : Group) (groups : List Group) (s : UnitState) → IsInner false group →
      (next : Group) × IsInner last next × (skipped_turn value (name_seen name) is.hash (behind_word is.rest) (group ∷ groups) s ≡ Turns (next ∷ groups) s))
      → (before : List Token) → BeginGroup names before false left → BeginGroup names before last behind
  next-line last turns before begun = record {
    fewer = omega (arith, begun.fewer, is.fewer, is.fewer_from_hash);
    same = λ value include groups s h.
        let inner = begun.same value include groups s h in
        let next = turns value inner.0 groups s inner.1 in (
          next.0,
          next.1,
          inner.2 ∙ skipped-line value include (inner.0 ∷ groups) s inner.1.reads
              ∙ ap (turn_piece include (inner.0 ∷ groups) (λ others u. over_parts value include (parts_of names behind) others u)) next.2,
        );
  }

  -- it ends one
  end-line : ((value : Evaluation) (group : Group) (groups : List Group) (s : UnitState) → group.outer ≡ false → skipped_turn value (name_seen name) is.hash (behind_word is.rest) (group ∷ groups) s ≡ Turns groups s)
      → (before : List Token) (last : Bool) → BeginGroup names before last left → ArePassed names before behind
  end-line turns before last begun = record {
    fewer = omega (arith, begun.fewer, is.fewer, is.fewer_from_hash);
    same = λ value include groups s h.
        let inner = begun.same value include groups s h in
        inner.2 ∙ skipped-line value include (inner.0 ∷ groups) s inner.1.reads
        ∙ ap (turn_piece include (inner.0 ∷ groups) (λ others u. over_parts value include (parts_of names behind) others u)) (turns value inner.0 groups s inner.1.outer);
  }

-- What conditionals do to a group within one that is skipped

module _ (value : Evaluation) (hash : Tok) (rest : List Tok) (group : Group) (groups : List Group) (s : UnitState) where
  elif-inner : group.outer ≡ false → group.last ≡ false → elif_turn value hash rest (group ∷ groups) s ≡ Turns (record group { reads = false } ∷ groups) s
  elif-inner outer last =
      ap (λ b. elim b as (λ _. Turn) [
        | true ↦ Halts (refused s ConditionalAfterElse hash.at [])
        | false ↦ elim (group.outer && not group.taken) as (λ _. Turn) [
          | true ↦ with_condition value hash rest s (λ holds u. Turns (record group { taken = holds; reads = holds } ∷ groups) u)
          | false ↦ Turns (record group { reads = false } ∷ groups) s
        ]
      ]) last
      ∙ ap (λ b. elim (b && not group.taken) as (λ _. Turn) [
        | true ↦ with_condition value hash rest s (λ holds u. Turns (record group { taken = holds; reads = holds } ∷ groups) u)
        | false ↦ Turns (record group { reads = false } ∷ groups) s
      ]) outer

  abbrev else_group : Group
  else_group = record group { taken = true; reads = group.outer && not group.taken; last = true }

  else-inner : group.outer ≡ false → group.last ≡ false → else_turn hash rest (group ∷ groups) s ≡ Turns (else_group ∷ groups) s
  else-inner outer last =
      ap (λ b. elim b as (λ _. Turn) [
        | true ↦ Halts (refused s ConditionalAfterElse hash.at [])
        | false ↦ elim (group.outer && has_tokens rest) as (λ _. Turn) [
          | true ↦ Halts (refused s MalformedDirective hash.at [])
          | false ↦ Turns (else_group ∷ groups) s
        ]
      ]) last
      ∙ ap (λ b. elim (b && has_tokens rest) as (λ _. Turn) [
        | true ↦ Halts (refused s MalformedDirective hash.at [])
        | false ↦ Turns (else_group ∷ groups) s
      ]) outer

  endif-inner : group.outer ≡ false → endif_turn hash rest (group ∷ groups) s ≡ Turns groups s
  endif-inner outer =
      ap (λ b. elim (b && has_tokens rest) as (λ _. Turn) [
        | true ↦ Halts (refused s MalformedDirective hash.at [])
        | false ↦ Turns groups s
      ]) outer

  elif-next : IsInner false group → (next : Group) × IsInner false next × (elif_turn value hash rest (group ∷ groups) s ≡ Turns (next ∷ groups) s)
  elif-next is = (record group { reads = false }, record { outer = is.outer; reads = refl; last = is.last }, elif-inner is.outer is.last)

  else-next : IsInner false group → (next : Group) × IsInner true next × (else_turn hash rest (group ∷ groups) s ≡ Turns (next ∷ groups) s)
  else-next is = (else_group, record { outer = is.outer; reads = ap (λ b. b && not group.taken) is.outer; last = refl }, else-inner is.outer is.last)

-- The parts that are open, and their ends

module _ (names : List (List ℕ)) (tokens left : List Token) (behind : ℕ) where
  abbrev here : List Token
  here = last_tokens tokens behind

  stay-open : ArePassed names left here → (parts : List OpenPart) → AreOpen names tokens left parts → AreOpen names tokens here parts
  stay-open passed [] are = tt
  stay-open passed (part ∷ parts) are = (passed-then names (last_tokens tokens part.behind) left here are.0 passed, are.1)

  group-open : BeginGroup names left false here → (parts : List OpenPart) → AreOpen names tokens left parts → AreOpen names tokens here (record { behind = behind; last = false } ∷ parts)
  group-open begun [] are = (passed-self names here, tt)
  group-open begun (part ∷ parts) are = (passed-self names here, (passed-begun names (last_tokens tokens part.behind) left false here are.0 begun, are.1))

  module _ (last : Bool) (next : (before : List Token) → BeginGroup names before false left → BeginGroup names before last here) where
    abbrev next_part : OpenPart
    next_part = record { behind = behind; last = last }

    within-next : (part : OpenPart) → part.last ≡ false → ArePassed names (last_tokens tokens part.behind) left → (others : List OpenPart) → StandWithin names tokens part others → StandWithin names tokens next_part others
    within-next part is passed [] are = tt
    within-next part is passed (outer ∷ others) are = (
      next (last_tokens tokens outer.behind)
          (begun-passed names (last_tokens tokens outer.behind) false (last_tokens tokens part.behind) left
          (subst (λ b. BeginGroup names (last_tokens tokens outer.behind) b (last_tokens tokens part.behind)) is are.0) passed),
      are.1,
    )

    next-open : (parts : List OpenPart) → AreOpen names tokens left parts → AreOpen names tokens here (followed (Some next_part) parts)
    next-open [] are = tt
    next-open (part ∷ parts) are = by part.last refl
      where
        by : (b : Bool) → part.last ≡ b → AreOpen names tokens here (if b then [] else next_part ∷ parts)
        by true is = tt
        by false is = (passed-self names here, within-next part is are.0 parts are.1)

  others-open : ((before : List Token) (last : Bool) → BeginGroup names before last left → ArePassed names before here) → (parts : List OpenPart) → AreOpen names tokens left parts → AreOpen names tokens here (followed None parts)
  others-open ends [] are = tt
  others-open ends (part ∷ []) are = tt
  others-open ends (part ∷ outer ∷ others) are =
      (ends (last_tokens tokens outer.behind) part.last (begun-passed names (last_tokens tokens outer.behind) part.last (last_tokens tokens part.behind) left are.1.0 are.0), are.1.1)

  -- which are open behind a directive
  pub open-behind : (name : DirectiveName) (from_hash : List Token) → IsAtDirective names name left from_hash here → (parts : List OpenPart) → AreOpen names tokens left parts → AreOpen names tokens here (next_open name behind parts)
  open-behind found.If from_hash is = group-open (begun-line names found.If left from_hash here is (λ value groups s. refl))
  open-behind found.Ifdef from_hash is = group-open (begun-line names found.Ifdef left from_hash here is (λ value groups s. refl))
  open-behind found.Ifndef from_hash is = group-open (begun-line names found.Ifndef left from_hash here is (λ value groups s. refl))
  open-behind found.Elif from_hash is =
      next-open false (next-line names found.Elif left from_hash here is false (λ value group groups s inner. elif-next value is.hash (behind_word is.rest) group groups s inner))
  open-behind found.Else from_hash is =
      next-open true (next-line names found.Else left from_hash here is true (λ value group groups s inner. else-next value is.hash (behind_word is.rest) group groups s inner))
  open-behind found.Endif from_hash is =
      others-open (end-line names found.Endif left from_hash here is (λ value group groups s outer. endif-inner value is.hash (behind_word is.rest) group groups s outer))
  open-behind found.Include from_hash is = stay-open (passed-line names found.Include left from_hash here is (λ value groups s. refl))
  open-behind found.Define from_hash is = stay-open (passed-line names found.Define left from_hash here is (λ value groups s. refl))
  open-behind found.Undef from_hash is = stay-open (passed-line names found.Undef left from_hash here is (λ value groups s. refl))
  open-behind found.Error from_hash is = stay-open (passed-line names found.Error left from_hash here is (λ value groups s. refl))
  open-behind found.Unread from_hash is = stay-open (passed-line names found.Unread left from_hash here is (λ value groups s. refl))
  open-behind found.Unknown from_hash is = stay-open (passed-line names found.Unknown left from_hash here is (λ value groups s. refl))

module _ (names : List (List ℕ)) (tokens left : List Token) (at : ℕ) (passed : ArePassed names left (last_tokens tokens at)) (before now : List (ℕ × ℕ)) (are : ArePartEnds names tokens before) where
  end-here : (part : OpenPart) → ArePassed names (last_tokens tokens part.behind) (last_tokens tokens at) → HasEnd before now (Some part) at → ArePartEnds names tokens now
  end-here part all has = λ begin end there.
      ⊎_elim
      (λ is.
      let same : begin ≡ part.behind = eqb-true begin part.behind is in
      let ends : at ≡ end = same_Some at end (sym has.0 ∙ ap (λ n. lookup (nat_eq n) now) (sym same) ∙ there) in
      subst (λ n. ArePassed names (last_tokens tokens n) (last_tokens tokens end)) (sym same) (subst (λ n. ArePassed names (last_tokens tokens part.behind) (last_tokens tokens n)) ends all))
      (λ is. are begin end (sym (has.1 begin (eqb-false begin part.behind is)) ∙ there))
      (cases_Bool (nat_eq begin part.behind))

  end-innermost : (parts : List OpenPart) → AreOpen names tokens left parts → HasEnd before now (innermost parts) at → ArePartEnds names tokens now
  end-innermost [] is_open has = subst (ArePartEnds names tokens) (sym has) are
  end-innermost (part ∷ parts) is_open has = end-here part (passed-then names (last_tokens tokens part.behind) left (last_tokens tokens at) is_open.0 passed) has

  -- the ends that are known behind a directive
  pub ends-behind : (name : DirectiveName) (parts : List OpenPart) → AreOpen names tokens left parts → HasEnd before now (ended_part name parts) at → ArePartEnds names tokens now
  ends-behind found.Elif parts is_open has = end-innermost parts is_open has
  ends-behind found.Else parts is_open has = end-innermost parts is_open has
  ends-behind found.Endif parts is_open has = end-innermost parts is_open has
  ends-behind found.If parts is_open has = subst (ArePartEnds names tokens) (sym has) are
  ends-behind found.Ifdef parts is_open has = subst (ArePartEnds names tokens) (sym has) are
  ends-behind found.Ifndef parts is_open has = subst (ArePartEnds names tokens) (sym has) are
  ends-behind found.Include parts is_open has = subst (ArePartEnds names tokens) (sym has) are
  ends-behind found.Define parts is_open has = subst (ArePartEnds names tokens) (sym has) are
  ends-behind found.Undef parts is_open has = subst (ArePartEnds names tokens) (sym has) are
  ends-behind found.Error parts is_open has = subst (ArePartEnds names tokens) (sym has) are
  ends-behind found.Unread parts is_open has = subst (ArePartEnds names tokens) (sym has) are
  ends-behind found.Unknown parts is_open has = subst (ArePartEnds names tokens) (sym has) are

-- Where the table of names grows

pub ends-later : (names later : List (List ℕ)) → Extends names later → (tokens : List Token) (ends : List (ℕ × ℕ)) → AreKnown names tokens → ArePartEnds names tokens ends → ArePartEnds later tokens ends
ends-later names later more tokens ends known are = λ begin end there.
    let passed = are begin end there in
    record {
      fewer = passed.fewer;
      same = λ value include groups s h.
          ap (λ parts. over_parts value include parts groups s) (parts-later begin) ∙ passed.same value include groups s h ∙ ap (λ parts. over_parts value include parts groups s) (sym (parts-later end));
    }
  where
    parts-later : (count : ℕ) → parts_of later (last_tokens tokens count) ≡ parts_of names (last_tokens tokens count)
    parts-later count =
        ap (λ ts. file_parts (lines_of ts)) (toks_of-Extends names later more (last_tokens tokens count) (All-drop (λ (t : Token). IsKnown names t.name) (length tokens - count) tokens known))

-- The front of what is left of a file

-- its tokens from the `#` on, and those behind the line, are the last ones
pub at-directive : (names : List (List ℕ)) (tokens left text : List Token) (hash : Token) (rest behind : List Token) (name : DirectiveName) (at : ℕ)
    → left ≡ last_tokens tokens (length left) → text ++ hash ∷ rest ++ behind ≡ left → at ≡ length left - length text
    → parts_of names left ≡ DirectiveBehind (toks_of names text) (tok_of names hash) (toks_of names rest) (parts_of names behind)
    → parts_of names (hash ∷ rest ++ behind) ≡ DirectiveBehind [] (tok_of names hash) (toks_of names rest) (parts_of names behind)
    → directive_of (toks_of names rest) ≡ name_seen name
    → IsAtDirective names name left (last_tokens tokens at) (last_tokens tokens (length behind))
at-directive names tokens left text hash rest behind name at left_is is at_is parts parts_from_hash named =
    let behind_is : last_tokens tokens (length behind) ≡ behind = left-behind tokens (text ++ hash ∷ rest) behind (length left) (length behind) (is ∙ left_is) refl in
    let line : text ++ (hash ∷ rest ++ behind) ≡ left = sym (append_assoc text (hash ∷ rest) behind) ∙ is in
    let count : at ≡ length (hash ∷ rest ++ behind) = omega (arith, at_is, ap length line, length-append text (hash ∷ rest ++ behind)) in
    let at_hash : last_tokens tokens at ≡ hash ∷ rest ++ behind = left-behind tokens text (hash ∷ rest ++ behind) (length left) at (line ∙ left_is) count in
    record {
      text = toks_of names text;
      hash = tok_of names hash;
      rest = toks_of names rest;
      parts = parts ∙ ap (λ ts. DirectiveBehind (toks_of names text) (tok_of names hash) (toks_of names rest) (parts_of names ts)) (sym behind_is);
      parts_from_hash = ap (parts_of names) at_hash ∙ parts_from_hash ∙ ap (λ ts. DirectiveBehind [] (tok_of names hash) (toks_of names rest) (parts_of names ts)) (sym behind_is);
      named = named;
      fewer_from_hash = omega (arith, ap length at_hash, ap length line, length-append text (hash ∷ rest ++ behind));
      fewer = omega (arith, ap length behind_is, ap length at_hash, length-append (hash ∷ rest) behind);
    }

-- what is known of tokens is known of the last ones
pub last-known : (names : List (List ℕ)) (tokens left : List Token) → left ≡ last_tokens tokens (length left) → AreKnown names tokens → AreKnown names left
last-known names tokens left is known =
    subst (AreKnown names) (sym is) (All-drop (λ (t : Token). IsKnown names t.name) (length tokens - length left) tokens known)
