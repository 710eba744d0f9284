-- What is kept of objects, where one node more is known.
use Rattle.std.proofs.Common.{◌≡◌, ℕ, ◌+◌, ◌<◌, Bool, true, false, ◌&&◌, not, nat_eq, bytes_eq, List, [], ◌∷◌, ◌++◌, length, Option, Some, None, option_map, if◌then◌else◌, refl, sym, ap, ap₂, ◌∙◌, arith}
use Rattle.std.specs.Option.{option_or}
use Rattle.std.proofs.lemmas.Bool.{eqb-true}
use Rattle.std.proofs.lemmas.Bool.Decides.{nat_tests}
use Rattle.sparse_model.specs.declared.ids.NameId.{NameId}
use Rattle.meaning_typing.specs.DeclarationRows.{is_linked_before}
use Rattle.meaning_typing.specs.Facts.{Fact, Declared, fact_at}
use Rattle.meaning_typing.specs.Surroundings.{Surrounding, of_unit, surrounding_at}
use Rattle.meaning_typing.specs.Units.{UnitNodes}
use Rattle.meaning_objects.specs.Objects.{handle_if}
use Rattle.meaning_objects.specs.Carried.{contexts_declared, contexts_of_object, is_declared_noreturn, is_linked_noreturn, is_noreturn, is_own_noreturn, own_contexts, says_noreturn}
use Rattle.meaning_typing.specs.ContextSums.{contexts_of, first_contexts, linked_from}
use Rattle.c_types.specs.Table.{TypeTable}
use Rattle.node_facts.specs.declared.declared.DeclaredFact.{DeclaredFact}
use Rattle.node_facts.specs.Facts.{declared_seen, name_seen}
use Rattle.judged_objects.specs.declared.keeping.LinkedObject.{LinkedObject}
use Rattle.judged_objects.specs.declared.note.ObjectNote.{ObjectNote}
use Rattle.judged_objects.specs.Kept.{AreKept, linked_with, note_linked, same_handle, same_name, told_alone, told_linked}
use Rattle.judged_objects.specs.Notes.{no_note, note_and, note_if, note_or_none, note_said, note_told, says_something}
use Rattle.judged_objects.proofs.FactLemmas.{fact-behind, fact-more, first-more, told-more}
use Rattle.judged_objects.proofs.NoteLemmas.{and-none, says-nothing}

-- Names are seen alike where they have one number

and-true : (test : Bool) → test && true ≡ test
and-true true = refl
and-true false = refl

same-by : (number other : ℕ) (first second : Bool) → nat_eq number 0 ≡ first → nat_eq other 0 ≡ second
    → bytes_eq (if first then [] else number ∷ []) (if second then [] else other ∷ []) ≡ nat_eq number other
same-by number other true true e f = grind (arith, nat_tests)
same-by number other true false e f = grind (arith, nat_tests)
same-by number other false true e f = grind (arith, nat_tests)
same-by number other false false e f = and-true (nat_eq number other)

name-same : (name other : NameId) → bytes_eq (name_seen name) (name_seen other) ≡ nat_eq name.0 other.0
name-same name other = same-by name.0 other.0 (nat_eq name.0 0) (nat_eq other.0 0) refl refl

-- Nothing is known yet

pub none_kept :
    (nodes : UnitNodes) (surroundings : List Surrounding) (linked : NameId → Option LinkedObject) (unlinked : ℕ → Option ObjectNote) → ((name : NameId) → linked name ≡ None)
    → ((handle : ℕ) → unlinked handle ≡ None) → AreKept nodes surroundings [] linked unlinked
none_kept nodes surroundings linked unlinked none alone =
    record {
      objects = λ name. ap (option_map (λ (one : LinkedObject). one.object)) (none name);
      notes = λ name. ap note_linked (none name) ∙ sym (untold name surroundings);
      own = λ declarator. ap note_or_none (alone declarator);
    }
  where
    untold : (name : NameId) (surroundings : List Surrounding) → told_linked nodes (name_seen name) 0 surroundings [] ≡ no_note
    untold name [] = refl
    untold name (surrounding ∷ surroundings) = refl

-- One node more

or-none : (found : Option ℕ) → option_or found None ≡ found
or-none None = refl
or-none (Some handle) = refl

told_alone-if : (nodes : UnitNodes) (surroundings : List Surrounding) (declarator : ℕ) (test : Bool) (one other : Fact)
    → told_alone nodes surroundings declarator (if test then one else other)
    ≡ (if test then told_alone nodes surroundings declarator one else told_alone nodes surroundings declarator other)
told_alone-if nodes surroundings declarator true one other = refl
told_alone-if nodes surroundings declarator false one other = refl

module _ (nodes : UnitNodes) (surroundings : List Surrounding) (facts : List Fact) (fact : Fact) (linked later : NameId → Option LinkedObject) (unlinked alone : ℕ → Option ObjectNote)
    (within : length facts < length surroundings) (kept : AreKept nodes surroundings facts linked unlinked) where
  abbrev said : ObjectNote
  said = note_said nodes (length facts) (surrounding_at surroundings (length facts))

  -- what names with linkage need, and what handles need
  abbrev pub NamesAdd : Type 0
  NamesAdd =
      (name : NameId) → later name ≡ (if is_linked_before (name_seen name) fact then Some (linked_with (linked name) (length facts) said) else linked name)

  abbrev pub HandlesAdd : Type 0
  HandlesAdd =
      (handle : ℕ) → note_or_none (alone handle)
      ≡ (if nat_eq (length facts) handle then told_alone nodes surroundings handle fact else note_or_none (unlinked handle))

  object-by : (test : Bool) (found : Option LinkedObject) (now : Option LinkedObject) → now ≡ (if test then Some (linked_with found (length facts) said) else found)
      → option_map (λ one. one.object) now ≡ option_or (option_map (λ one. one.object) found) (handle_if test (length facts) None)
  object-by true None now is = ap (option_map (λ (one : LinkedObject). one.object)) is
  object-by true (Some one) now is = ap (option_map (λ (one : LinkedObject). one.object)) is
  object-by false found now is = ap (option_map (λ (one : LinkedObject). one.object)) is ∙ sym (or-none (option_map (λ (one : LinkedObject). one.object) found))

  note-by : (test : Bool) (found : Option LinkedObject) (now : Option LinkedObject) → now ≡ (if test then Some (linked_with found (length facts) said) else found)
      → note_linked now ≡ note_and (note_linked found) (note_if test said)
  note-by true None now is = ap note_linked is
  note-by true (Some one) now is = ap note_linked is
  note-by false found now is = ap note_linked is ∙ sym (and-none (note_linked found))

  pub kept_more : NamesAdd → HandlesAdd → AreKept nodes surroundings (facts ++ fact ∷ []) later alone
  kept_more names handles =
      let start : 0 + length facts ≡ length facts = omega arith in
      record {
        objects = λ name.
            object-by (is_linked_before (name_seen name) fact) (linked name) (later name) (names name)
            ∙ (λ i. option_or (kept.objects name i) (handle_if (is_linked_before (name_seen name) fact) (sym start i) None))
            ∙ sym (first-more (name_seen name) 0 facts fact);
        notes = λ name.
            note-by (is_linked_before (name_seen name) fact) (linked name) (later name) (names name)
            ∙ (λ i. note_and (kept.notes name i)
            (note_if (is_linked_before (name_seen name) fact) (note_said nodes (sym start i) (surrounding_at surroundings (length facts)))))
            ∙ sym (told-more nodes (name_seen name) 0 surroundings facts fact (of_unit (length surroundings)) within);
        own = λ handle.
            handles handle
            ∙ ap (λ rest. if nat_eq (length facts) handle then told_alone nodes surroundings handle fact else rest) (kept.own handle)
            ∙ sym (told_alone-if nodes surroundings handle (nat_eq (length facts) handle) fact (fact_at facts handle))
            ∙ ap (told_alone nodes surroundings handle) (sym (fact-more facts fact handle));
      }

-- where nothing is added
module _ (nodes : UnitNodes) (surroundings : List Surrounding) (facts : List Fact) (fact : Fact) (linked : NameId → Option LinkedObject) (unlinked : ℕ → Option ObjectNote)
    (within : length facts < length surroundings) (kept : AreKept nodes surroundings facts linked unlinked) where
  pub handles_stay : told_alone nodes surroundings (length facts) fact ≡ no_note → HandlesAdd nodes surroundings facts fact linked linked unlinked unlinked within kept
  handles_stay silent handle = by (nat_eq (length facts) handle) refl
    where
      by : (test : Bool) → nat_eq (length facts) handle ≡ test
          → note_or_none (unlinked handle) ≡ (if test then told_alone nodes surroundings handle fact else note_or_none (unlinked handle))
      by true same =
          let here : length facts ≡ handle = eqb-true (length facts) handle same in
          kept.own handle
          ∙ ap (λ at. told_alone nodes surroundings handle (fact_at facts at)) (sym here)
          ∙ ap (told_alone nodes surroundings handle) (fact-behind facts)
          ∙ sym silent
          ∙ ap (λ at. told_alone nodes surroundings at fact) here
      by false same = refl

  -- no name with linkage, and nothing of its own
  pub kept_still : ((name : NameId) → is_linked_before (name_seen name) fact ≡ false) → told_alone nodes surroundings (length facts) fact ≡ no_note
      → AreKept nodes surroundings (facts ++ fact ∷ []) linked unlinked
  kept_still unlinks silent =
      kept_more nodes surroundings facts fact linked linked unlinked unlinked within kept
      (λ name. ap (λ test. if test then Some (linked_with (linked name) (length facts) (note_said nodes (length facts) (surrounding_at surroundings (length facts)))) else linked name) (sym (unlinks name)))
      (handles_stay silent)

-- A declaration with linkage

module _ (nodes : UnitNodes) (surroundings : List Surrounding) (facts : List Fact) (table : TypeTable) (declaration : DeclaredFact) (handle : ℕ) (stands : Surrounding)
    (linked : NameId → Option LinkedObject) (unlinked : ℕ → Option ObjectNote)
    (here : length facts ≡ handle) (within : handle < length surroundings) (stood : surrounding_at surroundings handle ≡ stands)
    (kept : AreKept nodes surroundings facts linked unlinked) where
  abbrev fact : Fact
  fact = Declared (declared_seen table declaration)

  within-facts : length facts < length surroundings
  within-facts = omega (arith, here, within)

  said-here : note_said nodes handle stands ≡ note_said nodes (length facts) (surrounding_at surroundings (length facts))
  said-here = λ i. note_said nodes (sym here i) ((sym stood ∙ ap (surrounding_at surroundings) (sym here)) i)

  pub kept_linked : (later : NameId → Option LinkedObject) (note : ObjectNote) → declaration.has_linkage ≡ true → note ≡ note_said nodes handle stands
      → ((other : NameId) → later other ≡ (if same_name declaration.name other then Some (linked_with (linked declaration.name) handle note) else linked other))
      → AreKept nodes surroundings (facts ++ fact ∷ []) later unlinked
  kept_linked later note links says updates =
      kept_more nodes surroundings facts fact linked later unlinked unlinked within-facts kept
      (λ other. updates other ∙ by other (nat_eq declaration.name.0 other.0) refl)
      (handles_stay nodes surroundings facts fact linked unlinked within-facts kept
      (ap (λ test. if test then no_note else note_told (own_contexts nodes surroundings (length facts) (declared_seen table declaration)) (is_own_noreturn nodes surroundings (length facts) (declared_seen table declaration))) links))
    where
      test-is : (other : NameId) → is_linked_before (name_seen other) fact ≡ nat_eq declaration.name.0 other.0
      test-is other = ap₂ (λ one two. one && two) links (name-same declaration.name other)

      by : (other : NameId) (test : Bool) → nat_eq declaration.name.0 other.0 ≡ test
          → (if test then Some (linked_with (linked declaration.name) handle note) else linked other)
          ≡ (if is_linked_before (name_seen other) fact
          then Some (linked_with (linked other) (length facts) (note_said nodes (length facts) (surrounding_at surroundings (length facts)))) else linked other)
      by other true same =
          let named : declaration.name ≡ other = ap (λ number. record { 0 = number }) (eqb-true declaration.name.0 other.0 same) in
          (λ i. Some (linked_with (linked (named i)) (sym here i) ((says ∙ said-here) i)))
          ∙ ap (λ test. if test then Some (linked_with (linked other) (length facts) (note_said nodes (length facts) (surrounding_at surroundings (length facts)))) else linked other)
          (sym (test-is other ∙ same))
      by other false apart =
          ap (λ test. if test then Some (linked_with (linked other) (length facts) (note_said nodes (length facts) (surrounding_at surroundings (length facts)))) else linked other)
          (sym (test-is other ∙ apart))

  -- one without
  unlinks : declaration.has_linkage ≡ false → (name : NameId) → is_linked_before (name_seen name) fact ≡ false
  unlinks links name = ap (λ test. test && bytes_eq (name_seen declaration.name) (name_seen name)) links

  alone-is : declaration.has_linkage ≡ false → (at : ℕ)
      → told_alone nodes surroundings at fact ≡ note_told (own_contexts nodes surroundings at (declared_seen table declaration)) (is_own_noreturn nodes surroundings at (declared_seen table declaration))
  alone-is links at =
      ap (λ test. if test then no_note else note_told (own_contexts nodes surroundings at (declared_seen table declaration)) (is_own_noreturn nodes surroundings at (declared_seen table declaration))) links

  own-told : (at : ℕ) (test : Bool) → declaration.is_typedef ≡ test
      → note_told (own_contexts nodes surroundings at (declared_seen table declaration)) (is_own_noreturn nodes surroundings at (declared_seen table declaration))
      ≡ note_if (not test) (note_said nodes at (surrounding_at surroundings at))
  own-told at test is =
      ap (λ test. note_told (if test then None else contexts_of nodes at (surrounding_at surroundings at)) (not test && says_noreturn nodes at (surrounding_at surroundings at))) is
      ∙ by test
    where
      by : (test : Bool)
          → note_told (if test then None else contexts_of nodes at (surrounding_at surroundings at)) (not test && says_noreturn nodes at (surrounding_at surroundings at))
          ≡ note_if (not test) (note_said nodes at (surrounding_at surroundings at))
      by true = refl
      by false = refl

  pub kept_typedef : declaration.has_linkage ≡ false → declaration.is_typedef ≡ true → AreKept nodes surroundings (facts ++ fact ∷ []) linked unlinked
  kept_typedef links is_typedef =
      kept_still nodes surroundings facts fact linked unlinked within-facts kept (unlinks links) (alone-is links (length facts) ∙ own-told (length facts) true is_typedef)

  pub kept_alone : (alone : ℕ → Option ObjectNote) (note : ObjectNote) → declaration.has_linkage ≡ false → declaration.is_typedef ≡ false → note ≡ note_said nodes handle stands
      → ((other : ℕ) → alone other ≡ (if same_handle handle other && says_something note then Some note else unlinked other))
      → AreKept nodes surroundings (facts ++ fact ∷ []) linked alone
  kept_alone alone note links is_typedef says updates =
      kept_more nodes surroundings facts fact linked linked unlinked alone within-facts kept
      (λ name. ap (λ test. if test then Some (linked_with (linked name) (length facts) (note_said nodes (length facts) (surrounding_at surroundings (length facts)))) else linked name) (sym (unlinks links name)))
      (λ other. ap note_or_none (updates other)
      ∙ by other (nat_eq handle other) (says_something note) refl refl
      ∙ ap (λ at. if nat_eq at other then told_alone nodes surroundings other fact else note_or_none (unlinked other)) (sym here))
    where
      told-other : (other : ℕ) → handle ≡ other → told_alone nodes surroundings other fact ≡ note
      told-other other at =
          alone-is links other
          ∙ own-told other false is_typedef
          ∙ (λ i. note_said nodes (sym at i) ((ap (surrounding_at surroundings) (sym at) ∙ stood) i))
          ∙ sym says

      silent-before : (other : ℕ) → handle ≡ other → note_or_none (unlinked other) ≡ no_note
      silent-before other at =
          kept.own other
          ∙ ap (λ place. told_alone nodes surroundings other (fact_at facts place)) (sym (here ∙ at))
          ∙ ap (told_alone nodes surroundings other) (fact-behind facts)

      by : (other : ℕ) (test something : Bool) → nat_eq handle other ≡ test → says_something note ≡ something
          → note_or_none (if test && something then Some note else unlinked other)
          ≡ (if test then told_alone nodes surroundings other fact else note_or_none (unlinked other))
      by other true true same speaks = sym (told-other other (eqb-true handle other same))
      by other true false same silent = silent-before other (eqb-true handle other same) ∙ sym (says-nothing note silent) ∙ sym (told-other other (eqb-true handle other same))
      by other false something apart speaks = refl

-- What is asked

-- by what is known of a declarator
abbrev pub note_by : UnitNodes → List Surrounding → List Fact → (declarator : ℕ) → Fact → ObjectNote
note_by nodes surroundings facts declarator fact =
    note_told (contexts_declared nodes surroundings facts declarator fact) (is_declared_noreturn nodes surroundings facts declarator fact)

module _ (nodes : UnitNodes) (surroundings : List Surrounding) (facts : List Fact) (table : TypeTable) (declarator : ℕ) (declaration : DeclaredFact)
    (is : fact_at facts declarator ≡ Declared (declared_seen table declaration)) where
  by-linkage : (test : Bool) → declaration.has_linkage ≡ test
      → note_by nodes surroundings facts declarator (fact_at facts declarator)
      ≡ (if test then told_linked nodes (name_seen declaration.name) 0 surroundings facts
      else note_told (own_contexts nodes surroundings declarator (declared_seen table declaration)) (is_own_noreturn nodes surroundings declarator (declared_seen table declaration)))
  by-linkage test links =
      ap (note_by nodes surroundings facts declarator) is
      ∙ ap
      (λ test. note_told
      (if test then first_contexts (linked_from nodes (name_seen declaration.name) 0 surroundings facts) else own_contexts nodes surroundings declarator (declared_seen table declaration))
      (if test then is_linked_noreturn nodes (name_seen declaration.name) 0 surroundings facts else is_own_noreturn nodes surroundings declarator (declared_seen table declaration)))
      links
      ∙ together test
    where
      together : (test : Bool)
          → note_told
          (if test then first_contexts (linked_from nodes (name_seen declaration.name) 0 surroundings facts) else own_contexts nodes surroundings declarator (declared_seen table declaration))
          (if test then is_linked_noreturn nodes (name_seen declaration.name) 0 surroundings facts else is_own_noreturn nodes surroundings declarator (declared_seen table declaration))
          ≡ (if test then told_linked nodes (name_seen declaration.name) 0 surroundings facts
          else note_told (own_contexts nodes surroundings declarator (declared_seen table declaration)) (is_own_noreturn nodes surroundings declarator (declared_seen table declaration)))
      together true = refl
      together false = refl

  pub note_of_linked : declaration.has_linkage ≡ true
      → note_told (contexts_of_object nodes surroundings facts declarator) (is_noreturn nodes surroundings facts declarator)
      ≡ told_linked nodes (name_seen declaration.name) 0 surroundings facts
  note_of_linked links = by-linkage true links

  pub note_of_alone : declaration.has_linkage ≡ false
      → note_told (contexts_of_object nodes surroundings facts declarator) (is_noreturn nodes surroundings facts declarator)
      ≡ told_alone nodes surroundings declarator (Declared (declared_seen table declaration))
  note_of_alone links =
      by-linkage false links
      ∙ ap
      (λ test. if test then no_note
      else note_told (own_contexts nodes surroundings declarator (declared_seen table declaration)) (is_own_noreturn nodes surroundings declarator (declared_seen table declaration)))
      (sym links)
