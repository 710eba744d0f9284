-- A check that ends clean is of safe tokens.
use Rattle.std.proofs.Common.{◌≡◌, ℕ, true, List, [], ◌∷◌, ◌++◌, map, Contains, inl, inr, refl, sym, ap, subst, ◌∙◌}
use Rattle.std.proofs.lemmas.Bool.{both_ways}
use Rattle.std.proofs.lemmas.List.Elements.{Contains-append_left}
use Rattle.vocabulary.specs.declared.class.Class.{Class}
use Rattle.vocabulary.specs.declared.class.Class.TheVariants.{AddressSpace}
use Rattle.meaning_text.specs.Tokens.{Tok}
use Rattle.meaning_operands.specs.Failures.{Failure}
use Rattle.meaning_warnings.specs.Listing.{IsListing, is_on}
use Rattle.meaning_rules.specs.Rules.{Judgement, Holds, BreaksConstraint, PassesObjectSize}
use Rattle.meaning_units.specs.WholeRules.{IsJudgement}
use Rattle.meaning_unit_nodes.specs.Linked.{AreLinked}
use Rattle.meaning_unit_nodes.specs.Numbered.{unit_nodes}
use Rattle.meaning_names.specs.Spelled.{spelled_failure}
use Rattle.meaning_first_rules.proofs.Elements.{Contains-nil, Contains-cons_cases, Contains-cons_head, Contains-cons_tail}
use Rattle.meaning_first_units.specs.Trees.{AreNamesTold}
use Rattle.meaning_silence.specs.Laws.{AreOff, AreOfOtherClasses}
use Rattle.meaning_silence.proofs.Listed.{listed}
use Rattle.meaning_silence.proofs.Silence.{judged_trees_are_safe}
use Rattle.meaning_silence.proofs.Untold.{unit-off}
use Rattle.meaning_answer.specs.Answers.{TellsUnit}
use Rattle.meaning_answer.specs.Reply.{Reply, Clean}
use Rattle.meaning_answer.specs.Units.{ParsedUnit, TellsJudged, TellsWarnings, shown_unit, spellings_in, warnings_of}
use Rattle.meaning_answer.proofs.Balance.{clean-empty, refusal-unclean}
use Rattle.meaning_answer.proofs.Replies.{only_tree}
use Rattle.meaning_safety.specs.Laws.{CleanChecksAreSafe}
use Rattle.meaning_safety.specs.Safe.{AreSafeTokens, DeriveLinkedTree}

-- Listings

in-map : {A B : Type 0} (f : A → B) (xs : List A) (x : A) → Contains xs x → Contains (map f xs) (f x)
in-map f [] x among = absurd (Contains-nil x among)
in-map f (first ∷ xs) x among =
    elim (Contains-cons_cases first xs x among) [
      | inl same ↦ subst (λ one. Contains (f first ∷ map f xs) (f one)) same (Contains-cons_head (f first) (map f xs))
      | inr behind ↦ Contains-cons_tail (f first) (map f xs) (f x) (in-map f xs x behind)
    ]

-- a failure is of the same rule however its names are spelled
off-spelled : (classes : List Class) (spellings : List (List ℕ)) (listing : List Failure) → AreOff classes (map (spelled_failure spellings) listing)
    → AreOff classes listing
off-spelled classes spellings listing off failure among = off (spelled_failure spellings failure) (in-map (spelled_failure spellings) listing failure among)

-- where a class is on and nothing of it is listed, nothing was found of it
found-off : (classes : List Class) (found more listing : List Failure) → IsListing (found ++ more) listing → is_on classes AddressSpace ≡ true → AreOff classes listing
    → AreOfOtherClasses found
found-off classes found more listing lists on off failure among is =
    let other = listed (found ++ more) listing lists failure (Contains-append_left found more failure among) is in
    both_ways (is_on classes AddressSpace) (sym (ap (is_on classes) other.2) ∙ off other.0 other.1) on

-- Judgements

-- it holds, and what it lists is of other classes
abbrev IsQuiet : Judgement → Type 0
IsQuiet judgement = (listing : List Failure) × (judgement ≡ Holds listing) × AreOfOtherClasses listing

module _ (classes : List Class) (on : is_on classes AddressSpace ≡ true) where
  warnings-quiet : (unit : ParsedUnit) (listing : List Failure) (reply : Reply) → TellsWarnings classes unit listing reply → reply.ending ≡ Clean
      → AreOfOtherClasses listing
  warnings-quiet unit listing reply (whole, (paths, fail, lists), told) clean =
      let spellings = spellings_in unit in
      let none = clean-empty (warnings_of classes unit whole) (sym (ap (λ (r : Reply). r.ending) told) ∙ clean) in
      let off = unit-off (shown_unit unit) classes (map (spelled_failure spellings) whole) none in
      found-off classes listing paths whole lists on (off-spelled classes spellings whole off)

  judged-quiet : (unit : ParsedUnit) (judgement : Judgement) (reply : Reply) → TellsJudged classes unit judgement reply → reply.ending ≡ Clean → IsQuiet judgement
  judged-quiet unit (BreaksConstraint broken) reply told clean = let ending = ap (λ (r : Reply). r.ending) told in absurd (cc (ending, clean))
  judged-quiet unit PassesObjectSize reply told clean = let ending = ap (λ (r : Reply). r.ending) told in absurd (cc (ending, clean))
  judged-quiet unit (Holds listing) reply told clean = (listing, refl, warnings-quiet unit listing reply told clean)

-- Checks

unit-safe : (classes : List Class) (files : List (List ℕ)) (tokens undefined : List Tok) (reply : Reply) → TellsUnit classes files tokens undefined reply
    → reply.ending ≡ Clean → DeriveLinkedTree tokens → AreSafeTokens classes tokens
unit-safe classes files tokens undefined reply (own, surroundings, derives, (are, (judgement, judged, tells))) clean (other, also, names, linked) on tree derived form =
    let unit : ParsedUnit =
    record { files = files; tokens = tokens; undefined = undefined; nodes = unit_nodes tokens own; surroundings = surroundings } in
    let quiet = judged-quiet classes on unit judgement reply tells clean in
    let same = only_tree tokens own tree derives derived in
    let alike = only_tree tokens other tree also derived in
    judged_trees_are_safe tokens tree quiet.0 form (subst (AreNamesTold tokens) alike names) (subst (λ one. AreLinked (unit_nodes tokens one)) alike linked)
    (subst (λ one. IsJudgement (unit_nodes tokens one) (Holds quiet.0)) same (subst (IsJudgement (unit_nodes tokens own)) quiet.1 judged)) quiet.2

pub clean_checks_are_safe : CleanChecksAreSafe
clean_checks_are_safe classes files tokens undefined reply (inl (fault, stands, refused, told)) clean linked =
    absurd (refusal-unclean files tokens fault stands reply told clean)
clean_checks_are_safe classes files tokens undefined reply (inr told) clean linked = unit-safe classes files tokens undefined reply told clean linked
