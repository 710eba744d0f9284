-- Where nothing is told of a unit nothing fails on its control paths, so that its functions are balanced.
use Rattle.std.proofs.Common.{◌≡◌, ℕ, true, List, [], ◌∷◌, ◌++◌, map, refl, sym, ap, subst, ◌∙◌, inl, inr, arith}
use Rattle.vocabulary.specs.declared.class.Class.{Class}
use Rattle.vocabulary.specs.declared.class.Class.TheVariants.{Context}
use Rattle.meaning_operands.specs.Failures.{Failure}
use Rattle.meaning_warnings.specs.Listing.{IsListing, is_on, listing_lines, undefined_lines}
use Rattle.meaning_rules.specs.Rules.{Judgement, Holds, BreaksConstraint, PassesObjectSize}
use Rattle.meaning_units.specs.WholeRows.{facts_of}
use Rattle.meaning_contexts.specs.Failures.{AreContextFailures}
use Rattle.meaning_contexts.specs.Units.{judged_of}
use Rattle.meaning_contexts.proofs.FailureLemmas.{failures_are_of_one_class, untold_functions_balance}
use Rattle.meaning_control.specs.Nodes.{JudgedUnit}
use Rattle.meaning_text.specs.Tokens.{Tok}
use Rattle.meaning_derivation.specs.State.{Fault, IsError, PassesLimit}
use Rattle.meaning_preprocessing.specs.State.{Stop, Refuses, Passes}
use Rattle.meaning_preprocessing.specs.Unit.{Ends, EndsEarly}
use Rattle.meaning_unit_nodes.specs.Numbered.{unit_nodes}
use Rattle.meaning_names.specs.Spelled.{spelled_failure}
use Rattle.meaning_answer.specs.Reply.{Reply, Clean}
use Rattle.meaning_answer.specs.Units.{ParsedUnit, TellsJudged, TellsWarnings, ending_behind, shown_unit, spellings_in, warnings_of}
use Rattle.meaning_answer.specs.Lines.{refusal_reply, stop_reply}
use Rattle.meaning_answer.specs.Answers.{files_of, IsCheckReply}
use Rattle.meaning_answer.specs.laws.Balance.{AreBalancedTokens, CleanChecksAreBalanced, HasBalancedFunctions}
use Rattle.meaning_answer.proofs.ContextsListed.{both-empty, like-behind, none-listed}

-- warnings that end clean are none
pub clean-empty : (warnings : List ℕ) → ending_behind warnings ≡ Clean → warnings ≡ []
clean-empty [] clean = refl
clean-empty (byte ∷ bytes) clean = absurd (cc clean)

module _ (classes : List Class) (unit : ParsedUnit) (on : is_on classes Context ≡ true) where
  -- what fails on paths would be written
  no-failure :
      (judged : JudgedUnit) (listing paths whole : List Failure) → AreContextFailures judged paths → IsListing (listing ++ paths) whole
      → warnings_of classes unit whole ≡ [] → paths ≡ []
  no-failure judged listing [] whole are lists none = refl
  no-failure judged listing (failure ∷ paths) whole are lists none =
      let class_ = failures_are_of_one_class judged (failure ∷ paths) are failure (0, omega arith, refl) in
      let shown = shown_unit unit in
      let apart = both-empty (undefined_lines shown classes shown.undefined shown.undefined_tokens)
      (listing_lines shown classes (map (spelled_failure (spellings_in unit)) whole)) none in
      let found = like-behind failure listing paths in
      absurd (none-listed shown classes (spellings_in unit) failure whole (ap (is_on classes) class_ ∙ on) apart.1 (found.0, lists.same failure ∙ found.1))

  warnings-balanced : (listing : List Failure) (reply : Reply) → TellsWarnings classes unit listing reply → reply.ending ≡ Clean
      → HasBalancedFunctions unit.nodes unit.surroundings
  warnings-balanced listing reply (whole, (paths, (rows, are, fail), lists), told) clean =
      let judged = judged_of unit.nodes unit.surroundings (facts_of rows) in
      let silent = clean-empty (warnings_of classes unit whole) (sym (ap (λ (r : Reply). r.ending) told) ∙ clean) in
      let none = no-failure judged listing paths whole fail lists silent in
      (rows, are, untold_functions_balance judged (subst (AreContextFailures judged) none fail))

  judged-balanced : (judgement : Judgement) (reply : Reply) → TellsJudged classes unit judgement reply → reply.ending ≡ Clean
      → HasBalancedFunctions unit.nodes unit.surroundings
  judged-balanced (BreaksConstraint broken) reply told clean = let ending = ap (λ (r : Reply). r.ending) told in absurd (cc (ending, clean))
  judged-balanced PassesObjectSize reply told clean = let ending = ap (λ (r : Reply). r.ending) told in absurd (cc (ending, clean))
  judged-balanced (Holds listing) reply told clean = warnings-balanced listing reply told clean

-- what is refused isn't clean

stop-unclean : (stop : Stop) (reply : Reply) → reply ≡ stop_reply stop → reply.ending ≡ Clean → ⊥
stop-unclean (Refuses refusal) reply is clean = let ending = ap (λ (r : Reply). r.ending) is in cc (ending, clean)
stop-unclean (Passes kind) reply is clean = let ending = ap (λ (r : Reply). r.ending) is in cc (ending, clean)

pub refusal-unclean : (files : List (List ℕ)) (tokens : List Tok) (fault : Fault) (stands : ℕ) (reply : Reply) → reply ≡ refusal_reply files tokens fault stands
    → reply.ending ≡ Clean → ⊥
refusal-unclean files tokens (IsError kind) stands reply is clean = let ending = ap (λ (r : Reply). r.ending) is in cc (ending, clean)
refusal-unclean files tokens (PassesLimit limit) stands reply is clean = let ending = ap (λ (r : Reply). r.ending) is in cc (ending, clean)

check-balanced : (classes : List Class) (files : List (List ℕ)) (tokens undefined : List Tok) (reply : Reply) → is_on classes Context ≡ true
    → IsCheckReply classes files tokens undefined reply → reply.ending ≡ Clean → AreBalancedTokens tokens
check-balanced classes files tokens undefined reply on (inl (fault, stands, refused, told)) clean =
    absurd (refusal-unclean files tokens fault stands reply told clean)
check-balanced classes files tokens undefined reply on (inr (tree, surroundings, derives, (are, (judgement, judges, told)))) clean =
    let unit : ParsedUnit =
    record { files = files; tokens = tokens; undefined = undefined; nodes = unit_nodes tokens tree; surroundings = surroundings } in
    (tree, surroundings, derives, are, judged-balanced classes unit on judgement reply told clean)

pub clean_checks_are_balanced : CleanChecksAreBalanced
clean_checks_are_balanced classes tokens (Ends undefined paths) reply on told clean =
    check-balanced classes (files_of paths) tokens undefined reply on told clean
clean_checks_are_balanced classes tokens (EndsEarly stop) reply on told clean = absurd (stop-unclean stop reply told clean)
