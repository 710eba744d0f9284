-- A right reply that ends clean is to words that name a safe unit.
use Rattle.std.proofs.Common.{◌≡◌, ℕ, List, ap, subst, refl, inl, inr}
use Rattle.vocabulary.specs.declared.class.Class.{Class}
use Rattle.meaning_outside.specs.Files.{FileMap}
use Rattle.meaning_outside.specs.Loads.{Loaded, AgreesWith}
use Rattle.meaning_text.specs.Tokens.{Tok}
use Rattle.meaning_tree.specs.Trees.{SyntaxTree}
use Rattle.meaning_derivation.specs.Actions.{act}
use Rattle.meaning_derivation.specs.State.{Fault, IsError, PassesLimit}
use Rattle.meaning_derivation.specs.Units.{DerivesTree}
use Rattle.meaning_preprocessing.specs.State.{Stop, Refuses, Passes}
use Rattle.meaning_preprocessing.specs.Unit.{UnitEnd, Ends, EndsEarly}
use Rattle.meaning_answer.specs.Reply.{Ending, Reply, Clean}
use Rattle.meaning_answer.specs.Requests.{Options, Request, Check, request_of}
use Rattle.meaning_answer.specs.Lines.{stop_reply, refusal_reply}
use Rattle.meaning_answer.specs.Answers.{files_of, IsCheckReply, IsCheckEnd}
use Rattle.c_tokens.specs.Seen.{toks_of}
use Rattle.c_preproc.specs.Units.{IsUnit}
use Rattle.c_preproc.specs.declared.unit.UnitTokens.{UnitTokens}
use Rattle.meaning_safety.specs.Safe.{AreSafeTokens}
use Rattle.ksparse.specs.Safe.{IsSafeUnit, NamesSafeUnit, IsSafeIfClean}
use Rattle.ksparse.specs.Written.{paths_of}

-- Endings that aren't clean

pub stop-unclean : (stop : Stop) (reply : Reply) → reply ≡ stop_reply stop → reply.ending ≡ Clean → ⊥
stop-unclean (Refuses refusal) reply is clean = let ending = ap (λ (r : Reply). r.ending) is in cc
stop-unclean (Passes kind) reply is clean = let ending = ap (λ (r : Reply). r.ending) is in cc

pub refusal-unclean : (files : List (List ℕ)) (tokens : List Tok) (fault : Fault) (stands : ℕ) (reply : Reply) → reply ≡ refusal_reply files tokens fault stands
    → reply.ending ≡ Clean → ⊥
refusal-unclean files tokens (IsError kind) stands reply is clean = let ending = ap (λ (r : Reply). r.ending) is in cc
refusal-unclean files tokens (PassesLimit limit) stands reply is clean = let ending = ap (λ (r : Reply). r.ending) is in cc

-- A clean check

clean-parsed : (classes : List Class) (files : List (List ℕ)) (tokens undefined : List Tok) (reply : Reply) → IsCheckReply classes files tokens undefined reply
    → reply.ending ≡ Clean → (tree : SyntaxTree) × DerivesTree act tokens tree
clean-parsed classes files tokens undefined reply (inl refusal) clean = absurd (refusal-unclean files tokens refusal.0 refusal.1 reply refusal.3 clean)
clean-parsed classes files tokens undefined reply (inr unit) clean = (unit.0, unit.2)

pub clean-safe :
    (options : Options) (path : List ℕ) (names : List (List ℕ)) (toks : UnitTokens) (map : FileMap) (reply : Reply) → IsUnit options.preprocessing map path names toks
    → IsCheckReply options.classes (paths_of names toks.files) (toks_of names toks.tokens) (toks_of names toks.undef_tokens) reply → reply.ending ≡ Clean
    → AreSafeTokens options.classes (toks_of names toks.tokens) → NamesSafeUnit (Check options path) map
clean-safe options path names toks map reply is told clean safe = (
  record { tokens = toks_of names toks.tokens; end = Ends (toks_of names toks.undef_tokens) is.0 },
  is.2,
  record {
    ends = (toks_of names toks.undef_tokens, is.0, refl);
    parsed = clean-parsed options.classes (paths_of names toks.files) (toks_of names toks.tokens) (toks_of names toks.undef_tokens) reply told clean;
    safe = safe;
  },
)

-- however preprocessing ends
pub clean-end : (classes : List Class) (tokens : List Tok) (end : UnitEnd) (reply : Reply) → IsCheckEnd classes tokens end reply → reply.ending ≡ Clean
    → AreSafeTokens classes tokens → IsSafeUnit classes (record { tokens = tokens; end = end })
clean-end classes tokens (Ends undefined paths) reply told clean safe =
    record { ends = (undefined, paths, refl); parsed = clean-parsed classes (files_of paths) tokens undefined reply told clean; safe = safe }
clean-end classes tokens (EndsEarly stop) reply told clean safe = absurd (stop-unclean stop reply told clean)

-- what is asked for is what the words ask for
pub asked-safe : (words : List (List ℕ)) (loads : List Loaded) (ending : Ending) (request : Request) → request ≡ request_of words
    → (ending ≡ Clean → (map : FileMap) → AgreesWith map loads → NamesSafeUnit request map) → IsSafeIfClean words loads ending
asked-safe words loads ending request is safe clean map agrees = subst (λ (r : Request). NamesSafeUnit r map) is (safe clean map agrees)
