-- A right reply that ends clean is to words that name a balanced unit.
use Rattle.std.proofs.Common.{◌≡◌, ℕ, List, ap}
use Rattle.meaning_outside.specs.Files.{FileMap}
use Rattle.meaning_answer.specs.Reply.{Reply, Clean}
use Rattle.meaning_answer.specs.Requests.{Request, BadWord, MissingFile, Check, Expand, request_of}
use Rattle.meaning_answer.specs.Answers.{IsAnswer, IsRequestReply}
use Rattle.meaning_answer.proofs.Balance.{clean_checks_are_balanced}
use Rattle.ksparse.specs.Balanced.{NamesBalancedUnit}

request-balanced : (request : Request) (files : FileMap) (reply : Reply) → IsRequestReply request files reply → reply.ending ≡ Clean
    → NamesBalancedUnit request files
request-balanced (BadWord position word) files reply is clean = let ending = ap (λ (r : Reply). r.ending) is in cc (ending, clean)
request-balanced MissingFile files reply is clean = let ending = ap (λ (r : Reply). r.ending) is in cc (ending, clean)
request-balanced (Check options path) files reply (unit, is_unit, told) clean = λ on.
    (unit, is_unit, clean_checks_are_balanced options.classes unit.tokens unit.end reply on told clean)
request-balanced (Expand options path) files reply is clean = tt

pub answer-balanced : (words : List (List ℕ)) (files : FileMap) (reply : Reply) → IsAnswer words files reply → reply.ending ≡ Clean
    → NamesBalancedUnit (request_of words) files
answer-balanced words files reply is clean = request-balanced (request_of words) files reply is clean
