-- Where finitely many places have all that come next, and what each passes begins with a point, the rules have an answer.
use Rattle.std.proofs.Common.{suc, List, length, arith}
use Rattle.meaning_paths.specs.Steps.{Step}
use Rattle.meaning_paths.specs.Walks.{IsIn, IsPath}
use Rattle.meaning_paths.specs.Graphs.{BasicBlock, IsPathOf, steps_at, successors_at, IsClosed, BeginsWithPoint, EachBeginsWithPoint}
use Rattle.meaning_reached.specs.laws.Answers.{HaveAnAnswer}
use Rattle.meaning_reached.proofs.Reaching.{numbers_below, below_in}
use Rattle.meaning_reached.proofs.Entries.{all_entries}
use Rattle.meaning_reached.proofs.Scans.{answered}

pub walks_have_an_answer : {S : Type 0} (steps : S → List Step) (next : S → List S) (start : S) (all : List S) → IsIn start all
    → ((place : S) → IsIn place all → (other : S) → IsIn other (next place) → IsIn other all)
    → ((place : S) → IsIn place all → BeginsWithPoint (steps place)) → HaveAnAnswer (IsPath steps next start)
walks_have_an_answer steps next start all begun closed with_points key begin leaves =
    let (entries, tell) = all_entries steps next start all begun closed key begin with_points in
    answered (IsPath steps next start) key begin leaves entries tell

-- the blocks of a graph; block 0 is among them in an empty one too
pub graph_has_an_answer : (graph : List BasicBlock) → IsClosed graph → EachBeginsWithPoint graph → HaveAnAnswer (IsPathOf graph)
graph_has_an_answer graph closed with_points =
    walks_have_an_answer (steps_at graph) (successors_at graph) 0 (numbers_below (suc (length graph))) (below_in (suc (length graph)) 0 (omega arith))
    (λ block there other behind. below_in (suc (length graph)) other (omega (arith, closed block other behind))) (λ block there. with_points block)
