-- What fails in a function, and node by node.
use Rattle.std.proofs.Common.{◌≡◌, ℕ, suc, pos, false, true, List, [], ◌++◌, refl, sym, ap, subst, ◌∙◌}
use Rattle.vocabulary.specs.declared.node_kind.NodeKind.{NodeKind}
use Rattle.vocabulary.specs.declared.node_kind.NodeKind.TheVariants as kinds
use Rattle.meaning_operands.specs.Failures.{Failure}
use Rattle.meaning_paths.specs.ContextRules.{ContextAnswer, IsAnswer}
use Rattle.meaning_typing.specs.Units.{node_at}
use Rattle.meaning_control.specs.Functions.{IsPathOfFunction}
use Rattle.meaning_control.specs.Nodes.{JudgedUnit}
use Rattle.meaning_contexts.specs.Failures.{AreFailuresAt, AreFailuresBefore, AreFailuresByKind, AreFailuresOfFunction, declarator_of, failures_told, sums_or_none}
use Rattle.control_flow.specs.declared.note.ContextNote.{ContextNote}
use Rattle.linear_code.specs.Known.{note_of}
use Rattle.context_judge.specs.Kinds.{is_function_definition}

-- Functions

pub function-is : (kind : NodeKind) → is_function_definition kind ≡ true → kind ≡ kinds.FunctionDefinition
function-is kinds.FunctionDefinition is = refl
function-is kind is = absurd (cc is)

-- by its declarator, the note of which has its sums
pub of-function :
    (unit : JudgedUnit) (function declarator : ℕ) (note : ContextNote) (name : List ℕ) (answer : ContextAnswer) (told : List Failure)
    → declarator ≡ declarator_of unit.nodes function → note ≡ note_of (sums_or_none (unit.contexts declarator))
    → name ≡ (node_at unit.nodes declarator).name → IsAnswer (IsPathOfFunction unit function) 0 note.enters note.leaves answer
    → ((count : ℕ) → note.leaves ≡ pos count → told ≡ failures_told name count answer) → AreFailuresOfFunction unit function told
of-function unit function declarator note name answer told at noted named is all =
    let sums : ContextNote = note_of (sums_or_none (unit.contexts (declarator_of unit.nodes function))) in
    let same : note ≡ sums = noted ∙ ap (λ (handle : ℕ). note_of (sums_or_none (unit.contexts handle))) at in
    let leaves = (sums_or_none (unit.contexts (declarator_of unit.nodes function))).leaves in (
      answer,
      subst (λ (now : ContextNote). IsAnswer (IsPathOfFunction unit function) 0 now.enters now.leaves answer) same is,
      all leaves (ap (λ (now : ContextNote). now.leaves) same)
          ∙ ap (λ (now : List ℕ). failures_told now leaves answer) (named ∙ ap (λ (handle : ℕ). (node_at unit.nodes handle).name) at),
    )

-- Nodes

pub at-function : (unit : JudgedUnit) (handle : ℕ) (kind : NodeKind) (failures : List Failure) → kind ≡ kinds.FunctionDefinition
    → AreFailuresOfFunction unit handle failures → AreFailuresByKind unit handle kind failures
at-function unit handle kind failures is are = subst (λ (now : NodeKind). AreFailuresByKind unit handle now failures) (sym is) are

pub at-another : (unit : JudgedUnit) (handle : ℕ) (kind : NodeKind) → is_function_definition kind ≡ false → AreFailuresByKind unit handle kind []
at-another unit handle kinds.FunctionDefinition is = absurd (cc is)
at-another unit handle kind is = refl

-- one more
pub next-failures :
    (unit : JudgedUnit) (count next : ℕ) (before here all : List Failure) → next ≡ suc count → AreFailuresBefore unit count before
    → AreFailuresAt unit count here → all ≡ before ++ here → AreFailuresBefore unit next all
next-failures unit count next before here all one are_before are_here is =
    subst (λ (now : ℕ). AreFailuresBefore unit now all) (sym one) (before, here, are_before, are_here, is)
