-- The lines of functions, node by node.
use Rattle.std.proofs.Common.{◌≡◌, ℕ, suc, false, List, [], ◌++◌, codes, refl, sym, ap, subst, ◌∙◌, append_assoc, append-nil}
use Rattle.vocabulary.specs.declared.node_kind.NodeKind.{NodeKind}
use Rattle.vocabulary.specs.declared.node_kind.NodeKind.TheVariants as kinds
use Rattle.meaning_paths.specs.Graphs.{BasicBlock}
use Rattle.meaning_control.specs.Nodes.{JudgedUnit}
use Rattle.meaning_contexts.specs.Failures.{declarator_of, sums_of, sums_or_none}
use Rattle.control_flow.specs.declared.note.ContextNote.{ContextNote}
use Rattle.linear_code.specs.Known.{note_of}
use Rattle.control_flow.specs.Shown.{shown_line}
use Rattle.ksparse.specs.Kinds.{is_function_definition}
use Rattle.unit_commands.specs.Appending.{AppendsOne}
use Rattle.unit_commands.specs.FlowLines.{AreLinesBefore, HasItsPaths, IsFunctionLine, IsLineOfKind, IsLineAt}

-- by its declarator, the note of which has its sums
pub function_appended :
    (unit : JudgedUnit) (function declarator : ℕ) (note : ContextNote) (graph : List BasicBlock) (old between new : List ℕ)
    → HasItsPaths unit function graph → declarator ≡ declarator_of unit.nodes function → note ≡ note_of (sums_or_none (unit.contexts declarator))
    → between ≡ old ++ shown_line graph note → new ≡ between ++ codes "\n" → AppendsOne (IsFunctionLine unit function) old new
function_appended unit function declarator note graph old between new paths at noted shown ended =
    let sums : ContextNote = note_of (sums_of unit function) in
    let same : note ≡ sums = noted ∙ ap (λ (handle : ℕ). note_of (sums_or_none (unit.contexts handle))) at in (
      shown_line graph sums ++ codes "\n",
      (graph, paths, refl),
      ended ∙ ap (λ (text : List ℕ). text ++ codes "\n") (shown ∙ ap (λ (now : ContextNote). old ++ shown_line graph now) same)
          ∙ append_assoc old (shown_line graph sums) (codes "\n"),
    )

-- a node that is a function
pub at_function :
    (unit : JudgedUnit) (handle : ℕ) (kind : NodeKind) (old new : List ℕ) → kind ≡ kinds.FunctionDefinition
    → AppendsOne (IsFunctionLine unit handle) old new → AppendsOne (IsLineOfKind unit handle kind) old new
at_function unit handle kind old new is appended =
    subst (λ (now : NodeKind). AppendsOne (IsLineOfKind unit handle now) old new) (sym is) appended

no_line : (unit : JudgedUnit) (handle : ℕ) (kind : NodeKind) → is_function_definition kind ≡ false → IsLineOfKind unit handle kind []
no_line unit handle kinds.FunctionDefinition is = absurd (cc is)
no_line unit handle kind is = refl

-- any other one
pub at_another :
    (unit : JudgedUnit) (handle : ℕ) (kind : NodeKind) (text : List ℕ) → is_function_definition kind ≡ false
    → AppendsOne (IsLineOfKind unit handle kind) text text
at_another unit handle kind text is = ([], no_line unit handle kind is, sym (append-nil text))

-- one node more
pub lines_more :
    (unit : JudgedUnit) (count next : ℕ) (old new : List ℕ) → next ≡ suc count → AreLinesBefore unit count old
    → AppendsOne (IsLineAt unit count) old new → AreLinesBefore unit next new
lines_more unit count next old new one are appended = subst (λ (now : ℕ). AreLinesBefore unit now new) (sym one) (old, are, appended)
