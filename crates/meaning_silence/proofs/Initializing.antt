-- Units of the first form initialize nothing.
use Rattle.std.proofs.Common.{◌≡◌, ℕ, false, List, refl, ap, ◌∙◌}
use Rattle.vocabulary.specs.declared.node_kind.NodeKind.{NodeKind}
use Rattle.vocabulary.specs.declared.node_kind.NodeKind.TheVariants as kinds
use Rattle.meaning_tree.specs.Forms.{kind_of}
use Rattle.meaning_tree.specs.Trees.{SyntaxTree, Node, Parts}
use Rattle.meaning_syntax.specs.Items.{Item}
use Rattle.meaning_typing.specs.Building.{surroundings_of}
use Rattle.meaning_typing.specs.WholeTyping.{whole_facts_of}
use Rattle.meaning_typing.proofs.Surroundings.{surroundings_are_found}
use Rattle.meaning_judgements.proofs.FactLemmas.{whole_facts_are_found}
use Rattle.meaning_first_units.proofs.Declaring.{never}
use Rattle.meaning_first_units.proofs.Named.{root}
use Rattle.meaning_first_units.proofs.Reaching.{AllFine, IsFine, reach}
use Rattle.meaning_first_units.proofs.Standing.{makes-kind}
use Rattle.meaning_silence.specs.Initializing.{is_initializing}
use Rattle.meaning_silence.specs.Laws.{FirstFormsInitializeNothing}

by-kind :
    (items : List Item) (kind : NodeKind) (token : ℕ) (name : List ℕ) (number : ℕ) (parts : Parts (List ℕ)) → IsFine items kind token name number parts
    → is_initializing kind ≡ false
by-kind items kinds.CompoundLiteral token name number parts fine = absurd (never fine.0)
by-kind items kinds.Initializer token name number parts fine = absurd (never fine.0)
by-kind items kind token name number parts fine = refl

by-tree : (items : List Item) (tree : SyntaxTree) → AllFine items tree → is_initializing (kind_of tree) ≡ false
by-tree items (Node kind token name number parts) all = by-kind items kind token name number parts all.0

pub first_forms_initialize_nothing : FirstFormsInitializeNothing
first_forms_initialize_nothing renaming nodes items unit form handle within =
    let surroundings = surroundings_of nodes in
    let top = root renaming nodes items surroundings (whole_facts_of nodes surroundings) unit form (surroundings_are_found nodes unit) (whole_facts_are_found nodes surroundings) in
    let found = reach renaming nodes items unit top handle within in
    ap is_initializing (makes-kind renaming nodes handle found.tree found.makes) ∙ by-tree items found.tree found.all
