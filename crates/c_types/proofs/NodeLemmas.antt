-- Entries of nodes, where more values join those that they name.
use Rattle.std.proofs.Common.{◌≡◌, ℕ, zero, suc, ◌<◌, ◌≤◌, List, [], ◌∷◌, ◌++◌, Option, None, length, Result, Ok, Err, OnErr, refl, ap, ◌∙◌, arith, length-append}
use Rattle.std.specs.Prelude.{option_map, slice_set, unwrap_or}
use Rattle.c_types.specs.declared.nodes.NodeValue.{NodeValue}
use Rattle.c_types.specs.declared.nodes.NodeType.{NodeType}
use Rattle.c_types.specs.declared.nodes.NodeEntry.{NodeEntry}
use Rattle.c_types.specs.Nodes.{AreWithin, node_in, nodes_in}
use Rattle.c_types.specs.Table.{IsLonger}
use Rattle.c_types.proofs.Lists.{slice_get-append}

-- an entry stands for the same where more values come behind
node_in-longer : (values more : List (Option NodeValue)) (entry : NodeEntry) → entry.value < length values → node_in (values ++ more) entry ≡ node_in values entry
node_in-longer values more entry within =
    ap (λ found. option_map (λ value. record { of = entry.of; value = value }) (unwrap_or found None)) (slice_get-append values more entry.value within)

-- and so do all entries
nodes_in-more : (values more : List (Option NodeValue)) (entries : List NodeEntry) → AreWithin (length values) entries
    → nodes_in (values ++ more) entries ≡ nodes_in values entries
nodes_in-more values more [] within = refl
nodes_in-more values more (entry ∷ entries) within =
    λ i. node_in-longer values more entry within.0 i ∷ nodes_in-more values more entries within.1 i

nodes_in-longer : (values later : List (Option NodeValue)) (entries : List NodeEntry) → IsLonger values later → AreWithin (length values) entries
    → nodes_in later entries ≡ nodes_in values entries
nodes_in-longer values later entries (more, is) within = ap (λ all. nodes_in all entries) is ∙ nodes_in-more values more entries within

-- numbers below one are below a later one
AreWithin-more : (count later : ℕ) (entries : List NodeEntry) → count ≤ later → AreWithin count entries → AreWithin later entries
AreWithin-more count later [] order within = within
AreWithin-more count later (entry ∷ entries) order within =
    let first : entry.value < count = within.0 in
    (omega (arith, order, first), AreWithin-more count later entries order within.1)

pub AreWithin-longer : (values later : List (Option NodeValue)) (entries : List NodeEntry) → IsLonger values later → AreWithin (length values) entries
    → AreWithin (length later) entries
AreWithin-longer values later entries (more, is) within =
    AreWithin-more (length values) (length later) entries (omega (arith, ap length is, length-append values more)) within

-- one more
pub AreWithin-push : (count : ℕ) (entries : List NodeEntry) (entry : NodeEntry) → AreWithin count entries → entry.value < count → AreWithin count (entries ++ entry ∷ [])
AreWithin-push count [] entry within new = (new, tt)
AreWithin-push count (first ∷ entries) entry within new = (within.0, AreWithin-push count entries entry within.1 new)

pub nodes_in-push : (values : List (Option NodeValue)) (entries : List NodeEntry) (entry : NodeEntry)
    → nodes_in values (entries ++ entry ∷ []) ≡ nodes_in values entries ++ node_in values entry ∷ []
nodes_in-push values [] entry = refl
nodes_in-push values (first ∷ entries) entry = ap (λ nodes. node_in values first ∷ nodes) (nodes_in-push values entries entry)

-- another one at its place
pub AreWithin-set : (count : ℕ) (entries : List NodeEntry) (index : ℕ) (entry : NodeEntry) → AreWithin count entries → entry.value < count
    → AreWithin count (slice_set entries index entry)
AreWithin-set count [] index entry within new = within
AreWithin-set count (first ∷ entries) zero entry within new = (new, within.1)
AreWithin-set count (first ∷ entries) (suc index) entry within new = (within.0, AreWithin-set count entries index entry within.1 new)

pub nodes_in-set : (values : List (Option NodeValue)) (entries : List NodeEntry) (index : ℕ) (entry : NodeEntry)
    → nodes_in values (slice_set entries index entry) ≡ slice_set (nodes_in values entries) index (node_in values entry)
nodes_in-set values [] index entry = refl
nodes_in-set values (first ∷ entries) zero entry = refl
nodes_in-set values (first ∷ entries) (suc index) entry = ap (λ nodes. node_in values first ∷ nodes) (nodes_in-set values entries index entry)

-- What is kept of a list of nodes, where values join.
module _ (values later : List (Option NodeValue)) (entries : List NodeEntry) (longer : IsLonger values later) (within : AreWithin (length values) entries)
    (nodes : List (Option NodeType)) (seen : nodes_in values entries ≡ nodes) where
  pub kept : nodes_in later entries ≡ nodes
  kept = nodes_in-longer values later entries longer within ∙ seen

  -- so it is where a call is refused
  pub kept-refused : {T E : Type 0} (result : Result T E) → OnErr result (nodes_in later entries ≡ nodes)
  kept-refused (Ok value) = tt
  kept-refused (Err fault) = kept
