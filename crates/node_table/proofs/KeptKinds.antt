-- Trees that keep the rules of a database's documents, also while an update is applied, have their kinds in their places.
use Rattle.std.proofs.Common.{◌≡◌, Bool, true, false, not, ◌&&◌, ◌||◌, List, [], ◌∷◌, map, refl}
use Rattle.std.specs.List.{list_all}
use Rattle.std.proofs.lemmas.Bool.{and_parts, and_from, not-true, not_from_false, or_parts}
use Rattle.tree_model.specs.Forest.{Forest, none, tree}
use Rattle.tree_model.specs.Labels.{Label}
use Rattle.tree_model.specs.Sound.{AllRoots, Kept, fits, bears, is_doc, is_elem, is_attr}
use Rattle.node_table.specs.Views.{is_no_attr, HasKinds}

marked : (label : Label) (attrs : List Label) → bears label attrs ≡ true → list_all is_attr attrs ≡ true
marked label [] h = refl
marked label (a ∷ attrs) h = (and_parts (is_elem label) (list_all is_attr (a ∷ attrs)) h).1

plain : (parent : Label) (kids : Forest Label) → AllRoots (fits parent) kids → AllRoots is_no_attr kids
plain parent none h = tt
plain parent (tree label attrs kids rest) h =
    let child = (and_parts (is_doc parent || is_elem parent) (not (is_doc label || is_attr label)) h.0).1 in
    let apart = or_parts (is_doc label) (is_attr label) (not-true _ child) in
    (not_from_false _ apart.1, plain parent rest h.1)

-- of trees that are loose
pub kept_kinds : (f : Forest Label) → Kept fits bears f → HasKinds f
kept_kinds none h = tt
kept_kinds (tree label attrs kids rest) h = (marked label attrs h.0, plain label kids h.1, kept_kinds kids h.2, kept_kinds rest h.3)
