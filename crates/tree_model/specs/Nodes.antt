-- The nodes of trees, each with its place and what it has below it, and the axes between them.
use Rattle.std.specs.Prelude.{ℕ, suc, ◌+◌, Bool, nat_eq, List, [], ◌∷◌, ◌++◌, length, map, filter, Option, Some, None}
use Rattle.std.specs.List.{list_any}
use Rattle.tree_model.specs.Forest.{Forest, none, tree, count}

-- its place is its number in document order. An attribute has no attributes and no children
pub record Node (A : Type 0) : Type 0 where
  pub place : ℕ
  pub label : A
  pub attrs : List A
  pub kids : Forest A

-- attributes, the first at place n
abbrev pub attr_nodes : {A : Type 0} → ℕ → List A → List (Node A)
attr_nodes n [] = []
attr_nodes n (a ∷ attrs) = record { place = n; label = a; attrs = []; kids = none } ∷ attr_nodes (suc n) attrs

-- all nodes of trees in document order, the first at place n
abbrev pub nodes_from : {A : Type 0} → ℕ → Forest A → List (Node A)
nodes_from n none = []
nodes_from n (tree a attrs kids rest) =
    record { place = n; label = a; attrs = attrs; kids = kids }
    ∷ (attr_nodes (n + 1) attrs
    ++ (nodes_from (n + (1 + length attrs)) kids ++ nodes_from (n + (1 + length attrs + count kids)) rest))

abbrev pub nodes : {A : Type 0} → Forest A → List (Node A)
nodes f = nodes_from 0 f

-- the trees alone, without the nodes below them
abbrev pub root_nodes_from : {A : Type 0} → ℕ → Forest A → List (Node A)
root_nodes_from n none = []
root_nodes_from n (tree a attrs kids rest) =
    record { place = n; label = a; attrs = attrs; kids = kids } ∷ root_nodes_from (n + (1 + length attrs + count kids)) rest

abbrev pub root_nodes : {A : Type 0} → Forest A → List (Node A)
root_nodes f = root_nodes_from 0 f

-- the axis child (XPath 2.0, section 3.2.1.1)
abbrev pub children : {A : Type 0} → Node A → List (Node A)
children node = root_nodes_from (node.place + (1 + length node.attrs)) node.kids

abbrev pub is_among : {A : Type 0} → List (Node A) → Node A → Bool
is_among found node = list_any (λ other. nat_eq other.place node.place) found

-- whether a place is among others
abbrev pub is_place_among : List ℕ → ℕ → Bool
is_place_among places place = list_any (λ other. nat_eq other place) places

-- those nodes, in document order and each once
abbrev pub in_document_order : {A : Type 0} → Forest A → List (Node A) → List (Node A)
in_document_order f found = filter (is_among found) (nodes f)

-- the places of the parents of all nodes, in document order; roots have none (the axis parent)
abbrev pub parents_from : {A : Type 0} → Option ℕ → ℕ → Forest A → List (Option ℕ)
parents_from up n none = []
parents_from up n (tree a attrs kids rest) =
    up ∷ (map (λ x. Some n) attrs ++ (parents_from (Some n) (n + (1 + length attrs)) kids ++ parents_from up (n + (1 + length attrs + count kids)) rest))

abbrev pub parent_places : {A : Type 0} → Forest A → List (Option ℕ)
parent_places f = parents_from None 0 f
