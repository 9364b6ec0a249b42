-- The axes between the nodes of trees, node tests, and paths (XPath 2.0, section 3.2). An axis is told by membership: whether one node
-- is on the axis of another.
use Rattle.std.specs.Prelude.{ℕ, ◌+◌, Bool, true, false, not, ◌&&◌, ◌||◌, nat_eq, nat_lt, List, [], ◌∷◌, ◌++◌, length, filter, reverse, Option, Some, None, if◌then◌else◌}
use Rattle.std.specs.List.{flat_map, list_any}
use Rattle.std.specs.Str.{bytes_eq}
use Rattle.tree_model.specs.Forest.{Forest}
use Rattle.tree_model.specs.Labels.{Label}
use Rattle.tree_model.specs.Nodes.{Node, attr_nodes, nodes_from, nodes, root_nodes, children, is_among, in_document_order}
use Rattle.tree_model.specs.Sound.{is_doc, is_elem, is_text, is_attr, is_comm, is_pi}
use Rattle.tree_model.specs.declared.axis.Axis.{Axis}
use Rattle.tree_model.specs.declared.axis.Axis.TheVariants.{Child, Descendant, Attribute, Slf, DescendantOrSelf, FollowingSibling, Following, Parent, Ancestor, PrecedingSibling, Preceding, AncestorOrSelf}
use Rattle.tree_model.specs.declared.axis.Test.{Test}
use Rattle.tree_model.specs.declared.axis.Test.TheVariants as test
use Rattle.tree_model.specs.declared.axis.AxisStep.{AxisStep}
use Rattle.tree_model.specs.declared.text.Name.{Name}

-- ---- nodes about a node

abbrev pub attributes : {A : Type 0} → Node A → List (Node A)
attributes node = attr_nodes (node.place + 1) node.attrs

-- all nodes below it: the walk of its children
abbrev pub below : {A : Type 0} → Node A → List (Node A)
below node = nodes_from (node.place + (1 + length node.attrs)) node.kids

-- itself, its attributes, and what is below it
abbrev pub subtree : {A : Type 0} → Node A → List (Node A)
subtree node = node ∷ (attributes node ++ below node)

-- whether a node stands in a subtree and isn't its root
unfoldable pub is_inside : {A : Type 0} → Node A → Node A → Bool
is_inside root node = is_among (attributes root ++ below root) node

-- whether a node is the parent of another: it has it among its children or its attributes
unfoldable pub is_parent : {A : Type 0} → Node A → Node A → Bool
is_parent parent node = is_among (attributes parent ++ children parent) node

-- whether two nodes are children of one node
unfoldable pub are_siblings : {A : Type 0} → Forest A → Node A → Node A → Bool
are_siblings f a b = list_any (λ parent. is_among (children parent) a && is_among (children parent) b) (nodes f)

-- whether two nodes stand in one tree
unfoldable pub are_together : {A : Type 0} → Forest A → Node A → Node A → Bool
are_together f a b = list_any (λ root. is_among (subtree root) a && is_among (subtree root) b) (root_nodes f)

abbrev pub comes_before : {A : Type 0} → Node A → Node A → Bool
comes_before a b = nat_lt a.place b.place

abbrev pub is_same : {A : Type 0} → Node A → Node A → Bool
is_same a b = nat_eq a.place b.place

-- ---- the axes (section 3.2.1.1)

-- whether a node is on the axis of a context node. Attributes are on the attribute axis alone and where they are the context itself
abbrev pub is_on : Forest Label → Axis → Node Label → Node Label → Bool
is_on f Child context node = is_among (children context) node
is_on f Descendant context node = is_among (below context) node && not (is_attr node.label)
is_on f Attribute context node = is_among (attributes context) node
is_on f Slf context node = is_same context node
is_on f DescendantOrSelf context node = is_same context node || (is_among (below context) node && not (is_attr node.label))
is_on f FollowingSibling context node = comes_before context node && are_siblings f context node
is_on f Following context node = comes_before context node && not (is_inside context node) && are_together f context node && not (is_attr node.label)
is_on f Parent context node = is_parent node context
is_on f Ancestor context node = is_inside node context
is_on f PrecedingSibling context node = comes_before node context && are_siblings f context node
is_on f Preceding context node = comes_before node context && not (is_inside node context) && are_together f context node && not (is_attr node.label)
is_on f AncestorOrSelf context node = is_same context node || is_inside node context

-- whether an axis goes backwards
abbrev pub is_reverse : Axis → Bool
is_reverse Child = false
is_reverse Descendant = false
is_reverse Attribute = false
is_reverse Slf = false
is_reverse DescendantOrSelf = false
is_reverse FollowingSibling = false
is_reverse Following = false
is_reverse Parent = true
is_reverse Ancestor = true
is_reverse PrecedingSibling = true
is_reverse Preceding = true
is_reverse AncestorOrSelf = true

-- ---- node tests (section 3.2.1.2)

-- whether a text is the one that is asked for, if one is
abbrev pub is_asked : Option (List ℕ) → List ℕ → Bool
is_asked None text = true
is_asked (Some wanted) text = bytes_eq text wanted

abbrev pub has_name : Option (List ℕ) → Option (List ℕ) → Name → Bool
has_name uri local name = is_asked uri name.uri && is_asked local name.local

-- the kind of node that a name test alone asks for
abbrev pub is_principal : Axis → Label → Bool
is_principal Child label = is_elem label
is_principal Descendant label = is_elem label
is_principal Attribute label = is_attr label
is_principal Slf label = is_elem label
is_principal DescendantOrSelf label = is_elem label
is_principal FollowingSibling label = is_elem label
is_principal Following label = is_elem label
is_principal Parent label = is_elem label
is_principal Ancestor label = is_elem label
is_principal PrecedingSibling label = is_elem label
is_principal Preceding label = is_elem label
is_principal AncestorOrSelf label = is_elem label

abbrev pub passes : Axis → Test → Label → Bool
passes axis test.Node label = true
passes axis test.Text label = is_text label
passes axis test.Comment label = is_comm label
passes axis test.Document label = is_doc label
passes axis (test.Pi target) label = is_pi label && is_asked target label.name.local
passes axis (test.Principal uri local) label = is_principal axis label && has_name uri local label.name
passes axis (test.Element uri local) label = is_elem label && has_name uri local label.name
passes axis (test.Attribute uri local) label = is_attr label && has_name uri local label.name

-- ---- steps and paths (section 3.2)

-- in the axis's own order
abbrev pub directed : {A : Type 0} → Axis → List A → List A
directed axis found = if is_reverse axis then reverse found else found

-- the nodes of an axis that pass
abbrev pub axis_nodes : Forest Label → Axis → Test → Node Label → List (Node Label)
axis_nodes f axis test context = directed axis (filter (λ (node : Node Label). is_on f axis context node && passes axis test node.label) (nodes f))

-- what a step gives from each of the nodes
abbrev pub step_from : Forest Label → AxisStep → List (Node Label) → List (Node Label)
step_from f step found = in_document_order f (flat_map (axis_nodes f step.axis step.test) found)

abbrev pub steps_from : Forest Label → List AxisStep → List (Node Label) → List (Node Label)
steps_from f [] found = found
steps_from f (step ∷ steps) found = steps_from f steps (step_from f step found)

-- a path begins with all documents: they are the context where no node is
abbrev pub path_value : Forest Label → List AxisStep → List (Node Label)
path_value f steps = steps_from f steps (root_nodes f)
