-- Steps that are taken together.
use Rattle.std.specs.Prelude.{◌≡◌, List, [], ◌∷◌}
use Rattle.std.specs.List.{All, Contains}
use Rattle.node_table.specs.Views.{HasKinds}
use Rattle.tree_model.specs.Axes.{steps_from}
use Rattle.tree_model.specs.Forest.{Forest}
use Rattle.tree_model.specs.Labels.{Label}
use Rattle.tree_model.specs.Nodes.{Node, nodes}
use Rattle.tree_model.specs.declared.axis.Axis.TheVariants.{Child, Descendant, DescendantOrSelf}
use Rattle.tree_model.specs.declared.axis.AxisStep.{AxisStep}
use Rattle.tree_model.specs.declared.axis.Test.{Test}
use Rattle.tree_model.specs.declared.axis.Test.TheVariants as tests

-- the step of `//`, to nodes themselves and to all below them
abbrev pub to_all : AxisStep
to_all = record { axis = DescendantOrSelf; test = tests.Node }

abbrev pub to_children : Test → AxisStep
to_children test = record { axis = Child; test = test }

abbrev pub to_descendants : Test → AxisStep
to_descendants test = record { axis = Descendant; test = test }

-- from nodes of trees, `//` and a step to children lead where one step to descendants does
abbrev pub ChildrenOfAllAreDescendants : Type 0
ChildrenOfAllAreDescendants =
    (f : Forest Label) (test : Test) (found : List (Node Label)) → HasKinds f → All (Contains (nodes f)) found
    → steps_from f (to_all ∷ (to_children test ∷ [])) found ≡ steps_from f (to_descendants test ∷ []) found
