-- Trees in the middle of lines, and the places at which they stand.
use Rattle.std.specs.Prelude.{◌≡◌, ℕ, ◌+◌, ◌-◌, List, ◌++◌, take, drop, length}
use Rattle.node_table.specs.Views.{places_of}
use Rattle.tree_model.specs.Forest.{Forest, tree, Line, count, lines, read_trees}
use Rattle.tree_model.specs.Labels.{Label}
use Rattle.tree_model.specs.Nodes.{root_nodes_from}

-- the lines from one place up to another are those of trees
pub record AreTreesBetween (ls : List (Line Label)) (at end : ℕ) : Type 0 where
  pub trees : Forest Label
  pub before : List (Line Label)
  pub dist : ℕ
  pub behind : List (Line Label)
  pub are : ls ≡ before ++ (lines dist trees ++ behind)
  pub starts : length before ≡ at
  pub ends : at + count trees ≡ end

-- what the lines there say
abbrev pub trees_between : List (Line Label) → ℕ → ℕ → Forest Label
trees_between ls at end = read_trees (end - at) (take (end - at) (drop at ls))

-- the places of these trees, without the nodes below them
abbrev pub roots_between : List (Line Label) → ℕ → ℕ → List ℕ
roots_between ls at end = places_of (root_nodes_from at (trees_between ls at end))

-- the first of the trees has this line, and the others begin behind it
pub record Turn (ls : List (Line Label)) (at end : ℕ) (line : Line Label) : Type 0 where
  pub attrs : List Label
  pub kids : Forest Label
  pub size : line.size ≡ 1 + length attrs + count kids
  pub trees : trees_between ls at end ≡ tree line.label attrs kids (trees_between ls (at + line.size) end)
  pub others : AreTreesBetween ls (at + line.size) end
