-- What steps from many nodes lead to, and how the walks over rows reach it.
use Rattle.std.specs.Prelude.{◌≡◌, ◌⊎◌, ◌↔◌, ℕ, ◌<◌, ◌≤◌, true, false, List, [], ◌∷◌, filter, length, Option, Some, None}
use denote.Ref.{Bor}
use Rattle.std.specs.List.{All}
use Rattle.node_table.specs.Laid.{IsLaid, is_attr_at}
use Rattle.node_table.specs.Tables.{rows_in}
use Rattle.axis_cursor.specs.RowAxes.{row_places, row_passes, stands_on, is_in, root_of}
use Rattle.axis_cursor.specs.Trees.{step_places}
use Rattle.tree_model.specs.Forest.{Forest}
use Rattle.tree_model.specs.Labels.{Label}
use Rattle.tree_model.specs.declared.axis.Axis.{Axis}
use Rattle.tree_model.specs.declared.axis.Axis.TheVariants.{Child, Descendant, DescendantOrSelf, AncestorOrSelf}
use Rattle.tree_model.specs.declared.axis.Test.TheVariants.{Node}
use Rattle.tree_model.specs.declared.axis.AxisStep.{AxisStep}
use Rattle.tree_model.specs.declared.row.Row.{Row}
use Rattle.tree_model.specs.declared.text.Name.{Name}
use Rattle.axis_steps.specs.declared.trees.Step.{Step}
use Rattle.axis_steps.specs.declared.trees.Trees.{Trees}

-- the rows of trees
abbrev pub rows_of : Trees → List Row
rows_of trees = rows_in trees.pool.now trees.table.now

-- the places that steps lead to from others
abbrev pub path_places : Forest Label → List AxisStep → List ℕ → List ℕ
path_places f [] places = places
path_places f (step ∷ steps) places = path_places f steps (step_places f step.axis step.test places)

-- ---- by rows

-- the rows are laid as those of trees are, and have their names
pub record IsStanding (names : List Name) (rows : List Row) : Type 0 where
  pub laid : IsLaid rows
  pub named : All (λ (row : Row). row.name < length names) rows

-- the places of an axis that pass, in the axis's own order
abbrev pub axis_list : List Name → List Row → Step → ℕ → List ℕ
axis_list names rows step c = filter (row_passes names rows step.axis step.test.now) (row_places rows step.axis c)

-- a list has a place
abbrev pub Has : List ℕ → ℕ → Type 0
Has [] p = ⊥
Has (q ∷ places) p = (q ≡ p) ⊎ Has places p

-- p is a row that passes
pub record Passes (names : List Name) (rows : List Row) (step : Step) (p : ℕ) : Type 0 where
  pub within : p < length rows
  pub passes : row_passes names rows step.axis step.test.now p ≡ true

-- p stands on the axis of one of these
abbrev pub IsOnSome : List Row → Axis → List ℕ → ℕ → Type 0
IsOnSome rows axis places p = (c : ℕ) × Has places c × (stands_on rows axis c p ≡ true)

-- the places found are those that pass on the axis of one of these
abbrev pub HasReached : List Name → List Row → Step → List ℕ → List ℕ → Type 0
HasReached names rows step places found = (p : ℕ) → Has found p ↔ (Passes names rows step p × IsOnSome rows step.axis places p)

-- some of these nodes have on their axes all that all of them have
pub record Keeps (rows : List Row) (axis : Axis) (places kept : List ℕ) : Type 0 where
  pub some : (c : ℕ) → Has kept c → Has places c
  pub enough : (p : ℕ) → p < length rows → IsOnSome rows axis places p → IsOnSome rows axis kept p

-- ---- ancestors

-- the ancestors of c from `last` on that pass were added
abbrev pub HasClimbed : List Name → List Row → Step → ℕ → ℕ → List ℕ → List ℕ → Type 0
HasClimbed names rows step c last old new = (p : ℕ) → Has new p ↔ (Has old p ⊎ (Passes names rows step p × (is_in rows p c ≡ true) × (last ≤ p)))

-- c itself was added, where the axis has it and it passes
abbrev pub HasSelf : List Name → List Row → Step → ℕ → List ℕ → List ℕ → Type 0
HasSelf names rows step c old new = (p : ℕ) → Has new p ↔ (Has old p ⊎ (Passes names rows step p × (step.axis ≡ AncestorOrSelf) × (c ≡ p)))

-- the ancestors of these that pass, and these themselves where the axis has them
abbrev pub HasAncestors : List Name → List Row → Step → List ℕ → List ℕ → Type 0
HasAncestors names rows step places found =
    (p : ℕ) → Has found p ↔ (Passes names rows step p × ((c : ℕ) × Has places c × ((is_in rows p c ≡ true) ⊎ ((step.axis ≡ AncestorOrSelf) × (c ≡ p)))))

-- ---- descendants

-- the rows from one place up to another that pass and are no attributes were added
abbrev pub HasRows : List Name → List Row → Step → ℕ → ℕ → List ℕ → List ℕ → Type 0
HasRows names rows step from to old new = (p : ℕ) → Has new p ↔ (Has old p ⊎ (Passes names rows step p × (from ≤ p) × (p < to) × (is_attr_at rows p ≡ false)))

-- c itself was added, where the axis has it and it passes
abbrev pub HasOwn : List Name → List Row → Step → ℕ → List ℕ → List ℕ → Type 0
HasOwn names rows step c old new = (p : ℕ) → Has new p ↔ (Has old p ⊎ (Passes names rows step p × (step.axis ≡ DescendantOrSelf) × (c ≡ p)))

-- what passes on the axis of c was added
abbrev pub HasBelow : List Name → List Row → Step → ℕ → List ℕ → List ℕ → Type 0
HasBelow names rows step c old new = (p : ℕ) → Has new p ↔ (Has old p ⊎ (Passes names rows step p × (stands_on rows step.axis c p ≡ true)))

-- ---- trees

-- up to `end` all places from c on stand in c's tree
abbrev pub IsTreeEnd : List Row → ℕ → ℕ → Type 0
IsTreeEnd rows c end = (p : ℕ) → c ≤ p → p < end → root_of rows p ≡ root_of rows c

-- ---- steps taken together

-- a step leads on: the first one, or the first two taken together
abbrev pub IsFirstStep : List AxisStep → Option (Step × Bor (List AxisStep)) → Type 0
IsFirstStep steps None = steps ≡ []
IsFirstStep steps (Some first) =
    ((s : AxisStep) × (steps ≡ s ∷ first.1.now) × (s.axis ≡ first.0.axis) × (s.test ≡ first.0.test.now))
    ⊎ ((s t : AxisStep) × (steps ≡ s ∷ (t ∷ first.1.now)) × ((s.axis ≡ DescendantOrSelf) × (s.test ≡ Node)) × ((t.axis ≡ Child) × (first.0.axis ≡ Descendant)) × (t.test ≡ first.0.test.now))
