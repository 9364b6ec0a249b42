-- Children that are kept for the siblings of others.
use Rattle.std.specs.Prelude.{◌≡◌, ◌⊎◌, ℕ, ◌-◌, ◌<◌, ◌≤◌, Bool, true, false, List, [], ◌∷◌, ◌++◌, length, take, Option, Some, None}
use Rattle.std.specs.List.{Contains}
use Rattle.node_table.specs.Laid.{is_attribute, up}
use Rattle.axis_cursor.specs.RowAxes.{is_child, stands_on}
use Rattle.tree_model.specs.declared.axis.Axis.{Axis}
use Rattle.tree_model.specs.declared.axis.Axis.TheVariants.{FollowingSibling, PrecedingSibling}
use Rattle.tree_model.specs.declared.row.Row.{Row}
use Rattle.axis_steps.specs.Steps.{Has, IsOnSome}
use Rattle.axis_steps.specs.declared.siblings.Child.{Child}
use Rattle.axis_steps.specs.declared.siblings.Children.{Children}

-- the axis of siblings in a direction
abbrev pub sibling_axis : Bool → Axis
sibling_axis true = FollowingSibling
sibling_axis false = PrecedingSibling

-- a row of a child, with its parent; no child where it is a root or an attribute
abbrev pub IsChildAt : ℕ → Row → Option Child → Type 0
IsChildAt place row None = (row.dist ≡ 0) ⊎ (is_attribute row.kind ≡ true)
IsChildAt place row (Some child) = ((row.dist ≡ 0 → ⊥) × (is_attribute row.kind ≡ false)) × (child ≡ record { place = place; parent = place - row.dist })

-- a child that is kept, with its parent
pub record IsKept (rows : List Row) (kept : List ℕ) (c : Child) : Type 0 where
  pub has : Has kept c.place
  pub child : is_child rows c.place ≡ true
  pub parent : up rows c.place ≡ c.parent

-- of two children of one parent the first has all siblings in a direction that the second has
pub record DoesFor (kept child : Child) (is_forward : Bool) : Type 0 where
  pub parent : kept.parent ≡ child.parent
  pub forwards : is_forward ≡ true → kept.place ≤ child.place
  pub backwards : is_forward ≡ false → child.place ≤ kept.place

-- a child was taken in, or another of those that were kept does for it
abbrev pub HasTaken : Child → Bool → Children → Children → Type 0
HasTaken child is_forward old new =
    ((new.kept.items ≡ old.kept.items) × ((k : ℕ) × (new.last.items ≡ take k old.last.items)) × ((kept : Child) × Contains old.last.items kept × DoesFor kept child is_forward))
    ⊎ ((new.kept.items ≡ old.kept.items ++ child.place ∷ []) × ((k : ℕ) × (new.last.items ≡ take k old.last.items ++ child ∷ [])))

-- c was taken in: what is kept has on its axes all that c has
pub record TakesIn (rows : List Row) (is_forward : Bool) (c : ℕ) (old new : List ℕ) : Type 0 where
  pub some : (k : ℕ) → Has new k → Has old k ⊎ (k ≡ c)
  pub stay : (k : ℕ) → Has old k → Has new k
  pub enough : (p : ℕ) → p < length rows → stands_on rows (sibling_axis is_forward) c p ≡ true → IsOnSome rows (sibling_axis is_forward) new p
