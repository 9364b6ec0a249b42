-- The rows of a table stay as they are while a pool takes a name.
use Rattle.std.proofs.Common.{◌≡◌, ◌⊎◌, inl, inr, ℕ, ◌<◌, Bool, true, false, List, [], ◌∷◌, ◌++◌, length, refl, sym, ap, ◌∙◌, subst, if◌then◌else◌}
use Rattle.std.specs.List.{list_any}
use Rattle.tree_model.specs.Rows.{name_at, lines_of, ArePlaced}
use Rattle.tree_model.specs.declared.row.Row.{Row}
use Rattle.tree_model.specs.declared.text.Name.{Name}
use Rattle.tree_model.proofs.Tables.{name_kept, lines_named, placed_named}
use Rattle.name_pool.specs.Names.{are_equal_names, with_name}

-- the names are the same, or one more stands behind them
pub with_name_cases : (names : List Name) (name : Name) → (with_name names name ≡ names) ⊎ (with_name names name ≡ names ++ name ∷ [])
unfolding with_name
with_name_cases names name = by (list_any (are_equal_names name) names)
  where
    by : (b : Bool) → ((if b then names else names ++ name ∷ []) ≡ names) ⊎ ((if b then names else names ++ name ∷ []) ≡ names ++ name ∷ [])
    by true = inl refl
    by false = inr refl

-- a name that isn't among them goes last
pub with_name_new : (names : List Name) (name : Name) → list_any (are_equal_names name) names ≡ false → with_name names name ≡ names ++ name ∷ []
unfolding with_name
with_name_new names name misses = ap (λ b. if b then names else names ++ name ∷ []) misses

-- each of the others keeps its number
pub number_kept : (names : List Name) (name : Name) (n : ℕ) → n < length names → name_at (with_name names name) n ≡ name_at names n
number_kept names name n lt = by (with_name_cases names name)
  where
    by : (with_name names name ≡ names) ⊎ (with_name names name ≡ names ++ name ∷ []) → name_at (with_name names name) n ≡ name_at names n
    by (inl e) = ap (λ l. name_at l n) e
    by (inr e) = ap (λ l. name_at l n) e ∙ name_kept names (name ∷ []) n lt

pub lines_interned : (names : List Name) (name : Name) (values : List ℕ) (rows : List Row) → ArePlaced names values rows → lines_of (with_name names name) values rows ≡ lines_of names values rows
lines_interned names name values rows placed = by (with_name_cases names name)
  where
    by : (with_name names name ≡ names) ⊎ (with_name names name ≡ names ++ name ∷ []) → lines_of (with_name names name) values rows ≡ lines_of names values rows
    by (inl e) = ap (λ l. lines_of l values rows) e
    by (inr e) = ap (λ l. lines_of l values rows) e ∙ lines_named names (name ∷ []) values rows placed

pub placed_interned : (names : List Name) (name : Name) (values : List ℕ) (rows : List Row) → ArePlaced names values rows → ArePlaced (with_name names name) values rows
placed_interned names name values rows placed = by (with_name_cases names name)
  where
    by : (with_name names name ≡ names) ⊎ (with_name names name ≡ names ++ name ∷ []) → ArePlaced (with_name names name) values rows
    by (inl e) = subst (λ l. ArePlaced l values rows) (sym e) placed
    by (inr e) = subst (λ l. ArePlaced l values rows) (sym e) (placed_named names (name ∷ []) values rows placed)
