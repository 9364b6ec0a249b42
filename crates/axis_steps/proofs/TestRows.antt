-- Rows that stand for trees since they are those of a forest, and the rows of the tests.
use Rattle.std.proofs.Common.{◌≡◌, ℕ, zero, suc, ◌+◌, ◌*◌, ◌-◌, ◌<◌, Bool, true, List, [], ◌∷◌, ◌++◌, length, refl, sym, ap, ◌∙◌, subst, arith, append-nil, append_assoc}
use Rattle.std.specs.List.{list_all}
use Rattle.node_table.specs.Views.{view_of, is_no_attr, HasKinds, KeepsTrees}
use Rattle.axis_cursor.proofs.Named.{is_placed, keeps_by_test}
use Rattle.tree_model.specs.Sound.{AllRoots}
use Rattle.tree_model.specs.Forest.{Forest, none, tree, count, Line, lines, flatten}
use Rattle.tree_model.specs.Labels.{Label}
use Rattle.tree_model.specs.Rows.{label_of, lines_of}
use Rattle.tree_model.specs.Trees.{is_flat, grove_is}
use Rattle.tree_model.specs.declared.row.Kind.{Kind}
use Rattle.tree_model.specs.declared.row.Kind.TheVariants.{Doc, Elem, Comm}
use Rattle.tree_model.specs.declared.row.Row.{Row}
use Rattle.tree_model.specs.declared.text.Name.{Name}

abbrev pub is_row : ℕ → Row → Bool
is_row names row = is_placed names 0 row

pub stands : (names : List Name) (rows : List Row) (f : Forest Label) → lines_of names [] rows ≡ flatten f → HasKinds f → list_all (is_row (length names)) rows ≡ true → KeepsTrees (view_of rows names [])
stands names rows f e kinds placed = keeps_by_test rows names [] (is_flat _ f e) placed (subst HasKinds (sym (grove_is _ f e)) kinds)

-- a row without attributes and value
abbrev pub row : Kind → ℕ → ℕ → ℕ → Row
row kind name dist size = record { kind = kind; name = name; dist = dist; size = size; asize = 1; id = 0; val = record { at = 0; len = 0 } }

abbrev pub leaf : Row
leaf = row Elem 3 1 1

-- elements in one another, each with a leaf in it before the next
abbrev pub chain : ℕ → List Row
chain zero = []
chain (suc n) = row Elem 1 2 (2 * suc n) ∷ (leaf ∷ chain n)

abbrev pub nested_rows : ℕ → List Row
nested_rows n = row Doc 0 0 (2 * n + 2) ∷ (row Comm 0 1 1 ∷ chain n)

-- elements beside one another, the first at a distance, each with a leaf in it
abbrev pub pairs : ℕ → ℕ → List Row
pairs d zero = []
pairs d (suc n) = row Elem 3 d 2 ∷ (leaf ∷ pairs (d + 2) n)

abbrev pub flat_rows : ℕ → List Row
flat_rows n = row Doc 0 0 (2 * n + 2) ∷ (row Elem 1 1 (2 * n + 1) ∷ pairs 1 n)

pub chain_step : (n : ℕ) → 0 < n → chain n ≡ row Elem 1 2 (2 * n) ∷ (leaf ∷ chain (n - 1))
chain_step zero h = absurd (omega (arith, h))
chain_step (suc n) h = ap (λ k. row Elem 1 2 (2 * suc n) ∷ (leaf ∷ chain k)) (omega arith)

pub pairs_step : (d e n : ℕ) → 0 < n → e ≡ d + 2 → pairs d n ≡ row Elem 3 d 2 ∷ (leaf ∷ pairs e (n - 1))
pairs_step d e zero h next = absurd (omega (arith, h))
pairs_step d e (suc n) h next =
    ap (λ k. row Elem 3 d 2 ∷ (leaf ∷ pairs (d + 2) k)) (omega arith) ∙ ap (λ k. row Elem 3 d 2 ∷ (leaf ∷ pairs k (suc n - 1))) (sym next)

-- two rows are pushed of those that are still to come
pub push_two : (xs rest more all : List Row) (a b : Row) → rest ≡ a ∷ (b ∷ more) → xs ++ rest ≡ all → ((xs ++ a ∷ []) ++ b ∷ []) ++ more ≡ all
push_two xs rest more all a b e h = append_assoc (xs ++ a ∷ []) (b ∷ []) more ∙ append_assoc xs (a ∷ []) (b ∷ more) ∙ ap (λ ls. xs ++ ls) (sym e) ∙ h

-- nothing is to come any more
pub all_pushed : (xs all : List Row) (rest : ℕ → List Row) (k : ℕ) → rest 0 ≡ [] → k ≡ 0 → xs ++ rest k ≡ all → xs ≡ all
all_pushed xs all rest k none_left zero_left h = sym (append-nil xs) ∙ ap (λ ls. xs ++ ls) (sym none_left ∙ ap rest (sym zero_left)) ∙ h

module _ (names : List Name) where
  abbrev label : Kind → ℕ → Label
  label kind name = label_of names [] (row kind name 0 0)

  abbrev chain_trees : ℕ → Forest Label
  chain_trees zero = none
  chain_trees (suc n) = tree (label Elem 1) [] (tree (label Elem 3) [] none (chain_trees n)) none

  abbrev pair_trees : ℕ → Forest Label
  pair_trees zero = none
  pair_trees (suc n) = tree (label Elem 3) [] (tree (label Elem 3) [] none none) (pair_trees n)

  abbrev line : Kind → ℕ → ℕ → ℕ → Line Label
  line kind name dist size = record { label = label kind name; dist = dist; size = size; asize = 1 }

  chain_count : (n : ℕ) → count (chain_trees n) ≡ 2 * n
  chain_count zero = refl
  chain_count (suc n) = omega (arith, chain_count n)

  pair_count : (n : ℕ) → count (pair_trees n) ≡ 2 * n
  pair_count zero = refl
  pair_count (suc n) = omega (arith, pair_count n)

  chain_lines : (n : ℕ) → lines_of names [] (chain n) ≡ lines 2 (chain_trees n)
  chain_lines zero = refl
  chain_lines (suc n) =
      let size : 2 * suc n ≡ 1 + 0 + (1 + 0 + 0 + count (chain_trees n)) = omega (arith, chain_count n) in
      ap (λ k. line Elem 1 2 k ∷ (line Elem 3 1 1 ∷ lines_of names [] (chain n))) size
      ∙ ap (λ ls. line Elem 1 2 (1 + 0 + (1 + 0 + 0 + count (chain_trees n))) ∷ (line Elem 3 1 1 ∷ ls)) (chain_lines n ∙ sym (append-nil (lines 2 (chain_trees n))))

  pair_lines : (d n : ℕ) → lines_of names [] (pairs (suc d) n) ≡ lines (suc d) (pair_trees n)
  pair_lines d zero = refl
  pair_lines d (suc n) =
      let next : suc d + 2 ≡ suc (d + 2) = omega arith in
      ap (λ ls. line Elem 3 (suc d) 2 ∷ (line Elem 3 1 1 ∷ ls)) (ap (λ e. lines_of names [] (pairs e n)) next ∙ pair_lines (d + 2) n)

  chain_plain : (n : ℕ) → AllRoots is_no_attr (chain_trees n)
  chain_plain zero = tt
  chain_plain (suc n) = (refl, tt)

  chain_kinds : (n : ℕ) → HasKinds (chain_trees n)
  chain_kinds zero = tt
  chain_kinds (suc n) = (refl, (refl, chain_plain n), (refl, tt, tt, chain_kinds n), tt)

  pair_plain : (n : ℕ) → AllRoots is_no_attr (pair_trees n)
  pair_plain zero = tt
  pair_plain (suc n) = (refl, pair_plain n)

  pair_kinds : (n : ℕ) → HasKinds (pair_trees n)
  pair_kinds zero = tt
  pair_kinds (suc n) = (refl, (refl, tt), (refl, tt, tt, tt), pair_kinds n)

  chain_placed : (n : ℕ) → list_all (is_row 6) (chain n) ≡ true
  chain_placed zero = refl
  chain_placed (suc n) = chain_placed n

  pairs_placed : (d n : ℕ) → list_all (is_row 6) (pairs d n) ≡ true
  pairs_placed d zero = refl
  pairs_placed d (suc n) = pairs_placed (d + 2) n

  module _ (h : length names ≡ 6) where
    pub nested_stands : (n : ℕ) → KeepsTrees (view_of (nested_rows n) names [])
    nested_stands n =
        let size : 2 * n + 2 ≡ 1 + (1 + count (chain_trees n)) = omega (arith, chain_count n) in
        stands names (nested_rows n) (tree (label Doc 0) [] (tree (label Comm 0) [] none (chain_trees n)) none)
        (ap (λ k. line Doc 0 0 k ∷ (line Comm 0 1 1 ∷ lines_of names [] (chain n))) size
        ∙ ap (λ ls. line Doc 0 0 (1 + (1 + count (chain_trees n))) ∷ (line Comm 0 1 1 ∷ ls)) (chain_lines n ∙ sym (append-nil (lines 2 (chain_trees n)))))
        (refl, (refl, chain_plain n), (refl, tt, tt, chain_kinds n), tt)
        (subst (λ k. list_all (is_row k) (nested_rows n) ≡ true) (sym h) (chain_placed n))

    pub flat_stands : (n : ℕ) → KeepsTrees (view_of (flat_rows n) names [])
    flat_stands n =
        let inner : 2 * n + 1 ≡ 1 + 0 + count (pair_trees n) = omega (arith, pair_count n) in
        let size : 2 * n + 2 ≡ 1 + 0 + (1 + 0 + count (pair_trees n) + 0) = omega (arith, pair_count n) in
        stands names (flat_rows n) (tree (label Doc 0) [] (tree (label Elem 1) [] (pair_trees n) none) none)
        (ap (λ k. line Doc 0 0 k ∷ (line Elem 1 1 (2 * n + 1) ∷ lines_of names [] (pairs 1 n))) size
        ∙ ap (λ k. line Doc 0 0 (1 + 0 + (1 + 0 + count (pair_trees n) + 0)) ∷ (line Elem 1 1 k ∷ lines_of names [] (pairs 1 n))) inner
        ∙ ap (λ ls. line Doc 0 0 (1 + 0 + (1 + 0 + count (pair_trees n) + 0)) ∷ (line Elem 1 1 (1 + 0 + count (pair_trees n)) ∷ ls))
        (pair_lines 0 n ∙ sym (append-nil (lines 1 (pair_trees n))) ∙ sym (append-nil (lines 1 (pair_trees n) ++ []))))
        (refl, (refl, tt), (refl, pair_plain n, pair_kinds n, tt), tt)
        (subst (λ k. list_all (is_row k) (flat_rows n) ≡ true) (sym h) (pairs_placed 1 n))
