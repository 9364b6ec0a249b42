-- One step of the walks forwards.
use Rattle.std.proofs.Common.{◌≡◌, ℕ, ◌+◌, ◌-◌, ◌<◌, ◌≤◌, List, length, true, false, ap, sym, ◌∙◌, inl, inr, arith}
use Rattle.std.proofs.lemmas.Bool.{false≢true, cases_lt, cases_eq}
use Rattle.node_table.specs.Laid.{IsLaid, row_at, dist_at, size_at, is_attr_at, up}
use Rattle.axis_cursor.specs.RowAxes.{root_of}
use Rattle.axis_cursor.specs.Walks.{IsFirst, is_child_of, is_node_beside, IsAtTree, IsBeside}
use Rattle.axis_cursor.proofs.Relations.{child_is, no_child, beside_is, not_beside}
use Rattle.axis_cursor.proofs.Roots.{root_le, root_same, root_from}
use Rattle.tree_model.specs.declared.row.Row.{Row}

module _ (rows : List Row) (laid : IsLaid rows) where
  pub least_size : (p : ℕ) → p < length rows → 1 ≤ size_at rows p
  least_size p within =
      let sizes = laid.sizes p within in
      omega (arith, sizes.0, sizes.1)

  -- a node ends where its parent ends, or before
  pub ends_in : (q p : ℕ) → p < length rows → 0 < dist_at rows p → p ≡ q + dist_at rows p → (p < q + size_at rows q) × (p + size_at rows p ≤ q + size_at rows q)
  ends_in q p within below parent =
      let e : up rows p ≡ q = omega arith in
      rw e at (laid.ends p within below)

  pub within_tree : (q at end : ℕ) → IsAtTree rows q at end → at < end → at + size_at rows at ≤ end
  within_tree q at end tree more =
      let child = tree.child more in
      let fits : q + size_at rows q ≤ length rows = (laid.sizes q tree.parent).2 in
      let ends : at + size_at rows at ≤ q + size_at rows q = (ends_in q at (omega arith) child.0 child.1).1 in
      omega arith

  -- no child of a node stands inside another
  pub none_inside : (q at k : ℕ) → at < length rows → q < at → at < k → k < at + size_at rows at → is_child_of rows q k ≡ false
  none_inside q at k within behind low high =
      let inside : at ≤ up rows k = (laid.inside at k within low high).1 in
      no_child rows q k (λ child. let parent : k ≡ q + dist_at rows k = child.parent in omega arith)

  pub first_tree : (q at end : ℕ) (row : Row) → IsAtTree rows q at end → at < end → row ≡ row_at rows at → IsFirst rows (is_child_of rows q) at (at + row.size) (at, row) × (at + row.size ≤ end)
  first_tree q at end row tree more is =
      let child = tree.child more in
      let below : 0 < dist_at rows at = child.0 in
      let parent : at ≡ q + dist_at rows at = child.1 in
      let fits : q + size_at rows q ≤ length rows = (laid.sizes q tree.parent).2 in
      let whole = within_tree q at end tree more in
      let inside : at < length rows = omega arith in
      let least = least_size at inside in
      let size : row.size ≡ size_at rows at = ap (λ (r : Row). r.size) is in (
        record {
          own = record { within = inside; row = is };
          from = omega arith;
          behind = omega arith;
          here = child_is rows q at below parent child.2;
          others = λ k low high other. none_inside q at k inside (omega arith) (omega arith) (omega arith);
        },
        omega arith,
      )

  pub next_tree_at : (q at end : ℕ) (row : Row) → IsAtTree rows q at end → at < end → row ≡ row_at rows at → IsAtTree rows q (at + row.size) end
  next_tree_at q at end row tree more is =
      let child = tree.child more in
      let below : 0 < dist_at rows at = child.0 in
      let parent : at ≡ q + dist_at rows at = child.1 in
      let fits : q + size_at rows q ≤ length rows = (laid.sizes q tree.parent).2 in
      let whole = within_tree q at end tree more in
      let inside : at < length rows = omega arith in
      let size : row.size ≡ size_at rows at = ap (λ (r : Row). r.size) is in
      let above : up rows at ≡ q = omega arith in
      let end_is : end ≡ q + size_at rows q = tree.end_is in
      record {
        parent = tree.parent;
        end_is = tree.end_is;
        before = omega arith;
        child = λ still.
            let next = rw above at (laid.next at inside below child.2) in
            let here : at + size_at rows at ≡ at + row.size = omega arith in
            let both = rw here at (next (omega arith)) in
            (omega (arith, both.0), omega (arith, both.0), both.1);
      }

-- ---- behind a subtree

module _ (rows : List Row) where
  pub tree_begins : (c k : ℕ) → IsBeside rows c k → root_of rows (k - 1) ≡ root_of rows c
  tree_begins c k beside = let behind : c < k = beside.behind in root_same rows c (k - 1) (omega arith) (λ j low high. beside.no_root j low (omega arith))

  -- no root up to a place: it stands in the same tree
  pub same_tree : (c at p : ℕ) → IsBeside rows c at → at ≤ p → ((k : ℕ) → at ≤ k → k ≤ p → 0 < dist_at rows k) → root_of rows c ≡ root_of rows p
  same_tree c at p beside order none =
      let behind : c < at = beside.behind in
      sym (root_same rows c p (omega arith) (λ k low high. elim (cases_lt k at) [ inl before ↦ beside.no_root k low before | inr after ↦ none k after high ]))

  -- a root begins another tree
  pub other_tree : (c r k : ℕ) → c < r → dist_at rows r ≡ 0 → r ≤ k → is_node_beside rows c k ≡ false
  other_tree c r k behind root order =
      not_beside rows c k (λ beside.
      let same : root_of rows c ≡ root_of rows k = beside.root in
      let low : root_of rows c ≤ c = root_le rows c in
      let high : r ≤ root_of rows k = root_from rows r k root order in
      omega arith)

  pub attribute_apart : (c k : ℕ) → is_attr_at rows k ≡ true → is_node_beside rows c k ≡ false
  attribute_apart c k kind = not_beside rows c k (λ beside. false≢true (sym beside.kind ∙ kind))

  pub after_done : (c from at : ℕ) → IsBeside rows c at → ((k : ℕ) → from ≤ k → k < at → is_node_beside rows c k ≡ false) → dist_at rows at ≡ 0
      → (k : ℕ) → from ≤ k → k < length rows → is_node_beside rows c k ≡ false
  after_done c from at beside passed root k low high =
      elim (cases_lt k at) [ inl before ↦ passed k low before | inr after ↦ other_tree c at k beside.behind root after ]

  pub after_found : (c from at : ℕ) (row : Row) → IsBeside rows c at → ((k : ℕ) → from ≤ k → k < at → is_node_beside rows c k ≡ false) → from ≤ at → at < length rows
      → row ≡ row_at rows at → (row.dist ≡ 0 → ⊥) → is_attr_at rows at ≡ false → IsFirst rows (is_node_beside rows c) from (at + 1) (at, row) × (at + 1 ≤ length rows)
  after_found c from at row beside passed order within is below kind =
      let dist : row.dist ≡ dist_at rows at = ap (λ (r : Row). r.dist) is in
      let far : 0 < dist_at rows at = elim (cases_eq (dist_at rows at) 0) [ inl e ↦ absurd (below (dist ∙ e)) | inr apart ↦ omega arith ] in (
        record {
          own = record { within = within; row = is };
          from = order;
          behind = omega arith;
          here = beside_is rows c at (same_tree c at at beside (omega arith) (λ k low high. let e : at ≡ k = omega arith in rw e at far)) kind;
          others = λ k low high other. passed k low (let apart : k ≡ at → ⊥ = other in omega arith);
        },
        omega arith,
      )
