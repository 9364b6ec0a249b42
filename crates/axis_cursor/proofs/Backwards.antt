-- One step of the walks backwards.
use Rattle.std.proofs.Common.{◌≡◌, ℕ, ◌+◌, ◌-◌, ◌<◌, ◌≤◌, List, length, Bool, true, false, ap, sym, ◌∙◌, inl, inr, arith}
use Rattle.std.specs.Prelude.{not}
use Rattle.std.proofs.lemmas.Bool.{false≢true, cases_lt, cases_eq, and_from, and_left, and_right, not_from_true, not_from_false}
use Rattle.node_table.specs.Laid.{IsLaid, row_at, dist_at, size_at, asize_at, is_attr_at, up}
use Rattle.axis_cursor.specs.RowAxes.{is_in, root_of}
use Rattle.axis_cursor.specs.Walks.{IsLast, is_child_of, is_node_beside, is_node_aside, IsAbove, IsAside, IsAtChild}
use Rattle.axis_cursor.proofs.Relations.{child_is, no_child, in_is, not_in, IsIn, beside_is, not_beside}
use Rattle.axis_cursor.proofs.Roots.{root_le, root_same, root_from}
use Rattle.axis_cursor.proofs.Forwards.{ends_in, none_inside, least_size, attribute_apart}
use Rattle.tree_model.specs.declared.row.Row.{Row}

-- on the way from the last place before a child of q up to the sibling before it
pub record IsClimbing (rows : List Row) (q at here : ℕ) : Type 0 where
  pub low : q ≤ here
  pub high : here < at
  pub whole : q < here → here + size_at rows here ≡ at
  pub only : here ≡ q → at ≡ q + 1

module _ (rows : List Row) (laid : IsLaid rows) where
  -- ---- above a node

  -- what is above c and before a node at or above c is above that node
  pub above_both : (c at k : ℕ) → c < length rows → at ≤ c → k < at → IsIn rows k c → (0 < dist_at rows at) × (k ≤ up rows at)
  above_both c at k within order before inside =
      let high : c < k + size_at rows k = inside.within in
      laid.inside k at (omega arith) before (omega arith)

  pub above_done : (c at dist : ℕ) → c < length rows → IsAbove rows c at dist → dist ≡ 0 → (k : ℕ) → k < at → is_in rows k c ≡ false
  above_done c at dist within above root k before =
      let e : dist ≡ dist_at rows at = above.dist_is in
      not_in rows k c (λ inside. let both = above_both c at k within above.before before inside in omega (arith, both.0))

  pub up_before : (p : ℕ) → p < length rows → 0 < dist_at rows p → up rows p < p
  up_before p within below = let fits = laid.dists p within in omega arith

  pub above_found : (c at dist : ℕ) (row : Row) → c < length rows → IsAbove rows c at dist → (dist ≡ 0 → ⊥) → row ≡ row_at rows (at - dist)
      → IsLast rows (λ k. is_in rows k c) at (at - dist, row)
  above_found c at dist row within above below is =
      let order : at ≤ c = above.before in
      let e : dist ≡ dist_at rows at = above.dist_is in
      let far : 0 < dist_at rows at = omega arith in
      let fits : dist_at rows at ≤ at = laid.dists at (omega arith) in
      let u : up rows at ≡ at - dist = omega arith in
      let ends = rw u at (laid.ends at (omega arith) far) in
      let whole : at + size_at rows at ≤ at - dist + size_at rows (at - dist) = ends.1 in
      let inside : c < at + size_at rows at = above.within in
      record {
        own = record { within = omega arith; row = is };
        before = omega arith;
        here = in_is rows (at - dist) c (omega arith) (omega arith);
        others = λ k low high. not_in rows k c (λ inside. let both = above_both c at k within order high inside in omega (arith, both.1));
      }

  pub above_next : (c at dist : ℕ) (row : Row) → c < length rows → IsAbove rows c at dist → (dist ≡ 0 → ⊥) → row ≡ row_at rows (at - dist)
      → IsAbove rows c (at - dist) row.dist
  above_next c at dist row within above below is =
      let found = in_last c at dist row within above below is in
      record { before = found.0; within = found.1; dist_is = ap (λ (r : Row). r.dist) is } where
        in_last : (c at dist : ℕ) (row : Row) → c < length rows → IsAbove rows c at dist → (dist ≡ 0 → ⊥) → row ≡ row_at rows (at - dist)
            → (at - dist ≤ c) × (c < at - dist + size_at rows (at - dist))
        in_last c at dist row within above below is =
            let order : at ≤ c = above.before in
            let e : dist ≡ dist_at rows at = above.dist_is in
            let far : 0 < dist_at rows at = omega arith in
            let u : up rows at ≡ at - dist = omega arith in
            let ends = rw u at (laid.ends at (omega arith) far) in
            let whole : at + size_at rows at ≤ at - dist + size_at rows (at - dist) = ends.1 in
            let inside : c < at + size_at rows at = above.within in
            (omega arith, omega arith)

  -- ---- before a node and not above it

  pub attribute_aside : (c k : ℕ) → is_attr_at rows k ≡ true → is_node_aside rows c k ≡ false
  attribute_aside c k kind = and_right (not (is_in rows k c)) (is_node_beside rows c k) (attribute_apart rows c k kind)

  pub above_aside : (c k : ℕ) → is_in rows k c ≡ true → is_node_aside rows c k ≡ false
  above_aside c k inside = and_left (not (is_in rows k c)) (is_node_beside rows c k) (not_from_true (is_in rows k c) inside)

  pub above_is : (c at above : ℕ) → IsAside rows c at above → is_in rows above c ≡ true
  above_is c at above aside =
      let behind : above < at = aside.behind in
      let order : at ≤ c = aside.before in
      in_is rows above c (omega arith) aside.within

  -- no root stands between the nearest above and c
  pub aside_tree : (c at above p : ℕ) → c < length rows → IsAside rows c at above → above < p → p < at → root_of rows c ≡ root_of rows p
  aside_tree c at above p within aside low high =
      let order : at ≤ c = aside.before in
      let wide : c < above + size_at rows above = aside.within in
      root_same rows p c (omega arith) (λ k from to. (laid.inside above k (omega arith) (omega arith) (omega arith)).0)

  pub aside_here : (c at above p : ℕ) → c < length rows → IsAside rows c at above → above < p → p < at → is_attr_at rows p ≡ false → is_node_aside rows c p ≡ true
  aside_here c at above p within aside low high kind =
      let apart : p + size_at rows p ≤ c = aside.nearest p low high in
      and_from (not (is_in rows p c)) (is_node_beside rows c p)
      (not_from_false (is_in rows p c) (not_in rows p c (λ inside. let wide : c < p + size_at rows p = inside.within in omega arith)))
      (beside_is rows c p (aside_tree c at above p within aside low high) kind)

  pub aside_less : (c at above p : ℕ) → IsAside rows c at above → above < p → p < at → IsAside rows c p above
  aside_less c at above p aside low high =
      let order : at ≤ c = aside.before in
      record { before = omega arith; behind = low; within = aside.within; nearest = λ k from to. aside.nearest k from (omega arith) }

  pub aside_found : (c from at above : ℕ) (row : Row) → c < length rows → IsAside rows c at above → at ≤ from → ((k : ℕ) → at ≤ k → k < from → is_node_aside rows c k ≡ false)
      → (at - 1 ≡ above → ⊥) → row ≡ row_at rows (at - 1) → is_attr_at rows (at - 1) ≡ false → IsLast rows (is_node_aside rows c) from (at - 1, row)
  aside_found c from at above row within aside back passed apart is kind =
      let behind : above < at = aside.behind in
      let order : at ≤ c = aside.before in
      record {
        own = record { within = omega arith; row = is };
        before = omega arith;
        here = aside_here c at above (at - 1) within aside (omega arith) (omega arith) kind;
        others = λ k low high. passed k (omega arith) high;
      }

  pub passed_more : (on : ℕ → Bool) (at from : ℕ) → ((k : ℕ) → at ≤ k → k < from → on k ≡ false) → on (at - 1) ≡ false → (k : ℕ) → at - 1 ≤ k → k < from → on k ≡ false
  passed_more on at from passed here k low high =
      elim (cases_eq k (at - 1)) [
        | inl e ↦ ap on e ∙ here
        | inr apart ↦ passed k (omega arith) high
      ]

  -- the next above
  pub aside_up : (c at above dist : ℕ) → c < length rows → IsAside rows c at above → dist ≡ dist_at rows above → (dist ≡ 0 → ⊥) → IsAside rows c above (above - dist)
  aside_up c at above dist within aside is below =
      let behind : above < at = aside.behind in
      let order : at ≤ c = aside.before in
      let wide : c < above + size_at rows above = aside.within in
      let far : 0 < dist_at rows above = omega arith in
      let fits : dist_at rows above ≤ above = laid.dists above (omega arith) in
      let u : up rows above ≡ above - dist = omega arith in
      let ends = rw u at (laid.ends above (omega arith) far) in
      let whole : above + size_at rows above ≤ above - dist + size_at rows (above - dist) = ends.1 in
      record {
        before = omega arith;
        behind = omega arith;
        within = omega arith;
        nearest = λ k low high. elim (cases_lt c (k + size_at rows k)) [
          | inl inside ↦
              let both = laid.inside k above (omega arith) high (omega arith) in
              let near : k ≤ up rows above = both.1 in
              absurd (omega arith)
          | inr apart ↦ apart
        ];
      }

  -- a root above c begins its tree
  pub aside_done : (c at above k : ℕ) → c < length rows → IsAside rows c at above → dist_at rows above ≡ 0 → k ≤ above → is_node_aside rows c k ≡ false
  aside_done c at above k within aside root order =
      elim (cases_eq k above) [
        | inl e ↦ let f : above ≡ k = omega arith in rw f at (above_aside c above (above_is c at above aside))
        | inr apart ↦
            let behind : above < at = aside.behind in
            let before : at ≤ c = aside.before in
            and_right (not (is_in rows k c)) (is_node_beside rows c k) (not_beside rows c k (λ beside.
            let same : root_of rows c ≡ root_of rows k = beside.root in
            let low : root_of rows k ≤ k = root_le rows k in
            let high : above ≤ root_of rows c = root_from rows above c root (omega arith) in
            omega arith))
      ]

  -- ---- siblings before

  -- a child of q that begins behind a place is not inside the place's subtree, where that is below q
  pub ends_before : (q at k : ℕ) → IsAtChild rows q at → q < k → k < at → k + size_at rows k ≤ at
  ends_before q at k child low high =
      elim (cases_lt at (k + size_at rows k)) [
        | inl inside ↦
            let within : at < length rows = child.within in
            let both = laid.inside k at (omega arith) high inside in
            let near : k ≤ up rows at = both.1 in
            let parent : at ≡ q + dist_at rows at = child.parent in
            absurd (omega arith)
        | inr apart ↦ apart
      ]

  pub climb_begins : (q at : ℕ) → IsAtChild rows q at → IsClimbing rows q at (at - 1)
  climb_begins q at child =
      let within : at < length rows = child.within in
      let below : 0 < dist_at rows at = child.below in
      let parent : at ≡ q + dist_at rows at = child.parent in
      record {
        low = omega arith;
        high = omega arith;
        whole = λ low.
            let ends : at - 1 + size_at rows (at - 1) ≤ at = ends_before q at (at - 1) child low (omega arith) in
            let least : 1 ≤ size_at rows (at - 1) = least_size rows laid (at - 1) (omega arith) in
            omega arith;
        only = λ e. omega arith;
      }

  -- all between q and its child is below q
  pub below_parent : (q at here : ℕ) → IsAtChild rows q at → q < here → here < at → (0 < dist_at rows here) × (q ≤ up rows here)
  below_parent q at here child low high =
      let within : at < length rows = child.within in
      let ends : at < q + size_at rows q = (ends_in rows laid q at within child.below child.parent).0 in
      laid.inside q here (omega arith) low (omega arith)

  pub climb_on : (q at here dist : ℕ) → IsAtChild rows q at → IsClimbing rows q at here → (here ≡ q → ⊥) → dist ≡ dist_at rows here → (here - dist ≡ q → ⊥)
      → IsClimbing rows q at (here - dist)
  climb_on q at here dist child climbing apart is far =
      let low : q ≤ here = climbing.low in
      let high : here < at = climbing.high in
      let within : at < length rows = child.within in
      let both = below_parent q at here child (omega arith) high in
      let below : 0 < dist_at rows here = both.0 in
      let near : q ≤ up rows here = both.1 in
      let u : up rows here ≡ here - dist = omega arith in
      let ends = rw u at (laid.ends here (omega arith) below) in
      let wide : here + size_at rows here ≤ here - dist + size_at rows (here - dist) = ends.1 in
      let whole : here + size_at rows here ≡ at = climbing.whole (omega arith) in
      record {
        low = omega arith;
        high = omega arith;
        whole = λ behind.
            let most : here - dist + size_at rows (here - dist) ≤ at = ends_before q at (here - dist) child behind (omega arith) in
            omega arith;
        only = λ e. absurd (far e);
      }

  pub sibling_found : (q at here : ℕ) (row : Row) → IsAtChild rows q at → IsClimbing rows q at here → (here ≡ q → ⊥) → row ≡ row_at rows here → here - row.dist ≡ q → is_attr_at rows here ≡ false
      → IsLast rows (is_child_of rows q) at (here, row)
  sibling_found q at here row child climbing apart is parent kind =
      let low : q ≤ here = climbing.low in
      let high : here < at = climbing.high in
      let within : at < length rows = child.within in
      let below : 0 < dist_at rows here = (below_parent q at here child (omega arith) high).0 in
      let fits : dist_at rows here ≤ here = laid.dists here (omega arith) in
      let dist : row.dist ≡ dist_at rows here = ap (λ (r : Row). r.dist) is in
      let whole : here + size_at rows here ≡ at = climbing.whole (omega arith) in
      record {
        own = record { within = omega arith; row = is };
        before = high;
        here = child_is rows q here below (omega arith) kind;
        others = λ k from to. none_inside rows laid q here k (omega arith) (omega arith) from (omega arith);
      }

  pub sibling_at : (q at here : ℕ) (row : Row) → IsAtChild rows q at → IsClimbing rows q at here → (here ≡ q → ⊥) → row ≡ row_at rows here → here - row.dist ≡ q → is_attr_at rows here ≡ false
      → IsAtChild rows q here
  sibling_at q at here row child climbing apart is parent kind =
      let low : q ≤ here = climbing.low in
      let high : here < at = climbing.high in
      let within : at < length rows = child.within in
      let below : 0 < dist_at rows here = (below_parent q at here child (omega arith) high).0 in
      let fits : dist_at rows here ≤ here = laid.dists here (omega arith) in
      let dist : row.dist ≡ dist_at rows here = ap (λ (r : Row). r.dist) is in
      record { within = omega arith; below = below; parent = omega arith; kind = kind }

  -- before an attribute of q stand attributes alone
  pub siblings_end : (q at here : ℕ) (row : Row) → IsAtChild rows q at → IsClimbing rows q at here → (here ≡ q → ⊥) → row ≡ row_at rows here → here - row.dist ≡ q → is_attr_at rows here ≡ true
      → (k : ℕ) → k < at → is_child_of rows q k ≡ false
  siblings_end q at here row child climbing apart is parent kind k before =
      let low : q ≤ here = climbing.low in
      let high : here < at = climbing.high in
      let within : at < length rows = child.within in
      let whole : here + size_at rows here ≡ at = climbing.whole (omega arith) in
      let dist : row.dist ≡ dist_at rows here = ap (λ (r : Row). r.dist) is in
      let u : up rows here ≡ q = omega arith in
      let below : 0 < dist_at rows here = (below_parent q at here child (omega arith) high).0 in
      let own : here < q + asize_at rows q = rw u at (laid.owned here (omega arith) kind below) in
      elim (cases_lt here k) [
        | inl behind ↦ none_inside rows laid q here k (omega arith) (omega arith) behind (omega arith)
        | inr front ↦ no_child rows q k (λ sibling.
            let below : 0 < dist_at rows k = sibling.below in
            let from : k ≡ q + dist_at rows k = sibling.parent in
            let attribute = laid.attributes q k (omega arith) (omega arith) (omega arith) in
            false≢true (sym sibling.kind ∙ attribute.1))
      ]

  pub siblings_begin : (q at here : ℕ) → IsClimbing rows q at here → here ≡ q → (k : ℕ) → k < at → is_child_of rows q k ≡ false
  siblings_begin q at here climbing e k before =
      let only : at ≡ q + 1 = climbing.only e in
      no_child rows q k (λ sibling.
      let below : 0 < dist_at rows k = sibling.below in
      let from : k ≡ q + dist_at rows k = sibling.parent in
      omega arith)
