-- How the walk over each axis begins.
use Rattle.std.proofs.Common.{◌≡◌, ℕ, ◌+◌, ◌-◌, ◌<◌, ◌≤◌, List, [], ◌∷◌, ◌++◌, length, Bool, true, false, refl, ap, sym, ◌∙◌, ◌⊎◌, inl, inr, arith}
use Rattle.std.specs.Prelude.{nat_eq, nat_le, nat_lt, not, ◌&&◌, ◌||◌, filter, reverse}
use Rattle.std.proofs.lemmas.Bool.{false≢true, cases_lt, cases_eq, and_parts, and_from, and_left, and_right, or_left, not_from_true, not_from_false, not-true, false_from_ne_true, ltb-true, lt-ltb, le-ltb, eqb-true, eq-eqb, ne_eqb, le-leb, lt-leb, cond-true, cond-false}
use Rattle.axis_cursor.specs.Cursors.{remaining, Begins}
use Rattle.node_table.specs.Laid.{IsLaid, row_at, is_attribute, dist_at, size_at, asize_at, is_attr_at, up}
use Rattle.axis_cursor.specs.RowAxes.{is_up, is_in, is_child, are_children, root_of, stands_on}
use Rattle.axis_cursor.specs.Walks.{is_child_of, is_node, is_node_beside, is_node_aside, IsAmong, IsAbove}
use Rattle.axis_cursor.specs.declared.walk.Walk.TheVariants.{Trees, Nodes, Attributes, After, Above, Before, TreesBefore, Done}
use Rattle.axis_cursor.proofs.Backwards.{up_before}
use Rattle.axis_cursor.proofs.Forwards.{ends_in, none_inside, least_size}
use Rattle.axis_cursor.proofs.Ranges.{window, all_places, places_same, step_forwards, step_backwards, range_none, range_one}
use Rattle.axis_cursor.proofs.Relations.{up_is, up_parts, child_is, child_parts, no_child, in_is, not_in}
use Rattle.axis_cursor.proofs.Roots.{root_le, root_from}
use Rattle.tree_model.specs.declared.axis.Axis.TheVariants.{Child, Descendant, Attribute, Slf, DescendantOrSelf, FollowingSibling, Following, Parent, Ancestor, PrecedingSibling, Preceding, AncestorOrSelf}
use Rattle.tree_model.specs.declared.row.Row.{Row}

-- two tests that tell the same
same_test : (a b : Bool) → (a ≡ true → b ≡ true) → (b ≡ true → a ≡ true) → a ≡ b
same_test true b there back = sym (there refl)
same_test false true there back = back refl
same_test false false there back = refl

and_true : (a b : Bool) → a ≡ true → (a && b) ≡ b
and_true a b e = ap (λ x. x && b) e

regroup : (a b c d : Bool) → a ≡ true → (((a && b) && c) && d) ≡ (b && (c && d))
regroup true true c d e = refl
regroup true false c d e = refl
regroup false b c d e = absurd (false≢true e)

first_two : (a b c d : Bool) → (a && b && c && d) ≡ true → (a ≡ true) × (c ≡ true)
first_two a b c d e =
    let most = and_parts (a && b && c) d e in
    let more = and_parts (a && b) c most.0 in
    ((and_parts a b more.0).0, more.1)

child_is_below : (rows : List Row) (p : ℕ) → is_child rows p ≡ true → (0 < dist_at rows p) × (is_attr_at rows p ≡ false)
child_is_below rows p e =
    let both = and_parts (nat_lt 0 (dist_at rows p)) (not (is_attr_at rows p)) e in
    (ltb-true 0 (dist_at rows p) both.0, not-true (is_attr_at rows p) both.1)

-- what a row that was read tells
pub child_told : (rows : List Row) (p : ℕ) (row : Row) (b v : Bool) → row ≡ row_at rows p → b ≡ (nat_lt 0 row.dist && not (is_attribute row.kind)) → b ≡ v → is_child rows p ≡ v
child_told rows p row b v is e f = ap (λ (x : Row). nat_lt 0 x.dist && not (is_attribute x.kind)) (sym is) ∙ sym e ∙ f

record AreSiblings (rows : List Row) (a b : ℕ) : Type 0 where
  below_b : 0 < dist_at rows b
  kind_b : is_attr_at rows b ≡ false
  same : up rows a ≡ up rows b

siblings_parts : (rows : List Row) (a b : ℕ) → are_children rows a b ≡ true → AreSiblings rows a b
siblings_parts rows a b e =
    let all = and_parts (is_child rows a && is_child rows b) (nat_eq (up rows a) (up rows b)) e in
    let both = and_parts (is_child rows a) (is_child rows b) all.0 in
    let second = child_is_below rows b both.1 in
    record {
      below_b = second.0;
      kind_b = second.1;
      same = eqb-true (up rows a) (up rows b) all.1;
    }

siblings_are : (rows : List Row) (a b : ℕ) → 0 < dist_at rows a → is_attr_at rows a ≡ false → 0 < dist_at rows b → is_attr_at rows b ≡ false → up rows a ≡ up rows b → are_children rows a b ≡ true
siblings_are rows a b below_a kind_a below_b kind_b same =
    and_from (is_child rows a && is_child rows b) (nat_eq (up rows a) (up rows b))
    (and_from (is_child rows a) (is_child rows b)
    (and_from (nat_lt 0 (dist_at rows a)) (not (is_attr_at rows a)) (lt-ltb 0 (dist_at rows a) below_a) (not_from_false (is_attr_at rows a) kind_a))
    (and_from (nat_lt 0 (dist_at rows b)) (not (is_attr_at rows b)) (lt-ltb 0 (dist_at rows b) below_b) (not_from_false (is_attr_at rows b) kind_b)))
    (eq-eqb (up rows a) (up rows b) same)

module _ (rows : List Row) (laid : IsLaid rows) (c : ℕ) (within : c < length rows) where
  -- ---- the node itself and what is below it

  pub begins_child : Begins rows Child c (Trees (c + asize_at rows c) (c + size_at rows c))
  unfolding stands_on remaining
  begins_child =
      let sizes = laid.sizes c within in
      let least : 1 ≤ asize_at rows c = sizes.0 in
      let wide : asize_at rows c ≤ size_at rows c = sizes.1 in
      let fits : c + size_at rows c ≤ length rows = sizes.2 in
      record {
        begun = record {
          parent = within;
          end_is = refl;
          before = omega arith;
          child = λ more.
              let first = laid.first c within (omega arith) in
              (omega (arith, first.0), omega (arith, first.0), first.1);
        };
        gives = ap (filter (is_child_of rows c)) (all_places (length rows))
            ∙ window (is_child_of rows c) (is_child_of rows c) 0 (c + asize_at rows c) (c + size_at rows c) (length rows) (omega arith) (omega arith) fits
            (λ k low high. no_child rows c k (λ child.
            let below : 0 < dist_at rows k = child.below in
            let parent : k ≡ c + dist_at rows k = child.parent in
            let attribute = laid.attributes c k within (omega arith) high in
            false≢true (sym child.kind ∙ attribute.1)))
            (λ k low high. no_child rows c k (λ child.
            let ends : k < c + size_at rows c = (ends_in rows laid c k high child.below child.parent).0 in
            omega arith))
            (λ k low high. refl);
      }

  -- all but attributes of the subtree stand behind the attributes of its root
  below_window : (k : ℕ) → (k < c + asize_at rows c) ⊎ (c + size_at rows c ≤ k) → (is_in rows c k && not (is_attr_at rows k)) ≡ false
  below_window k (inl early) =
      elim (cases_lt c k) [
        | inl behind ↦ and_right (is_in rows c k) (not (is_attr_at rows k)) (not_from_true (is_attr_at rows k) (laid.attributes c k within behind early).1)
        | inr before ↦ and_left (is_in rows c k) (not (is_attr_at rows k)) (not_in rows c k (λ inside. let low : c < k = inside.behind in omega arith))
      ]
  below_window k (inr late) = and_left (is_in rows c k) (not (is_attr_at rows k)) (not_in rows c k (λ inside. let high : k < c + size_at rows c = inside.within in omega arith))

  below_same : (k : ℕ) → c + asize_at rows c ≤ k → k < c + size_at rows c → (is_in rows c k && not (is_attr_at rows k)) ≡ is_node rows k
  below_same k low high =
      let least : 1 ≤ asize_at rows c = (laid.sizes c within).0 in
      and_true (is_in rows c k) (not (is_attr_at rows k)) (in_is rows c k (omega arith) high)

  among : IsAmong rows (c + asize_at rows c) (c + size_at rows c)
  among =
      let sizes = laid.sizes c within in
      let wide : asize_at rows c ≤ size_at rows c = sizes.1 in
      record { before = omega arith; within = sizes.2 }

  pub begins_descendant : Begins rows Descendant c (Nodes (c + asize_at rows c) (c + size_at rows c))
  unfolding stands_on remaining
  begins_descendant =
      let sizes = laid.sizes c within in
      let wide : asize_at rows c ≤ size_at rows c = sizes.1 in
      record {
        begun = among;
        gives = ap (filter (stands_on rows Descendant c)) (all_places (length rows))
            ∙ window (stands_on rows Descendant c) (is_node rows) 0 (c + asize_at rows c) (c + size_at rows c) (length rows) (omega arith) (omega arith) sizes.2
            (λ k low high. below_window k (inl high)) (λ k low high. below_window k (inr low)) below_same;
      }

  apart : (k : ℕ) → (k ≡ c → ⊥) → nat_eq c k ≡ false
  apart k other = ne_eqb c k (λ e. other (sym e))

  pub begins_descendant_or_self : Begins rows DescendantOrSelf c (Nodes (c + asize_at rows c) (c + size_at rows c))
  unfolding stands_on remaining
  begins_descendant_or_self =
      let sizes = laid.sizes c within in
      let least : 1 ≤ asize_at rows c = sizes.0 in
      let wide : asize_at rows c ≤ size_at rows c = sizes.1 in
      let other : (k : ℕ) → (k ≡ c → ⊥) → stands_on rows DescendantOrSelf c k ≡ (is_in rows c k && not (is_attr_at rows k)) = λ k far. ap (λ b. b || (is_in rows c k && not (is_attr_at rows k))) (apart k far) in
      record {
        begun = among;
        gives = ap (filter (stands_on rows DescendantOrSelf c)) (all_places (length rows))
            ∙ step_forwards (stands_on rows DescendantOrSelf c) 0 c (c + 1) (length rows) (omega arith) (omega arith) (omega arith)
            (or_left (nat_eq c c) (is_in rows c c && not (is_attr_at rows c)) (eq-eqb c c refl))
            (λ k low high far. other k far ∙ below_window k (inl (let ne : k ≡ c → ⊥ = far in omega arith)))
            ∙ ap (λ xs. c ∷ xs) (window (stands_on rows DescendantOrSelf c) (is_node rows) (c + 1) (c + asize_at rows c) (c + size_at rows c) (length rows) (omega arith) (omega arith) sizes.2
            (λ k low high. other k (λ e. omega arith) ∙ below_window k (inl high)) (λ k low high. other k (λ e. omega arith) ∙ below_window k (inr low))
            (λ k low high. other k (λ e. omega arith) ∙ below_same k low high));
      }

  pub begins_self : Begins rows Slf c Done
  unfolding stands_on remaining
  begins_self = record {
    begun = tt;
    gives = range_one (λ k. nat_eq c k) 0 (length rows) c (omega arith) (omega arith) (eq-eqb c c refl) (λ k low high far. apart k far);
  }

  pub begins_attribute : Begins rows Attribute c (Attributes (c + 1) (c + asize_at rows c))
  unfolding stands_on remaining
  begins_attribute =
      let sizes = laid.sizes c within in
      let least : 1 ≤ asize_at rows c = sizes.0 in
      let wide : asize_at rows c ≤ size_at rows c = sizes.1 in
      let fits : c + size_at rows c ≤ length rows = sizes.2 in
      let on : ℕ → Bool = stands_on rows Attribute c in
      record {
        begun = record { before = omega arith; within = omega arith; attributes = λ k low high. (laid.attributes c k within (omega arith) high).1 };
        gives = ap (filter (stands_on rows Attribute c)) (all_places (length rows))
            ∙ window (stands_on rows Attribute c) (is_attr_at rows) 0 (c + 1) (c + asize_at rows c) (length rows) (omega arith) (omega arith) (omega arith)
            (λ k low high. false_from_ne_true (is_up rows c k && is_attr_at rows k) (λ e.
            let above = up_parts rows c k (and_parts (is_up rows c k) (is_attr_at rows k) e).0 in
            let below : 0 < dist_at rows k = above.below in
            let parent : k ≡ c + dist_at rows k = above.parent in
            omega arith))
            (λ k low high. false_from_ne_true (is_up rows c k && is_attr_at rows k) (λ e.
            let both = and_parts (is_up rows c k) (is_attr_at rows k) e in
            let above = up_parts rows c k both.0 in
            let parent : k ≡ c + dist_at rows k = above.parent in
            let u : up rows k ≡ c = omega arith in
            let own : k < c + asize_at rows c = rw u at (laid.owned k high both.1 above.below) in
            omega arith))
            (λ k low high.
            let attribute = laid.attributes c k within (omega arith) high in
            let dist : dist_at rows k ≡ k - c = attribute.0 in
            and_true (is_up rows c k) (is_attr_at rows k) (up_is rows c k (omega arith) (omega arith)));
      }

  -- ---- siblings

  no_siblings : is_child rows c ≡ false → (k : ℕ) → are_children rows c k ≡ false
  no_siblings none k = and_left (is_child rows c && is_child rows k) (nat_eq (up rows c) (up rows k)) (and_left (is_child rows c) (is_child rows k) none)

  pub begins_following_none : is_child rows c ≡ false → Begins rows FollowingSibling c Done
  unfolding stands_on remaining
  begins_following_none none = record {
    begun = tt;
    gives = range_none (stands_on rows FollowingSibling c) 0 (length rows) (λ k low high. and_right (nat_lt c k) (are_children rows c k) (no_siblings none k));
  }

  pub begins_preceding_none : is_child rows c ≡ false → Begins rows PrecedingSibling c Done
  unfolding stands_on remaining
  begins_preceding_none none = record {
    begun = tt;
    gives = ap reverse (range_none (stands_on rows PrecedingSibling c) 0 (length rows) (λ k low high. and_right (nat_lt k c) (are_children rows c k) (no_siblings none k)));
  }

  -- for a child of q its siblings are the children of q
  siblings_same : (q k : ℕ) → k < length rows → 0 < dist_at rows c → is_attr_at rows c ≡ false → c ≡ q + dist_at rows c → are_children rows c k ≡ is_child_of rows q k
  siblings_same q k inside below kind parent =
      let u : up rows c ≡ q = omega arith in
      same_test (are_children rows c k) (is_child_of rows q k)
      (λ e.
      let siblings = siblings_parts rows c k e in
      let below_k : 0 < dist_at rows k = siblings.below_b in
      let fits : dist_at rows k ≤ k = laid.dists k inside in
      let v : up rows k ≡ q = sym siblings.same ∙ u in
      child_is rows q k below_k (omega arith) siblings.kind_b)
      (λ e.
      let child = child_parts rows q k e in
      let parent_k : k ≡ q + dist_at rows k = child.parent in
      let v : up rows k ≡ q = omega arith in
      siblings_are rows c k below kind child.below child.kind (u ∙ sym v))

  pub begins_following_sibling : is_child rows c ≡ true → Begins rows FollowingSibling c (Trees (c + size_at rows c) (up rows c + size_at rows (up rows c)))
  unfolding stands_on remaining
  begins_following_sibling child =
      let own = child_is_below rows c child in
      let below : 0 < dist_at rows c = own.0 in
      let kind : is_attr_at rows c ≡ false = own.1 in
      let dists : dist_at rows c ≤ c = laid.dists c within in
      let q : ℕ = up rows c in
      let parent : c ≡ up rows c + dist_at rows c = omega arith in
      let before : up rows c < c = omega arith in
      let ends : c + size_at rows c ≤ up rows c + size_at rows (up rows c) = (laid.ends c within below).1 in
      let fits : up rows c + size_at rows (up rows c) ≤ length rows = (laid.sizes (up rows c) (omega arith)).2 in
      let least : 1 ≤ size_at rows c = least_size rows laid c within in
      record {
        begun = record {
          parent = omega arith;
          end_is = refl;
          before = ends;
          child = λ more.
              let next = laid.next c within below kind more in
              (omega (arith, next.0), omega (arith, next.0), next.1);
        };
        gives = ap (filter (stands_on rows FollowingSibling c)) (all_places (length rows))
            ∙ window (stands_on rows FollowingSibling c) (is_child_of rows (up rows c)) 0 (c + size_at rows c) (up rows c + size_at rows (up rows c)) (length rows) (omega arith) ends fits
            (λ k low high.
            elim (cases_lt c k) [
              | inl behind ↦ and_right (nat_lt c k) (are_children rows c k) (siblings_same (up rows c) k (omega arith) below kind parent ∙ none_inside rows laid (up rows c) c k within before behind high)
              | inr front ↦ and_left (nat_lt c k) (are_children rows c k) (le-ltb c k front)
            ])
            (λ k low high. and_right (nat_lt c k) (are_children rows c k) (siblings_same (up rows c) k high below kind parent ∙ no_child rows (up rows c) k (λ child.
            let past : k < up rows c + size_at rows (up rows c) = (ends_in rows laid (up rows c) k high child.below child.parent).0 in
            omega arith)))
            (λ k low high. and_true (nat_lt c k) (are_children rows c k) (lt-ltb c k (omega arith)) ∙ siblings_same (up rows c) k (omega arith) below kind parent);
      }

  pub begins_preceding_sibling : is_child rows c ≡ true → Begins rows PrecedingSibling c (TreesBefore c (up rows c))
  unfolding stands_on remaining
  begins_preceding_sibling child =
      let own = child_is_below rows c child in
      let below : 0 < dist_at rows c = own.0 in
      let kind : is_attr_at rows c ≡ false = own.1 in
      let dists : dist_at rows c ≤ c = laid.dists c within in
      let parent : c ≡ up rows c + dist_at rows c = omega arith in
      record {
        begun = record { within = within; below = below; parent = parent; kind = kind };
        gives = ap reverse (ap (filter (stands_on rows PrecedingSibling c)) (all_places (length rows))
            ∙ window (stands_on rows PrecedingSibling c) (is_child_of rows (up rows c)) 0 0 c (length rows) (omega arith) (omega arith) (omega arith)
            (λ k low high. absurd (omega arith))
            (λ k low high. and_left (nat_lt k c) (are_children rows c k) (le-ltb k c low))
            (λ k low high. and_true (nat_lt k c) (are_children rows c k) (lt-ltb k c high) ∙ siblings_same (up rows c) k (omega arith) below kind parent));
      }

  -- ---- the rest of the tree

  pub begins_following : Begins rows Following c (After (c + size_at rows c))
  unfolding stands_on remaining
  begins_following =
      let least : 1 ≤ size_at rows c = least_size rows laid c within in
      let fits : c + size_at rows c ≤ length rows = (laid.sizes c within).2 in
      let past : ℕ → Bool = λ k. nat_le (c + size_at rows c) k in
      let same : ℕ → Bool = λ k. nat_eq (root_of rows c) (root_of rows k) in
      record {
        begun = record { behind = omega arith; within = fits; no_root = λ k low high. (laid.inside c k within low high).0 };
        gives = ap (filter (stands_on rows Following c)) (all_places (length rows))
            ∙ window (stands_on rows Following c) (is_node_beside rows c) 0 (c + size_at rows c) (length rows) (length rows) (omega arith) fits (omega arith)
            (λ k low high. and_left (past k && same k) (not (is_attr_at rows k)) (and_left (past k) (same k) (lt-leb (c + size_at rows c) k high)))
            (λ k low high. absurd (omega arith))
            (λ k low high. ap (λ b. b && same k && not (is_attr_at rows k)) (le-leb (c + size_at rows c) k low));
      }

  pub begins_preceding_root : dist_at rows c ≡ 0 → Begins rows Preceding c Done
  unfolding stands_on remaining
  begins_preceding_root root =
      record {
        begun = tt;
        gives = ap reverse (range_none (stands_on rows Preceding c) 0 (length rows) (λ k low high.
            false_from_ne_true (stands_on rows Preceding c k) (λ e.
            let both = first_two (nat_lt k c) (not (is_in rows k c)) (nat_eq (root_of rows c) (root_of rows k)) (not (is_attr_at rows k)) e in
            let before : k < c = ltb-true k c both.0 in
            let same : root_of rows c ≡ root_of rows k = eqb-true (root_of rows c) (root_of rows k) both.1 in
            let near : root_of rows k ≤ k = root_le rows k in
            let far : c ≤ root_of rows c = root_from rows c c root (omega arith) in
            omega arith)));
      }

  pub begins_preceding : 0 < dist_at rows c → Begins rows Preceding c (Before c (up rows c))
  unfolding stands_on remaining
  begins_preceding below =
      let before : up rows c < c = up_before rows laid c within below in
      let ends = laid.ends c within below in
      let aside : ℕ → Bool = λ k. not (is_in rows k c) in
      let same : ℕ → Bool = λ k. nat_eq (root_of rows c) (root_of rows k) in
      let node : ℕ → Bool = λ k. not (is_attr_at rows k) in
      record {
        begun = record {
          before = omega arith;
          behind = before;
          within = ends.0;
          nearest = λ k low high. elim (cases_lt c (k + size_at rows k)) [
            | inl inside ↦
                let near : k ≤ up rows c = (laid.inside k c (omega arith) high inside).1 in
                absurd (omega arith)
            | inr apart ↦ apart
          ];
        };
        gives = ap reverse (ap (filter (stands_on rows Preceding c)) (all_places (length rows))
            ∙ window (stands_on rows Preceding c) (is_node_aside rows c) 0 0 c (length rows) (omega arith) (omega arith) (omega arith)
            (λ k low high. absurd (omega arith))
            (λ k low high. and_left (nat_lt k c && aside k && same k) (node k) (and_left (nat_lt k c && aside k) (same k) (and_left (nat_lt k c) (aside k) (le-ltb k c low))))
            (λ k low high. regroup (nat_lt k c) (aside k) (same k) (node k) (lt-ltb k c high)));
      }

  -- ---- above the node

  above : IsAbove rows c c (dist_at rows c)
  above = let least : 1 ≤ size_at rows c = least_size rows laid c within in record { before = omega arith; within = omega arith; dist_is = refl }

  pub begins_parent : Begins rows Parent c Done
  unfolding stands_on remaining
  begins_parent =
      elim (cases_eq (dist_at rows c) 0) [
        | inl root ↦ record {
          begun = tt;
          gives = ap reverse (range_none (stands_on rows Parent c) 0 (length rows) (λ k low high. false_from_ne_true (is_up rows k c) (λ e.
              let far : 0 < dist_at rows c = (up_parts rows k c e).below in
              omega arith)))
              ∙ ap (λ xs. xs ++ []) (sym (cond-true (nat_eq (dist_at rows c) 0) [] (up rows c ∷ []) (eq-eqb (dist_at rows c) 0 root)));
        }
        | inr below ↦
            let far : 0 < dist_at rows c = omega arith in
            let fits : dist_at rows c ≤ c = laid.dists c within in
            record {
              begun = tt;
              gives = ap reverse (range_one (stands_on rows Parent c) 0 (length rows) (up rows c) (omega arith) (omega arith) (up_is rows (up rows c) c far (omega arith))
                  (λ k low high other. false_from_ne_true (is_up rows k c) (λ e.
                  let parent : c ≡ k + dist_at rows c = (up_parts rows k c e).parent in
                  other (omega arith))))
                  ∙ ap (λ xs. xs ++ []) (sym (cond-false (nat_eq (dist_at rows c) 0) [] (up rows c ∷ []) (ne_eqb (dist_at rows c) 0 below)));
            }
      ]

  pub begins_ancestor : Begins rows Ancestor c (Above c (dist_at rows c))
  unfolding stands_on remaining
  begins_ancestor = record {
    begun = above;
    gives = ap reverse (ap (filter (stands_on rows Ancestor c)) (all_places (length rows))
        ∙ window (stands_on rows Ancestor c) (λ k. is_in rows k c) 0 0 c (length rows) (omega arith) (omega arith) (omega arith)
        (λ k low high. absurd (omega arith))
        (λ k low high. not_in rows k c (λ inside. let behind : k < c = inside.behind in omega arith))
        (λ k low high. refl));
  }

  pub begins_ancestor_or_self : Begins rows AncestorOrSelf c (Above c (dist_at rows c))
  unfolding stands_on remaining
  begins_ancestor_or_self =
      let other : (k : ℕ) → (k ≡ c → ⊥) → stands_on rows AncestorOrSelf c k ≡ is_in rows k c = λ k far. ap (λ b. b || is_in rows k c) (apart k far) in
      record {
        begun = above;
        gives = ap reverse (ap (filter (stands_on rows AncestorOrSelf c)) (all_places (length rows)))
            ∙ step_backwards (stands_on rows AncestorOrSelf c) c (length rows) within
            (or_left (nat_eq c c) (is_in rows c c) (eq-eqb c c refl))
            (λ k low high. other k (λ e. omega arith) ∙ not_in rows k c (λ inside. let behind : k < c = inside.behind in omega arith))
            ∙ ap (λ xs. c ∷ reverse xs) (places_same (stands_on rows AncestorOrSelf c) (λ k. is_in rows k c) 0 c (λ k low high. other k (λ e. omega arith)));
      }
