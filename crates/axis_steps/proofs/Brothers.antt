-- Children that do for others of their parent.
use Rattle.std.proofs.Common.{◌≡◌, inl, inr, ℕ, zero, suc, ◌-◌, ◌<◌, Bool, true, false, not, List, [], ◌∷◌, ◌++◌, length, get_or, take, refl, sym, ap, ◌∙◌, subst, arith}
use Rattle.std.specs.Prelude.{◌⊎◌, ◌&&◌, nat_lt, nat_eq, Some, None, Result, Ok, Err, OnOk}
use Rattle.std.specs.declared.alloc.AllocError.{AllocError}
use Rattle.std.specs.List.{All}
use Rattle.std.proofs.lemmas.Bool.{and_parts, and_from, lt-ltb, ltb-true, eq-eqb, eqb-true}
use Rattle.std.proofs.lemmas.List.Elements.{All-append, All-take}
use Rattle.tree_model.specs.declared.row.Row.{Row}
use Rattle.node_table.specs.Laid.{row_at, dist_at, is_attr_at, is_attribute, up}
use Rattle.axis_cursor.specs.RowAxes.{is_child, are_children, stands_on}
use Rattle.axis_steps.specs.Siblings.{sibling_axis, IsChildAt, IsKept, HasTaken, TakesIn}
use Rattle.axis_steps.specs.Steps.{Has, IsOnSome, Keeps}
use Rattle.axis_steps.specs.declared.siblings.Child.{Child}
use Rattle.axis_steps.specs.declared.siblings.Children.{Children}
use Rattle.axis_steps.proofs.Having.{has_push, has_left, has_right}

clash : (b : Bool) → b ≡ true → b ≡ false → ⊥
clash true e f = absurd cc
clash false e f = absurd cc

not_false : (b : Bool) → b ≡ false → not b ≡ true
not_false true e = absurd cc
not_false false e = refl

not_true : (b : Bool) → not b ≡ true → b ≡ false
not_true true e = absurd cc
not_true false e = refl

module _ (rows : List Row) where
  pub record AreChildren (a b : ℕ) : Type 0 where
    pub first : is_child rows a ≡ true
    pub second : is_child rows b ≡ true
    pub parent : up rows a ≡ up rows b

  children_parts : (a b : ℕ) → are_children rows a b ≡ true → AreChildren a b
  children_parts a b e =
      let two = and_parts (is_child rows a && is_child rows b) (nat_eq (up rows a) (up rows b)) e in
      let one = and_parts (is_child rows a) (is_child rows b) two.0 in
      record { first = one.0; second = one.1; parent = eqb-true (up rows a) (up rows b) two.1 }

  children_are : (a b : ℕ) → AreChildren a b → are_children rows a b ≡ true
  children_are a b is =
      and_from (is_child rows a && is_child rows b) (nat_eq (up rows a) (up rows b)) (and_from (is_child rows a) (is_child rows b) is.first is.second) (eq-eqb (up rows a) (up rows b) is.parent)

  -- p is a sibling of c in the direction
  pub record IsBrother (is_forward : Bool) (c p : ℕ) : Type 0 where
    pub children : AreChildren c p
    pub forwards : is_forward ≡ true → c < p
    pub backwards : is_forward ≡ false → p < c

  brother_parts : (is_forward : Bool) (c p : ℕ) → stands_on rows (sibling_axis is_forward) c p ≡ true → IsBrother is_forward c p
  unfolding stands_on
  brother_parts true c p e = let both = and_parts (nat_lt c p) (are_children rows c p) e in record { children = children_parts c p both.1; forwards = λ _. ltb-true c p both.0; backwards = λ f. absurd cc }
  brother_parts false c p e = let both = and_parts (nat_lt p c) (are_children rows c p) e in record { children = children_parts c p both.1; forwards = λ f. absurd cc; backwards = λ _. ltb-true p c both.0 }

  brother_is : (is_forward : Bool) (c p : ℕ) → IsBrother is_forward c p → stands_on rows (sibling_axis is_forward) c p ≡ true
  unfolding stands_on
  brother_is true c p is = and_from (nat_lt c p) (are_children rows c p) (lt-ltb c p (is.forwards refl)) (children_are c p is.children)
  brother_is false c p is = and_from (nat_lt p c) (are_children rows c p) (lt-ltb p c (is.backwards refl)) (children_are c p is.children)

  -- a row that is no child has no siblings
  pub taken_none : (is_forward : Bool) (c : ℕ) (row : Row) (kept : List ℕ) → row ≡ row_at rows c → IsChildAt c row None → TakesIn rows is_forward c kept kept
  taken_none is_forward c row kept is none = record {
    some = λ k h. inl h;
    stay = λ k h. h;
    enough = λ p lt on. absurd (no_brother none (brother_parts is_forward c p on));
  }
    where
      no_brother : {p : ℕ} → (row.dist ≡ 0) ⊎ (is_attribute row.kind ≡ true) → IsBrother is_forward c p → ⊥
      no_brother (inl root) b =
          let both = and_parts (nat_lt 0 (dist_at rows c)) (not (is_attr_at rows c)) b.children.first in
          let pos = ltb-true 0 (dist_at rows c) both.0 in
          let same : row.dist ≡ dist_at rows c = ap (λ (r : Row). r.dist) is in
          omega (arith, pos, same, root)
      no_brother (inr attr) b =
          let both = and_parts (nat_lt 0 (dist_at rows c)) (not (is_attr_at rows c)) b.children.first in
          clash (is_attribute row.kind) attr (ap (λ (r : Row). is_attribute r.kind) is ∙ not_true (is_attr_at rows c) both.1)

  -- what is known of a child
  child_known : (c : ℕ) (row : Row) (child : Child) → row ≡ row_at rows c → IsChildAt c row (Some child) → (is_child rows c ≡ true) × (child.place ≡ c) × (child.parent ≡ up rows c)
  child_known c row child is at =
      let same : row.dist ≡ dist_at rows c = ap (λ (r : Row). r.dist) is in
      let some_dist = (at.0).0 in
      let plain : is_attr_at rows c ≡ false = ap (λ (r : Row). is_attribute r.kind) (sym is) ∙ (at.0).1 in (
        and_from (nat_lt 0 (dist_at rows c)) (not (is_attr_at rows c)) (lt-ltb 0 (dist_at rows c) (omega (arith, same, some_dist))) (not_false (is_attr_at rows c) plain),
        ap (λ (x : Child). x.place) at.1,
        ap (λ (x : Child). x.parent) at.1 ∙ ap (λ d. c - d) same,
      )

  stays : (old new : List ℕ) → ((k : ℕ) → Has old k → Has new k) → (x : Child) → IsKept rows old x → IsKept rows new x
  stays old new more x k = record { has = more x.place k.has; child = k.child; parent = k.parent }

  all_stay : (old new : List ℕ) (last : List Child) → ((k : ℕ) → Has old k → Has new k) → All (IsKept rows old) last → All (IsKept rows new) last
  all_stay old new last more all k d lt = stays old new more _ (all k d lt)

  -- a child was taken in
  pub record Taken (is_forward : Bool) (c : ℕ) (old new : Children) : Type 0 where
    pub taken : TakesIn rows is_forward c old.kept.items new.kept.items
    pub last : All (IsKept rows new.kept.items) new.last.items

  pub taken_some : (is_forward : Bool) (c : ℕ) (row : Row) (child : Child) (old new : Children) → row ≡ row_at rows c → IsChildAt c row (Some child) → All (IsKept rows old.kept.items) old.last.items
      → HasTaken child is_forward old new → Taken is_forward c old new
  taken_some is_forward c row child old new is at all (inl done) = record {
    taken = record {
      some = λ k h. inl (subst (λ xs. Has xs k) done.0 h);
      stay = λ k h. subst (λ xs. Has xs k) (sym done.0) h;
      enough = λ p lt on.
          let b = brother_parts is_forward c p on in
          let other : Child = (done.2).0 in
          let there = (done.2).1 in
          let does = (done.2).2 in
          let kept : IsKept rows old.kept.items other = subst (IsKept rows old.kept.items) there.2 (all there.0 other there.1) in
          let known = child_known c row child is at in
          let same_parent : up rows other.place ≡ up rows c = kept.parent ∙ does.parent ∙ known.2 in
          let brother : IsBrother is_forward other.place p = record {
            children = record { first = kept.child; second = b.children.second; parent = same_parent ∙ b.children.parent };
            forwards = λ f. omega (arith, b.forwards f, does.forwards f, known.1);
            backwards = λ f. omega (arith, b.backwards f, does.backwards f, known.1);
          } in
          (other.place, subst (λ xs. Has xs other.place) (sym done.0) kept.has, brother_is is_forward other.place p brother);
    };
    last = subst (λ xs. All (IsKept rows new.kept.items) xs) (sym (done.1).1)
        (All-take (IsKept rows new.kept.items) (done.1).0 old.last.items (all_stay old.kept.items new.kept.items old.last.items (λ k h. subst (λ xs. Has xs k) (sym done.0) h) all));
  }
  taken_some is_forward c row child old new is at all (inr pushed) =
      let known = child_known c row child is at in
      let more : (k : ℕ) → Has old.kept.items k → Has new.kept.items k = λ k h. subst (λ xs. Has xs k) (sym pushed.0) (has_left old.kept.items (child.place ∷ []) k h) in
      let own : Has new.kept.items child.place = subst (λ xs. Has xs child.place) (sym pushed.0) (has_right old.kept.items (child.place ∷ []) child.place (inl refl)) in
      record {
        taken = record {
          some = λ k h. elim (has_push old.kept.items child.place k (subst (λ xs. Has xs k) pushed.0 h)) [ inl o ↦ inl o | inr e ↦ inr (sym e ∙ known.1) ];
          stay = more;
          enough = λ p lt on. (c, subst (λ x. Has new.kept.items x) known.1 own, on);
        };
        last = subst (λ xs. All (IsKept rows new.kept.items) xs) (sym (pushed.1).1)
            (All-append (IsKept rows new.kept.items) (take (pushed.1).0 old.last.items) (child ∷ [])
            (All-take (IsKept rows new.kept.items) (pushed.1).0 old.last.items (all_stay old.kept.items new.kept.items old.last.items more all))
            (λ k d lt. one k d lt (record { has = own; child = subst (λ x. is_child rows x ≡ true) (sym known.1) known.0; parent = ap (up rows) known.1 ∙ sym known.2 })));
      }
    where
      one : (k : ℕ) (d : Child) → k < 1 → IsKept rows new.kept.items child → IsKept rows new.kept.items (get_or (child ∷ []) k d)
      one zero d lt is = is
      one (suc k) d lt is = absurd (omega arith)

  -- ---- all of them

  pub keeps_taken : (is_forward : Bool) (places : List ℕ) (c : ℕ) (old new : List ℕ) → TakesIn rows is_forward c old new → Keeps rows (sibling_axis is_forward) places old → Keeps rows (sibling_axis is_forward) (places ++ c ∷ []) new
  keeps_taken is_forward places c old new taken keeps = record {
    some = λ k h. elim (taken.some k h) [ inl o ↦ has_left places (c ∷ []) k (keeps.some k o) | inr e ↦ has_right places (c ∷ []) k (inl (sym e)) ];
    enough = λ p lt on. elim (has_push places c on.0 on.1) [
      | inl o ↦ let w = keeps.enough p lt (on.0, o, on.2) in (w.0, taken.stay w.0 w.1, w.2)
      | inr e ↦ taken.enough p lt (subst (λ x. stands_on rows (sibling_axis is_forward) x p ≡ true) (sym e) on.2)
    ];
  }

  pub keeps_taken_before : (is_forward : Bool) (places : List ℕ) (c : ℕ) (old new : List ℕ) → TakesIn rows is_forward c old new → Keeps rows (sibling_axis is_forward) places old → Keeps rows (sibling_axis is_forward) (c ∷ places) new
  keeps_taken_before is_forward places c old new taken keeps = record {
    some = λ k h. elim (taken.some k h) [ inl o ↦ inr (keeps.some k o) | inr e ↦ inl (sym e) ];
    enough = λ p lt on. by p lt on.0 on.1 on.2;
  }
    where
      by : (p : ℕ) → p < length rows → (x : ℕ) → Has (c ∷ places) x → stands_on rows (sibling_axis is_forward) x p ≡ true → IsOnSome rows (sibling_axis is_forward) new p
      by p lt x (inl e) on = taken.enough p lt (subst (λ y. stands_on rows (sibling_axis is_forward) y p ≡ true) (sym e) on)
      by p lt x (inr h) on = let w = keeps.enough p lt (x, h, on) in (w.0, taken.stay w.0 w.1, w.2)

  -- where memory was there
  pub on_last : (is_forward : Bool) (c : ℕ) (row : Row) (child : Child) (old new : Children) (r : Result (Unit {0}) AllocError) → row ≡ row_at rows c → IsChildAt c row (Some child) → All (IsKept rows old.kept.items) old.last.items
      → OnOk r (HasTaken child is_forward old new) → OnOk r (All (IsKept rows new.kept.items) new.last.items)
  on_last is_forward c row child old new (Ok u) is at all taken = (taken_some is_forward c row child old new is at all taken).last
  on_last is_forward c row child old new (Err e) is at all taken = taken

  pub on_taken : (is_forward : Bool) (c : ℕ) (row : Row) (child : Child) (old new : Children) (r : Result (Unit {0}) AllocError) → row ≡ row_at rows c → IsChildAt c row (Some child) → All (IsKept rows old.kept.items) old.last.items
      → OnOk r (HasTaken child is_forward old new) → OnOk r (TakesIn rows is_forward c old.kept.items new.kept.items)
  on_taken is_forward c row child old new (Ok u) is at all taken = (taken_some is_forward c row child old new is at all taken).taken
  on_taken is_forward c row child old new (Err e) is at all taken = taken
