-- How nodes of a forest stand to one another, and their lines.
use Rattle.std.proofs.Common.{◌≡◌, inl, inr, ℕ, zero, suc, ◌+◌, ◌-◌, ◌<◌, ◌≤◌, List, [], ◌∷◌, ◌++◌, length, get_or, refl, sym, ap, ◌∙◌, subst, arith, append_assoc, length-append}
use Rattle.std.specs.Prelude.{◌⊎◌}
use Rattle.std.proofs.lemmas.List.{get_or-append-add, get_or_at, get_or_append_left}
use Rattle.tree_model.specs.Axes.{attributes, below}
use Rattle.tree_model.specs.Forest.{Forest, none, tree, count, Line, raise, attr_lines, lines, flatten}
use Rattle.tree_model.specs.Nodes.{Node, attr_nodes, nodes_from, nodes, root_nodes_from, children}
use Rattle.tree_model.specs.Trees.{length-lines, length-attr_lines, raise_pos}
use Rattle.tree_model.proofs.Standing.{IsIn, in_append, in_left, in_right, own_line, stands}

-- the number of nodes of its subtree
abbrev pub weight : {A : Type 0} → Node A → ℕ
weight node = 1 + length node.attrs + count node.kids

-- ---- attributes of a list

pub record AttrIn (A : Type 0) (n : ℕ) (attrs : List A) (x : Node A) : Type 0 where
  pub k : ℕ
  pub at : x.place ≡ n + k
  pub within : k < length attrs
  pub light : weight x ≡ 1
  pub bare : length x.attrs ≡ 0

pub attr_in : {A : Type 0} (n : ℕ) (attrs : List A) (x : Node A) → IsIn (attr_nodes n attrs) x → AttrIn A n attrs x
attr_in n [] x h = absurd h
attr_in {A = A} n (a ∷ attrs) x (inl e) =
    subst (λ (y : Node A). AttrIn A n (a ∷ attrs) y) e (record { k = 0; at = omega arith; within = omega arith; light = refl; bare = refl })
attr_in n (a ∷ attrs) x (inr h) =
    let r = attr_in (suc n) attrs x h in
    record { k = suc r.k; at = omega (arith, r.at); within = omega (arith, r.within); light = r.light; bare = r.bare }

-- ---- trees of a list

pub record TopIn (A : Type 0) (n : ℕ) (f : Forest A) (x : Node A) : Type 0 where
  pub from : n ≤ x.place
  pub within : x.place + weight x ≤ n + count f
  -- behind it the list ends, or the next tree begins
  pub next : (x.place + weight x ≡ n + count f) ⊎ ((y : Node A) × IsIn (root_nodes_from n f) y × (y.place ≡ x.place + weight x))

pub top_in : {A : Type 0} (n : ℕ) (f : Forest A) (x : Node A) → IsIn (root_nodes_from n f) x → TopIn A n f x
top_in n none x h = absurd h
top_in {A = A} n (tree a attrs kids none) x (inl e) =
    subst (λ (y : Node A). TopIn A n (tree a attrs kids none) y) e
    (record { from = omega arith; within = omega arith; next = inl (omega arith) })
top_in {A = A} n (tree a attrs kids (tree b more inner rest)) x (inl e) =
    let size : ℕ = 1 + length attrs + count kids in
    subst (λ (y : Node A). TopIn A n (tree a attrs kids (tree b more inner rest)) y) e
    (record {
      from = omega arith;
      within = omega arith;
      next = inr (record { place = n + size; label = b; attrs = more; kids = inner }, inr (inl refl), refl);
    })
top_in {A = A} n (tree a attrs kids rest) x (inr h) = further (top_in (n + (1 + length attrs + count kids)) rest x h)
  where
    ahead : (TopIn A (n + (1 + length attrs + count kids)) rest x) → (x.place + weight x ≡ n + (1 + length attrs + count kids) + count rest) ⊎ ((y : Node A) × IsIn (root_nodes_from (n + (1 + length attrs + count kids)) rest) y × (y.place ≡ x.place + weight x))
        → (x.place + weight x ≡ n + (1 + length attrs + count kids + count rest)) ⊎ ((y : Node A) × IsIn (root_nodes_from n (tree a attrs kids rest)) y × (y.place ≡ x.place + weight x))
    ahead r (inl e) = inl (omega (arith, e))
    ahead r (inr y) = inr (y.0, inr y.1, y.2)

    further : TopIn A (n + (1 + length attrs + count kids)) rest x → TopIn A n (tree a attrs kids rest) x
    further r = record { from = omega (arith, r.from); within = omega (arith, r.within); next = ahead r r.next }

-- where there are trees, one begins at their place
pub first_top : {A : Type 0} (n : ℕ) (f : Forest A) → 0 < count f → (y : Node A) × IsIn (root_nodes_from n f) y × (y.place ≡ n)
first_top n none lt = absurd (omega arith)
first_top n (tree a attrs kids rest) lt = (record { place = n; label = a; attrs = attrs; kids = kids }, inl refl, refl)

-- ---- every node is a root, or has a parent

abbrev pub HasParent : {A : Type 0} → ℕ → Forest A → Node A → Type 0
HasParent {A} n f x = (y : Node A) × IsIn (nodes_from n f) y × (IsIn (children y) x ⊎ IsIn (attributes y) x)

pub has_parent : {A : Type 0} (n : ℕ) (f : Forest A) (x : Node A) → IsIn (nodes_from n f) x → IsIn (root_nodes_from n f) x ⊎ HasParent n f x
has_parent n none x h = absurd h
has_parent n (tree a attrs kids rest) x (inl e) = inl (inl e)
has_parent {A = A} n (tree a attrs kids rest) x (inr h) =
    by (in_append al (ks ++ rs) x h) (λ k. has_parent (n + (1 + length attrs)) kids x k) (λ r. has_parent (n + (1 + length attrs + count kids)) rest x r)
  where
    own : Node A
    own = record { place = n; label = a; attrs = attrs; kids = kids }

    al : List (Node A)
    al = attr_nodes (n + 1) attrs

    ks : List (Node A)
    ks = nodes_from (n + (1 + length attrs)) kids

    rs : List (Node A)
    rs = nodes_from (n + (1 + length attrs + count kids)) rest

    Answer : Type 0
    Answer = IsIn (root_nodes_from n (tree a attrs kids rest)) x ⊎ HasParent n (tree a attrs kids rest) x

    of_kids : IsIn (root_nodes_from (n + (1 + length attrs)) kids) x ⊎ HasParent (n + (1 + length attrs)) kids x → Answer
    of_kids (inl t) = inr (own, inl refl, inl t)
    of_kids (inr y) = inr (y.0, inr (in_right al (ks ++ rs) y.0 (in_left ks rs y.0 y.1)), y.2)

    of_rest : IsIn (root_nodes_from (n + (1 + length attrs + count kids)) rest) x ⊎ HasParent (n + (1 + length attrs + count kids)) rest x → Answer
    of_rest (inl t) = inl (inr t)
    of_rest (inr y) = inr (y.0, inr (in_right al (ks ++ rs) y.0 (in_right ks rs y.0 y.1)), y.2)

    inner : (IsIn ks x → IsIn (root_nodes_from (n + (1 + length attrs)) kids) x ⊎ HasParent (n + (1 + length attrs)) kids x)
        → (IsIn rs x → IsIn (root_nodes_from (n + (1 + length attrs + count kids)) rest) x ⊎ HasParent (n + (1 + length attrs + count kids)) rest x)
        → IsIn ks x ⊎ IsIn rs x → Answer
    inner in_kids in_rest (inl k) = of_kids (in_kids k)
    inner in_kids in_rest (inr r) = of_rest (in_rest r)

    by : IsIn al x ⊎ IsIn (ks ++ rs) x
        → (IsIn ks x → IsIn (root_nodes_from (n + (1 + length attrs)) kids) x ⊎ HasParent (n + (1 + length attrs)) kids x)
        → (IsIn rs x → IsIn (root_nodes_from (n + (1 + length attrs + count kids)) rest) x ⊎ HasParent (n + (1 + length attrs + count kids)) rest x)
        → Answer
    by (inl al_in) in_kids in_rest = inr (own, inl refl, inr al_in)
    by (inr more) in_kids in_rest = inner in_kids in_rest (in_append ks rs x more)

-- ---- what stands in a subtree stands in the forest

attr_holds_none : {A : Type 0} (n : ℕ) (attrs : List A) (y x : Node A) → IsIn (attr_nodes n attrs) y → IsIn (attributes y ++ below y) x → ⊥
attr_holds_none n [] y x h c = h
attr_holds_none {A = A} n (a ∷ attrs) y x (inl e) c =
    let P : Node A → Type 0 = λ z. IsIn (attributes z ++ below z) x in subst P (sym e) c
attr_holds_none n (a ∷ attrs) y x (inr h) c = attr_holds_none (suc n) attrs y x h c

pub inside_in : {A : Type 0} (n : ℕ) (f : Forest A) (y x : Node A) → IsIn (nodes_from n f) y → IsIn (attributes y ++ below y) x → IsIn (nodes_from n f) x
inside_in n none y x h c = h
inside_in {A = A} n (tree a attrs kids rest) y x (inl e) c =
    let P : Node A → Type 0 = λ z. IsIn (attributes z ++ below z) x in
    let own : IsIn (attr_nodes (n + 1) attrs ++ nodes_from (n + (1 + length attrs)) kids) x = subst P (sym e) c in
    inr (elim (in_append (attr_nodes (n + 1) attrs) (nodes_from (n + (1 + length attrs)) kids) x own) [
      | inl at ↦ in_left (attr_nodes (n + 1) attrs) _ x at
      | inr kid ↦ in_right (attr_nodes (n + 1) attrs) _ x (in_left (nodes_from (n + (1 + length attrs)) kids) _ x kid)
    ])
inside_in {A = A} n (tree a attrs kids rest) y x (inr h) c =
    by (in_append al (ks ++ rs) y h) (λ k. inside_in (n + (1 + length attrs)) kids y x k c) (λ r. inside_in (n + (1 + length attrs + count kids)) rest y x r c)
  where
    al : List (Node A)
    al = attr_nodes (n + 1) attrs

    ks : List (Node A)
    ks = nodes_from (n + (1 + length attrs)) kids

    rs : List (Node A)
    rs = nodes_from (n + (1 + length attrs + count kids)) rest

    inner : (IsIn ks y → IsIn ks x) → (IsIn rs y → IsIn rs x) → IsIn ks y ⊎ IsIn rs y → IsIn (ks ++ rs) x
    inner in_kids in_rest (inl k) = in_left ks rs x (in_kids k)
    inner in_kids in_rest (inr r) = in_right ks rs x (in_rest r)

    by : IsIn al y ⊎ IsIn (ks ++ rs) y → (IsIn ks y → IsIn ks x) → (IsIn rs y → IsIn rs x) → IsIn (nodes_from n (tree a attrs kids rest)) x
    by (inl a_y) in_kids in_rest = absurd (attr_holds_none (n + 1) attrs y x a_y c)
    by (inr more) in_kids in_rest = inr (in_right al (ks ++ rs) x (inner in_kids in_rest (in_append ks rs y more)))

-- ---- lines of nodes

-- an attribute of a list whose first stands at distance d
attr_line : {A : Type 0} (d n k : ℕ) (attrs : List A) (x : Node A) (z : Line A) → IsIn (attr_nodes n attrs) x → x.place ≡ n + k → get_or (attr_lines d attrs) k z ≡ own_line (d + k) x
attr_line d n k [] x z h e = absurd h
attr_line {A = A} d n zero (a ∷ attrs) x z (inl is) e =
    let P : Node A → Type 0 = λ y. get_or (attr_lines d (a ∷ attrs)) 0 z ≡ own_line (d + 0) y in
    subst P is (ap (λ m. record { label = a; dist = m; size = 1; asize = 1 }) (omega arith))
attr_line {A = A} d n (suc k) (a ∷ attrs) x z (inl is) e = absurd (omega (arith, e, ap (λ (y : Node A). y.place) is))
attr_line d n zero (a ∷ attrs) x z (inr h) e = let r = attr_in (suc n) attrs x h in absurd (omega (arith, e, r.at))
attr_line d n (suc k) (a ∷ attrs) x z (inr h) e =
    attr_line (suc d) (suc n) k attrs x z h (omega (arith, e)) ∙ ap (λ m. own_line m x) (omega arith)

-- a tree of a list whose first stands at distance d
top_line : {A : Type 0} (d n k : ℕ) (f : Forest A) (x : Node A) (z : Line A) → 0 < d → IsIn (root_nodes_from n f) x → x.place ≡ n + k → get_or (lines d f) k z ≡ own_line (d + k) x
top_line d n k none x z lt h e = absurd h
top_line {A = A} d n zero (tree a attrs kids rest) x z lt (inl is) e =
    let P : Node A → Type 0 = λ y. get_or (lines d (tree a attrs kids rest)) 0 z ≡ own_line (d + 0) y in
    subst P is (ap (λ m. record { label = a; dist = m; size = 1 + length attrs + count kids; asize = 1 + length attrs }) (omega arith))
top_line {A = A} d n (suc k) (tree a attrs kids rest) x z lt (inl is) e = absurd (omega (arith, e, ap (λ (y : Node A). y.place) is))
top_line {A = A} d n k (tree a attrs kids rest) x z lt (inr h) e =
    let size : ℕ = 1 + length attrs + count kids in
    let own : Line A = record { label = a; dist = d; size = size; asize = 1 + length attrs } in
    let al : List (Line A) = attr_lines 1 attrs in
    let ks : List (Line A) = lines (1 + length attrs) kids in
    let rs : List (Line A) = lines (raise d size) rest in
    let j : ℕ = k - size in
    let r = top_in (n + size) rest x h in
    let le : k ≡ size + j = omega (arith, e, r.from) in
    let len : length (own ∷ (al ++ ks)) ≡ size = omega (arith, length-append al ks, length-attr_lines 1 attrs, length-lines (1 + length attrs) kids) in
    let far : d + size ≡ raise d size = sym (raise_pos d size lt) in
    ap (λ l. get_or l k z) (ap (λ l. own ∷ l) (sym (append_assoc al ks rs)))
    ∙ ap (λ m. get_or ((own ∷ (al ++ ks)) ++ rs) m z) (le ∙ ap (λ m. m + j) (sym len))
    ∙ get_or-append-add (own ∷ (al ++ ks)) rs j z
    ∙ top_line (raise d size) (n + size) j rest x z (omega (arith, far)) h (omega (arith, e, le))
    ∙ ap (λ m. own_line m x) (omega (arith, far, le))

-- a root stands at no distance
root_from : {A : Type 0} (n k : ℕ) (f : Forest A) (x : Node A) (z : Line A) → IsIn (root_nodes_from n f) x → x.place ≡ n + k → get_or (lines 0 f) k z ≡ own_line 0 x
root_from n k none x z h e = absurd h
root_from {A = A} n zero (tree a attrs kids rest) x z (inl is) e =
    let P : Node A → Type 0 = λ y. get_or (lines 0 (tree a attrs kids rest)) 0 z ≡ own_line 0 y in subst P is refl
root_from {A = A} n (suc k) (tree a attrs kids rest) x z (inl is) e = absurd (omega (arith, e, ap (λ (y : Node A). y.place) is))
root_from {A = A} n k (tree a attrs kids rest) x z (inr h) e =
    let size : ℕ = 1 + length attrs + count kids in
    let own : Line A = record { label = a; dist = 0; size = size; asize = 1 + length attrs } in
    let al : List (Line A) = attr_lines 1 attrs in
    let ks : List (Line A) = lines (1 + length attrs) kids in
    let rs : List (Line A) = lines 0 rest in
    let j : ℕ = k - size in
    let r = top_in (n + size) rest x h in
    let le : k ≡ size + j = omega (arith, e, r.from) in
    let len : length (own ∷ (al ++ ks)) ≡ size = omega (arith, length-append al ks, length-attr_lines 1 attrs, length-lines (1 + length attrs) kids) in
    ap (λ l. get_or l k z) (ap (λ l. own ∷ l) (sym (append_assoc al ks rs)))
    ∙ ap (λ m. get_or ((own ∷ (al ++ ks)) ++ rs) m z) (le ∙ ap (λ m. m + j) (sym len))
    ∙ get_or-append-add (own ∷ (al ++ ks)) rs j z
    ∙ root_from (n + size) j rest x z h (omega (arith, e, le))

pub root_line : {A : Type 0} (f : Forest A) (x : Node A) (z : Line A) → IsIn (root_nodes_from 0 f) x → get_or (flatten f) x.place z ≡ own_line 0 x
root_line f x z h = root_from 0 x.place f x z h (omega arith)

-- every node's line is its own, at some distance
pub node_line : {A : Type 0} (f : Forest A) (x : Node A) (z : Line A) → IsIn (nodes f) x → (d : ℕ) × (get_or (flatten f) x.place z ≡ own_line d x)
node_line f x z h =
    let s = stands 0 0 f x h in
    (s.dist, ap (λ l. get_or l x.place z) s.are ∙ get_or_at s.before (own_line s.dist x) (attr_lines 1 x.attrs ++ (lines (1 + length x.attrs) x.kids ++ s.behind)) z x.place (omega (arith, s.at)))

-- the lines behind a node's own
behind_own : {A : Type 0} (before back ls : List (Line A)) (own : Line A) (p k : ℕ) (z : Line A) → ls ≡ before ++ (own ∷ back) → p ≡ length before → get_or ls (p + suc k) z ≡ get_or back k z
behind_own before back ls own p k z e at =
    ap (λ l. get_or l (p + suc k) z) e ∙ ap (λ m. get_or (before ++ (own ∷ back)) (m + suc k) z) at ∙ get_or-append-add before (own ∷ back) (suc k) z

-- an attribute and a child stand as far from their parent as their place tells
pub attribute_line : {A : Type 0} (f : Forest A) (y x : Node A) (z : Line A) → IsIn (nodes f) y → IsIn (attributes y) x → get_or (flatten f) x.place z ≡ own_line (x.place - y.place) x
attribute_line {A = A} f y x z h c =
    let s = stands 0 0 f y h in
    let r = attr_in (y.place + 1) y.attrs x c in
    let al : List (Line A) = attr_lines 1 y.attrs in
    let back : List (Line A) = lines (1 + length y.attrs) y.kids ++ s.behind in
    let len : length al ≡ length y.attrs = length-attr_lines 1 y.attrs in
    ap (λ m. get_or (flatten f) m z) (omega (arith, r.at))
    ∙ behind_own s.before (al ++ back) (flatten f) (own_line s.dist y) y.place r.k z s.are (omega (arith, s.at))
    ∙ get_or_append_left al back z r.k (omega (arith, r.within, len))
    ∙ attr_line 1 (y.place + 1) r.k y.attrs x z c r.at
    ∙ ap (λ m. own_line m x) (omega (arith, r.at))

pub child_line : {A : Type 0} (f : Forest A) (y x : Node A) (z : Line A) → IsIn (nodes f) y → IsIn (children y) x → get_or (flatten f) x.place z ≡ own_line (x.place - y.place) x
child_line {A = A} f y x z h c =
    let s = stands 0 0 f y h in
    let r = top_in (y.place + (1 + length y.attrs)) y.kids x c in
    let k : ℕ = x.place - (y.place + (1 + length y.attrs)) in
    let al : List (Line A) = attr_lines 1 y.attrs in
    let ks : List (Line A) = lines (1 + length y.attrs) y.kids in
    let len : length al ≡ length y.attrs = length-attr_lines 1 y.attrs in
    ap (λ m. get_or (flatten f) m z) (omega (arith, r.from))
    ∙ behind_own s.before (al ++ (ks ++ s.behind)) (flatten f) (own_line s.dist y) y.place (length y.attrs + k) z s.are (omega (arith, s.at))
    ∙ ap (λ m. get_or (al ++ (ks ++ s.behind)) (m + k) z) (sym len)
    ∙ get_or-append-add al (ks ++ s.behind) k z
    ∙ get_or_append_left ks s.behind z k (omega (arith, r.within, length-lines (1 + length y.attrs) y.kids, r.from))
    ∙ top_line (1 + length y.attrs) (y.place + (1 + length y.attrs)) k y.kids x z (omega arith) c (omega (arith, r.from))
    ∙ ap (λ m. own_line m x) (omega (arith, r.from))
