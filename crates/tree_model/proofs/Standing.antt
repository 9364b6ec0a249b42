-- Nodes among the lines of their trees.
use Rattle.std.proofs.Common.{◌≡◌, inl, inr, ℕ, zero, suc, ◌+◌, ◌<◌, Bool, true, false, cond, List, [], ◌∷◌, ◌++◌, length, map, refl, sym, ap, ◌∙◌, subst, arith, append_assoc, append-nil, length-append, zero-add, add-zero}
use Rattle.std.specs.Prelude.{◌⊎◌, ◌||◌, filter, nat_eq}
use Rattle.std.specs.List.{Contains, slice_index_or, range_with_len}
use Rattle.std.proofs.lemmas.List.{map-append}
use Rattle.tree_model.specs.Forest.{Forest, none, tree, count, Line, raise, attr_lines, lines}
use Rattle.tree_model.specs.Nodes.{Node, attr_nodes, nodes_from, nodes, root_nodes_from, children, is_among, is_place_among, in_document_order}
use Rattle.tree_model.specs.Trees.{length-lines, length-attr_lines}

-- ---- elements of lists

abbrev pub IsIn : {A : Type 0} → List A → A → Type 0
IsIn [] x = ⊥
IsIn (y ∷ ys) x = (y ≡ x) ⊎ IsIn ys x

in_at : {A : Type 0} (xs : List A) (x : A) (k : ℕ) → k < length xs → slice_index_or xs k x ≡ x → IsIn xs x
in_at [] x k lt is = absurd (omega arith)
in_at (y ∷ ys) x zero lt is = inl is
in_at (y ∷ ys) x (suc k) lt is = inr (in_at ys x k (omega arith) is)

pub in_from : {A : Type 0} (xs : List A) (x : A) → Contains xs x → IsIn xs x
in_from xs x h = in_at xs x h.0 h.1 h.2

pub in_contains : {A : Type 0} (xs : List A) (x : A) → IsIn xs x → Contains xs x
in_contains [] x h = absurd h
in_contains (y ∷ ys) x (inl e) = (0, omega arith, e)
in_contains (y ∷ ys) x (inr h) = let c = in_contains ys x h in (suc c.0, omega (arith, c.1), c.2)

pub in_append : {A : Type 0} (xs ys : List A) (x : A) → IsIn (xs ++ ys) x → IsIn xs x ⊎ IsIn ys x
in_append [] ys x h = inr h
in_append (z ∷ xs) ys x (inl e) = inl (inl e)
in_append (z ∷ xs) ys x (inr h) = elim (in_append xs ys x h) [ inl a ↦ inl (inr a) | inr b ↦ inr b ]

pub in_left : {A : Type 0} (xs ys : List A) (x : A) → IsIn xs x → IsIn (xs ++ ys) x
in_left [] ys x h = absurd h
in_left (z ∷ xs) ys x (inl e) = inl e
in_left (z ∷ xs) ys x (inr h) = inr (in_left xs ys x h)

pub in_right : {A : Type 0} (xs ys : List A) (x : A) → IsIn ys x → IsIn (xs ++ ys) x
in_right [] ys x h = h
in_right (z ∷ xs) ys x h = inr (in_right xs ys x h)

pub in_filter : {A : Type 0} (test : A → Bool) (xs : List A) (x : A) → IsIn (filter test xs) x → IsIn xs x
in_filter test [] x h = h
in_filter test (y ∷ ys) x h = by (in_filter test ys x) (test y) h
  where
    by : (IsIn (filter test ys) x → IsIn ys x) → (b : Bool) → IsIn (cond b (y ∷ filter test ys) (filter test ys)) x → (y ≡ x) ⊎ IsIn ys x
    by more true (inl e) = inl e
    by more true (inr h) = inr (more h)
    by more false h = inr (more h)

-- ---- a node and its lines

abbrev pub own_line : {A : Type 0} → ℕ → Node A → Line A
own_line dist node = record { label = node.label; dist = dist; size = 1 + length node.attrs + count node.kids; asize = 1 + length node.attrs }

-- the lines of trees that begin at place n have those of the node, its attributes and its children in them
pub record Stands (A : Type 0) (n : ℕ) (ls : List (Line A)) (node : Node A) : Type 0 where
  pub before : List (Line A)
  pub dist : ℕ
  pub behind : List (Line A)
  pub are : ls ≡ before ++ (own_line dist node ∷ (attr_lines 1 node.attrs ++ (lines (1 + length node.attrs) node.kids ++ behind)))
  pub at : node.place ≡ n + length before

-- and so have lines with more before and behind them
further : {A : Type 0} (n m : ℕ) (front ls back all : List (Line A)) (node : Node A) → m ≡ n + length front → all ≡ front ++ (ls ++ back) → Stands A m ls node → Stands A n all node
further n m front ls back all node e is s = record {
  before = front ++ s.before;
  dist = s.dist;
  behind = s.behind ++ back;
  are = is ∙ ap (λ l. front ++ (l ++ back)) s.are ∙ simp append_assoc;
  at = omega (arith, s.at, length-append front s.before);
}

stands_attr : {A : Type 0} (d n : ℕ) (attrs : List A) (node : Node A) → IsIn (attr_nodes n attrs) node → Stands A n (attr_lines d attrs) node
stands_attr d n [] node h = absurd h
stands_attr {A = A} d n (a ∷ attrs) node (inl e) =
    subst (λ (x : Node A). Stands A n (attr_lines d (a ∷ attrs)) x) e
    (record { before = []; dist = d; behind = attr_lines (suc d) attrs; are = refl; at = omega arith })
stands_attr {A = A} d n (a ∷ attrs) node (inr h) =
    further n (suc n) (record { label = a; dist = d; size = 1; asize = 1 } ∷ []) (attr_lines (suc d) attrs) [] (attr_lines d (a ∷ attrs)) node (omega arith) (simp append-nil) (stands_attr (suc d) (suc n) attrs node h)

pub stands : {A : Type 0} (d n : ℕ) (f : Forest A) (node : Node A) → IsIn (nodes_from n f) node → Stands A n (lines d f) node
stands d n none node h = absurd h
stands {A = A} d n (tree a attrs kids rest) node (inl e) =
    subst (λ (x : Node A). Stands A n (lines d (tree a attrs kids rest)) x) e
    (record { before = []; dist = d; behind = lines (raise d (1 + length attrs + count kids)) rest; are = refl; at = omega arith })
stands {A = A} d n (tree a attrs kids rest) node (inr h) =
    by (in_append (attr_nodes (n + 1) attrs) (nodes_from (n + (1 + length attrs)) kids ++ nodes_from (n + (1 + length attrs + count kids)) rest) node h)
    (stands (1 + length attrs) (n + (1 + length attrs)) kids node) (stands (raise d (1 + length attrs + count kids)) (n + (1 + length attrs + count kids)) rest node)
  where
    own : Line A
    own = record { label = a; dist = d; size = 1 + length attrs + count kids; asize = 1 + length attrs }

    al : List (Line A)
    al = attr_lines 1 attrs

    ks : List (Line A)
    ks = lines (1 + length attrs) kids

    rs : List (Line A)
    rs = lines (raise d (1 + length attrs + count kids)) rest

    inner : (IsIn (nodes_from (n + (1 + length attrs)) kids) node → Stands A (n + (1 + length attrs)) ks node)
        → (IsIn (nodes_from (n + (1 + length attrs + count kids)) rest) node → Stands A (n + (1 + length attrs + count kids)) rs node)
        → IsIn (nodes_from (n + (1 + length attrs)) kids) node ⊎ IsIn (nodes_from (n + (1 + length attrs + count kids)) rest) node → Stands A n (own ∷ (al ++ (ks ++ rs))) node
    inner in_kids in_rest (inl k) =
        further n (n + (1 + length attrs)) (own ∷ al) ks rs (own ∷ (al ++ (ks ++ rs))) node (omega (arith, length-attr_lines 1 attrs)) refl (in_kids k)
    inner in_kids in_rest (inr r) =
        further n (n + (1 + length attrs + count kids)) (own ∷ (al ++ ks)) rs [] (own ∷ (al ++ (ks ++ rs))) node
        (omega (arith, length-append al ks, length-attr_lines 1 attrs, length-lines (1 + length attrs) kids)) (simp (append_assoc, append-nil)) (in_rest r)

    by : IsIn (attr_nodes (n + 1) attrs) node ⊎ IsIn (nodes_from (n + (1 + length attrs)) kids ++ nodes_from (n + (1 + length attrs + count kids)) rest) node
        → (IsIn (nodes_from (n + (1 + length attrs)) kids) node → Stands A (n + (1 + length attrs)) ks node)
        → (IsIn (nodes_from (n + (1 + length attrs + count kids)) rest) node → Stands A (n + (1 + length attrs + count kids)) rs node)
        → Stands A n (own ∷ (al ++ (ks ++ rs))) node
    by (inl h) in_kids in_rest =
        further n (n + 1) (own ∷ []) al (ks ++ rs) (own ∷ (al ++ (ks ++ rs))) node (omega arith) refl (stands_attr 1 (n + 1) attrs node h)
    by (inr h) in_kids in_rest =
        inner in_kids in_rest (in_append (nodes_from (n + (1 + length attrs)) kids) (nodes_from (n + (1 + length attrs + count kids)) rest) node h)

-- ---- children are nodes

pub roots_in : {A : Type 0} (n : ℕ) (f : Forest A) (node : Node A) → IsIn (root_nodes_from n f) node → IsIn (nodes_from n f) node
roots_in n none node h = h
roots_in n (tree a attrs kids rest) node (inl e) = inl e
roots_in n (tree a attrs kids rest) node (inr h) =
    inr (in_right (attr_nodes (n + 1) attrs) _ node (in_right (nodes_from (n + (1 + length attrs)) kids) _ node (roots_in (n + (1 + length attrs + count kids)) rest node h)))

attr_no_kids : {A : Type 0} (n : ℕ) (attrs : List A) (node child : Node A) → IsIn (attr_nodes n attrs) node → IsIn (children node) child → ⊥
attr_no_kids n [] node child h c = h
attr_no_kids {A = A} n (a ∷ attrs) node child (inl e) c =
    let P : Node A → Type 0 = λ x. IsIn (children x) child in subst P (sym e) c
attr_no_kids n (a ∷ attrs) node child (inr h) c = attr_no_kids (suc n) attrs node child h c

pub children_in : {A : Type 0} (n : ℕ) (f : Forest A) (node child : Node A) → IsIn (nodes_from n f) node → IsIn (children node) child → IsIn (nodes_from n f) child
children_in n none node child h c = h
children_in {A = A} n (tree a attrs kids rest) node child (inl e) c =
    let P : Node A → Type 0 = λ x. IsIn (children x) child in
    let own : IsIn (root_nodes_from (n + (1 + length attrs)) kids) child = subst P (sym e) c in
    inr (in_right (attr_nodes (n + 1) attrs) _ child (in_left (nodes_from (n + (1 + length attrs)) kids) _ child (roots_in (n + (1 + length attrs)) kids child own)))
children_in {A = A} n (tree a attrs kids rest) node child (inr h) c =
    by (in_append (attr_nodes (n + 1) attrs) _ node h) (λ k. children_in (n + (1 + length attrs)) kids node child k c) (λ r. children_in (n + (1 + length attrs + count kids)) rest node child r c)
  where
    ks : List (Node A)
    ks = nodes_from (n + (1 + length attrs)) kids

    rs : List (Node A)
    rs = nodes_from (n + (1 + length attrs + count kids)) rest

    inner : (IsIn ks node → IsIn ks child) → (IsIn rs node → IsIn rs child) → IsIn ks node ⊎ IsIn rs node → IsIn (ks ++ rs) child
    inner in_kids in_rest (inl k) = in_left ks rs child (in_kids k)
    inner in_kids in_rest (inr r) = in_right ks rs child (in_rest r)

    by : IsIn (attr_nodes (n + 1) attrs) node ⊎ IsIn (ks ++ rs) node → (IsIn ks node → IsIn ks child) → (IsIn rs node → IsIn rs child)
        → IsIn (nodes_from n (tree a attrs kids rest)) child
    by (inl h) in_kids in_rest = absurd (attr_no_kids (n + 1) attrs node child h c)
    by (inr h) in_kids in_rest = inr (in_right (attr_nodes (n + 1) attrs) (ks ++ rs) child (inner in_kids in_rest (in_append ks rs node h)))

-- ---- places

abbrev pub place_of : {A : Type 0} → Node A → ℕ
place_of node = node.place

pub place_below : {A : Type 0} (f : Forest A) (node : Node A) → IsIn (nodes f) node → node.place < count f
place_below f node h =
    let s = stands 0 0 f node h in
    let whole = ap length s.are ∙ length-append s.before (own_line s.dist node ∷ (attr_lines 1 node.attrs ++ (lines (1 + length node.attrs) node.kids ++ s.behind))) in
    omega (arith, s.at, whole, length-lines 0 f)

pub range-append : (n a b : ℕ) → range_with_len n (a + b) ≡ range_with_len n a ++ range_with_len (n + a) b
range-append n zero b = rw (zero-add b, add-zero n) refl
range-append n (suc a) b =
    let e : suc a + b ≡ suc (a + b) = omega arith in
    let k : n + 1 + a ≡ n + suc a = omega arith in
    ap (range_with_len n) e ∙ ap (λ l. n ∷ l) (range-append (n + 1) a b ∙ ap (λ m. range_with_len (n + 1) a ++ range_with_len m b) k)

pub attr_places : {A : Type 0} (n : ℕ) (attrs : List A) → map place_of (attr_nodes n attrs) ≡ range_with_len n (length attrs)
attr_places n [] = refl
attr_places n (a ∷ attrs) = ap (λ l. n ∷ l) (attr_places (suc n) attrs ∙ ap (λ m. range_with_len m (length attrs)) (omega arith))

-- the nodes stand at all places, one after the other
pub node_places : {A : Type 0} (n : ℕ) (f : Forest A) → map place_of (nodes_from n f) ≡ range_with_len n (count f)
node_places n none = refl
node_places {A = A} n (tree a attrs kids rest) =
    let al : List (Node A) = attr_nodes (n + 1) attrs in
    let ks : List (Node A) = nodes_from (n + (1 + length attrs)) kids in
    let rs : List (Node A) = nodes_from (n + (1 + length attrs + count kids)) rest in
    let whole : 1 + length attrs + count kids + count rest ≡ suc (length attrs + (count kids + count rest)) = omega arith in
    let k : n + 1 + length attrs ≡ n + (1 + length attrs) = omega arith in
    let r : n + 1 + length attrs + count kids ≡ n + (1 + length attrs + count kids) = omega arith in
    ap (λ l. n ∷ l) (
    map-append place_of al (ks ++ rs)
    ∙ ap (λ l. map place_of al ++ l) (map-append place_of ks rs)
    ∙ ap (λ l. l ++ (map place_of ks ++ map place_of rs)) (attr_places (n + 1) attrs)
    ∙ ap (λ l. range_with_len (n + 1) (length attrs) ++ (l ++ map place_of rs)) (node_places (n + (1 + length attrs)) kids)
    ∙ ap (λ l. range_with_len (n + 1) (length attrs) ++ (range_with_len (n + (1 + length attrs)) (count kids) ++ l)) (node_places (n + (1 + length attrs + count kids)) rest)
    ∙ sym (range-append (n + 1) (length attrs) (count kids + count rest)
    ∙ ap (λ l. range_with_len (n + 1) (length attrs) ++ l) (range-append (n + 1 + length attrs) (count kids) (count rest)
    ∙ ap (λ m. range_with_len m (count kids) ++ range_with_len (n + 1 + length attrs + count kids) (count rest)) k
    ∙ ap (λ m. range_with_len (n + (1 + length attrs)) (count kids) ++ range_with_len m (count rest)) r))
    )
    ∙ sym (ap (range_with_len n) whole)

-- ---- document order

pub same_among : {A : Type 0} (found : List (Node A)) (node : Node A) → is_among found node ≡ is_place_among (map place_of found) node.place
same_among [] node = refl
same_among (other ∷ found) node = ap (λ b. nat_eq other.place node.place || b) (same_among found node)

map_filter : {A : Type 0} (found xs : List (Node A)) → map place_of (filter (is_among found) xs) ≡ filter (is_place_among (map place_of found)) (map place_of xs)
map_filter found [] = refl
map_filter {A = A} found (x ∷ xs) = by (map_filter found xs) (is_among found x) (is_place_among (map place_of found) x.place) (same_among found x)
  where
    by : map place_of (filter (is_among found) xs) ≡ filter (is_place_among (map place_of found)) (map place_of xs) → (b c : Bool) → b ≡ c → map place_of (cond b (x ∷ filter (is_among found) xs) (filter (is_among found) xs))
        ≡ cond c (x.place ∷ filter (is_place_among (map place_of found)) (map place_of xs)) (filter (is_place_among (map place_of found)) (map place_of xs))
    by more true true e = ap (λ l. x.place ∷ l) more
    by more true false e = cc
    by more false true e = cc
    by more false false e = more

-- nodes in document order stand at their places in order
pub places_in_order : {A : Type 0} (f : Forest A) (found : List (Node A)) →
    map place_of (in_document_order f found) ≡ filter (is_place_among (map place_of found)) (range_with_len 0 (count f))
places_in_order f found = map_filter found (nodes f) ∙ ap (filter (is_place_among (map place_of found))) (node_places 0 f)

pub in_order_in : {A : Type 0} (f : Forest A) (found : List (Node A)) (node : Node A) → IsIn (in_document_order f found) node → IsIn (nodes f) node
in_order_in f found node h = in_filter (is_among found) (nodes f) node h
