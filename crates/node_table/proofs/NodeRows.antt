-- The rows of nodes.
use Rattle.std.proofs.Common.{◌≡◌, ◌≢◌, eq-eqb, inl, inr, ℕ, zero, suc, ◌+◌, ◌-◌, ◌<◌, ◌≤◌, true, false, cond, List, [], ◌∷◌, ◌++◌, length, get_or, refl, sym, ap, ◌∙◌, subst, arith, length-append}
use Rattle.std.specs.Prelude.{◌⊎◌, filter, nat_eq}
use Rattle.std.specs.List.{list_all, range_with_len}
use Rattle.std.proofs.lemmas.Bool.{and_parts, not-true}
use Rattle.std.proofs.lemmas.Bool.Decides.{eqb_tells}
use Rattle.std.proofs.lemmas.List.{get_or-map, get_or_at, length-map, map-append}
use Rattle.tree_model.specs.Axes.{attributes, below}
use Rattle.tree_model.specs.Forest.{Forest, none, tree, count, Line, attr_lines, lines, flatten}
use Rattle.tree_model.specs.Labels.{Label}
use Rattle.tree_model.specs.Nodes.{Node, attr_nodes, nodes_from, nodes, root_nodes_from, children}
use Rattle.tree_model.specs.Rows.{label_of, line_of}
use Rattle.tree_model.specs.Sound.{AllRoots, is_attr}
use Rattle.tree_model.specs.Trees.{length-lines, length-attr_lines}
use Rattle.tree_model.specs.declared.row.Kind.{Kind}
use Rattle.tree_model.specs.declared.row.Kind.TheVariants.{Doc, Elem, Text, Attr, Comm, Pi}
use Rattle.tree_model.specs.declared.row.Row.{Row}
use Rattle.tree_model.specs.declared.text.Name.{Name}
use Rattle.tree_model.proofs.Relations.{weight, has_parent, inside_in, attribute_line, child_line, root_line}
use Rattle.tree_model.proofs.Standing.{IsIn, in_append, in_left, own_line, stands, roots_in, children_in, place_below, attr_places, range-append, node_places}
use Rattle.node_table.specs.Laid.{no_row, row_at, is_attribute, dist_at, size_at, asize_at, is_attr_at}
use Rattle.node_table.specs.Views.{view_of, view_forest, is_no_attr, HasKinds, KeepsTrees, places_of}

-- ---- a node at each place

pub some_there : (n m p : ℕ) (xs : List (Node Label)) → places_of xs ≡ range_with_len n m → n ≤ p → p < n + m → (node : Node Label) × IsIn xs node × (node.place ≡ p)
some_there n zero p xs e le lt = absurd (omega arith)
some_there n (suc m) p [] e le lt = cc
some_there n (suc m) p (x ∷ xs) e le lt = by (some_there (n + 1) m p xs rest) (eqb_tells n p)
  where
    first : x.place ≡ n
    first = cc

    rest : places_of xs ≡ range_with_len (n + 1) m
    rest = cc

    by : (n + 1 ≤ p → p < n + 1 + m → (node : Node Label) × IsIn xs node × (node.place ≡ p)) → ((nat_eq n p ≡ true) × (n ≡ p)) ⊎ ((nat_eq n p ≡ false) × (n ≢ p)) → (node : Node Label) × IsIn (x ∷ xs) node × (node.place ≡ p)
    by more (inl h) = (x, inl refl, first ∙ h.1)
    by more (inr h) =
        let further : n + 1 ≤ p = let apart : n ≢ p = h.1 in omega arith in
        let found = more further (omega arith) in
        (found.0, inr found.1, found.2)

pub later : (n m : ℕ) (xs : List (Node Label)) (node : Node Label) → places_of xs ≡ range_with_len n m → IsIn xs node → n ≤ node.place
later n m [] node e h = absurd h
later n zero (x ∷ xs) node e h = cc
later n (suc m) (x ∷ xs) node e (inl is) =
    let first : x.place ≡ n = cc in
    let same : x.place ≡ node.place = ap (λ (y : Node Label). y.place) is in
    omega arith
later n (suc m) (x ∷ xs) node e (inr h) =
    let rest : places_of xs ≡ range_with_len (n + 1) m = cc in
    let after = later (n + 1) m xs node rest h in
    omega (arith, after)

pub before : (n m : ℕ) (xs : List (Node Label)) (node : Node Label) → places_of xs ≡ range_with_len n m → IsIn xs node → node.place < n + m
before n m [] node e h = absurd h
before n zero (x ∷ xs) node e h = cc
before n (suc m) (x ∷ xs) node e (inl is) =
    let first : x.place ≡ n = cc in
    let same : x.place ≡ node.place = ap (λ (y : Node Label). y.place) is in
    omega arith
before n (suc m) (x ∷ xs) node e (inr h) =
    let rest : places_of xs ≡ range_with_len (n + 1) m = cc in
    let less = before (n + 1) m xs node rest h in
    omega (arith, less)

none_there : (n m p : ℕ) (xs : List (Node Label)) → places_of xs ≡ range_with_len n m → p < n → filter (λ (node : Node Label). nat_eq node.place p) xs ≡ []
none_there n m p [] e lt = refl
none_there n zero p (x ∷ xs) e lt = cc
none_there n (suc m) p (x ∷ xs) e lt =
    let first : x.place ≡ n = cc in
    let rest : places_of xs ≡ range_with_len (n + 1) m = cc in
    let apart : nat_eq x.place p ≡ false = elim (eqb_tells x.place p) [ inl z ↦ absurd (omega (arith, z.1)) | inr z ↦ z.0 ] in
    ap (λ b. cond b (x ∷ filter (λ (node : Node Label). nat_eq node.place p) xs) (filter (λ (node : Node Label). nat_eq node.place p) xs)) apart ∙ none_there (n + 1) m p xs rest (omega arith)

-- a node is the one at its place
pub one_there : (n m : ℕ) (xs : List (Node Label)) (node : Node Label) → places_of xs ≡ range_with_len n m → IsIn xs node → filter (λ (other : Node Label). nat_eq other.place node.place) xs ≡ node ∷ []
one_there n m [] node e h = absurd h
one_there n zero (x ∷ xs) node e h = cc
one_there n (suc m) (x ∷ xs) node e (inl is) =
    let first : x.place ≡ n = cc in
    let rest : places_of xs ≡ range_with_len (n + 1) m = cc in
    let same : x.place ≡ node.place = ap (λ (y : Node Label). y.place) is in
    let more : List (Node Label) = filter (λ (other : Node Label). nat_eq other.place node.place) xs in
    ap (λ b. cond b (x ∷ more) more) (eq-eqb x.place node.place same) ∙ ap (λ l. x ∷ l) (none_there (n + 1) m node.place xs rest (omega arith)) ∙ ap (λ y. y ∷ []) is
one_there n (suc m) (x ∷ xs) node e (inr h) =
    let first : x.place ≡ n = cc in
    let rest : places_of xs ≡ range_with_len (n + 1) m = cc in
    let after : n + 1 ≤ node.place = later (n + 1) m xs node rest h in
    let apart : nat_eq x.place node.place ≡ false = elim (eqb_tells x.place node.place) [ inl z ↦ absurd (omega (arith, z.1)) | inr z ↦ z.0 ] in
    let more : List (Node Label) = filter (λ (other : Node Label). nat_eq other.place node.place) xs in
    ap (λ b. cond b (x ∷ more) more) apart ∙ one_there (n + 1) m xs node rest h

-- no two nodes have one place
same_there : (n m : ℕ) (xs : List (Node Label)) (a b : Node Label) → places_of xs ≡ range_with_len n m → IsIn xs a → IsIn xs b → a.place ≡ b.place → a ≡ b
same_there n m [] a b e h k same = absurd h
same_there n zero (x ∷ xs) a b e h k same = cc
same_there n (suc m) (x ∷ xs) a b e (inl is) (inl is') same = sym is ∙ is'
same_there n (suc m) (x ∷ xs) a b e (inl is) (inr k) same =
    let first : x.place ≡ n = cc in
    let rest : places_of xs ≡ range_with_len (n + 1) m = cc in
    let at : x.place ≡ a.place = ap (λ (y : Node Label). y.place) is in
    absurd (omega (arith, later (n + 1) m xs b rest k))
same_there n (suc m) (x ∷ xs) a b e (inr h) (inl is) same =
    let first : x.place ≡ n = cc in
    let rest : places_of xs ≡ range_with_len (n + 1) m = cc in
    let at : x.place ≡ b.place = ap (λ (y : Node Label). y.place) is in
    absurd (omega (arith, later (n + 1) m xs a rest h))
same_there n (suc m) (x ∷ xs) a b e (inr h) (inr k) same =
    let rest : places_of xs ≡ range_with_len (n + 1) m = cc in
    same_there (n + 1) m xs a b rest h k same

pub same_node : (f : Forest Label) (a b : Node Label) → IsIn (nodes f) a → IsIn (nodes f) b → a.place ≡ b.place → a ≡ b
same_node f a b h k e = same_there 0 (count f) (nodes f) a b (node_places 0 f) h k e

-- ---- kinds

kinds_agree : (k : Kind) (id : ℕ) (name : Name) (value : List ℕ) → is_attr (record { kind = k; id = id; name = name; value = value }) ≡ is_attribute k
kinds_agree Doc id name value = refl
kinds_agree Elem id name value = refl
kinds_agree Text id name value = refl
kinds_agree Attr id name value = refl
kinds_agree Comm id name value = refl
kinds_agree Pi id name value = refl

pub attr_kind : (label : Label) → is_attr label ≡ is_attribute label.kind
attr_kind label = kinds_agree label.kind label.id label.name label.value

pub roots_plain : (n : ℕ) (f : Forest Label) (x : Node Label) → AllRoots is_no_attr f → IsIn (root_nodes_from n f) x → is_attr x.label ≡ false
roots_plain n none x plain h = absurd h
roots_plain n (tree label attrs kids rest) x plain (inl e) = sym (ap (λ (y : Node Label). is_attr y.label) e) ∙ not-true (is_attr label) plain.0
roots_plain n (tree label attrs kids rest) x plain (inr h) = roots_plain (n + (1 + length attrs + count kids)) rest x plain.1 h

pub attrs_marked : (n : ℕ) (attrs : List Label) (x : Node Label) → list_all is_attr attrs ≡ true → IsIn (attr_nodes n attrs) x → is_attr x.label ≡ true
attrs_marked n [] x all h = absurd h
attrs_marked n (a ∷ attrs) x all (inl e) = sym (ap (λ (y : Node Label). is_attr y.label) e) ∙ (and_parts (is_attr a) (list_all is_attr attrs) all).0
attrs_marked n (a ∷ attrs) x all (inr h) = attrs_marked (suc n) attrs x (and_parts (is_attr a) (list_all is_attr attrs) all).1 h

abbrev pub Own : Node Label → Type 0
Own y = HasKinds y.kids × (list_all is_attr y.attrs ≡ true) × AllRoots is_no_attr y.kids

attr_kinds : (n : ℕ) (attrs : List Label) (y : Node Label) → IsIn (attr_nodes n attrs) y → Own y
attr_kinds n [] y h = absurd h
attr_kinds n (a ∷ attrs) y (inl e) = subst Own e (tt, refl, tt)
attr_kinds n (a ∷ attrs) y (inr h) = attr_kinds (suc n) attrs y h

-- what stands below a node has its kinds
pub own_kinds : (n : ℕ) (f : Forest Label) (y : Node Label) → HasKinds f → IsIn (nodes_from n f) y → Own y
own_kinds n none y kinds h = absurd h
own_kinds n (tree label attrs kids rest) y kinds (inl e) = subst Own e (kinds.2, kinds.0, kinds.1)
own_kinds n (tree label attrs kids rest) y kinds (inr h) =
    elim (in_append (attr_nodes (n + 1) attrs) (nodes_from (n + (1 + length attrs)) kids ++ nodes_from (n + (1 + length attrs + count kids)) rest) y h) [
      | inl a ↦ attr_kinds (n + 1) attrs y a
      | inr more ↦ elim (in_append (nodes_from (n + (1 + length attrs)) kids) (nodes_from (n + (1 + length attrs + count kids)) rest) y more) [
        | inl k ↦ own_kinds (n + (1 + length attrs)) kids y kinds.2 k
        | inr r ↦ own_kinds (n + (1 + length attrs + count kids)) rest y kinds.3 r
      ]
    ]

-- ---- rows

-- the row at a node's place is the node's
pub record IsRowOf (names : List Name) (values : List ℕ) (rows : List Row) (d : ℕ) (x : Node Label) : Type 0 where
  pub within : x.place < length rows
  pub dist : dist_at rows x.place ≡ d
  pub size : size_at rows x.place ≡ weight x
  pub asize : asize_at rows x.place ≡ 1 + length x.attrs
  pub label : label_of names values (row_at rows x.place) ≡ x.label
  pub kind : is_attr_at rows x.place ≡ is_attr x.label

module _ (names : List Name) (values : List ℕ) (rows : List Row) (trees : KeepsTrees (view_of rows names values)) where
  abbrev pub f : Forest Label
  f = view_forest (view_of rows names values)

  abbrev pub line : Row → Line Label
  line = line_of names values

  pub nodes_counted : count f ≡ length rows
  nodes_counted = sym (length-lines 0 f) ∙ ap length trees.flat ∙ length-map rows line

  pub row_of : (x : Node Label) (d : ℕ) → IsIn (nodes f) x → ((z : Line Label) → get_or (flatten f) x.place z ≡ own_line d x) → IsRowOf names values rows d x
  row_of x d h is = record {
    within = lt;
    dist = ap (λ (l : Line Label). l.dist) same;
    size = ap (λ (l : Line Label). l.size) same;
    asize = ap (λ (l : Line Label). l.asize) same;
    label = labels;
    kind = sym (attr_kind (label_of names values (row_at rows x.place))) ∙ ap is_attr labels;
  }
    where
      lt : x.place < length rows
      lt = omega (arith, place_below f x h, nodes_counted)

      same : line (row_at rows x.place) ≡ own_line d x
      same = sym (get_or-map line rows x.place no_row (line no_row) lt) ∙ ap (λ (ls : List (Line Label)). get_or ls x.place (line no_row)) (sym trees.flat) ∙ is (line no_row)

      labels : label_of names values (row_at rows x.place) ≡ x.label
      labels = ap (λ (l : Line Label). l.label) same

  pub some_row : (x : Node Label) → IsIn (nodes f) x → (d : ℕ) × IsRowOf names values rows d x
  some_row x h =
      let s = stands 0 0 f x h in
      (s.dist, row_of x s.dist h (λ z. ap (λ l. get_or l x.place z) s.are ∙ get_or_at s.before (own_line s.dist x) (attr_lines 1 x.attrs ++ (lines (1 + length x.attrs) x.kids ++ s.behind)) z x.place (omega (arith, s.at))))

  pub root_row : (x : Node Label) → IsIn (root_nodes_from 0 f) x → IsRowOf names values rows 0 x
  root_row x t = row_of x 0 (roots_in 0 f x t) (λ z. root_line f x z t)

  pub child_row : (y x : Node Label) → IsIn (nodes f) y → IsIn (children y) x → IsRowOf names values rows (x.place - y.place) x
  child_row y x h c = row_of x (x.place - y.place) (children_in 0 f y x h c) (λ z. child_line f y x z h c)

  pub attribute_row : (y x : Node Label) → IsIn (nodes f) y → IsIn (attributes y) x → IsRowOf names values rows (x.place - y.place) x
  attribute_row y x h c = row_of x (x.place - y.place) (inside_in 0 f y x h (in_left (attributes y) (below y) x c)) (λ z. attribute_line f y x z h c)

  -- the node of a row
  pub node_of : (p : ℕ) → p < length rows → (x : Node Label) × IsIn (nodes f) x × (x.place ≡ p)
  node_of p lt = some_there 0 (count f) p (nodes f) (node_places 0 f) (omega arith) (omega (arith, nodes_counted))

  -- a subtree ends within the rows
  pub ends_within : (x : Node Label) → IsIn (nodes f) x → x.place + weight x ≤ length rows
  ends_within x h =
      let s = stands 0 0 f x h in
      let al : List (Line Label) = attr_lines 1 x.attrs in
      let ks : List (Line Label) = lines (1 + length x.attrs) x.kids in
      let whole = ap length s.are ∙ length-append s.before (own_line s.dist x ∷ (al ++ (ks ++ s.behind))) in
      omega (arith, s.at, whole, length-lines 0 f, length-append al (ks ++ s.behind), length-append ks s.behind, length-attr_lines 1 x.attrs, length-lines (1 + length x.attrs) x.kids, nodes_counted)

  -- the places inside a subtree
  pub inside_places : (x : Node Label) → places_of (attributes x ++ below x) ≡ range_with_len (x.place + 1) (length x.attrs + count x.kids)
  inside_places x =
      let e : x.place + 1 + length x.attrs ≡ x.place + (1 + length x.attrs) = omega arith in
      map-append (λ (y : Node Label). y.place) (attributes x) (below x)
      ∙ ap (λ l. l ++ places_of (below x)) (attr_places (x.place + 1) x.attrs)
      ∙ ap (λ l. range_with_len (x.place + 1) (length x.attrs) ++ l) (node_places (x.place + (1 + length x.attrs)) x.kids ∙ ap (λ m. range_with_len m (count x.kids)) (sym e))
      ∙ sym (range-append (x.place + 1) (length x.attrs) (count x.kids))

  -- the node of a row inside a subtree
  pub node_inside : (x : Node Label) (r : ℕ) → x.place < r → r < x.place + weight x → (w : Node Label) × IsIn (attributes x ++ below x) w × (w.place ≡ r)
  node_inside x r gt lt = some_there (x.place + 1) (length x.attrs + count x.kids) r (attributes x ++ below x) (inside_places x) (omega arith) (omega arith)

  -- how a node that is no root stands to its parent
  pub data Kin (w : Node Label) : Type 0 where
    root : IsIn (root_nodes_from 0 f) w → Kin w
    child : (y : Node Label) → IsIn (nodes f) y → IsIn (children y) w → Kin w
    attribute : (y : Node Label) → IsIn (nodes f) y → IsIn (attributes y) w → Kin w

  pub kin : (w : Node Label) → IsIn (nodes f) w → Kin w
  kin w h =
      elim (has_parent 0 f w h) [
        | inl t ↦ root t
        | inr y ↦ elim y.2 [ inl c ↦ child y.0 y.1 c | inr a ↦ attribute y.0 y.1 a ]
      ]
