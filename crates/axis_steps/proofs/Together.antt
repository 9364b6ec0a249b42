-- `//` and a step to children are one step to descendants.
use Rattle.std.proofs.Common.{◌≡◌, inl, inr, ℕ, suc, ◌+◌, ◌<◌, Bool, true, false, not, cond, List, [], ◌∷◌, ◌++◌, length, refl, sym, ap, ap₂, ◌∙◌, subst, reverse}
use Rattle.std.specs.Prelude.{◌⊎◌, ◌&&◌, ◌||◌, nat_eq, filter, Some}
use denote.Ref.{Bor}
use Rattle.std.specs.Bool.{Decides}
use Rattle.std.specs.List.{All, Contains, flat_map, range_with_len}
use Rattle.std.proofs.lemmas.Bool.{and_parts, and_from, or_left, or_right, or_cases, not_from_false, not-true, eq-eqb, eqb-true}
use Rattle.std.proofs.lemmas.Bool.Decides.{same_from_decides, Decides-like}
use Rattle.std.proofs.lemmas.List.{map-append}
use Rattle.std.proofs.lemmas.List.Concat.{flat_map-append}
use Rattle.std.proofs.lemmas.List.Elements.{All-contains}
use Rattle.tree_model.specs.Axes.{attributes, below, is_on, is_reverse, passes, axis_nodes, step_from, steps_from}
use Rattle.tree_model.specs.Forest.{Forest, count}
use Rattle.tree_model.specs.Labels.{Label}
use Rattle.tree_model.specs.Nodes.{Node, attr_nodes, nodes_from, nodes, children, is_among, is_place_among}
use Rattle.tree_model.specs.Sound.{AllRoots, is_attr}
use Rattle.tree_model.specs.declared.axis.Axis.{Axis}
use Rattle.tree_model.specs.declared.axis.Axis.TheVariants.{Child, Descendant, DescendantOrSelf}
use Rattle.tree_model.specs.declared.axis.AxisStep.{AxisStep}
use Rattle.tree_model.specs.declared.axis.Test.{Test}
use Rattle.tree_model.specs.declared.axis.Test.TheVariants as tests
use Rattle.tree_model.proofs.Relations.{has_parent, inside_in}
use Rattle.tree_model.proofs.Standing.{IsIn, in_append, in_left, in_right, in_filter, in_from, in_contains, roots_in, children_in, node_places, places_in_order, in_order_in}
use Rattle.node_table.specs.Views.{is_no_attr, HasKinds, places_of}
use Rattle.node_table.proofs.Geometry.{clash}
use Rattle.node_table.proofs.NodeRows.{one_there, same_node, own_kinds, roots_plain, attrs_marked}
use Rattle.axis_cursor.specs.Trees.{node_at, axis_places, step_places}
use Rattle.axis_cursor.proofs.Membership.{among}
use Rattle.axis_steps.specs.Steps.{IsFirstStep, path_places}
use Rattle.axis_steps.specs.Together.{to_all, to_children, to_descendants, ChildrenOfAllAreDescendants}
use Rattle.axis_steps.specs.declared.trees.Step.{Step}

-- ---- lists of nodes

in_passes : (p : Node Label → Bool) (xs : List (Node Label)) (x : Node Label) → IsIn (filter p xs) x → p x ≡ true
in_passes p [] x h = absurd h
in_passes p (y ∷ xs) x h = by (in_passes p xs x) (p y) refl h
  where
    by : (IsIn (filter p xs) x → p x ≡ true) → (b : Bool) → p y ≡ b → IsIn (cond b (y ∷ filter p xs) (filter p xs)) x → p x ≡ true
    by more true is (inl e) = ap p (sym e) ∙ is
    by more true is (inr k) = more k
    by more false is k = more k

filter_in : (p : Node Label → Bool) (xs : List (Node Label)) (x : Node Label) → IsIn xs x → p x ≡ true → IsIn (filter p xs) x
filter_in p [] x h e = absurd h
filter_in p (y ∷ xs) x (inl same) e = subst (λ b. IsIn (cond b (y ∷ filter p xs) (filter p xs)) x) (sym (ap p same ∙ e)) (inl same)
filter_in p (y ∷ xs) x (inr h) e = by (p y) (filter_in p xs x h e)
  where
    by : (b : Bool) → IsIn (filter p xs) x → IsIn (cond b (y ∷ filter p xs) (filter p xs)) x
    by true k = inr k
    by false k = k

filter_same : (p q : Node Label → Bool) (xs : List (Node Label)) → ((x : Node Label) → IsIn xs x → p x ≡ q x) → filter p xs ≡ filter q xs
filter_same p q [] agree = refl
filter_same p q (x ∷ xs) agree = ap₂ (λ b rest. cond b (x ∷ rest) rest) (agree x (inl refl)) (filter_same p q xs (λ y h. agree y (inr h)))

in_flat : {A : Type 0} (g : A → List (Node Label)) (xs : List A) (y : Node Label) → IsIn (flat_map g xs) y → (x : A) × IsIn xs x × IsIn (g x) y
in_flat g [] y h = absurd h
in_flat g (x ∷ xs) y h = elim (in_append (g x) (flat_map g xs) y h) [ inl a ↦ (x, inl refl, a) | inr b ↦ let r = in_flat g xs y b in (r.0, inr r.1, r.2) ]

flat_in : (g : Node Label → List (Node Label)) (xs : List (Node Label)) (y x : Node Label) → IsIn xs x → IsIn (g x) y → IsIn (flat_map g xs) y
flat_in g [] y x h k = absurd h
flat_in g (z ∷ xs) y x (inl e) k = in_left (g z) (flat_map g xs) y (subst (λ w. IsIn (g w) y) (sym e) k)
flat_in g (z ∷ xs) y x (inr h) k = in_right (g z) (flat_map g xs) y (flat_in g xs y x h k)

-- all of these are nodes of the trees
abbrev AreNodes : Forest Label → List (Node Label) → Type 0
AreNodes f found = (node : Node Label) → IsIn found node → IsIn (nodes f) node

-- ---- a step forwards

-- n passes, and is on the axis of one of these
abbrev IsReached : Forest Label → Axis → Test → List (Node Label) → Node Label → Type 0
IsReached f axis test found n = (c : Node Label) × IsIn found c × (is_on f axis c n ≡ true) × (passes axis test n.label ≡ true)

module _ (f : Forest Label) (axis : Axis) (test : Test) (forwards : is_reverse axis ≡ false) where
  forwards_are : (c : Node Label) → axis_nodes f axis test c ≡ filter (λ n. is_on f axis c n && passes axis test n.label) (nodes f)
  forwards_are c = ap (λ b. cond b (reverse (filter (λ n. is_on f axis c n && passes axis test n.label) (nodes f))) (filter (λ n. is_on f axis c n && passes axis test n.label) (nodes f))) forwards

  reached_in : (found : List (Node Label)) (n : Node Label) → IsIn (flat_map (axis_nodes f axis test) found) n → IsIn (nodes f) n × IsReached f axis test found n
  reached_in found n h =
      let w = in_flat (axis_nodes f axis test) found n h in
      let k = subst (λ l. IsIn l n) (forwards_are w.0) w.2 in
      let both = and_parts (is_on f axis w.0 n) (passes axis test n.label) (in_passes (λ m. is_on f axis w.0 m && passes axis test m.label) (nodes f) n k) in
      (in_filter (λ m. is_on f axis w.0 m && passes axis test m.label) (nodes f) n k, (w.0, w.1, both.0, both.1))

  in_reached : (found : List (Node Label)) (n : Node Label) → IsIn (nodes f) n → IsReached f axis test found n → IsIn (flat_map (axis_nodes f axis test) found) n
  in_reached found n h r =
      flat_in (axis_nodes f axis test) found n r.0 r.1
      (subst (λ l. IsIn l n) (sym (forwards_are r.0)) (filter_in (λ m. is_on f axis r.0 m && passes axis test m.label) (nodes f) n h (and_from (is_on f axis r.0 n) (passes axis test n.label) r.2 r.3)))

  reached_decides : (found : List (Node Label)) (n : Node Label) → IsIn (nodes f) n → Decides (is_among (flat_map (axis_nodes f axis test) found) n) (IsReached f axis test found n)
  reached_decides found n h =
      let reached : List (Node Label) = flat_map (axis_nodes f axis test) found in
      Decides-like (is_among reached n) (λ i. (reached_in found n i).1) (in_reached found n h) (among f reached (λ x i. (reached_in found x i).0) n h)

-- ---- kinds

attribute_bare : (n : ℕ) (attrs : List Label) (y x : Node Label) → IsIn (attr_nodes n attrs) y → IsIn (children y) x → ⊥
attribute_bare n [] y x h c = h
attribute_bare n (a ∷ attrs) y x (inl e) c = let P : Node Label → Type 0 = λ z. IsIn (children z) x in subst P (sym e) c
attribute_bare n (a ∷ attrs) y x (inr h) c = attribute_bare (suc n) attrs y x h c

-- below a node what has children is no attribute
parent_plain : (n : ℕ) (kids : Forest Label) (y x : Node Label) → AllRoots is_no_attr kids → HasKinds kids → IsIn (nodes_from n kids) y → IsIn (children y) x → is_attr y.label ≡ false
parent_plain n kids y x plain kinds h c =
    elim (has_parent n kids y h) [
      | inl t ↦ roots_plain n kids y plain t
      | inr z ↦ elim z.2 [
        | inl k ↦ roots_plain ((z.0).place + (1 + length (z.0).attrs)) (z.0).kids y (own_kinds n kids z.0 kinds z.1).2 k
        | inr a ↦ absurd (attribute_bare ((z.0).place + 1) (z.0).attrs y x a c)
      ]
    ]

module _ (f : Forest Label) (kinds : HasKinds f) where
  below_within : (c : Node Label) → IsIn (nodes f) c → AreNodes f (below c)
  below_within c h x i = inside_in 0 f c x h (in_right (attributes c) (below c) x i)

  child_decides : (m n : Node Label) → IsIn (nodes f) m → IsIn (nodes f) n → Decides (is_among (children m) n) (IsIn (children m) n)
  child_decides m n h k = among f (children m) (λ x i. children_in 0 f m x h i) n k

  below_decides : (c n : Node Label) → IsIn (nodes f) c → IsIn (nodes f) n → Decides (is_among (below c) n) (IsIn (below c) n)
  below_decides c n h k = among f (below c) (below_within c h) n k

  -- a child of a node or of one below it is below that node
  down : (c m n : Node Label) → IsIn (nodes f) c → IsIn (nodes f) m → IsIn (nodes f) n → is_on f DescendantOrSelf c m ≡ true → is_on f Child m n ≡ true → is_on f Descendant c n ≡ true
  down c m n h k l to_m to_n =
      and_from (is_among (below c) n) (not (is_attr n.label)) ((below_decides c n h l).1 (by (or_cases (nat_eq c.place m.place) (is_among (below c) m && not (is_attr m.label)) to_m)))
      (not_from_false (is_attr n.label) (roots_plain (m.place + (1 + length m.attrs)) m.kids n (own_kinds 0 f m kinds k).2 child))
    where
      child : IsIn (children m) n
      child = (child_decides m n k l).0 to_n

      by : (nat_eq c.place m.place ≡ true) ⊎ ((is_among (below c) m && not (is_attr m.label)) ≡ true) → IsIn (below c) n
      by (inl same) =
          let is : m ≡ c = same_node f m c k h (sym (eqb-true c.place m.place same)) in
          subst (λ (x : Node Label). IsIn (below x) n) is (roots_in (m.place + (1 + length m.attrs)) m.kids n child)
      by (inr under) =
          let i = (below_decides c m h k).0 (and_parts (is_among (below c) m) (not (is_attr m.label)) under).0 in
          children_in (c.place + (1 + length c.attrs)) c.kids m n i child

  -- and what is below it is a child of one of them
  up : (c n : Node Label) → IsIn (nodes f) c → IsIn (nodes f) n → is_on f Descendant c n ≡ true → (m : Node Label) × IsIn (nodes f) m × (is_on f DescendantOrSelf c m ≡ true) × (is_on f Child m n ≡ true)
  up c n h l e =
      elim (has_parent (c.place + (1 + length c.attrs)) c.kids n ((below_decides c n h l).0 both.0)) [
        | inl t ↦ (c, h, or_left (nat_eq c.place c.place) (is_among (below c) c && not (is_attr c.label)) (eq-eqb c.place c.place refl), (child_decides c n h l).1 t)
        | inr y ↦ elim y.2 [
          | inl k ↦ parent y.0 y.1 k
          | inr a ↦
              let own = own_kinds (c.place + (1 + length c.attrs)) c.kids y.0 kids.0 y.1 in
              clash (is_attr n.label) (attrs_marked ((y.0).place + 1) (y.0).attrs n own.1 a) (not-true (is_attr n.label) both.1)
        ]
      ]
    where
      both : (is_among (below c) n ≡ true) × (not (is_attr n.label) ≡ true)
      both = and_parts (is_among (below c) n) (not (is_attr n.label)) e

      kids : HasKinds c.kids × AllRoots is_no_attr c.kids
      kids = let own = own_kinds 0 f c kinds h in (own.0, own.2)

      parent : (y : Node Label) → IsIn (below c) y → IsIn (children y) n → (m : Node Label) × IsIn (nodes f) m × (is_on f DescendantOrSelf c m ≡ true) × (is_on f Child m n ≡ true)
      parent y i k =
          let there = below_within c h y i in (
            y,
            there,
            or_right (nat_eq c.place y.place) (is_among (below c) y && not (is_attr y.label))
                (and_from (is_among (below c) y) (not (is_attr y.label)) ((below_decides c y h there).1 i)
                (not_from_false (is_attr y.label) (parent_plain (c.place + (1 + length c.attrs)) c.kids y n kids.1 kids.0 i k))),
            (child_decides y n there l).1 k,
          )

  test_same : (test : Test) (label : Label) → passes Child test label ≡ passes Descendant test label
  test_same tests.Node label = refl
  test_same tests.Text label = refl
  test_same tests.Comment label = refl
  test_same tests.Document label = refl
  test_same (tests.Pi target) label = refl
  test_same (tests.Principal uri local) label = refl
  test_same (tests.Element uri local) label = refl
  test_same (tests.Attribute uri local) label = refl

  module _ (test : Test) (found : List (Node Label)) (are : AreNodes f found) where
    abbrev all : List (Node Label)
    all = step_from f to_all found

    all_parts : (m : Node Label) → IsIn all m → IsIn (nodes f) m × IsReached f DescendantOrSelf tests.Node found m
    all_parts m h =
        let there = in_order_in f (flat_map (axis_nodes f DescendantOrSelf tests.Node) found) m h in
        (there, (reached_decides f DescendantOrSelf tests.Node refl found m there).0 (in_passes (is_among (flat_map (axis_nodes f DescendantOrSelf tests.Node) found)) (nodes f) m h))

    all_there : (m c : Node Label) → IsIn (nodes f) m → IsIn found c → is_on f DescendantOrSelf c m ≡ true → IsIn all m
    all_there m c h k e =
        filter_in (is_among (flat_map (axis_nodes f DescendantOrSelf tests.Node) found)) (nodes f) m h
        ((reached_decides f DescendantOrSelf tests.Node refl found m h).1 (c, k, e, refl))

    to : (n : Node Label) → IsIn (nodes f) n → IsReached f Child test all n → IsReached f Descendant test found n
    to n h r =
        let m = all_parts r.0 r.1 in
        let c = m.1 in
        (c.0, c.1, down c.0 r.0 n (are c.0 c.1) m.0 h c.2 r.2, sym (test_same test n.label) ∙ r.3)

    from : (n : Node Label) → IsIn (nodes f) n → IsReached f Descendant test found n → IsReached f Child test all n
    from n h r =
        let m = up r.0 n (are r.0 r.1) h r.2 in
        (m.0, all_there m.0 r.0 m.1 r.1 m.2, m.3, test_same test n.label ∙ r.3)

    pub together : step_from f (to_children test) (step_from f to_all found) ≡ step_from f (to_descendants test) found
    together =
        filter_same (is_among (flat_map (axis_nodes f Child test) all)) (is_among (flat_map (axis_nodes f Descendant test) found)) (nodes f)
        (λ n h. same_from_decides (is_among (flat_map (axis_nodes f Child test) all) n) (is_among (flat_map (axis_nodes f Descendant test) found) n)
        (Decides-like (is_among (flat_map (axis_nodes f Child test) all) n) (to n h) (from n h) (reached_decides f Child test refl all n h)) (reached_decides f Descendant test refl found n h))

pub children_of_all : ChildrenOfAllAreDescendants
children_of_all f test found kinds all = together f kinds test found (λ node i. in_from (nodes f) node (All-contains (Contains (nodes f)) found node all (in_contains found node i)))

-- ---- in words of places

abbrev nodes_at : Forest Label → List ℕ → List (Node Label)
nodes_at f places = flat_map (node_at f) places

nodes_at_are : (f : Forest Label) (places : List ℕ) → AreNodes f (nodes_at f places)
nodes_at_are f places node h = let w = in_flat (node_at f) places node h in in_filter (λ (other : Node Label). nat_eq other.place w.0) (nodes f) node w.2

nodes_of_places : (f : Forest Label) (found : List (Node Label)) → AreNodes f found → nodes_at f (places_of found) ≡ found
nodes_of_places f [] are = refl
nodes_of_places f (node ∷ found) are =
    ap (λ l. l ++ nodes_at f (places_of found)) (one_there 0 (count f) (nodes f) node (node_places 0 f) (are node (inl refl))) ∙ ap (λ l. node ∷ l) (nodes_of_places f found (λ other i. are other (inr i)))

reached_places : (f : Forest Label) (axis : Axis) (test : Test) (places : List ℕ) → flat_map (axis_places f axis test) places ≡ places_of (flat_map (axis_nodes f axis test) (nodes_at f places))
unfolding axis_places
reached_places f axis test [] = refl
reached_places f axis test (place ∷ places) =
    let g : Node Label → List (Node Label) = axis_nodes f axis test in
    ap (λ l. axis_places f axis test place ++ l) (reached_places f axis test places)
    ∙ sym (map-append (λ (node : Node Label). node.place) (flat_map g (node_at f place)) (flat_map g (nodes_at f places)))
    ∙ ap places_of (sym (flat_map-append g (node_at f place) (nodes_at f places)))

-- a step from places is the step from the nodes at them
pub step_places_are : (f : Forest Label) (step : AxisStep) (places : List ℕ) → step_places f step.axis step.test places ≡ places_of (step_from f step (nodes_at f places))
step_places_are f step places =
    ap (λ ps. filter (is_place_among ps) (range_with_len 0 (count f))) (reached_places f step.axis step.test places)
    ∙ sym (places_in_order f (flat_map (axis_nodes f step.axis step.test) (nodes_at f places)))

module _ (f : Forest Label) (kinds : HasKinds f) where
  pub taken_together : (test : Test) (places : List ℕ) → step_places f Child test (step_places f DescendantOrSelf tests.Node places) ≡ step_places f Descendant test places
  taken_together test places =
      let all : List (Node Label) = step_from f to_all (nodes_at f places) in
      ap (step_places f Child test) (step_places_are f to_all places)
      ∙ step_places_are f (to_children test) (places_of all)
      ∙ ap (λ found. places_of (step_from f (to_children test) found)) (nodes_of_places f all (λ node i. in_order_in f (flat_map (axis_nodes f DescendantOrSelf tests.Node) (nodes_at f places)) node i))
      ∙ ap places_of (together f kinds test (nodes_at f places) (nodes_at_are f places))
      ∙ sym (step_places_are f (to_descendants test) places)

  -- a step leads on along a path
  pub path_step : (steps : List AxisStep) (first : Step × Bor (List AxisStep)) (places next : List ℕ) → IsFirstStep steps (Some first) → next ≡ step_places f first.0.axis first.0.test.now places
      → path_places f first.1.now next ≡ path_places f steps places
  path_step steps first places next (inl one) is =
      let same : step_places f first.0.axis first.0.test.now places ≡ step_places f (one.0).axis (one.0).test places = ap₂ (λ a t. step_places f a t places) (sym one.2) (sym one.3) in
      ap (path_places f first.1.now) (is ∙ same) ∙ sym (ap (λ ss. path_places f ss places) one.1)
  path_step steps first places next (inr two) is =
      let s : AxisStep = two.0 in
      let t : AxisStep = two.1 in
      let down : step_places f first.0.axis first.0.test.now places ≡ step_places f Descendant first.0.test.now places = ap (λ a. step_places f a first.0.test.now places) (two.4).1 in
      let all : step_places f DescendantOrSelf tests.Node places ≡ step_places f s.axis s.test places = ap₂ (λ a t'. step_places f a t' places) (sym (two.3).0) (sym (two.3).1) in
      let kids : step_places f Child first.0.test.now (step_places f s.axis s.test places) ≡ step_places f t.axis t.test (step_places f s.axis s.test places) =
      ap₂ (λ a t'. step_places f a t' (step_places f s.axis s.test places)) (sym (two.4).0) (sym two.5) in
      ap (path_places f first.1.now) (is ∙ down ∙ sym (taken_together first.0.test.now places) ∙ ap (step_places f Child first.0.test.now) all ∙ kids)
      ∙ sym (ap (λ ss. path_places f ss places) two.2)
