-- Paths over places, and the texts of the nodes that they lead to.
use Rattle.std.proofs.Common.{◌≡◌, inl, inr, ℕ, zero, suc, ◌<◌, ◌≤◌, List, [], ◌∷◌, ◌++◌, length, map, get_or, refl, sym, ap, ◌∙◌, subst, arith, append_assoc, append-nil}
use Rattle.std.specs.Prelude.{filter, drop, Result, Ok, Err, OnOk}
use Rattle.std.specs.declared.alloc.AllocError.{AllocError}
use Rattle.std.specs.List.{All, Contains, flat_map, join_with_byte, range_with_len}
use Rattle.std.proofs.lemmas.List.{map-append, drop_all}
use Rattle.axis_cursor.specs.Trees.{axis_places, step_places}
use Rattle.node_table.specs.Views.{places_of}
use Rattle.node_table.proofs.NodeRows.{some_there}
use Rattle.axis_steps.specs.Steps.{path_places}
use Rattle.tree_model.specs.Axes.{axis_nodes, step_from, steps_from, path_value}
use Rattle.tree_model.specs.Forest.{Forest, count, flatten}
use Rattle.tree_model.specs.Labels.{Label}
use Rattle.tree_model.specs.Nodes.{Node, nodes, root_nodes, is_place_among}
use Rattle.tree_model.specs.Printing.{node_text, answer_text}
use Rattle.tree_model.specs.declared.axis.Axis.{Axis}
use Rattle.tree_model.specs.declared.axis.AxisStep.{AxisStep}
use Rattle.tree_model.specs.declared.axis.Test.{Test}
use Rattle.tree_model.proofs.Standing.{IsIn, in_contains, roots_in, place_below, node_places, places_in_order, in_order_in}
use Rattle.kernel_session.specs.Places.{text_at}
use Rattle.kernel_session.proofs.Nodes.{node_at_is, text_at_is}

-- all of these are nodes of the trees
abbrev pub AreNodes : Forest Label → List (Node Label) → Type 0
AreNodes f found = (node : Node Label) → IsIn found node → IsIn (nodes f) node

-- ---- the documents

pub roots_nodes : (f : Forest Label) → AreNodes f (root_nodes f)
roots_nodes f node i = roots_in 0 f node i

-- ---- places below the number of nodes

below : (f : Forest Label) (found : List (Node Label)) → AreNodes f found → (k d : ℕ) → k < length (places_of found) → get_or (places_of found) k d < count f
below f [] h k d lt = absurd (omega arith)
below f (node ∷ found) h zero d lt = place_below f node (h node (inl refl))
below f (node ∷ found) h (suc k) d lt = below f found (λ other i. h other (inr i)) k d (omega arith)

pub places_within : (f : Forest Label) (found : List (Node Label)) (places : List ℕ) (len : ℕ) → AreNodes f found → places ≡ places_of found → len ≡ count f → All (λ place. place < len) places
places_within f found places len are e counted k d lt =
    let b = below f found are k d (omega (arith, ap length e)) in
    omega (arith, b, counted, ap (λ l. get_or l k d) e)

-- ---- steps

axis_places_of : (f : Forest Label) (axis : Axis) (test : Test) (node : Node Label) → IsIn (nodes f) node → axis_places f axis test node.place ≡ places_of (axis_nodes f axis test node)
unfolding axis_places
axis_places_of f axis test node h = ap (λ xs. places_of (flat_map (axis_nodes f axis test) xs)) (node_at_is f node h) ∙ ap places_of (append-nil (axis_nodes f axis test node))

found_places : (f : Forest Label) (axis : Axis) (test : Test) (found : List (Node Label)) → AreNodes f found → flat_map (axis_places f axis test) (places_of found) ≡ places_of (flat_map (axis_nodes f axis test) found)
found_places f axis test [] h = refl
found_places f axis test (node ∷ found) h =
    ap (λ l. l ++ flat_map (axis_places f axis test) (places_of found)) (axis_places_of f axis test node (h node (inl refl)))
    ∙ ap (λ l. places_of (axis_nodes f axis test node) ++ l) (found_places f axis test found (λ other i. h other (inr i)))
    ∙ sym (map-append (λ (n : Node Label). n.place) (axis_nodes f axis test node) (flat_map (axis_nodes f axis test) found))

step_nodes : (f : Forest Label) (step : AxisStep) (found : List (Node Label)) → AreNodes f (step_from f step found)
step_nodes f step found node i = in_order_in f (flat_map (axis_nodes f step.axis step.test) found) node i

step_places_of : (f : Forest Label) (step : AxisStep) (found : List (Node Label)) → AreNodes f found → places_of (step_from f step found) ≡ step_places f step.axis step.test (places_of found)
step_places_of f step found h =
    places_in_order f (flat_map (axis_nodes f step.axis step.test) found)
    ∙ ap (λ ps. filter (is_place_among ps) (range_with_len 0 (count f))) (sym (found_places f step.axis step.test found h))

steps_places_of : (f : Forest Label) (steps : List AxisStep) (found : List (Node Label)) → AreNodes f found → places_of (steps_from f steps found) ≡ path_places f steps (places_of found)
steps_places_of f [] found h = refl
steps_places_of f (step ∷ steps) found h =
    steps_places_of f steps (step_from f step found) (step_nodes f step found) ∙ ap (path_places f steps) (step_places_of f step found h)

-- the places of the nodes that a path leads to are those that its steps lead to
pub path_places_of : (f : Forest Label) (steps : List AxisStep) → places_of (path_value f steps) ≡ path_places f steps (places_of (root_nodes f))
path_places_of f steps = steps_places_of f steps (root_nodes f) (roots_nodes f)

steps_nodes : (f : Forest Label) (steps : List AxisStep) (found : List (Node Label)) → AreNodes f found → AreNodes f (steps_from f steps found)
steps_nodes f [] found h = h
steps_nodes f (step ∷ steps) found h = steps_nodes f steps (step_from f step found) (step_nodes f step found)

pub value_nodes : (f : Forest Label) (steps : List AxisStep) → AreNodes f (path_value f steps)
value_nodes f steps = steps_nodes f steps (root_nodes f) (roots_nodes f)

-- ---- the texts of an answer

texts_are : (f : Forest Label) (found : List (Node Label)) → AreNodes f found → map (text_at f) (places_of found) ≡ map node_text found
texts_are f [] h = refl
texts_are f (node ∷ found) h =
    ap (λ t. t ∷ map (text_at f) (places_of found)) (text_at_is f node (h node (inl refl))) ∙ ap (λ l. node_text node ∷ l) (texts_are f found (λ other i. h other (inr i)))

pub answer_is : (f : Forest Label) (steps : List AxisStep) (places : List ℕ) → places ≡ places_of (path_value f steps) → join_with_byte 10 (map (text_at f) places) ≡ answer_text (path_value f steps)
answer_is f steps places e = ap (λ l. join_with_byte 10 (map (text_at f) l)) e ∙ ap (join_with_byte 10) (texts_are f (path_value f steps) (value_nodes f steps))

-- the text of the node at a place
pub text_of_node : (f : Forest Label) (place : ℕ) (old new : List ℕ) (r : Result (Unit {0}) AllocError) → place < count f
    → OnOk r ((node : Node Label) → Contains (nodes f) node → node.place ≡ place → new ≡ old ++ node_text node) → OnOk r (new ≡ old ++ text_at f place)
text_of_node f place old new (Ok x) lt told =
    let there = some_there 0 (count f) place (nodes f) (node_places 0 f) (omega arith) (omega arith) in
    told there.0 (in_contains (nodes f) there.0 there.1) there.2
    ∙ ap (λ l. old ++ l) (sym (text_at_is f there.0 there.1) ∙ ap (text_at f) there.2)
text_of_node f place old new (Err e) lt told = tt

-- ---- texts joined by LF

abbrev pub more_texts : Forest Label → List ℕ → List ℕ
more_texts f [] = []
more_texts f (place ∷ places) = (10 ∷ []) ++ (text_at f place ++ more_texts f places)

joined : (f : Forest Label) (place : ℕ) (places : List ℕ) → join_with_byte 10 (map (text_at f) (place ∷ places)) ≡ text_at f place ++ more_texts f places
joined f place [] = sym (append-nil (text_at f place))
joined f place (next ∷ places) = ap (λ l. text_at f place ++ 10 ∷ l) (joined f next places)

pub texts_written : (f : Forest Label) (places rest : List ℕ) (first : ℕ) (old front out : List ℕ) (i : ℕ) → places ≡ first ∷ rest → front ≡ old ++ text_at f first → length rest ≤ i
    → out ++ more_texts f (drop i rest) ≡ front ++ more_texts f rest → out ≡ old ++ join_with_byte 10 (map (text_at f) places)
texts_written f places rest first old front out i e head le text =
    sym (append-nil out) ∙ ap (λ l. out ++ more_texts f l) (sym (drop_all i rest le)) ∙ text ∙ ap (λ l. l ++ more_texts f rest) head ∙ append_assoc old (text_at f first) (more_texts f rest)
    ∙ ap (λ l. old ++ l) (sym (joined f first rest) ∙ ap (λ l. join_with_byte 10 (map (text_at f) l)) (sym e))

pub rest_within : (places rest : List ℕ) (first len : ℕ) → places ≡ first ∷ rest → All (λ place. place < len) places → All (λ place. place < len) rest
rest_within places rest first len e within = λ k d lt. subst (λ l. suc k < length l → get_or l (suc k) d < len) e (within (suc k) d) (omega arith)
