-- Where ids are distinct, the node with an id is the node at its place.
use Rattle.std.proofs.Common.{◌≡◌, ℕ, zero, suc, ◌+◌, ◌<◌, ◌≤◌, Bool, true, false, cond, List, [], ◌∷◌, ◌++◌, map, filter, length, nat_eq, Some, refl, sym, ap, ap₂, ◌∙◌, subst, arith}
use Rattle.std.specs.List.{range_with_len}
use Rattle.std.proofs.lemmas.List.{map-append}
use Rattle.std.proofs.lemmas.Bool.{cond-true, cond-false}
use Rattle.std.proofs.lemmas.Bool.Decides.{nat_tests}
use Rattle.tree_model.specs.Forest.{Forest, none, tree, walk, count}
use Rattle.tree_model.specs.Labels.{Label}
use Rattle.tree_model.specs.Nodes.{Node, attr_nodes, nodes_from}
use Rattle.tree_model.specs.Sound.{with_id_count}
use Rattle.tree_model.specs.Ids.{pairs_from, place_in, IdsLeadToPlaces}
use Rattle.tree_model.proofs.Numbering.{with_id_count-cons}
use Rattle.tree_model.proofs.Standing.{node_places}

-- ---- the labels of nodes are the walk

attr_labels : {A : Type 0} (n : ℕ) (attrs : List A) → map (λ (node : Node A). node.label) (attr_nodes n attrs) ≡ attrs
attr_labels n [] = refl
attr_labels n (a ∷ attrs) = ap (λ l. a ∷ l) (attr_labels (suc n) attrs)

pub node_labels : {A : Type 0} (n : ℕ) (f : Forest A) → map (λ (node : Node A). node.label) (nodes_from n f) ≡ walk f
node_labels n none = refl
node_labels {A = A} n (tree a attrs kids rest) =
    let al : List (Node A) = attr_nodes (n + 1) attrs in
    let ks : List (Node A) = nodes_from (n + (1 + length attrs)) kids in
    let rs : List (Node A) = nodes_from (n + (1 + length attrs + count kids)) rest in
    ap (λ l. a ∷ l) (
    map-append (λ (node : Node A). node.label) al (ks ++ rs)
    ∙ ap₂ (λ x y. x ++ y) (attr_labels (n + 1) attrs) (
    map-append (λ (node : Node A). node.label) ks rs
    ∙ ap₂ (λ x y. x ++ y) (node_labels (n + (1 + length attrs)) kids) (node_labels (n + (1 + length attrs + count kids)) rest)
    )
    )

-- ---- nodes that stand one behind the other

-- the first at place n, and each behind the one before
abbrev AreAt : ℕ → List (Node Label) → Type 0
AreAt n [] = Unit {0}
AreAt n (node ∷ found) = (node.place ≡ n) × AreAt (suc n) found

are_at : (n m : ℕ) (found : List (Node Label)) → map (λ (node : Node Label). node.place) found ≡ range_with_len n m → AreAt n found
are_at n m [] e = tt
are_at n zero (node ∷ found) e = absurd cc
are_at n (suc m) (node ∷ found) e =
    let head : node.place ≡ n = cc in
    let tail : map (λ (other : Node Label). other.place) found ≡ range_with_len (n + 1) m = cc in
    (head, are_at (suc n) m found (tail ∙ ap (λ k. range_with_len k m) (omega arith)))

none_with : (id : ℕ) (found : List (Node Label)) → with_id_count id (map (λ (node : Node Label). node.label) found) ≡ 0 → filter (λ (node : Node Label). nat_eq node.label.id id) found ≡ []
none_with id [] h = refl
none_with id (node ∷ found) h =
    let sum = with_id_count-cons id node.label (map (λ (other : Node Label). other.label) found) in
    let no : nat_eq node.label.id id ≡ false = by (nat_eq node.label.id id) refl sum in
    cond-false _ _ _ no ∙ none_with id found (omega (arith, sum, h))
  where
    by : (same : Bool) → nat_eq node.label.id id ≡ same → with_id_count id (node.label ∷ map (λ (other : Node Label). other.label) found) ≡ cond same 1 0 + with_id_count id (map (λ (other : Node Label). other.label) found) → same ≡ false
    by true e k = absurd (omega (arith, k, h))
    by false e k = refl

none_at : (n place : ℕ) (found : List (Node Label)) → AreAt n found → place < n → filter (λ (node : Node Label). nat_eq node.place place) found ≡ []
none_at n place [] h lt = refl
none_at n place (node ∷ found) h lt =
    let no : nat_eq node.place place ≡ false = grind (arith, nat_tests, h.0) in
    cond-false _ _ _ no ∙ none_at (suc n) place found h.1 (omega arith)

-- a pair that is found stands no earlier than the first
found_from : (id n place : ℕ) (ids : List ℕ) → place_in id (pairs_from n ids) ≡ Some place → n ≤ place
found_from id n place [] e = absurd cc
found_from id n place (i ∷ ids) e = by (nat_eq i id) e (λ k. found_from id (suc n) place ids k)
  where
    by : (same : Bool) → cond same (Some n) (place_in id (pairs_from (suc n) ids)) ≡ Some place → (place_in id (pairs_from (suc n) ids) ≡ Some place → suc n ≤ place) → n ≤ place
    by true k more = let same : n ≡ place = cc in omega (arith, same)
    by false k more = omega (arith, more k)

led : (n id place : ℕ) (found : List (Node Label)) → AreAt n found → with_id_count id (map (λ (node : Node Label). node.label) found) ≤ 1
    → place_in id (pairs_from n (map (λ (label : Label). label.id) (map (λ (node : Node Label). node.label) found))) ≡ Some place
    → filter (λ (node : Node Label). nat_eq node.label.id id) found ≡ filter (λ (node : Node Label). nat_eq node.place place) found
led n id place [] h once e = absurd cc
led n id place (node ∷ found) h once e =
    by (nat_eq node.label.id id) refl (with_id_count-cons id node.label (map (λ (other : Node Label). other.label) found)) e
    (λ k fewer. led (suc n) id place found h.1 fewer k)
  where
    by : (same : Bool) → nat_eq node.label.id id ≡ same
        → with_id_count id (node.label ∷ map (λ (other : Node Label). other.label) found) ≡ cond same 1 0 + with_id_count id (map (λ (other : Node Label). other.label) found)
        → cond same (Some n) (place_in id (pairs_from (suc n) (map (λ (label : Label). label.id) (map (λ (other : Node Label). other.label) found)))) ≡ Some place
        → (place_in id (pairs_from (suc n) (map (λ (label : Label). label.id) (map (λ (other : Node Label). other.label) found))) ≡ Some place
        → with_id_count id (map (λ (other : Node Label). other.label) found) ≤ 1
        → filter (λ (other : Node Label). nat_eq other.label.id id) found ≡ filter (λ (other : Node Label). nat_eq other.place place) found)
        → cond same (node ∷ filter (λ (other : Node Label). nat_eq other.label.id id) found) (filter (λ (other : Node Label). nat_eq other.label.id id) found)
        ≡ filter (λ (other : Node Label). nat_eq other.place place) (node ∷ found)
    by true is sum k more =
        let here : n ≡ place = cc in
        let yes : nat_eq node.place place ≡ true = grind (arith, nat_tests, h.0, here) in
        ap (λ l. node ∷ l) (none_with id found (omega (arith, sum, once)) ∙ sym (none_at (suc n) place found h.1 (omega (arith, here)))) ∙ sym (cond-true _ _ _ yes)
    by false is sum k more =
        let behind = found_from id (suc n) place (map (λ (label : Label). label.id) (map (λ (other : Node Label). other.label) found)) k in
        let no : nat_eq node.place place ≡ false = grind (arith, nat_tests, h.0, behind) in
        more k (omega (arith, sum, once)) ∙ sym (cond-false _ _ _ no)

pub ids_lead : IdsLeadToPlaces
ids_lead f id place once e =
    let labels = node_labels 0 f in
    led 0 id place (nodes_from 0 f) (are_at 0 (count f) (nodes_from 0 f) (node_places 0 f))
    (subst (λ (ls : List Label). with_id_count id ls ≤ 1) (sym labels) (once id))
    (subst (λ (ls : List Label). place_in id (pairs_from 0 (map (λ (label : Label). label.id) ls)) ≡ Some place) (sym labels) e)
