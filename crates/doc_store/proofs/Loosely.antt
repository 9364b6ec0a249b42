-- Documents keep what holds while an update is applied as another one is put among them, with ids of its own.
use Rattle.std.proofs.Common.{◌≡◌, ℕ, suc, ◌+◌, ◌<◌, ◌≤◌, ◌^◌, Bool, true, false, not, ◌&&◌, ◌||◌, List, [], ◌∷◌, ◌++◌, map, length, take, drop, refl, sym, ap, ap₂, ◌∙◌, subst, arith, append_assoc, take_at, drop_at, nat_eq, cond}
use Rattle.std.specs.List.{All, list_all}
use Rattle.std.proofs.lemmas.Bool.{and_parts, and_from, cond-false}
use Rattle.std.proofs.lemmas.Bool.Decides.{nat_tests}
use Rattle.std.proofs.lemmas.List.{map-append, length-map}
use Rattle.std.proofs.lemmas.List.Elements.{All-nil, All-cons, All-head, All-tail, All-append}
use Rattle.std.proofs.lemmas.List.Folds.{list_all-append}
use Rattle.tree_model.specs.Forest.{Forest, none, tree, walk, count, join}
use Rattle.tree_model.specs.Ids.{ids_of}
use Rattle.tree_model.specs.Labels.{Label, with_id, numbered_attrs, numbered}
use Rattle.tree_model.specs.Sound.{AllRoots, Kept, fits, bears, is_doc, is_elem, is_attr, is_loose_label, with_id_count, IsLoose}
use Rattle.tree_model.specs.Trees.{count-join}
use Rattle.tree_model.proofs.Numbering.{with_id_count-append, with_id_count-cons, OnceWithin, numbered_once, numbered_below, count-numbered}

-- ---- joined trees

pub walk-join : {A : Type 0} (f g : Forest A) → walk (join f g) ≡ walk f ++ walk g
walk-join none g = refl
walk-join (tree a attrs kids rest) g = simp (append_assoc, walk-join rest g)

roots_joined : {A : Type 0} (test : A → Bool) (f g : Forest A) → AllRoots test f → AllRoots test g → AllRoots test (join f g)
roots_joined test none g h k = k
roots_joined test (tree a attrs kids rest) g h k = (h.0, roots_joined test rest g h.1 k)

kept_joined : (f g : Forest Label) → Kept fits bears f → Kept fits bears g → Kept fits bears (join f g)
kept_joined none g h k = k
kept_joined (tree label attrs kids rest) g h k = (h.0, h.1, h.2, kept_joined rest g h.3 k)

-- ---- trees put among others

roots_put : {A : Type 0} (test : A → Bool) (before doc after : Forest A) → AllRoots test (join before after) → AllRoots test doc → AllRoots test (join before (join doc after))
roots_put test none doc after h k = roots_joined test doc after k h
roots_put test (tree a attrs kids rest) doc after h k = (h.0, roots_put test rest doc after h.1 k)

kept_put : (before doc after : Forest Label) → Kept fits bears (join before after) → Kept fits bears doc → Kept fits bears (join before (join doc after))
kept_put none doc after h k = kept_joined doc after k h
kept_put (tree label attrs kids rest) doc after h k = (h.0, h.1, h.2, kept_put rest doc after h.3 k)

walk_put : {A : Type 0} (before doc after : Forest A) → walk (join before (join doc after)) ≡ walk before ++ (walk doc ++ walk after)
walk_put before doc after = walk-join before (join doc after) ∙ ap (λ l. walk before ++ l) (walk-join doc after)

nodes_put : (before doc after : Forest Label) → list_all is_loose_label (walk (join before after)) ≡ true → list_all is_loose_label (walk doc) ≡ true → list_all is_loose_label (walk (join before (join doc after))) ≡ true
nodes_put before doc after h k =
    let split = and_parts (list_all is_loose_label (walk before)) (list_all is_loose_label (walk after)) (sym (list_all-append is_loose_label (walk before) (walk after)) ∙ sym (ap (list_all is_loose_label) (walk-join before after)) ∙ h) in
    ap (list_all is_loose_label) (walk_put before doc after) ∙ list_all-append is_loose_label (walk before) (walk doc ++ walk after)
    ∙ and_from _ _ split.0 (list_all-append is_loose_label (walk doc) (walk after) ∙ and_from _ _ k split.1)

-- how many nodes have an id, in all three
count_put : (id : ℕ) (before doc after : Forest Label) → with_id_count id (walk (join before (join doc after))) ≡ with_id_count id (walk (join before after)) + with_id_count id (walk doc)
count_put id before doc after =
    let whole = ap (with_id_count id) (walk_put before doc after) ∙ with_id_count-append id (walk before) (walk doc ++ walk after) in
    let inner = with_id_count-append id (walk doc) (walk after) in
    let outer = ap (with_id_count id) (walk-join before after) ∙ with_id_count-append id (walk before) (walk after) in
    omega (arith, whole, inner, outer)

-- an id that no node may have is none's
none_above : (id next : ℕ) (labels : List Label) → All (λ (label : Label). label.id < next) labels → next ≤ id → with_id_count id labels ≡ 0
none_above id next [] h le = refl
none_above id next (label ∷ labels) h le =
    let head : label.id < next = All-head (λ (l : Label). l.id < next) label labels h in
    let no : nat_eq label.id id ≡ false = grind (arith, nat_tests, head, le) in
    let free : ◌≡◌ {A = ℕ} (cond (nat_eq label.id id) 1 0) 0 = ap (λ (b : Bool). cond b 1 0) no in
    omega (arith, with_id_count-cons id label labels, free, none_above id next labels (All-tail (λ (l : Label). l.id < next) label labels h) le)

below_higher : (low high : ℕ) (labels : List Label) → low ≤ high → All (λ (label : Label). label.id < low) labels → All (λ (label : Label). label.id < high) labels
below_higher low high [] le h = All-nil _
below_higher low high (label ∷ labels) le h =
    let head : label.id < low = All-head (λ (l : Label). l.id < low) label labels h in
    All-cons (λ (l : Label). l.id < high) label labels (omega (arith, head, le)) (below_higher low high labels le (All-tail (λ (l : Label). l.id < low) label labels h))

all_split : {A : Type 0} (P : A → Type 0) (xs ys : List A) → All P (xs ++ ys) → All P xs × All P ys
all_split P [] ys h = (All-nil P, h)
all_split P (x ∷ xs) ys h = let more = all_split P xs ys (All-tail P x (xs ++ ys) h) in (All-cons P x xs (All-head P x (xs ++ ys) h) more.0, more.1)

ids_put_below : (before doc after : Forest Label) (next high : ℕ) → next ≤ high → All (λ (label : Label). label.id < next) (walk (join before after)) → All (λ (label : Label). label.id < high) (walk doc)
    → All (λ (label : Label). label.id < high) (walk (join before (join doc after)))
ids_put_below before doc after next high le h k =
    let P : Label → Type 0 = λ label. label.id < high in
    let parts = all_split P (walk before) (walk after) (subst (λ ls. All P ls) (walk-join before after) (below_higher next high (walk (join before after)) le h)) in
    subst (λ ls. All P ls) (sym (walk_put before doc after)) (All-append P (walk before) (walk doc ++ walk after) parts.0 (All-append P (walk doc) (walk after) k parts.1))

-- ---- other ids

bears_numbered : (m n : ℕ) (label : Label) (attrs : List Label) → bears label attrs ≡ true → bears (with_id m label) (numbered_attrs n attrs) ≡ true
bears_numbered m n label [] h = refl
bears_numbered m n label (a ∷ attrs) h =
    let both = and_parts (is_elem label) (list_all is_attr (a ∷ attrs)) h in
    and_from _ _ both.0 (marked n (a ∷ attrs) both.1)
  where
    marked : (n : ℕ) (attrs : List Label) → list_all is_attr attrs ≡ true → list_all is_attr (numbered_attrs n attrs) ≡ true
    marked n [] h = refl
    marked n (a ∷ attrs) h = let both = and_parts (is_attr a) (list_all is_attr attrs) h in and_from _ _ both.0 (marked (suc n) attrs both.1)

roots_numbered : (test : Label → Bool) → ((m : ℕ) (label : Label) → test label ≡ true → test (with_id m label) ≡ true) → (n : ℕ) (f : Forest Label) → AllRoots test f → AllRoots test (numbered n f)
roots_numbered test same n none h = tt
roots_numbered test same n (tree label attrs kids rest) h = (same n label h.0, roots_numbered test same (n + (1 + length attrs + count kids)) rest h.1)

kept_numbered : (n : ℕ) (f : Forest Label) → Kept fits bears f → Kept fits bears (numbered n f)
kept_numbered n none h = tt
kept_numbered n (tree label attrs kids rest) h = (
  bears_numbered n (n + 1) label attrs h.0,
  roots_numbered (fits label) (λ m child k. k) (n + (1 + length attrs)) kids h.1,
  kept_numbered (n + (1 + length attrs)) kids h.2,
  kept_numbered (n + (1 + length attrs + count kids)) rest h.3,
)

attrs_numbered : (n : ℕ) (attrs : List Label) → list_all is_loose_label (numbered_attrs n attrs) ≡ list_all is_loose_label attrs
attrs_numbered n [] = refl
attrs_numbered n (a ∷ attrs) = ap (λ t. is_loose_label a && t) (attrs_numbered (suc n) attrs)

nodes_numbered : (n : ℕ) (f : Forest Label) → list_all is_loose_label (walk (numbered n f)) ≡ list_all is_loose_label (walk f)
nodes_numbered n none = refl
nodes_numbered n (tree label attrs kids rest) =
    let inner : List Label = walk (numbered (n + (1 + length attrs)) kids) in
    let after : List Label = walk (numbered (n + (1 + length attrs + count kids)) rest) in
    ap (λ t. is_loose_label label && t) (
    list_all-append is_loose_label (numbered_attrs (n + 1) attrs) (inner ++ after)
    ∙ ap₂ ◌&&◌ (attrs_numbered (n + 1) attrs) (list_all-append is_loose_label inner after ∙ ap₂ ◌&&◌ (nodes_numbered (n + (1 + length attrs)) kids) (nodes_numbered (n + (1 + length attrs + count kids)) rest) ∙ sym (list_all-append is_loose_label (walk kids) (walk rest)))
    ∙ sym (list_all-append is_loose_label attrs (walk kids ++ walk rest))
    )

-- ---- a document among others

pub loose_put : (before doc after : Forest Label) (next m high : ℕ) → IsLoose (join before after) next → IsLoose doc m → high ≡ next + count doc → count (join before after) + count doc ≤ 2 ^ 24
    → IsLoose (join before (join (numbered next doc) after)) high
loose_put before doc after next m high h k high_is few = record {
  roots = roots_put is_doc before (numbered next doc) after h.roots (roots_numbered is_doc (λ n label t. t) next doc k.roots);
  places = kept_put before (numbered next doc) after h.places (kept_numbered next doc k.places);
  nodes = nodes_put before (numbered next doc) after h.nodes (nodes_numbered next doc ∙ k.nodes);
  ids_once = λ id. once id;
  ids_below = ids_put_below before (numbered next doc) after next high (omega (arith, high_is)) h.ids_below (numbered_below next high doc (omega (arith, high_is)));
  few = omega (arith, few, count-join before (join (numbered next doc) after), count-join (numbered next doc) after, count-join before after, count-numbered next doc);
}
  where
    once : (id : ℕ) → with_id_count id (walk (join before (join (numbered next doc) after))) ≤ 1
    once id =
        let sum = count_put id before (numbered next doc) after in
        let own : OnceWithin id next (next + count doc) (with_id_count id (walk (numbered next doc))) = numbered_once id next doc in
        by (h.ids_once id) (λ le. none_above id next (walk (join before after)) h.ids_below le) own sum
      where
        by : {a b c : ℕ} → a ≤ 1 → (next ≤ id → a ≡ 0) → OnceWithin id next (next + count doc) b → c ≡ a + b → c ≤ 1
        by {a} {b} {c} most free o sum = grind (arith, o.most, o.below, free, most, sum)
