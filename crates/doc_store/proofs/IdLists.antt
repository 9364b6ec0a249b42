-- The ids of trees in document order, as trees are put among others.
use Rattle.std.proofs.Common.{◌≡◌, ℕ, zero, suc, ◌+◌, ◌<◌, ◌≤◌, Bool, true, false, ◌==◌, List, [], ◌∷◌, ◌++◌, map, length, take, drop, cond, refl, sym, ap, ap₂, ◌∙◌, subst, arith, append_assoc, length-append, take_at, drop_at}
use Rattle.std.specs.List.{All}
use Rattle.std.proofs.lemmas.Bool.Decides.{nat_tests}
use Rattle.std.proofs.lemmas.List.{map-append, length-map}
use Rattle.std.proofs.lemmas.List.Elements.{All-head, All-tail}
use Rattle.std.proofs.lemmas.List.Sums.{sum_by-cons}
use Rattle.id_map.specs.Ids.{ids_from, with_ids, times, AreNew}
use Rattle.tree_model.specs.Forest.{Forest, none, tree, walk, count, join}
use Rattle.tree_model.specs.Ids.{ids_of}
use Rattle.tree_model.specs.Labels.{Label, numbered_attrs, numbered}
use Rattle.tree_model.proofs.Numbering.{count-numbered, length-numbered_attrs}
use Rattle.doc_store.proofs.Loosely.{walk-join}

pub length-walk : {A : Type 0} (f : Forest A) → length (walk f) ≡ count f
length-walk none = refl
length-walk (tree a attrs kids rest) = omega (arith, length-append attrs (walk kids ++ walk rest), length-append (walk kids) (walk rest), length-walk kids, length-walk rest)

pub length-ids : (f : Forest Label) → length (ids_of f) ≡ count f
length-ids f = length-map (walk f) (λ (label : Label). label.id) ∙ length-walk f

ids-join : (f g : Forest Label) → ids_of (join f g) ≡ ids_of f ++ ids_of g
ids-join f g = ap (map (λ (label : Label). label.id)) (walk-join f g) ∙ map-append (λ (label : Label). label.id) (walk f) (walk g)

from-append : (n a b : ℕ) → ids_from n (a + b) ≡ ids_from n a ++ ids_from (n + a) b
from-append n zero b = let e : zero + b ≡ b = omega arith in let k : n + zero ≡ n = omega arith in ap (ids_from n) e ∙ ap (λ m. ids_from m b) (sym k)
from-append n (suc a) b =
    let e : suc a + b ≡ suc (a + b) = omega arith in
    let k : suc n + a ≡ n + suc a = omega arith in
    ap (ids_from n) e ∙ ap (λ l. n ∷ l) (from-append (suc n) a b ∙ ap (λ m. ids_from (suc n) a ++ ids_from m b) k)

attrs_from : (n : ℕ) (attrs : List Label) → map (λ (label : Label). label.id) (numbered_attrs n attrs) ≡ ids_from n (length attrs)
attrs_from n [] = refl
attrs_from n (a ∷ attrs) = ap (λ l. n ∷ l) (attrs_from (suc n) attrs)

-- numbered trees have the ids n, n + 1 and so on
pub ids_numbered : (n : ℕ) (f : Forest Label) → ids_of (numbered n f) ≡ ids_from n (count f)
ids_numbered n none = refl
ids_numbered n (tree label attrs kids rest) =
    let id : Label → ℕ = λ l. l.id in
    let own : List Label = numbered_attrs (n + 1) attrs in
    let inner : Forest Label = numbered (n + (1 + length attrs)) kids in
    let after : Forest Label = numbered (n + (1 + length attrs + count kids)) rest in
    let whole : 1 + length attrs + count kids + count rest ≡ suc (length attrs + (count kids + count rest)) = omega arith in
    let one : n + 1 ≡ suc n = omega arith in
    let two : n + (1 + length attrs) ≡ suc n + length attrs = omega arith in
    let three : n + (1 + length attrs + count kids) ≡ suc n + length attrs + count kids = omega arith in
    ap (λ l. n ∷ l) (
    map-append id own (walk inner ++ walk after)
    ∙ ap₂ (λ x y. x ++ y) (attrs_from (n + 1) attrs ∙ ap (λ m. ids_from m (length attrs)) one)
    (map-append id (walk inner) (walk after)
    ∙ ap₂ (λ x y. x ++ y) (ids_numbered (n + (1 + length attrs)) kids ∙ ap (λ m. ids_from m (count kids)) two) (ids_numbered (n + (1 + length attrs + count kids)) rest ∙ ap (λ m. ids_from m (count rest)) three))
    ∙ sym (from-append (suc n) (length attrs) (count kids + count rest) ∙ ap (λ l. ids_from (suc n) (length attrs) ++ l) (from-append (suc n + length attrs) (count kids) (count rest)))
    ) ∙ ap (ids_from n) (sym whole)

-- the ids of numbered trees among those of others
pub ids_put : (before doc after : Forest Label) (n at : ℕ) → count before ≡ at → ids_of (join before (join (numbered n doc) after)) ≡ with_ids at n (count doc) (ids_of (join before after))
ids_put before doc after n at place =
    let front : List ℕ = ids_of before in
    let back : List ℕ = ids_of after in
    let len : length front ≡ at = length-ids before ∙ place in
    let whole : ids_of (join before after) ≡ front ++ back = ids-join before after in
    let first : take at (ids_of (join before after)) ≡ front = ap (take at) whole ∙ take_at front back at len in
    let second : drop at (ids_of (join before after)) ≡ back = ap (drop at) whole ∙ drop_at front back at len in
    ids-join before (join (numbered n doc) after) ∙ ap (λ l. front ++ l) (ids-join (numbered n doc) after ∙ ap (λ l. l ++ back) (ids_numbered n doc))
    ∙ sym (ap₂ (λ x y. x ++ (ids_from n (count doc) ++ y)) first second)

none_has : (id next : ℕ) (labels : List Label) → All (λ (label : Label). label.id < next) labels → next ≤ id → times id (map (λ (label : Label). label.id) labels) ≡ 0
none_has id next [] h le = refl
none_has id next (label ∷ labels) h le =
    let head : label.id < next = All-head (λ (l : Label). l.id < next) label labels h in
    let no : (label.id == id) ≡ false = grind (arith, nat_tests, head, le) in
    let sum : times id (label.id ∷ map (λ (l : Label). l.id) labels) ≡ cond (label.id == id) 1 0 + times id (map (λ (l : Label). l.id) labels) =
    sum_by-cons (λ (x : ℕ). cond (x == id) 1 0) label.id (map (λ (l : Label). l.id) labels) in
    let free : ◌≡◌ {A = ℕ} (cond (label.id == id) 1 0) 0 = ap (λ (b : Bool). cond b 1 0) no in
    omega (arith, sum, free, none_has id next labels (All-tail (λ (l : Label). l.id < next) label labels h) le)

-- ids from the next one on are new
pub new_ids : (f : Forest Label) (next n : ℕ) → All (λ (label : Label). label.id < next) (walk f) → AreNew next n (ids_of f)
new_ids f next n below id le lt = none_has id next (walk f) below le
