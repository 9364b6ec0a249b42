-- The ids of numbered trees: n, n + 1 and so on, below n + the number of nodes, none twice.
use Rattle.std.proofs.Common.{◌≡◌, ℕ, suc, ◌+◌, ◌<◌, ◌≤◌, List, [], ◌∷◌, ◌++◌, length, nat_eq, cond, refl, ap, arith}
use Rattle.std.specs.List.{All}
use Rattle.std.proofs.lemmas.Bool.{cases_lt}
use Rattle.std.proofs.lemmas.Bool.Decides.{nat_tests}
use Rattle.std.proofs.lemmas.List.Elements.{All-nil, All-cons, All-head, All-tail, All-append}
use Rattle.std.proofs.lemmas.List.Sums.{sum_by-cons, sum_by-append}
use Rattle.tree_model.specs.Forest.{Forest, none, tree, walk, count}
use Rattle.tree_model.specs.Labels.{Label, with_id, numbered_attrs, numbered, with_path}
use Rattle.tree_model.specs.Sound.{with_id_count}

pub length-numbered_attrs : (n : ℕ) (attrs : List Label) → length (numbered_attrs n attrs) ≡ length attrs
length-numbered_attrs n [] = refl
length-numbered_attrs n (a ∷ attrs) = ap suc (length-numbered_attrs (suc n) attrs)

pub count-numbered : (n : ℕ) (f : Forest Label) → count (numbered n f) ≡ count f
count-numbered n none = refl
count-numbered n (tree label attrs kids rest) =
    omega (
      arith,
      length-numbered_attrs (n + 1) attrs,
      count-numbered (n + (1 + length attrs)) kids,
      count-numbered (n + (1 + length attrs + count kids)) rest,
    )

-- ---- how many nodes have an id

pub with_id_count-cons : (id : ℕ) (x : Label) (xs : List Label) → with_id_count id (x ∷ xs) ≡ cond (nat_eq x.id id) 1 0 + with_id_count id xs
with_id_count-cons id x xs = sum_by-cons (λ (l : Label). cond (nat_eq l.id id) 1 0) x xs

pub with_id_count-append : (id : ℕ) (xs ys : List Label) → with_id_count id (xs ++ ys) ≡ with_id_count id xs + with_id_count id ys
with_id_count-append id xs ys = sum_by-append (λ (l : Label). cond (nat_eq l.id id) 1 0) xs ys

-- c nodes have the id, at most one, and none outside the range from low to below high
pub record OnceWithin (id low high c : ℕ) : Type 0 where
  pub most : c ≤ 1
  pub below : id < low → c ≡ 0
  pub above : high ≤ id → c ≡ 0

once_none : {id low high c : ℕ} → c ≡ 0 → OnceWithin id low high c
once_none e = record { most = omega arith; below = λ h. e; above = λ h. e }

once_here : (id n : ℕ) → OnceWithin id n (n + 1) (cond (nat_eq n id) 1 0)
once_here id n = record { most = grind (arith, nat_tests); below = λ h. grind (arith, nat_tests); above = λ h. grind (arith, nat_tests) }

-- one range, and the next one
once_joined : {id low middle next end high c d e : ℕ} →
    OnceWithin id low middle c → OnceWithin id next end d → low ≤ middle → middle ≡ next → next ≤ end → end ≡ high → e ≡ c + d → OnceWithin id low high e
once_joined {id = id} {middle = middle} x y first seam second last sum = record { most = grind (arith, cases_lt id middle); below = λ h. omega arith; above = λ h. omega arith }

pub attrs_once : (id n : ℕ) (attrs : List Label) → OnceWithin id n (n + length attrs) (with_id_count id (numbered_attrs n attrs))
attrs_once id n [] = once_none refl
attrs_once id n (a ∷ attrs) =
    once_joined (once_here id n) (attrs_once id (suc n) attrs) (omega arith) (omega arith) (omega arith) (omega arith)
    (with_id_count-cons id (with_id n a) (numbered_attrs (suc n) attrs))

-- no id stands twice, and none outside the range
pub numbered_once : (id n : ℕ) (f : Forest Label) → OnceWithin id n (n + count f) (with_id_count id (walk (numbered n f)))
numbered_once id n none = once_none refl
numbered_once id n (tree label attrs kids rest) =
    let own : List Label = numbered_attrs (n + 1) attrs in
    let inner : List Label = walk (numbered (n + (1 + length attrs)) kids) in
    let after : List Label = walk (numbered (n + (1 + length attrs + count kids)) rest) in
    let trees : OnceWithin id (n + (1 + length attrs)) (n + (1 + length attrs + count kids + count rest)) (with_id_count id (inner ++ after)) =
    once_joined
    (numbered_once id (n + (1 + length attrs)) kids)
    (numbered_once id (n + (1 + length attrs + count kids)) rest)
    (omega arith) (omega arith) (omega arith) (omega arith) (with_id_count-append id inner after) in
    let nodes : OnceWithin id (n + 1) (n + (1 + length attrs + count kids + count rest)) (with_id_count id (own ++ (inner ++ after))) =
    once_joined (attrs_once id (n + 1) attrs) trees (omega arith) (omega arith) (omega arith) refl (with_id_count-append id own (inner ++ after)) in
    once_joined (once_here id n) nodes (omega arith) refl (omega arith) refl (with_id_count-cons id (with_id n label) (own ++ (inner ++ after)))

-- ---- ids are below the next one

pub attrs_below : (n next : ℕ) (attrs : List Label) → n + length attrs ≤ next → All (λ (label : Label). label.id < next) (numbered_attrs n attrs)
attrs_below n next [] h = All-nil _
attrs_below n next (a ∷ attrs) h =
    All-cons (λ (label : Label). label.id < next) (with_id n a) (numbered_attrs (suc n) attrs) (omega arith) (attrs_below (suc n) next attrs (omega arith))

pub numbered_below : (n next : ℕ) (f : Forest Label) → n + count f ≤ next → All (λ (label : Label). label.id < next) (walk (numbered n f))
numbered_below n next none h = All-nil _
numbered_below n next (tree label attrs kids rest) h =
    let own : List Label = numbered_attrs (n + 1) attrs in
    let inner : List Label = walk (numbered (n + (1 + length attrs)) kids) in
    let after : List Label = walk (numbered (n + (1 + length attrs + count kids)) rest) in
    All-cons (λ (l : Label). l.id < next) (with_id n label) (own ++ (inner ++ after)) (omega arith)
    (All-append (λ (l : Label). l.id < next) own (inner ++ after) (attrs_below (n + 1) next attrs (omega arith))
    (All-append (λ (l : Label). l.id < next) inner after
    (numbered_below (n + (1 + length attrs)) next kids (omega arith))
    (numbered_below (n + (1 + length attrs + count kids)) next rest (omega arith))))

-- ---- another path, with the same ids

pub with_path-ids : (id : ℕ) (path : List ℕ) (f : Forest Label) → with_id_count id (walk (with_path path f)) ≡ with_id_count id (walk f)
with_path-ids id path none = refl
with_path-ids id path (tree label attrs kids rest) = refl

pub with_path-below : (next : ℕ) (path : List ℕ) (f : Forest Label) → All (λ (label : Label). label.id < next) (walk f) → All (λ (label : Label). label.id < next) (walk (with_path path f))
with_path-below next path none h = h
with_path-below next path (tree label attrs kids rest) h =
    let more : List Label = attrs ++ (walk kids ++ walk rest) in
    All-cons (λ (l : Label). l.id < next) (record label { value = path }) more
    (All-head (λ (l : Label). l.id < next) label more h)
    (All-tail (λ (l : Label). l.id < next) label more h)
