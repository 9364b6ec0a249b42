-- Lists of trees, their nodes in document order, and the rows that stand for them (Gruen 2010, the table of pre, dist and size).
use Rattle.std.specs.Prelude.{◌≡◌, ℕ, zero, suc, ◌+◌, ◌-◌, List, [], ◌∷◌, ◌++◌, map, length, take, drop}

-- a list of trees. Each tree has a label, the labels of its attributes, and its children; after it come the trees after it
pub data Forest (A : Type 0) : Type 0 where
  none : Forest A
  tree : A → List A → Forest A → Forest A → Forest A

-- the nodes in document order: a tree, then its attributes, then the walks of its children
abbrev pub walk : {A : Type 0} → Forest A → List A
walk none = []
walk (tree a attrs kids rest) = a ∷ (attrs ++ (walk kids ++ walk rest))

-- the number of nodes
abbrev pub count : {A : Type 0} → Forest A → ℕ
count none = 0
count (tree a attrs kids rest) = 1 + length attrs + count kids + count rest

-- how many trees there are, without those below them
abbrev pub top_count : {A : Type 0} → Forest A → ℕ
top_count none = 0
top_count (tree a attrs kids rest) = suc (top_count rest)

-- one list of trees, then the other
abbrev pub join : {A : Type 0} → Forest A → Forest A → Forest A
join none g = g
join (tree a attrs kids rest) g = tree a attrs kids (join rest g)

-- a node of the walk with its numbers
pub record Line (A : Type 0) : Type 0 where
  pub label : A
  pub dist : ℕ
  pub size : ℕ
  pub asize : ℕ

-- the distance of a node n places further on, under the same parent. Roots keep 0
abbrev pub raise : ℕ → ℕ → ℕ
raise zero n = 0
raise (suc d) n = suc (d + n)

-- the lines of attributes, the first at distance d from their element
abbrev pub attr_lines : {A : Type 0} → ℕ → List A → List (Line A)
attr_lines d [] = []
attr_lines d (a ∷ attrs) = record { label = a; dist = d; size = 1; asize = 1 } ∷ attr_lines (suc d) attrs

-- the lines of trees, the first at distance d from their parent
abbrev pub lines : {A : Type 0} → ℕ → Forest A → List (Line A)
lines d none = []
lines d (tree a attrs kids rest) =
    record { label = a; dist = d; size = 1 + length attrs + count kids; asize = 1 + length attrs }
    ∷ (attr_lines 1 attrs
    ++ (lines (1 + length attrs) kids ++ lines (raise d (1 + length attrs + count kids)) rest))

-- one line per node
abbrev pub flatten : {A : Type 0} → Forest A → List (Line A)
flatten f = lines 0 f

-- the trees that n lines or fewer say, read by size and asize
abbrev pub read_trees : {A : Type 0} → ℕ → List (Line A) → Forest A
read_trees zero ls = none
read_trees (suc n) [] = none
read_trees (suc n) (l ∷ ls) =
    tree l.label (map (λ m. m.label) (take (l.asize - 1) ls))
    (read_trees n (take (l.size - l.asize) (drop (l.asize - 1) ls)))
    (read_trees n (drop (l.size - 1) ls))

abbrev pub grove_of : {A : Type 0} → List (Line A) → Forest A
grove_of ls = read_trees (length ls) ls

-- two lists of trees with equal flattenings are equal
abbrev pub IsOneToOne : Type 0 → Type 0
IsOneToOne A = (f g : Forest A) → flatten f ≡ flatten g → f ≡ g

-- the lines are those of the grove that they say
abbrev pub IsFlat : {A : Type 0} → List (Line A) → Type 0
IsFlat ls = flatten (grove_of ls) ≡ ls
