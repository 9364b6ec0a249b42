-- Laws of flattening: what is read from the lines of trees is those trees.
use Rattle.std.proofs.Common.{◌≡◌, ℕ, zero, suc, ◌+◌, ◌-◌, ◌<◌, ◌≤◌, List, [], ◌∷◌, ◌++◌, map, length, take, drop, refl, sym, ap, ◌∙◌, arith, append_assoc, length-append, take_at, drop_at}
use Rattle.tree_model.specs.Forest.{Forest, none, tree, count, join, Line, raise, attr_lines, lines, flatten, read_trees, grove_of, IsFlat}

pub length-attr_lines : {A : Type 0} (d : ℕ) (attrs : List A) → length (attr_lines d attrs) ≡ length attrs
length-attr_lines d [] = refl
length-attr_lines d (a ∷ attrs) = ap suc (length-attr_lines (suc d) attrs)

pub length-lines : {A : Type 0} (d : ℕ) (f : Forest A) → length (lines d f) ≡ count f
length-lines d none = refl
length-lines d (tree a attrs kids rest) =
    simp (length-append, length-attr_lines, length-lines (1 + length attrs) kids, length-lines (raise d (1 + length attrs + count kids)) rest) (omega arith)

pub labels-attr_lines : {A : Type 0} (d : ℕ) (attrs : List A) → map (λ (m : Line A). m.label) (attr_lines d attrs) ≡ attrs
labels-attr_lines d [] = refl
labels-attr_lines d (a ∷ attrs) = ap (λ xs. a ∷ xs) (labels-attr_lines (suc d) attrs)

pub raise-raise : (d m n : ℕ) → raise (raise d m) n ≡ raise d (m + n)
raise-raise zero m n = refl
raise-raise (suc d) m n = omega arith

pub raise_comm : (d m n : ℕ) → raise (raise d m) n ≡ raise (raise d n) m
raise_comm zero m n = refl
raise_comm (suc d) m n = omega arith

pub raise-le : (d n : ℕ) → raise d n ≤ d + n
raise-le zero n = omega arith
raise-le (suc d) n = omega arith

pub raise_pos : (d n : ℕ) → 0 < d → raise d n ≡ d + n
raise_pos zero n h = absurd (omega arith)
raise_pos (suc d) n h = omega arith

pub raise-zero : (d : ℕ) → raise d 0 ≡ d
raise-zero zero = refl
raise-zero (suc d) = omega arith

pub count-join : {A : Type 0} (f g : Forest A) → count (join f g) ≡ count f + count g
count-join none g = omega arith
count-join (tree a attrs kids rest) g = omega (arith, count-join rest g)

pub lines-join : {A : Type 0} (d : ℕ) (f g : Forest A) → lines d (join f g) ≡ lines d f ++ lines (raise d (count f)) g
lines-join d none g = ap (λ e. lines e g) (sym (raise-zero d))
lines-join d (tree a attrs kids rest) g =
    let e : lines (raise d (1 + length attrs + count kids)) (join rest g)
    ≡ lines (raise d (1 + length attrs + count kids)) rest ++ lines (raise d (1 + length attrs + count kids + count rest)) g =
    rw (← raise-raise d (1 + length attrs + count kids) (count rest)) (lines-join (raise d (1 + length attrs + count kids)) rest g) in
    simp (append_assoc, e)

-- what is read from the lines of trees is those trees
pub read-lines : {A : Type 0} (n d : ℕ) (f : Forest A) → count f ≤ n → read_trees n (lines d f) ≡ f
read-lines zero d none h = refl
read-lines zero d (tree a attrs kids rest) h = absurd (omega arith)
read-lines (suc n) d none h = refl
read-lines (suc n) d (tree a attrs kids rest) h =
    let al : List (Line _) = attr_lines 1 attrs in
    let ks : List (Line _) = lines (1 + length attrs) kids in
    let rs : List (Line _) = lines (raise d (1 + length attrs + count kids)) rest in
    let e1 : take (1 + length attrs - 1) (al ++ (ks ++ rs)) ≡ al =
    take_at al (ks ++ rs) (1 + length attrs - 1) (omega (arith, length-attr_lines 1 attrs)) in
    let e2 : drop (1 + length attrs - 1) (al ++ (ks ++ rs)) ≡ ks ++ rs =
    drop_at al (ks ++ rs) (1 + length attrs - 1) (omega (arith, length-attr_lines 1 attrs)) in
    let e3 : take (1 + length attrs + count kids - (1 + length attrs)) (ks ++ rs) ≡ ks =
    take_at ks rs (1 + length attrs + count kids - (1 + length attrs)) (omega (arith, length-lines (1 + length attrs) kids)) in
    let e4 : drop (1 + length attrs + count kids - 1) (al ++ (ks ++ rs)) ≡ rs =
    rw (← append_assoc al ks rs) (drop_at (al ++ ks) rs (1 + length attrs + count kids - 1)
    (omega (arith, length-append al ks, length-attr_lines 1 attrs, length-lines (1 + length attrs) kids))) in
    rw (
      e1,
      e2,
      e3,
      e4,
      labels-attr_lines 1 attrs,
      read-lines n (1 + length attrs) kids (omega arith),
      read-lines n (raise d (1 + length attrs + count kids)) rest (omega arith),
    )

pub grove-flatten : {A : Type 0} (f : Forest A) → grove_of (flatten f) ≡ f
grove-flatten f = read-lines (length (flatten f)) 0 f (omega (arith, length-lines 0 f))

pub one_to_one : {A : Type 0} (f g : Forest A) → flatten f ≡ flatten g → f ≡ g
one_to_one f g h = sym (grove-flatten f) ∙ ap grove_of h ∙ grove-flatten g

pub is_flat : {A : Type 0} (ls : List (Line A)) (f : Forest A) → ls ≡ flatten f → IsFlat ls
is_flat ls f e = ap (λ x. flatten (grove_of x)) e ∙ ap flatten (grove-flatten f) ∙ sym e

pub grove_is : {A : Type 0} (ls : List (Line A)) (f : Forest A) → ls ≡ flatten f → grove_of ls ≡ f
grove_is ls f e = ap grove_of e ∙ grove-flatten f

pub flat-length : {A : Type 0} (ls : List (Line A)) → IsFlat ls → length ls ≡ count (grove_of ls)
flat-length ls h = ap length (sym h) ∙ length-lines 0 (grove_of ls)
