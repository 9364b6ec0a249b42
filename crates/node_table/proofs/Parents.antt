-- The parent of a node stands as far before it as its row says.
use Rattle.std.proofs.Common.{◌≡◌, ℕ, zero, suc, ◌+◌, ◌-◌, ◌<◌, ◌≤◌, List, [], ◌∷◌, ◌++◌, map, length, Option, Some, None, refl, sym, ap, ap₂, ◌∙◌, subst, arith}
use Rattle.std.specs.List.{slice_index_or}
use Rattle.tree_model.specs.Forest.{Forest, none, tree, count, Line, raise, attr_lines, lines, grove_of, IsFlat}
use Rattle.tree_model.specs.Trees.{length-lines, length-attr_lines}
use Rattle.tree_model.specs.Nodes.{parents_from, parent_places}
use Rattle.tree_model.specs.Rows.{entry_lines}
use Rattle.tree_model.specs.declared.row.Row.{Row}

-- the place that a distance leads to from a place; no distance leads nowhere
abbrev pub place_before : ℕ → ℕ → Option ℕ
place_before n zero = None
place_before n (suc d) = Some (n - suc d)

-- the places that lines lead to, the first of which stands at a place
abbrev pub places_before : {A : Type 0} → ℕ → List (Line A) → List (Option ℕ)
places_before n [] = []
places_before n (line ∷ ls) = place_before n line.dist ∷ places_before (suc n) ls

places-append : {A : Type 0} (n : ℕ) (xs ys : List (Line A)) → places_before n (xs ++ ys) ≡ places_before n xs ++ places_before (n + length xs) ys
places-append n [] ys = ap (λ m. places_before m ys) (omega arith)
places-append n (x ∷ xs) ys =
    ap (λ l. place_before n x.dist ∷ l) (places-append (suc n) xs ys ∙ ap (λ m. places_before (suc n) xs ++ places_before m ys) (omega arith))

-- attributes lead to their element
attrs_before : {A : Type 0} (n d : ℕ) (attrs : List A) → 0 < d → d ≤ n → places_before n (attr_lines d attrs) ≡ map (λ x. Some (n - d)) attrs
attrs_before n d [] some le = refl
attrs_before n zero (a ∷ attrs) some le = absurd (omega arith)
attrs_before n (suc d) (a ∷ attrs) some le =
    let same : suc n - suc (suc d) ≡ n - suc d = omega arith in
    ap (λ l. Some (n - suc d) ∷ l) (attrs_before (suc n) (suc (suc d)) attrs (omega arith) (omega arith) ∙ ap (λ k. map (λ x. Some k) attrs) same)

raised_before : (n d m : ℕ) → d ≤ n → place_before (n + m) (raise d m) ≡ place_before n d
raised_before n zero m le = refl
raised_before n (suc d) m le = ap (λ k. Some k) (omega arith)

raised_within : (n d m : ℕ) → d ≤ n → raise d m ≤ n + m
raised_within n zero m le = omega arith
raised_within n (suc d) m le = omega arith

steps_back : (n k d : ℕ) → 0 < d → n ≡ k + d → place_before n d ≡ Some k
steps_back n k zero some e = absurd (omega arith)
steps_back n k (suc d) some e = ap (λ m. Some m) (omega arith)

-- and trees to their parent
pub lines_before : {A : Type 0} (n d : ℕ) (f : Forest A) → d ≤ n → places_before n (lines d f) ≡ parents_from (place_before n d) n f
lines_before n d none le = refl
lines_before n d (tree a attrs kids rest) le =
    let al : List (Line _) = attr_lines 1 attrs in
    let ks : List (Line _) = lines (1 + length attrs) kids in
    let size : ℕ = 1 + length attrs + count kids in
    let rs : List (Line _) = lines (raise d size) rest in
    let up : suc n - 1 ≡ n = omega arith in
    let own : places_before (suc n) al ≡ map (λ x. Some n) attrs = attrs_before (suc n) 1 attrs (omega arith) (omega arith) ∙ ap (λ k. map (λ x. Some k) attrs) up in
    let inner : places_before (suc n + length al) ks ≡ parents_from (Some n) (n + (1 + length attrs)) kids =
    ap (λ m. places_before m ks) (omega (arith, length-attr_lines 1 attrs)) ∙ lines_before (n + (1 + length attrs)) (1 + length attrs) kids (omega arith)
    ∙ ap (λ up. parents_from up (n + (1 + length attrs)) kids) (steps_back (n + (1 + length attrs)) n (1 + length attrs) (omega arith) (omega arith)) in
    let after : places_before (suc n + length al + length ks) rs ≡ parents_from (place_before n d) (n + size) rest =
    ap (λ m. places_before m rs) (omega (arith, length-attr_lines 1 attrs, length-lines (1 + length attrs) kids)) ∙ lines_before (n + size) (raise d size) rest (raised_within n d size le)
    ∙ ap (λ up. parents_from up (n + size) rest) (raised_before n d size le) in
    ap (λ l. place_before n d ∷ l)
    (places-append (suc n) al (ks ++ rs) ∙ ap (λ l. places_before (suc n) al ++ l) (places-append (suc n + length al) ks rs) ∙ ap₂ (λ x y. x ++ y) own (ap₂ (λ x y. x ++ y) inner after))

-- the place that the row at a place leads to
place_at : (n pre : ℕ) (rows : List Row) (row : Row) → pre < length rows → row ≡ slice_index_or rows pre row → slice_index_or (places_before n (entry_lines rows)) pre None ≡ place_before (n + pre) row.dist
place_at n pre [] row lt is = absurd (omega arith)
place_at n zero (r ∷ rows) row lt is = ap (λ (x : Row). place_before n x.dist) (sym is) ∙ ap (λ m. place_before m row.dist) (omega arith)
place_at n (suc pre) (r ∷ rows) row lt is = place_at (suc n) pre rows row (omega arith) is ∙ ap (λ m. place_before m row.dist) (omega arith)

pub parent_at : (pre : ℕ) (rows : List Row) (row : Row) → IsFlat (entry_lines rows) → pre < length rows → row ≡ slice_index_or rows pre row
    → slice_index_or (parent_places (grove_of (entry_lines rows))) pre None ≡ place_before pre row.dist
parent_at pre rows row flat lt is =
    let same : 0 + pre ≡ pre = omega arith in
    ap (λ l. slice_index_or l pre None) (sym (lines_before 0 0 (grove_of (entry_lines rows)) (omega arith)) ∙ ap (places_before 0) flat) ∙ place_at 0 pre rows row lt is
    ∙ ap (λ m. place_before m row.dist) same

-- ---- no distance leads before the first line

-- each line of some, the first of which stands at a place, leads no further than to the first of all
abbrev LeadNoFurther : {A : Type 0} → ℕ → List (Line A) → Type 0
LeadNoFurther n [] = Unit {0}
LeadNoFurther n (line ∷ ls) = (line.dist ≤ n) × LeadNoFurther (suc n) ls

further-append : {A : Type 0} (n m : ℕ) (xs ys : List (Line A)) → LeadNoFurther n xs → m ≡ n + length xs → LeadNoFurther m ys → LeadNoFurther n (xs ++ ys)
further-append n m [] ys h e k = subst (λ x. LeadNoFurther x ys) (e ∙ omega arith) k
further-append n m (x ∷ xs) ys h e k = (h.0, further-append (suc n) m xs ys h.1 (e ∙ omega arith) k)

attrs_further : {A : Type 0} (n d : ℕ) (attrs : List A) → d ≤ n → LeadNoFurther n (attr_lines d attrs)
attrs_further n d [] le = tt
attrs_further n d (a ∷ attrs) le = (le, attrs_further (suc n) (suc d) attrs (omega arith))

lines_further : {A : Type 0} (n d : ℕ) (f : Forest A) → d ≤ n → LeadNoFurther n (lines d f)
lines_further n d none le = tt
lines_further n d (tree a attrs kids rest) le =
    let size : ℕ = 1 + length attrs + count kids in (
      le,
      further-append (suc n) (n + (1 + length attrs)) (attr_lines 1 attrs) (lines (1 + length attrs) kids ++ lines (raise d size) rest) (attrs_further (suc n) 1 attrs (omega arith)) (omega (arith, length-attr_lines 1 attrs))
          (further-append (n + (1 + length attrs)) (n + size) (lines (1 + length attrs) kids) (lines (raise d size) rest) (lines_further (n + (1 + length attrs)) (1 + length attrs) kids (omega arith)) (omega (arith, length-lines (1 + length attrs) kids))
          (lines_further (n + size) (raise d size) rest (raised_within n d size le))),
    )

further_at : (n pre : ℕ) (rows : List Row) (row : Row) → LeadNoFurther n (entry_lines rows) → pre < length rows → row ≡ slice_index_or rows pre row → row.dist ≤ n + pre
further_at n pre [] row h lt is = absurd (omega arith)
further_at n zero (r ∷ rows) row h lt is = omega (arith, h.0, ap (λ (x : Row). x.dist) is)
further_at n (suc pre) (r ∷ rows) row h lt is = omega (arith, further_at (suc n) pre rows row h.1 (omega arith) is)

pub parent_within : (pre : ℕ) (rows : List Row) (row : Row) → IsFlat (entry_lines rows) → pre < length rows → row ≡ slice_index_or rows pre row → row.dist ≤ pre
parent_within pre rows row flat lt is =
    omega (arith, further_at 0 pre rows row (subst (λ ls. LeadNoFurther 0 ls) flat (lines_further 0 0 (grove_of (entry_lines rows)) (omega arith))) lt is)
