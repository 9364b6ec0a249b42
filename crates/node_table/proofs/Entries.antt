-- Rows are flat by themselves where they are flat with names and values in place of numbers and references.
use Rattle.std.proofs.Common.{◌≡◌, ℕ, suc, ◌+◌, List, [], ◌∷◌, ◌++◌, length, map, refl, sym, ap, ap₂, ◌∙◌, subst, arith}
use Rattle.std.proofs.lemmas.List.{length-map}
use Rattle.tree_model.specs.Forest.{Forest, none, tree, count, Line, raise, attr_lines, lines, grove_of, IsFlat}
use Rattle.tree_model.specs.Trees.{length-lines, length-attr_lines, is_flat}
use Rattle.tree_model.specs.Rows.{Entry, entry_lines, name_at, value_at, line_of, lines_of}
use Rattle.tree_model.specs.Labels.{Label}
use Rattle.tree_model.specs.declared.row.Row.{Row}
use Rattle.tree_model.specs.declared.text.Name.{Name}

-- a line with another label
abbrev pub relabelled : {A B : Type 0} → (A → B) → Line A → Line B
relabelled g line = record { label = g line.label; dist = line.dist; size = line.size; asize = line.asize }

-- a list that is mapped to two parts is cut where they meet
record Cut {A B : Type 0} (f : A → B) (xs ys : List B) (zs : List A) : Type 0 where
  front : List A
  back : List A
  whole : zs ≡ front ++ back
  first : xs ≡ map f front
  second : ys ≡ map f back

cut : {A B : Type 0} (f : A → B) (xs ys : List B) (zs : List A) → xs ++ ys ≡ map f zs → Cut f xs ys zs
cut f [] ys zs e = record { front = []; back = zs; whole = refl; first = refl; second = e }
cut f (x ∷ xs) ys [] e = absurd cc
cut f (x ∷ xs) ys (z ∷ zs) e =
    let head : x ≡ f z = cc in
    let tail : xs ++ ys ≡ map f zs = cc in
    let more = cut f xs ys zs tail in
    record { front = z ∷ more.front; back = more.back; whole = ap (λ l. z ∷ l) more.whole; first = ap₂ (λ y l. y ∷ l) head more.first; second = more.second }

-- attributes behind the labels
attrs_behind : {A B : Type 0} (g : A → B) (d : ℕ) (attrs : List B) (ls : List (Line A)) → attr_lines d attrs ≡ map (relabelled g) ls → (more : List A) × (attr_lines d more ≡ ls)
attrs_behind g d [] [] e = ([], refl)
attrs_behind g d [] (l ∷ ls) e = absurd cc
attrs_behind g d (a ∷ attrs) [] e = absurd cc
attrs_behind {B = B} g d (a ∷ attrs) (l ∷ ls) e =
    let head : ◌≡◌ {A = Line B} (record { label = a; dist = d; size = 1; asize = 1 }) (relabelled g l) = cc in
    let dist : d ≡ l.dist = ap (λ (m : Line B). m.dist) head in
    let size : 1 ≡ l.size = ap (λ (m : Line B). m.size) head in
    let asize : 1 ≡ l.asize = ap (λ (m : Line B). m.asize) head in
    let tail : attr_lines (suc d) attrs ≡ map (relabelled g) ls = cc in
    let more = attrs_behind g (suc d) attrs ls tail in
    (l.label ∷ more.0, λ i. record { label = l.label; dist = dist i; size = size i; asize = asize i } ∷ more.1 i)

-- and trees
trees_behind : {A B : Type 0} (g : A → B) (d : ℕ) (f : Forest B) (ls : List (Line A)) → lines d f ≡ map (relabelled g) ls → (more : Forest A) × (lines d more ≡ ls)
trees_behind g d none [] e = (none, refl)
trees_behind g d none (l ∷ ls) e = absurd cc
trees_behind g d (tree b attrs kids rest) [] e = absurd cc
trees_behind {B = B} g d (tree b attrs kids rest) (l ∷ ls) e =
    let size : ℕ = 1 + length attrs + count kids in
    let head : ◌≡◌ {A = Line B} (record { label = b; dist = d; size = size; asize = 1 + length attrs }) (relabelled g l) = cc in
    let al : List (Line _) = attr_lines 1 attrs in
    let ks : List (Line _) = lines (1 + length attrs) kids in
    let rs : List (Line _) = lines (raise d size) rest in
    let dist : d ≡ l.dist = ap (λ (m : Line B). m.dist) head in
    let its_size : size ≡ l.size = ap (λ (m : Line B). m.size) head in
    let its_asize : 1 + length attrs ≡ l.asize = ap (λ (m : Line B). m.asize) head in
    let tail : al ++ (ks ++ rs) ≡ map (relabelled g) ls = cc in
    let one = cut (relabelled g) al (ks ++ rs) ls tail in
    let two = cut (relabelled g) ks rs one.back one.second in
    let own = attrs_behind g 1 attrs one.front one.first in
    let inner = trees_behind g (1 + length attrs) kids two.front two.first in
    let after = trees_behind g (raise d size) rest two.back two.second in
    let many : length own.0 ≡ length attrs =
    sym (length-attr_lines 1 own.0) ∙ ap length own.1 ∙ sym (length-map one.front (relabelled g)) ∙ ap length (sym one.first) ∙ length-attr_lines 1 attrs in
    let below : count inner.0 ≡ count kids =
    sym (length-lines (1 + length attrs) inner.0) ∙ ap length inner.1 ∙ sym (length-map two.front (relabelled g)) ∙ ap length (sym two.first) ∙ length-lines (1 + length attrs) kids in
    let same_size : 1 + length own.0 + count inner.0 ≡ size = omega (arith, many, below) in
    let same_asize : 1 + length own.0 ≡ 1 + length attrs = omega (arith, many) in
    let first : lines (1 + length own.0) inner.0 ≡ two.front = ap (λ n. lines n inner.0) same_asize ∙ inner.1 in
    let second : lines (raise d (1 + length own.0 + count inner.0)) after.0 ≡ two.back = ap (λ n. lines (raise d n) after.0) same_size ∙ after.1 in
    let behind : attr_lines 1 own.0 ++ (lines (1 + length own.0) inner.0 ++ lines (raise d (1 + length own.0 + count inner.0)) after.0) ≡ ls =
    ap₂ (λ x y. x ++ y) own.1 (ap₂ (λ x y. x ++ y) first second ∙ sym two.whole) ∙ sym one.whole in
    (tree l.label own.0 inner.0 after.0, λ i. record { label = l.label; dist = dist i; size = (same_size ∙ its_size) i; asize = (same_asize ∙ its_asize) i } ∷ behind i)

flat_behind : {A B : Type 0} (g : A → B) (ls : List (Line A)) → IsFlat (map (relabelled g) ls) → IsFlat ls
flat_behind g ls flat = let more = trees_behind g 0 (grove_of (map (relabelled g) ls)) ls flat in is_flat ls more.0 (sym more.1)

-- what an entry says
abbrev label_of_entry : List Name → List ℕ → Entry → Label
label_of_entry names values e = record { kind = e.kind; id = e.id; name = name_at names e.name; value = value_at values e.val }

entries_relabelled : (names : List Name) (values : List ℕ) (rows : List Row) → lines_of names values rows ≡ map (relabelled (label_of_entry names values)) (entry_lines rows)
entries_relabelled names values [] = refl
entries_relabelled names values (row ∷ rows) = ap (λ l. line_of names values row ∷ l) (entries_relabelled names values rows)

pub entries_flat : (names : List Name) (values : List ℕ) (rows : List Row) → IsFlat (lines_of names values rows) → IsFlat (entry_lines rows)
entries_flat names values rows flat = flat_behind (label_of_entry names values) (entry_lines rows) (subst IsFlat (entries_relabelled names values rows) flat)
