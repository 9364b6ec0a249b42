-- Databases in a row, whose names differ.
use Rattle.std.proofs.Common.{◌≡◌, ℕ, zero, suc, ◌+◌, ◌<◌, ◌≤◌, Bool, true, false, not, nat_lt, cond, ◌-◌, List, [], ◌∷◌, ◌++◌, length, length-append, append-nil, append_assoc, map, drop, Some, None, refl, sym, ap, ◌∙◌, subst, arith}
use borrow.Author.Tests.{ltb-false, ltb-true}
use Rattle.std.specs.List.{prefix_len, position, remove, list_any}
use Rattle.std.specs.Str.{bytes_eq}
use Rattle.std.specs.Bool.{Decides}
use Rattle.std.proofs.lemmas.Bool.{and_parts, and_from, or_parts}
use Rattle.std.proofs.lemmas.Bool.Decides.{same_from_decides}
use Rattle.std.proofs.lemmas.Slice.Eq.{bytes_eq-Decides}
use Rattle.std.proofs.lemmas.List.{drop_all, map-append, length-map}
use Rattle.std.proofs.lemmas.List.Elements.{All-nil, All-cons, All-head, All-tail, All-append, All-filter}
use Rattle.tree_model.specs.Printed.{base_text, list_text}
use Rattle.tree_model.specs.Sound.{are_distinct}
use Rattle.tree_model.specs.States.{Base, is_base_name, without_name}
use Rattle.doc_store.specs.Stored.{Stored, base_of}
use Rattle.kernel_session.specs.Databases.{AreNamed, AreWhole}

abbrev is_named : List ℕ → Base → Bool
is_named name base = bytes_eq base.name name

abbrev pub names_of : List Base → List (List ℕ)
names_of bases = map (λ (base : Base). base.name) bases

-- the place of the first base of a name, or the number of bases
abbrev place : List ℕ → List Base → ℕ
place name bases = prefix_len (λ base. not (is_named name base)) bases

-- ---- no base of the name

kept_first : (b : Base) (bases ws : List Base) (t : Bool) (n : ℕ) → suc (length bases) ≤ cond (not t) (1 + n) 0 → (length bases ≤ n → ws ≡ bases) → cond (not t) (b ∷ ws) ws ≡ b ∷ bases
kept_first b bases ws true n h ih = absurd (omega arith)
kept_first b bases ws false n h ih = ap (λ l. b ∷ l) (ih (omega arith))

without_none : (name : List ℕ) (bases : List Base) → length bases ≤ place name bases → without_name name bases ≡ bases
without_none name [] h = refl
without_none name (b ∷ bases) h = kept_first b bases (without_name name bases) (is_named name b) (place name bases) h (without_none name bases)

-- ---- one base of the name

symmetric : (xs ys : List ℕ) → bytes_eq xs ys ≡ bytes_eq ys xs
symmetric xs ys =
    let there : Decides (bytes_eq xs ys) (xs ≡ ys) = bytes_eq-Decides xs ys in
    let back : Decides (bytes_eq ys xs) (ys ≡ xs) = bytes_eq-Decides ys xs in
    same_from_decides (bytes_eq xs ys) (bytes_eq ys xs) there ((λ h. sym (back.0 h)), (λ e. back.1 (sym e)))

-- none of the bases has the name, where none of their names is it
others_kept : (name : List ℕ) (bases : List Base) → list_any (bytes_eq name) (names_of bases) ≡ false → without_name name bases ≡ bases
others_kept name [] h = refl
others_kept name (b ∷ bases) h =
    let p = or_parts (bytes_eq name b.name) (list_any (bytes_eq name) (names_of bases)) h in
    ap (λ t. cond (not t) (b ∷ without_name name bases) (without_name name bases)) (symmetric b.name name ∙ p.0) ∙ ap (λ l. b ∷ l) (others_kept name bases p.1)

not_true : (t : Bool) → not t ≡ true → t ≡ false
not_true true h = cc
not_true false h = refl

one_more : (n : ℕ) → suc n ≡ 1 + n
one_more n = omega arith

without_one : (name : List ℕ) (bases : List Base) → are_distinct (names_of bases) ≡ true → place name bases < length bases → without_name name bases ≡ remove bases (place name bases)
without_one name [] distinct lt = absurd (omega arith)
without_one name (b ∷ bases) distinct lt = by (without_one name bases) (is_named name b) refl lt
  where
    parts : (not (list_any (bytes_eq b.name) (names_of bases)) ≡ true) × (are_distinct (names_of bases) ≡ true)
    parts = and_parts (not (list_any (bytes_eq b.name) (names_of bases))) (are_distinct (names_of bases)) distinct

    chosen : Bool → List Base
    chosen t = cond (not t) (b ∷ without_name name bases) (without_name name bases)

    at : Bool → ℕ
    at t = cond (not t) (1 + place name bases) 0

    by : (are_distinct (names_of bases) ≡ true → place name bases < length bases → without_name name bases ≡ remove bases (place name bases))
        → (t : Bool) → is_named name b ≡ t → at t < suc (length bases) → chosen t ≡ remove (b ∷ bases) (at t)
    by more true e less =
        let same : b.name ≡ name = (bytes_eq-Decides b.name name).0 e in
        others_kept name bases (subst (λ n. list_any (bytes_eq n) (names_of bases) ≡ false) same (not_true _ parts.0))
    by more false e less =
        subst (λ n. (b ∷ without_name name bases) ≡ remove (b ∷ bases) n) (one_more (place name bases)) (ap (λ l. b ∷ l) (more parts.1 (omega arith)))

-- ---- a new base behind the others

pub put_new : (bases : List Base) (base : Base) → None ≡ position (λ b. bytes_eq b.name base.name) bases → bases ++ base ∷ [] ≡ without_name base.name bases ++ base ∷ []
put_new bases base h = ap (λ l. l ++ base ∷ []) (sym (without_none base.name bases (by (nat_lt (place base.name bases) (length bases)) refl (sym h))))
  where
    by : (t : Bool) → nat_lt (place base.name bases) (length bases) ≡ t → cond t (Some (place base.name bases)) None ≡ None → length bases ≤ place base.name bases
    by true e none = cc
    by false e none = omega (arith, ltb-false)

removed_front : (bases more : List Base) (n : ℕ) → n < length bases → remove (bases ++ more) n ≡ remove bases n ++ more
removed_front [] more n lt = absurd (omega arith)
removed_front (b ∷ bases) more zero lt = refl
removed_front (b ∷ bases) more (suc n) lt = ap (λ l. b ∷ l) (removed_front bases more n (omega arith))

pub put_over : (bases : List Base) (base : Base) (n : ℕ) → are_distinct (names_of bases) ≡ true → Some n ≡ position (λ b. bytes_eq b.name base.name) bases
    → remove (bases ++ base ∷ []) n ≡ without_name base.name bases ++ base ∷ []
put_over bases base n distinct h = by (nat_lt (place base.name bases) (length bases)) refl (sym h)
  where
    by : (t : Bool) → nat_lt (place base.name bases) (length bases) ≡ t → cond t (Some (place base.name bases)) None ≡ Some n → remove (bases ++ base ∷ []) n ≡ without_name base.name bases ++ base ∷ []
    by true e some =
        let lt : place base.name bases < length bases = omega (arith, ltb-true) in
        let same : place base.name bases ≡ n = cc in
        ap (remove (bases ++ base ∷ [])) (sym same) ∙ removed_front bases (base ∷ []) (place base.name bases) lt
        ∙ ap (λ l. l ++ base ∷ []) (sym (without_one base.name bases distinct lt))
    by false e some = cc

-- ---- names still differ

abbrev picked : Bool → Base → List Base → List Base
picked t b ws = cond (not t) (b ∷ ws) ws

-- a test that no name passes, and the new one doesn't, passes at none of them all
none_passes : (test : List ℕ → Bool) (base : Base) (bases : List Base) → list_any test (names_of bases) ≡ false → test base.name ≡ false → list_any test (names_of (without_name base.name bases ++ base ∷ [])) ≡ false
none_passes test base [] h new = rw new refl
none_passes test base (b ∷ bases) h new = by (none_passes test base bases parts.1 new) (is_named base.name b)
  where
    parts : (test b.name ≡ false) × (list_any test (names_of bases) ≡ false)
    parts = or_parts (test b.name) (list_any test (names_of bases)) h

    by : list_any test (names_of (without_name base.name bases ++ base ∷ [])) ≡ false → (t : Bool) → list_any test (names_of (picked t b (without_name base.name bases) ++ base ∷ [])) ≡ false
    by more true = more
    by more false = rw parts.0 more

pub put_distinct : (base : Base) (bases : List Base) → are_distinct (names_of bases) ≡ true → are_distinct (names_of (without_name base.name bases ++ base ∷ [])) ≡ true
put_distinct base [] distinct = refl
put_distinct base (b ∷ bases) distinct = by (put_distinct base bases parts.1) (is_named base.name b) refl
  where
    parts : (not (list_any (bytes_eq b.name) (names_of bases)) ≡ true) × (are_distinct (names_of bases) ≡ true)
    parts = and_parts (not (list_any (bytes_eq b.name) (names_of bases))) (are_distinct (names_of bases)) distinct

    by : are_distinct (names_of (without_name base.name bases ++ base ∷ [])) ≡ true → (t : Bool) → is_named base.name b ≡ t → are_distinct (names_of (picked t b (without_name base.name bases) ++ base ∷ [])) ≡ true
    by more true e = more
    by more false e = and_from _ _ (ap not (none_passes (bytes_eq b.name) base bases (not_true _ parts.0) e)) more

-- good names stay good
pub put_named : (base : Base) (bases : List Base) → AreNamed bases → is_base_name base.name ≡ true → AreNamed (without_name base.name bases ++ base ∷ [])
put_named base bases named good =
    All-append (λ (b : Base). is_base_name b.name ≡ true) (without_name base.name bases) (base ∷ [])
    (All-filter (λ (b : Base). not (bytes_eq b.name base.name)) (λ (b : Base). is_base_name b.name ≡ true) bases named)
    (All-cons (λ (b : Base). is_base_name b.name ≡ true) base [] good (All-nil (λ (b : Base). is_base_name b.name ≡ true)))

-- the last one is one of them
pub last_within : (bases front : List Base) (base : Base) (len place : ℕ) → bases ≡ front ++ base ∷ [] → len ≡ length bases → Some (len - 1) ≡ Some place → place < length bases
last_within bases front base len place e counted some =
    let same : len - 1 ≡ place = cc in
    omega (arith, same, counted, ap length e, length-append front (base ∷ []))

-- ---- a line for each

-- the lines of bases, each behind an LF
abbrev pub more_lines : List Base → List ℕ
more_lines [] = []
more_lines (b ∷ bases) = (10 ∷ []) ++ (base_text b ++ more_lines bases)

joined : (b : Base) (bases : List Base) → list_text (b ∷ bases) ≡ base_text b ++ more_lines bases
joined b [] = sym (append-nil (base_text b))
joined b (next ∷ bases) = ap (λ l. base_text b ++ 10 ∷ l) (joined next bases)

-- the same, of databases
abbrev pub lines_behind : List Stored → List ℕ
lines_behind [] = []
lines_behind (d ∷ databases) = (10 ∷ []) ++ (base_text (base_of d) ++ lines_behind databases)

more_lines_are : (databases : List Stored) → more_lines (map base_of databases) ≡ lines_behind databases
more_lines_are [] = refl
more_lines_are (d ∷ databases) = ap (λ l. 10 ∷ (base_text (base_of d) ++ l)) (more_lines_are databases)

pub lines_written : (databases rest : List Stored) (first : Stored) (old front out : List ℕ) (i : ℕ) → databases ≡ first ∷ rest → front ≡ old ++ base_text (base_of first) → length rest ≤ i
    → out ++ lines_behind (drop i rest) ≡ front ++ lines_behind rest → out ≡ old ++ list_text (map base_of databases)
lines_written databases rest first old front out i e head le text =
    sym (append-nil out) ∙ ap (λ l. out ++ lines_behind l) (sym (drop_all i rest le)) ∙ text ∙ ap (λ l. l ++ lines_behind rest) head ∙ append_assoc old (base_text (base_of first)) (lines_behind rest)
    ∙ ap (λ l. old ++ (base_text (base_of first) ++ l)) (sym (more_lines_are rest))
    ∙ ap (λ l. old ++ l) (sym (joined (base_of first) (map base_of rest)) ∙ ap (λ l. list_text (map base_of l)) (sym e))

-- ---- databases, and their bases

abbrev has_name : List ℕ → Stored → Bool
has_name name d = bytes_eq d.name name

place_same : (name : List ℕ) (databases : List Stored) → prefix_len (λ d. not (has_name name d)) databases ≡ place name (map base_of databases)
place_same name [] = refl
place_same name (d ∷ databases) = ap (λ n. cond (not (has_name name d)) (1 + n) 0) (place_same name databases)

position_same : (name : List ℕ) (databases : List Stored) → position (λ d. bytes_eq d.name name) databases ≡ position (λ (b : Base). bytes_eq b.name name) (map base_of databases)
position_same name databases =
    ap (λ n. cond (nat_lt n (length databases)) (Some n) None) (place_same name databases)
    ∙ ap (λ n. cond (nat_lt (place name (map base_of databases)) n) (Some (place name (map base_of databases))) None) (sym (length-map databases base_of))

pub bases_new : (databases : List Stored) (d : Stored) → None ≡ position (λ e. bytes_eq e.name d.name) databases → map base_of (databases ++ d ∷ []) ≡ without_name d.name (map base_of databases) ++ base_of d ∷ []
bases_new databases d h = map-append base_of databases (d ∷ []) ∙ put_new (map base_of databases) (base_of d) (h ∙ position_same d.name databases)

removed_same : (databases : List Stored) (n : ℕ) → map base_of (remove databases n) ≡ remove (map base_of databases) n
removed_same [] zero = refl
removed_same [] (suc n) = refl
removed_same (d ∷ databases) zero = refl
removed_same (d ∷ databases) (suc n) = ap (λ l. base_of d ∷ l) (removed_same databases n)

pub bases_over : (databases : List Stored) (d : Stored) (n : ℕ) → are_distinct (names_of (map base_of databases)) ≡ true → Some n ≡ position (λ e. bytes_eq e.name d.name) databases
    → map base_of (remove (databases ++ d ∷ []) n) ≡ without_name d.name (map base_of databases) ++ base_of d ∷ []
bases_over databases d n distinct h =
    removed_same (databases ++ d ∷ []) n ∙ ap (λ l. remove l n) (map-append base_of databases (d ∷ []))
    ∙ put_over (map base_of databases) (base_of d) n distinct (h ∙ position_same d.name databases)

-- of none a branch is out
pub whole_more : (databases : List Stored) (d : Stored) → AreWhole databases → d.branched ≡ false → AreWhole (databases ++ d ∷ [])
whole_more databases d h own = All-append (λ (e : Stored). e.branched ≡ false) databases (d ∷ []) h (All-cons (λ (e : Stored). e.branched ≡ false) d [] own (All-nil _))

pub whole_less : (databases : List Stored) (n : ℕ) → AreWhole databases → AreWhole (remove databases n)
whole_less [] zero h = h
whole_less [] (suc n) h = h
whole_less (d ∷ databases) zero h = All-tail (λ (e : Stored). e.branched ≡ false) d databases h
whole_less (d ∷ databases) (suc n) h =
    All-cons (λ (e : Stored). e.branched ≡ false) d (remove databases n) (All-head (λ (e : Stored). e.branched ≡ false) d databases h) (whole_less databases n (All-tail (λ (e : Stored). e.branched ≡ false) d databases h))
