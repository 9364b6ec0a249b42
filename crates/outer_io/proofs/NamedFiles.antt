-- The place of a name among entries, and what stands under it.
use Rattle.std.proofs.Common.{◌≡◌, ◌≢◌, ℕ, zero, suc, ◌+◌, ◌<◌, ◌≤◌, Bool, true, false, not, nat_lt, is_none, cond, List, [], ◌∷◌, ◌++◌, length, get_or, set, Some, None, refl, sym, ap, ◌∙◌, arith}
use borrow.Author.Tests.{ltb-false}
use Rattle.std.specs.List.{prefix_len, position}
use Rattle.std.specs.Str.{bytes_eq}
use Rattle.std.proofs.lemmas.List.Quantifiers.{position-Some}
use Rattle.std.proofs.lemmas.Bool.{and_parts, and_from}
use Rattle.std.proofs.lemmas.Slice.Eq.{bytes_eq-Decides}
use Rattle.outer_io.specs.Files.{Entry, file_in, with_file, have_different_names}

abbrev is_named : List ℕ → Entry → Bool
is_named name entry = bytes_eq entry.name name

-- the place of the first entry of a name, or the number of entries
abbrev place : List ℕ → List Entry → ℕ
place name entries = prefix_len (λ entry. not (is_named name entry)) entries

-- ---- no entry of the name

beyond : (name : List ℕ) (entries : List Entry) → position (is_named name) entries ≡ None → length entries ≤ place name entries
beyond name entries h = by (nat_lt (place name entries) (length entries)) refl h
  where
    by : (t : Bool) → nat_lt (place name entries) (length entries) ≡ t → cond t (Some (place name entries)) None ≡ None → length entries ≤ place name entries
    by true e none = cc
    by false e none = omega (arith, ltb-false)

nothing_under : (name : List ℕ) (entries : List Entry) → length entries ≤ place name entries → file_in name entries ≡ None
nothing_under name [] h = refl
nothing_under name (entry ∷ more) h = by (nothing_under name more) (is_named name entry) h
  where
    by : (length more ≤ place name more → file_in name more ≡ None) → (t : Bool) → suc (length more) ≤ cond (not t) (1 + place name more) 0 → cond t (Some entry.bytes) (file_in name more) ≡ None
    by rest true h = absurd (omega arith)
    by rest false h = rest (omega arith)

behind_all : (name bytes : List ℕ) (entries : List Entry) → length entries ≤ place name entries → entries ++ record { name = name; bytes = bytes } ∷ [] ≡ with_file name bytes entries
behind_all name bytes [] h = refl
behind_all name bytes (entry ∷ more) h = by (behind_all name bytes more) (is_named name entry) h
  where
    by : (length more ≤ place name more → more ++ record { name = name; bytes = bytes } ∷ [] ≡ with_file name bytes more)
        → (t : Bool) → suc (length more) ≤ cond (not t) (1 + place name more) 0
        → entry ∷ (more ++ record { name = name; bytes = bytes } ∷ []) ≡ cond t (record entry { bytes = bytes } ∷ more) (entry ∷ with_file name bytes more)
    by rest true h = absurd (omega arith)
    by rest false h = ap (λ l. entry ∷ l) (rest (omega arith))

pub no_file : (name : List ℕ) (entries : List Entry) → None ≡ position (λ entry. bytes_eq entry.name name) entries → file_in name entries ≡ None
no_file name entries h = nothing_under name entries (beyond name entries (sym h))

pub new_file : (name bytes : List ℕ) (entries : List Entry) → None ≡ position (λ entry. bytes_eq entry.name name) entries
    → entries ++ record { name = name; bytes = bytes } ∷ [] ≡ with_file name bytes entries
new_file name bytes entries h = behind_all name bytes entries (beyond name entries (sym h))

-- ---- the first entry of the name

first_under : (name : List ℕ) (entries : List Entry) (at : ℕ) (d : Entry) → at < length entries → is_named name (get_or entries at d) ≡ true
    → ((k : ℕ) → k < at → is_named name (get_or entries k d) ≡ false) → file_in name entries ≡ Some ((get_or entries at d).bytes)
first_under name [] at d lt there earlier = absurd (omega arith)
first_under name (entry ∷ more) zero d lt there earlier = rw there refl
first_under name (entry ∷ more) (suc at) d lt there earlier =
    ap (λ t. cond t (Some entry.bytes) (file_in name more)) (earlier 0 (omega arith)) ∙ first_under name more at d (omega arith) there (λ k h. earlier (suc k) (omega arith))

first_set : (name bytes : List ℕ) (entries : List Entry) (at : ℕ) (d : Entry) → at < length entries → is_named name (get_or entries at d) ≡ true
    → ((k : ℕ) → k < at → is_named name (get_or entries k d) ≡ false) → set entries at (record (get_or entries at d) { bytes = bytes }) ≡ with_file name bytes entries
first_set name bytes [] at d lt there earlier = absurd (omega arith)
first_set name bytes (entry ∷ more) zero d lt there earlier = sym (ap (λ t. cond t (record entry { bytes = bytes } ∷ more) (entry ∷ with_file name bytes more)) there)
first_set name bytes (entry ∷ more) (suc at) d lt there earlier =
    ap (λ l. entry ∷ l) (first_set name bytes more at d (omega arith) there (λ k h. earlier (suc k) (omega arith)))
    ∙ sym (ap (λ t. cond t (record entry { bytes = bytes } ∷ more) (entry ∷ with_file name bytes more)) (earlier 0 (omega arith)))

pub found_file : (name : List ℕ) (entries : List Entry) (at : ℕ) (d : Entry) → Some at ≡ position (λ entry. bytes_eq entry.name name) entries
    → file_in name entries ≡ Some ((get_or entries at d).bytes)
found_file name entries at d h = let p = position-Some (is_named name) entries at d (sym h) in first_under name entries at d p.0 p.1 p.2

pub file_set : (name bytes : List ℕ) (entries : List Entry) (at : ℕ) (d : Entry) → Some at ≡ position (λ entry. bytes_eq entry.name name) entries
    → set entries at (record (get_or entries at d) { bytes = bytes }) ≡ with_file name bytes entries
file_set name bytes entries at d h = let p = position-Some (is_named name) entries at d (sym h) in first_set name bytes entries at d p.0 p.1 p.2

-- ---- a file that was written

pub written_is_found : (name bytes : List ℕ) (entries : List Entry) → file_in name (with_file name bytes entries) ≡ Some bytes
written_is_found name bytes [] = ap (λ t. cond t (Some bytes) None) ((bytes_eq-Decides name name).1 refl)
written_is_found name bytes (entry ∷ more) = by (written_is_found name bytes more) (is_named name entry) refl
  where
    by : file_in name (with_file name bytes more) ≡ Some bytes → (t : Bool) → is_named name entry ≡ t
        → file_in name (cond t (record entry { bytes = bytes } ∷ more) (entry ∷ with_file name bytes more)) ≡ Some bytes
    by rest true e = ap (λ t. cond t (Some bytes) (file_in name more)) e
    by rest false e = ap (λ t. cond t (Some entry.bytes) (file_in name (with_file name bytes more))) e ∙ rest

differ : (xs ys : List ℕ) → xs ≢ ys → bytes_eq xs ys ≡ false
differ xs ys ne = by (bytes_eq xs ys) refl
  where
    by : (t : Bool) → bytes_eq xs ys ≡ t → t ≡ false
    by true e = absurd (ne ((bytes_eq-Decides xs ys).0 e))
    by false e = refl

pub others_stay : (name bytes other : List ℕ) (entries : List Entry) → other ≢ name → file_in other (with_file name bytes entries) ≡ file_in other entries
others_stay name bytes other [] ne = ap (λ t. cond t (Some bytes) None) (differ name other (λ e. ne (sym e)))
others_stay name bytes other (entry ∷ more) ne = by (others_stay name bytes other more ne) (is_named name entry) refl
  where
    by : file_in other (with_file name bytes more) ≡ file_in other more → (t : Bool) → is_named name entry ≡ t
        → file_in other (cond t (record entry { bytes = bytes } ∷ more) (entry ∷ with_file name bytes more)) ≡ file_in other (entry ∷ more)
    by rest true e =
        let same : entry.name ≡ name = (bytes_eq-Decides entry.name name).0 e in
        let apart : bytes_eq entry.name other ≡ false = differ entry.name other (λ h. ne (sym h ∙ same)) in
        ap (λ t. cond t (Some bytes) (file_in other more)) apart ∙ sym (ap (λ t. cond t (Some entry.bytes) (file_in other more)) apart)
    by rest false e = ap (λ l. cond (bytes_eq entry.name other) (Some entry.bytes) l) rest

-- ---- names still differ

pub names_differ : (name bytes : List ℕ) (entries : List Entry) → have_different_names entries ≡ true → have_different_names (with_file name bytes entries) ≡ true
names_differ name bytes [] h = refl
names_differ name bytes (entry ∷ more) h = by (names_differ name bytes more parts.1) (is_named name entry) refl
  where
    parts : (is_none (file_in entry.name more) ≡ true) × (have_different_names more ≡ true)
    parts = and_parts (is_none (file_in entry.name more)) (have_different_names more) h

    apart : is_named name entry ≡ false → entry.name ≡ name → true ≡ false
    apart e same = sym ((bytes_eq-Decides entry.name name).1 same) ∙ e

    by : have_different_names (with_file name bytes more) ≡ true → (t : Bool) → is_named name entry ≡ t
        → have_different_names (cond t (record entry { bytes = bytes } ∷ more) (entry ∷ with_file name bytes more)) ≡ true
    by rest true e = h
    by rest false e =
        let ne : entry.name ≢ name = λ same. (let clash : true ≡ false = apart e same in cc) in
        and_from (is_none (file_in entry.name (with_file name bytes more))) (have_different_names (with_file name bytes more))
        (ap is_none (others_stay name bytes entry.name more ne) ∙ parts.0) rest
