-- Paths of documents without /.
use Rattle.std.proofs.Common.{◌≡◌, ℕ, ◌+◌, ◌≤◌, Bool, true, false, not, ◌==◌, ◌&&◌, ◌||◌, nat_le, List, [], ◌∷◌, ◌++◌, length, codes, Result, Ok, Err, refl, ap, ◌∙◌, arith}
use Rattle.std.specs.Prelude.{IfOk}
use Rattle.std.specs.declared.alloc.AllocError.{AllocError}
use Rattle.std.specs.List.{list_all}
use Rattle.std.specs.Char.{is_ascii_alphanumeric}
use Rattle.std.proofs.lemmas.List.{length-append}
use Rattle.std.proofs.lemmas.List.Folds.{list_all-append}
use Rattle.std.proofs.lemmas.Bool.{leb-true, le-leb}
use Rattle.std.proofs.Math.Bool.{and-true}
use Rattle.std.proofs.lemmas.Bool.Decides.{nat_tests}
use Rattle.std.proofs.lemmas.Bool.{and_parts}
use Rattle.tree_model.specs.XmlChars.{first_is, has_word}
use Rattle.tree_model.specs.Sound.{is_empty, is_path_char, is_path}
use Rattle.tree_model.specs.States.{is_base_name_char, is_base_name, default_path}

abbrev pub is_no_slash : ℕ → Bool
is_no_slash c = not (c == 47)

-- a character of a path that is no /
abbrev pub is_part_char : ℕ → Bool
is_part_char c = is_ascii_alphanumeric c || c == 95 || c == 45 || c == 46

no_from_not : (a : Bool) → not a ≡ true → a ≡ false
no_from_not true h = cc
no_from_not false h = refl

-- without / there are no two in a row, also not with one that follows
no_slash_pair : (part : List ℕ) → list_all is_no_slash part ≡ true → has_word (codes "//") (part ++ codes "/") ≡ false
no_slash_pair [] h = refl
no_slash_pair (c ∷ part) h =
    let both = and_parts (is_no_slash c) (list_all is_no_slash part) h in
    rw (no_from_not (c == 47) both.0, no_slash_pair part both.1)

no_slash_start : (part : List ℕ) → list_all is_no_slash part ≡ true → first_is (λ c. c == 47) part ≡ false
no_slash_start [] h = refl
no_slash_start (c ∷ part) h = no_from_not (c == 47) (and_parts (is_no_slash c) (list_all is_no_slash part) h).0

-- a part without / is a path by its length and its characters
pub path_of_part : (part : List ℕ) → list_all is_no_slash part ≡ true → is_path part ≡ (not (is_empty part) && nat_le (length part) 255 && list_all is_path_char part)
path_of_part part h = rw (no_slash_pair part h, no_slash_start part h) (by (not (is_empty part)) (nat_le (length part) 255) (list_all is_path_char part))
  where
    by : (a b c : Bool) → (a && b && c && true && true) ≡ (a && b && c)
    by false b c = refl
    by true false c = refl
    by true true false = refl
    by true true true = refl

part_char_no_slash : (c : ℕ) → is_part_char c ≡ true → is_no_slash c ≡ true
part_char_no_slash c h = grind (arith, nat_tests)

part_char_in : (c : ℕ) → is_part_char c ≡ true → is_path_char c ≡ true
part_char_in c h = by (is_ascii_alphanumeric c) (c == 95) (c == 45) (c == 46) (c == 47) h
  where
    by : (a u m d s : Bool) → (a || u || m || d) ≡ true → (a || u || m || d || s) ≡ true
    by true u m d s h = refl
    by false true m d s h = refl
    by false false true d s h = refl
    by false false false true s h = refl
    by false false false false s h = cc

base_char_in : (c : ℕ) → is_base_name_char c ≡ true → is_part_char c ≡ true
base_char_in c h = by (is_ascii_alphanumeric c) (c == 95) (c == 45) (c == 46) h
  where
    by : (a u m d : Bool) → (a || u || m) ≡ true → (a || u || m || d) ≡ true
    by true u m d h = refl
    by false true m d h = refl
    by false false true d h = refl
    by false false false d h = cc

-- what passes one test passes a weaker one
all_in : (p q : ℕ → Bool) → ((c : ℕ) → p c ≡ true → q c ≡ true) → (bytes : List ℕ) → list_all p bytes ≡ true → list_all q bytes ≡ true
all_in p q f [] h = refl
all_in p q f (c ∷ bytes) h =
    let both = and_parts (p c) (list_all p bytes) h in
    rw (f c both.0, all_in p q f bytes both.1)

-- letters, digits, _ - and . are a path by their length
pub path_of_part_chars : (part : List ℕ) → list_all is_part_char part ≡ true → is_path part ≡ (nat_le 1 (length part) && nat_le (length part) 255)
path_of_part_chars part h = path_of_part part (all_in is_part_char is_no_slash part_char_no_slash part h) ∙ rw (all_in is_part_char is_path_char part_char_in part h) (by part)
  where
    by : (part : List ℕ) → (not (is_empty part) && nat_le (length part) 255 && true) ≡ (nat_le 1 (length part) && nat_le (length part) 255)
    by [] = refl
    by (c ∷ part) = rw (le-leb 1 (length (c ∷ part)) (omega arith)) (and-true (nat_le (length (c ∷ part)) 255))

-- the path of a document that is given as XML text is one
pub default_path_ok : (name : List ℕ) → is_base_name name ≡ true → is_path (default_path name) ≡ true
default_path_ok name h =
    let kept = and_parts (nat_le 1 (length name) && nat_le (length name) 64) (list_all is_base_name_char name) h in
    let most : length name ≤ 64 = leb-true (length name) 64 (and_parts (nat_le 1 (length name)) (nat_le (length name) 64) kept.0).1 in
    let len : length (default_path name) ≡ length name + 4 = length-append name (codes ".xml") in
    let chars : list_all is_part_char (default_path name) ≡ true = list_all-append is_part_char name (codes ".xml") ∙ rw (all_in is_base_name_char is_part_char base_char_in name kept.1) in
    path_of_part_chars (default_path name) chars ∙ rw (len, le-leb 1 (length name + 4) (omega arith), le-leb (length name + 4) 255 (omega arith))

-- what is made equal to a path is one
pub if_path : (r : Result (List ℕ) AllocError) (path : List ℕ) → is_path path ≡ true → IfOk r (λ text. text ≡ path) → IfOk r (λ text. is_path text ≡ true)
if_path (Ok text) path good same = ap is_path same ∙ good
if_path (Err e) path good same = tt
