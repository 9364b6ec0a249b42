-- The words of a line, and the numbers among them.
use Rattle.std.proofs.Common.{◌≡◌, ℕ, ◌^◌, ◌<◌, ◌≤◌, Bool, true, false, cond, ◌==◌, ◌&&◌, nat_le, nat_lt, List, [], ◌∷◌, length, Some, None, refl, sym, ap, ◌∙◌, arith}
use borrow.Author.Tests.{ltb-false}
use Rattle.std.proofs.lemmas.List.Sums.{prefix_len-le-length}
use Rattle.std.proofs.lemmas.Bool.{leb-true, le-leb}
use Rattle.std.proofs.Math.Nat.{pow-le-pow_right}
use Rattle.std.specs.List.{prefix_len, position, list_all, zip}
use Rattle.std.specs.Char.{to_ascii_lowercase, is_ascii_digit}
use Rattle.std.proofs.lemmas.Bool.{and_parts}
use Rattle.std.specs.Str.{IsUtf8}
use Rattle.std.proofs.lemmas.Str.{is_utf8-from_IsUtf8}
use Rattle.tree_model.specs.Sound.{is_path}
use Rattle.commands.specs.Commands.{is_blank, is_no_blank, is_word, is_number, is_file_name, is_document_file, last_part}

-- a line with no blank is one word
pub one_word : (line : List ℕ) → None ≡ position is_blank line → length line ≡ prefix_len is_no_blank line
one_word line h = by (nat_lt (prefix_len is_no_blank line) (length line)) refl (sym h)
  where
    by : (b : Bool) → nat_lt (prefix_len is_no_blank line) (length line) ≡ b → cond b (Some (prefix_len is_no_blank line)) None ≡ None → length line ≡ prefix_len is_no_blank line
    by true e none = cc
    by false e none = omega (arith, ltb-false, prefix_len-le-length is_no_blank line)

-- letters of the same number are a word
pub letters_are_word : (word bytes : List ℕ) → length bytes ≡ length word → list_all (λ (p : ℕ × ℕ). to_ascii_lowercase p.0 == p.1) (zip bytes word) ≡ is_word word bytes
letters_are_word [] [] e = refl
letters_are_word (y ∷ word) [] e = cc
letters_are_word [] (x ∷ bytes) e = cc
letters_are_word (y ∷ word) (x ∷ bytes) e = ap (λ b. (to_ascii_lowercase x == y) && b) (letters_are_word word bytes (omega arith))

-- a number has at most 9 digits
pub number_len : (word : List ℕ) → is_number word ≡ true → length word ≤ 9
number_len word h =
    let len = and_parts (nat_le 1 (length word) && nat_le (length word) 9) (list_all is_ascii_digit word) h in
    leb-true (length word) 9 (and_parts (nat_le 1 (length word)) (nat_le (length word) 9) len.0).1

-- fewer digits than 9 leave room for one more
pub room_for_digit : (n i : ℕ) → n < 10 ^ i → i < 9 → n < 100000000
room_for_digit n i h few = omega (arith, pow-le-pow_right {n = 10} (omega arith) {i = i} {j = 8} (omega arith))

-- ---- names of files

and_true : (a : Bool) → (a && true) ≡ a
and_true true = refl
and_true false = refl

-- a text is in UTF-8
pub text_name : (text : List ℕ) (no_blank : Bool) → IsUtf8 text → (length text == 0) ≡ false → length text ≤ 4096 → no_blank ≡ list_all is_no_blank text → no_blank ≡ is_file_name text
text_name [] no_blank u some few e = cc
text_name (c ∷ text) no_blank u some few e =
    e ∙ rw (le-leb (length (c ∷ text)) 4096 few, is_utf8-from_IsUtf8 (c ∷ text) u) (sym (and_true (list_all is_no_blank (c ∷ text))))

pub document_path : (name : List ℕ) → is_document_file name ≡ true → is_path (last_part name) ≡ true
document_path name h = (and_parts (is_file_name name) (is_path (last_part name)) h).1
