-- Words in the text, as the code finds them.
use Rattle.std.proofs.Common.{◌≡◌, ℕ, ◌+◌, ◌-◌, ◌<◌, ◌≤◌, Bool, true, false, ◌&&◌, ◌||◌, cond, eqb, List, [], ◌∷◌, length, get_or, take, drop, Some, None, refl, sym, ap, ◌∙◌, one-add, arith}
use Rattle.std.specs.Prelude.{nat_eq}
use Rattle.std.proofs.lemmas.List.{drop_more, take_all}
use lib.Pointwise.{pointwise}
use Rattle.std.specs.List.{list_any, starts_with}
use Rattle.std.proofs.lemmas.Bool.{false≢true}
use Rattle.std.proofs.lemmas.Bool.Decides.{nat_tests}
use Rattle.xml_pieces.proofs.Spans.{both_true}
use Rattle.xml_pieces.proofs.Readers.{same_byte}
use Rattle.tree_model.specs.XmlChars.{begins_with, has_word}
use Rattle.xml_pieces.specs.Readers.{read, word_of, until, until_len, cons_read}

begins_is : (word bytes : List ℕ) → begins_with word bytes ≡ pointwise nat_eq (take (length word) bytes) word
begins_is [] bytes = refl
begins_is (c ∷ word) [] = refl
begins_is (c ∷ word) (b ∷ bytes) = ap (λ x. eqb b c && x) (begins_is word bytes)

pub word_yes : (word bytes : List ℕ) → pointwise nat_eq (take (length word) bytes) word ≡ true → word_of word bytes ≡ Some (tt, drop (length word) bytes)
word_yes word bytes is = ap (λ b. cond b (read tt (drop (length word) bytes)) None) (begins_is word bytes ∙ is)

pub word_none : (word bytes : List ℕ) → pointwise nat_eq (take (length word) bytes) word ≡ false → word_of word bytes ≡ None
word_none word bytes is = ap (λ b. cond b (read tt (drop (length word) bytes)) None) (begins_is word bytes ∙ is)

eqb_sym : (a b : ℕ) → eqb a b ≡ eqb b a
eqb_sym a b = grind (arith, nat_tests)

-- as a slice's `starts_with` says it
pub starts_is : (word bytes : List ℕ) → starts_with nat_eq bytes word ≡ begins_with word bytes
starts_is [] bytes = refl
starts_is (c ∷ word) [] = refl
starts_is (c ∷ word) (b ∷ bytes) = ap (λ x. x && pointwise nat_eq word (take (length word) bytes)) (eqb_sym c b) ∙ ap (λ x. eqb b c && x) (starts_is word bytes)

-- by the first byte, and those behind it as a pattern binds them
pub begins_first : (w : ℕ) (ws bytes : List ℕ) → 1 ≤ length bytes → get_or bytes 0 0 ≡ w → starts_with nat_eq (take (length bytes - 1) (drop 1 bytes)) ws ≡ begins_with (w ∷ ws) bytes
begins_first w ws [] some is = absurd (omega arith)
begins_first w ws (c ∷ bytes) some is =
    let size : length (c ∷ bytes) - 1 ≡ length bytes = omega arith in
    ap (λ n. starts_with nat_eq (take n bytes) ws) size ∙ ap (λ l. starts_with nat_eq l ws) (take_all (length bytes) bytes (omega arith)) ∙ starts_is ws bytes ∙ sym (ap (λ b. b && begins_with ws bytes) (ap (λ (x : ℕ). eqb x w) is ∙ same_byte w))

begins_no_longer : (word bytes : List ℕ) → begins_with word bytes ≡ true → length word ≤ length bytes
begins_no_longer [] bytes is = omega arith
begins_no_longer (c ∷ word) [] is = absurd (false≢true is)
begins_no_longer (c ∷ word) (b ∷ bytes) is = let on = begins_no_longer word bytes (both_true (eqb b c) (begins_with word bytes) is).1 in omega arith

module _ (w : ℕ) (ws : List ℕ) where
  abbrev word : List ℕ
  word = w ∷ ws

  until_is : (bytes : List ℕ) (b : Bool) → begins_with word (drop (until_len word bytes) bytes) ≡ b
      → until word bytes ≡ cond b (read (take (until_len word bytes) bytes) (drop (length word) (drop (until_len word bytes) bytes))) None
  until_is [] b is = ap (λ x. cond x (read [] []) None) is
  until_is (c ∷ bytes) b is = by (λ i. until_is bytes b i) (begins_with word (c ∷ bytes)) refl is
    where
      push : (b : Bool) (x y : List ℕ) → cons_read c (cond b (read x y) None) ≡ cond b (read (c ∷ x) y) None
      push true x y = refl
      push false x y = refl

      by : (begins_with word (drop (until_len word bytes) bytes) ≡ b → until word bytes ≡ cond b (read (take (until_len word bytes) bytes) (drop (length word) (drop (until_len word bytes) bytes))) None)
          → (t : Bool) → begins_with word (c ∷ bytes) ≡ t → begins_with word (drop (cond t 0 (1 + until_len word bytes)) (c ∷ bytes)) ≡ b
          → cond t (read [] (drop (length word) (c ∷ bytes))) (cons_read c (until word bytes))
          ≡ cond b (read (take (cond t 0 (1 + until_len word bytes)) (c ∷ bytes)) (drop (length word) (drop (cond t 0 (1 + until_len word bytes)) (c ∷ bytes)))) None
      by on true e i = ap (λ x. cond x (read [] (drop (length word) (c ∷ bytes))) None) (sym e ∙ i)
      by on false e i =
          let i' = rw one-add at i in
          rw one-add (ap (cons_read c) (on i') ∙ push b _ _)

  pub until_yes : (bytes : List ℕ) → begins_with (w ∷ ws) (drop (until_len (w ∷ ws) bytes) bytes) ≡ true
      → until (w ∷ ws) bytes ≡ Some (take (until_len (w ∷ ws) bytes) bytes, drop (1 + length ws) (drop (until_len (w ∷ ws) bytes) bytes))
  until_yes bytes is = rw one-add (until_is bytes true is)

  pub until_none : (bytes : List ℕ) → begins_with (w ∷ ws) (drop (until_len (w ∷ ws) bytes) bytes) ≡ false → until (w ∷ ws) bytes ≡ None
  until_none bytes is = until_is bytes false is

  pub has_word_is : (bytes : List ℕ) → has_word (w ∷ ws) bytes ≡ begins_with (w ∷ ws) (drop (until_len (w ∷ ws) bytes) bytes)
  has_word_is [] = refl
  has_word_is (c ∷ bytes) = by (has_word_is bytes) (begins_with word (c ∷ bytes)) refl
    where
      by : has_word word bytes ≡ begins_with word (drop (until_len word bytes) bytes) → (t : Bool) → begins_with word (c ∷ bytes) ≡ t
          → (t || has_word word bytes) ≡ begins_with word (drop (cond t 0 (1 + until_len word bytes)) (c ∷ bytes))
      by on true e = sym e
      by on false e = rw one-add on

  pub until_step : (bytes : List ℕ) (len : ℕ) → len < length bytes → begins_with (w ∷ ws) (drop len bytes) ≡ false
      → until_len (w ∷ ws) (drop len bytes) ≡ 1 + until_len (w ∷ ws) (drop (len + 1) bytes)
  until_step bytes len lt is =
      let e = drop_more bytes len 0 lt in
      ap (until_len word) e ∙ ap (λ b. cond b 0 (1 + until_len word (drop (len + 1) bytes))) (ap (begins_with word) (sym e) ∙ is)

  pub until_end : (bytes : List ℕ) → begins_with (w ∷ ws) bytes ≡ true → until_len (w ∷ ws) bytes ≡ 0
  until_end [] is = refl
  until_end (c ∷ bytes) is = ap (λ b. cond b 0 (1 + until_len word bytes)) is

  -- without its first byte a word doesn't occur
  pub no_first : (bytes : List ℕ) → list_any (λ b. eqb b w) bytes ≡ false → has_word (w ∷ ws) bytes ≡ false
  no_first [] none = refl
  no_first (c ∷ bytes) none = by (no_first bytes) (eqb c w) refl none
    where
      by : (list_any (λ b. eqb b w) bytes ≡ false → has_word word bytes ≡ false) → (b : Bool) → eqb c w ≡ b → (b || list_any (λ b. eqb b w) bytes) ≡ false → (begins_with word (c ∷ bytes) || has_word word bytes) ≡ false
      by on true e f = absurd (false≢true (sym f))
      by on false e f = ap (λ b. (b && begins_with ws bytes) || has_word word bytes) e ∙ on f

  -- the word is no longer than what it begins
  pub begins_long : (bytes : List ℕ) → begins_with (w ∷ ws) bytes ≡ true → 1 + length ws ≤ length bytes
  begins_long [] is = absurd (false≢true is)
  begins_long (c ∷ bytes) is = let on = begins_no_longer ws bytes (both_true (eqb c w) (begins_with ws bytes) is).1 in omega arith
