-- The readers of what stands before the root are exact.
use Rattle.std.proofs.Common.{◌≡◌, ℕ, Bool, true, false, not, ◌&&◌, ◌||◌, cond, List, [], ◌∷◌, ◌++◌, drop, length, Option, Some, None, refl, sym, ap, ◌∙◌, append_assoc}
use Rattle.std.specs.Prelude.{⊤, codes, ◌==◌}
use Rattle.std.specs.List.{list_all}
use Rattle.std.specs.Str.{bytes_eq}
use Rattle.std.specs.Char.{is_ascii_digit, is_ascii_alphabetic}
use Rattle.std.proofs.lemmas.Slice.Eq.{bytes_eq-Decides}
use Rattle.std.specs.Option.{option_and_then}
use Rattle.std.proofs.lemmas.Bool.{false≢true, eqb-true}
use Rattle.tree_model.specs.XmlChars.{is_space, first_is, begins_with}
use Rattle.tree_model.specs.XmlSource.{Setting, setting_text, Decl, decl_text, if_text}
use Rattle.tree_model.specs.XmlGood.{AreSpace, IsGap, IfThere, is_quote, is_version, is_encoding, is_yes_or_no, is_encoding_char, IsSetting, IsDecl}
use Rattle.xml_pieces.specs.Readers.{Read, read, span, tested, word_of, then_second, both, as_read, IsExact}
use Rattle.xml_pieces.specs.Prolog.{gap_of, up_to, quoted, SettingParts, setting_of, setting, DeclParts, decl_of, decl}
use Rattle.xml_pieces.proofs.Spans.{both_true}
use Rattle.xml_pieces.proofs.ByteClasses.{quote_cases, quote_no_space}
use Rattle.xml_pieces.proofs.Readers.{same_byte, span_exact, one_exact, tested_exact, both_exact, chain_exact, EndsIf, maybe_exact, as_exact, exact_as, word_exact}

-- ---- white space and quotes

pub gap_exact : IsExact (List ℕ) gap_of (λ v. v) IsGap (λ v rest. first_is is_space rest ≡ false)
gap_exact = exact_as (λ x. refl) (λ x f. (f.1, f.0)) (λ x f. (f.1, f.0)) (λ x rest e. e) (λ x rest f e. e) (tested_exact (first_is is_space) (span_exact is_space))

-- a value that passes holds no quote
abbrev pub HoldsNoQuote : (List ℕ → Bool) → Type 0
HoldsNoQuote passes = (value : List ℕ) (d : ℕ) → is_quote d ≡ true → passes value ≡ true → list_all (up_to d) value ≡ true

pub quoted_exact : (passes : List ℕ → Bool) → HoldsNoQuote passes
    → IsExact (ℕ × (List ℕ × Unit {0})) (quoted passes) (λ x. x.0 ∷ (x.1.0 ++ x.0 ∷ [])) (λ x. (is_quote x.0 ≡ true) × (passes x.1.0 ≡ true)) (λ x rest. ⊤)
quoted_exact passes free = exact_as (λ x. refl) (λ x f. (f.0, f.1.0.1)) (λ x f. (f.0, ((free x.1.0 x.0 f.0 f.1, f.1), tt))) (λ x rest e. tt) (λ x rest f e. tt)
    (chain_exact (one_exact is_quote) (λ d. both_exact (tested_exact passes (span_exact (up_to d))) (word_exact (d ∷ [])) (λ x y rest f g h. ap not (same_byte d))) (λ x y rest f g h. tt))

-- ---- settings

abbrev setting_back : Setting → SettingParts
setting_back s = (s.gap, (tt, (s.before, (tt, (s.behind, (s.delim, (s.value, tt)))))))

pub setting_exact : (word : List ℕ) (passes : List ℕ → Bool) → ((rest : List ℕ) → first_is is_space (word ++ rest) ≡ false) → HoldsNoQuote passes
    → IsExact Setting (setting word passes) (setting_text word) (IsSetting passes) (λ s rest. ⊤)
unfolding setting
setting_exact word passes stops free =
    exact_as (λ s. refl) (λ s f. record { gap = f.0; before = f.1.1.0; behind = f.1.1.1.1.0; delim = f.1.1.1.1.1.0; value = f.1.1.1.1.1.1 })
    (λ s f. (f.gap, (tt, (f.before, (tt, (f.behind, (f.delim, f.value))))))) (λ s rest e. tt) (λ s rest f e. tt)
    (as_exact setting_of setting_back (λ x. refl) (λ s. refl)
    (both_exact gap_exact
    (both_exact (word_exact word)
    (both_exact (span_exact is_space)
    (both_exact (word_exact (61 ∷ [])) (both_exact (span_exact is_space) (quoted_exact passes free) (λ x y rest f g h. quote_no_space y.0 g.0)) (λ x y rest f g h. tt))
    (λ x y rest f g h. refl))
    (λ x y rest f g h. tt))
    (λ x y rest f g h. ap (first_is is_space) (append_assoc word _ rest) ∙ stops _)))

-- ---- the values of settings hold no quote

byte_apart : (p : ℕ → Bool) (d c : ℕ) → p d ≡ false → p c ≡ true → up_to d c ≡ true
byte_apart p d c fails is = by (c == d) refl
  where
    by : (b : Bool) → (c == d) ≡ b → not b ≡ true
    by true e = absurd (false≢true (sym fails ∙ ap p (sym (eqb-true c d e)) ∙ is))
    by false e = refl

all_apart : (p : ℕ → Bool) (d : ℕ) → p d ≡ false → (value : List ℕ) → list_all p value ≡ true → list_all (up_to d) value ≡ true
all_apart p d fails [] all = refl
all_apart p d fails (c ∷ value) all =
    let parts = both_true (p c) (list_all p value) all in
    ap (λ b. b && list_all (up_to d) value) (byte_apart p d c fails parts.0) ∙ all_apart p d fails value parts.1

no_quote : (p : ℕ → Bool) → p 34 ≡ false → p 39 ≡ false → (value : List ℕ) (d : ℕ) → is_quote d ≡ true → list_all p value ≡ true → list_all (up_to d) value ≡ true
no_quote p double single value d is all = all_apart p d (quote_cases d is (λ c. p c ≡ false) double single) value all

pub version_free : HoldsNoQuote is_version
unfolding is_version
version_free [] d is e = absurd (false≢true e)
version_free (x ∷ []) d is e = absurd (false≢true e)
version_free (x ∷ y ∷ []) d is e = absurd (false≢true e)
version_free (x ∷ y ∷ z ∷ digits) d is e =
    let last = both_true (x == 49 && y == 46 && is_ascii_digit z) (list_all is_ascii_digit digits) e in
    let third = both_true (x == 49 && y == 46) (is_ascii_digit z) last.0 in
    let second = both_true (x == 49) (y == 46) third.0 in
    let first_apart : up_to d x ≡ true = byte_apart (λ c. c == 49) d x (quote_cases d is (λ c. (c == 49) ≡ false) refl refl) second.0 in
    let second_apart : up_to d y ≡ true = byte_apart (λ c. c == 46) d y (quote_cases d is (λ c. (c == 46) ≡ false) refl refl) second.1 in
    let third_apart : up_to d z ≡ true = byte_apart is_ascii_digit d z (quote_cases d is (λ c. is_ascii_digit c ≡ false) refl refl) third.1 in
    ap (λ b. b && list_all (up_to d) (y ∷ z ∷ digits)) first_apart ∙ ap (λ b. b && list_all (up_to d) (z ∷ digits)) second_apart ∙ ap (λ b. b && list_all (up_to d) digits) third_apart
    ∙ no_quote is_ascii_digit refl refl digits d is last.1

pub encoding_free : HoldsNoQuote is_encoding
unfolding is_encoding
encoding_free value d is e = no_quote is_encoding_char refl refl value d is (both_true (first_is is_ascii_alphabetic value) (list_all is_encoding_char value) e).1

text_is : (value word : List ℕ) → bytes_eq value word ≡ true → value ≡ word
text_is value word e = (bytes_eq-Decides value word).0 e

pub yes_or_no_free : HoldsNoQuote is_yes_or_no
unfolding is_yes_or_no
yes_or_no_free value d is e = by (bytes_eq value (codes "yes")) refl (bytes_eq value (codes "no")) refl e
  where
    by : (a : Bool) → bytes_eq value (codes "yes") ≡ a → (b : Bool) → bytes_eq value (codes "no") ≡ b → (a || b) ≡ true → list_all (up_to d) value ≡ true
    by true e b g h = ap (list_all (up_to d)) (text_is value (codes "yes") e) ∙ quote_cases d is (λ c. list_all (up_to c) (codes "yes") ≡ true) refl refl
    by false e true g h = ap (list_all (up_to d)) (text_is value (codes "no") g) ∙ quote_cases d is (λ c. list_all (up_to c) (codes "no") ≡ true) refl refl
    by false e false g h = absurd (false≢true h)

-- ---- the XML declaration

-- behind white space stands nothing that the second reader reads
pub gap_none : {B : Type 0} (second : List ℕ → Read B) (gap bytes : List ℕ) → AreSpace gap → first_is is_space bytes ≡ false → second bytes ≡ None → both gap_of second (gap ++ bytes) ≡ None
gap_none {B = B} second gap bytes space stops none =
    ap (λ r. option_and_then (λ (x : List ℕ × List ℕ). then_second x.0 (second x.1)) (tested (first_is is_space) r)) ((span_exact is_space).complete gap bytes space stops) ∙ by (first_is is_space gap)
  where
    by : (b : Bool) → option_and_then (λ (x : List ℕ × List ℕ). then_second x.0 (second x.1)) (cond b (read gap bytes) None) ≡ None
    by true = ap (then_second gap) none
    by false = refl

word_none : {B : Type 0} (word : List ℕ) (second : List ℕ → Read B) (bytes : List ℕ) → begins_with word bytes ≡ false → both (word_of word) second bytes ≡ None
word_none word second bytes fails = ap (λ b. option_and_then (λ (x : Unit {0} × List ℕ). then_second x.0 (second x.1)) (cond b (read tt (drop (length word) bytes)) None)) fails

setting_none : (word : List ℕ) (passes : List ℕ → Bool) (gap bytes : List ℕ) → AreSpace gap → first_is is_space bytes ≡ false → begins_with word bytes ≡ false → setting word passes (gap ++ bytes) ≡ None
unfolding setting
setting_none word passes gap bytes space stops fails = ap (as_read setting_of) (gap_none _ gap bytes space stops (word_none word _ bytes fails))

abbrev decl_back : Decl → DeclParts
decl_back d = (tt, (d.version, (d.encoding, (d.standalone, (d.gap, tt)))))

pub version_exact : IsExact Setting (setting (codes "version") is_version) (setting_text (codes "version")) (IsSetting is_version) (λ s rest. ⊤)
version_exact = setting_exact (codes "version") is_version (λ rest. refl) version_free

pub encoding_exact : IsExact Setting (setting (codes "encoding") is_encoding) (setting_text (codes "encoding")) (IsSetting is_encoding) (λ s rest. ⊤)
encoding_exact = setting_exact (codes "encoding") is_encoding (λ rest. refl) encoding_free

pub standalone_exact : IsExact Setting (setting (codes "standalone") is_yes_or_no) (setting_text (codes "standalone")) (IsSetting is_yes_or_no) (λ s rest. ⊤)
standalone_exact = setting_exact (codes "standalone") is_yes_or_no (λ rest. refl) yes_or_no_free

-- the end of a declaration
abbrev EndParts : Type 0
EndParts = List ℕ × Unit {0}

end_exact : IsExact EndParts (both (span is_space) (word_of (codes "?>"))) (λ x. x.0 ++ codes "?>") (λ x. AreSpace x.0) (λ x rest. ⊤)
end_exact = exact_as (λ x. refl) (λ x f. f.0) (λ x f. (f, tt)) (λ x rest e. tt) (λ x rest f e. tt) (both_exact (span_exact is_space) (word_exact (codes "?>")) (λ x y rest f g h. refl))

no_standalone : (x : Option Setting) (y : EndParts) (rest : List ℕ) → AreSpace y.0 → EndsIf (setting (codes "standalone") is_yes_or_no) (λ s rest. ⊤) x ((y.0 ++ codes "?>") ++ rest)
no_standalone None y rest space = ap (setting (codes "standalone") is_yes_or_no) (append_assoc y.0 (codes "?>") rest) ∙ setting_none (codes "standalone") is_yes_or_no y.0 (codes "?>" ++ rest) space refl refl
no_standalone (Some s) y rest space = tt

no_encoding : (x : Option Setting) (y : Option Setting) (z : EndParts) (rest : List ℕ) → IfThere (IsSetting is_yes_or_no) y → AreSpace z.0
    → EndsIf (setting (codes "encoding") is_encoding) (λ s rest. ⊤) x ((if_text (setting_text (codes "standalone")) y ++ (z.0 ++ codes "?>")) ++ rest)
no_encoding None None z rest fits space = ap (setting (codes "encoding") is_encoding) (append_assoc z.0 (codes "?>") rest) ∙ setting_none (codes "encoding") is_encoding z.0 (codes "?>" ++ rest) space refl refl
no_encoding None (Some s) z rest fits space =
    ap (setting (codes "encoding") is_encoding) (append_assoc (setting_text (codes "standalone") s) (z.0 ++ codes "?>") rest ∙ append_assoc s.gap _ ((z.0 ++ codes "?>") ++ rest))
    ∙ setting_none (codes "encoding") is_encoding s.gap _ fits.gap.1 refl refl
no_encoding (Some s) y z rest fits space = tt

pub decl_exact : IsExact Decl decl decl_text IsDecl (λ d rest. ⊤)
unfolding decl
decl_exact =
    exact_as (λ d. refl) (λ d f. record { version = f.1.0; encoding = f.1.1.0; standalone = f.1.1.1.0; blank = f.1.1.1.1 }) (λ d f. (tt, (f.version, (f.encoding, (f.standalone, f.blank))))) (λ d rest e. tt) (λ d rest f e. tt)
    (as_exact decl_of decl_back (λ x. refl) (λ d. refl)
    (both_exact (word_exact (codes "<?xml"))
    (both_exact version_exact
    (both_exact (maybe_exact encoding_exact) (both_exact (maybe_exact standalone_exact) end_exact (λ x y rest f g h. no_standalone x y rest g)) (λ x y rest f g h. no_encoding x y.0 y.1 rest g.0 g.1))
    (λ x y rest f g h. tt))
    (λ x y rest f g h. tt)))

pub decl_sound : (bytes : List ℕ) (d : Decl) (rest : List ℕ) → decl bytes ≡ Some (d, rest) → (bytes ≡ decl_text d ++ rest) × IsDecl d
decl_sound bytes d rest e = let found = decl_exact.sound bytes d rest e in (found.0, found.1)

pub decl_complete : (d : Decl) (rest : List ℕ) → IsDecl d → decl (decl_text d ++ rest) ≡ Some (d, rest)
decl_complete d rest good = decl_exact.complete d rest good tt
