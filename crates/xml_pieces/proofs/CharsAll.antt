-- Each character of a text in UTF-8 is a Char where each of its bytes passes.
use Rattle.std.proofs.Common.{◌≡◌, ◌≢◌, ◌⊎◌, inl, inr, ℕ, ◌+◌, ◌/◌, ◌<◌, ◌≤◌, Bool, true, false, not, ◌&&◌, ◌||◌, List, [], ◌∷◌, ◌++◌, length, drop, get_or, refl, sym, ap, ◌∙◌, subst, arith}
use Rattle.std.specs.Prelude.{◌==◌}
use Rattle.std.specs.List.{list_all}
use Rattle.std.specs.Str.{IsUtf8, chars}
use Rattle.std.proofs.lemmas.List.{drop_more}
use Rattle.std.proofs.lemmas.Bool.{false≢true, not-true, and_parts, ne_eqb, eqb-true, le-leb, cases_lt, cases_eq, lt-ltb, le-ltb}
use Rattle.std.proofs.lemmas.Bool.Decides.{nat_tests}
use Rattle.std.proofs.lemmas.Str.{encodes-chars, scalars-chars}
use lib.Utf8.{encode, encodes, scalar, scalars, next, scalar_cases}
use Rattle.tree_model.specs.XmlChars.{is_xml_char, begins_with}
use Rattle.xml_pieces.specs.CharBytes.{is_no_control, begins_noncharacter, front_passes, each_passes, is_plain_pair}

not_begun : (c : ℕ) (bytes : List ℕ) → (c == 239) ≡ false → begins_noncharacter (c ∷ bytes) ≡ false
not_begun c bytes e = ap (λ b. (b && begins_with (191 ∷ 190 ∷ []) bytes) || (b && begins_with (191 ∷ 191 ∷ []) bytes)) e

plain_passes : (c : ℕ) (bytes : List ℕ) → is_no_control c ≡ true → (c == 239) ≡ false → each_passes (c ∷ bytes) ≡ each_passes bytes
plain_passes c bytes fits e = ap (λ b. (b && not (begins_noncharacter (c ∷ bytes))) && each_passes bytes) fits ∙ ap (λ b. not b && each_passes bytes) (not_begun c bytes e)

high_passes : (c : ℕ) (bytes : List ℕ) → 32 ≤ c → c ≢ 239 → each_passes (c ∷ bytes) ≡ each_passes bytes
high_passes c bytes high ne = plain_passes c bytes (ap (λ b. b || c == 9 || c == 10 || c == 13) (le-leb 32 c high)) (ne_eqb c 239 ne)

next_passes : (n : ℕ) (bytes : List ℕ) → each_passes (next n ∷ bytes) ≡ each_passes bytes
next_passes n bytes = high_passes (next n) bytes (omega arith) (omega arith)

-- ---- one character

is_char_low : (c : ℕ) → c < 128 → is_xml_char c ≡ is_no_control c
is_char_low c low = grind (arith, nat_tests)

is_char_middle : (c : ℕ) → 128 ≤ c → c < 55296 → is_xml_char c ≡ true
is_char_middle c low high = grind (arith, nat_tests)

is_char_upper : (c : ℕ) → 57344 ≤ c → c < 65534 → is_xml_char c ≡ true
is_char_upper c low high = grind (arith, nat_tests)

is_char_last : (c : ℕ) → 65536 ≤ c → c < 1114112 → is_xml_char c ≡ true
is_char_last c low high = grind (arith, nat_tests)

one_passes : (c : ℕ) (bytes : List ℕ) → c < 128 → each_passes (c ∷ bytes) ≡ (is_xml_char c && each_passes bytes)
one_passes c bytes low =
    ap (λ b. (is_no_control c && not b) && each_passes bytes) (not_begun c bytes (ne_eqb c 239 (omega arith))) ∙ by (is_no_control c) ∙ ap (λ b. b && each_passes bytes) (sym (is_char_low c low))
  where
    by : (b : Bool) → ((b && true) && each_passes bytes) ≡ (b && each_passes bytes)
    by true = refl
    by false = refl

two_pass : (c : ℕ) (bytes : List ℕ) → 128 ≤ c → c < 2048 → each_passes ((192 + c / 64) ∷ next c ∷ bytes) ≡ each_passes bytes
two_pass c bytes low high = high_passes (192 + c / 64) (next c ∷ bytes) (omega arith) (omega arith) ∙ next_passes c bytes

four_pass : (c : ℕ) (bytes : List ℕ) → each_passes ((240 + c / 262144) ∷ next (c / 4096) ∷ next (c / 64) ∷ next c ∷ bytes) ≡ each_passes bytes
four_pass c bytes = high_passes (240 + c / 262144) (next (c / 4096) ∷ next (c / 64) ∷ next c ∷ bytes) (omega arith) (omega arith) ∙ next_passes (c / 4096) (next (c / 64) ∷ next c ∷ bytes) ∙ next_passes (c / 64) (next c ∷ bytes) ∙ next_passes c bytes

-- the three bytes of another character are not those of a noncharacter
no_word : (a b x d : ℕ) (bytes : List ℕ) → ((a ≡ 239) → (b ≡ 191) → (x ≡ d) → ⊥) → begins_with (239 ∷ 191 ∷ d ∷ []) (a ∷ b ∷ x ∷ bytes) ≡ false
no_word a b x d bytes apart = by (a == 239) refl (b == 191) refl (x == d) refl
  where
    by : (p : Bool) → (a == 239) ≡ p → (q : Bool) → (b == 191) ≡ q → (r : Bool) → (x == d) ≡ r → (p && (q && (r && true))) ≡ false
    by true e true f true g = absurd (apart (eqb-true a 239 e) (eqb-true b 191 f) (eqb-true x d g))
    by true e true f false g = refl
    by true e false f r g = refl
    by false e q f r g = refl

three_free : (c : ℕ) (bytes : List ℕ) → c < 65534 → begins_noncharacter ((224 + c / 4096) ∷ next (c / 64) ∷ next c ∷ bytes) ≡ false
three_free c bytes high =
    ap (λ b. b || begins_with (239 ∷ 191 ∷ 191 ∷ []) ((224 + c / 4096) ∷ next (c / 64) ∷ next c ∷ bytes)) (no_word (224 + c / 4096) (next (c / 64)) (next c) 190 bytes (λ e f g. omega arith))
    ∙ no_word (224 + c / 4096) (next (c / 64)) (next c) 191 bytes (λ e f g. omega arith)

three_pass : (c : ℕ) (bytes : List ℕ) → c < 65534 → each_passes ((224 + c / 4096) ∷ next (c / 64) ∷ next c ∷ bytes) ≡ each_passes bytes
three_pass c bytes high =
    ap (λ b. (b && not (begins_noncharacter ((224 + c / 4096) ∷ next (c / 64) ∷ next c ∷ bytes))) && each_passes (next (c / 64) ∷ next c ∷ bytes)) (no_control (224 + c / 4096) (omega arith))
    ∙ ap (λ b. not b && each_passes (next (c / 64) ∷ next c ∷ bytes)) (three_free c bytes high) ∙ next_passes (c / 64) (next c ∷ bytes) ∙ next_passes c bytes
  where
    no_control : (b : ℕ) → 32 ≤ b → is_no_control b ≡ true
    no_control b h = ap (λ x. x || b == 9 || b == 10 || b == 13) (le-leb 32 b h)

-- ---- all characters

at_true : (c : ℕ) (a b : Bool) → is_xml_char c ≡ true → a ≡ b → a ≡ (is_xml_char c && b)
at_true c a b is same = same ∙ ap (λ x. x && b) (sym is)

encode_one : (c : ℕ) → c < 128 → encode c ≡ c ∷ []
unfolding encode
encode_one c low = rw (lt-ltb c 128) refl

encode_two : (c : ℕ) → 128 ≤ c → c < 2048 → encode c ≡ (192 + c / 64) ∷ next c ∷ []
unfolding encode
encode_two c low high = rw (le-ltb c 128, lt-ltb c 2048) refl

encode_three : (c : ℕ) → 2048 ≤ c → c < 65536 → encode c ≡ (224 + c / 4096) ∷ next (c / 64) ∷ next c ∷ []
unfolding encode
encode_three c low high = let past : 128 ≤ c = omega arith in rw (le-ltb c 128, le-ltb c 2048, lt-ltb c 65536) refl

encode_four : (c : ℕ) → 65536 ≤ c → encode c ≡ (240 + c / 262144) ∷ next (c / 4096) ∷ next (c / 64) ∷ next c ∷ []
unfolding encode
encode_four c low = let past : 128 ≤ c = omega arith in let past' : 2048 ≤ c = omega arith in rw (le-ltb c 128, le-ltb c 2048, le-ltb c 65536) refl

abbrev Passes : ℕ → List ℕ → Type 0
Passes c rest = each_passes (encode c ++ rest) ≡ (is_xml_char c && each_passes rest)

three_is : (c : ℕ) (rest : List ℕ) → 2048 ≤ c → c < 65534 → is_xml_char c ≡ true → Passes c rest
three_is c rest low high is = ap (λ bytes. each_passes (bytes ++ rest)) (encode_three c low (omega arith)) ∙ at_true c _ _ is (three_pass c rest high)

first_noncharacter : (rest : List ℕ) → Passes 65534 rest
unfolding encode
first_noncharacter rest = refl

second_noncharacter : (rest : List ℕ) → Passes 65535 rest
unfolding encode
second_noncharacter rest = refl

char_passes : (c : ℕ) (rest : List ℕ) → scalar c ≡ true → Passes c rest
char_passes c rest is = by (scalar_cases c is)
  where
    low : c < 55296 → Passes c rest
    low high = first (cases_lt c 128) (cases_lt c 2048)
      where
        first : (c < 128) ⊎ (128 ≤ c) → (c < 2048) ⊎ (2048 ≤ c) → Passes c rest
        first (inl h) g = ap (λ bytes. each_passes (bytes ++ rest)) (encode_one c h) ∙ one_passes c rest h
        first (inr h) (inl g) = ap (λ bytes. each_passes (bytes ++ rest)) (encode_two c h g) ∙ at_true c _ _ (is_char_middle c h high) (two_pass c rest h g)
        first (inr h) (inr g) = three_is c rest g (omega arith) (is_char_middle c h high)

    last : (d : ℕ) → c ≡ d → Passes d rest → Passes c rest
    last d e h = subst (λ x. Passes x rest) (sym e) h

    upper : 57344 ≤ c → c < 1114112 → Passes c rest
    upper above below = first (cases_lt c 65534) (cases_lt c 65536) (cases_eq c 65534)
      where
        first : (c < 65534) ⊎ (65534 ≤ c) → (c < 65536) ⊎ (65536 ≤ c) → (c ≡ 65534) ⊎ (c ≡ 65534 → ⊥) → Passes c rest
        first (inl h) g e = three_is c rest (omega arith) h (is_char_upper c above h)
        first (inr h) (inl g) (inl e) = last 65534 e (first_noncharacter rest)
        first (inr h) (inl g) (inr e) = last 65535 (omega arith) (second_noncharacter rest)
        first (inr h) (inr g) e = ap (λ bytes. each_passes (bytes ++ rest)) (encode_four c g) ∙ at_true c _ _ (is_char_last c g below) (four_pass c rest)

    by : (c < 55296) ⊎ ((57344 ≤ c) × (c < 1114112)) → Passes c rest
    by (inl h) = low h
    by (inr h) = upper h.0 h.1

texts_pass : (cs : List ℕ) → scalars cs ≡ true → each_passes (encodes cs) ≡ list_all is_xml_char cs
texts_pass [] is = refl
texts_pass (c ∷ cs) is =
    let parts = and_parts (scalar c) (scalars cs) is in
    char_passes c (encodes cs) parts.0 ∙ ap (λ b. is_xml_char c && b) (texts_pass cs parts.1)

-- each character is a Char where each byte passes
pub each_char : (bytes : List ℕ) → IsUtf8 bytes → each_passes bytes ≡ list_all is_xml_char (chars bytes)
each_char bytes is = ap each_passes (sym (encodes-chars bytes is)) ∙ texts_pass (chars bytes) (scalars-chars bytes is)

-- ---- blocks of bytes

pair_passes : (c d : ℕ) (bytes : List ℕ) → is_plain_pair c d ≡ true → each_passes (c ∷ d ∷ bytes) ≡ each_passes (d ∷ bytes)
pair_passes c d bytes is =
    let parts = and_parts (is_no_control c) (not (c == 239 && d == 191)) is in
    ap (λ b. (b && not (begins_noncharacter (c ∷ d ∷ bytes))) && each_passes (d ∷ bytes)) parts.0 ∙ ap (λ b. not b && each_passes (d ∷ bytes)) (by (c == 239) (d == 191) (not-true _ parts.1))
  where
    by : (a b : Bool) → (a && b) ≡ false → ((a && (b && begins_with (190 ∷ []) bytes)) || (a && (b && begins_with (191 ∷ []) bytes))) ≡ false
    by true true e = absurd (false≢true (sym e))
    by true false e = refl
    by false b e = refl

pub plain_step : (bytes : List ℕ) (i : ℕ) → i + 1 < length bytes → is_plain_pair (get_or bytes i 0) (get_or bytes (i + 1) 0) ≡ true → each_passes (drop i bytes) ≡ each_passes (drop (i + 1) bytes)
plain_step bytes i lt is =
    let here = drop_more bytes i 0 (omega arith) in
    let behind = drop_more bytes (i + 1) 0 lt in
    ap each_passes (here ∙ ap (λ l. get_or bytes i 0 ∷ l) behind) ∙ pair_passes (get_or bytes i 0) (get_or bytes (i + 1) 0) (drop (i + 1 + 1) bytes) is ∙ ap each_passes (sym behind)

pub pass_step : (bytes : List ℕ) (i : ℕ) → i < length bytes → each_passes (drop i bytes) ≡ (front_passes (drop i bytes) && each_passes (drop (i + 1) bytes))
pass_step bytes i lt =
    let e = drop_more bytes i 0 lt in
    ap each_passes e ∙ ap (λ l. front_passes l && each_passes (drop (i + 1) bytes)) (sym e)
