-- Values as they are printed: the runs and references that a value is cut into spell it, keep the rules of XML, and stand for the value.
use Rattle.std.proofs.Common.{◌≡◌, ℕ, ◌+◌, Bool, true, false, cond, not, ◌&&◌, ◌==◌, List, [], ◌∷◌, ◌++◌, map, length, Option, Some, None, refl, sym, ap, ap₂, ◌∙◌, subst, arith, append_assoc, append-nil}
use Rattle.std.specs.Prelude.{⊤, codes}
use Rattle.std.specs.List.{flat_map, list_all}
use Rattle.std.specs.Str.{bytes_eq}
use Rattle.std.specs.Char.{is_ascii, to_ascii_lowercase}
use Rattle.std.proofs.lemmas.Bool.{and_parts, and_from, or_from, or_parts, eqb-true, false≢true, not_from_false, not-true, cond-false, and_right}
use Rattle.std.proofs.lemmas.Bool.Decides.{nat_tests}
use Rattle.std.proofs.lemmas.Str.{encode_ascii, is_utf8-from_IsUtf8}
use Rattle.tree_model.specs.Printing.{escape_data, escape_value, data_text, value_text}
use Rattle.tree_model.specs.PrintedReads.{has_return}
use Rattle.tree_model.specs.Sound.{is_comment}
use Rattle.tree_model.specs.XmlChars.{is_space, is_xml_ncname, is_name_start_char, is_inner_name_char, is_name_byte, is_ncname_text, first_is, begins_with, has_word, is_free}
use Rattle.tree_model.specs.XmlSource.{Part, run, entity, decimal, hexadecimal, part_text, parts_text, Content, done, element, empty, part, cdata, comm, pi, content_text}
use Rattle.tree_model.specs.XmlGood.{AreSpace, is_decimal, IsRun, in_value, in_data, IsDataPart, NoRunFirst, IsValue, IsComm, is_pi_target, IsRest, IsPi, NoRunAfter, IsGood}
use Rattle.tree_model.specs.XmlMeaning.{line_ends_from, line_ends, spaced, value_byte, entity_char, entity_value, char_value, value_in_text, value_in_attr, Scope, content_trees, Fault, part_faults, parts_faults, content_faults}
use Rattle.tree_model.proofs.XmlUtf8.{all_weaker, chars_ascii, utf8_ascii}
use Rattle.round_trip.specs.Cut.{data_reference, value_reference, before_parts, part_before, value_parts, parts_before, pi_cut}

-- ---- each byte is a reference or stays

-- the bytes that stay in data, and in values
abbrev pub stays_in_data : ℕ → Bool
stays_in_data c = not (c == 38) && not (c == 60) && not (c == 62) && not (c == 13)

abbrev pub stays_in_value : ℕ → Bool
stays_in_value c = not (c == 34) && not (c == 9) && not (c == 10) && stays_in_data c

-- what holds at each reference, and at the byte if it stays, holds at the byte
pub by_data : (P : ℕ → Option Part → List ℕ → Type 0)
    → P 38 (Some (entity (codes "amp"))) (codes "&amp;") → P 60 (Some (entity (codes "lt"))) (codes "&lt;") → P 62 (Some (entity (codes "gt"))) (codes "&gt;") → P 13 (Some (decimal (codes "13"))) (codes "&#13;")
    → (c : ℕ) → (stays_in_data c ≡ true → P c None (c ∷ [])) → P c (data_reference c) (escape_data c)
by_data P amp lt gt cr c plain = by (c == 38) (c == 60) (c == 62) (c == 13) refl refl refl refl
  where
    by : (b1 b2 b3 b4 : Bool) → (c == 38) ≡ b1 → (c == 60) ≡ b2 → (c == 62) ≡ b3 → (c == 13) ≡ b4
        → P c (cond b1 (Some (entity (codes "amp"))) (cond b2 (Some (entity (codes "lt"))) (cond b3 (Some (entity (codes "gt"))) (cond b4 (Some (decimal (codes "13"))) None))))
        (cond b1 (codes "&amp;") (cond b2 (codes "&lt;") (cond b3 (codes "&gt;") (cond b4 (codes "&#13;") (c ∷ [])))))
    by true b2 b3 b4 e f g h = subst (λ n. P n (Some (entity (codes "amp"))) (codes "&amp;")) (sym (eqb-true c 38 e)) amp
    by false true b3 b4 e f g h = subst (λ n. P n (Some (entity (codes "lt"))) (codes "&lt;")) (sym (eqb-true c 60 f)) lt
    by false false true b4 e f g h = subst (λ n. P n (Some (entity (codes "gt"))) (codes "&gt;")) (sym (eqb-true c 62 g)) gt
    by false false false true e f g h = subst (λ n. P n (Some (decimal (codes "13"))) (codes "&#13;")) (sym (eqb-true c 13 h)) cr
    by false false false false e f g h = plain (simp (e, f, g, h))

pub by_value : (P : ℕ → Option Part → List ℕ → Type 0)
    → P 34 (Some (entity (codes "quot"))) (codes "&quot;") → P 9 (Some (decimal (codes "9"))) (codes "&#9;") → P 10 (Some (decimal (codes "10"))) (codes "&#10;")
    → P 38 (Some (entity (codes "amp"))) (codes "&amp;") → P 60 (Some (entity (codes "lt"))) (codes "&lt;") → P 62 (Some (entity (codes "gt"))) (codes "&gt;") → P 13 (Some (decimal (codes "13"))) (codes "&#13;")
    → (c : ℕ) → (stays_in_value c ≡ true → P c None (c ∷ [])) → P c (value_reference c) (escape_value c)
by_value P quot tab lf amp lt gt cr c plain = by (c == 34) (c == 9) (c == 10) refl refl refl
  where
    by : (b1 b2 b3 : Bool) → (c == 34) ≡ b1 → (c == 9) ≡ b2 → (c == 10) ≡ b3
        → P c (cond b1 (Some (entity (codes "quot"))) (cond b2 (Some (decimal (codes "9"))) (cond b3 (Some (decimal (codes "10"))) (data_reference c))))
        (cond b1 (codes "&quot;") (cond b2 (codes "&#9;") (cond b3 (codes "&#10;") (escape_data c))))
    by true b2 b3 e f g = subst (λ n. P n (Some (entity (codes "quot"))) (codes "&quot;")) (sym (eqb-true c 34 e)) quot
    by false true b3 e f g = subst (λ n. P n (Some (decimal (codes "9"))) (codes "&#9;")) (sym (eqb-true c 9 f)) tab
    by false false true e f g = subst (λ n. P n (Some (decimal (codes "10"))) (codes "&#10;")) (sym (eqb-true c 10 g)) lf
    by false false false e f g = by_data P amp lt gt cr c (λ stays. plain (simp (e, f, g, stays)))

-- ---- spelled

before_spelled : (c : ℕ) (parts : List Part) → parts_text (before_parts c parts) ≡ c ∷ parts_text parts
before_spelled c [] = refl
before_spelled c (run bytes ∷ parts) = refl
before_spelled c (entity name ∷ parts) = refl
before_spelled c (decimal digits ∷ parts) = refl
before_spelled c (hexadecimal digits ∷ parts) = refl

abbrev Spells : ℕ → Option Part → List ℕ → Type 0
Spells c reference text = (parts : List Part) → parts_text (part_before c reference parts) ≡ text ++ parts_text parts

pub value_spelled : (v : List ℕ) → parts_text (value_parts value_reference v) ≡ value_text v
value_spelled [] = refl
value_spelled (c ∷ v) =
    by_value Spells (λ parts. refl) (λ parts. refl) (λ parts. refl) (λ parts. refl) (λ parts. refl) (λ parts. refl) (λ parts. refl) c (λ stays parts. before_spelled c parts) (value_parts value_reference v)
    ∙ ap (λ l. escape_value c ++ l) (value_spelled v)

pub data_spelled : (v : List ℕ) → parts_text (value_parts data_reference v) ≡ data_text v
data_spelled [] = refl
data_spelled (c ∷ v) =
    by_data Spells (λ parts. refl) (λ parts. refl) (λ parts. refl) (λ parts. refl) c (λ stays parts. before_spelled c parts) (value_parts data_reference v)
    ∙ ap (λ l. escape_data c ++ l) (data_spelled v)

pub data_text_before : (v : List ℕ) (more : Content) → content_text (parts_before (value_parts data_reference v) more) ≡ data_text v ++ content_text more
data_text_before v more = by (value_parts data_reference v) ∙ ap (λ l. l ++ content_text more) (data_spelled v)
  where
    by : (parts : List Part) → content_text (parts_before parts more) ≡ parts_text parts ++ content_text more
    by [] = refl
    by (p ∷ parts) = ap (λ l. part_text p ++ l) (by parts) ∙ sym (append_assoc (part_text p) (parts_text parts) (content_text more))

-- ---- what a text must keep

-- a name of ASCII letters
ascii_ncname : (name : List ℕ) → list_all is_ascii name ≡ true → first_is is_name_byte name ≡ true → list_all is_name_byte name ≡ true → is_ncname_text name ≡ true → is_xml_ncname name ≡ true
unfolding is_xml_ncname
ascii_ncname name ascii first all text =
    and_from _ _ (and_from _ _ (and_from _ _ first all) (is_utf8-from_IsUtf8 name (utf8_ascii name ascii))) (ap is_ncname_text (chars_ascii name ascii) ∙ text)

quot_named : is_xml_ncname (codes "quot") ≡ true
unfolding is_name_start_char is_inner_name_char
quot_named = ascii_ncname (codes "quot") refl refl refl refl

amp_named : is_xml_ncname (codes "amp") ≡ true
unfolding is_name_start_char is_inner_name_char
amp_named = ascii_ncname (codes "amp") refl refl refl refl

lt_named : is_xml_ncname (codes "lt") ≡ true
unfolding is_name_start_char is_inner_name_char
lt_named = ascii_ncname (codes "lt") refl refl refl refl

gt_named : is_xml_ncname (codes "gt") ≡ true
unfolding is_name_start_char is_inner_name_char
gt_named = ascii_ncname (codes "gt") refl refl refl refl

tab_decimal : is_decimal (codes "9") ≡ true
unfolding is_decimal
tab_decimal = refl

feed_decimal : is_decimal (codes "10") ≡ true
unfolding is_decimal
feed_decimal = refl

return_decimal : is_decimal (codes "13") ≡ true
unfolding is_decimal
return_decimal = refl

-- a byte that passes, before the parts of a value
before_good : (delim c : ℕ) (parts : List Part) → in_value delim c ≡ true → IsValue delim parts → IsValue delim (before_parts c parts)
before_good delim c [] h good = ((h, and_from _ _ h refl), tt, tt)
before_good delim c (run bytes ∷ parts) h good = ((h, and_from _ _ h good.0.1), good.1, good.2)
before_good delim c (entity name ∷ parts) h good = ((h, and_from _ _ h refl), tt, good)
before_good delim c (decimal digits ∷ parts) h good = ((h, and_from _ _ h refl), tt, good)
before_good delim c (hexadecimal digits ∷ parts) h good = ((h, and_from _ _ h refl), tt, good)

abbrev Keeps : ℕ → ℕ → Option Part → List ℕ → Type 0
Keeps delim c reference text = (parts : List Part) → IsValue delim parts → IsValue delim (part_before c reference parts)

value_passes : (c : ℕ) → stays_in_value c ≡ true → in_value 34 c ≡ true
value_passes c h = grind (arith, nat_tests)

data_passes : (c : ℕ) → stays_in_data c ≡ true → in_value 62 c ≡ true
data_passes c h = grind (arith, nat_tests)

pub value_good : (v : List ℕ) → IsValue 34 (value_parts value_reference v)
value_good [] = tt
value_good (c ∷ v) =
    by_value (Keeps 34)
    (λ parts h. (quot_named, tt, h)) (λ parts h. (tab_decimal, tt, h)) (λ parts h. (feed_decimal, tt, h))
    (λ parts h. (amp_named, tt, h)) (λ parts h. (lt_named, tt, h)) (λ parts h. (gt_named, tt, h)) (λ parts h. (return_decimal, tt, h))
    c (λ stays parts. before_good 34 c parts (value_passes c stays)) (value_parts value_reference v) (value_good v)

-- data keeps what a value must keep where > stands round it: so its runs have no >, and ]]> is in none
data_value : (v : List ℕ) → IsValue 62 (value_parts data_reference v)
data_value [] = tt
data_value (c ∷ v) =
    by_data (Keeps 62)
    (λ parts h. (amp_named, tt, h)) (λ parts h. (lt_named, tt, h)) (λ parts h. (gt_named, tt, h)) (λ parts h. (return_decimal, tt, h))
    c (λ stays parts. before_good 62 c parts (data_passes c stays)) (value_parts data_reference v) (data_value v)

-- in a printed document no text is followed by a text
abbrev pub NoPartFirst : Content → Type 0
NoPartFirst (part p rest) = ⊥
NoPartFirst more = ⊤

no_run_after : (p : Part) (more : Content) → NoPartFirst more → NoRunAfter p more
no_run_after (run bytes) done h = tt
no_run_after (run bytes) (element name attrs gap inside last more) h = tt
no_run_after (run bytes) (empty name attrs gap more) h = tt
no_run_after (run bytes) (part p more) h = absurd h
no_run_after (run bytes) (cdata others more) h = tt
no_run_after (run bytes) (comm others more) h = tt
no_run_after (run bytes) (pi target gap others more) h = tt
no_run_after (entity name) more h = tt
no_run_after (decimal digits) more h = tt
no_run_after (hexadecimal digits) more h = tt

run_ends : (bytes : List ℕ) (parts : List Part) (more : Content) → NoRunFirst parts → NoPartFirst more → NoRunAfter (run bytes) (parts_before parts more)
run_ends bytes [] more h none = no_run_after (run bytes) more none
run_ends bytes (run others ∷ parts) more h none = absurd h
run_ends bytes (entity name ∷ parts) more h none = tt
run_ends bytes (decimal digits ∷ parts) more h none = tt
run_ends bytes (hexadecimal digits ∷ parts) more h none = tt

-- a text without > has no ]]>
no_mark : (bytes : List ℕ) → list_all (in_value 62) bytes ≡ true → has_word (codes "]]>") bytes ≡ false
no_mark [] h = refl
no_mark (c ∷ bytes) h = let p = and_parts (in_value 62 c) (list_all (in_value 62) bytes) h in or_from _ _ (begins bytes p.1) (no_mark bytes p.1)
  where
    third : (c : ℕ) → in_value 62 c ≡ true → (c == 62) ≡ false
    third c h = grind (arith, nat_tests)

    begins : (bytes : List ℕ) → list_all (in_value 62) bytes ≡ true → begins_with (codes "]]>") (c ∷ bytes) ≡ false
    begins [] h = and_right (c == 93) false refl
    begins (d ∷ []) h = and_right (c == 93) _ (and_right (d == 93) false refl)
    begins (d ∷ e ∷ bytes) h =
        let p = and_parts (in_value 62 e) _ (and_parts (in_value 62 d) _ h).1 in
        and_right (c == 93) _ (and_right (d == 93) _ (ap (λ b. b && true) (third e p.0)))

weaker : (bytes : List ℕ) → list_all (in_value 62) bytes ≡ true → list_all in_data bytes ≡ true
weaker bytes h = all_weaker (in_value 62) in_data passes bytes h
  where
    passes : (c : ℕ) → in_value 62 c ≡ true → in_data c ≡ true
    passes c h = grind (arith, nat_tests)

data_run : (bytes : List ℕ) → IsRun (in_value 62) bytes → IsDataPart (run bytes)
data_run [] h = absurd (false≢true h.0)
data_run (c ∷ bytes) h = let all = weaker (c ∷ bytes) h.1 in (((and_parts (in_data c) _ all).0, all), no_mark (c ∷ bytes) h.1)

pub data_good : (v : List ℕ) (more : Content) → IsGood more → NoPartFirst more → IsGood (parts_before (value_parts data_reference v) more)
data_good v more good none = by (value_parts data_reference v) (data_value v)
  where
    by : (parts : List Part) → IsValue 62 parts → IsGood (parts_before parts more)
    by [] h = good
    by (run bytes ∷ parts) h = (data_run bytes h.0, run_ends bytes parts more h.1 none, by parts h.2)
    by (entity name ∷ parts) h = (h.0, tt, by parts h.2)
    by (decimal digits ∷ parts) h = (h.0, tt, by parts h.2)
    by (hexadecimal digits ∷ parts) h = (h.0, tt, by parts h.2)

-- ---- what the parts stand for

no_break : (bytes : List ℕ) → has_return bytes ≡ false → line_ends_from false bytes ≡ bytes
no_break [] h = refl
no_break (c ∷ bytes) h =
    let p = or_parts (c == 13) (has_return bytes) h in
    cond-false _ _ _ p.0 ∙ ap (λ l. c ∷ l) (no_break bytes p.1)

pub lines_kept : (v : List ℕ) → has_return v ≡ false → line_ends v ≡ v
unfolding line_ends
lines_kept v h = no_break v h

-- a byte that is no CR, before a run
line_before : (c : ℕ) (bytes : List ℕ) → (c == 13) ≡ false → line_ends (c ∷ bytes) ≡ c ∷ line_ends bytes
unfolding line_ends
line_before c bytes h = cond-false _ _ _ h

spaced_before : (c : ℕ) (bytes : List ℕ) → stays_in_value c ≡ true → spaced (c ∷ bytes) ≡ c ∷ spaced bytes
unfolding spaced
spaced_before c bytes h = ap (map value_byte) (line_before c bytes (no_cr c h)) ∙ ap (λ b. b ∷ map value_byte (line_ends bytes)) (same c h)
  where
    no_cr : (c : ℕ) → stays_in_value c ≡ true → (c == 13) ≡ false
    no_cr c h = grind (arith, nat_tests)

    same : (c : ℕ) → stays_in_value c ≡ true → value_byte c ≡ c
    same c h = grind (arith, nat_tests)

line_nil : line_ends [] ≡ []
unfolding line_ends
line_nil = refl

spaced_nil : spaced [] ≡ []
unfolding spaced line_ends
spaced_nil = refl

spaced_first : (c : ℕ) (parts : List Part) → stays_in_value c ≡ true → flat_map value_in_attr (before_parts c parts) ≡ c ∷ flat_map value_in_attr parts
spaced_first c [] h = ap (λ l. l ++ []) (spaced_before c [] h ∙ ap (λ l. c ∷ l) spaced_nil)
spaced_first c (run bytes ∷ parts) h = ap (λ l. l ++ flat_map value_in_attr parts) (spaced_before c bytes h)
spaced_first c (entity name ∷ parts) h = ap (λ l. l ++ flat_map value_in_attr (entity name ∷ parts)) (spaced_before c [] h ∙ ap (λ l. c ∷ l) spaced_nil)
spaced_first c (decimal digits ∷ parts) h = ap (λ l. l ++ flat_map value_in_attr (decimal digits ∷ parts)) (spaced_before c [] h ∙ ap (λ l. c ∷ l) spaced_nil)
spaced_first c (hexadecimal digits ∷ parts) h = ap (λ l. l ++ flat_map value_in_attr (hexadecimal digits ∷ parts)) (spaced_before c [] h ∙ ap (λ l. c ∷ l) spaced_nil)

line_first : (c : ℕ) (parts : List Part) → (c == 13) ≡ false → flat_map value_in_text (before_parts c parts) ≡ c ∷ flat_map value_in_text parts
line_first c [] h = ap (λ l. l ++ []) (line_before c [] h ∙ ap (λ l. c ∷ l) line_nil)
line_first c (run bytes ∷ parts) h = ap (λ l. l ++ flat_map value_in_text parts) (line_before c bytes h)
line_first c (entity name ∷ parts) h = ap (λ l. l ++ flat_map value_in_text (entity name ∷ parts)) (line_before c [] h ∙ ap (λ l. c ∷ l) line_nil)
line_first c (decimal digits ∷ parts) h = ap (λ l. l ++ flat_map value_in_text (decimal digits ∷ parts)) (line_before c [] h ∙ ap (λ l. c ∷ l) line_nil)
line_first c (hexadecimal digits ∷ parts) h = ap (λ l. l ++ flat_map value_in_text (hexadecimal digits ∷ parts)) (line_before c [] h ∙ ap (λ l. c ∷ l) line_nil)

-- the references stand for their bytes
quot_is : entity_value (codes "quot") ≡ 34 ∷ []
unfolding entity_value entity_char
quot_is = refl

amp_is : entity_value (codes "amp") ≡ 38 ∷ []
unfolding entity_value entity_char
amp_is = refl

lt_is : entity_value (codes "lt") ≡ 60 ∷ []
unfolding entity_value entity_char
lt_is = refl

gt_is : entity_value (codes "gt") ≡ 62 ∷ []
unfolding entity_value entity_char
gt_is = refl

tab_is : char_value 10 (codes "9") ≡ 9 ∷ []
unfolding char_value
tab_is = encode_ascii 9 (omega arith)

feed_is : char_value 10 (codes "10") ≡ 10 ∷ []
unfolding char_value
feed_is = encode_ascii 10 (omega arith)

return_is : char_value 10 (codes "13") ≡ 13 ∷ []
unfolding char_value
return_is = encode_ascii 13 (omega arith)

abbrev StandsIn : (Part → List ℕ) → ℕ → Option Part → List ℕ → Type 0
StandsIn meaning c reference text = (parts : List Part) → flat_map meaning (part_before c reference parts) ≡ c ∷ flat_map meaning parts

first_is_byte : (meaning : Part → List ℕ) (p : Part) (c : ℕ) → meaning p ≡ c ∷ [] → (parts : List Part) → flat_map meaning (p ∷ parts) ≡ c ∷ flat_map meaning parts
first_is_byte meaning p c e parts = ap (λ l. l ++ flat_map meaning parts) e

pub value_kept : (v : List ℕ) → flat_map value_in_attr (value_parts value_reference v) ≡ v
value_kept [] = refl
value_kept (c ∷ v) =
    by_value (StandsIn value_in_attr)
    (first_is_byte value_in_attr (entity (codes "quot")) 34 quot_is) (first_is_byte value_in_attr (decimal (codes "9")) 9 tab_is) (first_is_byte value_in_attr (decimal (codes "10")) 10 feed_is)
    (first_is_byte value_in_attr (entity (codes "amp")) 38 amp_is) (first_is_byte value_in_attr (entity (codes "lt")) 60 lt_is) (first_is_byte value_in_attr (entity (codes "gt")) 62 gt_is) (first_is_byte value_in_attr (decimal (codes "13")) 13 return_is)
    c (λ stays parts. spaced_first c parts stays) (value_parts value_reference v)
    ∙ ap (λ l. c ∷ l) (value_kept v)

pub data_kept : (v : List ℕ) → flat_map value_in_text (value_parts data_reference v) ≡ v
data_kept [] = refl
data_kept (c ∷ v) =
    by_data (StandsIn value_in_text)
    (first_is_byte value_in_text (entity (codes "amp")) 38 amp_is) (first_is_byte value_in_text (entity (codes "lt")) 60 lt_is) (first_is_byte value_in_text (entity (codes "gt")) 62 gt_is) (first_is_byte value_in_text (decimal (codes "13")) 13 return_is)
    c (λ stays parts. line_first c parts (not-true _ (and_parts _ _ stays).1)) (value_parts data_reference v)
    ∙ ap (λ l. c ∷ l) (data_kept v)

pub data_trees : (strip : Bool) (scope : Scope) (gathered v : List ℕ) (more : Content) → content_trees strip scope gathered (parts_before (value_parts data_reference v) more) ≡ content_trees strip scope (gathered ++ v) more
data_trees strip scope gathered v more = by gathered (value_parts data_reference v) ∙ ap (λ l. content_trees strip scope (gathered ++ l) more) (data_kept v)
  where
    by : (before : List ℕ) (parts : List Part) → content_trees strip scope before (parts_before parts more) ≡ content_trees strip scope (before ++ flat_map value_in_text parts) more
    by before [] = ap (λ l. content_trees strip scope l more) (sym (append-nil before))
    by before (p ∷ parts) = by (before ++ value_in_text p) parts ∙ ap (λ l. content_trees strip scope l more) (append_assoc before (value_in_text p) (flat_map value_in_text parts))

-- ---- no faults

abbrev AreKnown : List Part → Type 0
AreKnown [] = ⊤
AreKnown (p ∷ parts) = ((at : ℕ) → part_faults at p ≡ []) × AreKnown parts

abbrev Known : ℕ → Option Part → List ℕ → Type 0
Known c reference text = (parts : List Part) → AreKnown parts → AreKnown (part_before c reference parts)

before_known : (c : ℕ) (parts : List Part) → AreKnown parts → AreKnown (before_parts c parts)
unfolding part_faults
before_known c [] h = (λ at. refl, tt)
before_known c (run bytes ∷ parts) h = (λ at. refl, h.1)
before_known c (entity name ∷ parts) h = (λ at. refl, h)
before_known c (decimal digits ∷ parts) h = (λ at. refl, h)
before_known c (hexadecimal digits ∷ parts) h = (λ at. refl, h)

known_quot : (at : ℕ) → part_faults at (entity (codes "quot")) ≡ []
unfolding part_faults entity_char
known_quot at = refl

known_amp : (at : ℕ) → part_faults at (entity (codes "amp")) ≡ []
unfolding part_faults entity_char
known_amp at = refl

known_lt : (at : ℕ) → part_faults at (entity (codes "lt")) ≡ []
unfolding part_faults entity_char
known_lt at = refl

known_gt : (at : ℕ) → part_faults at (entity (codes "gt")) ≡ []
unfolding part_faults entity_char
known_gt at = refl

known_decimal : (digits : List ℕ) (at : ℕ) → part_faults at (decimal digits) ≡ []
unfolding part_faults
known_decimal digits at = refl

value_known : (v : List ℕ) → AreKnown (value_parts value_reference v)
value_known [] = tt
value_known (c ∷ v) =
    by_value Known
    (λ parts h. (known_quot, h)) (λ parts h. (known_decimal (codes "9"), h)) (λ parts h. (known_decimal (codes "10"), h))
    (λ parts h. (known_amp, h)) (λ parts h. (known_lt, h)) (λ parts h. (known_gt, h)) (λ parts h. (known_decimal (codes "13"), h))
    c (λ stays. before_known c) (value_parts value_reference v) (value_known v)

data_known : (v : List ℕ) → AreKnown (value_parts data_reference v)
data_known [] = tt
data_known (c ∷ v) =
    by_data Known
    (λ parts h. (known_amp, h)) (λ parts h. (known_lt, h)) (λ parts h. (known_gt, h)) (λ parts h. (known_decimal (codes "13"), h))
    c (λ stays. before_known c) (value_parts data_reference v) (data_known v)

known_faultless : (at : ℕ) (parts : List Part) → AreKnown parts → parts_faults at parts ≡ []
known_faultless at [] h = refl
known_faultless at (p ∷ parts) h = ap₂ (λ (a b : List Fault). a ++ b) (h.0 at) (known_faultless (at + length (part_text p)) parts h.1)

pub value_faultless : (at : ℕ) (v : List ℕ) → parts_faults at (value_parts value_reference v) ≡ []
value_faultless at v = known_faultless at (value_parts value_reference v) (value_known v)

pub data_faultless : (scope : Scope) (v : List ℕ) (more : Content) → ((at : ℕ) → content_faults scope at more ≡ []) → (at : ℕ) → content_faults scope at (parts_before (value_parts data_reference v) more) ≡ []
data_faultless scope v more none at = by (value_parts data_reference v) (data_known v) at
  where
    by : (parts : List Part) → AreKnown parts → (at : ℕ) → content_faults scope at (parts_before parts more) ≡ []
    by [] h at = none at
    by (p ∷ parts) h at = ap₂ (λ (a b : List Fault). a ++ b) (h.0 at) (by parts h.1 (at + length (part_text p)))

-- ---- comments and instructions

pub comment_good : (v : List ℕ) → is_comment v ≡ true → IsComm v
comment_good v h = by v (not-true _ h)
  where
    by : (v : List ℕ) → has_word (codes "--") (v ++ codes "-") ≡ false → is_free (codes "--") v ≡ true
    by [] h = refl
    by (c ∷ []) h = let p = or_parts _ _ h in and_from _ _ (not_from_false _ p.0) refl
    by (c ∷ d ∷ v) h = let p = or_parts _ _ h in and_from _ _ (not_from_false _ p.0) (by (d ∷ v) p.1)

no_end_free : (v : List ℕ) → has_word (codes "?>") v ≡ false → is_free (codes "?>") v ≡ true
no_end_free [] h = refl
no_end_free (c ∷ []) h = and_from _ _ (not_from_false _ (and_right (c == 63) false refl)) refl
no_end_free (c ∷ d ∷ v) h = let p = or_parts _ _ h in and_from _ _ (not_from_false _ p.0) (no_end_free (d ∷ v) p.1)

-- white space stands before a value, or both are empty
abbrev pub FitsGap : List ℕ → List ℕ → Type 0
FitsGap [] v = v ≡ []
FitsGap (c ∷ gap) v = ⊤

pub pi_good : (target v : List ℕ) → (is_xml_ncname target && not (bytes_eq (map to_ascii_lowercase target) (codes "xml"))) ≡ true → has_word (codes "?>") v ≡ false → first_is is_space v ≡ false
    → (gap : List ℕ) → AreSpace gap → FitsGap gap v → IsPi target gap v
unfolding is_pi_target
pi_good target v named free begins gap blank fits = record { named = named; blank = blank; rest = rest gap fits; ends = no_end_free v free }
  where
    rest : (gap : List ℕ) → FitsGap gap v → IsRest gap v
    rest [] fits = fits
    rest (c ∷ gap) fits = begins

-- the instruction as it is cut
pub pi_cut_good : (target v : List ℕ) (more : Content) → (is_xml_ncname target && not (bytes_eq (map to_ascii_lowercase target) (codes "xml"))) ≡ true → has_word (codes "?>") v ≡ false → first_is is_space v ≡ false
    → IsGood more → IsGood (pi_cut target v more)
pi_cut_good target [] more named free begins good = (pi_good target [] named free begins [] refl refl, good)
pi_cut_good target (c ∷ v) more named free begins good = (pi_good target (c ∷ v) named free begins (32 ∷ []) refl tt, good)
