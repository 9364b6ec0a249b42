-- Line ends and white space of a value, front by front.
use Rattle.std.proofs.Common.{◌≡◌, ℕ, ◌<◌, Bool, true, false, List, [], ◌∷◌, ◌++◌, map, length, take, drop, ◌==◌, refl, sym, ap, ◌∙◌, append_assoc, append-nil, arith, one-add}
use Rattle.std.specs.List.{prefix_len}
use Rattle.std.proofs.lemmas.Bool.Decides.{nat_tests}
use Rattle.tree_model.specs.XmlMeaning.{line_ends_from, line_ends, value_byte, spaced}
use Rattle.xml_rows.specs.Values.{behind_feed, behind_break, is_line_byte, is_value_byte}

feed_one : (c : ℕ) (v : List ℕ) → line_ends_from true (c ∷ v) ≡ line_ends_from false (behind_feed (c ∷ v))
feed_one c v = grind (arith, nat_tests)

feed_by : (v : List ℕ) → line_ends_from true v ≡ line_ends_from false (behind_feed v)
feed_by [] = refl
feed_by (c ∷ v) = feed_one c v

-- at a byte that stands as it is, and at a CR
lines_step : (b : Bool) (c : ℕ) (v : List ℕ) → (c == 13) ≡ b
    → (0 < length (drop (prefix_len is_line_byte v) v) → line_ends_from false v ≡ take (prefix_len is_line_byte v) v ++ 10 ∷ line_ends_from false (behind_break (drop (prefix_len is_line_byte v) v)))
    → 0 < length (drop (prefix_len is_line_byte (c ∷ v)) (c ∷ v))
    → line_ends_from false (c ∷ v) ≡ take (prefix_len is_line_byte (c ∷ v)) (c ∷ v) ++ 10 ∷ line_ends_from false (behind_break (drop (prefix_len is_line_byte (c ∷ v)) (c ∷ v)))
lines_step true c v e rest some = simp e (ap (λ l. 10 ∷ l) (feed_by v))
lines_step false c v e rest some = rw (e, one-add) (ap (λ l. c ∷ l) (rest (rw (e, one-add) at some)))

lines_from : (v : List ℕ) → 0 < length (drop (prefix_len is_line_byte v) v)
    → line_ends_from false v ≡ take (prefix_len is_line_byte v) v ++ 10 ∷ line_ends_from false (behind_break (drop (prefix_len is_line_byte v) v))
lines_from [] some = absurd (omega arith)
lines_from (c ∷ v) some = lines_step (c == 13) c v refl (lines_from v) some

pub lines_more : (v : List ℕ) → 0 < length (drop (prefix_len is_line_byte v) v) → line_ends v ≡ take (prefix_len is_line_byte v) v ++ 10 ∷ line_ends (behind_break (drop (prefix_len is_line_byte v) v))
unfolding line_ends
lines_more v some = lines_from v some

all_step : (b : Bool) (c : ℕ) (v : List ℕ) → (c == 13) ≡ b → (length (drop (prefix_len is_line_byte v) v) ≡ 0 → line_ends_from false v ≡ take (prefix_len is_line_byte v) v)
    → length (drop (prefix_len is_line_byte (c ∷ v)) (c ∷ v)) ≡ 0 → line_ends_from false (c ∷ v) ≡ take (prefix_len is_line_byte (c ∷ v)) (c ∷ v)
all_step true c v e rest none = absurd (omega (arith, rw e at none))
all_step false c v e rest none = rw (e, one-add) (ap (λ l. c ∷ l) (rest (rw (e, one-add) at none)))

all_from : (v : List ℕ) → length (drop (prefix_len is_line_byte v) v) ≡ 0 → line_ends_from false v ≡ take (prefix_len is_line_byte v) v
all_from [] none = refl
all_from (c ∷ v) none = all_step (c == 13) c v refl (all_from v) none

pub lines_all : (v : List ℕ) → length (drop (prefix_len is_line_byte v) v) ≡ 0 → line_ends v ≡ take (prefix_len is_line_byte v) v
unfolding line_ends
lines_all v none = all_from v none

-- ---- the value of an attribute

value_break : (c : ℕ) → (c == 13) ≡ false → is_value_byte c ≡ false → value_byte c ≡ 32
value_break c e is = grind (arith, nat_tests)

value_same : (c : ℕ) → is_value_byte c ≡ true → value_byte c ≡ c
value_same c is = grind (arith, nat_tests)

no_return : (c : ℕ) → is_value_byte c ≡ true → (c == 13) ≡ false
no_return c is = grind (arith, nat_tests)

break_step : (b : Bool) (c : ℕ) (v : List ℕ) → (c == 13) ≡ b → is_value_byte c ≡ false
    → map value_byte (line_ends_from false (c ∷ v)) ≡ 32 ∷ map value_byte (line_ends_from false (behind_break (c ∷ v)))
break_step true c v e is = simp e (ap (λ l. 32 ∷ map value_byte l) (feed_by v))
break_step false c v e is = simp e (ap (λ n. n ∷ map value_byte (line_ends_from false v)) (value_break c e is))

plain_step : (c : ℕ) (v : List ℕ) → is_value_byte c ≡ true → map value_byte (line_ends_from false (c ∷ v)) ≡ c ∷ map value_byte (line_ends_from false v)
plain_step c v is = simp (no_return c is) (ap (λ n. n ∷ map value_byte (line_ends_from false v)) (value_same c is))

spaced_step : (b : Bool) (c : ℕ) (v : List ℕ) → is_value_byte c ≡ b
    → (0 < length (drop (prefix_len is_value_byte v) v) → map value_byte (line_ends_from false v) ≡ take (prefix_len is_value_byte v) v ++ 32 ∷ map value_byte (line_ends_from false (behind_break (drop (prefix_len is_value_byte v) v))))
    → 0 < length (drop (prefix_len is_value_byte (c ∷ v)) (c ∷ v))
    → map value_byte (line_ends_from false (c ∷ v)) ≡ take (prefix_len is_value_byte (c ∷ v)) (c ∷ v) ++ 32 ∷ map value_byte (line_ends_from false (behind_break (drop (prefix_len is_value_byte (c ∷ v)) (c ∷ v))))
spaced_step true c v e rest some =
    plain_step c v e
    ∙ rw (e, one-add) (ap (λ l. c ∷ l) (rest (rw (e, one-add) at some)))
spaced_step false c v e rest some = break_step (c == 13) c v refl e ∙ rw e refl

spaced_from : (v : List ℕ) → 0 < length (drop (prefix_len is_value_byte v) v)
    → map value_byte (line_ends_from false v) ≡ take (prefix_len is_value_byte v) v ++ 32 ∷ map value_byte (line_ends_from false (behind_break (drop (prefix_len is_value_byte v) v)))
spaced_from [] some = absurd (omega arith)
spaced_from (c ∷ v) some = spaced_step (is_value_byte c) c v refl (spaced_from v) some

pub spaced_more : (v : List ℕ) → 0 < length (drop (prefix_len is_value_byte v) v) → spaced v ≡ take (prefix_len is_value_byte v) v ++ 32 ∷ spaced (behind_break (drop (prefix_len is_value_byte v) v))
unfolding spaced line_ends
spaced_more v some = spaced_from v some

same_step : (b : Bool) (c : ℕ) (v : List ℕ) → is_value_byte c ≡ b
    → (length (drop (prefix_len is_value_byte v) v) ≡ 0 → map value_byte (line_ends_from false v) ≡ take (prefix_len is_value_byte v) v)
    → length (drop (prefix_len is_value_byte (c ∷ v)) (c ∷ v)) ≡ 0 → map value_byte (line_ends_from false (c ∷ v)) ≡ take (prefix_len is_value_byte (c ∷ v)) (c ∷ v)
same_step true c v e rest none = plain_step c v e ∙ rw (e, one-add) (ap (λ l. c ∷ l) (rest (rw (e, one-add) at none)))
same_step false c v e rest none = absurd (omega (arith, rw e at none))

same_from : (v : List ℕ) → length (drop (prefix_len is_value_byte v) v) ≡ 0 → map value_byte (line_ends_from false v) ≡ take (prefix_len is_value_byte v) v
same_from [] none = refl
same_from (c ∷ v) none = same_step (is_value_byte c) c v refl (same_from v) none

pub spaced_all : (v : List ℕ) → length (drop (prefix_len is_value_byte v) v) ≡ 0 → spaced v ≡ take (prefix_len is_value_byte v) v
unfolding spaced line_ends
spaced_all v none = same_from v none

-- ---- one step of the code: a front of a value, the byte for a break, and what is left

pub lines_step_by : (v front back : List ℕ) (n : ℕ) → n ≡ prefix_len is_line_byte v → front ≡ take n v → back ≡ drop n v → 0 < length back → line_ends v ≡ front ++ 10 ∷ line_ends (behind_break back)
lines_step_by v front back n len front_is back_is some = rw (front_is, back_is, len) (lines_more v (rw (back_is, len) at some))

pub lines_last_by : (v front back : List ℕ) (n : ℕ) → n ≡ prefix_len is_line_byte v → front ≡ take n v → back ≡ drop n v → length back ≡ 0 → line_ends v ≡ front
lines_last_by v front back n len front_is back_is none = rw (front_is, len) (lines_all v (rw (back_is, len) at none))

pub lines_none : (v : List ℕ) → length v ≡ 0 → line_ends v ≡ []
unfolding line_ends
lines_none [] none = refl
lines_none (c ∷ v) none = absurd (omega arith)

pub spaced_step_by : (v front back : List ℕ) (n : ℕ) → n ≡ prefix_len is_value_byte v → front ≡ take n v → back ≡ drop n v → 0 < length back → spaced v ≡ front ++ 32 ∷ spaced (behind_break back)
spaced_step_by v front back n len front_is back_is some = rw (front_is, back_is, len) (spaced_more v (rw (back_is, len) at some))

pub spaced_last_by : (v front back : List ℕ) (n : ℕ) → n ≡ prefix_len is_value_byte v → front ≡ take n v → back ≡ drop n v → length back ≡ 0 → spaced v ≡ front
spaced_last_by v front back n len front_is back_is none = rw (front_is, len) (spaced_all v (rw (back_is, len) at none))

pub spaced_none : (v : List ℕ) → length v ≡ 0 → spaced v ≡ []
unfolding spaced line_ends
spaced_none [] none = refl
spaced_none (c ∷ v) none = absurd (omega arith)

pub pending_step : (pending first second front rest tail whole : List ℕ) (c : ℕ) → pending ++ rest ≡ whole → rest ≡ front ++ c ∷ tail → first ≡ pending ++ front → second ≡ first ++ c ∷ [] → second ++ tail ≡ whole
pending_step pending first second front rest tail whole c is rest_is first_is second_is =
    rw (second_is, first_is) (append_assoc (pending ++ front) (c ∷ []) tail ∙ append_assoc pending front (c ∷ tail) ∙ ap (λ l. pending ++ l) (sym rest_is) ∙ is)

pub pending_last : (pending first front rest whole : List ℕ) → pending ++ rest ≡ whole → rest ≡ front → first ≡ pending ++ front → first ≡ whole
pending_last pending first front rest whole is rest_is first_is = first_is ∙ ap (λ l. pending ++ l) (sym rest_is) ∙ is

pub pending_none : (pending rest whole : List ℕ) → pending ++ rest ≡ whole → rest ≡ [] → pending ≡ whole
pending_none pending rest whole is none = sym (append-nil pending) ∙ ap (λ l. pending ++ l) (sym none) ∙ is
