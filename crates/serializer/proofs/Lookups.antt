-- A prefix is looked up among bindings that are in force, and the innermost of them are left.
use Rattle.std.proofs.Common.{◌≡◌, ℕ, zero, suc, ◌+◌, ◌-◌, ◌<◌, ◌≤◌, Bool, true, false, cond, List, [], ◌∷◌, ◌++◌, length, take, drop, reverse, get_or, Option, Some, None, refl, sym, ap, ◌∙◌, arith, drop_at, length-drop}
use Rattle.std.specs.Prelude.{◌==◌}
use Rattle.std.specs.List.{prefix_len, suffix_len}
use Rattle.std.specs.Str.{bytes_eq}
use Rattle.std.proofs.lemmas.List.{reverse-reverse, reverse-append, take-append-drop, length-reverse, get_or_push, get_or_append_left}
use Rattle.tree_model.specs.XmlMeaning.{uri_of}
use Rattle.prefix_scopes.specs.Scoping.{Numbering, number_of}
use Rattle.serializer.specs.Numbered.{in_force, AreNumbered}
use Rattle.serializer.specs.Scopes.{InForce, pairs_of, outside}
use Rattle.serializer.specs.declared.bindings.Binding.{Binding}

pub same_length : (prefixes : List Numbering) (bindings : List Binding) → AreNumbered prefixes bindings → length prefixes ≡ length bindings
same_length [] [] h = refl
same_length [] (b ∷ bindings) h = absurd h
same_length (n ∷ prefixes) [] h = absurd h
same_length (n ∷ prefixes) (b ∷ bindings) h = ap suc (same_length prefixes bindings h.1)

-- ---- a prefix is looked up

pub nothing_bound : (prefix : List ℕ) (prefixes : List Numbering) (bindings : List Binding) → length bindings ≡ 0 → None ≡ uri_of prefix (pairs_of (in_force prefixes bindings))
nothing_bound prefix [] bindings none = refl
nothing_bound prefix (n ∷ prefixes) [] none = refl
nothing_bound prefix (n ∷ prefixes) (b ∷ bindings) none = absurd (omega arith)

missed_by : (same : Bool) (n : ℕ) (uri : List ℕ) (number : Option ℕ) (bound : Option (List ℕ)) → (number ≡ None → bound ≡ None) → cond same (Some n) number ≡ None → cond same (Some uri) bound ≡ None
missed_by true n uri number bound more is = absurd cc
missed_by false n uri number bound more is = more is

pub not_bound : (prefix : List ℕ) (prefixes : List Numbering) (bindings : List Binding) → AreNumbered prefixes bindings → number_of prefix prefixes ≡ None → uri_of prefix (pairs_of (in_force prefixes bindings)) ≡ None
not_bound prefix [] bindings h is = refl
not_bound prefix (n ∷ prefixes) [] h is = refl
not_bound prefix (n ∷ prefixes) (b ∷ bindings) h is =
    missed_by (bytes_eq n.0 prefix) n.1 b.uri.now (number_of prefix prefixes) (uri_of prefix (pairs_of (in_force prefixes bindings))) (not_bound prefix prefixes bindings h.1) is

within_by : (same : Bool) (n k : ℕ) (bindings : List Binding) (number : Option ℕ) → n ≡ length bindings → (number ≡ Some k → k < length bindings) → cond same (Some n) number ≡ Some k → k < suc (length bindings)
within_by true n k bindings number at more is = let same : n ≡ k = cc in omega arith
within_by false n k bindings number at more is = omega (arith, more is)

number_within : (prefix : List ℕ) (prefixes : List Numbering) (bindings : List Binding) (k : ℕ) → AreNumbered prefixes bindings → number_of prefix prefixes ≡ Some k → k < length bindings
number_within prefix [] bindings k h is = absurd cc
number_within prefix (n ∷ prefixes) [] k h is = absurd h
number_within prefix (n ∷ prefixes) (b ∷ bindings) k h is = within_by (bytes_eq n.0 prefix) n.1 k bindings (number_of prefix prefixes) h.0 (number_within prefix prefixes bindings k h.1) is

-- the binding with a number, counted from the outermost one
abbrev binding_at : List Binding → ℕ → Binding → Binding
binding_at bindings n d = get_or (reverse bindings) n d

at_front : (b d : Binding) (outer : List Binding) → binding_at (b ∷ outer) (length outer) d ≡ b
at_front b d outer = ap (λ l. get_or l (length outer) d) (reverse-append (b ∷ []) outer) ∙ get_or_push (reverse outer) b d (length outer) (length-reverse outer)

at_rest : (b d : Binding) (outer : List Binding) (n : ℕ) → n < length outer → binding_at (b ∷ outer) n d ≡ binding_at outer n d
at_rest b d outer n lt =
    let within : n < length (reverse outer) = omega (arith, lt, length-reverse outer) in
    ap (λ l. get_or l n d) (reverse-append (b ∷ []) outer) ∙ get_or_append_left (reverse outer) (b ∷ []) d n within

found_by : (same : Bool) (n k : ℕ) (b d : Binding) (outer : List Binding) (number : Option ℕ) (bound : Option (List ℕ)) → n ≡ length outer → (number ≡ Some k → (k < length outer) × (bound ≡ Some (binding_at outer k d).uri.now))
    → cond same (Some n) number ≡ Some k → cond same (Some b.uri.now) bound ≡ Some (binding_at (b ∷ outer) k d).uri.now
found_by true n k b d outer number bound at more is =
    let same : n ≡ k = cc in
    let e : length outer ≡ k = omega arith in
    sym (ap (λ (x : Binding). Some x.uri.now) (ap (λ m. binding_at (b ∷ outer) m d) (sym e) ∙ at_front b d outer))
found_by false n k b d outer number bound at more is = (more is).1 ∙ sym (ap (λ (x : Binding). Some x.uri.now) (at_rest b d outer k (more is).0))

found : (prefix : List ℕ) (prefixes : List Numbering) (bindings : List Binding) (k : ℕ) (d : Binding) → AreNumbered prefixes bindings → number_of prefix prefixes ≡ Some k
    → uri_of prefix (pairs_of (in_force prefixes bindings)) ≡ Some (binding_at bindings k d).uri.now
found prefix [] bindings k d h is = absurd cc
found prefix (n ∷ prefixes) [] k d h is = absurd h
found prefix (n ∷ prefixes) (b ∷ bindings) k d h is =
    found_by (bytes_eq n.0 prefix) n.1 k b d bindings (number_of prefix prefixes) (uri_of prefix (pairs_of (in_force prefixes bindings))) h.0 (λ e. (number_within prefix prefixes bindings k h.1 e, found prefix prefixes bindings k d h.1 e)) is

-- the same of bindings of which the innermost stands last
pub found_within : (prefix : List ℕ) (prefixes : List Numbering) (items : List Binding) (k : ℕ) → AreNumbered prefixes (reverse items) → number_of prefix prefixes ≡ Some k → k < length items
found_within prefix prefixes items k h is = omega (arith, number_within prefix prefixes (reverse items) k h is, length-reverse items)

pub found_uri : (prefix : List ℕ) (prefixes : List Numbering) (items : List Binding) (k : ℕ) (b : Binding) → AreNumbered prefixes (reverse items) → number_of prefix prefixes ≡ Some k → b ≡ get_or items k b
    → Some b.uri.now ≡ uri_of prefix (pairs_of (in_force prefixes (reverse items)))
found_uri prefix prefixes items k b h is at =
    sym (found prefix prefixes (reverse items) k b h is ∙ ap (λ (x : Binding). Some x.uri.now) (ap (λ l. get_or l k b) (reverse-reverse items) ∙ sym at))

-- ---- the innermost ones are left

front_left : (items : List Binding) (n : ℕ) → reverse (take n items) ≡ drop (length items - n) (reverse items)
front_left items n =
    let parts : reverse items ≡ reverse (drop n items) ++ reverse (take n items) = ap reverse (sym (take-append-drop n items)) ∙ reverse-append (take n items) (drop n items) in
    sym (ap (drop (length items - n)) parts ∙ drop_at (reverse (drop n items)) (reverse (take n items)) (length items - n) (length-reverse (drop n items) ∙ length-drop n items))

numbered_drop : (k : ℕ) (prefixes : List Numbering) (bindings : List Binding) → AreNumbered prefixes bindings → AreNumbered (drop k prefixes) (drop k bindings)
numbered_drop zero prefixes bindings h = h
numbered_drop (suc k) [] [] h = h
numbered_drop (suc k) [] (b ∷ bindings) h = absurd h
numbered_drop (suc k) (n ∷ prefixes) [] h = absurd h
numbered_drop (suc k) (n ∷ prefixes) (b ∷ bindings) h = numbered_drop k prefixes bindings h.1

in_force_drop : (k : ℕ) (prefixes : List Numbering) (bindings : List Binding) → AreNumbered prefixes bindings → in_force (drop k prefixes) (drop k bindings) ≡ drop k (in_force prefixes bindings)
in_force_drop zero prefixes bindings h = refl
in_force_drop (suc k) [] [] h = refl
in_force_drop (suc k) [] (b ∷ bindings) h = absurd h
in_force_drop (suc k) (n ∷ prefixes) [] h = absurd h
in_force_drop (suc k) (n ∷ prefixes) (b ∷ bindings) h = in_force_drop k prefixes bindings h.1

own_len : (place : ℕ) (prefixes : List Numbering) (bindings : List Binding) → AreNumbered prefixes bindings
    → prefix_len (λ (b : InForce). b.place == place) (in_force prefixes bindings) ≡ prefix_len (λ (b : Binding). b.place == place) bindings
own_len place [] [] h = refl
own_len place [] (b ∷ bindings) h = absurd h
own_len place (n ∷ prefixes) [] h = absurd h
own_len place (n ∷ prefixes) (b ∷ bindings) h = ap (λ m. cond (b.place == place) (1 + m) 0) (own_len place prefixes bindings h.1)

-- so many stand outside of the element at a place
abbrev IsOuter : ℕ → List Binding → ℕ → Type 0
IsOuter place items n = n + suffix_len (λ (b : Binding). b.place == place) items ≡ length items

pub outer_within : (place : ℕ) (prefixes : List Numbering) (items : List Binding) (n : ℕ) → AreNumbered prefixes (reverse items) → IsOuter place items n → n ≤ length prefixes
outer_within place prefixes items n h is = omega (arith, same_length prefixes (reverse items) h, length-reverse items)

pub numbered_left : (place : ℕ) (prefixes : List Numbering) (items : List Binding) (n : ℕ) → AreNumbered prefixes (reverse items) → IsOuter place items n
    → AreNumbered (drop (length prefixes - n) prefixes) (reverse (take n items))
numbered_left place prefixes items n h is =
    let same : length prefixes ≡ length items = same_length prefixes (reverse items) h ∙ length-reverse items in
    rw (front_left items n, same) (numbered_drop (length items - n) prefixes (reverse items) h)

-- none is the element's own
pub all_outside : (place : ℕ) (prefixes : List Numbering) (items : List Binding) (n : ℕ) → AreNumbered prefixes (reverse items) → IsOuter place items n → n ≡ length items
    → in_force prefixes (reverse items) ≡ outside place (in_force prefixes (reverse items))
all_outside place prefixes items n h is all =
    let none : prefix_len (λ (b : InForce). b.place == place) (in_force prefixes (reverse items)) ≡ 0 = omega (arith, own_len place prefixes (reverse items) h) in
    sym (ap (λ m. drop m (in_force prefixes (reverse items))) none)

pub left_outside : (place : ℕ) (prefixes : List Numbering) (items : List Binding) (n : ℕ) → AreNumbered prefixes (reverse items) → IsOuter place items n
    → in_force (drop (length prefixes - n) prefixes) (reverse (take n items)) ≡ outside place (in_force prefixes (reverse items))
left_outside place prefixes items n h is =
    let same : length prefixes ≡ length items = same_length prefixes (reverse items) h ∙ length-reverse items in
    let own : length items - n ≡ prefix_len (λ (b : InForce). b.place == place) (in_force prefixes (reverse items)) = omega (arith, own_len place prefixes (reverse items) h) in
    ap (λ m. in_force (drop (m - n) prefixes) (reverse (take n items))) same ∙ ap (in_force (drop (length items - n) prefixes)) (front_left items n)
    ∙ in_force_drop (length items - n) prefixes (reverse items) h ∙ ap (λ m. drop m (in_force prefixes (reverse items))) own
