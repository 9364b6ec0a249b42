-- The tag of a printed element keeps the rules of tags, and stands for the element and its attributes.
use Rattle.std.proofs.Common.{◌≡◌, ℕ, ◌+◌, Bool, true, false, not, ◌||◌, List, [], ◌∷◌, ◌++◌, map, length, refl, sym, ap, ap₂, ◌∙◌, append_assoc}
use Rattle.std.specs.Prelude.{⊤, codes}
use Rattle.std.specs.List.{flat_map, list_any}
use Rattle.std.specs.Option.{is_none}
use Rattle.std.specs.Str.{bytes_eq}
use Rattle.std.proofs.lemmas.Bool.{and_parts, and_from, or_parts, or_from, and_right, and_left, true≢false, not-true, not_from_false, false_from_ne_true, cond-true, cond-false}
use Rattle.std.proofs.lemmas.List.Folds.{list_any-append}
use Rattle.std.proofs.lemmas.Slice.Eq.{bytes_eq-Decides}
use Rattle.tree_model.specs.Declarations.{declared_name}
use Rattle.tree_model.specs.Labels.{Label, with_id}
use Rattle.tree_model.specs.Sound.{is_same_name, are_distinct_names}
use Rattle.tree_model.specs.XmlSource.{attr_head, attr_source, Attr as TagAttr, parts_text}
use Rattle.tree_model.specs.XmlGood.{EachIsAttr, is_in, are_new, names_of}
use Rattle.tree_model.specs.XmlMeaning.{Pair, pair_of, Scope, is_declaration, with_attrs, is_bad_binding, attr_uri, or_empty, plain_attrs, attr_name, expanded, is_same_pair, has_twice, has_bad_binding, kept_declarations, attr_label, attrs_faults}
use Rattle.tree_model.specs.Printing.{value_text, behind, declaration_text, written_name, attr_text}
use Rattle.tree_model.specs.declared.row.Kind.TheVariants.{Attr}
use Rattle.tree_model.specs.declared.text.Name.{Name}
use Rattle.round_trip.specs.Cut.{value_reference, value_parts, attr_cut, binding_cut, label_cut}
use Rattle.round_trip.proofs.Values.{value_spelled, value_good, value_kept, value_faultless}
use Rattle.round_trip.proofs.Scopes.{bytes_are, AreApart, declared_names, AreDeclaring}
use Rattle.round_trip.proofs.Written.{IsAttribute, AreAttributes, names, written_names}

-- ---- what the cut tag stands for

-- declarations, and attributes, as names and values
abbrev pub declaring : List Pair → List Pair
declaring [] = []
declaring (b ∷ bindings) = (declared_name b.0, b.1) ∷ declaring bindings

abbrev pub written : List Label → List Pair
written [] = []
written (a ∷ attrs) = (written_name a.name, a.value) ∷ written attrs

abbrev pub cut : List Pair → List Label → List TagAttr
cut bindings attrs = map binding_cut bindings ++ map label_cut attrs

abbrev pair : List ℕ → List ℕ → Pair
pair name value = (name, value)

pair_is : (name value : List ℕ) → pair_of (attr_cut name value) ≡ pair name value
pair_is name value = ap (pair name) (value_kept value)

attrs_are : (attrs : List Label) → map pair_of (map label_cut attrs) ≡ written attrs
attrs_are [] = refl
attrs_are (a ∷ attrs) = ap₂ (λ (x : Pair) (l : List Pair). x ∷ l) (pair_is (written_name a.name) a.value) (attrs_are attrs)

pub pairs_are : (bindings : List Pair) (attrs : List Label) → map pair_of (cut bindings attrs) ≡ declaring bindings ++ written attrs
pairs_are [] attrs = attrs_are attrs
pairs_are (b ∷ bindings) attrs = ap₂ (λ (x : Pair) (l : List Pair). x ∷ l) (pair_is (declared_name b.0) b.1) (pairs_are bindings attrs)

-- ---- scopes

attrs_keep : (inside : Scope) (attrs : List Label) (scope : Scope) → AreAttributes inside attrs → with_attrs (written attrs) scope ≡ scope
unfolding with_attrs
attrs_keep inside [] scope are = refl
attrs_keep inside (a ∷ attrs) scope are = cond-false _ _ _ are.0.written.no_declaration ∙ attrs_keep inside attrs scope are.1

-- the declarations are what comes into scope
pub scope_is : (inside : Scope) (bindings : List Pair) (attrs : List Label) (scope : Scope) → AreDeclaring bindings → AreAttributes inside attrs → with_attrs (declaring bindings ++ written attrs) scope ≡ behind bindings scope
unfolding with_attrs
scope_is inside [] attrs scope d are = attrs_keep inside attrs scope are
scope_is inside (b ∷ bindings) attrs scope d are =
    cond-true _ _ _ d.0.parts.declares ∙ ap (λ (p : List ℕ). with_attrs (declaring bindings ++ written attrs) (pair p b.1 ∷ scope)) d.0.parts.prefix_is ∙ scope_is inside bindings attrs (b ∷ scope) d.1 are

plain_written : (inside : Scope) (attrs : List Label) → AreAttributes inside attrs → plain_attrs (written attrs) ≡ written attrs
unfolding plain_attrs
plain_written inside [] are = refl
plain_written inside (a ∷ attrs) are = cond-false _ _ _ are.0.written.no_declaration ∙ ap (λ (l : List Pair). pair (written_name a.name) a.value ∷ l) (plain_written inside attrs are.1)

-- the attributes are the others
pub plain_is : (inside : Scope) (bindings : List Pair) (attrs : List Label) → AreDeclaring bindings → AreAttributes inside attrs → plain_attrs (declaring bindings ++ written attrs) ≡ written attrs
unfolding plain_attrs
plain_is inside [] attrs d are = plain_written inside attrs are
plain_is inside (b ∷ bindings) attrs d are = cond-true _ _ _ d.0.parts.declares ∙ plain_is inside bindings attrs d.1 are

attrs_not_kept : (inside : Scope) (attrs : List Label) → AreAttributes inside attrs → kept_declarations (written attrs) ≡ []
unfolding kept_declarations
attrs_not_kept inside [] are = refl
attrs_not_kept inside (a ∷ attrs) are = cond-false _ _ _ (and_left _ _ are.0.written.no_declaration) ∙ attrs_not_kept inside attrs are.1

-- all declarations are kept
pub kept_is : (inside : Scope) (bindings : List Pair) (attrs : List Label) → AreDeclaring bindings → AreAttributes inside attrs → kept_declarations (declaring bindings ++ written attrs) ≡ bindings
unfolding kept_declarations
kept_is inside [] attrs d are = attrs_not_kept inside attrs are
kept_is inside (b ∷ bindings) attrs d are =
    cond-true _ _ _ (and_from _ _ d.0.parts.declares (not_from_false _ (ap (λ (p : List ℕ). bytes_eq p (codes "xml")) d.0.parts.prefix_is ∙ d.0.no_xml)))
    ∙ ap₂ (λ (p : List ℕ) (l : List Pair). pair p b.1 ∷ l) d.0.parts.prefix_is (kept_is inside bindings attrs d.1 are)

-- ---- rules of namespaces

attrs_allowed : (inside : Scope) (attrs : List Label) → AreAttributes inside attrs → has_bad_binding (written attrs) ≡ false
attrs_allowed inside [] are = refl
attrs_allowed inside (a ∷ attrs) are = or_from _ _ (and_left _ _ are.0.written.no_declaration) (attrs_allowed inside attrs are.1)

pub bindings_allowed : (inside : Scope) (bindings : List Pair) (attrs : List Label) → AreDeclaring bindings → AreAttributes inside attrs → has_bad_binding (declaring bindings ++ written attrs) ≡ false
bindings_allowed inside [] attrs d are = attrs_allowed inside attrs are
bindings_allowed inside (b ∷ bindings) attrs d are =
    or_from _ _ (and_right _ _ (ap (λ (p : List ℕ). is_bad_binding p b.1) d.0.parts.prefix_is ∙ d.0.allowed)) (bindings_allowed inside bindings attrs d.1 are)

pub all_are_bound : (inside : Scope) (attrs : List Label) → AreAttributes inside attrs → list_any (λ (a : Pair). is_none (attr_uri inside a.0)) (written attrs) ≡ false
all_are_bound inside [] are = refl
all_are_bound inside (a ∷ attrs) are = or_from _ _ (ap is_none are.0.written.bound) (all_are_bound inside attrs are.1)

abbrev key : Name → Pair
key name = (name.uri, name.local)

abbrev keys : List Name → List Pair
keys ns = map key ns

pub expanded_are : (inside : Scope) (attrs : List Label) → AreAttributes inside attrs → map (λ (a : Pair). expanded inside a.0) (written attrs) ≡ keys (names attrs)
expanded_are inside [] are = refl
expanded_are inside (a ∷ attrs) are = ap₂ (λ (x : Pair) (l : List Pair). x ∷ l) (ap₂ pair (ap or_empty are.0.written.bound) are.0.written.parts.local_is) (expanded_are inside attrs are.1)

-- ---- none stands twice

-- a test that is the same both ways fails for each before and each behind
abbrev NoneAmong : {A : Type 0} → (A → A → Bool) → List A → List A → Type 0
NoneAmong same before [] = ⊤
NoneAmong same before (x ∷ xs) = (list_any (same x) before ≡ false) × NoneAmong same before xs

none_at_first : {A : Type 0} (same : A → A → Bool) (xs : List A) → NoneAmong same [] xs
none_at_first same [] = tt
none_at_first same (x ∷ xs) = (refl, none_at_first same xs)

none_with : {A : Type 0} (same : A → A → Bool) → ((x y : A) → same x y ≡ false → same y x ≡ false) → (x : A) (before xs : List A) → list_any (same x) xs ≡ false → NoneAmong same before xs → NoneAmong same (x ∷ before) xs
none_with same turned x before [] h none = tt
none_with same turned x before (y ∷ xs) h none =
    let p = or_parts (same x y) (list_any (same x) xs) h in
    (or_from _ _ (turned x y p.0) none.0, none_with same turned x before xs p.1 none.1)

bytes_turned : (a b : List ℕ) → bytes_eq a b ≡ false → bytes_eq b a ≡ false
bytes_turned a b h = false_from_ne_true _ (λ e. true≢false (sym ((bytes_eq-Decides a b).1 (sym (bytes_are b a e))) ∙ h))

pair_turned : (a b : Pair) → is_same_pair a b ≡ false → is_same_pair b a ≡ false
pair_turned a b h = false_from_ne_true _ (λ e.
    let p = and_parts (bytes_eq b.0 a.0) (bytes_eq b.1 a.1) e in
    let back : is_same_pair a b ≡ true = and_from _ _ ((bytes_eq-Decides a.0 b.0).1 (sym (bytes_are b.0 a.0 p.0))) ((bytes_eq-Decides a.1 b.1).1 (sym (bytes_are b.1 a.1 p.1))) in
    true≢false (sym back ∙ h))

same_keys : (a : Name) (ns : List Name) → list_any (is_same_pair (key a)) (keys ns) ≡ list_any (is_same_name a) ns
same_keys a [] = refl
same_keys a (b ∷ ns) = ap (λ t. is_same_name a b || t) (same_keys a ns)

not_twice : (before : List Pair) (ns : List Name) → are_distinct_names ns ≡ true → NoneAmong is_same_pair before (keys ns) → has_twice before (keys ns) ≡ false
not_twice before [] h none = refl
not_twice before (a ∷ ns) h none =
    let p = and_parts (not (list_any (is_same_name a) ns)) (are_distinct_names ns) h in
    or_from _ _ none.0 (not_twice (key a ∷ before) ns p.1 (none_with is_same_pair pair_turned (key a) before (keys ns) (same_keys a ns ∙ not-true _ p.0) none.1))

pub no_key_twice : (ns : List Name) → are_distinct_names ns ≡ true → has_twice [] (keys ns) ≡ false
no_key_twice ns h = not_twice [] ns h (none_at_first is_same_pair (keys ns))

new_among : (before ns : List (List ℕ)) → AreApart ns → NoneAmong (λ (a b : List ℕ). bytes_eq a b) before ns → are_new before ns ≡ true
new_among before [] h none = refl
new_among before (n ∷ ns) h none = and_from _ _ (not_from_false _ none.0) (new_among (n ∷ before) ns h.1 (none_with (λ (a b : List ℕ). bytes_eq a b) bytes_turned n before ns h.0 none.1))

are_new_from : (ns : List (List ℕ)) → AreApart ns → are_new [] ns ≡ true
are_new_from ns h = new_among [] ns h (none_at_first (λ (a b : List ℕ). bytes_eq a b) ns)

-- no declaration is written as an attribute
declaration_apart : (inside : Scope) (name : List ℕ) (attrs : List Label) → is_declaration name ≡ true → AreAttributes inside attrs → is_in name (written_names attrs) ≡ false
declaration_apart inside name [] d are = refl
declaration_apart inside name (a ∷ attrs) d are =
    or_from _ _ (false_from_ne_true _ (λ e. true≢false (sym d ∙ ap is_declaration (bytes_are _ _ e) ∙ are.0.written.no_declaration))) (declaration_apart inside name attrs d are.1)

all_apart : (inside : Scope) (bindings : List Pair) (attrs : List Label) → AreDeclaring bindings → AreApart (declared_names bindings) → AreAttributes inside attrs → AreApart (written_names attrs) → AreApart (declared_names bindings ++ written_names attrs)
all_apart inside [] attrs d da are wa = wa
all_apart inside (b ∷ bindings) attrs d da are wa = (
  list_any-append (λ (other : List ℕ). bytes_eq (declared_name b.0) other) (declared_names bindings) (written_names attrs) ∙ or_from _ _ da.0 (declaration_apart inside (declared_name b.0) attrs d.0.parts.declares are),
  all_apart inside bindings attrs d.1 da.1 are wa,
)

attr_names_are : (attrs : List Label) → names_of (map label_cut attrs) ≡ written_names attrs
attr_names_are [] = refl
attr_names_are (a ∷ attrs) = ap (λ (l : List (List ℕ)). written_name a.name ∷ l) (attr_names_are attrs)

names_are : (bindings : List Pair) (attrs : List Label) → names_of (cut bindings attrs) ≡ declared_names bindings ++ written_names attrs
names_are [] attrs = attr_names_are attrs
names_are (b ∷ bindings) attrs = ap (λ (l : List (List ℕ)). declared_name b.0 ∷ l) (names_are bindings attrs)

pub names_differ : (inside : Scope) (bindings : List Pair) (attrs : List Label) → AreDeclaring bindings → AreApart (declared_names bindings) → AreAttributes inside attrs → AreApart (written_names attrs) → are_new [] (names_of (cut bindings attrs)) ≡ true
names_differ inside bindings attrs d da are wa = ap (are_new []) (names_are bindings attrs) ∙ are_new_from (declared_names bindings ++ written_names attrs) (all_apart inside bindings attrs d da are wa)

-- ---- each attribute by itself

attrs_good : (inside : Scope) (attrs : List Label) → AreAttributes inside attrs → EachIsAttr (map label_cut attrs)
attrs_good inside [] are = tt
attrs_good inside (a ∷ attrs) are = (record { gap = (refl, refl); name = are.0.written.parts.named; before = refl; behind = refl; delim = refl; value = value_good a.value }, attrs_good inside attrs are.1)

pub each_good : (inside : Scope) (bindings : List Pair) (attrs : List Label) → AreDeclaring bindings → AreAttributes inside attrs → EachIsAttr (cut bindings attrs)
each_good inside [] attrs d are = attrs_good inside attrs are
each_good inside (b ∷ bindings) attrs d are = (record { gap = (refl, refl); name = d.0.parts.named; before = refl; behind = refl; delim = refl; value = value_good b.1 }, each_good inside bindings attrs d.1 are)

-- an attribute's text
one_text : (name value : List ℕ) → attr_source (attr_cut name value) ≡ 32 ∷ (name ++ (codes "=\"" ++ (value_text value ++ codes "\"")))
one_text name value =
    ap (λ (l : List ℕ). 32 ∷ l) (append_assoc name (61 ∷ 34 ∷ []) (parts_text (value_parts value_reference value) ++ 34 ∷ []) ∙ ap (λ (v : List ℕ). name ++ (61 ∷ 34 ∷ (v ++ 34 ∷ []))) (value_spelled value))

attrs_text : (attrs : List Label) → flat_map attr_source (map label_cut attrs) ≡ flat_map (λ (a : Label). 32 ∷ attr_text a) attrs
attrs_text [] = refl
attrs_text (a ∷ attrs) = ap₂ (λ (x y : List ℕ). x ++ y) (one_text (written_name a.name) a.value) (attrs_text attrs)

pub tag_texts : (bindings : List Pair) (attrs : List Label) → flat_map attr_source (cut bindings attrs) ≡ flat_map declaration_text bindings ++ flat_map (λ (a : Label). 32 ∷ attr_text a) attrs
tag_texts [] attrs = attrs_text attrs
tag_texts (b ∷ bindings) attrs =
    ap₂ (λ (x y : List ℕ). x ++ y) (one_text (declared_name b.0) b.1) (tag_texts bindings attrs)
    ∙ sym (append_assoc (declaration_text b) (flat_map declaration_text bindings) (flat_map (λ (a : Label). 32 ∷ attr_text a) attrs))

-- no reference is unknown
attrs_known : (attrs : List Label) (at : ℕ) → attrs_faults at (map label_cut attrs) ≡ []
attrs_known [] at = refl
attrs_known (a ∷ attrs) at = ap₂ ◌++◌ (value_faultless (at + length (attr_head (label_cut a))) a.value) (attrs_known attrs (at + length (attr_source (label_cut a))))

pub all_known : (bindings : List Pair) (attrs : List Label) (at : ℕ) → attrs_faults at (cut bindings attrs) ≡ []
all_known [] attrs at = attrs_known attrs at
all_known (b ∷ bindings) attrs at = ap₂ ◌++◌ (value_faultless (at + length (attr_head (binding_cut b))) b.1) (all_known bindings attrs (at + length (attr_source (binding_cut b))))

-- ---- labels

abbrev attr_from : Name → List ℕ → Label
attr_from name value = record { kind = Attr; id = 0; name = name; value = value }

attr_is : (inside : Scope) (a : Label) → IsAttribute inside a → attr_label inside (pair (written_name a.name) a.value) ≡ with_id 0 a
attr_is inside a is =
    let name : attr_name inside (written_name a.name) ≡ a.name = name_is (ap or_empty is.written.bound) is.written.parts.prefix_is is.written.parts.local_is in
    ap (λ (n : Name). attr_from n a.value) name ∙ kind_is is.kind
  where
    name_is : {uri prefix local : List ℕ} → uri ≡ a.name.uri → prefix ≡ a.name.prefix → local ≡ a.name.local → ◌≡◌ {A = Name} (record { uri = uri; prefix = prefix; local = local }) a.name
    name_is u p l = rw (u, p, l)

    kind_is : a.kind ≡ Attr → attr_from a.name a.value ≡ with_id 0 a
    kind_is e = rw e

pub labels_are : (inside : Scope) (attrs : List Label) → AreAttributes inside attrs → map (attr_label inside) (written attrs) ≡ map (with_id 0) attrs
labels_are inside [] are = refl
labels_are inside (a ∷ attrs) are = ap₂ (λ (x : Label) (l : List Label). x ∷ l) (attr_is inside a are.0) (labels_are inside attrs are.1)
