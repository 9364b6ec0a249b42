-- A printed document is in UTF-8, and each of its characters is a Char: escaping changes ASCII bytes alone, and markup is ASCII.
use Rattle.std.proofs.Common.{◌≡◌, inl, inr, ℕ, suc, ◌<◌, ◌≤◌, Bool, true, false, cond, not, ◌||◌, List, [], ◌∷◌, ◌++◌, map, length, get_or, Option, refl, sym, ap, ap₂, ◌∙◌, subst, arith, append-nil}
use Rattle.std.specs.Prelude.{⊤, codes, filter}
use Rattle.std.specs.List.{flat_map, list_all}
use Rattle.std.specs.Str.{chars, encode_utf8_all}
use Rattle.std.specs.Char.{encode_utf8}
use Rattle.std.proofs.lemmas.Bool.{and_parts, false≢true, cases_lt}
use Rattle.std.proofs.lemmas.List.Folds.{list_all-append}
use Rattle.std.proofs.lemmas.Grind.{flat_map-append}
use Rattle.std.proofs.lemmas.Str.{IsUtf8-from_is_utf8, encode_ascii, encodes-chars, inside_one}
use Rattle.tree_model.specs.Declarations.{declarations_of, declared_name}
use Rattle.tree_model.specs.Forest.{Forest, none, tree, walk}
use Rattle.tree_model.specs.Labels.{Label}
use Rattle.tree_model.specs.Printing.{escape_data, escape_value, data_text, value_text, is_bound, wanted, behind, added, declarations, scope_in, declaration_text, written_name, attr_text, start_text, end_text, pi_text, elem_text, tree_text, has_trees, trees_text}
use Rattle.tree_model.specs.Sound.{is_empty, is_good_name, is_target, has_no_name, is_good_node, spells_declarations, are_chars, has_chars, is_good_label, is_attr, prefixed_names, binding_of, fits, owns, Kept}
use Rattle.tree_model.specs.XmlChars.{is_xml_char, is_xml_ncname}
use Rattle.tree_model.specs.XmlSource.{Part}
use Rattle.tree_model.specs.XmlMeaning.{Pair, Scope}
use Rattle.tree_model.specs.declared.row.Kind.{Kind}
use Rattle.tree_model.specs.declared.row.Kind.TheVariants.{Doc, Elem, Text, Attr, Comm, Pi}
use Rattle.tree_model.specs.declared.text.Name.{Name}
use Rattle.tree_model.proofs.XmlUtf8.{IsTextOfChars, text_nil, text_append, text_of_char, text_of_byte, text_ascii, text_ncname}
use Rattle.round_trip.proofs.Values.{by_data, by_value}
use Rattle.round_trip.proofs.Scopes.{AreDeclaring, are_declaring, spelled_parts}
use Rattle.round_trip.proofs.Written.{attr_kind, borne}

-- a printed text is in UTF-8, and its characters are Chars: `utf8` and `chars`
abbrev pub ArePrinted : List ℕ → Type 0
ArePrinted text = IsTextOfChars text

-- ---- escaping

-- an ASCII Char becomes a text of Chars, and a byte of a longer character stays
record IsEscape (escape : ℕ → List ℕ) : Type 0 where
  low : (c : ℕ) → c < 128 → is_xml_char c ≡ true → IsTextOfChars (escape c)
  high : (c : ℕ) → 128 ≤ c → escape c ≡ c ∷ []

abbrev Escapes : ℕ → Option Part → List ℕ → Type 0
Escapes c reference text = c < 128 → is_xml_char c ≡ true → IsTextOfChars text

abbrev Stays : ℕ → Option Part → List ℕ → Type 0
Stays c reference text = 128 ≤ c → text ≡ c ∷ []

data_escape : IsEscape escape_data
data_escape = record {
  low = λ c. by_data Escapes (λ l h. text_ascii (codes "&amp;") refl refl) (λ l h. text_ascii (codes "&lt;") refl refl) (λ l h. text_ascii (codes "&gt;") refl refl) (λ l h. text_ascii (codes "&#13;") refl refl) c (λ stays l h. text_of_byte c l h);
  high = λ c. by_data Stays (λ h. absurd (omega arith)) (λ h. absurd (omega arith)) (λ h. absurd (omega arith)) (λ h. absurd (omega arith)) c (λ stays h. refl);
}

value_escape : IsEscape escape_value
value_escape = record {
  low = λ c. by_value Escapes (λ l h. text_ascii (codes "&quot;") refl refl) (λ l h. text_ascii (codes "&#9;") refl refl) (λ l h. text_ascii (codes "&#10;") refl refl)
      (λ l h. text_ascii (codes "&amp;") refl refl) (λ l h. text_ascii (codes "&lt;") refl refl) (λ l h. text_ascii (codes "&gt;") refl refl) (λ l h. text_ascii (codes "&#13;") refl refl) c (λ stays l h. text_of_byte c l h);
  high = λ c. by_value Stays (λ h. absurd (omega arith)) (λ h. absurd (omega arith)) (λ h. absurd (omega arith)) (λ h. absurd (omega arith)) (λ h. absurd (omega arith)) (λ h. absurd (omega arith)) (λ h. absurd (omega arith)) c (λ stays h. refl);
}

high_kept : (escape : ℕ → List ℕ) → IsEscape escape → (bytes : List ℕ) → ((k : ℕ) → k < length bytes → 128 ≤ get_or bytes k 0) → flat_map escape bytes ≡ bytes
high_kept escape e [] h = refl
high_kept escape e (c ∷ bytes) h = ap₂ (λ (x y : List ℕ). x ++ y) (e.high c (h 0 (omega arith))) (high_kept escape e bytes (λ k below. h (suc k) (omega arith)))

high_bytes : (c : ℕ) → 128 ≤ c → (k : ℕ) → k < length (encode_utf8 c) → 128 ≤ get_or (encode_utf8 c) k 0
high_bytes c high k below = elim (cases_lt (get_or (encode_utf8 c) k 0) 128) [
  | inl low ↦ absurd (omega (arith, inside_one c [] (encode_utf8 c) k (sym (append-nil _)) below low))
  | inr h ↦ h
]

escaped_char : (escape : ℕ → List ℕ) → IsEscape escape → (c : ℕ) → is_xml_char c ≡ true → IsTextOfChars (flat_map escape (encode_utf8 c))
escaped_char escape e c h = elim (cases_lt c 128) [
  | inl low ↦ subst (λ l. IsTextOfChars (flat_map escape l)) (sym (encode_ascii c low)) (text_append (escape c) [] (e.low c low h) text_nil)
  | inr high ↦ subst IsTextOfChars (sym (high_kept escape e (encode_utf8 c) (high_bytes c high))) (text_of_char c h)
]

escaped_chars : (escape : ℕ → List ℕ) → IsEscape escape → (cs : List ℕ) → list_all is_xml_char cs ≡ true → IsTextOfChars (flat_map escape (encode_utf8_all cs))
escaped_chars escape e [] h = text_nil
escaped_chars escape e (c ∷ cs) h =
    let p = and_parts (is_xml_char c) (list_all is_xml_char cs) h in
    subst IsTextOfChars (sym (flat_map-append escape (encode_utf8 c) (encode_utf8_all cs)))
    (text_append (flat_map escape (encode_utf8 c)) (flat_map escape (encode_utf8_all cs)) (escaped_char escape e c p.0) (escaped_chars escape e cs p.1))

escaped_text : (escape : ℕ → List ℕ) → IsEscape escape → (v : List ℕ) → IsTextOfChars v → IsTextOfChars (flat_map escape v)
escaped_text escape e v t = subst (λ l. IsTextOfChars (flat_map escape l)) (encodes-chars v t.utf8) (escaped_chars escape e (chars v) t.chars)

pub data_chars : (v : List ℕ) → IsTextOfChars v → IsTextOfChars (data_text v)
data_chars v t = escaped_text escape_data data_escape v t

pub value_chars : (v : List ℕ) → IsTextOfChars v → IsTextOfChars (value_text v)
value_chars v t = escaped_text escape_value value_escape v t

-- ---- names and values

record IsNameText (name : Name) : Type 0 where
  uri : IsTextOfChars name.uri
  prefix : IsTextOfChars name.prefix
  local : IsTextOfChars name.local

text_from : (bytes : List ℕ) → are_chars bytes ≡ true → IsTextOfChars bytes
text_from bytes h = let p = and_parts _ _ h in record { utf8 = IsUtf8-from_is_utf8 bytes p.0; chars = p.1 }

text_empty : (bytes : List ℕ) → is_empty bytes ≡ true → IsTextOfChars bytes
text_empty [] h = text_nil
text_empty (c ∷ bytes) h = absurd (false≢true h)

text_prefix : (prefix : List ℕ) → (is_empty prefix || is_xml_ncname prefix) ≡ true → IsTextOfChars prefix
text_prefix [] h = text_nil
text_prefix (c ∷ prefix) h = text_ncname (c ∷ prefix) h

-- the two parts of a name
record AreParts (name : Name) : Type 0 where
  prefix : IsTextOfChars name.prefix
  local : IsTextOfChars name.local

no_parts : (name : Name) → has_no_name name ≡ true → AreParts name
no_parts name h = let p = and_parts _ (is_empty name.local) h in record { prefix = text_empty name.prefix (and_parts _ (is_empty name.prefix) p.0).1; local = text_empty name.local p.1 }

good_parts : (name : Name) → is_good_name name ≡ true → AreParts name
good_parts name h =
    let before_uris = and_parts _ _ (and_parts _ _ (and_parts _ _ h).0).0 in
    let both = and_parts (is_xml_ncname name.local) (is_empty name.prefix || is_xml_ncname name.prefix) (and_parts _ _ before_uris.0).0 in
    record { prefix = text_prefix name.prefix both.1; local = text_ncname name.local both.0 }

target_parts : (name : Name) → is_target name ≡ true → AreParts name
target_parts name h =
    let named = and_parts _ (is_xml_ncname name.local) (and_parts _ _ h).0 in
    record { prefix = text_empty name.prefix (and_parts _ (is_empty name.prefix) named.0).1; local = text_ncname name.local named.1 }

node_parts : (kind : Kind) (name : Name) (value : List ℕ) → is_good_node kind name value ≡ true → AreParts name
node_parts Doc name value h = no_parts name h
node_parts Elem name value h = good_parts name (and_parts _ _ h).0
node_parts Text name value h = no_parts name (and_parts _ _ h).0
node_parts Attr name value h = good_parts name (and_parts _ _ h).0
node_parts Comm name value h = no_parts name (and_parts _ _ h).0
node_parts Pi name value h = target_parts name (and_parts _ _ h).0

label_name : (label : Label) → is_good_label label ≡ true → IsNameText label.name
label_name label h =
    let p = and_parts (is_good_node label.kind label.name label.value) (are_chars label.name.uri) (and_parts _ (has_chars label.kind label.value) h).0 in
    let parts = node_parts label.kind label.name label.value p.0 in
    record { uri = text_from label.name.uri p.1; prefix = parts.prefix; local = parts.local }

record IsAttrText (label : Label) : Type 0 where
  name : IsNameText label.name
  value : IsTextOfChars label.value

attr_label_text : (label : Label) → is_attr label ≡ true → is_good_label label ≡ true → IsAttrText label
attr_label_text label a h =
    let chars : has_chars label.kind label.value ≡ true = (and_parts _ (has_chars label.kind label.value) h).1 in
    record { name = label_name label h; value = text_from label.value (sym (ap (λ (k : Kind). has_chars k label.value) (attr_kind label a)) ∙ chars) }

abbrev AreAttrTexts : List Label → Type 0
AreAttrTexts [] = ⊤
AreAttrTexts (label ∷ labels) = IsAttrText label × AreAttrTexts labels

attr_label_texts : (labels : List Label) → list_all is_attr labels ≡ true → list_all is_good_label labels ≡ true → AreAttrTexts labels
attr_label_texts [] a h = tt
attr_label_texts (label ∷ labels) a h =
    let p = and_parts (is_attr label) (list_all is_attr labels) a in
    let q = and_parts (is_good_label label) (list_all is_good_label labels) h in
    (attr_label_text label p.0 q.0, attr_label_texts labels p.1 q.1)

written_text : (name : Name) → IsNameText name → IsTextOfChars (written_name name)
unfolding written_name
written_text name t = by name.uri name.prefix name.local t.prefix t.local
  where
    by : (uri prefix local : List ℕ) → IsTextOfChars prefix → IsTextOfChars local → IsTextOfChars (written_name (record { uri = uri; prefix = prefix; local = local }))
    by uri [] local p l = l
    by uri (c ∷ prefix) local p l = text_append (c ∷ prefix) (58 ∷ local) p (text_append (58 ∷ []) local (text_of_byte 58 (omega arith) refl) l)

-- ---- declarations

abbrev AreNameTexts : List Name → Type 0
AreNameTexts [] = ⊤
AreNameTexts (name ∷ names) = IsNameText name × AreNameTexts names

filtered_names : (test : Name → Bool) (attrs : List Label) → AreAttrTexts attrs → AreNameTexts (filter test (map (λ (a : Label). a.name) attrs))
filtered_names test [] t = tt
filtered_names test (a ∷ attrs) t = by (test a.name) (filtered_names test attrs t.1)
  where
    by : (b : Bool) → AreNameTexts (filter test (map (λ (a : Label). a.name) attrs)) → AreNameTexts (cond b (a.name ∷ filter test (map (λ (a : Label). a.name) attrs)) (filter test (map (λ (a : Label). a.name) attrs)))
    by true more = (t.0.name, more)
    by false more = more

record IsBindingText (binding : Pair) : Type 0 where
  prefix : IsTextOfChars binding.0
  uri : IsTextOfChars binding.1

abbrev AreBindingTexts : List Pair → Type 0
AreBindingTexts [] = ⊤
AreBindingTexts (binding ∷ bindings) = IsBindingText binding × AreBindingTexts bindings

wanted_texts : (scope : Scope) (names : List Name) → AreNameTexts names → AreBindingTexts (wanted scope names)
wanted_texts scope [] t = tt
wanted_texts scope (name ∷ names) t = by (is_bound scope name) (wanted_texts scope names t.1) (wanted_texts (binding_of name ∷ scope) names t.1)
  where
    by : (b : Bool) → AreBindingTexts (wanted scope names) → AreBindingTexts (wanted (binding_of name ∷ scope) names) → AreBindingTexts (cond b (wanted scope names) (binding_of name ∷ wanted (binding_of name ∷ scope) names))
    by true without more = without
    by false without more = (record { prefix = t.0.prefix; uri = t.0.uri }, more)

own_texts : (bindings : List Pair) → AreDeclaring bindings → AreBindingTexts bindings
own_texts [] d = tt
own_texts (binding ∷ bindings) d = (record { prefix = text_prefix binding.0 d.0.prefix; uri = text_from binding.1 d.0.uri_chars }, own_texts bindings d.1)

joined_texts : (xs ys : List Pair) → AreBindingTexts xs → AreBindingTexts ys → AreBindingTexts (xs ++ ys)
joined_texts [] ys t u = u
joined_texts (x ∷ xs) ys t u = (t.0, joined_texts xs ys t.1 u)

declared_text : (prefix : List ℕ) → IsTextOfChars prefix → IsTextOfChars (declared_name prefix)
declared_text [] t = text_ascii (codes "xmlns") refl refl
declared_text (c ∷ prefix) t = text_append (codes "xmlns:") (c ∷ prefix) (text_ascii (codes "xmlns:") refl refl) t

-- a value between its quotes, behind a name
quoted_text : (name value : List ℕ) → IsTextOfChars name → IsTextOfChars value → IsTextOfChars (name ++ (codes "=\"" ++ (value_text value ++ codes "\"")))
quoted_text name value n v =
    text_append name _ n (text_append (codes "=\"") _ (text_ascii (codes "=\"") refl refl) (text_append (value_text value) (codes "\"") (value_chars value v) (text_ascii (codes "\"") refl refl)))

spaced_text : (bytes : List ℕ) → IsTextOfChars bytes → IsTextOfChars (32 ∷ bytes)
spaced_text bytes t = text_append (32 ∷ []) bytes (text_of_byte 32 (omega arith) refl) t

declaration_texts : (bindings : List Pair) → AreBindingTexts bindings → IsTextOfChars (flat_map declaration_text bindings)
declaration_texts [] t = text_nil
declaration_texts (binding ∷ bindings) t =
    text_append (declaration_text binding) (flat_map declaration_text bindings) (spaced_text _ (quoted_text (declared_name binding.0) binding.1 (declared_text binding.0 t.0.prefix) t.0.uri)) (declaration_texts bindings t.1)

-- ---- nodes

-- a value has Chars alone, and so have an element's declarations
abbrev IsValueText : Kind → List ℕ → Type 0
IsValueText Doc value = IsTextOfChars value
IsValueText Elem value = AreBindingTexts (declarations_of value)
IsValueText Text value = IsTextOfChars value
IsValueText Attr value = IsTextOfChars value
IsValueText Comm value = IsTextOfChars value
IsValueText Pi value = IsTextOfChars value

record IsNodeText (label : Label) : Type 0 where
  name : IsNameText label.name
  value : IsValueText label.kind label.value

value_is_text : (kind : Kind) (name : Name) (value : List ℕ) → is_good_node kind name value ≡ true → has_chars kind value ≡ true → IsValueText kind value
value_is_text Doc name value g h = text_from value h
value_is_text Elem name value g h =
    own_texts (declarations_of value) (are_declaring (declarations_of value) (spelled_parts value (and_parts (is_good_name name) (spells_declarations value) g).1).good)
value_is_text Text name value g h = text_from value h
value_is_text Attr name value g h = text_from value h
value_is_text Comm name value g h = text_from value h
value_is_text Pi name value g h = text_from value h

node_text : (label : Label) → is_good_label label ≡ true → IsNodeText label
node_text label h =
    let p = and_parts _ (has_chars label.kind label.value) h in
    let q = and_parts (is_good_node label.kind label.name label.value) (are_chars label.name.uri) p.0 in
    record { name = label_name label h; value = value_is_text label.kind label.name label.value q.0 p.1 }

attr_chars : (attr : Label) → IsAttrText attr → IsTextOfChars (attr_text attr)
attr_chars attr t = quoted_text (written_name attr.name) attr.value (written_text attr.name t.name) t.value

attrs_chars : (attrs : List Label) → AreAttrTexts attrs → IsTextOfChars (flat_map (λ (attr : Label). 32 ∷ attr_text attr) attrs)
attrs_chars [] t = text_nil
attrs_chars (attr ∷ attrs) t = text_append (32 ∷ attr_text attr) _ (spaced_text (attr_text attr) (attr_chars attr t.0)) (attrs_chars attrs t.1)

start_chars : (scope : Scope) (label : Label) (attrs : List Label) → IsNameText label.name → AreBindingTexts (declarations_of label.value) → AreAttrTexts attrs → IsTextOfChars (start_text scope label attrs)
start_chars scope label attrs t own ts =
    let more = wanted_texts (behind (declarations_of label.value) scope) (prefixed_names label attrs) (t, filtered_names (λ (name : Name). not (is_empty name.prefix)) attrs ts) in
    let bindings = joined_texts (declarations_of label.value) (added scope label attrs) own more in
    text_append (60 ∷ []) _ (text_of_byte 60 (omega arith) refl)
    (text_append (written_name label.name) _ (written_text label.name t)
    (text_append (flat_map declaration_text (declarations scope label attrs)) _ (declaration_texts (declarations scope label attrs) bindings) (attrs_chars attrs ts)))

end_chars : (label : Label) → IsNameText label.name → IsTextOfChars (end_text label)
end_chars label t =
    text_append (60 ∷ 47 ∷ []) _ (text_ascii (60 ∷ 47 ∷ []) refl refl) (text_append (written_name label.name) (62 ∷ []) (written_text label.name t) (text_of_byte 62 (omega arith) refl))

elem_chars : (scope : Scope) (label : Label) (attrs : List Label) (has_kids : Bool) (kids : List ℕ) → IsNameText label.name → AreBindingTexts (declarations_of label.value) → AreAttrTexts attrs → IsTextOfChars kids
    → IsTextOfChars (elem_text scope label attrs has_kids kids)
elem_chars scope label attrs true kids t own ts k =
    text_append (start_text scope label attrs) _ (start_chars scope label attrs t own ts)
    (text_append (62 ∷ []) _ (text_of_byte 62 (omega arith) refl) (text_append kids (end_text label) k (end_chars label t)))
elem_chars scope label attrs false kids t own ts k = text_append (start_text scope label attrs) (codes "/>") (start_chars scope label attrs t own ts) (text_ascii (codes "/>") refl refl)

comm_chars : (value : List ℕ) → IsTextOfChars value → IsTextOfChars (codes "<!--" ++ (value ++ codes "-->"))
comm_chars value t = text_append (codes "<!--") _ (text_ascii (codes "<!--") refl refl) (text_append value (codes "-->") t (text_ascii (codes "-->") refl refl))

pi_chars : (label : Label) → IsNameText label.name → IsTextOfChars label.value → IsTextOfChars (pi_text label)
pi_chars label n v = by label.kind label.id label.name label.value n v
  where
    by : (kind : Kind) (id : ℕ) (name : Name) (value : List ℕ) → IsNameText name → IsTextOfChars value → IsTextOfChars (pi_text (record { kind = kind; id = id; name = name; value = value }))
    by kind id name [] n v =
        text_append (codes "<?") _ (text_ascii (codes "<?") refl refl) (text_append (written_name name) (codes "?>") (written_text name n) (text_ascii (codes "?>") refl refl))
    by kind id name (c ∷ value) n v =
        text_append (codes "<?") _ (text_ascii (codes "<?") refl refl)
        (text_append (written_name name) _ (written_text name n) (spaced_text _ (text_append (c ∷ value) (codes "?>") v (text_ascii (codes "?>") refl refl))))

tree_chars : (scope : Scope) (label : Label) (attrs : List Label) (has_kids : Bool) (kids : List ℕ) → IsNodeText label → AreAttrTexts attrs → IsTextOfChars kids → IsTextOfChars (tree_text scope label attrs has_kids kids)
tree_chars scope label attrs has_kids kids t ts k = by label.kind label.id label.name label.value t.name t.value
  where
    by : (kind : Kind) (id : ℕ) (name : Name) (value : List ℕ) → IsNameText name → IsValueText kind value → IsTextOfChars (tree_text scope (record { kind = kind; id = id; name = name; value = value }) attrs has_kids kids)
    by Doc id name value n v = k
    by Elem id name value n v = elem_chars scope (record { kind = Elem; id = id; name = name; value = value }) attrs has_kids kids n v ts k
    by Text id name value n v = data_chars value v
    by Attr id name value n v = attr_chars (record { kind = Attr; id = id; name = name; value = value }) (record { name = n; value = v })
    by Comm id name value n v = comm_chars value v
    by Pi id name value n v = pi_chars (record { kind = Pi; id = id; name = name; value = value }) n v

pub printed_chars : (scope : Scope) (f : Forest Label) → Kept fits owns f → list_all is_good_label (walk f) ≡ true → ArePrinted (trees_text scope f)
printed_chars scope none places h = text_nil
printed_chars scope (tree label attrs kids rest) places h =
    let own = and_parts (is_good_label label) (list_all is_good_label (attrs ++ (walk kids ++ walk rest))) h in
    let others = both attrs (walk kids ++ walk rest) own.1 in
    let trees = both (walk kids) (walk rest) others.1 in
    text_append (tree_text scope label attrs (has_trees kids) (trees_text (scope_in scope label attrs) kids)) (trees_text scope rest)
    (tree_chars scope label attrs (has_trees kids) (trees_text (scope_in scope label attrs) kids) (node_text label own.0) (attr_label_texts attrs (borne label attrs places.0) others.0) (printed_chars (scope_in scope label attrs) kids places.2 trees.0))
    (printed_chars scope rest places.3 trees.1)
  where
    both : (a b : List Label) → list_all is_good_label (a ++ b) ≡ true → (list_all is_good_label a ≡ true) × (list_all is_good_label b ≡ true)
    both a b h = and_parts _ _ (sym (list_all-append is_good_label a b) ∙ h)
