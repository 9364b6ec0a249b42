-- Names of elements and attributes, as they are written, stand for themselves in the scope of their element.
use Rattle.std.proofs.Common.{◌≡◌, ℕ, Bool, true, false, cond, not, ◌&&◌, ◌||◌, List, [], ◌∷◌, map, Some, None, refl, sym, ap, ◌∙◌}
use Rattle.std.specs.Prelude.{⊤, codes, filter}
use Rattle.std.specs.List.{list_all, list_any}
use Rattle.std.specs.Str.{bytes_eq}
use Rattle.std.proofs.lemmas.Bool.{and_parts, and_from, or_parts, or_from, true≢false, false≢true, not-true, false_from_ne_true, cond-true, cond-false}
use Rattle.std.proofs.lemmas.Slice.Eq.{bytes_eq-Decides}
use Rattle.tree_model.specs.Declarations.{declarations_of}
use Rattle.tree_model.specs.Labels.{Label}
use Rattle.tree_model.specs.Sound.{is_empty, is_good_name, is_same_name, are_distinct_names, is_attr_name, is_good_node, is_good_label, is_elem, is_attr, are_chars, has_chars, bindings_of, are_distinct, have_one_uri, binds_well, owns}
use Rattle.tree_model.specs.XmlChars.{has_colon, before_colon, behind_colon, local_of}
use Rattle.tree_model.specs.XmlGood.{is_in}
use Rattle.tree_model.specs.XmlMeaning.{Scope, uri_of, is_declaration, attr_uri, element_uri}
use Rattle.tree_model.specs.Printing.{written_name}
use Rattle.tree_model.specs.declared.row.Kind.{Kind}
use Rattle.tree_model.specs.declared.row.Kind.TheVariants.{Doc, Elem, Text, Attr, Comm, Pi}
use Rattle.tree_model.specs.declared.text.Name.{Name}
use Rattle.round_trip.proofs.Names.{IsParted, good_parts, written_parts}
use Rattle.round_trip.proofs.Scopes.{bytes_are, Binds, BindsEach, AreApart, prefixes}

-- ---- names

-- the name of an attribute
pub record IsWritten (inside : Scope) (name : Name) : Type 0 where
  pub parts : IsParted name.prefix name.local (written_name name)
  pub bound : attr_uri inside (written_name name) ≡ Some name.uri
  pub no_declaration : is_declaration (written_name name) ≡ false

pub nothing : (bytes : List ℕ) → is_empty bytes ≡ true → bytes ≡ []
nothing [] h = refl
nothing (c ∷ bytes) h = absurd (false≢true h)

-- a name without a prefix is written as its local part
written_alone : (name : Name) → IsParted name.prefix name.local (written_name name) → has_colon (written_name name) ≡ false → written_name name ≡ name.local
written_alone name p no_colon = sym (cond-false _ (behind_colon (written_name name)) (written_name name) no_colon) ∙ p.local_is

written_before : (name : Name) → IsParted name.prefix name.local (written_name name) → has_colon (written_name name) ≡ true → before_colon (written_name name) ≡ name.prefix
written_before name p colon = sym (cond-true _ (before_colon (written_name name)) [] colon) ∙ p.prefix_is

pub written_attr : (inside : Scope) (name : Name) → is_attr_name name ≡ true → (is_empty name.prefix ≡ false → Binds inside name) → IsWritten inside name
unfolding attr_uri is_declaration
written_attr inside name h binds = by (is_empty name.prefix) refl both.1 binds
  where
    both : (is_good_name name ≡ true) × ((not (is_empty name.prefix) || (is_empty name.uri && not (bytes_eq name.local (codes "xmlns")))) ≡ true)
    both = and_parts (is_good_name name) (not (is_empty name.prefix) || (is_empty name.uri && not (bytes_eq name.local (codes "xmlns")))) h

    parts : IsParted name.prefix name.local (written_name name)
    parts = written_parts name both.0

    by : (none_there : Bool) → is_empty name.prefix ≡ none_there → (not none_there || (is_empty name.uri && not (bytes_eq name.local (codes "xmlns")))) ≡ true → (none_there ≡ false → Binds inside name) → IsWritten inside name
    by true e k bound =
        let no_colon : has_colon (written_name name) ≡ false = parts.colon ∙ ap not e in
        let p = and_parts (is_empty name.uri) (not (bytes_eq name.local (codes "xmlns"))) k in
        record {
          parts = parts;
          bound = cond-false _ _ _ no_colon ∙ ap (λ (u : List ℕ). Some u) (sym (nothing name.uri p.0));
          no_declaration = cond-false _ _ _ no_colon ∙ ap (λ (n : List ℕ). bytes_eq n (codes "xmlns")) (written_alone name parts no_colon) ∙ not-true _ p.1;
        }
    by false e k bound =
        let colon : has_colon (written_name name) ≡ true = parts.colon ∙ ap not e in
        let before = written_before name parts colon in
        record {
          parts = parts;
          bound = cond-true _ _ _ colon ∙ ap (λ (p : List ℕ). uri_of p inside) before ∙ (bound refl).is;
          no_declaration = cond-true _ _ _ colon ∙ ap (λ (p : List ℕ). bytes_eq p (codes "xmlns")) before ∙ (good_parts name both.0).no_xmlns;
        }

-- the name of an element
pub element_bound : (inside : Scope) (name : Name) → is_good_name name ≡ true → Binds inside name → element_uri inside (written_name name) ≡ Some name.uri
unfolding element_uri
element_bound inside name h binds =
    let parts = written_parts name h in
    ap (λ (p : List ℕ). cond (bytes_eq p (codes "xmlns")) None (uri_of p inside)) parts.prefix_is ∙ cond-false _ _ _ (good_parts name h).no_xmlns ∙ binds.is

-- ---- the attributes of an element

pub attr_kind : (label : Label) → is_attr label ≡ true → label.kind ≡ Attr
attr_kind label h = by label.kind h
  where
    by : (kind : Kind) → is_attr (record label { kind = kind }) ≡ true → kind ≡ Attr
    by Doc k = absurd (false≢true k)
    by Elem k = absurd (false≢true k)
    by Text k = absurd (false≢true k)
    by Attr k = refl
    by Comm k = absurd (false≢true k)
    by Pi k = absurd (false≢true k)

-- the name and the value of a good node
pub good_node : (label : Label) (kind : Kind) → label.kind ≡ kind → is_good_label label ≡ true → is_good_node kind label.name label.value ≡ true
good_node label kind e h =
    let p = and_parts (is_good_node label.kind label.name label.value && are_chars label.name.uri) (has_chars label.kind label.value) h in
    sym (ap (λ (k : Kind). is_good_node k label.name label.value) e) ∙ (and_parts (is_good_node label.kind label.name label.value) (are_chars label.name.uri) p.0).0

pub record IsAttribute (inside : Scope) (label : Label) : Type 0 where
  pub kind : label.kind ≡ Attr
  pub written : IsWritten inside label.name

abbrev pub AreAttributes : Scope → List Label → Type 0
AreAttributes inside [] = ⊤
AreAttributes inside (a ∷ attrs) = IsAttribute inside a × AreAttributes inside attrs

abbrev pub names : List Label → List Name
names attrs = map (λ (a : Label). a.name) attrs

abbrev pub prefixed : List Label → List Name
prefixed attrs = filter (λ (name : Name). not (is_empty name.prefix)) (names attrs)

pub are_attributes : (inside : Scope) (attrs : List Label) → list_all is_attr attrs ≡ true → list_all is_good_label attrs ≡ true → BindsEach inside (prefixed attrs) → AreAttributes inside attrs
are_attributes inside [] a g b = tt
are_attributes inside (x ∷ attrs) a g b =
    let p = and_parts (is_attr x) (list_all is_attr attrs) a in
    let q = and_parts (is_good_label x) (list_all is_good_label attrs) g in
    let kind = attr_kind x p.0 in
    let found = by (is_empty x.name.prefix) b in
    (record { kind = kind; written = written_attr inside x.name (good_node x Attr kind q.0) found.0 }, are_attributes inside attrs p.1 q.1 found.1)
  where
    by : (none_there : Bool) → BindsEach inside (cond (not none_there) (x.name ∷ prefixed attrs) (prefixed attrs)) → (none_there ≡ false → Binds inside x.name) × BindsEach inside (prefixed attrs)
    by true h = ((λ e. absurd (true≢false e)), h)
    by false h = ((λ e. h.0), h.1)

-- ---- written names differ

abbrev pub written_names : List Label → List (List ℕ)
written_names attrs = map (λ (a : Label). written_name a.name) attrs

some_uri : (a b : List ℕ) → Some a ≡ Some b → a ≡ b
some_uri a b e = cc

-- attributes that are written alike have one name
differs : (inside : Scope) (a b : Name) → IsWritten inside a → IsWritten inside b → is_same_name a b ≡ false → bytes_eq (written_name a) (written_name b) ≡ false
differs inside a b x y h = false_from_ne_true _ (λ s.
    let same : written_name a ≡ written_name b = bytes_are _ _ s in
    let uri : a.uri ≡ b.uri = some_uri a.uri b.uri (sym x.bound ∙ ap (attr_uri inside) same ∙ y.bound) in
    let local : a.local ≡ b.local = sym x.parts.local_is ∙ ap local_of same ∙ y.parts.local_is in
    let one : is_same_name a b ≡ true = and_from _ _ ((bytes_eq-Decides a.uri b.uri).1 uri) ((bytes_eq-Decides a.local b.local).1 local) in
    true≢false (sym one ∙ h))

none_alike : (inside : Scope) (a : Name) (attrs : List Label) → IsWritten inside a → AreAttributes inside attrs → list_any (is_same_name a) (names attrs) ≡ false → is_in (written_name a) (written_names attrs) ≡ false
none_alike inside a [] x are h = refl
none_alike inside a (b ∷ attrs) x are h =
    let p = or_parts (is_same_name a b.name) (list_any (is_same_name a) (names attrs)) h in
    or_from _ _ (differs inside a b.name x are.0.written p.0) (none_alike inside a attrs x are.1 p.1)

pub written_apart : (inside : Scope) (attrs : List Label) → AreAttributes inside attrs → are_distinct_names (names attrs) ≡ true → AreApart (written_names attrs)
written_apart inside [] are h = tt
written_apart inside (a ∷ attrs) are h =
    let p = and_parts (not (list_any (is_same_name a.name) (names attrs))) (are_distinct_names (names attrs)) h in
    (none_alike inside a.name attrs are.0.written are.1 (not-true _ p.0), written_apart inside attrs are.1 p.1)

-- ---- what an element owns

pub record AreOwned (label : Label) (attrs : List Label) : Type 0 where
  pub attributes : list_all is_attr attrs ≡ true
  pub distinct : are_distinct_names (names attrs) ≡ true
  pub declared : are_distinct (prefixes (declarations_of label.value)) ≡ true

declared_distinct : (label : Label) (attrs : List Label) → binds_well label attrs ≡ true → are_distinct (prefixes (declarations_of label.value)) ≡ true
unfolding binds_well
declared_distinct label attrs h = (and_parts (are_distinct (prefixes (declarations_of label.value))) (have_one_uri (bindings_of label attrs)) h).0

-- what a node bears is attributes
pub borne : (label : Label) (attrs : List Label) → owns label attrs ≡ true → list_all is_attr attrs ≡ true
borne label [] h = refl
borne label (a ∷ attrs) h =
    let last = and_parts (is_elem label && list_all is_attr (a ∷ attrs) && are_distinct_names (names (a ∷ attrs))) (binds_well label (a ∷ attrs)) h in
    let middle = and_parts (is_elem label && list_all is_attr (a ∷ attrs)) (are_distinct_names (names (a ∷ attrs))) last.0 in
    (and_parts (is_elem label) (list_all is_attr (a ∷ attrs)) middle.0).1

pub owned : (label : Label) (attrs : List Label) → is_elem label ≡ true → owns label attrs ≡ true → AreOwned label attrs
owned label [] e h = record { attributes = refl; distinct = refl; declared = declared_distinct label [] (ap (λ t. not t || binds_well label []) (sym e) ∙ h) }
owned label (a ∷ attrs) e h =
    let last = and_parts (is_elem label && list_all is_attr (a ∷ attrs) && are_distinct_names (names (a ∷ attrs))) (binds_well label (a ∷ attrs)) h in
    record {
      attributes = borne label (a ∷ attrs) h;
      distinct = (and_parts (is_elem label && list_all is_attr (a ∷ attrs)) (are_distinct_names (names (a ∷ attrs))) last.0).1;
      declared = declared_distinct label (a ∷ attrs) last.1;
    }
