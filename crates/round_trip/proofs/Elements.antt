-- A printed element: what its tag brings into scope, and the labels that it stands for.
use Rattle.std.proofs.Common.{◌≡◌, ℕ, true, false, List, [], ◌∷◌, ◌++◌, map, Some, refl, sym, ap, ◌∙◌, subst, append-nil}
use Rattle.std.specs.List.{flat_map, list_all, list_any}
use Rattle.std.specs.Option.{is_none}
use Rattle.std.proofs.lemmas.Bool.{and_parts, or_from}
use Rattle.tree_model.specs.Declarations.{declarations_of, declarations_value}
use Rattle.tree_model.specs.Labels.{Label, with_id}
use Rattle.tree_model.specs.Sound.{is_good_name, spells_declarations, is_good_label, is_elem, prefixed_names, owns}
use Rattle.tree_model.specs.XmlSource.{attr_source}
use Rattle.tree_model.specs.XmlGood.{IsTag}
use Rattle.tree_model.specs.XmlMeaning.{Pair, pair_of, Scope, with_attrs, element_uri, attr_uri, or_empty, expanded, has_twice, is_bad_tag, kept_declarations, attr_label, attr_labels, tag_label, attrs_faults}
use Rattle.tree_model.specs.Printing.{behind, added, declarations, declaration_text, written_name, attr_text}
use Rattle.tree_model.specs.declared.row.Kind.{Kind}
use Rattle.tree_model.specs.declared.row.Kind.TheVariants.{Elem}
use Rattle.tree_model.specs.declared.text.Name.{Name}
use Rattle.round_trip.specs.Cut.{tag_cut}
use Rattle.round_trip.proofs.Names.{IsParted, written_parts}
use Rattle.round_trip.proofs.Scopes.{BindsEach, spelled_parts, AreDeclaring, are_declaring, AreApart, declared_names, all_bound, declared_apart}
use Rattle.round_trip.proofs.Written.{element_bound, good_node, AreAttributes, are_attributes, names, written_apart, AreOwned, owned}
use Rattle.round_trip.proofs.Tags.{declaring, written, pairs_are, scope_is, plain_is, kept_is, bindings_allowed, all_are_bound, expanded_are, no_key_twice, names_differ, each_good, tag_texts, all_known, labels_are}

-- what is in scope inside an element
abbrev pub inner_scope : Scope → Label → List Label → Scope
inner_scope scope label attrs = behind (declarations scope label attrs) scope

-- an element as it may be printed where this is in scope about it
pub record IsElement (scope : Scope) (label : Label) (attrs : List Label) : Type 0 where
  pub kind : label.kind ≡ Elem
  pub good : is_good_label label ≡ true
  pub owner : owns label attrs ≡ true
  pub attrs_good : list_all is_good_label attrs ≡ true
  pub none_added : added scope label attrs ≡ []

-- the tag that it is cut into
pub record IsTagCut (scope : Scope) (label : Label) (attrs : List Label) : Type 0 where
  pub inside : with_attrs (map pair_of (tag_cut scope label attrs)) scope ≡ inner_scope scope label attrs
  pub tag : IsTag (written_name label.name) (tag_cut scope label attrs) []
  pub allowed : is_bad_tag (inner_scope scope label attrs) (written_name label.name) (map pair_of (tag_cut scope label attrs)) ≡ false
  pub label_is : tag_label (inner_scope scope label attrs) (written_name label.name) (map pair_of (tag_cut scope label attrs)) ≡ with_id 0 label
  pub attrs_are : attr_labels (inner_scope scope label attrs) (map pair_of (tag_cut scope label attrs)) ≡ map (with_id 0) attrs
  pub text : flat_map attr_source (tag_cut scope label attrs) ≡ flat_map declaration_text (declarations scope label attrs) ++ flat_map (λ (a : Label). 32 ∷ attr_text a) attrs
  pub known : (at : ℕ) → attrs_faults at (tag_cut scope label attrs) ≡ []

-- what the declarations and the attributes keep
record AreKept (scope : Scope) (label : Label) (attrs : List Label) : Type 0 where
  name_good : is_good_name label.name ≡ true
  value_back : declarations_value (declarations scope label attrs) ≡ label.value
  distinct : AreOwned label attrs
  declared : AreDeclaring (declarations scope label attrs)
  apart : AreApart (declared_names (declarations scope label attrs))
  bound : element_uri (inner_scope scope label attrs) (written_name label.name) ≡ Some label.name.uri
  attributes : AreAttributes (inner_scope scope label attrs) attrs

-- what an element declares is what it keeps
declares_own : (scope : Scope) (label : Label) (attrs : List Label) → added scope label attrs ≡ [] → declarations_of label.value ≡ declarations scope label attrs
declares_own scope label attrs none = sym (append-nil _) ∙ ap (λ (l : List Pair). declarations_of label.value ++ l) (sym none)

elem_is : (label : Label) → label.kind ≡ Elem → is_elem label ≡ true
elem_is label e = ap (λ (k : Kind). is_elem (record label { kind = k })) e

kept : (scope : Scope) (label : Label) (attrs : List Label) → IsElement scope label attrs → AreKept scope label attrs
kept scope label attrs h =
    let node = and_parts (is_good_name label.name) (spells_declarations label.value) (good_node label Elem h.kind h.good) in
    let own = owned label attrs (elem_is label h.kind) h.owner in
    let spelled = spelled_parts label.value node.1 in
    let same = declares_own scope label attrs h.none_added in
    let binds = subst (λ (ds : List Pair). BindsEach (behind ds scope) (prefixed_names label attrs)) same (all_bound (behind (declarations_of label.value) scope) (prefixed_names label attrs) h.none_added) in
    record {
      name_good = node.0;
      value_back = ap declarations_value (sym same) ∙ spelled.back;
      distinct = own;
      declared = subst AreDeclaring same (are_declaring (declarations_of label.value) spelled.good);
      apart = subst (λ (ds : List Pair). AreApart (declared_names ds)) same (declared_apart (declarations_of label.value) own.declared);
      bound = element_bound (inner_scope scope label attrs) label.name node.0 binds.0;
      attributes = are_attributes (inner_scope scope label attrs) attrs own.attributes h.attrs_good binds.1;
    }

-- the rules of namespaces, for the names and values that were cut
allowed_tag : (scope : Scope) (label : Label) (attrs : List Label) → AreKept scope label attrs → is_bad_tag (inner_scope scope label attrs) (written_name label.name) (declaring (declarations scope label attrs) ++ written attrs) ≡ false
unfolding is_bad_tag
allowed_tag scope label attrs k =
    let inside : Scope = inner_scope scope label attrs in
    let plain = plain_is inside (declarations scope label attrs) attrs k.declared k.attributes in
    or_from _ _ (or_from _ _ (or_from _ _
    (bindings_allowed inside (declarations scope label attrs) attrs k.declared k.attributes)
    (ap is_none k.bound))
    (ap (list_any (λ (a : Pair). is_none (attr_uri inside a.0))) plain ∙ all_are_bound inside attrs k.attributes))
    (ap (λ (l : List Pair). has_twice [] (map (λ (a : Pair). expanded inside a.0) l)) plain ∙ ap (has_twice []) (expanded_are inside attrs k.attributes) ∙ no_key_twice (names attrs) k.distinct.distinct)

abbrev elem_from : Name → List ℕ → Label
elem_from name value = record { kind = Elem; id = 0; name = name; value = value }

label_from : (inside : Scope) (label : Label) (pairs : List Pair) → label.kind ≡ Elem → declarations_value (kept_declarations pairs) ≡ label.value → IsParted label.name.prefix label.name.local (written_name label.name)
    → element_uri inside (written_name label.name) ≡ Some label.name.uri → tag_label inside (written_name label.name) pairs ≡ with_id 0 label
label_from inside label pairs kind value parts bound =
    ap (λ (n : Name). elem_from n (declarations_value (kept_declarations pairs))) (name_is (ap or_empty bound) parts.prefix_is parts.local_is) ∙ ap (elem_from label.name) value ∙ kind_is kind
  where
    name_is : {uri prefix local : List ℕ} → uri ≡ label.name.uri → prefix ≡ label.name.prefix → local ≡ label.name.local → ◌≡◌ {A = Name} (record { uri = uri; prefix = prefix; local = local }) label.name
    name_is u p l = rw (u, p, l)

    kind_is : label.kind ≡ Elem → elem_from label.name label.value ≡ with_id 0 label
    kind_is k = rw k

pub is_tag_cut : (scope : Scope) (label : Label) (attrs : List Label) → IsElement scope label attrs → IsTagCut scope label attrs
is_tag_cut scope label attrs h =
    let k = kept scope label attrs h in
    let bindings : List Pair = declarations scope label attrs in
    let inside : Scope = inner_scope scope label attrs in
    let pairs = pairs_are bindings attrs in
    let parts = written_parts label.name k.name_good in
    record {
      inside = ap (λ (l : List Pair). with_attrs l scope) pairs ∙ scope_is inside bindings attrs scope k.declared k.attributes;
      tag = record { named = parts.named; each = each_good inside bindings attrs k.declared k.attributes; differ = names_differ inside bindings attrs k.declared k.apart k.attributes (written_apart inside attrs k.attributes k.distinct.distinct); blank = refl };
      allowed = ap (is_bad_tag inside (written_name label.name)) pairs ∙ allowed_tag scope label attrs k;
      label_is = label_from inside label (map pair_of (tag_cut scope label attrs)) h.kind (ap declarations_value (ap kept_declarations pairs ∙ kept_is inside bindings attrs k.declared k.attributes) ∙ k.value_back) parts k.bound;
      attrs_are = ap (attr_labels inside) pairs ∙ ap (map (attr_label inside)) (plain_is inside bindings attrs k.declared k.attributes) ∙ labels_are inside attrs k.attributes;
      text = tag_texts bindings attrs;
      known = all_known bindings attrs;
    }
