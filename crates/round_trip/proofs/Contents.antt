-- What printed trees are cut into spells their text, keeps the rules of content, has no fault, and stands for the trees.
use Rattle.std.proofs.Common.{◌≡◌, ℕ, ◌+◌, true, false, not, ◌&&◌, ◌||◌, List, [], ◌∷◌, ◌++◌, map, length, refl, sym, ap, ap₂, ◌∙◌, subst, append_assoc}
use Rattle.std.specs.Prelude.{⊤, codes}
use Rattle.std.specs.Str.{bytes_eq}
use Rattle.std.specs.Char.{to_ascii_lowercase}
use Rattle.std.proofs.lemmas.Bool.{true≢false, false≢true, cond-false}
use Rattle.tree_model.specs.Forest.{Forest, none, tree}
use Rattle.tree_model.specs.Labels.{Label, with_id, local_name, text_label}
use Rattle.tree_model.specs.Sound.{is_empty, is_comment, begins_no_text, is_elem, is_doc}
use Rattle.tree_model.specs.XmlChars.{is_space, is_xml_ncname, first_is, has_word}
use Rattle.tree_model.specs.XmlSource.{Content, done, element, empty, part, cdata, comm, pi, start_source, comm_source, pi_source, content_text}
use Rattle.tree_model.specs.XmlGood.{IsGood}
use Rattle.tree_model.specs.XmlMeaning.{pair_of, Pair, Scope, with_attrs, is_bad_tag, attr_labels, tag_label, pi_label, with_gathered, content_trees, Fault, tag_faults, content_faults}
use Rattle.tree_model.specs.Printing.{data_text, written_name, start_text, end_text, pi_text, has_trees, trees_text}
use Rattle.tree_model.specs.PrintedReads.{has_return}
use Rattle.tree_model.specs.declared.row.Kind.{Kind}
use Rattle.tree_model.specs.declared.row.Kind.TheVariants.{Elem, Text, Comm, Pi}
use Rattle.tree_model.specs.declared.text.Name.{Name}
use Rattle.round_trip.specs.Cut.{data_reference, value_parts, tag_cut, parts_before, element_cut, pi_cut}
use Rattle.round_trip.proofs.Values.{data_text_before, NoPartFirst, data_good, lines_kept, data_trees, data_faultless, comment_good, pi_cut_good}
use Rattle.round_trip.proofs.Elements.{inner_scope, IsElement, IsTagCut, is_tag_cut}
use Rattle.round_trip.proofs.Printable.{without_ids, AreNodeParts, no_attrs, no_kids}

-- ---- texts between content

-- content that begins with no text
abbrev pub BeginsNoText : Content → Type 0
BeginsNoText (part p more) = ⊥
BeginsNoText (cdata bytes more) = ⊥
BeginsNoText more = ⊤

no_part : (g : Content) → BeginsNoText g → NoPartFirst g
no_part done h = tt
no_part (element name attrs gap inside last more) h = tt
no_part (empty name attrs gap more) h = tt
no_part (part p more) h = h
no_part (cdata bytes more) h = tt
no_part (comm bytes more) h = tt
no_part (pi target gap bytes more) h = tt

-- what was gathered is a text before it
gathered_first : (scope : Scope) (value : List ℕ) (g : Content) → BeginsNoText g → content_trees false scope value g ≡ with_gathered false value (content_trees false scope [] g)
gathered_first scope value done h = refl
gathered_first scope value (element name attrs gap inside last more) h = refl
gathered_first scope value (empty name attrs gap more) h = refl
gathered_first scope value (part p more) h = absurd h
gathered_first scope value (cdata bytes more) h = absurd h
gathered_first scope value (comm bytes more) h = refl
gathered_first scope value (pi target gap bytes more) h = refl

gathered_some : (value : List ℕ) (f : Forest Label) → is_empty value ≡ false → with_gathered false value f ≡ tree (text_label value) [] none f
gathered_some [] f h = absurd (true≢false h)
gathered_some (c ∷ value) f h = refl

-- ---- content and the trees that it was cut from

pub record IsCutOf (scope : Scope) (f : Forest Label) (g : Content) : Type 0 where
  pub text : content_text g ≡ trees_text scope f
  pub good : IsGood g
  pub faultless : (at : ℕ) → content_faults scope at g ≡ []
  pub trees : content_trees false scope [] g ≡ without_ids f
  pub first : begins_no_text f ≡ true → BeginsNoText g

abbrev pub label_of : Kind → ℕ → Name → List ℕ → Label
label_of kind id name value = record { kind = kind; id = id; name = name; value = value }

-- a node without attributes and children
abbrev pub leaf : Label → Forest Label → Forest Label
leaf label rest = tree label [] none rest

pub leaf_is : (scope : Scope) (label : Label) (attrs : List Label) (kids rest : Forest Label) → is_elem label ≡ false → (is_doc label || is_elem label) ≡ false → AreNodeParts scope label attrs kids rest
    → (P : List Label → Forest Label → Type 0) → P [] none → P attrs kids
leaf_is scope label attrs kids rest e d parts P h =
    subst (λ (k : Forest Label). P attrs k) (sym (no_kids label kids parts.fit d)) (subst (λ (a : List Label). P a none) (sym (no_attrs label attrs parts.owner e)) h)

-- ---- texts

pub cut_text : (id : ℕ) (value : List ℕ) (scope : Scope) (rest : Forest Label) (more : Content) → is_empty value ≡ false → begins_no_text rest ≡ true → IsCutOf scope rest more
    → IsCutOf scope (leaf (label_of Text id (local_name []) value) rest) (parts_before (value_parts data_reference value) more)
cut_text id value scope rest more some apart h =
    let begins : BeginsNoText more = h.first apart in
    record {
      text = data_text_before value more ∙ ap (λ l. data_text value ++ l) h.text;
      good = data_good value more h.good (no_part more begins);
      faultless = data_faultless scope value more h.faultless;
      trees = data_trees false scope [] value more ∙ gathered_first scope value more begins ∙ gathered_some value (content_trees false scope [] more) some ∙ ap (λ (f : Forest Label). leaf (text_label value) f) h.trees;
      first = λ k. absurd (false≢true k);
    }

-- ---- comments

pub cut_comm : (id : ℕ) (value : List ℕ) (scope : Scope) (rest : Forest Label) (more : Content) → is_comment value ≡ true → has_return value ≡ false → IsCutOf scope rest more
    → IsCutOf scope (leaf (label_of Comm id (local_name []) value) rest) (comm value more)
cut_comm id value scope rest more good no_return h = record {
  text = ap (λ l. comm_source value ++ l) h.text;
  good = (comment_good value good, h.good);
  faultless = λ at. h.faultless (at + length (comm_source value));
  trees = ap₂ (λ (v : List ℕ) (f : Forest Label). leaf (label_of Comm 0 (local_name []) v) f) (lines_kept value no_return) h.trees;
  first = λ k. tt;
}

-- ---- instructions

pi_spelled : (id : ℕ) (target value : List ℕ) (more : Content) → content_text (pi_cut target value more) ≡ pi_text (label_of Pi id (local_name target) value) ++ content_text more
unfolding written_name
pi_spelled id target [] more = refl
pi_spelled id target (c ∷ value) more = refl

pi_faultless : (scope : Scope) (target value : List ℕ) (more : Content) → ((at : ℕ) → content_faults scope at more ≡ []) → (at : ℕ) → content_faults scope at (pi_cut target value more) ≡ []
pi_faultless scope target [] more h at = h (at + length (pi_source target [] []))
pi_faultless scope target (c ∷ value) more h at = h (at + length (pi_source target (32 ∷ []) (c ∷ value)))

pi_trees : (scope : Scope) (target value : List ℕ) (more : Content) → content_trees false scope [] (pi_cut target value more) ≡ leaf (pi_label target value) (content_trees false scope [] more)
pi_trees scope target [] more = refl
pi_trees scope target (c ∷ value) more = refl

pi_begins : (target value : List ℕ) (more : Content) → BeginsNoText (pi_cut target value more)
pi_begins target [] more = tt
pi_begins target (c ∷ value) more = tt

pub cut_pi : (id : ℕ) (target value : List ℕ) (scope : Scope) (rest : Forest Label) (more : Content) → (is_xml_ncname target && not (bytes_eq (map to_ascii_lowercase target) (codes "xml"))) ≡ true
    → has_word (codes "?>") value ≡ false → has_return value ≡ false → first_is is_space value ≡ false → IsCutOf scope rest more
    → IsCutOf scope (leaf (label_of Pi id (local_name target) value) rest) (pi_cut target value more)
cut_pi id target value scope rest more named free no_return begins h = record {
  text = pi_spelled id target value more ∙ ap (λ l. pi_text (label_of Pi id (local_name target) value) ++ l) h.text;
  good = pi_cut_good target value more named free begins h.good;
  faultless = pi_faultless scope target value more h.faultless;
  trees = pi_trees scope target value more ∙ ap₂ (λ (v : List ℕ) (f : Forest Label). leaf (label_of Pi 0 (local_name target) v) f) (lines_kept value no_return) h.trees;
  first = λ k. pi_begins target value more;
}

-- ---- elements

no_tag_fault : (inside : Scope) (at : ℕ) (name : List ℕ) (pairs : List Pair) → is_bad_tag inside name pairs ≡ false → tag_faults inside at name pairs ≡ []
unfolding tag_faults
no_tag_fault inside at name pairs h = cond-false _ _ _ h

-- the text of a start tag
start_is : (scope : Scope) (label : Label) (attrs : List Label) → IsTagCut scope label attrs → start_source (written_name label.name) (tag_cut scope label attrs) ≡ start_text scope label attrs
start_is scope label attrs t = ap (λ (l : List ℕ). 60 ∷ (written_name label.name ++ l)) t.text

-- the tag in its own scope
inside_fault : (scope : Scope) (label : Label) (attrs : List Label) → IsTagCut scope label attrs → (at : ℕ)
    → tag_faults (with_attrs (map pair_of (tag_cut scope label attrs)) scope) at (written_name label.name) (map pair_of (tag_cut scope label attrs)) ≡ []
inside_fault scope label attrs t at = no_tag_fault _ at (written_name label.name) (map pair_of (tag_cut scope label attrs)) (ap (λ (s : Scope). is_bad_tag s (written_name label.name) (map pair_of (tag_cut scope label attrs))) t.inside ∙ t.allowed)

tag_label_is : (scope : Scope) (label : Label) (attrs : List Label) → IsTagCut scope label attrs
    → tag_label (with_attrs (map pair_of (tag_cut scope label attrs)) scope) (written_name label.name) (map pair_of (tag_cut scope label attrs)) ≡ with_id 0 label
tag_label_is scope label attrs t = ap (λ (s : Scope). tag_label s (written_name label.name) (map pair_of (tag_cut scope label attrs))) t.inside ∙ t.label_is

tag_attrs_are : (scope : Scope) (label : Label) (attrs : List Label) → IsTagCut scope label attrs → attr_labels (with_attrs (map pair_of (tag_cut scope label attrs)) scope) (map pair_of (tag_cut scope label attrs)) ≡ map (with_id 0) attrs
tag_attrs_are scope label attrs t = ap (λ (s : Scope). attr_labels s (map pair_of (tag_cut scope label attrs))) t.inside ∙ t.attrs_are

same_tree : {l m : Label} {a b : List Label} {f g h k : Forest Label} → l ≡ m → a ≡ b → f ≡ g → h ≡ k → tree l a f h ≡ tree m b g k
same_tree e1 e2 e3 e4 = rw (e1, e2, e3, e4)

nothing_joined : {a b c d : List Fault} → a ≡ [] → b ≡ [] → c ≡ [] → d ≡ [] → a ++ (b ++ (c ++ d)) ≡ []
nothing_joined e1 e2 e3 e4 = rw (e1, e2, e3, e4)

whole_element : (end : List ℕ) {start begun inside kids more rest : List ℕ} → start ≡ begun → inside ≡ kids → more ≡ rest → start ++ (62 ∷ (inside ++ (end ++ more))) ≡ (begun ++ 62 ∷ (kids ++ end)) ++ rest
whole_element end e1 e2 e3 = rw (e1, e2, e3) (simp append_assoc)

whole_empty : {start begun more rest : List ℕ} → start ≡ begun → more ≡ rest → start ++ (47 ∷ 62 ∷ more) ≡ (begun ++ 47 ∷ 62 ∷ []) ++ rest
whole_empty e1 e2 = rw (e1, e2) (simp append_assoc)

pub cut_empty : (id : ℕ) (name : Name) (value : List ℕ) (scope : Scope) (attrs : List Label) (rest : Forest Label) (more : Content) → IsElement scope (label_of Elem id name value) attrs → IsCutOf scope rest more
    → IsCutOf scope (tree (label_of Elem id name value) attrs none rest) (element_cut scope (label_of Elem id name value) attrs false done more)
cut_empty id name value scope attrs rest more is h =
    let label : Label = label_of Elem id name value in
    let t = is_tag_cut scope label attrs is in
    let pairs : List Pair = map pair_of (tag_cut scope label attrs) in
    let inside : Scope = with_attrs pairs scope in
    record {
      text = whole_empty (start_is scope label attrs t) h.text;
      good = (t.tag, h.good);
      faultless = λ at. nothing_joined {c = []} (inside_fault scope label attrs t at) (t.known (at + length (60 ∷ written_name name))) refl (h.faultless _);
      trees = same_tree (tag_label_is scope label attrs t) (tag_attrs_are scope label attrs t) refl h.trees;
      first = λ k. tt;
    }

pub cut_element : (id : ℕ) (name : Name) (value : List ℕ) (scope : Scope) (attrs : List Label) (kids rest : Forest Label) (inner more : Content) → has_trees kids ≡ true → IsElement scope (label_of Elem id name value) attrs
    → IsCutOf (inner_scope scope (label_of Elem id name value) attrs) kids inner → IsCutOf scope rest more
    → IsCutOf scope (tree (label_of Elem id name value) attrs kids rest) (element_cut scope (label_of Elem id name value) attrs true inner more)
cut_element id name value scope attrs none rest inner more some is k h = absurd (false≢true some)
cut_element id name value scope attrs (tree label_in attrs_in kids_in rest_in) rest inner more some is k h =
    let label : Label = label_of Elem id name value in
    let t = is_tag_cut scope label attrs is in
    let pairs : List Pair = map pair_of (tag_cut scope label attrs) in
    record {
      text = whole_element (end_text label) (start_is scope label attrs t) k.text h.text;
      good = (t.tag, k.good, refl, h.good);
      faultless = λ at. nothing_joined (inside_fault scope label attrs t at) (t.known (at + length (60 ∷ written_name name)))
          (subst (λ (s : Scope). content_faults s (at + length (start_source (written_name name) (tag_cut scope label attrs)) + length {A = ℕ} (62 ∷ [])) inner ≡ []) (sym t.inside) (k.faultless _)) (h.faultless _);
      trees = same_tree (tag_label_is scope label attrs t) (tag_attrs_are scope label attrs t) (ap (λ (s : Scope). content_trees false s [] inner) t.inside ∙ k.trees) h.trees;
      first = λ e. tt;
    }
