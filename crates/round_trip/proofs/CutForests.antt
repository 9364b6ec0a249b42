-- Each printed forest is cut into content that spells it and stands for it, node by node.
use Rattle.std.proofs.Common.{◌≡◌, ℕ, true, not, ◌&&◌, List, map, refl, sym, subst}
use Rattle.std.specs.Prelude.{codes}
use Rattle.std.specs.Str.{bytes_eq}
use Rattle.std.specs.Char.{to_ascii_lowercase}
use Rattle.std.proofs.lemmas.Bool.{and_parts, and_from, or_parts, false≢true, not-true}
use Rattle.tree_model.specs.Forest.{Forest, none, tree}
use Rattle.tree_model.specs.Labels.{Label, local_name}
use Rattle.tree_model.specs.Sound.{is_empty, has_no_name, is_comment, is_target}
use Rattle.tree_model.specs.XmlChars.{is_space, is_xml_ncname, first_is, has_word}
use Rattle.tree_model.specs.XmlSource.{comm}
use Rattle.tree_model.specs.XmlMeaning.{Scope}
use Rattle.tree_model.specs.Printing.{scope_in, written_name}
use Rattle.tree_model.specs.PrintedReads.{has_return}
use Rattle.tree_model.specs.declared.row.Kind.{Kind}
use Rattle.tree_model.specs.declared.row.Kind.TheVariants.{Doc, Elem, Text, Attr, Comm, Pi}
use Rattle.tree_model.specs.declared.text.Name.{Name}
use Rattle.round_trip.specs.Cut.{data_reference, value_parts, parts_before, pi_cut, content_cut}
use Rattle.round_trip.proofs.Written.{nothing, good_node}
use Rattle.round_trip.proofs.Elements.{inner_scope}
use Rattle.round_trip.proofs.Printable.{IsPrintable, AreNodeParts, node_parts, unnamed, name_from}
use Rattle.round_trip.proofs.Contents.{IsCutOf, label_of, leaf, leaf_is, cut_text, cut_comm, cut_pi, cut_empty, cut_element}

-- the name of an instruction
record IsTargetName (name : Name) : Type 0 where
  is : name ≡ local_name name.local
  named : (is_xml_ncname name.local && not (bytes_eq (map to_ascii_lowercase name.local) (codes "xml"))) ≡ true

target_name : (name : Name) → is_target name ≡ true → IsTargetName name
target_name name h =
    let last = and_parts (is_empty name.uri && is_empty name.prefix && is_xml_ncname name.local) (not (bytes_eq (map to_ascii_lowercase name.local) (codes "xml"))) h in
    let middle = and_parts (is_empty name.uri && is_empty name.prefix) (is_xml_ncname name.local) last.0 in
    let first = and_parts (is_empty name.uri) (is_empty name.prefix) middle.0 in
    record { is = same (nothing name.uri first.0) (nothing name.prefix first.1); named = and_from _ _ middle.1 last.1 }
  where
    same : {uri prefix : List ℕ} → name.uri ≡ uri → name.prefix ≡ prefix → name_from name.uri name.prefix name.local ≡ name_from uri prefix name.local
    same u x = rw (u, x)

element_node : (id : ℕ) (name : Name) (value : List ℕ) (scope : Scope) (attrs : List Label) (kids rest : Forest Label) → AreNodeParts scope (label_of Elem id name value) attrs kids rest
    → IsCutOf (inner_scope scope (label_of Elem id name value) attrs) kids (content_cut (inner_scope scope (label_of Elem id name value) attrs) kids) → IsCutOf scope rest (content_cut scope rest)
    → IsCutOf scope (tree (label_of Elem id name value) attrs kids rest) (content_cut scope (tree (label_of Elem id name value) attrs kids rest))
element_node id name value scope attrs none rest parts k h =
    cut_empty id name value scope attrs rest (content_cut scope rest) (record { kind = refl; good = parts.good; owner = parts.owner; attrs_good = parts.attrs_good; none_added = parts.none_added refl }) h
element_node id name value scope attrs (tree label_in attrs_in kids_in rest_in) rest parts k h =
    cut_element id name value scope attrs (tree label_in attrs_in kids_in rest_in) rest _ (content_cut scope rest) refl (record { kind = refl; good = parts.good; owner = parts.owner; attrs_good = parts.attrs_good; none_added = parts.none_added refl }) k h

text_node : (id : ℕ) (name : Name) (value : List ℕ) (scope : Scope) (attrs : List Label) (kids rest : Forest Label) → AreNodeParts scope (label_of Text id name value) attrs kids rest → IsCutOf scope rest (content_cut scope rest)
    → IsCutOf scope (tree (label_of Text id name value) attrs kids rest) (parts_before (value_parts data_reference value) (content_cut scope rest))
text_node id name value scope attrs kids rest parts h =
    let node = and_parts (has_no_name name) (not (is_empty value)) (good_node (label_of Text id name value) Text refl parts.good) in
    leaf_is scope (label_of Text id name value) attrs kids rest refl refl parts (λ a f. IsCutOf scope (tree (label_of Text id name value) a f rest) (parts_before (value_parts data_reference value) (content_cut scope rest)))
    (subst (λ (n : Name). IsCutOf scope (leaf (label_of Text id n value) rest) (parts_before (value_parts data_reference value) (content_cut scope rest))) (sym (unnamed name node.0))
    (cut_text id value scope rest (content_cut scope rest) (not-true _ node.1) parts.apart h))

comm_node : (id : ℕ) (name : Name) (value : List ℕ) (scope : Scope) (attrs : List Label) (kids rest : Forest Label) → AreNodeParts scope (label_of Comm id name value) attrs kids rest → IsCutOf scope rest (content_cut scope rest)
    → IsCutOf scope (tree (label_of Comm id name value) attrs kids rest) (comm value (content_cut scope rest))
comm_node id name value scope attrs kids rest parts h =
    let node = and_parts (has_no_name name) (is_comment value) (good_node (label_of Comm id name value) Comm refl parts.good) in
    leaf_is scope (label_of Comm id name value) attrs kids rest refl refl parts (λ a f. IsCutOf scope (tree (label_of Comm id name value) a f rest) (comm value (content_cut scope rest)))
    (subst (λ (n : Name). IsCutOf scope (leaf (label_of Comm id n value) rest) (comm value (content_cut scope rest))) (sym (unnamed name node.0))
    (cut_comm id value scope rest (content_cut scope rest) node.1 (not-true _ parts.read) h))

pi_node : (id : ℕ) (name : Name) (value : List ℕ) (scope : Scope) (attrs : List Label) (kids rest : Forest Label) → AreNodeParts scope (label_of Pi id name value) attrs kids rest → IsCutOf scope rest (content_cut scope rest)
    → IsCutOf scope (tree (label_of Pi id name value) attrs kids rest) (pi_cut (written_name name) value (content_cut scope rest))
unfolding written_name
pi_node id name value scope attrs kids rest parts h =
    let node = and_parts (is_target name) (not (has_word (codes "?>") value)) (good_node (label_of Pi id name value) Pi refl parts.good) in
    let target = target_name name node.0 in
    let reads = or_parts (has_return value) (first_is is_space value) (not-true _ parts.read) in
    leaf_is scope (label_of Pi id name value) attrs kids rest refl refl parts (λ a f. IsCutOf scope (tree (label_of Pi id name value) a f rest) (pi_cut (written_name name) value (content_cut scope rest)))
    (subst (λ (n : Name). IsCutOf scope (leaf (label_of Pi id n value) rest) (pi_cut (written_name n) value (content_cut scope rest))) (sym target.is)
    (cut_pi id name.local value scope rest (content_cut scope rest) target.named (not-true _ node.1) reads.0 reads.1 h))

cut_node : (kind : Kind) (id : ℕ) (name : Name) (value : List ℕ) (scope : Scope) (attrs : List Label) (kids rest : Forest Label) → AreNodeParts scope (label_of kind id name value) attrs kids rest
    → IsCutOf (scope_in scope (label_of kind id name value) attrs) kids (content_cut (scope_in scope (label_of kind id name value) attrs) kids) → IsCutOf scope rest (content_cut scope rest)
    → IsCutOf scope (tree (label_of kind id name value) attrs kids rest) (content_cut scope (tree (label_of kind id name value) attrs kids rest))
cut_node Doc id name value scope attrs kids rest parts k h = absurd (false≢true parts.child)
cut_node Elem id name value scope attrs kids rest parts k h = element_node id name value scope attrs kids rest parts k h
cut_node Text id name value scope attrs kids rest parts k h = text_node id name value scope attrs kids rest parts h
cut_node Attr id name value scope attrs kids rest parts k h = absurd (false≢true parts.child)
cut_node Comm id name value scope attrs kids rest parts k h = comm_node id name value scope attrs kids rest parts h
cut_node Pi id name value scope attrs kids rest parts k h = pi_node id name value scope attrs kids rest parts h

pub forest_cut : (scope : Scope) (f : Forest Label) → IsPrintable scope f → IsCutOf scope f (content_cut scope f)
forest_cut scope none h = record { text = refl; good = tt; faultless = λ at. refl; trees = refl; first = λ k. tt }
forest_cut scope (tree label attrs kids rest) h =
    let parts = node_parts scope label attrs kids rest h in
    cut_node label.kind label.id label.name label.value scope attrs kids rest parts (forest_cut (scope_in scope label attrs) kids parts.inner) (forest_cut scope rest parts.after)
