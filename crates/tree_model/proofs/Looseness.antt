-- Documents that keep all rules keep those that hold while an update is applied.
use Rattle.std.proofs.Common.{◌≡◌, Bool, true, ◌&&◌, not, List, [], ◌∷◌, ℕ, map, refl}
use Rattle.std.specs.List.{list_all}
use Rattle.std.proofs.lemmas.Bool.{and_parts, and_from}
use Rattle.tree_model.specs.Forest.{Forest, none, tree, walk}
use Rattle.tree_model.specs.Labels.{Label}
use Rattle.tree_model.specs.Sound.{is_good_node, is_good_label, is_loose_node, is_loose_label, are_chars, has_chars, has_no_name, is_empty, fits, owns, bears, is_elem, is_attr, are_distinct_names, binds_well, Kept, SoundIsLoose}
use Rattle.tree_model.specs.declared.row.Kind.{Kind}
use Rattle.tree_model.specs.declared.row.Kind.TheVariants.{Doc, Elem, Text, Attr, Comm, Pi}
use Rattle.tree_model.specs.declared.text.Name.{Name}

loose_node : (kind : Kind) (name : Name) (value : List ℕ) → is_good_node kind name value ≡ true → is_loose_node kind name value ≡ true
loose_node Doc name value h = h
loose_node Elem name value h = h
loose_node Text name value h = (and_parts (has_no_name name) (not (is_empty value)) h).0
loose_node Attr name value h = h
loose_node Comm name value h = h
loose_node Pi name value h = h

loose_label : (label : Label) → is_good_label label ≡ true → is_loose_label label ≡ true
loose_label label h =
    let one = and_parts (is_good_node label.kind label.name label.value && are_chars label.name.uri) (has_chars label.kind label.value) h in
    let two = and_parts (is_good_node label.kind label.name label.value) (are_chars label.name.uri) one.0 in
    and_from (is_loose_node label.kind label.name label.value && are_chars label.name.uri) (has_chars label.kind label.value)
    (and_from (is_loose_node label.kind label.name label.value) (are_chars label.name.uri) (loose_node label.kind label.name label.value two.0) two.1) one.1

loose_labels : (labels : List Label) → list_all is_good_label labels ≡ true → list_all is_loose_label labels ≡ true
loose_labels [] h = refl
loose_labels (label ∷ labels) h =
    let both = and_parts (is_good_label label) (list_all is_good_label labels) h in
    and_from (is_loose_label label) (list_all is_loose_label labels) (loose_label label both.0) (loose_labels labels both.1)

borne : (label : Label) (attrs : List Label) → owns label attrs ≡ true → bears label attrs ≡ true
borne label [] h = refl
borne label (a ∷ attrs) h =
    let names : Bool = are_distinct_names (map (λ (b : Label). b.name) (a ∷ attrs)) in
    let prefixes : Bool = binds_well label (a ∷ attrs) in
    (and_parts (is_elem label && list_all is_attr (a ∷ attrs)) names (and_parts (is_elem label && list_all is_attr (a ∷ attrs) && names) prefixes h).0).0

kept_loosely : (f : Forest Label) → Kept fits owns f → Kept fits bears f
kept_loosely none h = tt
kept_loosely (tree label attrs kids rest) h = (borne label attrs h.0, h.1, kept_loosely kids h.2, kept_loosely rest h.3)

pub sound_loose : SoundIsLoose
sound_loose f next h = record {
  roots = h.rules.roots;
  places = kept_loosely f h.rules.places;
  nodes = loose_labels (walk f) h.rules.nodes;
  ids_once = h.rules.ids_once;
  ids_below = h.rules.ids_below;
  few = h.few;
}
