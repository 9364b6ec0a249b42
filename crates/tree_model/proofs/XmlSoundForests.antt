-- Trees that keep the rules of children, names, values and texts: one by one, joined, and numbered.
use Rattle.std.proofs.Common.{◌≡◌, ℕ, suc, ◌+◌, Bool, true, false, not, ◌&&◌, ◌||◌, List, [], ◌∷◌, ◌++◌, map, length, refl, sym, ap, ap₂, ◌∙◌, append_assoc}
use Rattle.std.specs.Prelude.{filter}
use Rattle.std.specs.List.{list_all}
use Rattle.std.proofs.lemmas.Bool.{and_parts, and_from, or_left}
use Rattle.std.proofs.lemmas.List.Folds.{list_all-append}
use Rattle.tree_model.specs.Declarations.{Binding, declarations_of}
use Rattle.tree_model.specs.Forest.{Forest, none, tree, walk, count, join}
use Rattle.tree_model.specs.Labels.{Label, with_id, numbered_attrs, numbered}
use Rattle.tree_model.specs.Sound.{is_empty, are_distinct_names, is_good_label, is_doc, is_elem, is_text, is_attr, fits, binding_of, are_distinct, have_one_uri, binds_well, owns, AllRoots, Kept, begins_no_text, are_texts_apart}
use Rattle.tree_model.specs.declared.text.Name.{Name}

-- a node that may be a child
abbrev pub is_child : Label → Bool
is_child label = not (is_doc label || is_attr label)

pub record IsSoundForest (f : Forest Label) : Type 0 where
  pub root_nodes : AllRoots is_child f
  pub places : Kept fits owns f
  pub nodes : list_all is_good_label (walk f) ≡ true
  pub texts : are_texts_apart f ≡ true

pub sound_none : IsSoundForest none
sound_none = record { root_nodes = tt; places = tt; nodes = refl; texts = refl }

all_joined : {A : Type 0} (test : A → Bool) (xs ys : List A) → list_all test xs ≡ true → list_all test ys ≡ true → list_all test (xs ++ ys) ≡ true
all_joined test xs ys h k = list_all-append test xs ys ∙ and_from _ _ h k

pub roots_fit : (parent : Label) → (is_doc parent || is_elem parent) ≡ true → (f : Forest Label) → AllRoots is_child f → AllRoots (fits parent) f
roots_fit parent h none t = tt
roots_fit parent h (tree label attrs kids rest) t = (and_from _ _ h t.0, roots_fit parent h rest t.1)

-- a node by itself, with its attributes
pub record IsSoundNode (label : Label) (attrs : List Label) : Type 0 where
  pub child : is_child label ≡ true
  pub owner : owns label attrs ≡ true
  pub good : is_good_label label ≡ true
  pub attrs_good : list_all is_good_label attrs ≡ true

sound_with : (label : Label) (attrs : List Label) (kids rest : Forest Label) → AllRoots (fits label) kids → (not (is_text label) || begins_no_text rest) ≡ true →
    IsSoundNode label attrs → IsSoundForest kids → IsSoundForest rest → IsSoundForest (tree label attrs kids rest)
sound_with label attrs kids rest fit apart node inner after = record {
  root_nodes = (node.child, after.root_nodes);
  places = (node.owner, fit, inner.places, after.places);
  nodes = and_from _ _ node.good (all_joined is_good_label attrs (walk kids ++ walk rest) node.attrs_good (all_joined is_good_label (walk kids) (walk rest) inner.nodes after.nodes));
  texts = and_from _ _ (and_from _ _ apart inner.texts) after.texts;
}

-- an element before others
pub sound_element : (label : Label) (attrs : List Label) (kids rest : Forest Label) → is_elem label ≡ true → is_text label ≡ false → IsSoundNode label attrs → IsSoundForest kids → IsSoundForest rest → IsSoundForest (tree label attrs kids rest)
sound_element label attrs kids rest e t node inner after =
    sound_with label attrs kids rest (roots_fit label (elem_fits (is_doc label) (is_elem label) e) kids inner.root_nodes) (no_text (is_text label) (begins_no_text rest) t) node inner after
  where
    elem_fits : (a b : Bool) → b ≡ true → (a || b) ≡ true
    elem_fits true b h = refl
    elem_fits false b h = h

    no_text : (a b : Bool) → a ≡ false → (not a || b) ≡ true
    no_text a b h = or_left _ _ (ap not h)

-- a node without children before others
pub sound_leaf : (label : Label) (rest : Forest Label) → (not (is_text label) || begins_no_text rest) ≡ true → IsSoundNode label [] → IsSoundForest rest → IsSoundForest (tree label [] none rest)
sound_leaf label rest apart node after = sound_with label [] none rest tt apart node sound_none after

-- ---- joined

roots_joined : (f g : Forest Label) → AllRoots is_child f → AllRoots is_child g → AllRoots is_child (join f g)
roots_joined none g h k = k
roots_joined (tree label attrs kids rest) g h k = (h.0, roots_joined rest g h.1 k)

places_joined : (f g : Forest Label) → Kept fits owns f → Kept fits owns g → Kept fits owns (join f g)
places_joined none g h k = k
places_joined (tree label attrs kids rest) g h k = (h.0, h.1, h.2, places_joined rest g h.3 k)

walk_joined : (f g : Forest Label) → walk (join f g) ≡ walk f ++ walk g
walk_joined none g = refl
walk_joined (tree label attrs kids rest) g = simp (append_assoc, walk_joined rest g)

begins_joined : (f g : Forest Label) → begins_no_text f ≡ true → begins_no_text g ≡ true → begins_no_text (join f g) ≡ true
begins_joined none g h k = k
begins_joined (tree label attrs kids rest) g h k = h

texts_joined : (f g : Forest Label) → are_texts_apart f ≡ true → begins_no_text g ≡ true → are_texts_apart g ≡ true → are_texts_apart (join f g) ≡ true
texts_joined none g h b k = k
texts_joined (tree label attrs kids rest) g h b k =
    let p = and_parts _ (are_texts_apart rest) h in
    let q = and_parts (not (is_text label) || begins_no_text rest) (are_texts_apart kids) p.0 in
    and_from _ _ (and_from _ _ (by (is_text label) q.0 (λ e. begins_joined rest g e b)) q.1) (texts_joined rest g p.1 b k)
  where
    by : (is : Bool) → (not is || begins_no_text rest) ≡ true → (begins_no_text rest ≡ true → begins_no_text (join rest g) ≡ true) → (not is || begins_no_text (join rest g)) ≡ true
    by true e more = more e
    by false e more = refl

pub sound_joined : (f g : Forest Label) → IsSoundForest f → begins_no_text g ≡ true → IsSoundForest g → IsSoundForest (join f g)
sound_joined f g h b k = record {
  root_nodes = roots_joined f g h.root_nodes k.root_nodes;
  places = places_joined f g h.places k.places;
  nodes = ap (list_all is_good_label) (walk_joined f g) ∙ all_joined is_good_label (walk f) (walk g) h.nodes k.nodes;
  texts = texts_joined f g h.texts b k.texts;
}

-- ---- numbered

names_numbered : (n : ℕ) (attrs : List Label) → map (λ (b : Label). b.name) (numbered_attrs n attrs) ≡ map (λ (b : Label). b.name) attrs
names_numbered n [] = refl
names_numbered n (a ∷ attrs) = ap (λ (names : List Name). a.name ∷ names) (names_numbered (suc n) attrs)

attrs_numbered : (n : ℕ) (attrs : List Label) → list_all is_attr (numbered_attrs n attrs) ≡ list_all is_attr attrs
attrs_numbered n [] = refl
attrs_numbered n (a ∷ attrs) = ap (λ t. is_attr a && t) (attrs_numbered (suc n) attrs)

good_attrs_numbered : (n : ℕ) (attrs : List Label) → list_all is_good_label (numbered_attrs n attrs) ≡ list_all is_good_label attrs
good_attrs_numbered n [] = refl
good_attrs_numbered n (a ∷ attrs) = ap (λ t. is_good_label a && t) (good_attrs_numbered (suc n) attrs)

owns_numbered : (m n : ℕ) (label : Label) (attrs : List Label) → owns (with_id m label) (numbered_attrs n attrs) ≡ owns label attrs
unfolding binds_well
owns_numbered m n label [] = refl
owns_numbered m n label (a ∷ attrs) =
    ap₂ (λ (each : Bool) (names : List Name). is_elem label && each && are_distinct_names names
    && (are_distinct (map (λ (d : Binding). d.0) (declarations_of label.value)) && have_one_uri (declarations_of label.value ++ map binding_of (label.name ∷ filter (λ (name : Name). not (is_empty name.prefix)) names))))
    (attrs_numbered n (a ∷ attrs)) (names_numbered n (a ∷ attrs))

roots_numbered : (test : Label → Bool) → ((m : ℕ) (label : Label) → test label ≡ true → test (with_id m label) ≡ true) → (n : ℕ) (f : Forest Label) → AllRoots test f → AllRoots test (numbered n f)
roots_numbered test same n none h = tt
roots_numbered test same n (tree label attrs kids rest) h = (same n label h.0, roots_numbered test same (n + (1 + length attrs + count kids)) rest h.1)

places_numbered : (n : ℕ) (f : Forest Label) → Kept fits owns f → Kept fits owns (numbered n f)
places_numbered n none h = tt
places_numbered n (tree label attrs kids rest) h = (
  owns_numbered n (n + 1) label attrs ∙ h.0,
  roots_numbered (fits label) (λ m child k. k) (n + (1 + length attrs)) kids h.1,
  places_numbered (n + (1 + length attrs)) kids h.2,
  places_numbered (n + (1 + length attrs + count kids)) rest h.3,
)

nodes_numbered : (n : ℕ) (f : Forest Label) → list_all is_good_label (walk (numbered n f)) ≡ list_all is_good_label (walk f)
nodes_numbered n none = refl
nodes_numbered n (tree label attrs kids rest) =
    let inner : List Label = walk (numbered (n + (1 + length attrs)) kids) in
    let after : List Label = walk (numbered (n + (1 + length attrs + count kids)) rest) in
    ap (λ t. is_good_label label && t) (
    list_all-append is_good_label (numbered_attrs (n + 1) attrs) (inner ++ after)
    ∙ ap₂ ◌&&◌ (good_attrs_numbered (n + 1) attrs) (list_all-append is_good_label inner after ∙ ap₂ ◌&&◌ (nodes_numbered (n + (1 + length attrs)) kids) (nodes_numbered (n + (1 + length attrs + count kids)) rest) ∙ sym (list_all-append is_good_label (walk kids) (walk rest)))
    ∙ sym (list_all-append is_good_label attrs (walk kids ++ walk rest))
    )

begins_numbered : (n : ℕ) (f : Forest Label) → begins_no_text (numbered n f) ≡ begins_no_text f
begins_numbered n none = refl
begins_numbered n (tree label attrs kids rest) = refl

texts_numbered : (n : ℕ) (f : Forest Label) → are_texts_apart (numbered n f) ≡ are_texts_apart f
texts_numbered n none = refl
texts_numbered n (tree label attrs kids rest) =
    ap₂ ◌&&◌ (ap₂ ◌&&◌ (ap (λ t. not (is_text label) || t) (begins_numbered (n + (1 + length attrs + count kids)) rest)) (texts_numbered (n + (1 + length attrs)) kids)) (texts_numbered (n + (1 + length attrs + count kids)) rest)

pub sound_numbered : (n : ℕ) (f : Forest Label) → IsSoundForest f → IsSoundForest (numbered n f)
sound_numbered n f h = record {
  root_nodes = roots_numbered is_child (λ m label k. k) n f h.root_nodes;
  places = places_numbered n f h.places;
  nodes = nodes_numbered n f ∙ h.nodes;
  texts = texts_numbered n f ∙ h.texts;
}
