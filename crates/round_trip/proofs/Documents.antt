-- A document with one element and no text among its children: comments and instructions, the element, and comments and instructions again.
use Rattle.std.proofs.Common.{◌≡◌, ℕ, ◌+◌, Bool, true, false, cond, not, List, [], ◌∷◌, ◌++◌, refl, sym, ap, ◌∙◌, arith, append_assoc}
use Rattle.std.specs.Prelude.{⊤}
use Rattle.std.specs.List.{list_all}
use Rattle.std.proofs.lemmas.Bool.{and_from, or_left, true≢false, false≢true}
use Rattle.std.proofs.lemmas.List.Folds.{list_all-append}
use Rattle.tree_model.specs.Forest.{Forest, none, tree, walk, join}
use Rattle.tree_model.specs.Labels.{Label}
use Rattle.tree_model.specs.Sound.{is_good_label, is_elem, is_text, AllRoots, begins_no_text}
use Rattle.tree_model.specs.XmlSource.{Content, done, element, empty, part, cdata, comm, pi}
use Rattle.tree_model.specs.XmlGood.{IsRoot, IsMisc}
use Rattle.tree_model.specs.XmlMeaning.{Scope, comm_label, pi_label, content_trees, misc_trees}
use Rattle.tree_model.specs.Printing.{scope_in, tree_text, has_trees, trees_text}
use Rattle.tree_model.specs.PrintedReads.{is_read_again, is_no_text, element_count}
use Rattle.tree_model.specs.declared.row.Kind.{Kind}
use Rattle.tree_model.specs.declared.row.Kind.TheVariants.{Doc, Elem, Text, Attr, Comm, Pi}
use Rattle.tree_model.specs.declared.text.Name.{Name}
use Rattle.tree_model.proofs.XmlSoundForests.{is_child, sound_none}
use Rattle.round_trip.specs.Cut.{pi_cut, content_cut}
use Rattle.round_trip.proofs.Printable.{IsPrintable, AreNodeParts, node_parts}
use Rattle.round_trip.proofs.Contents.{label_of}

-- ---- comments and instructions

abbrev pub is_misc : Label → Bool
is_misc label = by label.kind
  where
    by : Kind → Bool
    by Doc = false
    by Elem = false
    by Text = false
    by Attr = false
    by Comm = true
    by Pi = true

-- a child that is no element and no text is one of them
misc_kind : (kind : Kind) (id : ℕ) (name : Name) (value : List ℕ) → is_child (label_of kind id name value) ≡ true → is_no_text (label_of kind id name value) ≡ true → is_elem (label_of kind id name value) ≡ false → is_misc (label_of kind id name value) ≡ true
misc_kind Doc id name value c t e = absurd (false≢true c)
misc_kind Elem id name value c t e = absurd (true≢false e)
misc_kind Text id name value c t e = absurd (false≢true t)
misc_kind Attr id name value c t e = absurd (false≢true c)
misc_kind Comm id name value c t e = refl
misc_kind Pi id name value c t e = refl

misc_label : (label : Label) → is_child label ≡ true → is_no_text label ≡ true → is_elem label ≡ false → is_misc label ≡ true
misc_label label c t e = misc_kind label.kind label.id label.name label.value c t e

-- comments and instructions alone, without white space
abbrev pub IsBare : Content → Type 0
IsBare done = ⊤
IsBare (comm bytes more) = IsBare more
IsBare (pi target gap bytes more) = IsBare more
IsBare other = ⊥

pub bare_misc : (g : Content) → IsBare g → IsMisc g
bare_misc done h = tt
bare_misc (element name attrs gap inside last more) h = absurd h
bare_misc (empty name attrs gap more) h = absurd h
bare_misc (part p more) h = absurd h
bare_misc (cdata bytes more) h = absurd h
bare_misc (comm bytes more) h = bare_misc more h
bare_misc (pi target gap bytes more) h = bare_misc more h

-- outside the root they stand for the same trees
pub bare_trees : (scope : Scope) (g : Content) (after : Forest Label) → IsBare g → misc_trees g after ≡ join (content_trees false scope [] g) after
bare_trees scope done after h = refl
bare_trees scope (element name attrs gap inside last more) after h = absurd h
bare_trees scope (empty name attrs gap more) after h = absurd h
bare_trees scope (part p more) after h = absurd h
bare_trees scope (cdata bytes more) after h = absurd h
bare_trees scope (comm bytes more) after h = ap (λ (f : Forest Label). tree (comm_label bytes) [] none f) (bare_trees scope more after h)
bare_trees scope (pi target gap bytes more) after h = ap (λ (f : Forest Label). tree (pi_label target bytes) [] none f) (bare_trees scope more after h)

bare_pi : (target value : List ℕ) (more : Content) → IsBare more → IsBare (pi_cut target value more)
bare_pi target [] more h = h
bare_pi target (c ∷ value) more h = h

bare_node : (kind : Kind) (id : ℕ) (name : Name) (value : List ℕ) (scope : Scope) (attrs : List Label) (kids rest : Forest Label) → is_misc (label_of kind id name value) ≡ true → IsBare (content_cut scope rest)
    → IsBare (content_cut scope (tree (label_of kind id name value) attrs kids rest))
bare_node Doc id name value scope attrs kids rest m h = absurd (false≢true m)
bare_node Elem id name value scope attrs kids rest m h = absurd (false≢true m)
bare_node Text id name value scope attrs kids rest m h = absurd (false≢true m)
bare_node Attr id name value scope attrs kids rest m h = absurd (false≢true m)
bare_node Comm id name value scope attrs kids rest m h = h
bare_node Pi id name value scope attrs kids rest m h = bare_pi _ value (content_cut scope rest) h

pub bare_cut : (scope : Scope) (f : Forest Label) → AllRoots is_misc f → IsBare (content_cut scope f)
bare_cut scope none h = tt
bare_cut scope (tree label attrs kids rest) h = bare_node label.kind label.id label.name label.value scope attrs kids rest h.0 (bare_cut scope rest h.1)

-- ---- the root

root_node : (kind : Kind) (id : ℕ) (name : Name) (value : List ℕ) (scope : Scope) (attrs : List Label) (kids : Forest Label) → is_elem (label_of kind id name value) ≡ true → IsRoot (content_cut scope (tree (label_of kind id name value) attrs kids none))
root_node Doc id name value scope attrs kids e = absurd (false≢true e)
root_node Elem id name value scope attrs none e = tt
root_node Elem id name value scope attrs (tree label_in attrs_in kids_in rest_in) e = tt
root_node Text id name value scope attrs kids e = absurd (false≢true e)
root_node Attr id name value scope attrs kids e = absurd (false≢true e)
root_node Comm id name value scope attrs kids e = absurd (false≢true e)
root_node Pi id name value scope attrs kids e = absurd (false≢true e)

pub root_cut : (scope : Scope) (label : Label) (attrs : List Label) (kids : Forest Label) → is_elem label ≡ true → IsRoot (content_cut scope (tree label attrs kids none))
root_cut scope label attrs kids e = root_node label.kind label.id label.name label.value scope attrs kids e

-- ---- the children of a document

pub record IsSplit (scope : Scope) (f : Forest Label) : Type 0 where
  pub first : Forest Label
  pub label : Label
  pub attrs : List Label
  pub kids : Forest Label
  pub last : Forest Label
  pub is : f ≡ join first (tree label attrs kids last)
  pub first_misc : AllRoots is_misc first
  pub root_elem : is_elem label ≡ true
  pub last_misc : AllRoots is_misc last
  pub first_good : IsPrintable scope first
  pub root_good : IsPrintable scope (tree label attrs kids none)
  pub last_good : IsPrintable scope last

all_joined : {A : Type 0} (test : A → Bool) (xs ys : List A) → list_all test xs ≡ true → list_all test ys ≡ true → list_all test (xs ++ ys) ≡ true
all_joined test xs ys h k = list_all-append test xs ys ∙ and_from _ _ h k

pub printable_none : (scope : Scope) → IsPrintable scope none
printable_none scope = record { sound = sound_none; read = refl; none_added = tt }

-- a node that is no text, before others
printable_with : (scope : Scope) (label : Label) (attrs : List Label) (kids rest other : Forest Label) → AreNodeParts scope label attrs kids rest → is_no_text label ≡ true → IsPrintable scope other → IsPrintable scope (tree label attrs kids other)
printable_with scope label attrs kids rest other p t h = record {
  sound = record {
    root_nodes = (p.child, h.sound.root_nodes);
    places = (p.owner, p.fit, p.inner.sound.places, h.sound.places);
    nodes = and_from _ _ p.good (all_joined is_good_label attrs (walk kids ++ walk other) p.attrs_good (all_joined is_good_label (walk kids) (walk other) p.inner.sound.nodes h.sound.nodes));
    texts = and_from _ _ (and_from _ _ (or_left (not (is_text label)) (begins_no_text other) t) p.inner.sound.texts) h.sound.texts;
  };
  read = and_from _ _ p.read (all_joined is_read_again attrs (walk kids ++ walk other) p.attrs_read (all_joined is_read_again (walk kids) (walk other) p.inner.read h.read));
  none_added = (p.none_added, p.inner.none_added, h.none_added);
}

all_misc : (f : Forest Label) → AllRoots is_child f → AllRoots is_no_text f → element_count f ≡ 0 → AllRoots is_misc f
all_misc none c t e = tt
all_misc (tree label attrs kids rest) c t e = by (is_elem label) refl e (all_misc rest c.1 t.1)
  where
    by : (elem : Bool) → is_elem label ≡ elem → cond elem 1 0 + element_count rest ≡ 0 → (element_count rest ≡ 0 → AllRoots is_misc rest) → (is_misc label ≡ true) × AllRoots is_misc rest
    by true is k more = absurd (omega arith)
    by false is k more = (misc_label label c.0 t.0 is, more (omega arith))

pub split_at_root : (scope : Scope) (f : Forest Label) → IsPrintable scope f → AllRoots is_no_text f → element_count f ≡ 1 → IsSplit scope f
split_at_root scope none h t e = absurd (omega arith)
split_at_root scope (tree label attrs kids rest) h t e =
    let p = node_parts scope label attrs kids rest h in
    by (is_elem label) refl p e (split_at_root scope rest p.after t.1)
  where
    by : (elem : Bool) → is_elem label ≡ elem → AreNodeParts scope label attrs kids rest → cond elem 1 0 + element_count rest ≡ 1 → (element_count rest ≡ 1 → IsSplit scope rest) → IsSplit scope (tree label attrs kids rest)
    by true is p k more = record {
      first = none;
      label = label;
      attrs = attrs;
      kids = kids;
      last = rest;
      is = refl;
      first_misc = tt;
      root_elem = is;
      last_misc = all_misc rest p.after.sound.root_nodes t.1 (omega arith);
      first_good = printable_none scope;
      root_good = printable_with scope label attrs kids rest none p t.0 (printable_none scope);
      last_good = p.after;
    }
    by false is p k more =
        let s = more (omega arith) in
        record {
          first = tree label attrs kids s.first;
          label = s.label;
          attrs = s.attrs;
          kids = s.kids;
          last = s.last;
          is = ap (λ (f : Forest Label). tree label attrs kids f) s.is;
          first_misc = (misc_label label p.child t.0 is, s.first_misc);
          root_elem = s.root_elem;
          last_misc = s.last_misc;
          first_good = printable_with scope label attrs kids rest s.first p t.0 s.first_good;
          root_good = s.root_good;
          last_good = s.last_good;
        }

-- ---- texts of joined trees

pub text_joined : (scope : Scope) (f g : Forest Label) → trees_text scope (join f g) ≡ trees_text scope f ++ trees_text scope g
text_joined scope none g = refl
text_joined scope (tree label attrs kids rest) g =
    let first : List ℕ = tree_text scope label attrs (has_trees kids) (trees_text (scope_in scope label attrs) kids) in
    ap (λ (l : List ℕ). first ++ l) (text_joined scope rest g) ∙ sym (append_assoc first (trees_text scope rest) (trees_text scope g))
