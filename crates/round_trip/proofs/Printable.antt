-- Trees that are printed so that they are read again: what each of them keeps, and their labels without ids.
use Rattle.std.proofs.Common.{◌≡◌, ℕ, suc, ◌+◌, Bool, true, false, not, ◌&&◌, ◌||◌, List, [], ◌∷◌, ◌++◌, map, length, refl, sym, ap, ap₂, ◌∙◌}
use Rattle.std.specs.List.{list_all}
use Rattle.std.proofs.lemmas.Bool.{and_parts, true≢false}
use Rattle.std.proofs.lemmas.List.{length-map}
use Rattle.std.proofs.lemmas.List.Folds.{list_all-append}
use Rattle.tree_model.specs.Forest.{Forest, none, tree, walk, count, join}
use Rattle.tree_model.specs.Labels.{Label, with_id, local_name, numbered_attrs, numbered}
use Rattle.tree_model.specs.Sound.{is_empty, has_no_name, is_good_label, is_doc, is_elem, is_text, is_attr, fits, owns, are_distinct_names, binds_well, AllRoots, begins_no_text, are_texts_apart}
use Rattle.tree_model.specs.XmlMeaning.{Scope}
use Rattle.tree_model.specs.Printing.{added, scope_in}
use Rattle.tree_model.specs.PrintedReads.{is_read_again, AddNone}
use Rattle.tree_model.specs.declared.text.Name.{Name}
use Rattle.tree_model.proofs.XmlSoundForests.{is_child, IsSoundForest}
use Rattle.round_trip.proofs.Written.{nothing}

-- ---- labels without ids

abbrev pub without_ids : Forest Label → Forest Label
without_ids none = none
without_ids (tree label attrs kids rest) = tree (with_id 0 label) (map (with_id 0) attrs) (without_ids kids) (without_ids rest)

count_without : (f : Forest Label) → count (without_ids f) ≡ count f
count_without none = refl
count_without (tree label attrs kids rest) =
    ap₂ (λ (m n : ℕ). m + n) (ap₂ (λ (m n : ℕ). 1 + m + n) (length-map attrs (with_id 0)) (count_without kids)) (count_without rest)

attrs_numbered : (n : ℕ) (attrs : List Label) → numbered_attrs n (map (with_id 0) attrs) ≡ numbered_attrs n attrs
attrs_numbered n [] = refl
attrs_numbered n (a ∷ attrs) = ap (λ (l : List Label). with_id n a ∷ l) (attrs_numbered (suc n) attrs)

-- they are numbered alike
pub numbered_without : (n : ℕ) (f : Forest Label) → numbered n (without_ids f) ≡ numbered n f
numbered_without n none = refl
numbered_without n (tree label attrs kids rest) =
    rw (
      length-map attrs (with_id 0),
      count_without kids,
      attrs_numbered (n + 1) attrs,
      numbered_without (n + (1 + length attrs)) kids,
      numbered_without (n + (1 + length attrs + count kids)) rest,
    )

pub without_joined : (f g : Forest Label) → without_ids (join f g) ≡ join (without_ids f) (without_ids g)
without_joined none g = refl
without_joined (tree label attrs kids rest) g = ap (λ (r : Forest Label). tree (with_id 0 label) (map (with_id 0) attrs) (without_ids kids) r) (without_joined rest g)

-- ---- trees that are read again

-- where this is in scope about them
pub record IsPrintable (scope : Scope) (f : Forest Label) : Type 0 where
  pub sound : IsSoundForest f
  pub read : list_all is_read_again (walk f) ≡ true
  pub none_added : AddNone scope f

-- the first tree, and what follows it
pub record AreNodeParts (scope : Scope) (label : Label) (attrs : List Label) (kids rest : Forest Label) : Type 0 where
  pub child : is_child label ≡ true
  pub owner : owns label attrs ≡ true
  pub good : is_good_label label ≡ true
  pub attrs_good : list_all is_good_label attrs ≡ true
  pub read : is_read_again label ≡ true
  pub attrs_read : list_all is_read_again attrs ≡ true
  pub none_added : is_elem label ≡ true → added scope label attrs ≡ []
  pub fit : AllRoots (fits label) kids
  pub apart : (not (is_text label) || begins_no_text rest) ≡ true
  pub inner : IsPrintable (scope_in scope label attrs) kids
  pub after : IsPrintable scope rest

pub all_cut : {A : Type 0} (test : A → Bool) (xs ys : List A) → list_all test (xs ++ ys) ≡ true → (list_all test xs ≡ true) × (list_all test ys ≡ true)
all_cut test xs ys h = and_parts (list_all test xs) (list_all test ys) (sym (list_all-append test xs ys) ∙ h)

-- what fits below a node is no document and no attribute
pub roots_child : (parent : Label) (f : Forest Label) → AllRoots (fits parent) f → AllRoots is_child f
roots_child parent none h = tt
roots_child parent (tree label attrs kids rest) h = ((and_parts (is_doc parent || is_elem parent) (is_child label) h.0).1, roots_child parent rest h.1)

pub node_parts : (scope : Scope) (label : Label) (attrs : List Label) (kids rest : Forest Label) → IsPrintable scope (tree label attrs kids rest) → AreNodeParts scope label attrs kids rest
node_parts scope label attrs kids rest h =
    let goods = and_parts (is_good_label label) (list_all is_good_label (attrs ++ (walk kids ++ walk rest))) h.sound.nodes in
    let good_attrs = all_cut is_good_label attrs (walk kids ++ walk rest) goods.1 in
    let good_below = all_cut is_good_label (walk kids) (walk rest) good_attrs.1 in
    let reads = and_parts (is_read_again label) (list_all is_read_again (attrs ++ (walk kids ++ walk rest))) h.read in
    let read_attrs = all_cut is_read_again attrs (walk kids ++ walk rest) reads.1 in
    let read_below = all_cut is_read_again (walk kids) (walk rest) read_attrs.1 in
    let texts = and_parts ((not (is_text label) || begins_no_text rest) && are_texts_apart kids) (are_texts_apart rest) h.sound.texts in
    let first_texts = and_parts (not (is_text label) || begins_no_text rest) (are_texts_apart kids) texts.0 in
    record {
      child = h.sound.root_nodes.0;
      owner = h.sound.places.0;
      good = goods.0;
      attrs_good = good_attrs.0;
      read = reads.0;
      attrs_read = read_attrs.0;
      none_added = h.none_added.0;
      fit = h.sound.places.1;
      apart = first_texts.0;
      inner = record { sound = record { root_nodes = roots_child label kids h.sound.places.1; places = h.sound.places.2; nodes = good_below.0; texts = first_texts.1 }; read = read_below.0; none_added = h.none_added.1 };
      after = record { sound = record { root_nodes = h.sound.root_nodes.1; places = h.sound.places.3; nodes = good_below.1; texts = texts.1 }; read = read_below.1; none_added = h.none_added.2 };
    }

-- ---- nodes that aren't elements

pub no_attrs : (label : Label) (attrs : List Label) → owns label attrs ≡ true → is_elem label ≡ false → attrs ≡ []
no_attrs label [] h e = refl
no_attrs label (a ∷ attrs) h e =
    let last = and_parts (is_elem label && list_all is_attr (a ∷ attrs) && are_distinct_names (map (λ (b : Label). b.name) (a ∷ attrs))) (binds_well label (a ∷ attrs)) h in
    let middle = and_parts (is_elem label && list_all is_attr (a ∷ attrs)) (are_distinct_names (map (λ (b : Label). b.name) (a ∷ attrs))) last.0 in
    absurd (true≢false (sym (and_parts (is_elem label) (list_all is_attr (a ∷ attrs)) middle.0).0 ∙ e))

pub no_kids : (label : Label) (kids : Forest Label) → AllRoots (fits label) kids → (is_doc label || is_elem label) ≡ false → kids ≡ none
no_kids label none h e = refl
no_kids label (tree child attrs kids rest) h e = absurd (true≢false (sym (and_parts (is_doc label || is_elem label) (is_child child) h.0).0 ∙ e))

abbrev pub name_from : List ℕ → List ℕ → List ℕ → Name
name_from uri prefix local = record { uri = uri; prefix = prefix; local = local }

pub unnamed : (name : Name) → has_no_name name ≡ true → name ≡ local_name []
unnamed name h =
    let p = and_parts (is_empty name.uri && is_empty name.prefix) (is_empty name.local) h in
    let q = and_parts (is_empty name.uri) (is_empty name.prefix) p.0 in
    same (nothing name.uri q.0) (nothing name.prefix q.1) (nothing name.local p.1)
  where
    same : {uri prefix local : List ℕ} → name.uri ≡ uri → name.prefix ≡ prefix → name.local ≡ local → name_from name.uri name.prefix name.local ≡ name_from uri prefix local
    same u x l = rw (u, x, l)
