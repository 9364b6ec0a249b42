-- Documents that keep all rules keep them under other ids.
use Rattle.std.proofs.Common.{◌≡◌, ℕ, ◌+◌, ◌≤◌, ◌^◌, Bool, true, false, not, ◌&&◌, ◌||◌, List, [], ◌∷◌, ◌++◌, length, refl, sym, ap, ◌∙◌, arith}
use Rattle.std.specs.List.{list_all}
use Rattle.std.proofs.lemmas.Bool.{and_parts, and_from, false≢true}
use Rattle.std.proofs.lemmas.List.Folds.{list_all-append}
use Rattle.tree_model.specs.Forest.{Forest, none, tree, walk, count}
use Rattle.tree_model.specs.Labels.{Label, with_id, numbered}
use Rattle.tree_model.specs.Sound.{is_good_label, is_doc, is_elem, is_text, fits, owns, AllRoots, Kept, begins_no_text, are_texts_apart, top_values, is_path, are_distinct, KeepsRules, IsSound}
use Rattle.tree_model.specs.declared.row.Kind.{Kind}
use Rattle.tree_model.specs.declared.row.Kind.TheVariants.{Doc, Elem, Text, Attr, Comm, Pi}
use Rattle.tree_model.proofs.Numbering.{count-numbered, numbered_once, numbered_below}
use Rattle.tree_model.proofs.XmlSoundForests.{is_child, IsSoundForest, sound_numbered, roots_fit}

-- what documents keep but for their ids and paths
record AreDocuments (f : Forest Label) : Type 0 where
  root_nodes : AllRoots is_doc f
  places : Kept fits owns f
  nodes : list_all is_good_label (walk f) ≡ true
  texts : are_texts_apart f ≡ true

child_roots : (parent : Label) (f : Forest Label) → AllRoots (fits parent) f → AllRoots is_child f
child_roots parent none h = tt
child_roots parent (tree label attrs kids rest) h = ((and_parts (is_doc parent || is_elem parent) (is_child label) h.0).1, child_roots parent rest h.1)

-- a document has no attributes
bare : (label : Label) (attrs : List Label) → is_doc label ≡ true → owns label attrs ≡ true → attrs ≡ []
bare label [] d o = refl
bare label (a ∷ attrs) d o = absurd (by label.kind d o)
  where
    by : (k : Kind) → is_doc (record label { kind = k }) ≡ true → owns (record label { kind = k }) (a ∷ attrs) ≡ true → ⊥
    by Doc d o = false≢true o
    by Elem d o = false≢true d
    by Text d o = false≢true d
    by Attr d o = false≢true d
    by Comm d o = false≢true d
    by Pi d o = false≢true d

doc_owns : (label : Label) → is_doc label ≡ true → owns label [] ≡ true
doc_owns label d = by label.kind d
  where
    by : (k : Kind) → is_doc (record label { kind = k }) ≡ true → owns (record label { kind = k }) [] ≡ true
    by Doc d = refl
    by Elem d = absurd (false≢true d)
    by Text d = absurd (false≢true d)
    by Attr d = absurd (false≢true d)
    by Comm d = absurd (false≢true d)
    by Pi d = absurd (false≢true d)

-- a node list with a document before other trees
nodes_parts : (x : Label) (kids rest : List Label) → list_all is_good_label (x ∷ (kids ++ rest)) ≡ true
    → (is_good_label x ≡ true) × (list_all is_good_label kids ≡ true) × (list_all is_good_label rest ≡ true)
nodes_parts x kids rest h =
    let both = and_parts (is_good_label x) (list_all is_good_label (kids ++ rest)) h in
    let split = and_parts (list_all is_good_label kids) (list_all is_good_label rest) (sym (list_all-append is_good_label kids rest) ∙ both.1) in
    (both.0, split.0, split.1)

documents_numbered : (n : ℕ) (f : Forest Label) → AreDocuments f → AreDocuments (numbered n f)
documents_numbered n none h = h
documents_numbered n (tree label (a ∷ attrs) kids rest) h = let e : (a ∷ attrs) ≡ [] = bare label (a ∷ attrs) h.root_nodes.0 h.places.0 in absurd cc
documents_numbered n (tree label [] kids rest) h =
    let nodes = nodes_parts label (walk kids) (walk rest) h.nodes in
    let texts = and_parts ((not (is_text label) || begins_no_text rest) && are_texts_apart kids) (are_texts_apart rest) h.texts in
    let apart = and_parts (not (is_text label) || begins_no_text rest) (are_texts_apart kids) texts.0 in
    let inner : IsSoundForest (numbered (n + (1 + 0)) kids) = sound_numbered (n + (1 + 0)) kids (record { root_nodes = child_roots label kids h.places.1; places = h.places.2; nodes = nodes.1; texts = apart.1 }) in
    let after : AreDocuments (numbered (n + (1 + 0 + count kids)) rest) = documents_numbered (n + (1 + 0 + count kids)) rest (record { root_nodes = h.root_nodes.1; places = h.places.3; nodes = nodes.2; texts = texts.1 }) in
    record {
      root_nodes = (h.root_nodes.0, after.root_nodes);
      places = (doc_owns (with_id n label) h.root_nodes.0, roots_fit (with_id n label) (doc_fits (is_doc label) (is_elem label) h.root_nodes.0) (numbered (n + (1 + 0)) kids) inner.root_nodes, inner.places, after.places);
      nodes =
          and_from (is_good_label label) _ nodes.0
          (list_all-append is_good_label (walk (numbered (n + (1 + 0)) kids)) (walk (numbered (n + (1 + 0 + count kids)) rest)) ∙ and_from _ _ inner.nodes after.nodes);
      texts = and_from _ _ (and_from _ _ (no_text label h.root_nodes.0) inner.texts) after.texts;
    }
  where
    doc_fits : (a b : Bool) → a ≡ true → (a || b) ≡ true
    doc_fits true b h = refl
    doc_fits false b h = absurd (false≢true h)

    by : (k : Kind) (b : Bool) (x : Label) → is_doc (record x { kind = k }) ≡ true → (not (is_text (record x { kind = k })) || b) ≡ true
    by Doc b x d = refl
    by Elem b x d = absurd (false≢true d)
    by Text b x d = absurd (false≢true d)
    by Attr b x d = absurd (false≢true d)
    by Comm b x d = absurd (false≢true d)
    by Pi b x d = absurd (false≢true d)

    no_text : (x : Label) → is_doc x ≡ true → (not (is_text x) || begins_no_text (numbered (n + (1 + 0 + count kids)) rest)) ≡ true
    no_text x d = by x.kind (begins_no_text (numbered (n + (1 + 0 + count kids)) rest)) x d

values_numbered : (n : ℕ) (f : Forest Label) → top_values (numbered n f) ≡ top_values f
values_numbered n none = refl
values_numbered n (tree label attrs kids rest) = ap (λ l. label.value ∷ l) (values_numbered (n + (1 + length attrs + count kids)) rest)

-- with the ids n, n + 1 and so on, up to the next one
pub rules_numbered : (n m next : ℕ) (f : Forest Label) → KeepsRules f m → n + count f ≤ next → KeepsRules (numbered n f) next
rules_numbered n m next f h le =
    let docs = documents_numbered n f (record { root_nodes = h.roots; places = h.places; nodes = h.nodes; texts = h.texts }) in
    record {
      roots = docs.root_nodes;
      places = docs.places;
      nodes = docs.nodes;
      ids_once = λ id. (numbered_once id n f).most;
      ids_below = numbered_below n next f le;
      texts = docs.texts;
      paths = ap (list_all is_path) (values_numbered n f) ∙ h.paths;
      paths_differ = ap are_distinct (values_numbered n f) ∙ h.paths_differ;
    }

pub sound_renumbered : (n m next : ℕ) (f : Forest Label) → KeepsRules f m → n + count f ≤ next → count f ≤ 2 ^ 24 → IsSound (numbered n f) next
sound_renumbered n m next f h le few = record { rules = rules_numbered n m next f h le; few = omega (arith, few, count-numbered n f) }
