-- A printed document is read again: its text is that of a good source, which stands for the document.
use Rattle.std.proofs.Common.{◌≡◌, ℕ, ◌≤◌, ◌^◌, true, false, ◌&&◌, List, [], ◌++◌, length, None, refl, sym, ap, ap₂, ◌∙◌, subst, arith, append-nil}
use Rattle.std.specs.List.{list_all}
use Rattle.std.proofs.lemmas.Bool.{and_parts, false≢true}
use Rattle.tree_model.specs.Forest.{Forest, none, tree, walk, join}
use Rattle.tree_model.specs.Labels.{Label, doc_label, local_name, numbered, with_path}
use Rattle.tree_model.specs.Sound.{has_no_name, is_good_label, is_doc, AllRoots, are_texts_apart, IsSound}
use Rattle.tree_model.specs.XmlSource.{done, content_text, Source, source_text}
use Rattle.tree_model.specs.XmlGood.{AreChars, IsSource}
use Rattle.tree_model.specs.XmlMeaning.{first_scope, content_trees, misc_trees}
use Rattle.tree_model.specs.XmlReads.{ReadsXml, as_tree, SpellsTree}
use Rattle.tree_model.specs.Printing.{trees_text, documents_text}
use Rattle.tree_model.specs.PrintedReads.{is_read_again, AddNone, PrintedReads}
use Rattle.tree_model.specs.declared.row.Kind.{Kind}
use Rattle.tree_model.specs.declared.row.Kind.TheVariants.{Doc, Elem, Text, Attr, Comm, Pi}
use Rattle.tree_model.specs.declared.text.Name.{Name}
use Rattle.tree_model.proofs.Numbering.{count-numbered}
use Rattle.tree_model.proofs.XmlUtf8.{IsTextOfChars}
use Rattle.round_trip.specs.Cut.{content_cut}
use Rattle.round_trip.proofs.Characters.{printed_chars}
use Rattle.round_trip.proofs.Written.{good_node}
use Rattle.round_trip.proofs.Printable.{without_ids, numbered_without, without_joined, IsPrintable, all_cut, roots_child, no_attrs, unnamed}
use Rattle.round_trip.proofs.Contents.{label_of}
use Rattle.round_trip.proofs.CutForests.{forest_cut}
use Rattle.round_trip.proofs.Documents.{bare_misc, bare_trees, bare_cut, root_cut, IsSplit, split_at_root, text_joined}
use Rattle.round_trip.proofs.Heads.{spelled_no_subset, undeclared_no_encoding}

-- ---- the source that the children of a document are cut into

abbrev root_of : {f : Forest Label} → IsSplit first_scope f → Forest Label
root_of s = tree s.label s.attrs s.kids none

abbrev source_of : {f : Forest Label} → IsSplit first_scope f → Source
source_of s = record {
  mark = false;
  decl = None;
  first = content_cut first_scope s.first;
  doctype = None;
  second = done;
  root = content_cut first_scope (root_of s);
  last = content_cut first_scope s.last;
}

-- what is printed before, in and behind the root
three_texts : (f : Forest Label) (s : IsSplit first_scope f) → trees_text first_scope f ≡ trees_text first_scope s.first ++ (trees_text first_scope (root_of s) ++ trees_text first_scope s.last)
three_texts f s =
    ap (trees_text first_scope) s.is ∙ text_joined first_scope s.first (tree s.label s.attrs s.kids s.last)
    ∙ ap (λ (l : List ℕ). trees_text first_scope s.first ++ l) (text_joined first_scope (root_of s) s.last)

source_spells : (f : Forest Label) (s : IsSplit first_scope f) → trees_text first_scope f ≡ source_text (source_of s)
source_spells f s =
    let first = forest_cut first_scope s.first s.first_good in
    let root = forest_cut first_scope (root_of s) s.root_good in
    let last = forest_cut first_scope s.last s.last_good in
    three_texts f s
    ∙ sym (ap₂ (λ (x y : List ℕ). x ++ y) first.text (ap₂ (λ (x y : List ℕ). x ++ y) root.text last.text))
    ∙ ap (λ (x : List ℕ). x ++ (content_text (content_cut first_scope (root_of s)) ++ content_text (content_cut first_scope s.last))) (sym (append-nil (content_text (content_cut first_scope s.first))))

join_none : (f : Forest Label) → join f none ≡ f
join_none none = refl
join_none (tree label attrs kids rest) = ap (λ (r : Forest Label). tree label attrs kids r) (join_none rest)

-- the trees below the document
source_stands : (f : Forest Label) (s : IsSplit first_scope f)
    → misc_trees (content_cut first_scope s.first) (join (content_trees false first_scope [] (content_cut first_scope (root_of s))) (misc_trees (content_cut first_scope s.last) none)) ≡ without_ids f
source_stands f s =
    let first = forest_cut first_scope s.first s.first_good in
    let root = forest_cut first_scope (root_of s) s.root_good in
    let last = forest_cut first_scope s.last s.last_good in
    let behind : misc_trees (content_cut first_scope s.last) none ≡ without_ids s.last =
    bare_trees first_scope (content_cut first_scope s.last) none (bare_cut first_scope s.last s.last_misc) ∙ join_none _ ∙ last.trees in
    bare_trees first_scope (content_cut first_scope s.first) _ (bare_cut first_scope s.first s.first_misc)
    ∙ ap₂ join first.trees (ap₂ join root.trees behind)
    ∙ sym (without_joined s.first (tree s.label s.attrs s.kids s.last))
    ∙ ap without_ids (sym s.is)

is_source : (f : Forest Label) (s : IsSplit first_scope f) → AreChars (source_text (source_of s)) → IsSource (source_of s)
is_source f s chars = record {
  decl = tt;
  first_misc = bare_misc (content_cut first_scope s.first) (bare_cut first_scope s.first s.first_misc);
  first_good = (forest_cut first_scope s.first s.first_good).good;
  doctype = tt;
  second_misc = tt;
  second_good = tt;
  one_root = root_cut first_scope s.label s.attrs s.kids s.root_elem;
  root_good = (forest_cut first_scope (root_of s) s.root_good).good;
  last_misc = bare_misc (content_cut first_scope s.last) (bare_cut first_scope s.last s.last_misc);
  last_good = (forest_cut first_scope s.last s.last_good).good;
  chars = chars;
}

-- ---- the document

abbrev document : ℕ → Name → List ℕ → List Label → Forest Label → Forest Label
document id name value attrs kids = tree (label_of Doc id name value) attrs kids none

document_text : (id : ℕ) (name : Name) (value : List ℕ) (attrs : List Label) (kids : Forest Label) → documents_text (document id name value attrs kids) ≡ trees_text first_scope kids
document_text id name value attrs kids = append-nil (trees_text first_scope kids)

document_children : (id : ℕ) (name : Name) (value : List ℕ) (attrs : List Label) (kids : Forest Label) (next : ℕ) → IsSound (document id name value attrs kids) next → list_all is_read_again (walk kids) ≡ true → AddNone first_scope kids → IsPrintable first_scope kids
document_children id name value attrs kids next sound read none_added =
    let label : Label = label_of Doc id name value in
    let nodes = and_parts (is_good_label label) (list_all is_good_label (attrs ++ (walk kids ++ []))) sound.rules.nodes in
    let below = all_cut is_good_label (walk kids) [] (all_cut is_good_label attrs (walk kids ++ []) nodes.1).1 in
    let texts = and_parts (true && are_texts_apart kids) true sound.rules.texts in
    record {
      sound = record { root_nodes = roots_child label kids sound.rules.places.1; places = sound.rules.places.2; nodes = below.0; texts = texts.0 };
      read = read;
      none_added = none_added;
    }

-- its label and its attributes, without a path
document_is : (id : ℕ) (name : Name) (value : List ℕ) (attrs : List Label) (kids : Forest Label) → has_no_name name ≡ true → attrs ≡ [] → tree (doc_label []) [] (without_ids kids) none ≡ without_ids (with_path [] (document id name value attrs kids))
document_is id name value attrs kids unnamed_so no_attributes =
    ap (λ (a : List Label). without_ids (document 0 (local_name []) [] a kids)) (sym no_attributes)
    ∙ ap (λ (n : Name). without_ids (document 0 n [] attrs kids)) (sym (unnamed name unnamed_so))

document_spelled : (id : ℕ) (name : Name) (value : List ℕ) (attrs : List Label) (kids : Forest Label) (next : ℕ) → IsSound (document id name value attrs kids) next → IsSplit first_scope kids
    → SpellsTree false (documents_text (document id name value attrs kids)) (numbered 0 (with_path [] (document id name value attrs kids)))
document_spelled id name value attrs kids next sound s =
    let f : Forest Label = document id name value attrs kids in
    let is : documents_text f ≡ source_text (source_of s) = document_text id name value attrs kids ∙ source_spells kids s in
    let printed : IsTextOfChars (documents_text f) = printed_chars first_scope f sound.rules.places sound.rules.nodes in
    let node = and_parts (is_good_label (label_of Doc id name value)) (list_all is_good_label (attrs ++ (walk kids ++ []))) sound.rules.nodes in
    let same = document_is id name value attrs kids (good_node (label_of Doc id name value) Doc refl node.0) (no_attrs (label_of Doc id name value) attrs sound.rules.places.0 refl) in
    record {
      source = source_of s;
      spelled = record { good = is_source kids s (subst AreChars is printed.chars); is = is };
      faultless = (forest_cut first_scope (root_of s) s.root_good).faultless _;
      tree_is = sym (numbered_without 0 (with_path [] f)) ∙ ap (numbered 0) (sym same) ∙ ap (λ (g : Forest Label). numbered 0 (tree (doc_label []) [] g none)) (sym (source_stands kids s));
    }

document_read : (id : ℕ) (name : Name) (value : List ℕ) (attrs : List Label) (kids : Forest Label) (next : ℕ) → IsSound (document id name value attrs kids) next → IsSplit first_scope kids → length (documents_text (document id name value attrs kids)) ≤ 2 ^ 26
    → ReadsXml (documents_text (document id name value attrs kids)) false (as_tree (numbered 0 (with_path [] (document id name value attrs kids))))
unfolding document_spelled
document_read id name value attrs kids next sound s short =
    let f : Forest Label = document id name value attrs kids in
    let printed : IsTextOfChars (documents_text f) = printed_chars first_scope f sound.rules.places sound.rules.nodes in
    let spelled = document_spelled id name value attrs kids next sound s in (
      (short, printed.utf8),
      undeclared_no_encoding (documents_text f) spelled.source spelled.spelled refl,
      spelled_no_subset (documents_text f) spelled.source spelled.spelled,
      spelled,
      omega (arith, count-numbered 0 (with_path [] f), sound.few),
    )

doc_kind : (label : Label) → is_doc label ≡ true → label.kind ≡ Doc
doc_kind label h = by label.kind h
  where
    by : (kind : Kind) → is_doc (label_of kind label.id label.name label.value) ≡ true → kind ≡ Doc
    by Doc k = refl
    by Elem k = absurd (false≢true k)
    by Text k = absurd (false≢true k)
    by Attr k = absurd (false≢true k)
    by Comm k = absurd (false≢true k)
    by Pi k = absurd (false≢true k)

pub printed_reads : PrintedReads
printed_reads f next sound one short =
    let roots : AllRoots is_doc (tree one.label one.attrs one.kids none) = subst (AllRoots is_doc) one.is sound.rules.roots in
    let is : f ≡ document one.label.id one.label.name one.label.value one.attrs one.kids = one.is ∙ ap (λ (k : Kind). tree (label_of k one.label.id one.label.name one.label.value) one.attrs one.kids none) (doc_kind one.label roots.0) in
    let sound_so : IsSound (document one.label.id one.label.name one.label.value one.attrs one.kids) next = subst (λ (g : Forest Label). IsSound g next) is sound in
    let printable = document_children one.label.id one.label.name one.label.value one.attrs one.kids next sound_so one.read_again one.none_added in
    subst (λ (g : Forest Label). length (documents_text g) ≤ 2 ^ 26 → ReadsXml (documents_text g) false (as_tree (numbered 0 (with_path [] g)))) (sym is)
    (document_read one.label.id one.label.name one.label.value one.attrs one.kids next sound_so (split_at_root first_scope one.kids printable one.no_text one.one_element)) short
