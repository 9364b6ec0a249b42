-- A tree that XML spells keeps all rules of a database's documents.
use Rattle.std.proofs.Common.{◌≡◌, ℕ, ◌+◌, Bool, true, false, cond, not, ◌&&◌, ◌||◌, List, [], ◌∷◌, ◌++◌, map, length, refl, sym, subst, arith, append-nil}
use Rattle.std.specs.Prelude.{⊤}
use Rattle.std.specs.List.{list_all}
use Rattle.std.specs.Str.{IsUtf8}
use Rattle.std.proofs.lemmas.Bool.{and_from, not_from_false}
use Rattle.tree_model.specs.Forest.{Forest, none, tree, walk, count, join}
use Rattle.tree_model.specs.Labels.{Label, doc_label, text_label, with_id, numbered, with_path}
use Rattle.tree_model.specs.Sound.{is_empty, is_good_label, begins_no_text, is_path, KeepsRules}
use Rattle.tree_model.specs.XmlChars.{is_space}
use Rattle.tree_model.specs.XmlSource.{Part, run, entity, decimal, hexadecimal, part_text, Content, done, element, empty, part, cdata, comm, pi, start_source, close_source, cdata_source, comm_source, pi_source, content_text, Source, before_root, source_text}
use Rattle.tree_model.specs.XmlGood.{IsDataPart, is_pi_target, IsPi, IsGood, IsSource}
use Rattle.tree_model.specs.XmlMeaning.{line_ends, value_in_text, pair_of, Pair, Scope, first_scope, with_attrs, is_bad_tag, attr_labels, tag_label, comm_label, pi_label, with_gathered, content_trees, misc_trees, Fault, bad_namespace, part_faults, attrs_faults, tag_faults, content_faults, source_faults, source_tree}
use Rattle.tree_model.specs.XmlReadsSound.{XmlReadsSound}
use Rattle.tree_model.proofs.Numbering.{count-numbered, numbered_once, numbered_below, with_path-ids, with_path-below}
use Rattle.tree_model.proofs.XmlUtf8.{IsTextOfChars, text_nil, text_append, text_line_ends, text_entity, text_decimal, text_hexadecimal, are_chars_from}
use Rattle.tree_model.proofs.XmlSoundTexts.{IsPartText, HasTexts, path_chars, source_texts}
use Rattle.tree_model.proofs.XmlSoundWords.{no_end_of_pi, no_end_of_comment}
use Rattle.tree_model.proofs.XmlSoundScopes.{IsGoodScope, first_scope_good, are_pairs, tag_owns, written_differ, tag_sound}
use Rattle.tree_model.proofs.XmlSoundForests.{IsSoundForest, IsSoundNode, sound_none, sound_element, sound_leaf, sound_joined, sound_numbered, roots_fit}

-- ---- tags without faults

abbrev HasGoodTags : Scope → Content → Type 0
HasGoodTags scope done = ⊤
HasGoodTags scope (element name attrs gap inner last more) =
    (is_bad_tag (with_attrs (map pair_of attrs) scope) name (map pair_of attrs) ≡ false) × HasGoodTags (with_attrs (map pair_of attrs) scope) inner × HasGoodTags scope more
HasGoodTags scope (empty name attrs gap more) = (is_bad_tag (with_attrs (map pair_of attrs) scope) name (map pair_of attrs) ≡ false) × HasGoodTags scope more
HasGoodTags scope (part p more) = HasGoodTags scope more
HasGoodTags scope (cdata bytes more) = HasGoodTags scope more
HasGoodTags scope (comm bytes more) = HasGoodTags scope more
HasGoodTags scope (pi target gap bytes more) = HasGoodTags scope more

nothing_first : {A : Type 0} (xs ys : List A) → xs ++ ys ≡ [] → xs ≡ []
nothing_first [] ys h = refl
nothing_first (x ∷ xs) ys h = cc

nothing_behind : {A : Type 0} (xs ys : List A) → xs ++ ys ≡ [] → ys ≡ []
nothing_behind [] ys h = h
nothing_behind (x ∷ xs) ys h = cc

no_tag_fault : (inside : Scope) (at : ℕ) (name : List ℕ) (attrs : List Pair) → tag_faults inside at name attrs ≡ [] → is_bad_tag inside name attrs ≡ false
unfolding tag_faults
no_tag_fault inside at name attrs h = by (is_bad_tag inside name attrs) h
  where
    by : (bad : Bool) → cond bad (bad_namespace at ∷ []) [] ≡ [] → bad ≡ false
    by true h = cc
    by false h = refl

-- the faults of an element: of its tag, in its attributes, in its content and behind it
record NoFaults (tag inner more : List Fault) : Type 0 where
  in_tag : tag ≡ []
  in_inner : inner ≡ []
  in_more : more ≡ []

no_faults : (tag attrs inner more : List Fault) → tag ++ (attrs ++ (inner ++ more)) ≡ [] → NoFaults tag inner more
no_faults tag attrs inner more h =
    let behind = nothing_behind attrs (inner ++ more) (nothing_behind tag (attrs ++ (inner ++ more)) h) in
    record { in_tag = nothing_first tag (attrs ++ (inner ++ more)) h; in_inner = nothing_first inner more behind; in_more = nothing_behind inner more behind }

good_tags : (scope : Scope) (at : ℕ) (g : Content) → content_faults scope at g ≡ [] → HasGoodTags scope g
good_tags scope at done h = tt
good_tags scope at (element name attrs gap inner last more) h =
    let pairs : List Pair = map pair_of attrs in
    let inside : Scope = with_attrs pairs scope in
    let within : ℕ = at + length (start_source name attrs) + length (gap ++ 62 ∷ []) in
    let further : ℕ = within + length (content_text inner) + length (close_source name last) in
    let parts = no_faults (tag_faults inside at name pairs) (attrs_faults (at + length (60 ∷ name)) attrs) (content_faults inside within inner) (content_faults scope further more) h in
    (no_tag_fault inside at name pairs parts.in_tag, good_tags inside within inner parts.in_inner, good_tags scope further more parts.in_more)
good_tags scope at (empty name attrs gap more) h =
    let pairs : List Pair = map pair_of attrs in
    let inside : Scope = with_attrs pairs scope in
    let further : ℕ = at + length (start_source name attrs) + length (gap ++ 47 ∷ 62 ∷ []) in
    let parts = no_faults (tag_faults inside at name pairs) (attrs_faults (at + length (60 ∷ name)) attrs) [] (content_faults scope further more) h in
    (no_tag_fault inside at name pairs parts.in_tag, good_tags scope further more parts.in_more)
good_tags scope at (part p more) h = good_tags scope (at + length (part_text p)) more (nothing_behind (part_faults at p) (content_faults scope (at + length (part_text p)) more) h)
good_tags scope at (cdata bytes more) h = good_tags scope (at + length (cdata_source bytes)) more h
good_tags scope at (comm bytes more) h = good_tags scope (at + length (comm_source bytes)) more h
good_tags scope at (pi target gap bytes more) h = good_tags scope (at + length (pi_source target gap bytes)) more h

-- ---- nodes

data_text : (p : Part) → IsDataPart p → IsPartText p → IsTextOfChars (value_in_text p)
data_text (run bytes) h t = text_line_ends bytes t
data_text (entity name) h t = text_entity name h
data_text (decimal digits) h t = text_decimal digits h
data_text (hexadecimal digits) h t = text_hexadecimal digits h

sound_text : (value : List ℕ) → is_empty value ≡ false → IsTextOfChars value → IsSoundNode (text_label value) []
sound_text value some t =
    record { child = refl; owner = refl; good = and_from _ _ (and_from _ _ (not_from_false _ some) (are_chars_from [] text_nil)) (are_chars_from value t); attrs_good = refl }

sound_comm : (bytes : List ℕ) → IsGood (comm bytes done) → IsTextOfChars bytes → IsSoundNode (comm_label bytes) []
sound_comm bytes h t = record {
  child = refl;
  owner = refl;
  good = and_from _ _ (and_from _ _ (not_from_false _ (no_end_of_comment bytes h.0)) (are_chars_from [] text_nil)) (are_chars_from (line_ends bytes) (text_line_ends bytes t));
  attrs_good = refl;
}

sound_pi : (target gap bytes : List ℕ) → IsPi target gap bytes → IsTextOfChars bytes → IsSoundNode (pi_label target bytes) []
unfolding is_pi_target
sound_pi target gap bytes h t = record {
  child = refl;
  owner = refl;
  good = and_from _ _ (and_from _ _ (and_from _ _ h.named (not_from_false _ (no_end_of_pi bytes h.ends))) (are_chars_from [] text_nil)) (are_chars_from (line_ends bytes) (text_line_ends bytes t));
  attrs_good = refl;
}

-- ---- content

-- a text that was gathered before trees that begin with none
sound_gathered : (strip : Bool) (value : List ℕ) (more : Forest Label) → IsTextOfChars value → begins_no_text more ≡ true → IsSoundForest more → IsSoundForest (with_gathered strip value more)
sound_gathered strip value more t b h = by (is_empty value) (strip && list_all is_space value) refl
  where
    by : (none_there dropped : Bool) → is_empty value ≡ none_there → IsSoundForest (cond (not (none_there || dropped)) (tree (text_label value) [] none more) more)
    by true dropped e = h
    by false true e = h
    by false false e = sound_leaf (text_label value) more b (sound_text value e t) h

content_sound : (strip : Bool) (scope : Scope) (gathered : List ℕ) (g : Content) → IsGood g → HasTexts g → HasGoodTags scope g → IsGoodScope scope → IsTextOfChars gathered → IsSoundForest (content_trees strip scope gathered g)
content_sound strip scope gathered done h t f s v = sound_gathered strip gathered none v refl sound_none
content_sound strip scope gathered (element name attrs gap inner last more) h t f s v =
    let pairs : List Pair = map pair_of attrs in
    let inside : Scope = with_attrs pairs scope in
    let tag = tag_sound scope name pairs h.0.named (are_pairs attrs h.0.each t.0) s f.0 in
    let node : IsSoundNode (tag_label inside name pairs) (attr_labels inside pairs) = record { child = refl; owner = tag_owns scope name pairs (are_pairs attrs h.0.each t.0) (written_differ attrs h.0.differ) f.0; good = tag.label_good; attrs_good = tag.attrs_good } in
    let kids = content_sound strip inside [] inner h.1 t.1 f.1 tag.inside_good text_nil in
    let rest = content_sound strip scope [] more h.3 t.2 f.2 s text_nil in
    sound_gathered strip gathered (tree (tag_label inside name pairs) (attr_labels inside pairs) (content_trees strip inside [] inner) (content_trees strip scope [] more)) v refl
    (sound_element (tag_label inside name pairs) (attr_labels inside pairs) (content_trees strip inside [] inner) (content_trees strip scope [] more) refl refl node kids rest)
content_sound strip scope gathered (empty name attrs gap more) h t f s v =
    let pairs : List Pair = map pair_of attrs in
    let inside : Scope = with_attrs pairs scope in
    let tag = tag_sound scope name pairs h.0.named (are_pairs attrs h.0.each t.0) s f.0 in
    let node : IsSoundNode (tag_label inside name pairs) (attr_labels inside pairs) = record { child = refl; owner = tag_owns scope name pairs (are_pairs attrs h.0.each t.0) (written_differ attrs h.0.differ) f.0; good = tag.label_good; attrs_good = tag.attrs_good } in
    let rest = content_sound strip scope [] more h.1 t.1 f.1 s text_nil in
    sound_gathered strip gathered (tree (tag_label inside name pairs) (attr_labels inside pairs) none (content_trees strip scope [] more)) v refl
    (sound_element (tag_label inside name pairs) (attr_labels inside pairs) none (content_trees strip scope [] more) refl refl node sound_none rest)
content_sound strip scope gathered (part p more) h t f s v =
    content_sound strip scope (gathered ++ value_in_text p) more h.2 t.1 f s (text_append gathered (value_in_text p) v (data_text p h.0 t.0))
content_sound strip scope gathered (cdata bytes more) h t f s v =
    content_sound strip scope (gathered ++ line_ends bytes) more h.1 t.1 f s (text_append gathered (line_ends bytes) v (text_line_ends bytes t.0))
content_sound strip scope gathered (comm bytes more) h t f s v =
    let rest = content_sound strip scope [] more h.1 t.1 f s text_nil in
    sound_gathered strip gathered (tree (comm_label bytes) [] none (content_trees strip scope [] more)) v refl (sound_leaf (comm_label bytes) (content_trees strip scope [] more) refl (sound_comm bytes (h.0, tt) t.0) rest)
content_sound strip scope gathered (pi target gap bytes more) h t f s v =
    let rest = content_sound strip scope [] more h.1 t.1 f s text_nil in
    sound_gathered strip gathered (tree (pi_label target bytes) [] none (content_trees strip scope [] more)) v refl (sound_leaf (pi_label target bytes) (content_trees strip scope [] more) refl (sound_pi target gap bytes h.0 t.0) rest)

-- ---- outside the root

misc_sound : (g : Content) (after : Forest Label) → IsGood g → HasTexts g → IsSoundForest after → IsSoundForest (misc_trees g after)
misc_sound done after h t k = k
misc_sound (element name attrs gap inner last more) after h t k = k
misc_sound (empty name attrs gap more) after h t k = k
misc_sound (part p more) after h t k = misc_sound more after h.2 t.1 k
misc_sound (cdata bytes more) after h t k = k
misc_sound (comm bytes more) after h t k = sound_leaf (comm_label bytes) (misc_trees more after) refl (sound_comm bytes (h.0, tt) t.0) (misc_sound more after h.1 t.1 k)
misc_sound (pi target gap bytes more) after h t k = sound_leaf (pi_label target bytes) (misc_trees more after) refl (sound_pi target gap bytes h.0 t.0) (misc_sound more after h.1 t.1 k)

misc_begins : (g : Content) → begins_no_text (misc_trees g none) ≡ true
misc_begins done = refl
misc_begins (element name attrs gap inner last more) = refl
misc_begins (empty name attrs gap more) = refl
misc_begins (part p more) = misc_begins more
misc_begins (cdata bytes more) = refl
misc_begins (comm bytes more) = refl
misc_begins (pi target gap bytes more) = refl

-- ---- the whole

-- the nodes below the document
below : Bool → Source → Forest Label
below strip d = misc_trees d.first (misc_trees d.second (join (content_trees strip first_scope [] d.root) (misc_trees d.last none)))

below_sound : (strip : Bool) (d : Source) → IsSource d → IsUtf8 (source_text d) → source_faults d ≡ [] → IsSoundForest (below strip d)
unfolding below
below_sound strip d h u faultless =
    let texts = source_texts d h u in
    let root = content_sound strip first_scope [] d.root h.root_good texts.root (good_tags first_scope (length (before_root d)) d.root faultless) first_scope_good text_nil in
    let last = misc_sound d.last none h.last_good texts.last sound_none in
    let joined = sound_joined (content_trees strip first_scope [] d.root) (misc_trees d.last none) root (misc_begins d.last) last in
    misc_sound d.first _ h.first_good texts.first (misc_sound d.second _ h.second_good texts.second joined)

document_sound : (path : List ℕ) (f : Forest Label) → IsSoundForest f → is_path path ≡ true → KeepsRules (with_path path (numbered 0 (tree (doc_label []) [] f none))) (count (numbered 0 (tree (doc_label []) [] f none)))
document_sound path f h p =
    let t : Forest Label = tree (doc_label []) [] f none in
    let inner = sound_numbered 1 f h in
    let doc_good : is_good_label (with_id 0 (doc_label path)) ≡ true = and_from _ _ (are_chars_from [] text_nil) (path_chars path p) in
    record {
      roots = (refl, tt);
      places = (refl, roots_fit (with_id 0 (doc_label path)) refl (numbered 1 f) inner.root_nodes, inner.places, tt);
      nodes = and_from _ _ doc_good (nodes_of (numbered 1 f) inner.nodes);
      ids_once = λ id. omega (arith, with_path-ids id path (numbered 0 t), (numbered_once id 0 t).most);
      ids_below = with_path-below (count (numbered 0 t)) path (numbered 0 t) (numbered_below 0 (count (numbered 0 t)) t (omega (arith, count-numbered 0 t)));
      texts = and_from _ _ inner.texts refl;
      paths = and_from _ _ p refl;
      paths_differ = refl;
    }
  where
    nodes_of : (f : Forest Label) → list_all is_good_label (walk f) ≡ true → list_all is_good_label (walk f ++ []) ≡ true
    nodes_of f h = rw (append-nil (walk f)) h

source_sound : (strip : Bool) (path : List ℕ) (d : Source) → IsSource d → IsUtf8 (source_text d) → source_faults d ≡ [] → is_path path ≡ true →
    KeepsRules (with_path path (source_tree strip d)) (count (source_tree strip d))
unfolding below
source_sound strip path d h u faultless p = document_sound path (below strip d) (below_sound strip d h u faultless) p

pub xml_reads_sound : XmlReadsSound
xml_reads_sound strip text path f u s p =
    let spelled : IsUtf8 (source_text s.source) = subst IsUtf8 s.spelled.is u in
    subst (λ (x : Forest Label). KeepsRules (with_path path x) (count x)) (sym s.tree_is) (source_sound strip path s.source s.spelled.good spelled s.faultless p)
