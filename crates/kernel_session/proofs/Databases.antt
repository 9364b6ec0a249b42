-- Databases with one document, and what is read for them.
use Rattle.std.proofs.Common.{◌≡◌, ℕ, suc, ◌+◌, ◌<◌, ◌≤◌, ◌^◌, Bool, true, false, List, [], ◌∷◌, ◌++◌, length, Option, Some, None, Result, Ok, Err, refl, sym, ap, ap₂, ◌∙◌, subst, arith}
use Rattle.std.specs.Prelude.{IfOk}
use Rattle.std.proofs.lemmas.List.{length-map}
use Rattle.tree_model.specs.Forest.{Forest, none, tree, count, join, grove_of}
use Rattle.tree_model.specs.Labels.{Label, doc_label, with_id, numbered_attrs, numbered, with_path}
use Rattle.tree_model.specs.Rows.{line_of, lines_of}
use Rattle.tree_model.specs.Sound.{KeepsRules, IsSound, IsLoose, is_path}
use Rattle.tree_model.specs.States.{new_base}
use Rattle.tree_model.specs.Trees.{flat-length}
use Rattle.tree_model.specs.XmlMeaning.{source_tree, content_trees, misc_trees, first_scope}
use Rattle.tree_model.specs.XmlSource.{Source}
use Rattle.tree_model.specs.XmlReads.{SpellsTree}
use Rattle.tree_model.proofs.Looseness.{sound_loose}
use Rattle.tree_model.proofs.Numbering.{count-numbered}
use Rattle.tree_model.proofs.XmlSoundness.{xml_reads_sound}
use Rattle.doc_import.specs.Imported.{Built, IsBuilt, built_forest}
use Rattle.doc_store.specs.Stored.{Stored, base_of, stored_rows, stored_view, stored_lines, IsKept, Branched, IsEmptyAt, IsBegun, HasGrown, IsCommitted, branch_forest}
use Rattle.node_table.specs.Views.{part_view, view_lines, view_forest}
use Rattle.std.specs.Fmt.{decimal}
use Rattle.tree_model.specs.Forest.{top_count}
use Rattle.tree_model.specs.Printed.{base_text}
use Rattle.std.specs.declared.alloc.AllocError.{AllocError}
use Rattle.outer_io.specs.Files.{FilesSeen}
use Rattle.tree_model.specs.declared.code.Refusal.{Refusal}
use Rattle.commands.specs.Commands.{Input, path_of_input}
use Rattle.kernel_session.specs.Databases.{IsRead, IsOne, IsNew, IsDocument}

-- ---- numbers of nodes

pub built_counted : (built : Built) → IsBuilt built → length built.rows.items ≡ count (built_forest built)
built_counted built h = sym (length-map built.rows.items (line_of built.names built.heap)) ∙ flat-length (view_lines (part_view built)) h.flat

pub kept_counted : (d : Stored) → IsKept d → length (stored_rows d) ≡ count (base_of d).documents
kept_counted d h = sym (length-map (stored_rows d) (line_of d.names d.values)) ∙ flat-length (stored_lines d) h.trees.flat

pub kept_few : (d : Stored) → IsKept d → length (stored_rows d) ≤ 2 ^ 24
kept_few d h = omega (arith, kept_counted d h, h.sound.few)

pub count-with_path : (path : List ℕ) (f : Forest Label) → count (with_path path f) ≡ count f
count-with_path path none = refl
count-with_path path (tree label attrs kids rest) = refl

-- ---- trees that were read are numbered from 0

attrs_again : (n : ℕ) (attrs : List Label) → numbered_attrs n (numbered_attrs n attrs) ≡ numbered_attrs n attrs
attrs_again n [] = refl
attrs_again n (a ∷ attrs) = ap (λ l. with_id n a ∷ l) (attrs_again (suc n) attrs)

length-attrs : (n : ℕ) (attrs : List Label) → length (numbered_attrs n attrs) ≡ length attrs
length-attrs n [] = refl
length-attrs n (a ∷ attrs) = ap suc (length-attrs (suc n) attrs)

numbered_again : (n : ℕ) (f : Forest Label) → numbered n (numbered n f) ≡ numbered n f
numbered_again n none = refl
numbered_again n (tree label attrs kids rest) =
    let own : List Label = numbered_attrs (n + 1) attrs in
    let inner : Forest Label = numbered (n + (1 + length attrs)) kids in
    let after : Forest Label = numbered (n + (1 + length attrs + count kids)) rest in
    let len : length own ≡ length attrs = length-attrs (n + 1) attrs in
    let many : count inner ≡ count kids = count-numbered (n + (1 + length attrs)) kids in
    ap (λ l. tree (with_id n label) l (numbered (n + (1 + length own)) inner) (numbered (n + (1 + length own + count inner)) after)) (attrs_again (n + 1) attrs)
    ∙ ap (λ m. tree (with_id n label) own (numbered (n + (1 + m)) inner) (numbered (n + (1 + m + count inner)) after)) len
    ∙ ap (λ m. tree (with_id n label) own (numbered (n + (1 + length attrs)) inner) (numbered (n + (1 + length attrs + m)) after)) many
    ∙ ap₂ (λ x y. tree (with_id n label) own x y) (numbered_again (n + (1 + length attrs)) kids) (numbered_again (n + (1 + length attrs + count kids)) rest)

numbered_under : (n : ℕ) (path : List ℕ) (f : Forest Label) → numbered n (with_path path f) ≡ with_path path (numbered n f)
numbered_under n path none = refl
numbered_under n path (tree label attrs kids rest) = refl

numbered_source : (strip : Bool) (d : Source) → numbered 0 (source_tree strip d) ≡ source_tree strip d
numbered_source strip d =
    numbered_again 0 (tree (doc_label []) [] (misc_trees d.first (misc_trees d.second (join (content_trees strip first_scope [] d.root) (misc_trees d.last none)))) none)

pub spelled_numbered : (strip : Bool) (text path : List ℕ) (f : Forest Label) → SpellsTree strip text f → numbered 0 (with_path path f) ≡ with_path path f
spelled_numbered strip text path f s =
    numbered_under 0 path f ∙ ap (with_path path) (ap (numbered 0) s.tree_is ∙ numbered_source strip s.source ∙ sym s.tree_is)

-- a document is a node
source_counted : (strip : Bool) (d : Source) → 0 < count (source_tree strip d)
source_counted strip d =
    omega (arith, count-numbered 0 (tree (doc_label []) [] (misc_trees d.first (misc_trees d.second (join (content_trees strip first_scope [] d.root) (misc_trees d.last none)))) none))

-- ---- one document

join-none : {A : Type 0} (f : Forest A) → join f none ≡ f
join-none none = refl
join-none (tree a attrs kids rest) = ap (tree a attrs kids) (join-none rest)

-- what is read, in a database of its own
pub record OneDocument (path : List ℕ) (built : Built) : Type 0 where
  pub same : join none (join (numbered 0 (with_path path (built_forest built))) none) ≡ with_path path (built_forest built)
  pub sound : IsSound (with_path path (built_forest built)) (count (with_path path (built_forest built)))
  pub len : length built.rows.items ≡ count (with_path path (built_forest built))
  pub few : length built.rows.items ≤ 2 ^ 24
  pub some : 0 < length built.rows.items
  pub loose : IsLoose (with_path path (built_forest built)) (length built.rows.items)

pub one_document : (xml : List ℕ) (strip : Bool) (path : List ℕ) (built : Built) → is_path path ≡ true → IsRead xml strip built → OneDocument path built
one_document xml strip path built good r = record {
  same = join-none (numbered 0 (with_path path f)) ∙ spelled_numbered strip xml path f spells;
  sound = sound;
  len = counted;
  few = omega (arith, built_counted built r.rows, r.tree.4);
  some = omega (arith, built_counted built r.rows, ap count spells.tree_is, source_counted strip spells.source);
  loose = subst (λ n. IsLoose (with_path path f) n) (sym counted) (sound_loose (with_path path f) (count (with_path path f)) sound);
}
  where
    sound : IsSound (with_path path (built_forest built)) (count (with_path path (built_forest built)))
    sound = record {
      rules = subst (λ n. KeepsRules (with_path path (built_forest built)) n) (sym (count-with_path path (built_forest built))) (xml_reads_sound strip xml path (built_forest built) r.tree.0.1 r.tree.3 good);
      few = omega (arith, r.tree.4, count-with_path path (built_forest built));
    }

    counted : length built.rows.items ≡ count (with_path path (built_forest built))
    counted = built_counted built r.rows ∙ sym (count-with_path path (built_forest built))

    f : Forest Label
    f = built_forest built

    spells : SpellsTree strip xml f
    spells = r.tree.3

-- the branch that has the document, and the database that it becomes
pub record Filled (name path : List ℕ) (built : Built) (d : Stored) (b : Branched) : Type 0 where
  pub sound : IsSound (branch_forest d b) b.next
  pub one : (new : Stored) → IsCommitted d b new → IsOne name path built new

pub filled : (name path : List ℕ) (built : Built) (empty old new : Stored) (b b' : Branched) → OneDocument path built → IsEmptyAt name 0 empty → IsBegun empty old b → HasGrown empty old
    → ((before after : Forest Label) → branch_forest old b ≡ join before after → count before ≡ 0 → branch_forest new b' ≡ join before (join (numbered b.next (with_path path (built_forest built))) after))
    → b'.next ≡ b.next + length built.rows.items → HasGrown old new → Filled name path built new b'
filled name path built empty old new b b' one start begun grown forest next more = record {
  sound = subst (λ f. IsSound f b'.next) (sym whole) (subst (λ n. IsSound (with_path path (built_forest built)) n) (sym counted) one.sound);
  one = λ last c. record { base = c.base ∙ same; whole = c.whole };
}
  where
    first : b.next ≡ 0
    first = begun.next ∙ start.next_is

    nothing : branch_forest old b ≡ join none none
    nothing = begun.forest ∙ ap (λ rows. grove_of (lines_of empty.names empty.values rows)) start.rows

    whole : branch_forest new b' ≡ with_path path (built_forest built)
    whole = forest none none nothing refl ∙ ap (λ n. join none (join (numbered n (with_path path (built_forest built))) none)) first ∙ one.same

    counted : b'.next ≡ count (with_path path (built_forest built))
    counted = omega (arith, next, first, one.len)

    its_name : new.name ≡ name
    its_name = more.name ∙ grown.name ∙ start.name_is

    same : record (base_of new) { next = b'.next; documents = branch_forest new b' } ≡ new_base name (with_path path (built_forest built))
    same = λ i. record { name = its_name i; next = counted i; documents = whole i; has_text_index = true; has_attribute_index = true }

-- the place of the first document
pub first_place : (name : List ℕ) (empty old : Stored) (b : Branched) → IsEmptyAt name 0 empty → IsBegun empty old b → (before after : Forest Label) × (branch_forest old b ≡ join before after) × (count before ≡ 0)
first_place name empty old b start begun = (none, none, begun.forest ∙ ap (λ rows. grove_of (lines_of empty.names empty.values rows)) start.rows, refl)

-- a database without documents
pub empty_base : (name : List ℕ) (d : Stored) → IsEmptyAt name 0 d → (base_of d ≡ new_base name none) × (d.branched ≡ false)
empty_base name d h =
    let documents : view_forest (stored_view d) ≡ none = ap (λ rows. grove_of (lines_of d.names d.values rows)) h.rows in
    (λ i. record { name = h.name_is i; next = h.next_is i; documents = documents i; has_text_index = true; has_attribute_index = true }, h.whole)

pub empty_made : (r : Result Stored AllocError) (name : List ℕ) → IfOk r (IsEmptyAt name 0) → IfOk r (λ d. (base_of d ≡ new_base name none) × (d.branched ≡ false))
empty_made (Ok d) name h = empty_base name d h
empty_made (Err e) name h = tt

-- ---- lines

-- the line of a database by its name and numbers
pub line_text : (d : Stored) (n len : ℕ) → IsKept d → n ≡ top_count (base_of d).documents → len ≡ length (stored_rows d) → base_text (base_of d) ≡ d.name ++ (32 ∷ (decimal n ++ (32 ∷ decimal len)))
line_text d n len h documents rows =
    ap (λ m. d.name ++ (32 ∷ (decimal m ++ (32 ∷ decimal (count (base_of d).documents))))) (sym documents)
    ∙ ap (λ m. d.name ++ (32 ∷ (decimal n ++ (32 ∷ decimal m)))) (sym (rows ∙ kept_counted d h))

-- ---- new databases

pub new_empty : (r : Result Stored AllocError) (m : Result Stored Refusal) (strip : Bool) (name : List ℕ) (input : Option Input) (s : FilesSeen) → input ≡ None → IfOk m (λ d. r ≡ Ok d)
    → IfOk r (λ d. (base_of d ≡ new_base name none) × (d.branched ≡ false)) → IfOk m (IsNew strip name input s s)
new_empty r (Err refusal) strip name input s e same made = tt
new_empty r (Ok d) strip name None s e same made =
    let told = subst (λ x. IfOk x (λ (d : Stored). (base_of d ≡ new_base name none) × (d.branched ≡ false))) same made in
    record { documents = none; are = (refl, refl); base = told.0; whole = told.1 }
new_empty r (Ok d) strip name (Some input) s e same made = cc

pub new_one : (r : Result Stored AllocError) (m : Result Stored Refusal) (strip : Bool) (name : List ℕ) (given : Option Input) (input : Input) (before now : FilesSeen) (built : Built) → given ≡ Some input
    → IfOk m (λ d. r ≡ Ok d) → IfOk r (IsOne name (path_of_input name input) built) → IsDocument strip input before now built → IfOk m (IsNew strip name given before now)
new_one r (Err refusal) strip name given input before now built e same made document = tt
new_one r (Ok d) strip name given input before now built e same made document =
    let one = subst (λ x. IfOk x (IsOne name (path_of_input name input) built)) same made in
    subst (λ g. IsNew strip name g before now d) (sym e) (record {
      documents = with_path (path_of_input name input) (built_forest built);
      are = (document.bytes, document.given, built_forest built, document.read.tree, refl);
      base = one.base;
      whole = one.whole;
    })
