-- The pieces of a good text make exactly the rows of the document's tree and exactly its first fault.
use Rattle.std.proofs.Common.{◌≡◌, ℕ, ◌+◌, ◌<◌, Bool, List, [], ◌∷◌, ◌++◌, length, map, Option, Some, None, refl, sym, ap, ◌∙◌, arith, append-nil, length-append}
use Rattle.std.specs.List.{flat_map}
use Rattle.tree_model.specs.Forest.{Forest, none, tree, join, count, Line, lines, flatten}
use Rattle.tree_model.specs.Trees.{length-lines}
use Rattle.tree_model.specs.Labels.{Label, doc_label, numbered}
use Rattle.tree_model.specs.XmlSource.{run, attr_source, Content, done, element, empty, part, comm, pi, start_source, close_source, comm_source, pi_source, content_text, if_text, Doctype, doctype_text, Source, head_text, before_root, source_text}
use Rattle.tree_model.specs.XmlGood.{IsRoot, IsMisc, IsBehind}
use Rattle.tree_model.specs.XmlMeaning.{Pair, Scope, first_scope, pair_of, with_attrs, comm_label, pi_label, content_trees, misc_trees, source_tree, Fault, part_faults, attrs_faults, tag_faults, content_faults, source_faults}
use Rattle.xml_pieces.specs.Tokens.{Token, tokens}
use Rattle.xml_order.specs.Body.{IsBody, doctype_tokens, body_tokens, body_of}
use Rattle.xml_rows.specs.Work.{leaf, or_first, first_of, in_content, Work, works, all_works, begin_work, finished}
use Rattle.xml_rows.proofs.WorkingTrees.{placed, length-placed, placed-join, placed-none}
use Rattle.xml_rows.proofs.WorkingTags.{works-append, or_none, or_assoc, first-append, made}
use Rattle.xml_rows.proofs.WorkingContent.{content_works, element_works, empty_works}

-- ---- the root

root_works : (strip : Bool) (g : Content) (ls : List (Line Label)) (scope : Scope) (outer : List Scope) (at : ℕ) → IsRoot g
    → all_works strip (tokens g) (made ls [] [] scope outer at None in_content)
    ≡ made (placed 0 ls (content_trees strip scope [] g)) [] [] scope outer (at + length (content_text g)) (first_of (content_faults scope at g)) in_content
root_works strip (element name attrs gap inner last done) ls scope outer at one =
    let pairs : List Pair = map pair_of attrs in
    let inside : Scope = with_attrs pairs scope in
    let at1 : ℕ = at + length (60 ∷ name) in
    let at2 : ℕ = at1 + length (flat_map attr_source attrs) + length (gap ++ 62 ∷ []) in
    let at3 : ℕ = at2 + length (content_text inner) + length (close_source name last) in
    let bad : List Fault = tag_faults inside at name pairs in
    let fs : List Fault = attrs_faults at1 attrs in
    let inner_fs : List Fault = content_faults inside at2 inner in
    let first = element_works strip name attrs gap ls [] [] scope outer at None inner last [] (content_works strip inner) in
    let e_rows = placed-none 0 ls in
    let e_start : at + length (start_source name attrs) ≡ at1 + length (flat_map attr_source attrs) = omega (arith, length-append name (flat_map attr_source attrs)) in
    let e_fault : or_first (or_first (first_of bad) (first_of fs)) (first_of inner_fs) ≡ first_of (bad ++ (fs ++ (inner_fs ++ []))) = simp (or_assoc, first-append, append-nil) in
    let e_at : at3 ≡ at + length (content_text (element name attrs gap inner last done)) =
    omega (
      arith,
      length-append name (flat_map attr_source attrs),
      length-append (start_source name attrs) ((gap ++ 62 ∷ []) ++ (content_text inner ++ (close_source name last ++ []))),
      length-append (gap ++ 62 ∷ []) (content_text inner ++ (close_source name last ++ [])),
      length-append (content_text inner) (close_source name last ++ []),
      length-append {A = ℕ} (close_source name last) [],
    ) in
    first ∙ cc
root_works strip (empty name attrs gap done) ls scope outer at one =
    let pairs : List Pair = map pair_of attrs in
    let inside : Scope = with_attrs pairs scope in
    let at1 : ℕ = at + length (60 ∷ name) in
    let at2 : ℕ = at1 + length (flat_map attr_source attrs) + length (gap ++ 47 ∷ 62 ∷ []) in
    let bad : List Fault = tag_faults inside at name pairs in
    let fs : List Fault = attrs_faults at1 attrs in
    let first = empty_works strip name attrs gap ls [] [] scope outer at None [] in
    let e_rows = placed-none 0 ls in
    let e_fault : or_first (first_of bad) (first_of fs) ≡ first_of (bad ++ (fs ++ [])) = simp (first-append, append-nil) in
    let e_at : at2 ≡ at + length (content_text (empty name attrs gap done)) =
    omega (
      arith,
      length-append name (flat_map attr_source attrs),
      length-append (start_source name attrs) ((gap ++ 47 ∷ 62 ∷ []) ++ []),
      length-append {A = ℕ} (gap ++ 47 ∷ 62 ∷ []) [],
    ) in
    first ∙ cc
root_works strip other ls scope outer at one = absurd one

-- ---- comments, instructions and white space outside the root

misc_join : (g : Content) (f : Forest Label) → misc_trees g f ≡ join (misc_trees g none) f
misc_join (comm bytes more) f = ap (tree (comm_label bytes) [] none) (misc_join more f)
misc_join (pi target gap bytes more) f = ap (tree (pi_label target bytes) [] none) (misc_join more f)
misc_join (part p more) f = misc_join more f
misc_join other f = refl

misc_works : (strip : Bool) (g : Content) (ls : List (Line Label)) (scope : Scope) (outer : List Scope) (at : ℕ) (fault : Option Fault) → IsMisc g → 0 < length ls
    → all_works strip (tokens g) (made ls [] [] scope outer at fault in_content) ≡ made (placed 0 ls (misc_trees g none)) [] [] scope outer (at + length (content_text g)) fault in_content
unfolding works part_faults
misc_works strip done ls scope outer at fault misc h =
    let e1 : at + 0 ≡ at = omega arith in
    let e2 = placed-none 0 ls in
    cc
misc_works strip (part (run bytes) more) ls scope outer at fault misc h =
    let at1 : ℕ = at + length bytes in
    let on = misc_works strip more ls scope outer at1 fault misc.1 h in
    let e1 = or_none fault in
    let e2 : at1 + length (content_text more) ≡ at + length (bytes ++ content_text more) = omega (arith, length-append bytes (content_text more)) in
    ap (λ x. all_works strip (tokens more) (made ls [] [] scope outer at1 x in_content)) (or_none fault) ∙ on ∙ cc
misc_works strip (comm bytes more) ls scope outer at fault misc h =
    let at1 : ℕ = at + length (comm_source bytes) in
    let one : Forest Label = tree (comm_label bytes) [] none none in
    let on = misc_works strip more (placed 0 ls one) scope outer at1 fault misc (omega (arith, length-placed 0 ls one)) in
    let e1 = placed-join 0 ls one (misc_trees more none) h in
    let e2 : at1 + length (content_text more) ≡ at + length (comm_source bytes ++ content_text more) = omega (arith, length-append (comm_source bytes) (content_text more)) in
    on ∙ cc
misc_works strip (pi target gap bytes more) ls scope outer at fault misc h =
    let at1 : ℕ = at + length (pi_source target gap bytes) in
    let one : Forest Label = tree (pi_label target bytes) [] none none in
    let on = misc_works strip more (placed 0 ls one) scope outer at1 fault misc (omega (arith, length-placed 0 ls one)) in
    let e1 = placed-join 0 ls one (misc_trees more none) h in
    let e2 : at1 + length (content_text more) ≡ at + length (pi_source target gap bytes ++ content_text more) = omega (arith, length-append (pi_source target gap bytes) (content_text more)) in
    on ∙ cc
misc_works strip other ls scope outer at fault misc h = absurd misc

doctype_works : (strip : Bool) (t : Option Doctype) (ls : List (Line Label)) (scope : Scope) (outer : List Scope) (at : ℕ) (fault : Option Fault)
    → all_works strip (doctype_tokens t) (made ls [] [] scope outer at fault in_content) ≡ made ls [] [] scope outer (at + length (if_text doctype_text t)) fault in_content
unfolding works
doctype_works strip None ls scope outer at fault = ap (λ n. made ls [] [] scope outer n fault in_content) (let e : at ≡ at + 0 = omega arith in e)
doctype_works strip (Some t) ls scope outer at fault = refl

behind_misc : (t : Option Doctype) (g : Content) → IsBehind t g → IsMisc g
behind_misc None done h = h
behind_misc None more h = absurd h
behind_misc (Some t) g h = h

-- ---- a whole text

-- the trees below the document
abbrev pub trees_below : Bool → Source → Forest Label
trees_below strip d = misc_trees d.first (misc_trees d.second (join (content_trees strip first_scope [] d.root) (misc_trees d.last none)))

-- the state behind the last piece
abbrev pub body_end : Bool → Source → Work
body_end strip d = made (placed 0 (leaf 0 0 (doc_label []) ∷ []) (trees_below strip d)) [] [] first_scope [] (length (source_text d)) (first_of (source_faults d)) in_content

pub body_works : (strip : Bool) (d : Source) → IsBody (body_of d) → all_works strip (body_tokens (body_of d)) (begin_work (length (head_text d))) ≡ body_end strip d
body_works strip d is =
    let rows0 : List (Line Label) = leaf 0 0 (doc_label []) ∷ [] in
    let trees1 : Forest Label = misc_trees d.first none in
    let trees2 : Forest Label = misc_trees d.second none in
    let trees3 : Forest Label = content_trees strip first_scope [] d.root in
    let trees4 : Forest Label = misc_trees d.last none in
    let rows1 : List (Line Label) = placed 0 rows0 trees1 in
    let rows2 : List (Line Label) = placed 0 rows1 trees2 in
    let rows3 : List (Line Label) = placed 0 rows2 trees3 in
    let long1 : 0 < length rows1 = omega (arith, length-placed 0 rows0 trees1) in
    let long2 : 0 < length rows2 = omega (arith, length-placed 0 rows1 trees2) in
    let long3 : 0 < length rows3 = omega (arith, length-placed 0 rows2 trees3) in
    let at0 : ℕ = length (head_text d) in
    let at1 : ℕ = at0 + length (content_text d.first) in
    let at2 : ℕ = at1 + length (if_text doctype_text d.doctype) in
    let at3 : ℕ = at2 + length (content_text d.second) in
    let at4 : ℕ = at3 + length (content_text d.root) in
    let ts4 : List Token = tokens d.last in
    let ts3 : List Token = tokens d.root ++ ts4 in
    let ts2 : List Token = tokens d.second ++ ts3 in
    let ts1 : List Token = doctype_tokens d.doctype ++ ts2 in
    let fault : Option Fault = first_of (content_faults first_scope at3 d.root) in
    let w : List (Line Label) → ℕ → Option Fault → Work = λ rows at fault. made rows [] [] first_scope [] at fault in_content in
    let e_at : at3 ≡ length (before_root d) =
    omega (
      arith,
      length-append (head_text d) (content_text d.first ++ (if_text doctype_text d.doctype ++ content_text d.second)),
      length-append (content_text d.first) (if_text doctype_text d.doctype ++ content_text d.second),
      length-append (if_text doctype_text d.doctype) (content_text d.second),
    ) in
    let e_end : at4 + length (content_text d.last) ≡ length (source_text d) =
    omega (arith, e_at, length-append (before_root d) (content_text d.root ++ content_text d.last), length-append (content_text d.root) (content_text d.last)) in
    let e_rows : placed 0 rows3 trees4 ≡ placed 0 rows0 (trees_below strip d) =
    placed-join 0 rows2 trees3 trees4 long2
    ∙ placed-join 0 rows1 trees2 (join trees3 trees4) long1
    ∙ ap (placed 0 rows1) (sym (misc_join d.second (join trees3 trees4)))
    ∙ placed-join 0 rows0 trees1 (misc_trees d.second (join trees3 trees4)) (omega arith)
    ∙ ap (placed 0 rows0) (sym (misc_join d.first (misc_trees d.second (join trees3 trees4)))) in
    works-append strip (tokens d.first) ts1 (w rows0 at0 None)
    ∙ ap (all_works strip ts1) (misc_works strip d.first rows0 first_scope [] at0 None is.first_misc (omega arith))
    ∙ works-append strip (doctype_tokens d.doctype) ts2 (w rows1 at1 None)
    ∙ ap (all_works strip ts2) (doctype_works strip d.doctype rows1 first_scope [] at1 None)
    ∙ works-append strip (tokens d.second) ts3 (w rows1 at2 None)
    ∙ ap (all_works strip ts3) (misc_works strip d.second rows1 first_scope [] at2 None (behind_misc d.doctype d.second is.second_misc) long1)
    ∙ works-append strip (tokens d.root) ts4 (w rows2 at3 None)
    ∙ ap (all_works strip ts4) (root_works strip d.root rows2 first_scope [] at3 is.one_root)
    ∙ misc_works strip d.last rows3 first_scope [] at4 fault is.last_misc long3
    ∙ ap (λ x. w x (at4 + length (content_text d.last)) fault) e_rows
    ∙ ap (λ n. w (placed 0 rows0 (trees_below strip d)) n fault) e_end
    ∙ ap (λ n. w (placed 0 rows0 (trees_below strip d)) (length (source_text d)) (first_of (content_faults first_scope n d.root))) e_at

-- with the document's size the rows are those of its tree
finished_end : (strip : Bool) (d : Source) → finished (body_end strip d) ≡ flatten (source_tree strip d)
finished_end strip d =
    let below : Forest Label = numbered 1 (trees_below strip d) in
    ap (λ n. record (leaf 0 0 (doc_label [])) { size = n } ∷ lines 1 below) (omega (arith, length-lines 1 below))
    ∙ ap (λ l. record (leaf 0 0 (doc_label [])) { size = 1 + count below } ∷ l) (sym (append-nil (lines 1 below)))

module _ (strip : Bool) (d : Source) (w : Work) (is : IsBody (body_of d)) (made_by : all_works strip (body_tokens (body_of d)) (begin_work (length (head_text d))) ≡ w) where
  at_end : w ≡ body_end strip d
  at_end = sym made_by ∙ body_works strip d is

  pub body_lines : finished w ≡ flatten (source_tree strip d)
  body_lines = ap finished at_end ∙ finished_end strip d

  pub body_fault : w.fault ≡ first_of (source_faults d)
  body_fault = ap (λ (x : Work). x.fault) at_end

  pub body_gathered : w.gathered ≡ []
  body_gathered = ap (λ (x : Work). x.gathered) at_end

  pub body_open_at : w.open_at ≡ []
  body_open_at = ap (λ (x : Work). x.open_at) at_end

  pub body_mode : w.mode ≡ in_content
  body_mode = ap (λ (x : Work). x.mode) at_end

  pub body_length : w.at ≡ length (source_text d)
  body_length = ap (λ (x : Work). x.at) at_end
