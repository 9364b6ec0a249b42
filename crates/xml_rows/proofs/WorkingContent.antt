-- The pieces of content make the rows of its trees and its first fault.
use Rattle.std.proofs.Common.{◌≡◌, ℕ, ◌+◌, ◌<◌, Bool, true, false, cond, List, [], ◌∷◌, ◌++◌, length, map, Option, None, refl, ap, ◌∙◌, arith, length-append}
use Rattle.std.specs.List.{flat_map}
use Rattle.tree_model.specs.Forest.{Forest, none, tree, join, Line}
use Rattle.tree_model.specs.Labels.{Label, text_label}
use Rattle.tree_model.specs.XmlSource.{part_text, Attr, attr_source, Content, done, element, empty, part, cdata, comm, pi, start_source, close_source, cdata_source, comm_source, pi_source, content_text}
use Rattle.tree_model.specs.XmlMeaning.{Pair, Scope, pair_of, with_attrs, value_in_text, line_ends, tag_label, attr_labels, comm_label, pi_label, is_kept_text, with_gathered, content_trees, Fault, part_faults, attrs_faults, tag_faults, content_faults}
use Rattle.xml_pieces.specs.Tokens.{Token, open_token, go_token, shut_token, close_token, attr_tokens, tokens}
use Rattle.xml_rows.specs.Work.{top, with_leaf, with_tag, or_first, first_of, in_content, in_tag, works, all_works}
use Rattle.xml_rows.proofs.WorkingTrees.{placed, length-placed, placed-join, placed-none, flushed, flushed_placed, behind_text, length-with_tag, tag_placed, element_placed}
use Rattle.xml_rows.proofs.WorkingTags.{works-append, or_none, or_assoc, first-append, made, tag_with, attrs_works}

-- the trees that content adds, and the text that is left at its end
abbrev pub walked : Bool → Scope → List ℕ → Content → Forest Label × List ℕ
walked strip scope gathered done = (none, gathered)
walked strip scope gathered (element name attrs gap inner last more) =
    let pairs = map pair_of attrs in
    let inside = with_attrs pairs scope in
    let rest = walked strip scope [] more in
    (with_gathered strip gathered (tree (tag_label inside name pairs) (attr_labels inside pairs) (content_trees strip inside [] inner) rest.0), rest.1)
walked strip scope gathered (empty name attrs gap more) =
    let pairs = map pair_of attrs in
    let inside = with_attrs pairs scope in
    let rest = walked strip scope [] more in
    (with_gathered strip gathered (tree (tag_label inside name pairs) (attr_labels inside pairs) none rest.0), rest.1)
walked strip scope gathered (part p more) = walked strip scope (gathered ++ value_in_text p) more
walked strip scope gathered (cdata bytes more) = walked strip scope (gathered ++ line_ends bytes) more
walked strip scope gathered (comm bytes more) =
    let rest = walked strip scope [] more in
    (with_gathered strip gathered (tree (comm_label bytes) [] none rest.0), rest.1)
walked strip scope gathered (pi target gap bytes more) =
    let rest = walked strip scope [] more in
    (with_gathered strip gathered (tree (pi_label target bytes) [] none rest.0), rest.1)

join_gathered : (strip : Bool) (gathered : List ℕ) (f g : Forest Label) → join (with_gathered strip gathered f) g ≡ with_gathered strip gathered (join f g)
join_gathered strip gathered f g = by (is_kept_text strip gathered)
  where
    by : (b : Bool) → join (cond b (tree (text_label gathered) [] none f) f) g ≡ cond b (tree (text_label gathered) [] none (join f g)) (join f g)
    by true = refl
    by false = refl

-- with the text that is left they are all its trees
pub walked_all : (strip : Bool) (g : Content) (scope : Scope) (gathered : List ℕ)
    → join (walked strip scope gathered g).0 (with_gathered strip (walked strip scope gathered g).1 none) ≡ content_trees strip scope gathered g
walked_all strip done scope gathered = refl
walked_all strip (element name attrs gap inner last more) scope gathered =
    let inside : Scope = with_attrs (map pair_of attrs) scope in
    let first : Forest Label → Forest Label = tree (tag_label inside name (map pair_of attrs)) (attr_labels inside (map pair_of attrs)) (content_trees strip inside [] inner) in
    join_gathered strip gathered (first (walked strip scope [] more).0) (with_gathered strip (walked strip scope [] more).1 none)
    ∙ ap (λ x. with_gathered strip gathered (first x)) (walked_all strip more scope [])
walked_all strip (empty name attrs gap more) scope gathered =
    let inside : Scope = with_attrs (map pair_of attrs) scope in
    let first : Forest Label → Forest Label = tree (tag_label inside name (map pair_of attrs)) (attr_labels inside (map pair_of attrs)) none in
    join_gathered strip gathered (first (walked strip scope [] more).0) (with_gathered strip (walked strip scope [] more).1 none)
    ∙ ap (λ x. with_gathered strip gathered (first x)) (walked_all strip more scope [])
walked_all strip (part p more) scope gathered = walked_all strip more scope (gathered ++ value_in_text p)
walked_all strip (cdata bytes more) scope gathered = walked_all strip more scope (gathered ++ line_ends bytes)
walked_all strip (comm bytes more) scope gathered =
    join_gathered strip gathered (tree (comm_label bytes) [] none (walked strip scope [] more).0) (with_gathered strip (walked strip scope [] more).1 none)
    ∙ ap (λ x. with_gathered strip gathered (tree (comm_label bytes) [] none x)) (walked_all strip more scope [])
walked_all strip (pi target gap bytes more) scope gathered =
    join_gathered strip gathered (tree (pi_label target bytes) [] none (walked strip scope [] more).0) (with_gathered strip (walked strip scope [] more).1 none)
    ∙ ap (λ x. with_gathered strip gathered (tree (pi_label target bytes) [] none x)) (walked_all strip more scope [])

-- what is claimed of content in an open element
abbrev Makes : Bool → Content → Type 0
Makes strip g = (ls : List (Line Label)) (place : ℕ) (up gathered : List ℕ) (scope : Scope) (outer : List Scope) (at : ℕ) (fault : Option Fault) → place < length ls
    → all_works strip (tokens g) (made ls (place ∷ up) gathered scope outer at fault in_content)
    ≡ made (placed place ls (walked strip scope gathered g).0) (place ∷ up) (walked strip scope gathered g).1 scope outer (at + length (content_text g))
    (or_first fault (first_of (content_faults scope at g))) in_content

-- ---- elements

module _ (strip : Bool) (name : List ℕ) (attrs : List Attr) (gap : List ℕ) (ls : List (Line Label)) (open_at gathered : List ℕ) (scope : Scope) (outer : List Scope) (at : ℕ) (fault : Option Fault) where
  -- the scope in the element, the fault of its tag and the place behind the tag's attributes
  abbrev within : Scope
  within = with_attrs (map pair_of attrs) scope

  abbrev tag_first : Option Fault
  tag_first = or_first (first_of (tag_faults within at name (map pair_of attrs))) (first_of (attrs_faults (at + length (60 ∷ name)) attrs))

  abbrev behind_attrs : ℕ
  behind_attrs = at + length (60 ∷ name) + length (flat_map attr_source attrs)

  abbrev before_tag : List (Line Label)
  before_tag = placed (top open_at) ls (with_gathered strip gathered none)

  abbrev behind_tag : List (Line Label)
  behind_tag = with_tag (tag_label within name (map pair_of attrs)) (attr_labels within (map pair_of attrs)) before_tag open_at

  start_works : (rest : List Token) → all_works strip (open_token name ∷ (attr_tokens attrs ++ go_token gap ∷ rest)) (made ls open_at gathered scope outer at fault in_content)
      ≡ all_works strip rest (made behind_tag (length before_tag ∷ open_at) [] within (scope ∷ outer) (behind_attrs + length (gap ++ 62 ∷ [])) (or_first fault tag_first) in_content)
  unfolding works
  start_works rest =
      let begun : ℕ = at + length (60 ∷ name) in
      ap (λ x. all_works strip (attr_tokens attrs ++ go_token gap ∷ rest) (made x open_at [] scope outer begun fault (in_tag (tag_with name at [] None)))) (flushed_placed strip ls open_at gathered)
      ∙ works-append strip (attr_tokens attrs) (go_token gap ∷ rest) (made before_tag open_at [] scope outer begun fault (in_tag (tag_with name at [] None)))
      ∙ ap (all_works strip (go_token gap ∷ rest)) (attrs_works strip before_tag open_at [] scope outer fault name at attrs [] begun None)

  pub empty_works : (rest : List Token) → all_works strip (open_token name ∷ (attr_tokens attrs ++ shut_token gap ∷ rest)) (made ls open_at gathered scope outer at fault in_content)
      ≡ all_works strip rest (made (placed (top open_at) before_tag (tree (tag_label within name (map pair_of attrs)) (attr_labels within (map pair_of attrs)) none none)) open_at [] scope outer
      (behind_attrs + length (gap ++ 47 ∷ 62 ∷ [])) (or_first fault tag_first) in_content)
  unfolding works
  empty_works rest =
      let begun : ℕ = at + length (60 ∷ name) in
      ap (λ x. all_works strip (attr_tokens attrs ++ shut_token gap ∷ rest) (made x open_at [] scope outer begun fault (in_tag (tag_with name at [] None)))) (flushed_placed strip ls open_at gathered)
      ∙ works-append strip (attr_tokens attrs) (shut_token gap ∷ rest) (made before_tag open_at [] scope outer begun fault (in_tag (tag_with name at [] None)))
      ∙ ap (all_works strip (shut_token gap ∷ rest)) (attrs_works strip before_tag open_at [] scope outer fault name at attrs [] begun None)
      ∙ ap (λ x. all_works strip rest (made x open_at [] scope outer (behind_attrs + length (gap ++ 47 ∷ 62 ∷ [])) (or_first fault tag_first) in_content))
      (tag_placed (tag_label within name (map pair_of attrs)) (attr_labels within (map pair_of attrs)) before_tag open_at)

  -- the place behind the start tag, and the faults from there to the end tag
  abbrev behind_start : ℕ
  behind_start = behind_attrs + length (gap ++ 62 ∷ [])

  pub element_works : (inner : Content) (last : List ℕ) (rest : List Token) → Makes strip inner
      → all_works strip (open_token name ∷ (attr_tokens attrs ++ go_token gap ∷ (tokens inner ++ close_token name last ∷ rest))) (made ls open_at gathered scope outer at fault in_content)
      ≡ all_works strip rest (made (placed (top open_at) before_tag (tree (tag_label within name (map pair_of attrs)) (attr_labels within (map pair_of attrs)) (content_trees strip within [] inner) none)) open_at [] scope outer
      (behind_start + length (content_text inner) + length (close_source name last)) (or_first (or_first fault tag_first) (first_of (content_faults within behind_start inner))) in_content)
  unfolding works
  element_works inner last rest makes =
      let n : ℕ = length before_tag in
      let label : Label = tag_label within name (map pair_of attrs) in
      let own : List Label = attr_labels within (map pair_of attrs) in
      let few : n < length behind_tag = omega (arith, length-with_tag label own before_tag open_at) in
      let kids : Forest Label = (walked strip within [] inner).0 in
      let left : List ℕ = (walked strip within [] inner).1 in
      let fault1 : Option Fault = or_first fault tag_first in
      let fault2 : Option Fault = or_first fault1 (first_of (content_faults within behind_start inner)) in
      let at2 : ℕ = behind_start + length (content_text inner) in
      let grown : List (Line Label) = placed n behind_tag kids in
      let flush : flushed strip grown (n ∷ open_at) left ≡ placed n behind_tag (content_trees strip within [] inner) =
      flushed_placed strip grown (n ∷ open_at) left ∙ placed-join n behind_tag kids (with_gathered strip left none) few ∙ ap (placed n behind_tag) (walked_all strip inner within []) in
      let all : List (Line Label) = flushed strip grown (n ∷ open_at) left in
      start_works (tokens inner ++ close_token name last ∷ rest)
      ∙ works-append strip (tokens inner) (close_token name last ∷ rest) (made behind_tag (n ∷ open_at) [] within (scope ∷ outer) behind_start fault1 in_content)
      ∙ ap (all_works strip (close_token name last ∷ rest)) (makes behind_tag n open_at [] within (scope ∷ outer) behind_start fault1 few)
      ∙ ap (λ x. all_works strip rest (made x open_at [] scope outer (at2 + length (close_source name last)) fault2 in_content))
      (element_placed label own (content_trees strip within [] inner) before_tag open_at all flush)

-- ---- comments and instructions

leaf_works : (strip : Bool) (label : Label) (more : Content) (ls : List (Line Label)) (place : ℕ) (up gathered : List ℕ) (scope : Scope) (outer : List Scope) (at : ℕ) (fault : Option Fault) →
    Makes strip more → place < length ls
    → all_works strip (tokens more) (made (with_leaf label (flushed strip ls (place ∷ up) gathered) (place ∷ up)) (place ∷ up) [] scope outer at fault in_content)
    ≡ made (placed place ls (with_gathered strip gathered (tree label [] none (walked strip scope [] more).0))) (place ∷ up) (walked strip scope [] more).1 scope outer (at + length (content_text more))
    (or_first fault (first_of (content_faults scope at more))) in_content
leaf_works strip label more ls place up gathered scope outer at fault makes h =
    let text : List (Line Label) = placed place ls (with_gathered strip gathered none) in
    let grown : List (Line Label) = placed place text (tree label [] none none) in
    let longer : place < length grown = omega (arith, length-placed place ls (with_gathered strip gathered none), length-placed place text (tree label [] none none)) in
    ap (λ x. all_works strip (tokens more) (made (with_leaf label x (place ∷ up)) (place ∷ up) [] scope outer at fault in_content)) (flushed_placed strip ls (place ∷ up) gathered)
    ∙ makes grown place up [] scope outer at fault longer
    ∙ ap (λ x. made x (place ∷ up) (walked strip scope [] more).1 scope outer (at + length (content_text more)) (or_first fault (first_of (content_faults scope at more))) in_content)
    (behind_text strip place ls gathered label [] none (walked strip scope [] more).0 h)

-- ---- all content

first_four : (f : Option Fault) (a b c d : List Fault) → or_first (or_first (or_first f (or_first (first_of a) (first_of b))) (first_of c)) (first_of d) ≡ or_first f (first_of (a ++ (b ++ (c ++ d))))
first_four f a b c d = simp (or_assoc, first-append)

first_three : (f : Option Fault) (a b d : List Fault) → or_first (or_first f (or_first (first_of a) (first_of b))) (first_of d) ≡ or_first f (first_of (a ++ (b ++ d)))
first_three f a b d = simp (or_assoc, first-append)

pub content_works : (strip : Bool) (g : Content) → Makes strip g
unfolding works
content_works strip done ls place up gathered scope outer at fault h =
    let e1 : at + 0 ≡ at = omega arith in
    let e2 = or_none fault in
    let e3 = placed-none place ls in
    cc
content_works strip (element name attrs gap inner last more) ls place up gathered scope outer at fault h =
    let pairs : List Pair = map pair_of attrs in
    let inside : Scope = with_attrs pairs scope in
    let label : Label = tag_label inside name pairs in
    let own : List Label = attr_labels inside pairs in
    let kids : Forest Label = content_trees strip inside [] inner in
    let rest : Forest Label = (walked strip scope [] more).0 in
    let left : List ℕ = (walked strip scope [] more).1 in
    let text : List (Line Label) = placed place ls (with_gathered strip gathered none) in
    let grown : List (Line Label) = placed place text (tree label own kids none) in
    let longer : place < length grown = omega (arith, length-placed place ls (with_gathered strip gathered none), length-placed place text (tree label own kids none)) in
    let at1 : ℕ = at + length (60 ∷ name) in
    let at2 : ℕ = at1 + length (flat_map attr_source attrs) + length (gap ++ 62 ∷ []) in
    let at3 : ℕ = at2 + length (content_text inner) + length (close_source name last) in
    let bad : List Fault = tag_faults inside at name pairs in
    let fs : List Fault = attrs_faults at1 attrs in
    let inner_fs : List Fault = content_faults inside at2 inner in
    let more_fs : List Fault = content_faults scope at3 more in
    let fault2 : Option Fault = or_first (or_first fault (or_first (first_of bad) (first_of fs))) (first_of inner_fs) in
    let first = element_works strip name attrs gap ls (place ∷ up) gathered scope outer at fault inner last (tokens more) (content_works strip inner) in
    let on = content_works strip more grown place up [] scope outer at3 fault2 longer in
    let e_rows : placed place grown rest ≡ placed place ls (with_gathered strip gathered (tree label own kids rest)) = behind_text strip place ls gathered label own kids rest h in
    let e_start : at + length (start_source name attrs) ≡ at1 + length (flat_map attr_source attrs) = omega (arith, length-append name (flat_map attr_source attrs)) in
    let e_fault : or_first fault2 (first_of more_fs) ≡ or_first fault (first_of (bad ++ (fs ++ (inner_fs ++ more_fs)))) = first_four fault bad fs inner_fs more_fs in
    let e_at : at3 + length (content_text more) ≡ at + length (content_text (element name attrs gap inner last more)) =
    omega (
      arith,
      length-append name (flat_map attr_source attrs),
      length-append (start_source name attrs) ((gap ++ 62 ∷ []) ++ (content_text inner ++ (close_source name last ++ content_text more))),
      length-append (gap ++ 62 ∷ []) (content_text inner ++ (close_source name last ++ content_text more)),
      length-append (content_text inner) (close_source name last ++ content_text more),
      length-append (close_source name last) (content_text more),
    ) in
    first ∙ on ∙ cc
content_works strip (empty name attrs gap more) ls place up gathered scope outer at fault h =
    let pairs : List Pair = map pair_of attrs in
    let inside : Scope = with_attrs pairs scope in
    let label : Label = tag_label inside name pairs in
    let own : List Label = attr_labels inside pairs in
    let rest : Forest Label = (walked strip scope [] more).0 in
    let text : List (Line Label) = placed place ls (with_gathered strip gathered none) in
    let grown : List (Line Label) = placed place text (tree label own none none) in
    let longer : place < length grown = omega (arith, length-placed place ls (with_gathered strip gathered none), length-placed place text (tree label own none none)) in
    let at1 : ℕ = at + length (60 ∷ name) in
    let at2 : ℕ = at1 + length (flat_map attr_source attrs) + length (gap ++ 47 ∷ 62 ∷ []) in
    let bad : List Fault = tag_faults inside at name pairs in
    let fs : List Fault = attrs_faults at1 attrs in
    let more_fs : List Fault = content_faults scope at2 more in
    let fault1 : Option Fault = or_first fault (or_first (first_of bad) (first_of fs)) in
    let first = empty_works strip name attrs gap ls (place ∷ up) gathered scope outer at fault (tokens more) in
    let on = content_works strip more grown place up [] scope outer at2 fault1 longer in
    let e_rows : placed place grown rest ≡ placed place ls (with_gathered strip gathered (tree label own none rest)) = behind_text strip place ls gathered label own none rest h in
    let e_start : at + length (start_source name attrs) ≡ at1 + length (flat_map attr_source attrs) = omega (arith, length-append name (flat_map attr_source attrs)) in
    let e_fault : or_first fault1 (first_of more_fs) ≡ or_first fault (first_of (bad ++ (fs ++ more_fs))) = first_three fault bad fs more_fs in
    let e_at : at2 + length (content_text more) ≡ at + length (content_text (empty name attrs gap more)) =
    omega (
      arith,
      length-append name (flat_map attr_source attrs),
      length-append (start_source name attrs) ((gap ++ 47 ∷ 62 ∷ []) ++ content_text more),
      length-append (gap ++ 47 ∷ 62 ∷ []) (content_text more),
    ) in
    first ∙ on ∙ cc
content_works strip (part p more) ls place up gathered scope outer at fault h =
    let at1 : ℕ = at + length (part_text p) in
    let pf : List Fault = part_faults at p in
    let on = content_works strip more ls place up (gathered ++ value_in_text p) scope outer at1 (or_first fault (first_of pf)) h in
    let e1 = or_assoc fault (first_of pf) (first_of (content_faults scope at1 more)) in
    let e2 = first-append pf (content_faults scope at1 more) in
    let e3 : at1 + length (content_text more) ≡ at + length (part_text p ++ content_text more) = omega (arith, length-append (part_text p) (content_text more)) in
    on ∙ cc
content_works strip (cdata bytes more) ls place up gathered scope outer at fault h =
    let at1 : ℕ = at + length (cdata_source bytes) in
    let on = content_works strip more ls place up (gathered ++ line_ends bytes) scope outer at1 fault h in
    let e3 : at1 + length (content_text more) ≡ at + length (cdata_source bytes ++ content_text more) = omega (arith, length-append (cdata_source bytes) (content_text more)) in
    on ∙ cc
content_works strip (comm bytes more) ls place up gathered scope outer at fault h =
    let at1 : ℕ = at + length (comm_source bytes) in
    let on = leaf_works strip (comm_label bytes) more ls place up gathered scope outer at1 fault (content_works strip more) h in
    let e1 : at1 + length (content_text more) ≡ at + length (comm_source bytes ++ content_text more) = omega (arith, length-append (comm_source bytes) (content_text more)) in
    on ∙ cc
content_works strip (pi target gap bytes more) ls place up gathered scope outer at fault h =
    let at1 : ℕ = at + length (pi_source target gap bytes) in
    let on = leaf_works strip (pi_label target bytes) more ls place up gathered scope outer at1 fault (content_works strip more) h in
    let e1 : at1 + length (content_text more) ≡ at + length (pi_source target gap bytes ++ content_text more) = omega (arith, length-append (pi_source target gap bytes) (content_text more)) in
    on ∙ cc
