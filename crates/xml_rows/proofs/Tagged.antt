-- The rows of a whole tag.
use Rattle.std.proofs.Common.{◌≡◌, ℕ, suc, ◌+◌, ◌-◌, ◌≤◌, Bool, true, false, List, [], ◌∷◌, ◌++◌, length, ◌||◌, sym, ap, ◌∙◌, arith, append_assoc, length-append}
use Rattle.std.specs.Prelude.{if◌then◌else◌}
use Rattle.std.specs.Option.{is_none}
use Rattle.std.proofs.lemmas.List.{length-map}
use Rattle.tree_model.specs.Forest.{Line, attr_lines}
use Rattle.tree_model.specs.Labels.{Label, numbered_attrs}
use Rattle.tree_model.specs.XmlMeaning.{Pair, Scope, is_declaration, plain_attrs, element_uri, has_bad_binding, has_unbound, has_twice, is_bad_tag, element_name, tag_label, attr_label, attr_labels}
use Rattle.tree_model.specs.Rows.{value_at, lines_of, ArePlaced}
use Rattle.tree_model.specs.declared.row.Kind.TheVariants.{Elem}
use Rattle.tree_model.specs.declared.row.Row.{Row}
use Rattle.tree_model.specs.declared.row.ValueRef.{ValueRef}
use Rattle.tree_model.specs.declared.text.Name.{Name}
use Rattle.tree_model.proofs.Tables.{lines_length, lines_valued, value_new}
use Rattle.prefix_scopes.specs.Scoping.{Numbering}
use Rattle.xml_rows.specs.Scoping.{scope_in}
use Rattle.xml_rows.specs.Table.{element_line}
use Rattle.xml_rows.specs.Tagging.{pair_of, pairs_of, kept_value, all_expanded, expanded_all, AreNamed, AreWithin, ArePairs}
use Rattle.xml_rows.specs.Texts.{valued_label}
use Rattle.xml_rows.specs.Work.{top, with_tag}
use Rattle.xml_rows.specs.declared.tag.Expanded.{Expanded}
use Rattle.xml_rows.specs.declared.tag.Pair as code
use Rattle.xml_rows.proofs.Valued.{pairs_valued, valued_placed, value_within}

pub pairs_named : (values : List ℕ) (pairs : List code.Pair) → ArePairs values pairs → AreNamed pairs
pairs_named values [] are = tt
pairs_named values (pair ∷ pairs) are = (are.0.named, pairs_named values pairs are.1)

pub pairs_within : (values : List ℕ) (pairs : List code.Pair) → ArePairs values pairs → AreWithin (length values) pairs
pairs_within values [] are = tt
pairs_within values (pair ∷ pairs) are = (are.0.within, pairs_within values pairs are.1)

within_more : (count more : ℕ) (pairs : List code.Pair) → count ≤ more → AreWithin count pairs → AreWithin more pairs
within_more count more [] le are = tt
within_more count more (pair ∷ pairs) le are = (omega (arith, are.0), within_more count more pairs le are.1)

few_case : (b : Bool) (a : Pair) (left : List Pair) (n : ℕ) → length left ≤ n → length (if b then left else a ∷ left) ≤ suc n
few_case true a left n le = omega (arith, le)
few_case false a left n le = omega (arith, le)

few_plain : (attrs : List Pair) → length (plain_attrs attrs) ≤ length attrs
unfolding plain_attrs
few_plain [] = omega arith
few_plain (a ∷ attrs) = few_case (is_declaration a.0) a (plain_attrs attrs) (length attrs) (few_plain attrs)

pub plain_few : (values : List ℕ) (pairs : List code.Pair) → length (plain_attrs (pairs_of values pairs)) ≤ length pairs
plain_few values pairs = omega (arith, few_plain (pairs_of values pairs), length-map pairs (λ (p : code.Pair). pair_of values p))

pub tag_bad : (outside inside : Scope) (name : List ℕ) (attrs found : List Pair) (binding unbound others twice : Bool) → outside ≡ inside → binding ≡ has_bad_binding attrs → unbound ≡ is_none (element_uri outside name) → others ≡ has_unbound outside attrs
    → twice ≡ has_twice [] found → found ≡ expanded_all outside (plain_attrs attrs) → (binding || unbound || others || twice) ≡ is_bad_tag inside name attrs
unfolding is_bad_tag
tag_bad outside inside name attrs found binding unbound others twice same e1 e2 e3 e4 is =
    let e5 = is ∙ ap (λ s. expanded_all s (plain_attrs attrs)) same in
    let e6 = e2 ∙ ap (λ s. is_none (element_uri s name)) same in
    let e7 = e3 ∙ ap (λ s. has_unbound s attrs) same in
    ap (λ b. b || unbound || others || twice) e1 ∙ ap (λ b. has_bad_binding attrs || b || others || twice) e6 ∙ ap (λ b. has_bad_binding attrs || is_none (element_uri inside name) || b || twice) e7
    ∙ ap (λ b. has_bad_binding attrs || is_none (element_uri inside name) || has_unbound inside attrs || b) (e4 ∙ ap (has_twice []) e5)

pub tag_made : (before middle after : List (Line Label)) (label : Label) (attrs : List Label) (open_at : List ℕ) (plain n m place : ℕ) → length before ≡ n → m ≡ n + 1 → place ≡ n → plain ≡ length attrs
    → middle ≡ before ++ element_line n (n - top open_at) label plain ∷ [] → after ≡ middle ++ attr_lines (m - place) (numbered_attrs m attrs) → after ≡ with_tag label attrs before open_at
tag_made before middle after label attrs open_at plain n m place long more is count middle_is after_is =
    let one : m - place ≡ 1 = omega (arith, more, is) in
    let behind : attr_lines (m - place) (numbered_attrs m attrs) ≡ attr_lines 1 (numbered_attrs (n + 1) attrs) = ap (λ k. attr_lines k (numbered_attrs m attrs)) one ∙ ap (λ k. attr_lines 1 (numbered_attrs k attrs)) more in
    after_is ∙ ap (λ l. middle ++ l) behind ∙ ap (λ l. l ++ attr_lines 1 (numbered_attrs (n + 1) attrs)) middle_is
    ∙ append_assoc before (element_line n (n - top open_at) label plain ∷ []) (attr_lines 1 (numbered_attrs (n + 1) attrs))
    ∙ ap (λ k. before ++ element_line n (n - top open_at) label k ∷ attr_lines 1 (numbered_attrs (n + 1) attrs)) count
    ∙ ap (λ k. before ++ element_line k (k - top open_at) label (length attrs) ∷ attr_lines 1 (numbered_attrs (k + 1) attrs)) (sym long)

-- ---- the same at the steps of the code: the URIs after the declarations, after the element's name and after the attributes' names

pub tag_bad_by : (first second third : List (List ℕ)) (scope : List Numbering) (inside : Scope) (name : List ℕ) (attrs : List Pair) (cleared found shown : List Expanded) (binding unbound others twice : Bool) → scope_in first scope ≡ inside → second ≡ first → third ≡ second
    → binding ≡ has_bad_binding attrs → unbound ≡ is_none (element_uri (scope_in first scope) name) → others ≡ has_unbound (scope_in second scope) attrs → twice ≡ has_twice [] (all_expanded third shown) → shown ≡ found → cleared ≡ []
    → all_expanded second found ≡ all_expanded second cleared ++ expanded_all (scope_in second scope) (plain_attrs attrs) → (binding || unbound || others || twice) ≡ is_bad_tag inside name attrs
tag_bad_by first second third scope inside name attrs cleared found shown binding unbound others twice is same kept e1 e2 e3 e4 shown_is none found_is =
    tag_bad (scope_in first scope) inside name attrs (all_expanded third shown) binding unbound others twice is e1 e2 (e3 ∙ ap (λ u. has_unbound (scope_in u scope) attrs) same) e4
    (ap (all_expanded third) shown_is ∙ ap (λ u. all_expanded u found) kept ∙ found_is ∙ ap (λ l. all_expanded second l ++ expanded_all (scope_in second scope) (plain_attrs attrs)) none ∙ ap (λ u. expanded_all (scope_in u scope) (plain_attrs attrs)) same)

pub tag_lines_by : (names0 names1 names2 names3 : List Name) (first second : List (List ℕ)) (scope : List Numbering) (inside : Scope) (values : List ℕ) (rows0 rows1 rows2 : List Row) (open_at : List ℕ) (name value : List ℕ) (pairs : List code.Pair) (plain place : ℕ)
    → scope_in first scope ≡ inside → second ≡ first → names1 ≡ names0 → place ≡ length rows0 → length rows1 ≡ length rows0 + 1 → plain ≡ length (plain_attrs (pairs_of values pairs))
    → lines_of names2 values rows1 ≡ lines_of names1 values rows0 ++ element_line (length rows0) (length rows0 - top open_at) (valued_label Elem (element_name (scope_in first scope) name) value) plain ∷ []
    → lines_of names3 values rows2 ≡ lines_of names2 values rows1 ++ attr_lines (length rows1 - place) (numbered_attrs (length rows1) (attr_labels (scope_in second scope) (pairs_of values pairs)))
    → lines_of names3 values rows2 ≡ with_tag (valued_label Elem (element_name inside name) value) (attr_labels inside (pairs_of values pairs)) (lines_of names0 values rows0) open_at
tag_lines_by names0 names1 names2 names3 first second scope inside values rows0 rows1 rows2 open_at name value pairs plain place is same kept at more count element attributes =
    let count' : plain ≡ length (attr_labels inside (pairs_of values pairs)) = count ∙ sym (length-map (plain_attrs (pairs_of values pairs)) (attr_label inside)) in
    let element' = element ∙ ap (λ l. lines_of l values rows0 ++ element_line (length rows0) (length rows0 - top open_at) (valued_label Elem (element_name (scope_in first scope) name) value) plain ∷ []) kept
    ∙ ap (λ s. lines_of names0 values rows0 ++ element_line (length rows0) (length rows0 - top open_at) (valued_label Elem (element_name s name) value) plain ∷ []) is in
    let attributes' = attributes ∙ ap (λ s. lines_of names2 values rows1 ++ attr_lines (length rows1 - place) (numbered_attrs (length rows1) (attr_labels s (pairs_of values pairs)))) (ap (λ u. scope_in u scope) same ∙ is) in
    tag_made (lines_of names0 values rows0) (lines_of names2 values rows1) (lines_of names3 values rows2) (valued_label Elem (element_name inside name) value) (attr_labels inside (pairs_of values pairs)) open_at plain (length rows0) (length rows1) place
    (lines_length names0 values rows0) more at count' element' attributes'

-- ---- the value of the element is put behind all others

-- the values as they were and as they are, and the place of the element's
pub record IsGathered (settled values : List ℕ) (pairs : List code.Pair) (val : ValueRef) : Type 0 where
  pub grown : values ≡ settled ++ kept_value settled pairs
  pub at : val.at ≡ length settled
  pub len : val.len ≡ length (kept_value settled pairs)
  pub are : ArePairs settled pairs

module _ (settled values : List ℕ) (pairs : List code.Pair) (val : ValueRef) (is : IsGathered settled values pairs val) where
  pub pairs_as : pairs_of values pairs ≡ pairs_of settled pairs
  pairs_as = ap (λ v. pairs_of v pairs) is.grown ∙ pairs_valued settled (kept_value settled pairs) pairs is.are

  pub pairs_inside : AreWithin (length values) pairs
  pairs_inside = within_more (length settled) (length values) pairs (omega (arith, ap length is.grown, length-append settled (kept_value settled pairs))) (pairs_within settled pairs is.are)

  pub plain_as : (plain : ℕ) → plain ≡ length (plain_attrs (pairs_of settled pairs)) → plain ≡ length (plain_attrs (pairs_of values pairs))
  plain_as plain count = count ∙ ap (λ ps. length (plain_attrs ps)) (sym pairs_as)

  pub val_inside : val.at + val.len ≤ length values
  val_inside = value_within settled (kept_value settled pairs) values val is.grown is.at is.len

  pub placed_as : (names : List Name) (rows : List Row) → ArePlaced names settled rows → ArePlaced names values rows
  placed_as names rows placed = valued_placed names settled (kept_value settled pairs) values rows is.grown placed

  pub tag_lines_as : (names : List Name) (rows : List Row) (after : List (Line Label)) (open_at : List ℕ) (inside : Scope) (name : List ℕ) → ArePlaced names settled rows
      → after ≡ with_tag (valued_label Elem (element_name inside name) (value_at values val)) (attr_labels inside (pairs_of values pairs)) (lines_of names values rows) open_at
      → after ≡ with_tag (tag_label inside name (pairs_of settled pairs)) (attr_labels inside (pairs_of settled pairs)) (lines_of names settled rows) open_at
  tag_lines_as names rows after open_at inside name placed lines =
      let e1 : value_at values val ≡ kept_value settled pairs = ap (λ l. value_at l val) is.grown ∙ value_new settled (kept_value settled pairs) val is.at is.len in
      let e2 : lines_of names values rows ≡ lines_of names settled rows = ap (λ l. lines_of names l rows) is.grown ∙ lines_valued names settled (kept_value settled pairs) rows placed in
      lines ∙ ap (λ v. with_tag (valued_label Elem (element_name inside name) v) (attr_labels inside (pairs_of values pairs)) (lines_of names values rows) open_at) e1
      ∙ ap (λ ps. with_tag (tag_label inside name (pairs_of settled pairs)) (attr_labels inside ps) (lines_of names values rows) open_at) pairs_as
      ∙ ap (λ l. with_tag (tag_label inside name (pairs_of settled pairs)) (attr_labels inside (pairs_of settled pairs)) l open_at) e2
