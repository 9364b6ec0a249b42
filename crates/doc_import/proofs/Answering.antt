-- What is answered to a text, by where the reader stops.
use Rattle.std.proofs.Common.{◌≡◌, ℕ, ◌+◌, ◌<◌, ◌≤◌, ◌^◌, Bool, List, [], ◌∷◌, ◌++◌, length, take, Option, Some, None, refl, sym, ap, ◌∙◌, subst, arith, append_assoc, length-append}
use Rattle.tree_model.specs.Forest.{Forest, Line, count, grove_of, IsFlat}
use Rattle.tree_model.specs.Trees.{length-lines, is_flat, grove_is}
use Rattle.tree_model.specs.Labels.{Label}
use Rattle.tree_model.specs.XmlSource.{content_text, Decl, decl_text, doctype_head, if_text, mark_text, Source}
use Rattle.tree_model.specs.XmlGood.{AreChars}
use Rattle.tree_model.specs.XmlMeaning.{Fault, source_faults, source_tree}
use Rattle.tree_model.specs.XmlReads.{HasSubset, IsSpelled, SpellsTree, IsText, HasNoOtherEncoding, HasNoSubset, ReadsXml, as_tree, other_encoding, internal_subset, not_well_formed, first_fault, too_many_nodes}
use Rattle.xml_pieces.specs.DeclarationView as encoded
use Rattle.xml_pieces.proofs.PrologEncoding.{other_encoding_sound, other_encoding_complete}
use Rattle.xml_pieces.proofs.Readers.{same_read}
use Rattle.xml_order.specs.Body.{body_text, body_tokens, body_of}
use Rattle.xml_order.specs.Shape.{begin, end}
use Rattle.xml_rows.specs.Work.{Work, all_works, begin_work, finished, first_of}
use Rattle.doc_import.specs.Heads.{has_mark, behind_head, head_of, HasSubsetAt}
use Rattle.doc_import.specs.Found.{Found}
use Rattle.doc_import.specs.Machine.{machine, start, Leads}
use Rattle.doc_import.proofs.Steps.{runs_one}
use Rattle.doc_import.proofs.Theorem.{source_cut, is_body, body_leads}
use Rattle.doc_import.proofs.Heading.{head_sound, head_complete, body_no_head, subset_no_head}
use Rattle.doc_import.proofs.InternalSubset.{subset_leads, one_subset}

-- ---- another encoding

pub encoding_answer : (strip : Bool) (text : List ℕ) (at : ℕ) → IsText text → encoded.other_encoding text ≡ Some at → ReadsXml text strip (other_encoding at)
encoding_answer strip text at is e = (is, other_encoding_sound text at e)

none_some : (at : ℕ) → None ≡ Some at → ⊥
none_some at e = cc

pub no_encoding : (text : List ℕ) → encoded.other_encoding text ≡ None → HasNoOtherEncoding text
no_encoding text e at has = none_some at (sym e ∙ other_encoding_complete text at has)

-- ---- a well-formed text

-- the text of a document leads to its end
spelled_led : (strip : Bool) (text : List ℕ) (d : Option Decl) (body : List ℕ) (s : Source) → behind_head text ≡ Some (d, body) → IsSpelled text s
    → (w : Work) × Leads strip (start (length (head_of (has_mark text) d))) body (machine w end) []
spelled_led strip text d body s head is =
    let whole = head_complete s.mark s.decl text (body_text (body_of s)) is.good.decl (body_no_head (body_of s) (is_body s is.good)) (is.is ∙ source_cut s) in
    let same = same_read s.decl d (body_text (body_of s)) body (sym whole.1 ∙ head) in
    let at : ℕ = length (head_of (has_mark text) d) in
    (all_works strip (body_tokens (body_of s)) (begin_work at), subst (λ l. Leads strip (start at) l (machine (all_works strip (body_tokens (body_of s)) (begin_work at)) end) []) same.1 (body_leads strip at (body_of s) (is_body s is.good)))

-- no document is spelled where the reader stops before the end, or elsewhere than at its end
pub not_spelled : (strip : Bool) (text : List ℕ) (d : Option Decl) (body : List ℕ) → behind_head text ≡ Some (d, body) → ((w : Work) → Leads strip (start (length (head_of (has_mark text) d))) body (machine w end) [] → ⊥)
    → (s : Source) → IsSpelled text s → ⊥
not_spelled strip text d body head none s is = let led = spelled_led strip text d body s head is in none led.0 led.1

-- ---- an internal subset

subset_body : (text : List ℕ) (n : ℕ) (d : Option Decl) (body : List ℕ) → behind_head text ≡ Some (d, body) → HasSubset text n → (k : ℕ) × HasSubsetAt body k × (n ≡ length (head_of (has_mark text) d) + k)
subset_body text n d body head has =
    let first : List ℕ = content_text has.first in
    let doctype : List ℕ = doctype_head has.doctype in
    let h : List ℕ = head_of has.mark has.decl in
    let rest : List ℕ = 91 ∷ has.rest in
    let k : ℕ = length (first ++ doctype) in
    let b : HasSubsetAt ((first ++ doctype) ++ rest) k =
    record { first = has.first; doctype = has.doctype; rest = has.rest; first_misc = has.first_misc; first_good = has.first_good; doctype_good = has.doctype_good; spelled = refl; at_is = refl } in
    let cut : text ≡ h ++ ((first ++ doctype) ++ rest) = has.spelled ∙ simp append_assoc in
    let whole = head_complete has.mark has.decl text ((first ++ doctype) ++ rest) has.decl_good (subset_no_head ((first ++ doctype) ++ rest) k b) cut in
    let same = same_read has.decl d ((first ++ doctype) ++ rest) body (sym whole.1 ∙ head) in
    let long : length (head_of (has_mark text) d) ≡ length h = ap (λ m. length (head_of m d)) whole.0 ∙ ap (λ x. length (head_of has.mark x)) (sym same.0) in (
      k,
      subst (λ l. HasSubsetAt l k) same.1 b,
      has.at_is ∙ omega (arith, long, length-append (mark_text has.mark) (if_text decl_text has.decl ++ (first ++ doctype)), length-append (if_text decl_text has.decl) (first ++ doctype), length-append (mark_text has.mark) (if_text decl_text has.decl)),
    )

body_subset : (text : List ℕ) (k : ℕ) (d : Option Decl) (body : List ℕ) → behind_head text ≡ Some (d, body) → HasSubsetAt body k → AreChars (take (length (head_of (has_mark text) d) + k) text) → HasSubset text (length (head_of (has_mark text) d) + k)
body_subset text k d body head has chars =
    let found = head_sound text d body head in
    let first : List ℕ = content_text has.first in
    let doctype : List ℕ = doctype_head has.doctype in
    let mark : List ℕ = mark_text (has_mark text) in
    let declared : List ℕ = if_text decl_text d in
    record {
      mark = has_mark text;
      decl = d;
      first = has.first;
      doctype = has.doctype;
      rest = has.rest;
      decl_good = found.1;
      first_misc = has.first_misc;
      first_good = has.first_good;
      doctype_good = has.doctype_good;
      spelled = found.0 ∙ ap (λ l. (mark ++ declared) ++ l) has.spelled ∙ simp append_assoc;
      at_is = omega (arith, has.at_is, length-append mark (declared ++ (first ++ doctype)), length-append declared (first ++ doctype), length-append mark declared);
      chars = chars;
    }

pub no_subset_in : (text : List ℕ) (d : Option Decl) (body : List ℕ) → behind_head text ≡ Some (d, body) → ((k : ℕ) → HasSubsetAt body k → ⊥) → HasNoSubset text
no_subset_in text d body head none n has = let b = subset_body text n d body head has in none b.0 b.1

pub subset_answer : (strip : Bool) (text : List ℕ) (k : ℕ) (d : Option Decl) (body : List ℕ) → IsText text → HasNoOtherEncoding text → behind_head text ≡ Some (d, body) → HasSubsetAt body k
    → AreChars (take (length (head_of (has_mark text) d) + k) text) → ReadsXml text strip (internal_subset (length (head_of (has_mark text) d) + k))
subset_answer strip text k d body is in_utf8 head has chars = (is, in_utf8, body_subset text k d body head has chars)

-- a subset behind characters that aren't Chars
pub bad_subset_answer : (strip : Bool) (text : List ℕ) (k : ℕ) (d : Option Decl) (body : List ℕ) → IsText text → HasNoOtherEncoding text → behind_head text ≡ Some (d, body) → HasSubsetAt body k
    → (AreChars (take (length (head_of (has_mark text) d) + k) text) → ⊥) → ReadsXml text strip not_well_formed
bad_subset_answer strip text k d body is in_utf8 head has bad =
    let at : ℕ = length (head_of (has_mark text) d) in
    let s = subset_leads strip at k body has in
    let left : List ℕ = doctype_head has.doctype ++ 91 ∷ has.rest in (
      is,
      in_utf8,
      λ n other.
          let b = subset_body text n d body head other in
          bad (subst (λ (x : ℕ). AreChars (take x text)) (b.2 ∙ ap (λ (x : ℕ). at + x) (one_subset b.0 k body b.1 has)) other.chars),
      not_spelled strip text d body head (λ w led. let one = runs_one strip (start at) (machine w end) (machine s.0 begin) body [] left led s.1 in absurd cc),
    )

-- ---- the answers of a whole reading

pub malformed_answer : (strip : Bool) (text : List ℕ) (d : Option Decl) (body : List ℕ) → IsText text → HasNoOtherEncoding text → behind_head text ≡ Some (d, body) → ((k : ℕ) → HasSubsetAt body k → ⊥)
    → ((w : Work) → Leads strip (start (length (head_of (has_mark text) d))) body (machine w end) [] → ⊥) → ReadsXml text strip not_well_formed
malformed_answer strip text d body is in_utf8 head none ended = (is, in_utf8, no_subset_in text d body head none, not_spelled strip text d body head ended)

-- characters that aren't Chars
pub bad_chars_answer : (strip : Bool) (text : List ℕ) (d : Option Decl) (body : List ℕ) → IsText text → HasNoOtherEncoding text → behind_head text ≡ Some (d, body) → ((k : ℕ) → HasSubsetAt body k → ⊥)
    → (AreChars text → ⊥) → ReadsXml text strip not_well_formed
bad_chars_answer strip text d body is in_utf8 head none bad = (is, in_utf8, no_subset_in text d body head none, λ s spelled. bad (subst AreChars (sym spelled.is) spelled.good.chars))

fault_first : (fs : List Fault) (fault : Fault) → first_of fs ≡ Some fault → (more : List Fault) × (fs ≡ fault ∷ more)
fault_first [] fault e = absurd cc
fault_first (f ∷ fs) fault e = (fs, cc)

none_first : (fs : List Fault) → first_of fs ≡ None → fs ≡ []
none_first [] e = refl
none_first (f ∷ fs) e = absurd cc

pub fault_answer : (strip : Bool) (text : List ℕ) (w : Work) (fault : Fault) → IsText text → HasNoOtherEncoding text → HasNoSubset text → Found strip text w → w.fault ≡ Some fault → ReadsXml text strip (first_fault fault)
fault_answer strip text w fault is in_utf8 none found e =
    let first = fault_first (source_faults found.source) fault (sym found.fault ∙ e) in
    (is, in_utf8, none, record { source = found.source; more = first.0; spelled = found.spelled; first = first.1 })

spells_tree : (strip : Bool) (text : List ℕ) (w : Work) (found : Found strip text w) → w.fault ≡ None → SpellsTree strip text (source_tree strip found.source)
spells_tree strip text w found e = record { source = found.source; spelled = found.spelled; faultless = none_first (source_faults found.source) (sym found.fault ∙ e); tree_is = refl }

pub too_many_answer : (strip : Bool) (text : List ℕ) (w : Work) → IsText text → HasNoOtherEncoding text → HasNoSubset text → Found strip text w → w.fault ≡ None → 2 ^ 24 < length (finished w) → ReadsXml text strip too_many_nodes
too_many_answer strip text w is in_utf8 none found e many =
    (is, in_utf8, none, source_tree strip found.source, spells_tree strip text w found e, omega (arith, many, ap length found.rows, length-lines 0 (source_tree strip found.source)))

pub tree_answer : (strip : Bool) (text : List ℕ) (w : Work) (ls : List (Line Label)) → IsText text → HasNoOtherEncoding text → HasNoSubset text → Found strip text w → w.fault ≡ None → ls ≡ finished w → length ls ≤ 2 ^ 24
    → IsFlat ls × ReadsXml text strip (as_tree (grove_of ls))
tree_answer strip text w ls is in_utf8 none found e rows few =
    let f : Forest Label = source_tree strip found.source in
    let same : f ≡ grove_of ls = sym (grove_is ls f (rows ∙ found.rows)) in (
      is_flat ls f (rows ∙ found.rows),
      (is, in_utf8, none, subst (λ g. SpellsTree strip text g) same (spells_tree strip text w found e), subst (λ g. count g ≤ 2 ^ 24) same (omega (arith, few, ap length (rows ∙ found.rows), length-lines 0 f))),
    )
