-- The answers of a whole text, by what stands behind its head.
use Rattle.std.proofs.Common.{◌≡◌, ℕ, ◌+◌, ◌-◌, ◌≤◌, Bool, true, false, List, [], ◌∷◌, ◌++◌, length, take, Option, Some, None, refl, sym, ap, ◌∙◌, subst, arith, append_assoc, length-append, take_at}
use Rattle.std.specs.Prelude.{codes}
use Rattle.std.specs.Str.{IsUtf8}
use Rattle.tree_model.specs.XmlSource.{content_text, Decl, decl_text, doctype_head, if_text, mark_text, setting_text}
use Rattle.tree_model.specs.XmlGood.{AreChars}
use Rattle.tree_model.specs.XmlReads.{IsText, HasNoOtherEncoding, ReadsXml, internal_subset, not_well_formed}
use Rattle.tree_model.proofs.XmlUtf8.{utf8_cut, utf8_cut_behind, utf8_behind, text_of_char}
use Rattle.xml_order.specs.Shape.{Shape, end}
use Rattle.xml_rows.specs.Work.{Work}
use Rattle.doc_import.specs.Found.{IsWhole}
use Rattle.doc_import.specs.Heads.{has_mark, behind_head, head_of, HasSubsetAt}
use Rattle.doc_import.specs.Machine.{Machine, machine, start, Leads}
use Rattle.doc_import.specs.Stopping.{IsStopped}
use Rattle.doc_import.specs.Subsets.{subset_len}
use Rattle.doc_import.specs.declared.reading.Stop.TheVariants.{Malformed}
use Rattle.doc_import.proofs.Answering.{malformed_answer, bad_chars_answer, no_subset_in, subset_answer, bad_subset_answer}
use Rattle.doc_import.proofs.Heading.{head_sound}
use Rattle.doc_import.proofs.InternalSubset.{no_subset}
use Rattle.doc_import.proofs.Steps.{runs_one}
use Rattle.doc_import.proofs.Theorem.{spelled_by}

-- ---- where the body stands

pub body_shorter : (text body : List ℕ) (d : Option Decl) → behind_head text ≡ Some (d, body) → length body ≤ length text
body_shorter text body d head = omega (arith, ap length (head_sound text d body head).0, length-append (head_of (has_mark text) d) body)

place_is : (text body : List ℕ) (d : Option Decl) → behind_head text ≡ Some (d, body) → length text - length body ≡ length (head_of (has_mark text) d)
place_is text body d head = omega (arith, ap length (head_sound text d body head).0, length-append (head_of (has_mark text) d) body)

mark_utf8 : IsUtf8 (mark_text true)
unfolding lib.Utf8.encode
mark_utf8 = (text_of_char 0xFEFF refl).utf8

abbrev decl_end : Decl → List ℕ
decl_end d =
    codes "<?xml" ++ (setting_text (codes "version") d.version ++ (if_text (setting_text (codes "encoding")) d.encoding ++ (if_text (setting_text (codes "standalone")) d.standalone ++ (d.gap ++ 63 ∷ []))))

ends_so : (v e s g : List ℕ) → v ++ (e ++ (s ++ (g ++ 63 ∷ 62 ∷ []))) ≡ (v ++ (e ++ (s ++ (g ++ 63 ∷ [])))) ++ 62 ∷ []
ends_so v e s g = sym (simp append_assoc)

decl_whole : (d : Decl) → decl_text d ≡ decl_end d ++ 62 ∷ []
decl_whole d =
    ap (λ l. codes "<?xml" ++ l) (ends_so (setting_text (codes "version") d.version) (if_text (setting_text (codes "encoding")) d.encoding) (if_text (setting_text (codes "standalone")) d.standalone) d.gap)

head_utf8 : (mark : Bool) (d : Option Decl) (body : List ℕ) → IsUtf8 (head_of mark d ++ body) → IsUtf8 body
head_utf8 false None body u = u
head_utf8 true None body u = (utf8_behind (mark_text true) body mark_utf8 u).second
head_utf8 mark (Some d) body u =
    let whole : head_of mark (Some d) ≡ (mark_text mark ++ decl_end d) ++ 62 ∷ [] = ap (λ l. mark_text mark ++ l) (decl_whole d) ∙ sym (append_assoc (mark_text mark) (decl_end d) (62 ∷ [])) in
    (utf8_cut_behind (mark_text mark ++ decl_end d) 62 body (omega arith) (subst (λ l. IsUtf8 (l ++ body)) whole u)).second

pub body_utf8 : (text body : List ℕ) (d : Option Decl) → behind_head text ≡ Some (d, body) → IsUtf8 text → IsUtf8 body
body_utf8 text body d head u = head_utf8 (has_mark text) d body (subst IsUtf8 (head_sound text d body head).0 u)

-- ---- what was read to the end

module _ (strip : Bool) (text body : List ℕ) (d : Option Decl) (is : IsText text) (in_utf8 : HasNoOtherEncoding text) (head : behind_head text ≡ Some (d, body)) (w : Work) (s : Shape)
    (led : Leads strip (start (length text - length body)) body (machine w s) []) where
  none_at_end : (k : ℕ) → HasSubsetAt body k → ⊥
  unfolding subset_len
  none_at_end k has = no_subset strip (length text - length body) k body [] (machine w s) led (λ e. refl) has

  led_here : Leads strip (start (length (head_of (has_mark text) d))) body (machine w s) []
  led_here = subst (λ (n : ℕ). Leads strip (start n) body (machine w s) []) (place_is text body d head) led

  pub not_whole_answer : (s ≡ end → ⊥) → ReadsXml text strip not_well_formed
  not_whole_answer other =
      malformed_answer strip text d body is in_utf8 head none_at_end
      (λ v ended. other (ap (λ (m : Machine). m.control) (runs_one strip (start (length (head_of (has_mark text) d))) (machine w s) (machine v end) body [] [] led_here ended).0))

  pub bad_chars_whole : (AreChars text → ⊥) → ReadsXml text strip not_well_formed
  bad_chars_whole bad = bad_chars_answer strip text d body is in_utf8 head none_at_end bad

  pub whole_found : s ≡ end → AreChars text → IsWhole strip text w
  whole_found e chars =
      let sound = head_sound text d body head in
      record { is_text = is; in_utf8 = in_utf8; no_subset = no_subset_in text d body head none_at_end; found = spelled_by strip (has_mark text) d text body (machine w s) sound.1 sound.0 chars led_here e }

-- ---- an internal subset

pub record IsFront (text : List ℕ) (n : ℕ) : Type 0 where
  pub within : n ≤ length text
  pub utf8 : IsUtf8 (take n text)

front_of : (text x : List ℕ) (rest : List ℕ) (n : ℕ) → IsUtf8 text → text ≡ x ++ 91 ∷ rest → n ≡ length x → IsFront text n
front_of text x rest n u e is =
    let cut = utf8_cut x (91 ∷ rest) refl (subst IsUtf8 e u) in
    record { within = omega (arith, ap length e, length-append x (91 ∷ rest), is); utf8 = subst IsUtf8 (sym (ap (take n) e ∙ take_at x (91 ∷ rest) n (sym is))) cut.first }

pub subset_front : (text body : List ℕ) (d : Option Decl) (k n : ℕ) → behind_head text ≡ Some (d, body) → IsUtf8 text → HasSubsetAt body k → n ≡ (length text - length body) + k → IsFront text n
subset_front text body d k n head u has is =
    let front : List ℕ = content_text has.first ++ doctype_head has.doctype in
    let h : List ℕ = head_of (has_mark text) d in
    let whole : text ≡ (h ++ front) ++ 91 ∷ has.rest = (head_sound text d body head).0 ∙ ap (λ l. h ++ l) has.spelled ∙ sym (append_assoc h front (91 ∷ has.rest)) in
    front_of text (h ++ front) has.rest n u whole (omega (arith, is, place_is text body d head, has.at_is, length-append h front))

-- ---- why the reader stopped

pub stopped_answer : (strip : Bool) (text body : List ℕ) (d : Option Decl) → IsText text → HasNoOtherEncoding text → behind_head text ≡ Some (d, body) → IsStopped strip (length text - length body) body Malformed → ReadsXml text strip not_well_formed
stopped_answer strip text body d is in_utf8 head h =
    malformed_answer strip text d body is in_utf8 head h.1 (λ w led. h.0 w (subst (λ (n : ℕ). Leads strip (start n) body (machine w end) []) (sym (place_is text body d head)) led))

pub subset_whole : (strip : Bool) (text body : List ℕ) (d : Option Decl) (k n : ℕ) → IsText text → HasNoOtherEncoding text → behind_head text ≡ Some (d, body) → HasSubsetAt body k → n ≡ (length text - length body) + k → AreChars (take n text)
    → ReadsXml text strip (internal_subset n)
subset_whole strip text body d k n is in_utf8 head has e chars =
    let same : n ≡ length (head_of (has_mark text) d) + k = e ∙ ap (λ (x : ℕ). x + k) (place_is text body d head) in
    subst (λ (x : ℕ). ReadsXml text strip (internal_subset x)) (sym same) (subset_answer strip text k d body is in_utf8 head has (subst (λ (x : ℕ). AreChars (take x text)) same chars))

pub subset_bad : (strip : Bool) (text body : List ℕ) (d : Option Decl) (k n : ℕ) → IsText text → HasNoOtherEncoding text → behind_head text ≡ Some (d, body) → HasSubsetAt body k → n ≡ (length text - length body) + k → (AreChars (take n text) → ⊥)
    → ReadsXml text strip not_well_formed
subset_bad strip text body d k n is in_utf8 head has e bad =
    let same : n ≡ length (head_of (has_mark text) d) + k = e ∙ ap (λ (x : ℕ). x + k) (place_is text body d head) in
    bad_subset_answer strip text k d body is in_utf8 head has (λ chars. bad (subst (λ (x : ℕ). AreChars (take x text)) (sym same) chars))
