-- A text is cut in one way into a head and a document behind it: a document has no internal subset, without a declaration it has no
-- encoding, and it spells one tree.
use Rattle.std.proofs.Common.{◌≡◌, ℕ, Bool, true, false, List, [], ◌∷◌, ◌++◌, length, Option, Some, None, refl, sym, ap, ap₂, ◌∙◌, subst}
use Rattle.tree_model.specs.Forest.{Forest, flatten}
use Rattle.tree_model.specs.Trees.{one_to_one}
use Rattle.tree_model.specs.Labels.{Label}
use Rattle.tree_model.specs.XmlSource.{Decl, decl_text, if_text, mark_text, Source, head_text, doctype_head}
use Rattle.tree_model.specs.XmlGood.{IsDecl, IsSource}
use Rattle.tree_model.specs.XmlMeaning.{source_tree}
use Rattle.tree_model.specs.XmlReads.{HasNoOtherEncoding, HasNoSubset, IsSpelled, SpellsTree}
use Rattle.xml_pieces.specs.Readers.{kept}
use Rattle.xml_pieces.specs.Prolog.{decl}
use Rattle.xml_pieces.proofs.Readers.{same_read}
use Rattle.xml_pieces.proofs.PrologDecl.{decl_complete}
use Rattle.xml_order.specs.Body.{body_text, body_tokens, body_of}
use Rattle.xml_order.specs.Shape.{before_doctype, behind_root, begin, end}
use Rattle.xml_rows.specs.Work.{Work, all_works, begin_work, finished}
use Rattle.xml_rows.proofs.Working.{body_lines}
use Rattle.doc_import.specs.Heads.{has_mark, behind_mark, behind_head}
use Rattle.doc_import.specs.Machine.{Machine, machine, start, Leads}
use Rattle.doc_import.proofs.Steps.{runs_one}
use Rattle.doc_import.proofs.Theorem.{source_cut, is_body, body_leads}
use Rattle.doc_import.proofs.Heading.{head_complete, body_no_head}
use Rattle.doc_import.proofs.InternalSubset.{subset_leads}
use Rattle.doc_import.proofs.Answering.{no_subset_in}

-- the head of a document, and what stands behind it
record IsHeaded (text : List ℕ) (s : Source) : Type 0 where
  mark : has_mark text ≡ s.mark
  behind : behind_head text ≡ Some (s.decl, body_text (body_of s))

headed : (text : List ℕ) (s : Source) → IsSpelled text s → IsHeaded text s
headed text s is =
    let whole = head_complete s.mark s.decl text (body_text (body_of s)) is.good.decl (body_no_head (body_of s) (is_body s is.good)) (is.is ∙ source_cut s) in
    record { mark = whole.0; behind = whole.1 }

-- ---- no internal subset

begin_or_end : (v w : Work) → machine v end ≡ machine w begin → ⊥
begin_or_end v w e = apart (ap (λ (m : Machine). m.control.stage) e)
  where
    apart : behind_root ≡ before_doctype → ⊥
    apart k = cc

-- the reader stops at the [ of a subset, and at the end of a document
pub spelled_no_subset : (text : List ℕ) (s : Source) → IsSpelled text s → HasNoSubset text
spelled_no_subset text s is =
    let body : List ℕ = body_text (body_of s) in
    no_subset_in text s.decl body (headed text s is).behind (λ k has.
    let subset = subset_leads false 0 k body has in
    let left : List ℕ = doctype_head has.doctype ++ 91 ∷ has.rest in
    let whole = body_leads false 0 (body_of s) (is_body s is.good) in
    begin_or_end (all_works false (body_tokens (body_of s)) (begin_work 0)) subset.0
    (runs_one false (start 0) (machine (all_works false (body_tokens (body_of s)) (begin_work 0)) end) (machine subset.0 begin) body [] left whole subset.1).0)

-- ---- no encoding

mark_off : (mark : Bool) (d : Decl) (rest : List ℕ) → behind_mark (mark_text mark ++ (decl_text d ++ rest)) ≡ decl_text d ++ rest
mark_off true d rest = refl
mark_off false d rest = refl

declared_head : (text : List ℕ) (mark : Bool) (d : Decl) (rest : List ℕ) → IsDecl d → text ≡ mark_text mark ++ (decl_text d ++ rest) → behind_head text ≡ Some (Some d, rest)
declared_head text mark d rest good is =
    ap behind_head is ∙ ap (λ (l : List ℕ). kept l (decl l)) (mark_off mark d rest) ∙ ap (kept (decl_text d ++ rest)) (decl_complete d rest good)

none_declared : (d : Option Decl) (x : Decl) → Some x ≡ d → d ≡ None → ⊥
none_declared d x e f = cc

pub undeclared_no_encoding : (text : List ℕ) (s : Source) → IsSpelled text s → s.decl ≡ None → HasNoOtherEncoding text
undeclared_no_encoding text s is undeclared at has =
    let found = declared_head text has.mark has.decl has.rest has.good has.spelled in
    let same = same_read (Some has.decl) s.decl has.rest (body_text (body_of s)) (sym found ∙ (headed text s is).behind) in
    none_declared s.decl has.decl same.0 undeclared

-- ---- one tree

-- the reader comes to the end of a text with the rows of a document
record IsLed (strip : Bool) (at : ℕ) (body : List ℕ) (s : Source) : Type 0 where
  work : Work
  leads : Leads strip (start at) body (machine work end) []
  rows : finished work ≡ flatten (source_tree strip s)

led_own : (strip : Bool) (s : Source) → IsSource s → IsLed strip (length (head_text s)) (body_text (body_of s)) s
led_own strip s good =
    let at : ℕ = length (head_text s) in
    record {
      work = all_works strip (body_tokens (body_of s)) (begin_work at);
      leads = body_leads strip at (body_of s) (is_body s good);
      rows = body_lines strip s _ (is_body s good) refl;
    }

led : (strip : Bool) (at : ℕ) (body : List ℕ) (s : Source) → IsSource s → length (head_text s) ≡ at → body_text (body_of s) ≡ body → IsLed strip at body s
led strip at body s good e f = subst (λ (n : ℕ). IsLed strip n body s) e (subst (λ (l : List ℕ). IsLed strip (length (head_text s)) l s) f (led_own strip s good))

same_rows : (strip : Bool) (at : ℕ) (body : List ℕ) (a b : Source) → IsLed strip at body a → IsLed strip at body b → source_tree strip a ≡ source_tree strip b
same_rows strip at body a b x y =
    let one = runs_one strip (start at) (machine x.work end) (machine y.work end) body [] [] x.leads y.leads in
    one_to_one (source_tree strip a) (source_tree strip b) (sym x.rows ∙ ap (λ (m : Machine). finished m.made) one.0 ∙ y.rows)

same_source_tree : (strip : Bool) (text : List ℕ) (a b : Source) → IsSpelled text a → IsSpelled text b → source_tree strip a ≡ source_tree strip b
same_source_tree strip text a b x y =
    let first = headed text a x in
    let second = headed text b y in
    let same = same_read b.decl a.decl (body_text (body_of b)) (body_text (body_of a)) (sym second.behind ∙ first.behind) in
    let head : head_text b ≡ head_text a = ap₂ (λ (m : Bool) (d : Option Decl). mark_text m ++ if_text decl_text d) (sym second.mark ∙ first.mark) same.0 in
    same_rows strip (length (head_text a)) (body_text (body_of a)) a b (led_own strip a x.good) (led strip (length (head_text a)) (body_text (body_of a)) b y.good (ap length head) same.1)

pub one_tree_spelled : (strip : Bool) (text : List ℕ) (f g : Forest Label) → SpellsTree strip text f → SpellsTree strip text g → f ≡ g
one_tree_spelled strip text f g x y = x.tree_is ∙ same_source_tree strip text x.source y.source x.spelled y.spelled ∙ sym y.tree_is
