-- What spells a tree leads to its rows and its first fault, and what leads there was spelled so.
use Rattle.std.proofs.Common.{◌≡◌, ℕ, Bool, List, [], ◌++◌, length, Option, Some, refl, sym, ap, ◌∙◌, subst, append_assoc}
use Rattle.tree_model.specs.XmlSource.{Decl, Source, head_text, source_text}
use Rattle.tree_model.specs.XmlGood.{IfThere, IsDecl, AreChars, IsSource}
use Rattle.xml_pieces.specs.Item.{content}
use Rattle.xml_order.specs.Body.{Body, IsBody, body_text, body_tokens, body_of}
use Rattle.xml_order.specs.Shape.{begin, end}
use Rattle.xml_rows.specs.Work.{Work, all_works, begin_work, finished}
use Rattle.xml_order.proofs.Ordered.{body_ordered}
use Rattle.xml_order.proofs.Spelling.{body_lexed, body_found}
use Rattle.xml_rows.proofs.Working.{body_lines, body_fault}
use Rattle.doc_import.specs.Heads.{head_of}
use Rattle.doc_import.specs.Found.{Found}
use Rattle.doc_import.specs.Machine.{Machine, machine, start, Leads}
use Rattle.doc_import.proofs.Steps.{all_lexed, lexes_all, leads_from, runs_to, nothing_at}

-- ---- behind the head

pub body_leads : (strip : Bool) (at : ℕ) (b : Body) → IsBody b → Leads strip (start at) (body_text b) (machine (all_works strip (body_tokens b) (begin_work at)) end) []
body_leads strip at b is = leads_from strip (body_tokens b) (begin_work at) begin end (body_text b) [] (all_lexed content (body_tokens b) (body_text b) (body_lexed b is)) (body_ordered b is) (nothing_at content)

pub led_body : (strip : Bool) (at : ℕ) (bytes : List ℕ) (f : Machine) → Leads strip (start at) bytes f [] → f.control ≡ end → (b : Body) × IsBody b × (bytes ≡ body_text b) × (f.made ≡ all_works strip (body_tokens b) (begin_work at))
led_body strip at bytes f (ts, r) e =
    let to = runs_to strip ts (begin_work at) begin f bytes [] r in
    let found = body_found ts bytes (lexes_all content ts bytes to.0) (to.1 ∙ ap Some e) in
    (found.0, found.1, found.3, to.2 ∙ ap (λ l. all_works strip l (begin_work at)) found.2)

-- ---- the whole text

abbrev pub whole : Bool → Option Decl → Body → Source
whole mark d b = record { mark = mark; decl = d; first = b.first; doctype = b.doctype; second = b.second; root = b.root; last = b.last }

pub source_cut : (d : Source) → source_text d ≡ head_text d ++ body_text (body_of d)
source_cut d = simp append_assoc

pub is_body : (d : Source) → IsSource d → IsBody (body_of d)
is_body d is = record {
  first_misc = is.first_misc;
  first_good = is.first_good;
  doctype = is.doctype;
  second_misc = is.second_misc;
  second_good = is.second_good;
  one_root = is.one_root;
  root_good = is.root_good;
  last_misc = is.last_misc;
  last_good = is.last_good;
}

is_source : (mark : Bool) (d : Option Decl) (b : Body) → IfThere IsDecl d → IsBody b → AreChars (source_text (whole mark d b)) → IsSource (whole mark d b)
is_source mark d b good is chars = record {
  decl = good;
  first_misc = is.first_misc;
  first_good = is.first_good;
  doctype = is.doctype;
  second_misc = is.second_misc;
  second_good = is.second_good;
  one_root = is.one_root;
  root_good = is.root_good;
  last_misc = is.last_misc;
  last_good = is.last_good;
  chars = chars;
}

pub spelled_by : (strip : Bool) (mark : Bool) (d : Option Decl) (text body : List ℕ) (f : Machine) → IfThere IsDecl d → text ≡ head_of mark d ++ body → AreChars text
    → Leads strip (start (length (head_of mark d))) body f [] → f.control ≡ end → Found strip text f.made
spelled_by strip mark d text body f good is chars led e =
    let found = led_body strip (length (head_of mark d)) body f led e in
    let b : Body = found.0 in
    let s : Source = whole mark d b in
    let same : text ≡ source_text s = is ∙ ap (λ l. head_of mark d ++ l) found.2 ∙ sym (source_cut s) in
    let made : f.made ≡ all_works strip (body_tokens b) (begin_work (length (head_of mark d))) = found.3 in
    record {
      source = s;
      spelled = record { good = is_source mark d b good found.1 (subst AreChars same chars); is = same };
      rows = ap finished made ∙ body_lines strip s _ found.1 refl;
      fault = ap (λ (w : Work). w.fault) made ∙ body_fault strip s _ found.1 refl;
    }
