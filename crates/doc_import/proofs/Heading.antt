-- There is one way to take the head off a text.
use Rattle.std.proofs.Common.{◌≡◌, ℕ, Bool, true, false, cond, List, [], ◌∷◌, ◌++◌, drop, Option, Some, None, refl, sym, ap, ◌∙◌, subst, append_assoc, one-add}
use Rattle.std.specs.Option.{option_and_then, option_map}
use Rattle.tree_model.specs.XmlSource.{content_text, Decl, decl_text, Doctype, doctype_head, if_text, mark_text}
use Rattle.tree_model.specs.XmlGood.{IfThere, IsDecl, in_data}
use Rattle.xml_pieces.specs.Tokens.{Token, tokens}
use Rattle.xml_pieces.specs.Readers.{Read, read, kept, as_read}
use Rattle.xml_pieces.specs.Prolog.{decl}
use Rattle.xml_pieces.specs.DeclarationView as view
use Rattle.xml_pieces.specs.Item.{content, item, in_content, data_run, is_data_run, run_token}
use Rattle.xml_order.specs.Body.{Body, IsBody, body_text, body_tokens}
use Rattle.xml_order.specs.Shape.{Shape, in_order, all_in_order, begin, end}
use Rattle.xml_pieces.proofs.Spans.{front, skip}
use Rattle.xml_pieces.proofs.Readers.{same_read, begins_split}
use Rattle.xml_pieces.proofs.PrologDecl.{decl_sound, decl_complete}
use Rattle.xml_pieces.proofs.PrologPieces.{no_decl}
use Rattle.xml_order.specs.Cuts.{LexesTo}
use Rattle.xml_order.proofs.Ordered.{body_ordered}
use Rattle.xml_order.proofs.Spelling.{body_lexed, misc_lexed}
use Rattle.doc_import.specs.Heads.{has_mark, behind_mark, behind_head, head_of, HasSubsetAt}
use Rattle.doc_import.proofs.Steps.{all_lexed}

-- a text that can't begin a document anew
pub record IsNoHead (body : List ℕ) : Type 0 where
  pub mark : has_mark body ≡ false
  pub declared : decl body ≡ None

-- ---- what is taken off was written

mark_split : (text : List ℕ) (b : Bool) → has_mark text ≡ b → text ≡ mark_text b ++ cond b (drop 3 text) text
mark_split text true e = begins_split (mark_text true) text e
mark_split text false e = refl

declared_sound : (bytes : List ℕ) (d : Option Decl) (body : List ℕ) (r : Read Decl) → decl bytes ≡ r → kept bytes r ≡ Some (d, body) → (bytes ≡ if_text decl_text d ++ body) × IfThere IsDecl d
declared_sound bytes d body None was e =
    let same = same_read None d bytes body e in
    (same.1 ∙ ap (λ x. if_text decl_text x ++ body) same.0, subst (λ x. IfThere IsDecl x) same.0 tt)
declared_sound bytes d body (Some x) was e =
    let same = same_read (Some x.0) d x.1 body e in
    let found = decl_sound bytes x.0 x.1 was in
    (found.0 ∙ ap (λ l. decl_text x.0 ++ l) same.1 ∙ ap (λ y. if_text decl_text y ++ body) same.0, subst (λ y. IfThere IsDecl y) same.0 found.1)

pub head_sound : (text : List ℕ) (d : Option Decl) (body : List ℕ) → behind_head text ≡ Some (d, body) → (text ≡ head_of (has_mark text) d ++ body) × IfThere IsDecl d
head_sound text d body e =
    let found = declared_sound (behind_mark text) d body (decl (behind_mark text)) refl e in
    (mark_split text (has_mark text) refl ∙ ap (λ l. mark_text (has_mark text) ++ l) found.0 ∙ sym (append_assoc (mark_text (has_mark text)) (if_text decl_text d) body), found.1)

mark_same : (text : List ℕ) → ◌≡◌ {A = Bool × List ℕ} (view.behind_mark text) (has_mark text, behind_mark text)
mark_same text = by (has_mark text)
  where
    by : (b : Bool) → ◌≡◌ {A = Bool × List ℕ} (cond b (true, drop 3 text) (false, text)) (b, cond b (drop 3 text) text)
    by true = refl
    by false = refl

-- the code reads no more of a declaration than its encoding
declared_by : (bytes rest : List ℕ) (encoding : Option (ℕ × List ℕ)) (r : Read Decl) → Some (encoding, rest) ≡ option_map view.encoding_read r → (d : Option Decl) × (kept bytes r ≡ Some (d, rest))
declared_by bytes rest encoding None e = absurd cc
declared_by bytes rest encoding (Some x) e = (Some x.0, ap (λ (l : List ℕ). Some (Some x.0, l)) (by e))
  where
    by : Some (encoding, rest) ≡ Some (view.encoding_read x) → x.1 ≡ rest
    by e = let pair : ◌≡◌ {A = Option (ℕ × List ℕ) × List ℕ} (encoding, rest) (view.encoding_read x) = cc in sym (ap (λ (p : Option (ℕ × List ℕ) × List ℕ). p.1) pair)

none_declared : (bytes : List ℕ) (r : Read Decl) → None ≡ option_map view.encoding_read r → (d : Option Decl) × (kept bytes r ≡ Some (d, bytes))
none_declared bytes None e = (None, refl)
none_declared bytes (Some x) e = absurd cc

pub head_with : (text behind rest : List ℕ) (mark : Bool) (encoding : Option (ℕ × List ℕ)) → ◌≡◌ {A = Bool × List ℕ} (mark, behind) (view.behind_mark text) → Some (encoding, rest) ≡ option_map view.encoding_read (decl behind)
    → (d : Option Decl) × (behind_head text ≡ Some (d, rest))
head_with text behind rest mark encoding m e =
    let same : behind ≡ behind_mark text = ap (λ (p : Bool × List ℕ). p.1) (m ∙ mark_same text) in
    let found = declared_by behind rest encoding (decl behind) e in
    (found.0, ap (λ l. kept l (decl l)) (sym same) ∙ found.1)

pub head_without : (text behind : List ℕ) (mark : Bool) → ◌≡◌ {A = Bool × List ℕ} (mark, behind) (view.behind_mark text) → None ≡ option_map view.encoding_read (decl behind) → (d : Option Decl) × (behind_head text ≡ Some (d, behind))
head_without text behind mark m e =
    let same : behind ≡ behind_mark text = ap (λ (p : Bool × List ℕ). p.1) (m ∙ mark_same text) in
    let found = none_declared behind (decl behind) e in
    (found.0, ap (λ l. kept l (decl l)) (sym same) ∙ found.1)

-- ---- what was written is taken off

no_mark : (d : Option Decl) (body : List ℕ) → has_mark body ≡ false → has_mark (if_text decl_text d ++ body) ≡ false
no_mark None body e = e
no_mark (Some d) body e = refl

pub marked : (mark : Bool) (d : Option Decl) (body : List ℕ) → has_mark body ≡ false → (has_mark (head_of mark d ++ body) ≡ mark) × (behind_mark (head_of mark d ++ body) ≡ if_text decl_text d ++ body)
marked true d body e = (refl, refl)
marked false d body e = let none = no_mark d body e in (none, ap (λ b. cond b (drop 3 (if_text decl_text d ++ body)) (if_text decl_text d ++ body)) none)

declared : (d : Option Decl) (body : List ℕ) → IfThere IsDecl d → decl body ≡ None → kept (if_text decl_text d ++ body) (decl (if_text decl_text d ++ body)) ≡ Some (d, body)
declared None body is e = ap (kept body) e
declared (Some d) body is e = ap (kept (decl_text d ++ body)) (decl_complete d body is)

pub head_complete : (mark : Bool) (d : Option Decl) (text body : List ℕ) → IfThere IsDecl d → IsNoHead body → text ≡ head_of mark d ++ body → (has_mark text ≡ mark) × (behind_head text ≡ Some (d, body))
head_complete mark d text body is apart e =
    let m = marked mark d body apart.mark in
    (ap has_mark e ∙ m.0, ap behind_head e ∙ ap (λ l. kept l (decl l)) m.1 ∙ declared d body is apart.declared)

-- ---- bodies begin no document anew

-- a piece of a body that begins with the first byte of a mark would be text outside the root
run_first : (v more w after : List ℕ) (t : Token) (b : Bool) → v ≡ 0xEF ∷ more → as_read run_token (cond b (read v w) None) ≡ Some (t, after) → in_order begin t ≡ None
unfolding in_order
run_first v more w after t true is e = ap (in_order begin) (sym (same_read (run_token v) t w after e).0) ∙ ap (λ x. in_order begin (run_token x)) is
run_first v more w after t false is e = absurd cc

front_first : (bytes : List ℕ) → front in_data (0xEF ∷ bytes) ≡ 0xEF ∷ front in_data bytes
front_first bytes = rw one-add refl

first_run : (bytes : List ℕ) (t : Token) (after : List ℕ) → item content (0xEF ∷ bytes) ≡ Some (t, after) → in_order begin t ≡ None
unfolding in_content data_run
first_run bytes t after e =
    let v : List ℕ = front in_data (0xEF ∷ bytes) in
    run_first v (front in_data bytes) (skip in_data (0xEF ∷ bytes)) after t (is_data_run v) (front_first bytes) e

no_mark_first : (ts : List Token) (bytes rest : List ℕ) (s : Shape) → LexesTo content ts bytes rest → all_in_order ts begin ≡ Some s → has_mark rest ≡ false → has_mark bytes ≡ false
no_mark_first [] bytes rest s l e last = ap has_mark l ∙ last
no_mark_first (t ∷ ts) bytes rest s l e last = by (has_mark bytes) refl
  where
    none_some : None ≡ Some s → ⊥
    none_some x = cc

    by : (b : Bool) → has_mark bytes ≡ b → b ≡ false
    by false was = refl
    by true was =
        let first = first_run (0xBB ∷ 0xBF ∷ drop 3 bytes) t l.0 (subst (λ x. item content x ≡ Some (t, l.0)) (begins_split (mark_text true) bytes was) l.1) in
        absurd (none_some (ap (option_and_then (all_in_order ts)) (sym first) ∙ e))

no_decl_first : (ts : List Token) (bytes rest : List ℕ) → LexesTo content ts bytes rest → decl rest ≡ None → decl bytes ≡ None
no_decl_first [] bytes rest l last = ap decl l ∙ last
no_decl_first (t ∷ ts) bytes rest l last = by (decl bytes) refl
  where
    by : (r : Read Decl) → decl bytes ≡ r → r ≡ None
    by None was = refl
    by (Some x) was = absurd (none_read (t, l.0) (sym (no_decl bytes x was) ∙ l.1))
      where
        none_read : (a : Token × List ℕ) → ◌≡◌ {A = Option (Token × List ℕ)} None (Some a) → ⊥
        none_read a e = cc

pub body_no_head : (b : Body) → IsBody b → IsNoHead (body_text b)
unfolding decl
body_no_head b is =
    let l = all_lexed content (body_tokens b) (body_text b) (body_lexed b is) in
    record { mark = no_mark_first (body_tokens b) (body_text b) [] end l (body_ordered b is) refl; declared = no_decl_first (body_tokens b) (body_text b) [] l refl }

doctype_no_decl : (d : Doctype) (rest : List ℕ) → decl (doctype_head d ++ rest) ≡ None
unfolding decl
doctype_no_decl d rest = refl

pub subset_no_head : (body : List ℕ) (n : ℕ) → HasSubsetAt body n → IsNoHead body
subset_no_head body n has =
    let left : List ℕ = doctype_head has.doctype ++ 91 ∷ has.rest in
    let m = misc_lexed has.first left has.first_misc has.first_good refl in
    let same : content_text has.first ++ left ≡ body = sym (append_assoc (content_text has.first) (doctype_head has.doctype) (91 ∷ has.rest)) ∙ sym has.spelled in
    let l : LexesTo content (tokens has.first) body left = subst (λ x. LexesTo content (tokens has.first) x left) same m.0 in
    record { mark = no_mark_first (tokens has.first) body left begin l m.1 refl; declared = no_decl_first (tokens has.first) body left l (doctype_no_decl has.doctype (91 ∷ has.rest)) }
