-- The first [ of an internal subset is found where the reader stops, and nowhere else.
use Rattle.std.proofs.Common.{◌≡◌, ℕ, ◌+◌, ◌-◌, ◌<◌, ◌≤◌, Bool, true, false, cond, List, [], ◌∷◌, ◌++◌, length, drop, Some, None, refl, sym, ap, ◌∙◌, subst, arith, append_assoc, length-append}
use Rattle.std.specs.Prelude.{codes}
use Rattle.std.specs.Option.{option_and_then, option_map}
use Rattle.std.proofs.lemmas.Bool.{false≢true, eqb-true}
use Rattle.tree_model.specs.XmlChars.{first_is, begins_with}
use Rattle.tree_model.specs.XmlSource.{content_text, Doctype, doctype_head, doctype_text}
use Rattle.tree_model.specs.XmlGood.{IsDoctype}
use Rattle.xml_pieces.specs.Tokens.{doctype_token, tokens}
use Rattle.xml_pieces.specs.Readers.{Read, as_read, then_second, word_of}
use Rattle.xml_pieces.specs.Prolog.{doctype_front}
use Rattle.xml_pieces.specs.Item.{content, item, in_content, markup, declaration, doctype}
use Rattle.xml_pieces.proofs.Readers.{begins_split}
use Rattle.xml_order.specs.Shape.{begin}
use Rattle.xml_rows.specs.Work.{Work, all_works, begin_work}
use Rattle.xml_pieces.proofs.PrologDoctype.{doctype_front_sound, doctype_front_before}
use Rattle.xml_order.specs.Cuts.{LexesTo}
use Rattle.xml_order.proofs.Spelling.{misc_lexed, misc_found}
use Rattle.doc_import.specs.Heads.{HasSubsetAt}
use Rattle.doc_import.specs.Subsets.{is_bracket, len_before, subset_len}
use Rattle.doc_import.specs.Machine.{Machine, machine, start, Leads}
use Rattle.doc_import.proofs.Steps.{leads_from, runs_to, runs_one}

-- a DOCTYPE that is followed by a [ is no piece
front_left : (bytes rest : List ℕ) (d : Doctype) → doctype_front bytes ≡ Some (d, 91 ∷ rest) → doctype bytes ≡ None
unfolding doctype
front_left bytes rest d e = ap (option_and_then (λ (x : Doctype × List ℕ). then_second x.0 (word_of (62 ∷ []) x.1))) e

pub no_subset_item : (d : Doctype) (rest : List ℕ) → doctype_front (drop 2 (doctype_head d ++ 91 ∷ rest)) ≡ Some (d, 91 ∷ rest) → item content (doctype_head d ++ 91 ∷ rest) ≡ None
unfolding in_content markup declaration
no_subset_item d rest e = ap (as_read (λ (x : Doctype × Unit {0}). doctype_token (doctype_text x.0))) (front_left (drop 2 (doctype_head d ++ 91 ∷ rest)) rest d e)

pub subset_leads : (strip : Bool) (at n : ℕ) (body : List ℕ) (has : HasSubsetAt body n) → (w : Work) × Leads strip (start at) body (machine w begin) (doctype_head has.doctype ++ 91 ∷ has.rest)
subset_leads strip at n body has =
    let left : List ℕ = doctype_head has.doctype ++ 91 ∷ has.rest in
    let m = misc_lexed has.first left has.first_misc has.first_good refl in
    let same : content_text has.first ++ left ≡ body = sym (append_assoc (content_text has.first) (doctype_head has.doctype) (91 ∷ has.rest)) ∙ sym has.spelled in
    let l : LexesTo content (tokens has.first) body left = subst (λ x. LexesTo content (tokens has.first) x left) same m.0 in
    let front = doctype_front_before has.doctype 91 has.rest has.doctype_good refl (drop 2 left) refl in
    (all_works strip (tokens has.first) (begin_work at), leads_from strip (tokens has.first) (begin_work at) begin begin body left l m.1 (no_subset_item has.doctype has.rest front))

-- what is read up to a [ is followed by a [
bracket_first : (l : List ℕ) → first_is is_bracket l ≡ true → l ≡ 91 ∷ drop 1 l
bracket_first [] e = absurd (false≢true e)
bracket_first (c ∷ l) e = ap (λ x. x ∷ l) (eqb-true c 91 e)

-- what a length before a [ says
record Bracket (bytes : List ℕ) (k : ℕ) : Type 0 where
  doctype : Doctype
  behind : List ℕ
  good : IsDoctype doctype
  spelled : bytes ≡ doctype_head doctype ++ 91 ∷ behind
  len : k ≡ length (doctype_head doctype)

none_some : (k : ℕ) → None ≡ Some k → ⊥
none_some k e = cc

len_same : (a k : ℕ) → Some a ≡ Some k → a ≡ k
len_same a k e = cc

bracket_at : (bytes after : List ℕ) (d : Doctype) (k : ℕ) (b : Bool) → bytes ≡ doctype_head d ++ after → IsDoctype d → first_is is_bracket after ≡ b → cond b (Some (length bytes - length after)) None ≡ Some k → Bracket bytes k
bracket_at bytes after d k false spelled good is e = absurd (none_some k e)
bracket_at bytes after d k true spelled good is e =
    record {
      doctype = d;
      behind = drop 1 after;
      good = good;
      spelled = spelled ∙ ap (λ l. doctype_head d ++ l) (bracket_first after is);
      len = sym (len_same (length bytes - length after) k e) ∙ omega (arith, ap length spelled, length-append (doctype_head d) after);
    }

bracket_by : (bytes : List ℕ) (k : ℕ) (b : Bool) (r : Read Doctype) → begins_with (codes "<!") bytes ≡ b → doctype_front (drop 2 bytes) ≡ r → cond b (len_before bytes r) None ≡ Some k → Bracket bytes k
bracket_by bytes k false r begins was e = absurd (none_some k e)
bracket_by bytes k true None begins was e = absurd (none_some k e)
bracket_by bytes k true (Some x) begins was e =
    let found = doctype_front_sound (drop 2 bytes) x.0 x.1 was in
    bracket_at bytes x.1 x.0 k (first_is is_bracket x.1) (begins_split (codes "<!") bytes begins ∙ found.0) found.1 refl e

bracket_found : (bytes : List ℕ) (k : ℕ) → subset_len bytes ≡ Some k → Bracket bytes k
unfolding subset_len
bracket_found bytes k e = bracket_by bytes k (begins_with (codes "<!") bytes) (doctype_front (drop 2 bytes)) refl refl e

-- where the code finds one, there is one
pub subset_found : (strip : Bool) (at k : ℕ) (body rest : List ℕ) (w : Work) → Leads strip (start at) body (machine w begin) rest → subset_len rest ≡ Some k → HasSubsetAt body ((length body - length rest) + k)
subset_found strip at k body rest w (ts, r) e =
    let to = runs_to strip ts (begin_work at) begin (machine w begin) body rest r in
    let misc = misc_found ts body rest to.0 to.1 in
    let has = bracket_found rest k e in
    let first : List ℕ = content_text misc.0 in
    record {
      first = misc.0;
      doctype = has.doctype;
      rest = has.behind;
      first_misc = misc.1;
      first_good = misc.2;
      doctype_good = has.good;
      spelled = misc.4 ∙ ap (λ l. first ++ l) has.spelled ∙ sym (append_assoc first (doctype_head has.doctype) (91 ∷ has.behind));
      at_is = omega (arith, ap length misc.4, length-append first rest, length-append first (doctype_head has.doctype), has.len);
    }

subset_len_is : (d : Doctype) (rest : List ℕ) → IsDoctype d → subset_len (doctype_head d ++ 91 ∷ rest) ≡ Some (length (doctype_head d ++ 91 ∷ rest) - length (91 ∷ rest))
unfolding subset_len
subset_len_is d rest good = ap (len_before (doctype_head d ++ 91 ∷ rest)) (doctype_front_before d 91 rest good refl (drop 2 (doctype_head d ++ 91 ∷ rest)) refl)

-- where there is one, the code stops there and finds it
pub subset_there : (strip : Bool) (at n : ℕ) (body rest : List ℕ) (m : Machine) → HasSubsetAt body n → Leads strip (start at) body m rest
    → (m.control ≡ begin) × (0 < length rest) × (length body - length rest ≤ n) × (subset_len rest ≡ Some (n - (length body - length rest)))
subset_there strip at n body rest m has led =
    let s = subset_leads strip at n body has in
    let left : List ℕ = doctype_head has.doctype ++ 91 ∷ has.rest in
    let one = runs_one strip (start at) m (machine s.0 begin) body rest left led s.1 in
    let long = ap length one.1 in
    let counts : length left - length (91 ∷ has.rest) ≡ n - (length body - length rest) =
    omega (arith, long, length-append (doctype_head has.doctype) (91 ∷ has.rest), ap length has.spelled, length-append (content_text has.first ++ doctype_head has.doctype) (91 ∷ has.rest), length-append (content_text has.first) (doctype_head has.doctype), has.at_is) in (
      ap (λ (x : Machine). x.control) one.0,
      omega (arith, long, length-append (doctype_head has.doctype) (91 ∷ has.rest)),
      omega (arith, long, ap length has.spelled, length-append (content_text has.first ++ doctype_head has.doctype) (91 ∷ has.rest), length-append (doctype_head has.doctype) (91 ∷ has.rest), length-append (content_text has.first) (doctype_head has.doctype), has.at_is),
      ap subset_len one.1 ∙ subset_len_is has.doctype has.rest has.doctype_good ∙ ap (λ x. Some x) counts,
    )

-- where the reader stops and finds none, there is none
pub no_subset : (strip : Bool) (at n : ℕ) (body rest : List ℕ) (m : Machine) → Leads strip (start at) body m rest → (m.control ≡ begin → subset_len rest ≡ None) → HasSubsetAt body n → ⊥
no_subset strip at n body rest m led none has =
    let there = subset_there strip at n body rest m has led in
    none_some (n - (length body - length rest)) (sym (none there.0) ∙ there.3)

-- there is one at most
pub one_subset : (n k : ℕ) (body : List ℕ) → HasSubsetAt body n → HasSubsetAt body k → n ≡ k
one_subset n k body a b =
    let s = subset_leads false 0 n body a in
    let left : List ℕ = doctype_head a.doctype ++ 91 ∷ a.rest in
    let first = subset_there false 0 n body left (machine s.0 begin) a s.1 in
    let second = subset_there false 0 k body left (machine s.0 begin) b s.1 in
    omega (arith, first.2, second.2, len_same (n - (length body - length left)) (k - (length body - length left)) (sym first.3 ∙ second.3))

-- what follows a DOCTYPE is shorter
shorter_by : (bytes rest : List ℕ) (r : Read Doctype) → doctype_front bytes ≡ r → Some rest ≡ option_map (λ (x : Doctype × List ℕ). x.1) r → length rest ≤ length bytes
shorter_by bytes rest None was e = absurd cc
shorter_by bytes rest (Some x) was e =
    let found = doctype_front_sound bytes x.0 x.1 was in
    let same : rest ≡ x.1 = cc in
    omega (arith, ap length same, ap length found.0, length-append (doctype_head x.0) x.1)

pub front_shorter : (bytes rest : List ℕ) → Some rest ≡ option_map (λ (x : Doctype × List ℕ). x.1) (doctype_front bytes) → length rest ≤ length bytes
front_shorter bytes rest e = shorter_by bytes rest (doctype_front bytes) refl e
