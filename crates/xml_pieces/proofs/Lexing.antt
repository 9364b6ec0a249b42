-- A piece that is spelled is read, and what is read as a piece is spelled so.
use Rattle.std.proofs.Common.{◌≡◌, ℕ, ◌<◌, Bool, true, false, not, ◌&&◌, ◌||◌, cond, eqb, List, [], ◌∷◌, ◌++◌, length, length-append, Some, None, refl, sym, ap, ◌∙◌, subst, arith, append_assoc}
use Rattle.std.specs.Prelude.{⊤, codes}
use Rattle.std.specs.Char.{is_ascii_digit}
use Rattle.std.specs.Option.{option_and_then}
use Rattle.std.proofs.lemmas.Bool.{false≢true, eqb-true}
use Rattle.tree_model.specs.XmlChars.{is_space, is_name_byte, first_is, has_word}
use Rattle.tree_model.specs.XmlSource.{Part, run, entity, decimal, hexadecimal, part_text, if_text, external_text, Doctype, doctype_head, doctype_text}
use Rattle.tree_model.specs.XmlGood.{AreSpace, is_quote, in_value, in_data, IsRun, IsReference, IsPi, IsDoctype}
use Rattle.xml_pieces.specs.Tokens.{Token, part_token, cdata_token, comm_token, pi_token, doctype_token, open_token, attr_token, quote_token, go_token, shut_token, close_token, token_text}
use Rattle.xml_pieces.specs.Readers.{Read, read, word_of, then_second, as_read}
use Rattle.xml_pieces.specs.Prolog.{doctype_front}
use Rattle.xml_pieces.specs.Item as item
use Rattle.xml_pieces.specs.Item.{Where, content, a_tag, a_value, Ended, qname, entity_reference, decimal_reference, hexadecimal_reference, char_reference, reference, is_data_run, data_run, value_run, run_token, close_tag, comment, cdata_section, doctype, instruction, declaration, close_of, pi_of, markup, in_content, attr_start, attr_of, behind_gap, in_quotes, IsToken, Stops}
use Rattle.xml_pieces.proofs.Spans.{both_true, front, skip, front_all, skip_all, front_skip, front_passes}
use Rattle.xml_pieces.proofs.Readers.{same_read, same_byte, word_exact}
use Rattle.xml_pieces.proofs.PrologDoctype.{doctype_front_sound, doctype_front_complete}
use Rattle.xml_pieces.proofs.ByteClasses.{quote_cases, apart, not_true, name_no_space, ncname_bytes, qname_bytes, target_bytes, decimal_digits, hexadecimal_digits}
use Rattle.xml_pieces.proofs.Exact.{qname_exact, entity_exact, decimal_exact, hexadecimal_exact, data_exact, value_exact, close_exact, comment_exact, cdata_exact, lifted, instruction_exact, rest_begins, rest_fits, rest_ends, attr_exact}

-- ---- what is read behind a first byte

abbrev entity_of : Ended → Token
entity_of x = part_token (entity x.0)

abbrev decimal_of : Ended → Token
decimal_of x = part_token (decimal x.0)

abbrev hexadecimal_of : Ended → Token
hexadecimal_of x = part_token (hexadecimal x.0)

abbrev comm_of : Unit {0} × (List ℕ × Unit {0}) → Token
comm_of x = comm_token x.1.0

abbrev cdata_of : Unit {0} × List ℕ → Token
cdata_of x = cdata_token x.1

abbrev doctype_of : Doctype × Unit {0} → Token
doctype_of x = doctype_token (doctype_text x.0)

and_true : (a b : Bool) → a ≡ true → b ≡ true → (a && b) ≡ true
and_true a b e f = rw (e, f) refl

-- a name begins with none of / ! ?
name_markup : (name rest : List ℕ) → first_is is_name_byte name ≡ true → markup (name ++ rest) ≡ as_read open_token (qname (name ++ rest))
unfolding markup
name_markup [] rest is = absurd (false≢true is)
name_markup (c ∷ name) rest is =
    let after : List ℕ = name ++ rest in
    let all : Read Token = as_read open_token (qname (c ∷ after)) in
    let third : Read Token = cond (eqb c 63) (as_read pi_of (instruction after)) all in
    ap (λ b. cond b (as_read close_of (close_tag after)) (cond (eqb c 33) (declaration after) third)) (apart is_name_byte c 47 is refl)
    ∙ ap (λ b. cond b (declaration after) third) (apart is_name_byte c 33 is refl)
    ∙ ap (λ b. cond b (as_read pi_of (instruction after)) all) (apart is_name_byte c 63 is refl)

data_read : (v rest : List ℕ) → IsRun in_data v → in_content (v ++ rest) ≡ as_read run_token (data_run (v ++ rest))
unfolding in_content
data_read [] rest is = absurd (false≢true is.0)
data_read (c ∷ v) rest is =
    let after : List ℕ = v ++ rest in
    let all : Read Token = as_read run_token (data_run (c ∷ after)) in
    ap (λ b. cond b (markup after) (cond (eqb c 38) (reference after) all)) (apart in_data c 60 is.0 refl) ∙ ap (λ b. cond b (reference after) all) (apart in_data c 38 is.0 refl)

value_misses : (d : ℕ) → in_value d d ≡ false
value_misses d = rw (same_byte d) (by (eqb d 60) (eqb d 38))
  where
    by : (a b : Bool) → not (a || b || true) ≡ false
    by true b = refl
    by false true = refl
    by false false = refl

value_read : (d : ℕ) (v rest : List ℕ) → IsRun (in_value d) v → in_quotes d (v ++ rest) ≡ as_read run_token (value_run d (v ++ rest))
unfolding in_quotes
value_read d [] rest is = absurd (false≢true is.0)
value_read d (c ∷ v) rest is =
    let after : List ℕ = v ++ rest in
    let all : Read Token = as_read run_token (value_run d (c ∷ after)) in
    ap (λ b. cond b (read (quote_token d) after) (cond (eqb c 38) (reference after) all)) (apart (in_value d) c d is.0 (value_misses d)) ∙ ap (λ b. cond b (reference after) all) (apart (in_value d) c 38 is.0 refl)

-- & isn't a quote
quote_no_amp : (d : ℕ) → is_quote d ≡ true → eqb 38 d ≡ false
quote_no_amp d is = quote_cases d is (λ c. eqb 38 c ≡ false) refl refl

-- ---- references

-- what stands behind the & of a reference
abbrev behind_amp : Part → List ℕ
behind_amp (run bytes) = bytes
behind_amp (entity name) = name ++ 59 ∷ []
behind_amp (decimal digits) = 35 ∷ (digits ++ 59 ∷ [])
behind_amp (hexadecimal digits) = 35 ∷ 120 ∷ (digits ++ 59 ∷ [])

amp_text : (p : Part) → IsReference p → part_text p ≡ 38 ∷ behind_amp p
amp_text (run bytes) is = absurd is
amp_text (entity name) is = refl
amp_text (decimal digits) is = refl
amp_text (hexadecimal digits) is = refl

entity_read : (name rest : List ℕ) → first_is is_name_byte name ≡ true → reference (name ++ rest) ≡ as_read entity_of (entity_reference (name ++ rest))
unfolding reference
entity_read [] rest is = absurd (false≢true is)
entity_read (c ∷ name) rest is = ap (λ b. cond b (char_reference (name ++ rest)) (as_read entity_of (entity_reference (c ∷ (name ++ rest))))) (apart is_name_byte c 35 is refl)

decimal_read : (digits rest : List ℕ) → first_is is_ascii_digit digits ≡ true → char_reference (digits ++ rest) ≡ as_read decimal_of (decimal_reference (digits ++ rest))
unfolding char_reference
decimal_read [] rest is = absurd (false≢true is)
decimal_read (c ∷ digits) rest is =
    ap (λ b. cond b (as_read hexadecimal_of (hexadecimal_reference (digits ++ rest))) (as_read decimal_of (decimal_reference (c ∷ (digits ++ rest))))) (apart is_ascii_digit c 120 is refl)

reference_complete : (p : Part) (rest : List ℕ) → IsReference p → reference (behind_amp p ++ rest) ≡ Some (part_token p, rest)
unfolding reference char_reference
reference_complete (run bytes) rest is = absurd is
reference_complete (entity name) rest is =
    let bytes = ncname_bytes name is in
    ap reference (append_assoc name (59 ∷ []) rest) ∙ entity_read name (59 ∷ rest) bytes.0 ∙ ap (λ l. as_read entity_of (entity_reference l)) (sym (append_assoc name (59 ∷ []) rest))
    ∙ ap (as_read entity_of) (entity_exact.complete (name, tt) rest ((bytes.1, is), tt) tt)
reference_complete (decimal digits) rest is =
    let bytes = decimal_digits digits is in
    ap char_reference (append_assoc digits (59 ∷ []) rest) ∙ decimal_read digits (59 ∷ rest) bytes.0 ∙ ap (λ l. as_read decimal_of (decimal_reference l)) (sym (append_assoc digits (59 ∷ []) rest))
    ∙ ap (as_read decimal_of) (decimal_exact.complete (digits, tt) rest ((bytes.1, is), tt) tt)
reference_complete (hexadecimal digits) rest is = ap (as_read hexadecimal_of) (hexadecimal_exact.complete (digits, tt) rest ((hexadecimal_digits digits is, is), tt) tt)

-- ---- DOCTYPEs

abbrev behind_mark : Doctype → List ℕ
behind_mark d = codes "DOCTYPE" ++ (d.gap ++ (d.name ++ (if_text external_text d.external ++ d.last)))

doctype_complete : (d : Doctype) (rest : List ℕ) → IsDoctype d → doctype ((behind_mark d ++ 62 ∷ []) ++ rest) ≡ Some ((d, tt), rest)
unfolding doctype
doctype_complete d rest is =
    ap (option_and_then (λ (x : Doctype × List ℕ). then_second x.0 (word_of (62 ∷ []) x.1)))
    (doctype_front_complete d rest is ((behind_mark d ++ 62 ∷ []) ++ rest) (append_assoc (doctype_head d) (62 ∷ []) rest))

doctype_sound : (bytes : List ℕ) (x : Doctype × Unit {0}) (rest : List ℕ) → doctype bytes ≡ Some (x, rest) → (codes "<!" ++ bytes ≡ doctype_text x.0 ++ rest) × IsDoctype x.0
unfolding doctype
doctype_sound bytes x rest e = by (doctype_front bytes) refl e
  where
    end : (d : Doctype) (after : List ℕ) (z : Read (Unit {0})) → doctype_front bytes ≡ Some (d, after) → word_of (62 ∷ []) after ≡ z → then_second d z ≡ Some (x, rest)
        → (codes "<!" ++ bytes ≡ doctype_text x.0 ++ rest) × IsDoctype x.0
    end d after None was is e = absurd cc
    end d after (Some z) was is e =
        let same = same_read (d, z.0) x z.1 rest e in
        let d_is : d ≡ x.0 = ap (λ (p : Doctype × Unit {0}). p.0) same.0 in
        let here = doctype_front_sound bytes d after was in
        let close = (word_exact (62 ∷ [])).sound after z.0 z.1 is in
        let whole : codes "<!" ++ bytes ≡ doctype_text d ++ rest = here.0 ∙ ap (λ l. doctype_head d ++ l) (close.0 ∙ ap (λ l. 62 ∷ l) same.1) ∙ sym (append_assoc (doctype_head d) (62 ∷ []) rest) in
        subst (λ (y : Doctype). (codes "<!" ++ bytes ≡ doctype_text y ++ rest) × IsDoctype y) d_is (whole, here.1)

    by : (r : Read Doctype) → doctype_front bytes ≡ r → option_and_then (λ (y : Doctype × List ℕ). then_second y.0 (word_of (62 ∷ []) y.1)) r ≡ Some (x, rest)
        → (codes "<!" ++ bytes ≡ doctype_text x.0 ++ rest) × IsDoctype x.0
    by None was e = absurd cc
    by (Some y) was e = end y.0 y.1 (word_of (62 ∷ []) y.1) was refl e

-- ---- what is spelled is read

-- a value stands between quotes
abbrev pub IsPlace : Where → Type 0
IsPlace (a_value d) = is_quote d ≡ true
IsPlace place = ⊤

behind_name : (gap name rest : List ℕ) → first_is is_space gap ≡ true → first_is is_name_byte name ≡ true → behind_gap gap (name ++ rest) ≡ as_read (attr_of gap) (attr_start (name ++ rest))
unfolding behind_gap
behind_name gap [] rest some is = absurd (false≢true is)
behind_name gap (c ∷ name) rest some is =
    let after : List ℕ = name ++ rest in
    let all : Read Token = as_read (attr_of gap) (attr_start (c ∷ after)) in
    let shut : Read Token = as_read (λ (u : Unit {0}). shut_token gap) (word_of (62 ∷ []) after) in
    ap (λ b. cond b (read (go_token gap) after) (cond (eqb c 47) shut (cond (first_is is_space gap) all None))) (apart is_name_byte c 62 is refl)
    ∙ ap (λ b. cond b shut (cond (first_is is_space gap) all None)) (apart is_name_byte c 47 is refl)
    ∙ ap (λ b. cond b all None) some

-- white space of a tag, and what is behind it
gap_read : (gap after : List ℕ) → AreSpace gap → first_is is_space after ≡ false → item.item a_tag (gap ++ after) ≡ behind_gap gap after
gap_read gap after are stop = ap (λ l. behind_gap l (skip is_space (gap ++ after))) (front_all is_space gap after are stop) ∙ ap (behind_gap gap) (skip_all is_space gap after are stop)

run_complete : (v rest : List ℕ) → IsRun in_data v → has_word (codes "]]>") v ≡ false → first_is in_data rest ≡ false → in_content (v ++ rest) ≡ Some (part_token (run v), rest)
run_complete v rest is free stop =
    data_read v rest is ∙ ap (as_read run_token) (data_exact.complete v rest (is.1, and_true (first_is in_data v) _ is.0 (ap not free)) stop)

content_reference : (p : Part) (rest : List ℕ) → IsReference p → in_content (part_text p ++ rest) ≡ Some (part_token p, rest)
unfolding in_content
content_reference p rest is = ap (λ l. in_content (l ++ rest)) (amp_text p is) ∙ reference_complete p rest is

value_reference : (d : ℕ) (p : Part) (rest : List ℕ) → is_quote d ≡ true → IsReference p → in_quotes d (part_text p ++ rest) ≡ Some (part_token p, rest)
unfolding in_quotes
value_reference d p rest quote is =
    ap (λ l. in_quotes d (l ++ rest)) (amp_text p is)
    ∙ ap (λ b. cond b (read (quote_token d) (behind_amp p ++ rest)) (reference (behind_amp p ++ rest))) (quote_no_amp d quote)
    ∙ reference_complete p rest is

pub item_complete : (p : Where) (t : Token) (rest : List ℕ) → IsPlace p → IsToken p t → Stops p t rest → item.item p (token_text t ++ rest) ≡ Some (t, rest)
unfolding in_content markup declaration behind_gap in_quotes
item_complete content (part_token (run v)) rest place is stop = run_complete v rest is.0 is.1 stop
item_complete content (part_token (entity name)) rest place is stop = content_reference (entity name) rest is
item_complete content (part_token (decimal digits)) rest place is stop = content_reference (decimal digits) rest is
item_complete content (part_token (hexadecimal digits)) rest place is stop = content_reference (hexadecimal digits) rest is
item_complete content (cdata_token bytes) rest place is stop = ap (as_read cdata_of) (cdata_exact.complete (tt, bytes) rest (tt, is) tt)
item_complete content (comm_token bytes) rest place is stop =
    ap (λ l. as_read comm_of (comment (45 ∷ 45 ∷ l))) (ap (λ l. l ++ rest) (sym (append_assoc bytes (codes "--") (62 ∷ [])))) ∙ ap (as_read comm_of) (comment_exact.complete (tt, (bytes, tt)) rest (tt, (is, tt)) tt)
item_complete content (pi_token target gap bytes) rest place is stop =
    ap (as_read pi_of) (instruction_exact.complete (target, (gap, bytes)) rest ((target_bytes target is.named, is.named), (is.blank, rest_fits gap bytes is.rest is.ends)) (rest_ends gap bytes rest is.rest, tt))
item_complete content (doctype_token bytes) rest place is stop =
    subst (λ l. item.item content (l ++ rest) ≡ Some (doctype_token l, rest)) (sym is.2) (ap (as_read doctype_of) (doctype_complete is.0 rest is.1))
item_complete content (open_token name) rest place is stop = let bytes = qname_bytes name is in name_markup name rest bytes.0 ∙ ap (as_read open_token) (qname_exact.complete name rest (bytes.1, is) stop)
item_complete content (close_token name last) rest place is stop = ap (as_read close_of) (close_exact.complete (name, (last, tt)) rest (((qname_bytes name is.0).1, is.0), (is.1, tt)) tt)
item_complete a_tag (attr_token gap name before behind delim) rest place (is_gap, is_name, are_before, are_behind, quote) stop =
    let tail : List ℕ = before ++ 61 ∷ (behind ++ delim ∷ []) in
    let bytes = qname_bytes name is_name in
    ap (item.item a_tag) (append_assoc gap (name ++ tail) rest ∙ ap (λ l. gap ++ l) (append_assoc name tail rest))
    ∙ gap_read gap (name ++ (tail ++ rest)) is_gap.1 (name_no_space name (tail ++ rest) bytes.0)
    ∙ behind_name gap name (tail ++ rest) is_gap.0 bytes.0
    ∙ ap (λ l. as_read (attr_of gap) (attr_start l)) (sym (append_assoc name tail rest))
    ∙ ap (as_read (attr_of gap)) (attr_exact.complete (name, (before, (tt, (behind, delim)))) rest ((bytes.1, is_name), (are_before, (tt, (are_behind, quote)))) tt)
item_complete a_tag (go_token gap) rest place is stop = ap (item.item a_tag) (append_assoc gap (62 ∷ []) rest) ∙ gap_read gap (62 ∷ rest) is refl
item_complete a_tag (shut_token gap) rest place is stop = ap (item.item a_tag) (append_assoc gap (47 ∷ 62 ∷ []) rest) ∙ gap_read gap (47 ∷ 62 ∷ rest) is refl
item_complete (a_value d) (part_token (run v)) rest place is stop = value_read d v rest is ∙ ap (as_read run_token) ((value_exact d).complete v rest (is.1, is.0) stop)
item_complete (a_value d) (part_token (entity name)) rest place is stop = value_reference d (entity name) rest place is
item_complete (a_value d) (part_token (decimal digits)) rest place is stop = value_reference d (decimal digits) rest place is
item_complete (a_value d) (part_token (hexadecimal digits)) rest place is stop = value_reference d (hexadecimal digits) rest place is
item_complete (a_value d) (quote_token other) rest place is stop =
    ap (λ (x : ℕ). in_quotes d (x ∷ rest)) (sym is) ∙ ap (λ b. cond b (read (quote_token d) rest) (cond (eqb d 38) (reference rest) (as_read run_token (value_run d (d ∷ rest))))) (same_byte d)
    ∙ ap (λ (x : ℕ). read (quote_token x) rest) is
item_complete p t rest place is stop = absurd is

-- ---- what is read was spelled

abbrev pub Found : Where → List ℕ → Token → List ℕ → Type 0
Found p bytes t rest = (bytes ≡ token_text t ++ rest) × IsToken p t × Stops p t rest

abbrev IsReferenceTo : List ℕ → Token → List ℕ → Type 0
IsReferenceTo bytes t rest = (p : Part) × (part_token p ≡ t) × IsReference p × (bytes ≡ part_text p ++ rest)

in_data_part : (p : Part) (rest : List ℕ) → IsReference p → IsToken content (part_token p) × Stops content (part_token p) rest
in_data_part (run bytes) rest is = absurd is
in_data_part (entity name) rest is = (is, tt)
in_data_part (decimal digits) rest is = (is, tt)
in_data_part (hexadecimal digits) rest is = (is, tt)

in_value_part : (d : ℕ) (p : Part) (rest : List ℕ) → IsReference p → IsToken (a_value d) (part_token p) × Stops (a_value d) (part_token p) rest
in_value_part d (run bytes) rest is = absurd is
in_value_part d (entity name) rest is = (is, tt)
in_value_part d (decimal digits) rest is = (is, tt)
in_value_part d (hexadecimal digits) rest is = (is, tt)

char_found : (bytes : List ℕ) (t : Token) (rest : List ℕ) → char_reference bytes ≡ Some (t, rest) → IsReferenceTo (38 ∷ 35 ∷ bytes) t rest
unfolding char_reference
char_found [] t rest e = absurd cc
char_found (c ∷ bytes) t rest e = by (eqb c 120) refl e
  where
    by : (a : Bool) → eqb c 120 ≡ a → cond a (as_read hexadecimal_of (hexadecimal_reference bytes)) (as_read decimal_of (decimal_reference (c ∷ bytes))) ≡ Some (t, rest) → IsReferenceTo (38 ∷ 35 ∷ c ∷ bytes) t rest
    by true e1 e =
        let l = lifted hexadecimal_of (hexadecimal_reference bytes) t rest e in
        let found = hexadecimal_exact.sound bytes l.0 rest l.1 in
        (hexadecimal l.0.0, l.2, found.1.0.1, ap (λ (x : ℕ). 38 ∷ 35 ∷ x ∷ bytes) (eqb-true c 120 e1) ∙ ap (λ x. 38 ∷ 35 ∷ 120 ∷ x) found.0)
    by false e1 e =
        let l = lifted decimal_of (decimal_reference (c ∷ bytes)) t rest e in
        let found = decimal_exact.sound (c ∷ bytes) l.0 rest l.1 in
        (decimal l.0.0, l.2, found.1.0.1, ap (λ x. 38 ∷ 35 ∷ x) found.0)

reference_found : (bytes : List ℕ) (t : Token) (rest : List ℕ) → reference bytes ≡ Some (t, rest) → IsReferenceTo (38 ∷ bytes) t rest
unfolding reference
reference_found [] t rest e = absurd cc
reference_found (c ∷ bytes) t rest e = by (eqb c 35) refl e
  where
    by : (a : Bool) → eqb c 35 ≡ a → cond a (char_reference bytes) (as_read entity_of (entity_reference (c ∷ bytes))) ≡ Some (t, rest) → IsReferenceTo (38 ∷ c ∷ bytes) t rest
    by true e1 e = subst (λ (x : ℕ). IsReferenceTo (38 ∷ x ∷ bytes) t rest) (sym (eqb-true c 35 e1)) (char_found bytes t rest e)
    by false e1 e =
        let l = lifted entity_of (entity_reference (c ∷ bytes)) t rest e in
        let found = entity_exact.sound (c ∷ bytes) l.0 rest l.1 in
        (entity l.0.0, l.2, found.1.0.1, ap (λ x. 38 ∷ x) found.0)

-- a reference is a piece where it may be one
reference_piece : (p : Where) (bytes : List ℕ) (t : Token) (rest : List ℕ) → ((q : Part) → IsReference q → IsToken p (part_token q) × Stops p (part_token q) rest) → reference bytes ≡ Some (t, rest) → Found p (38 ∷ bytes) t rest
reference_piece p bytes t rest ok e =
    let found = reference_found bytes t rest e in
    let may = ok found.0 found.2 in
    subst (λ t. Found p (38 ∷ bytes) t rest) found.1 (found.3, may.0, may.1)

data_found : (bytes : List ℕ) (t : Token) (rest : List ℕ) → as_read run_token (data_run bytes) ≡ Some (t, rest) → Found content bytes t rest
data_found bytes t rest e =
    let l = lifted run_token (data_run bytes) t rest e in
    let found = data_exact.sound bytes l.0 rest l.1 in
    let parts = both_true (first_is in_data l.0) _ found.1.1 in
    subst (λ t. Found content bytes t rest) l.2 (found.0, ((parts.0, found.1.0), not_true (has_word (codes "]]>") l.0) (λ e. false≢true (sym (ap not e) ∙ parts.1))), found.2)

declaration_found : (bytes : List ℕ) (t : Token) (rest : List ℕ) → declaration bytes ≡ Some (t, rest) → Found content (60 ∷ 33 ∷ bytes) t rest
unfolding declaration
declaration_found [] t rest e = absurd cc
declaration_found (c ∷ bytes) t rest e = by (eqb c 45) (eqb c 91) e
  where
    by : (a b : Bool) → cond a (as_read comm_of (comment (c ∷ bytes))) (cond b (as_read cdata_of (cdata_section (c ∷ bytes))) (as_read doctype_of (doctype (c ∷ bytes)))) ≡ Some (t, rest) → Found content (60 ∷ 33 ∷ c ∷ bytes) t rest
    by true b e =
        let l = lifted comm_of (comment (c ∷ bytes)) t rest e in
        let found = comment_exact.sound (c ∷ bytes) l.0 rest l.1 in
        subst (λ t. Found content (60 ∷ 33 ∷ c ∷ bytes) t rest) l.2
        (ap (λ x. 60 ∷ 33 ∷ x) found.0 ∙ ap (λ (x : List ℕ). 60 ∷ 33 ∷ 45 ∷ 45 ∷ (x ++ rest)) (append_assoc l.0.1.0 (codes "--") (62 ∷ [])), found.1.1.0, tt)
    by false true e =
        let l = lifted cdata_of (cdata_section (c ∷ bytes)) t rest e in
        let found = cdata_exact.sound (c ∷ bytes) l.0 rest l.1 in
        subst (λ t. Found content (60 ∷ 33 ∷ c ∷ bytes) t rest) l.2 (ap (λ x. 60 ∷ 33 ∷ x) found.0, found.1.1, tt)
    by false false e =
        let l = lifted doctype_of (doctype (c ∷ bytes)) t rest e in
        let found = doctype_sound (c ∷ bytes) l.0 rest l.1 in
        subst (λ t. Found content (60 ∷ 33 ∷ c ∷ bytes) t rest) l.2 (found.0, (l.0.0, found.1, refl), tt)

markup_found : (bytes : List ℕ) (t : Token) (rest : List ℕ) → markup bytes ≡ Some (t, rest) → Found content (60 ∷ bytes) t rest
unfolding markup
markup_found [] t rest e = absurd cc
markup_found (c ∷ bytes) t rest e = by (eqb c 47) (eqb c 33) (eqb c 63) refl refl refl e
  where
    by : (a b d : Bool) → eqb c 47 ≡ a → eqb c 33 ≡ b → eqb c 63 ≡ d
        → cond a (as_read close_of (close_tag bytes)) (cond b (declaration bytes) (cond d (as_read pi_of (instruction bytes)) (as_read open_token (qname (c ∷ bytes))))) ≡ Some (t, rest) → Found content (60 ∷ c ∷ bytes) t rest
    by true b d e1 e2 e3 e =
        let l = lifted close_of (close_tag bytes) t rest e in
        let found = close_exact.sound bytes l.0 rest l.1 in
        subst (λ t. Found content (60 ∷ c ∷ bytes) t rest) l.2 (ap (λ (x : ℕ). 60 ∷ x ∷ bytes) (eqb-true c 47 e1) ∙ ap (λ x. 60 ∷ 47 ∷ x) found.0, (found.1.0.1, found.1.1.0), tt)
    by false true d e1 e2 e3 e = subst (λ (x : ℕ). Found content (60 ∷ x ∷ bytes) t rest) (sym (eqb-true c 33 e2)) (declaration_found bytes t rest e)
    by false false true e1 e2 e3 e =
        let l = lifted pi_of (instruction bytes) t rest e in
        let found = instruction_exact.sound bytes l.0 rest l.1 in
        let begins = rest_begins l.0.1.0 l.0.1.1 rest found.1.1.1 found.2.0 in
        let is_pi : IsPi l.0.0 l.0.1.0 l.0.1.1 = record { named = found.1.0.1; blank = found.1.1.0; rest = begins.0; ends = begins.1 } in
        subst (λ t. Found content (60 ∷ c ∷ bytes) t rest) l.2 (ap (λ (x : ℕ). 60 ∷ x ∷ bytes) (eqb-true c 63 e3) ∙ ap (λ x. 60 ∷ 63 ∷ x) found.0, is_pi, tt)
    by false false false e1 e2 e3 e =
        let l = lifted open_token (qname (c ∷ bytes)) t rest e in
        let found = qname_exact.sound (c ∷ bytes) l.0 rest l.1 in
        subst (λ t. Found content (60 ∷ c ∷ bytes) t rest) l.2 (ap (λ x. 60 ∷ x) found.0, found.1.1, found.2)

content_found : (bytes : List ℕ) (t : Token) (rest : List ℕ) → in_content bytes ≡ Some (t, rest) → Found content bytes t rest
unfolding in_content
content_found [] t rest e = absurd cc
content_found (c ∷ bytes) t rest e = by (eqb c 60) (eqb c 38) refl refl e
  where
    by : (a b : Bool) → eqb c 60 ≡ a → eqb c 38 ≡ b → cond a (markup bytes) (cond b (reference bytes) (as_read run_token (data_run (c ∷ bytes)))) ≡ Some (t, rest) → Found content (c ∷ bytes) t rest
    by true b e1 e2 e = subst (λ (x : ℕ). Found content (x ∷ bytes) t rest) (sym (eqb-true c 60 e1)) (markup_found bytes t rest e)
    by false true e1 e2 e = subst (λ (x : ℕ). Found content (x ∷ bytes) t rest) (sym (eqb-true c 38 e2)) (reference_piece content bytes t rest (λ q is. in_data_part q rest is) e)
    by false false e1 e2 e = data_found (c ∷ bytes) t rest e

value_found : (d : ℕ) (bytes : List ℕ) (t : Token) (rest : List ℕ) → in_quotes d bytes ≡ Some (t, rest) → Found (a_value d) bytes t rest
unfolding in_quotes
value_found d [] t rest e = absurd cc
value_found d (c ∷ bytes) t rest e = by (eqb c d) (eqb c 38) refl refl e
  where
    by : (a b : Bool) → eqb c d ≡ a → eqb c 38 ≡ b → cond a (read (quote_token d) bytes) (cond b (reference bytes) (as_read run_token (value_run d (c ∷ bytes)))) ≡ Some (t, rest) → Found (a_value d) (c ∷ bytes) t rest
    by true b e1 e2 e =
        let same = same_read (quote_token d) t bytes rest e in
        subst (λ t. Found (a_value d) (c ∷ bytes) t rest) same.0 (ap (λ (x : ℕ). x ∷ bytes) (eqb-true c d e1) ∙ ap (λ l. d ∷ l) same.1, refl, tt)
    by false true e1 e2 e = subst (λ (x : ℕ). Found (a_value d) (x ∷ bytes) t rest) (sym (eqb-true c 38 e2)) (reference_piece (a_value d) bytes t rest (λ q is. in_value_part d q rest is) e)
    by false false e1 e2 e =
        let l = lifted run_token (value_run d (c ∷ bytes)) t rest e in
        let found = (value_exact d).sound (c ∷ bytes) l.0 rest l.1 in
        subst (λ t. Found (a_value d) (c ∷ bytes) t rest) l.2 (found.0, (found.1.1, found.1.0), found.2)

tag_found : (gap after : List ℕ) (t : Token) (rest : List ℕ) → AreSpace gap → behind_gap gap after ≡ Some (t, rest) → Found a_tag (gap ++ after) t rest
unfolding behind_gap
tag_found gap [] t rest are e = absurd cc
tag_found gap (c ∷ bytes) t rest are e = by (eqb c 62) (eqb c 47) (first_is is_space gap) refl refl refl e
  where
    by : (a b d : Bool) → eqb c 62 ≡ a → eqb c 47 ≡ b → first_is is_space gap ≡ d
        → cond a (read (go_token gap) bytes) (cond b (as_read (λ (u : Unit {0}). shut_token gap) (word_of (62 ∷ []) bytes)) (cond d (as_read (attr_of gap) (attr_start (c ∷ bytes))) None)) ≡ Some (t, rest)
        → Found a_tag (gap ++ c ∷ bytes) t rest
    by true b d e1 e2 e3 e =
        let same = same_read (go_token gap) t bytes rest e in
        subst (λ t. Found a_tag (gap ++ c ∷ bytes) t rest) same.0
        (ap (λ (x : ℕ). gap ++ x ∷ bytes) (eqb-true c 62 e1) ∙ ap (λ l. gap ++ 62 ∷ l) same.1 ∙ sym (append_assoc gap (62 ∷ []) rest), are, tt)
    by false true d e1 e2 e3 e =
        let l = lifted (λ (u : Unit {0}). shut_token gap) (word_of (62 ∷ []) bytes) t rest e in
        let found = (word_exact (62 ∷ [])).sound bytes l.0 rest l.1 in
        subst (λ t. Found a_tag (gap ++ c ∷ bytes) t rest) l.2
        (ap (λ (x : ℕ). gap ++ x ∷ bytes) (eqb-true c 47 e2) ∙ ap (λ l. gap ++ 47 ∷ l) found.0 ∙ sym (append_assoc gap (47 ∷ 62 ∷ []) rest), are, tt)
    by false false true e1 e2 e3 e =
        let l = lifted (attr_of gap) (attr_start (c ∷ bytes)) t rest e in
        let found = attr_exact.sound (c ∷ bytes) l.0 rest l.1 in
        subst (λ t. Found a_tag (gap ++ c ∷ bytes) t rest) l.2
        (ap (λ l. gap ++ l) found.0 ∙ sym (append_assoc gap _ rest), ((e3, are), found.1.0.1, found.1.1.0, found.1.1.1.1.0, found.1.1.1.1.1), tt)
    by false false false e1 e2 e3 e = absurd cc

pub item_sound : (p : Where) (bytes : List ℕ) (t : Token) (rest : List ℕ) → item.item p bytes ≡ Some (t, rest) → Found p bytes t rest
item_sound content bytes t rest e = content_found bytes t rest e
item_sound a_tag bytes t rest e = subst (λ l. Found a_tag l t rest) (sym (front_skip is_space bytes)) (tag_found (front is_space bytes) (skip is_space bytes) t rest (front_passes is_space bytes) e)
item_sound (a_value d) bytes t rest e = value_found d bytes t rest e

-- ---- a piece takes bytes

some_first : (p : ℕ → Bool) (v : List ℕ) → first_is p v ≡ true → 0 < length v
some_first p [] is = absurd (false≢true is)
some_first p (c ∷ v) is = omega arith

doctype_some : (d : Doctype) → 0 < length (doctype_text d)
doctype_some d = omega arith

pub item_fits : (p : Where) (t : Token) → IsToken p t → 0 < length (token_text t)
item_fits content (part_token (run v)) is = some_first in_data v is.0.0
item_fits content (part_token (entity name)) is = omega arith
item_fits content (part_token (decimal digits)) is = omega arith
item_fits content (part_token (hexadecimal digits)) is = omega arith
item_fits content (cdata_token v) is = omega arith
item_fits content (comm_token v) is = omega arith
item_fits content (pi_token target gap v) is = omega arith
item_fits content (doctype_token v) is = subst (λ (l : List ℕ). 0 < length l) (sym is.2) (doctype_some is.0)
item_fits content (open_token name) is = omega arith
item_fits content (close_token name last) is = omega arith
item_fits a_tag (attr_token gap name before behind d) is =
    omega (arith, length-append gap (name ++ (before ++ 61 ∷ (behind ++ d ∷ []))), length-append name (before ++ 61 ∷ (behind ++ d ∷ [])), length-append before (61 ∷ (behind ++ d ∷ [])))
item_fits a_tag (go_token gap) is = omega (arith, length-append gap (62 ∷ []))
item_fits a_tag (shut_token gap) is = omega (arith, length-append gap (47 ∷ 62 ∷ []))
item_fits (a_value d) (part_token (run v)) is = some_first (in_value d) v is.0
item_fits (a_value d) (part_token (entity name)) is = omega arith
item_fits (a_value d) (part_token (decimal digits)) is = omega arith
item_fits (a_value d) (part_token (hexadecimal digits)) is = omega arith
item_fits (a_value d) (quote_token other) is = omega arith
item_fits p t is = absurd is

-- what is left is shorter
pub item_shorter : (p : Where) (bytes : List ℕ) (t : Token) (rest : List ℕ) → Some (t, rest) ≡ item.item p bytes → length rest < length bytes
item_shorter p bytes t rest e =
    let found = item_sound p bytes t rest (sym e) in
    omega (arith, ap length found.0, length-append (token_text t) rest, item_fits p t found.1)

pub no_piece : (p : Where) (t : Token) (after : List ℕ) → item.item p [] ≡ Some (t, after) → ⊥
unfolding in_content behind_gap in_quotes
no_piece content t after e = cc
no_piece a_tag t after e = cc
no_piece (a_value d) t after e = cc
