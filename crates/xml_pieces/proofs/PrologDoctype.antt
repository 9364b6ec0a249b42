-- The reader of a DOCTYPE is exact.
use Rattle.std.proofs.Common.{◌≡◌, ℕ, Bool, true, false, not, ◌&&◌, ◌||◌, cond, List, [], ◌∷◌, ◌++◌, drop, Option, Some, None, refl, sym, ap, ◌∙◌, append_assoc, subst}
use Rattle.std.specs.Prelude.{⊤, codes, ◌==◌}
use Rattle.std.specs.List.{list_all}
use Rattle.std.proofs.lemmas.Bool.{false≢true, eqb-true}
use Rattle.std.proofs.Math.Bool.{and-false}
use Rattle.tree_model.specs.XmlChars.{is_space, is_name_byte, is_xml_qname, first_is, begins_with}
use Rattle.tree_model.specs.XmlSource.{if_text, Literal, literal_text, External, external_text, word_text, Doctype, doctype_head}
use Rattle.tree_model.specs.XmlGood.{AreSpace, IsGap, IfThere, is_quote, is_pubid_char, is_any, IsLiteral, IsExternal, IsDoctype}
use Rattle.xml_pieces.specs.Readers.{Read, read, span, tested, word_of, both, as_read, IsExact}
use Rattle.xml_pieces.specs.Prolog.{in_literal, LiteralParts, literal_of, literal, pubid, external_of, external, DoctypeParts, doctype_of, doctype_front}
use Rattle.xml_pieces.proofs.Spans.{both_true}
use Rattle.xml_pieces.proofs.Readers.{same_read, same_byte, span_exact, one_exact, tested_exact, both_exact, both_ends, chain_exact, EndsIf, maybe_exact, as_exact, exact_as, begins_split, word_exact}
use Rattle.xml_pieces.proofs.PrologDecl.{gap_exact, gap_none}
use Rattle.xml_pieces.proofs.ByteClasses.{quote_no_space, qname_bytes}

-- ---- literals

abbrev literal_back : Literal → LiteralParts
literal_back q = (q.gap, (q.delim, (q.value, tt)))

literal_ends : (passes : ℕ → Bool) (d : ℕ) → in_literal passes d d ≡ false
literal_ends passes d = ap (λ b. passes d && not b) (same_byte d) ∙ and-false (passes d)

pub literal_exact : (passes : ℕ → Bool) → IsExact Literal (literal passes) literal_text (IsLiteral passes) (λ q rest. ⊤)
unfolding literal
literal_exact passes =
    exact_as (λ q. refl) (λ q f. record { gap = f.0; delim = f.1.0; value = f.1.1.0 }) (λ q f. (f.gap, (f.delim, (f.value, tt)))) (λ q rest e. tt) (λ q rest f e. tt)
    (as_exact literal_of literal_back (λ x. refl) (λ q. refl)
    (both_exact gap_exact
    (chain_exact (one_exact is_quote) (λ d. both_exact (span_exact (in_literal passes d)) (word_exact (d ∷ [])) (λ x y rest f g h. literal_ends passes d)) (λ x y rest f g h. tt))
    (λ x y rest f g h. quote_no_space y.0 g.0)))

-- ---- external identifiers

public_exact : IsExact (Unit {0} × Literal) (both (word_of (codes "PUBLIC")) (literal is_pubid_char)) (λ x. codes "PUBLIC" ++ literal_text x.1) (λ x. IsLiteral is_pubid_char x.1) (λ x rest. ⊤)
public_exact = exact_as (λ x. refl) (λ x f. f.1) (λ x f. (tt, f)) (λ x rest e. tt) (λ x rest f e. tt) (both_exact (word_exact (codes "PUBLIC")) (literal_exact is_pubid_char) (λ x y rest f g h. tt))

abbrev public : List ℕ → Read (Unit {0} × Literal)
public bytes = both (word_of (codes "PUBLIC")) (literal is_pubid_char) bytes

abbrev some_literal : Unit {0} × Literal → Option Literal
some_literal x = Some x.1

abbrev IsPubid : List ℕ → Option Literal → List ℕ → Type 0
IsPubid bytes x rest = (bytes ≡ word_text x ++ rest) × IfThere (IsLiteral is_pubid_char) x × ⊤

pub pubid_exact : IsExact (Option Literal) pubid word_text (IfThere (IsLiteral is_pubid_char)) (λ x rest. ⊤)
unfolding pubid
pubid_exact = record { sound = λ bytes x rest e. by bytes x rest (begins_with (codes "SYSTEM") bytes) refl (public bytes) refl e; complete = full }
  where
    by : (bytes : List ℕ) (x : Option Literal) (rest : List ℕ) (b : Bool) → begins_with (codes "SYSTEM") bytes ≡ b → (r : Read (Unit {0} × Literal)) → public bytes ≡ r
        → cond b (read None (drop 6 bytes)) (as_read some_literal r) ≡ Some (x, rest) → IsPubid bytes x rest
    by bytes x rest true is r was e =
        let same = same_read None x (drop 6 bytes) rest e in
        let found : IsPubid bytes None (drop 6 bytes) = (begins_split (codes "SYSTEM") bytes is, tt, tt) in
        subst (λ l. IsPubid bytes x l) same.1 (subst (λ (y : Option Literal). IsPubid bytes y (drop 6 bytes)) same.0 found)
    by bytes x rest false is None was e = absurd cc
    by bytes x rest false is (Some y) was e =
        let same = same_read (Some y.0.1) x y.1 rest e in
        let here = public_exact.sound bytes y.0 y.1 was in
        let found : IsPubid bytes (Some y.0.1) y.1 = (here.0, here.1, tt) in
        subst (λ l. IsPubid bytes x l) same.1 (subst (λ (z : Option Literal). IsPubid bytes z y.1) same.0 found)

    full : (x : Option Literal) (rest : List ℕ) → IfThere (IsLiteral is_pubid_char) x → ⊤ → pubid (word_text x ++ rest) ≡ Some (x, rest)
    full None rest fits ends = refl
    full (Some q) rest fits ends = ap (as_read some_literal) (public_exact.complete (tt, q) rest fits tt)

abbrev external_back : External → List ℕ × (Option Literal × Literal)
external_back e = (e.gap, (e.pubid, e.system))

word_no_space : (x : Option Literal) (rest : List ℕ) → first_is is_space (word_text x ++ rest) ≡ false
word_no_space None rest = refl
word_no_space (Some q) rest = refl

pub external_exact : IsExact External external external_text IsExternal (λ e rest. ⊤)
unfolding external
external_exact =
    exact_as (λ e. refl) (λ e f. record { gap = f.0; pubid = f.1.0; system = f.1.1 }) (λ e f. (f.gap, (f.pubid, f.system))) (λ e rest h. tt) (λ e rest f h. tt)
    (as_exact external_of external_back (λ x. refl) (λ e. refl)
    (both_exact gap_exact (both_exact pubid_exact (literal_exact is_any) (λ x y rest f g h. tt))
    (λ x y rest f g h. ap (first_is is_space) (append_assoc (word_text y.0) (literal_text y.1) rest) ∙ word_no_space y.0 _)))

-- ---- a DOCTYPE up to what ends it

name_exact : IsExact (List ℕ) (λ bytes. tested is_xml_qname (span is_name_byte bytes)) (λ v. v) (λ v. is_xml_qname v ≡ true) (λ v rest. first_is is_name_byte rest ≡ false)
name_exact = exact_as (λ v. refl) (λ v f. f.1) (λ v f. ((qname_bytes v f).1, f)) (λ v rest e. e) (λ v rest f e. e) (tested_exact is_xml_qname (span_exact is_name_byte))

-- the end of a DOCTYPE that has no internal subset, or its beginning
abbrev pub is_doctype_end : ℕ → Bool
is_doctype_end c = c == 62 || c == 91

byte_name : (c : ℕ) → is_space c ≡ true → is_name_byte c ≡ false
byte_name c is = by (c == 32) refl (c == 9) refl (c == 10) refl (c == 13) refl is
  where
    at : (d : ℕ) → (c == d) ≡ true → is_name_byte d ≡ false → is_name_byte c ≡ false
    at d e f = ap is_name_byte (eqb-true c d e) ∙ f

    by : (a : Bool) → (c == 32) ≡ a → (b : Bool) → (c == 9) ≡ b → (x : Bool) → (c == 10) ≡ x → (y : Bool) → (c == 13) ≡ y → (a || b || x || y) ≡ true → is_name_byte c ≡ false
    by true e b f x g y h i = at 32 e refl
    by false e true f x g y h i = at 9 f refl
    by false e false f true g y h i = at 10 g refl
    by false e false f false g true h i = at 13 h refl
    by false e false f false g false h i = absurd (false≢true i)

end_cases : (c : ℕ) → is_doctype_end c ≡ true → (P : ℕ → Type 0) → P 62 → P 91 → P c
end_cases c is P past inner = by (c == 62) refl (c == 91) refl is
  where
    by : (a : Bool) → (c == 62) ≡ a → (b : Bool) → (c == 91) ≡ b → (a || b) ≡ true → P c
    by true e b g h = subst P (sym (eqb-true c 62 e)) past
    by false e true g h = subst P (sym (eqb-true c 91 g)) inner
    by false e false g h = absurd (false≢true h)

-- white space, and then a byte that is no byte of a name
space_name : (gap rest : List ℕ) → AreSpace gap → first_is is_name_byte rest ≡ false → first_is is_name_byte (gap ++ rest) ≡ false
space_name [] rest space stops = stops
space_name (c ∷ gap) rest space stops = byte_name c (both_true (is_space c) (list_all is_space gap) space).0

pub gap_name : (gap u v rest : List ℕ) → IsGap gap → first_is is_name_byte (((gap ++ u) ++ v) ++ rest) ≡ false
gap_name [] u v rest is = absurd (false≢true is.0)
gap_name (c ∷ gap) u v rest is = byte_name c is.0

name_space : (c : ℕ) → is_name_byte c ≡ true → is_space c ≡ false
name_space c is = by (is_space c) refl
  where
    by : (b : Bool) → is_space c ≡ b → is_space c ≡ false
    by true e = absurd (false≢true (sym (byte_name c e) ∙ is))
    by false e = e

name_first : (v rest : List ℕ) → first_is is_name_byte v ≡ true → first_is is_space (v ++ rest) ≡ false
name_first [] rest e = absurd (false≢true e)
name_first (c ∷ v) rest e = name_space c e

-- what must follow a DOCTYPE for its parts to end
abbrev DoctypeEnds : Doctype → List ℕ → Type 0
DoctypeEnds d rest =
    (first_is is_name_byte ((if_text external_text d.external ++ d.last) ++ rest) ≡ false) × (EndsIf external (λ e l. ⊤) d.external (d.last ++ rest) × (first_is is_space rest ≡ false))

abbrev doctype_back : Doctype → DoctypeParts
doctype_back d = (tt, (d.gap, (d.name, (d.external, d.last))))

-- behind its < and !
abbrev pub front_text : Doctype → List ℕ
front_text d = codes "DOCTYPE" ++ (d.gap ++ (d.name ++ (if_text external_text d.external ++ d.last)))

doctype_exact : IsExact Doctype doctype_front front_text IsDoctype DoctypeEnds
unfolding doctype_front
doctype_exact =
    exact_as (λ d. refl) (λ d f. record { gap = f.1.0; named = f.1.1.0; external = f.1.1.1.0; blank = f.1.1.1.1 }) (λ d f. (tt, (f.gap, (f.named, (f.external, f.blank))))) (λ d rest e. e) (λ d rest f e. e)
    (as_exact doctype_of doctype_back (λ x. refl) (λ d. refl)
    (both_exact (word_exact (codes "DOCTYPE"))
    (both_exact gap_exact (both_ends name_exact (both_ends (maybe_exact external_exact) (span_exact is_space)))
    (λ x y rest f g h. ap (first_is is_space) (append_assoc y.0 _ rest) ∙ name_first y.0 _ (qname_bytes y.0 g.0).0))
    (λ x y rest f g h. tt)))

pub doctype_front_sound : (bytes : List ℕ) (d : Doctype) (rest : List ℕ) → doctype_front bytes ≡ Some (d, rest) → (codes "<!" ++ bytes ≡ doctype_head d ++ rest) × IsDoctype d
doctype_front_sound bytes d rest e = let found = doctype_exact.sound bytes d rest e in (ap (λ l. codes "<!" ++ l) found.0, found.1)

external_none : (gap : List ℕ) (c : ℕ) (rest : List ℕ) → AreSpace gap → is_doctype_end c ≡ true → external (gap ++ c ∷ rest) ≡ None
unfolding external pubid
external_none gap c rest space is =
    ap (as_read external_of) (gap_none (both pubid (literal is_any)) gap (c ∷ rest) space (end_cases c is (λ d. is_space d ≡ false) refl refl)
    (end_cases c is (λ d. both pubid (literal is_any) (d ∷ rest) ≡ None) refl refl))

ends_before : (d : Doctype) (c : ℕ) (rest : List ℕ) → IsDoctype d → is_doctype_end c ≡ true → DoctypeEnds d (c ∷ rest)
ends_before d c rest good is = by d.external good.external
  where
    by : (x : Option External) → IfThere IsExternal x
        → (first_is is_name_byte ((if_text external_text x ++ d.last) ++ c ∷ rest) ≡ false) × (EndsIf external (λ e l. ⊤) x (d.last ++ c ∷ rest) × (is_space c ≡ false))
    by None fits = (space_name d.last (c ∷ rest) good.blank (end_cases c is (λ e. is_name_byte e ≡ false) refl refl), (external_none d.last c rest good.blank is, end_cases c is (λ e. is_space e ≡ false) refl refl))
    by (Some x) fits = (gap_name x.gap _ d.last (c ∷ rest) fits.gap, (tt, end_cases c is (λ e. is_space e ≡ false) refl refl))

pub doctype_front_before : (d : Doctype) (c : ℕ) (rest : List ℕ) → IsDoctype d → is_doctype_end c ≡ true → (bytes : List ℕ) → codes "<!" ++ bytes ≡ doctype_head d ++ c ∷ rest → doctype_front bytes ≡ Some (d, c ∷ rest)
doctype_front_before d c rest good is bytes e =
    let same : bytes ≡ front_text d ++ c ∷ rest = ap (λ l. drop 2 l) e in
    ap doctype_front same ∙ doctype_exact.complete d (c ∷ rest) good (ends_before d c rest good is)

-- before its >
pub doctype_front_complete : (d : Doctype) (rest : List ℕ) → IsDoctype d → (bytes : List ℕ) → codes "<!" ++ bytes ≡ doctype_head d ++ 62 ∷ rest → doctype_front bytes ≡ Some (d, 62 ∷ rest)
doctype_front_complete d rest good bytes e = doctype_front_before d 62 rest good refl bytes e

-- before the [ of an internal subset
pub doctype_front_subset : (d : Doctype) (rest : List ℕ) → IsDoctype d → (bytes : List ℕ) → codes "<!" ++ bytes ≡ doctype_head d ++ 91 ∷ rest → doctype_front bytes ≡ Some (d, 91 ∷ rest)
doctype_front_subset d rest good bytes e = doctype_front_before d 91 rest good refl bytes e
