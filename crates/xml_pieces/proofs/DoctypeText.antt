-- A whole DOCTYPE is the text up to what follows it.
use Rattle.std.proofs.Common.{◌≡◌, ℕ, ◌-◌, ◌≤◌, List, [], ◌∷◌, ◌++◌, length, length-append, take, Option, Some, None, refl, sym, ap, ◌∙◌, arith, append_assoc}
use Rattle.std.specs.Prelude.{codes}
use Rattle.std.specs.Option.{option_map, option_and_then}
use Rattle.std.proofs.Math.Seq.{take-append_seam}
use Rattle.tree_model.specs.XmlSource.{Doctype, doctype_head, doctype_text}
use Rattle.xml_pieces.specs.Readers.{Read, read, word_of, then_second, as_read}
use Rattle.xml_pieces.specs.Prolog.{doctype_front}
use Rattle.xml_pieces.specs.Item.{doctype}
use Rattle.xml_pieces.proofs.Readers.{word_exact}
use Rattle.xml_pieces.proofs.PrologDoctype.{doctype_front_sound}

abbrev behind : Option (Doctype × List ℕ) → Option (List ℕ)
behind r = option_map (λ (x : Doctype × List ℕ). x.1) r

abbrev whole_of : Doctype × Unit {0} → List ℕ
whole_of x = doctype_text x.0

-- what stands before the rest
front_is : (text rest whole : List ℕ) → whole ≡ text ++ rest → take (length whole - length rest) whole ≡ text
front_is text rest whole is =
    let size : length whole - length rest ≡ length text = omega (arith, ap length is, length-append text rest) in
    ap (λ n. take n whole) size ∙ ap (take (length text)) is ∙ take-append_seam text rest

spelled : (whole bytes after rest : List ℕ) (d : Doctype) → whole ≡ codes "<!" ++ bytes → doctype_front bytes ≡ Some (d, after) → word_of (62 ∷ []) after ≡ Some (tt, rest) → whole ≡ doctype_text d ++ rest
spelled whole bytes after rest d is front end =
    is ∙ (doctype_front_sound bytes d after front).0 ∙ ap (λ l. doctype_head d ++ l) ((word_exact (62 ∷ [])).sound after tt rest end).0 ∙ sym (append_assoc (doctype_head d) (62 ∷ []) rest)

pub rest_within : (whole bytes after rest : List ℕ) → whole ≡ codes "<!" ++ bytes → Some after ≡ behind (doctype_front bytes) → Some (tt, rest) ≡ word_of (62 ∷ []) after → length rest ≤ length whole
rest_within whole bytes after rest is front end = by (doctype_front bytes) refl front
  where
    by : (r : Read Doctype) → doctype_front bytes ≡ r → Some after ≡ behind r → length rest ≤ length whole
    by None was e = absurd cc
    by (Some x) was e =
        let same : x.1 ≡ after = cc in
        let all = spelled whole bytes after rest x.0 is (was ∙ ap (λ l. read x.0 l) same) (sym end) in
        omega (arith, ap length all, length-append (doctype_text x.0) rest)

pub whole_doctype : (whole bytes after rest : List ℕ) → whole ≡ codes "<!" ++ bytes → Some after ≡ behind (doctype_front bytes) → Some (tt, rest) ≡ word_of (62 ∷ []) after
    → Some (take (length whole - length rest) whole, rest) ≡ as_read whole_of (doctype bytes)
unfolding doctype
whole_doctype whole bytes after rest is front end = by (doctype_front bytes) refl front
  where
    by : (r : Read Doctype) → doctype_front bytes ≡ r → Some after ≡ behind r
        → Some (take (length whole - length rest) whole, rest) ≡ as_read whole_of (option_and_then (λ (x : Doctype × List ℕ). then_second x.0 (word_of (62 ∷ []) x.1)) r)
    by None was e = absurd cc
    by (Some x) was e =
        let same : x.1 ≡ after = cc in
        let all = spelled whole bytes after rest x.0 is (was ∙ ap (λ l. read x.0 l) same) (sym end) in
        ap (λ l. read l rest) (front_is (doctype_text x.0) rest whole all)
        ∙ ap (λ (r : Read (Unit {0})). as_read whole_of (then_second x.0 r)) (end ∙ ap (word_of (62 ∷ [])) (sym same))
