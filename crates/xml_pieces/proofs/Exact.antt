-- The readers of pieces are exact.
use Rattle.std.proofs.Common.{◌≡◌, ℕ, true, false, List, [], ◌∷◌, ◌++◌, Some, None, refl, sym, ap, ◌∙◌, subst, append_assoc}
use Rattle.std.specs.Prelude.{⊤, codes}
use Rattle.std.specs.List.{list_all}
use Rattle.std.specs.Char.{is_ascii_digit, is_ascii_hexdigit}
use Rattle.tree_model.specs.XmlChars.{is_space, is_name_byte, is_xml_ncname, is_xml_qname, first_is, is_free}
use Rattle.tree_model.specs.XmlGood.{AreSpace, is_quote, is_decimal, is_hexadecimal, in_value, in_data, is_pi_target, IsRest}
use Rattle.xml_pieces.specs.Readers.{Read, read, word_of, as_read, IsExact}
use Rattle.xml_pieces.specs.Item.{ncname, qname, entity_reference, decimal_reference, hexadecimal_reference, is_data_run, data_run, value_run, close_tag, comment, cdata_section, pi_rest, instruction, attr_start}
use Rattle.xml_pieces.proofs.Spans.{both_true}
use Rattle.xml_pieces.proofs.ByteClasses.{space_no_name, quote_no_space, space_before}
use Rattle.xml_pieces.proofs.Readers.{same_read, span_exact, one_exact, tested_exact, both_exact, chain_ends, word_exact, until_exact}

-- ---- names

pub ncname_exact : IsExact (List ℕ) ncname (λ v. v) (λ v. (list_all is_name_byte v ≡ true) × (is_xml_ncname v ≡ true)) (λ v rest. first_is is_name_byte rest ≡ false)
ncname_exact = tested_exact is_xml_ncname (span_exact is_name_byte)

pub qname_exact : IsExact (List ℕ) qname (λ v. v) (λ v. (list_all is_name_byte v ≡ true) × (is_xml_qname v ≡ true)) (λ v rest. first_is is_name_byte rest ≡ false)
qname_exact = tested_exact is_xml_qname (span_exact is_name_byte)

-- ---- references

pub entity_exact : IsExact (List ℕ × Unit {0}) entity_reference (λ x. x.0 ++ 59 ∷ []) (λ x. ((list_all is_name_byte x.0 ≡ true) × (is_xml_ncname x.0 ≡ true)) × ⊤) (λ x rest. ⊤)
unfolding entity_reference
entity_exact = both_exact ncname_exact (word_exact (59 ∷ [])) (λ x y rest f g h. refl)

pub decimal_exact : IsExact (List ℕ × Unit {0}) decimal_reference (λ x. x.0 ++ 59 ∷ []) (λ x. ((list_all is_ascii_digit x.0 ≡ true) × (is_decimal x.0 ≡ true)) × ⊤) (λ x rest. ⊤)
unfolding decimal_reference
decimal_exact = both_exact (tested_exact is_decimal (span_exact is_ascii_digit)) (word_exact (59 ∷ [])) (λ x y rest f g h. refl)

pub hexadecimal_exact : IsExact (List ℕ × Unit {0}) hexadecimal_reference (λ x. x.0 ++ 59 ∷ []) (λ x. ((list_all is_ascii_hexdigit x.0 ≡ true) × (is_hexadecimal x.0 ≡ true)) × ⊤) (λ x rest. ⊤)
unfolding hexadecimal_reference
hexadecimal_exact = both_exact (tested_exact is_hexadecimal (span_exact is_ascii_hexdigit)) (word_exact (59 ∷ [])) (λ x y rest f g h. refl)

-- ---- runs

pub data_exact : IsExact (List ℕ) data_run (λ v. v) (λ v. (list_all in_data v ≡ true) × (is_data_run v ≡ true)) (λ v rest. first_is in_data rest ≡ false)
unfolding data_run
data_exact = tested_exact is_data_run (span_exact in_data)

pub value_exact : (d : ℕ) → IsExact (List ℕ) (value_run d) (λ v. v) (λ v. (list_all (in_value d) v ≡ true) × (first_is (in_value d) v ≡ true)) (λ v rest. first_is (in_value d) rest ≡ false)
unfolding value_run
value_exact d = tested_exact (first_is (in_value d)) (span_exact (in_value d))

-- ---- markup

abbrev pub FitsClose : List ℕ × (List ℕ × Unit {0}) → Type 0
FitsClose x = ((list_all is_name_byte x.0 ≡ true) × (is_xml_qname x.0 ≡ true)) × (AreSpace x.1.0 × ⊤)

pub close_exact : IsExact (List ℕ × (List ℕ × Unit {0})) close_tag (λ x. x.0 ++ (x.1.0 ++ 62 ∷ [])) FitsClose (λ x rest. ⊤)
unfolding close_tag
close_exact = both_exact qname_exact (both_exact (span_exact is_space) (word_exact (62 ∷ [])) (λ x y rest f g h. refl))
    (λ x y rest f g h. ap (first_is is_name_byte) (append_assoc y.0 (62 ∷ []) rest) ∙ space_before is_name_byte space_no_name y.0 (62 ∷ rest) g.0 refl)

pub comment_exact : IsExact (Unit {0} × (List ℕ × Unit {0})) comment (λ x. codes "--" ++ ((x.1.0 ++ codes "--") ++ 62 ∷ [])) (λ x. ⊤ × ((is_free (codes "--") x.1.0 ≡ true) × ⊤)) (λ x rest. ⊤)
unfolding comment
comment_exact = both_exact (word_exact (codes "--")) (both_exact (until_exact 45 (45 ∷ [])) (word_exact (62 ∷ [])) (λ x y rest f g h. tt)) (λ x y rest f g h. tt)

pub cdata_exact : IsExact (Unit {0} × List ℕ) cdata_section (λ x. codes "[CDATA[" ++ (x.1 ++ codes "]]>")) (λ x. ⊤ × (is_free (codes "]]>") x.1 ≡ true)) (λ x rest. ⊤)
unfolding cdata_section
cdata_exact = both_exact (word_exact (codes "[CDATA[")) (until_exact 93 (93 ∷ 62 ∷ [])) (λ x y rest f g h. tt)

-- ---- instructions

abbrev pub FitsRest : List ℕ → List ℕ → Type 0
FitsRest [] v = v ≡ []
FitsRest (c ∷ gap) v = is_free (codes "?>") v ≡ true

pub lifted : {A B : Type 0} (f : A → B) (r : Read A) (y : B) (rest : List ℕ) → as_read f r ≡ Some (y, rest) → (x : A) × (r ≡ Some (x, rest)) × (f x ≡ y)
lifted f None y rest e = absurd cc
lifted f (Some x) y rest e =
    let same = same_read (f x.0) y x.1 rest e in
    (x.0, ap (λ l. read x.0 l) same.1, same.0)

abbrev nothing : Unit {0} → List ℕ
nothing u = []

rest_exact : (gap : List ℕ) → IsExact (List ℕ) (pi_rest gap) (λ v. v ++ codes "?>") (FitsRest gap) (λ v rest. ⊤)
rest_exact [] = record {
  sound = λ bytes x rest e.
      let l = lifted nothing (word_of (codes "?>") bytes) x rest e in
      let found = (word_exact (codes "?>")).sound bytes l.0 rest l.1 in
      (found.0 ∙ ap (λ (v : List ℕ). (v ++ codes "?>") ++ rest) l.2, sym l.2, tt);
  complete = λ x rest fits ends. subst (λ (v : List ℕ). pi_rest [] ((v ++ codes "?>") ++ rest) ≡ Some (v, rest)) (sym fits) refl;
}
rest_exact (c ∷ gap) = until_exact 63 (62 ∷ [])

abbrev pub Instruction : Type 0
Instruction = List ℕ × (List ℕ × List ℕ)

abbrev pub FitsInstruction : Instruction → Type 0
FitsInstruction x = ((list_all is_name_byte x.0 ≡ true) × (is_pi_target x.0 ≡ true)) × (AreSpace x.1.0 × FitsRest x.1.0 x.1.1)

abbrev pub EndsInstruction : Instruction → List ℕ → Type 0
EndsInstruction x rest = (first_is is_space ((x.1.1 ++ codes "?>") ++ rest) ≡ false) × ⊤

-- a target ends at white space or at the ? of the end
target_ends : (gap v rest : List ℕ) → AreSpace gap → FitsRest gap v → first_is is_name_byte ((gap ++ (v ++ codes "?>")) ++ rest) ≡ false
target_ends [] v rest are fits = ap (λ (l : List ℕ). first_is is_name_byte ((l ++ codes "?>") ++ rest)) fits
target_ends (c ∷ gap) v rest are fits = space_no_name c (both_true (is_space c) (list_all is_space gap) are).0

pub instruction_exact : IsExact Instruction instruction (λ x. x.0 ++ (x.1.0 ++ (x.1.1 ++ codes "?>"))) FitsInstruction EndsInstruction
unfolding instruction
instruction_exact = both_exact (tested_exact is_pi_target (span_exact is_name_byte)) (chain_ends (span_exact is_space) rest_exact) (λ x y rest f g h. target_ends y.0 y.1 rest g.0 g.1)

-- the rest begins behind the white space
pub rest_begins : (gap v rest : List ℕ) → FitsRest gap v → first_is is_space ((v ++ codes "?>") ++ rest) ≡ false → IsRest gap v × (is_free (codes "?>") v ≡ true)
rest_begins [] v rest fits ends = (fits, ap (is_free (codes "?>")) fits)
rest_begins (c ∷ gap) [] rest fits ends = (refl, fits)
rest_begins (c ∷ gap) (d ∷ v) rest fits ends = (ends, fits)

pub rest_fits : (gap v : List ℕ) → IsRest gap v → is_free (codes "?>") v ≡ true → FitsRest gap v
rest_fits [] v is free = is
rest_fits (c ∷ gap) v is free = free

pub rest_ends : (gap v rest : List ℕ) → IsRest gap v → first_is is_space ((v ++ codes "?>") ++ rest) ≡ false
rest_ends [] v rest is = ap (λ (l : List ℕ). first_is is_space ((l ++ codes "?>") ++ rest)) is
rest_ends (c ∷ gap) [] rest is = refl
rest_ends (c ∷ gap) (d ∷ v) rest is = is

-- ---- attributes

abbrev pub AttrStart : Type 0
AttrStart = List ℕ × (List ℕ × (Unit {0} × (List ℕ × ℕ)))

abbrev pub FitsAttr : AttrStart → Type 0
FitsAttr x = ((list_all is_name_byte x.0 ≡ true) × (is_xml_qname x.0 ≡ true)) × (AreSpace x.1.0 × (⊤ × (AreSpace x.1.1.1.0 × (is_quote x.1.1.1.1 ≡ true))))

pub attr_exact : IsExact AttrStart attr_start (λ x. x.0 ++ (x.1.0 ++ (61 ∷ (x.1.1.1.0 ++ x.1.1.1.1 ∷ [])))) FitsAttr (λ x rest. ⊤)
unfolding attr_start
attr_exact = both_exact qname_exact (both_exact (span_exact is_space) (both_exact (word_exact (61 ∷ [])) (both_exact (span_exact is_space) (one_exact is_quote) (λ x y rest f g h. quote_no_space y g)) (λ x y rest f g h. tt))
    (λ x y rest f g h. refl))
    (λ x y rest f g h. ap (first_is is_name_byte) (append_assoc y.0 _ rest) ∙ space_before is_name_byte space_no_name y.0 _ g.0 refl)
