-- The value of an attribute, while it is gathered and where it is whole.
use Rattle.std.proofs.Common.{◌≡◌, ℕ, ◌+◌, ◌≤◌, true, List, [], ◌∷◌, ◌++◌, length, Option, refl, sym, ap, ◌∙◌, subst, arith, length-append}
use Rattle.std.specs.Char.{encode_utf8}
use Rattle.std.specs.Str.{IsUtf8}
use Rattle.std.proofs.lemmas.List.{map_push}
use Rattle.tree_model.specs.XmlChars.{is_xml_qname}
use Rattle.tree_model.specs.XmlGood.{number_from}
use Rattle.tree_model.specs.XmlMeaning as meaning
use Rattle.tree_model.specs.XmlMeaning.{Fault, part_faults, spaced, char_value, entity_value}
use Rattle.tree_model.specs.XmlSource.{run, decimal, hexadecimal}
use Rattle.tree_model.proofs.XmlUtf8.{utf8_append}
use Rattle.tree_model.proofs.Tables.{value_kept, value_new}
use Rattle.xml_pieces.specs.Tokens.{part_token}
use Rattle.xml_rows.specs.BuilderView.{tag_of, faults_of, IsTag, IsReady}
use Rattle.xml_rows.specs.Tagging.{pair_of, pairs_of, IsPair, ArePairs}
use Rattle.xml_rows.specs.Values.{Gathered}
use Rattle.xml_rows.specs.Work as work
use Rattle.xml_rows.specs.Work.{Work, or_first, first_of, works_at, in_value}
use Rattle.xml_rows.specs.declared.parts.Mode as state
use Rattle.xml_rows.specs.declared.parts.Fault as code
use Rattle.xml_rows.specs.declared.parts.Mode.TheVariants.{InValue}
use Rattle.xml_rows.specs.declared.parts.Tag.{Tag}
use Rattle.xml_rows.specs.declared.tag.Pair.{Pair}
use Rattle.xml_rows.proofs.Parted.{or_none}
use Rattle.xml_rows.proofs.Valued.{pairs_valued}

-- ---- what is kept

pub record IsValue (count rows : ℕ) (values : Gathered) (tag : Tag) : Type 0 where
  pub kept : IsTag count (rows + 1) values tag
  pub text : IsUtf8 values.pending
  pub key : is_xml_qname tag.key.now ≡ true

pub value_ready : (count rows : ℕ) (values : Gathered) (tag : Tag) (mode : state.Mode) → mode ≡ InValue → IsReady count rows values tag mode → IsValue count rows values tag
value_ready count rows values tag mode is ready = let all : IsReady count rows values tag InValue = subst (λ d. IsReady count rows values tag d) is ready in record { kept = all.0; text = all.1; key = all.2 }

pub ready_value : (count rows : ℕ) (values : Gathered) (tag : Tag) (mode : state.Mode) → mode ≡ InValue → IsValue count rows values tag → IsReady count rows values tag mode
ready_value count rows values tag mode is kept = subst (λ d. IsReady count rows values tag d) (sym is) (kept.kept, kept.text, kept.key)

-- more bytes of the value
pub value_more : (count rows : ℕ) (values more : Gathered) (tag : Tag) (text : List ℕ) → more.settled ≡ values.settled → more.pending ≡ values.pending ++ text → IsUtf8 text → IsValue count rows values tag → IsValue count rows more tag
value_more count rows values more tag text settled pending utf8 kept = record {
  kept = record { named = kept.kept.named; pairs = subst (λ l. ArePairs l tag.pairs.items) (sym settled) kept.kept.pairs; few = kept.kept.few };
  text = subst IsUtf8 (sym pending) (utf8_append values.pending text kept.text utf8);
  key = kept.key;
}

-- another fault in the tag
pub value_within : (count rows : ℕ) (values : Gathered) (tag other : Tag) → other.name ≡ tag.name → other.pairs ≡ tag.pairs → other.key ≡ tag.key → IsValue count rows values tag → IsValue count rows values other
value_within count rows values tag other name pairs key kept = record {
  kept = record {
    named = ap (λ n. is_xml_qname n.now) name ∙ kept.kept.named;
    pairs = subst (λ p. ArePairs values.settled p.items) (sym pairs) kept.kept.pairs;
    few = subst (λ p. rows + 1 + 1 + length p.items ≤ count) (sym pairs) kept.kept.few;
  };
  text = kept.text;
  key = ap (λ n. is_xml_qname n.now) key ∙ kept.key;
}

-- ---- the work

no_fault : (w : Work) (tag : work.Tag) (key value : List ℕ) (faults : List Fault) → faults ≡ [] → record w { mode = in_value tag key value } ≡ record w { mode = in_value (record tag { within = or_first tag.within (first_of faults) }) key value }
no_fault w tag key value faults none = ap (λ f. record w { mode = in_value (record tag { within = f }) key value }) (sym (ap (λ l. or_first tag.within (first_of l)) none ∙ or_none tag.within))

pub value_run : (w : Work) (tag : work.Tag) (key value bytes : List ℕ) → record w { mode = in_value tag key (value ++ spaced bytes) } ≡ works_at true (in_value tag key value) w (part_token (run bytes))
unfolding part_faults
value_run w tag key value bytes = no_fault w tag key (value ++ spaced bytes) (part_faults w.at (run bytes)) refl

pub value_decimal : (w : Work) (tag : work.Tag) (key value digits : List ℕ) (code : ℕ) → code ≡ number_from 10 0 digits → record w { mode = in_value tag key (value ++ encode_utf8 code) } ≡ works_at true (in_value tag key value) w (part_token (decimal digits))
unfolding part_faults char_value
value_decimal w tag key value digits code is = ap (λ n. record w { mode = in_value tag key (value ++ encode_utf8 n) }) is ∙ no_fault w tag key (value ++ char_value 10 digits) (part_faults w.at (decimal digits)) refl

pub value_hexadecimal : (w : Work) (tag : work.Tag) (key value digits : List ℕ) (code : ℕ) → code ≡ number_from 16 0 digits → record w { mode = in_value tag key (value ++ encode_utf8 code) } ≡ works_at true (in_value tag key value) w (part_token (hexadecimal digits))
unfolding part_faults char_value
value_hexadecimal w tag key value digits code is = ap (λ n. record w { mode = in_value tag key (value ++ encode_utf8 n) }) is ∙ no_fault w tag key (value ++ char_value 16 digits) (part_faults w.at (hexadecimal digits)) refl

pub mode_entity : (tag : Tag) (settled grown pending more text : List ℕ) (within : Option code.Fault) (fault : Option Fault) → grown ≡ settled → faults_of within ≡ fault → more ≡ pending ++ text
    → in_value (tag_of grown (record tag { within = within })) tag.key.now more ≡ in_value (record (tag_of settled tag) { within = fault }) tag.key.now (pending ++ text)
mode_entity tag settled grown pending more text within fault e1 e2 e3 =
    ap (λ s. in_value (tag_of s (record tag { within = within })) tag.key.now more) e1 ∙ ap (λ f. in_value (record (tag_of settled tag) { within = f }) tag.key.now more) e2
    ∙ ap (in_value (record (tag_of settled tag) { within = fault }) tag.key.now) e3

-- ---- the value is whole

abbrev pub pair_as : Pair → List ℕ → meaning.Pair
pair_as pair value = (pair.name.now, value)

pub pairs_quoted : (values value more : List ℕ) (pairs grown : List Pair) (pair : Pair) → more ≡ values ++ value → grown ≡ pairs ++ pair ∷ [] → pair.val.at ≡ length values → pair.val.len ≡ length value → ArePairs values pairs
    → pairs_of more grown ≡ pairs_of values pairs ++ pair_as pair value ∷ []
pairs_quoted values value more pairs grown pair is grown_is at len are =
    ap (λ v. pairs_of v grown) is ∙ ap (pairs_of (values ++ value)) grown_is ∙ map_push (pair_of (values ++ value)) pairs pair
    ∙ ap (λ l. l ++ pair_of (values ++ value) pair ∷ []) (pairs_valued values value pairs are) ∙ ap (λ v. pairs_of values pairs ++ pair_as pair v ∷ []) (value_new values value pair.val at len)

are_valued : (values more : List ℕ) (pairs : List Pair) → ArePairs values pairs → ArePairs (values ++ more) pairs
are_valued values more [] are = tt
are_valued values more (pair ∷ pairs) are = (
  record {
    within = omega (arith, are.0.within, length-append values more);
    text = subst IsUtf8 (sym (value_kept values more pair.val are.0.within)) are.0.text;
    named = are.0.named;
  },
  are_valued values more pairs are.1,
)

pairs_push : (values : List ℕ) (pairs : List Pair) (pair : Pair) → ArePairs values pairs → IsPair values pair → ArePairs values (pairs ++ pair ∷ [])
pairs_push values [] pair are is = (is, tt)
pairs_push values (other ∷ pairs) pair are is = (are.0, pairs_push values pairs pair are.1 is)

are_quoted : (values value more : List ℕ) (pairs grown : List Pair) (pair : Pair) → more ≡ values ++ value → grown ≡ pairs ++ pair ∷ [] → pair.val.at ≡ length values → pair.val.len ≡ length value → IsUtf8 value
    → is_xml_qname pair.name.now ≡ true → ArePairs values pairs → ArePairs more grown
are_quoted values value more pairs grown pair is grown_is at len text named are =
    let one : IsPair (values ++ value) pair = record { within = omega (arith, at, len, length-append values value); text = subst IsUtf8 (sym (value_new values value pair.val at len)) text; named = named } in
    let all : ArePairs (values ++ value) (pairs ++ pair ∷ []) = pairs_push (values ++ value) pairs pair (are_valued values value pairs are) one in
    subst (λ l. ArePairs l grown) (sym is) (subst (λ l. ArePairs (values ++ value) l) (sym grown_is) all)

pub tag_quoted : (count rows : ℕ) (values more : Gathered) (tag grown : Tag) (pair : Pair) → more.settled ≡ values.settled ++ values.pending → grown.name ≡ tag.name → grown.pairs.items ≡ tag.pairs.items ++ pair ∷ [] → pair.name ≡ tag.key
    → pair.val.at ≡ length values.settled → pair.val.len ≡ length values.pending → IsValue count rows values tag → IsTag count rows more grown
tag_quoted count rows values more tag grown pair is name pairs key at len kept = record {
  named = ap (λ n. is_xml_qname n.now) name ∙ kept.kept.named;
  pairs = are_quoted values.settled values.pending more.settled tag.pairs.items grown.pairs.items pair is pairs at len kept.text (ap (λ n. is_xml_qname n.now) key ∙ kept.key) kept.kept.pairs;
  few = omega (arith, kept.kept.few, ap length pairs, length-append tag.pairs.items (pair ∷ []));
}
