-- Each row takes a byte of the text at least.
use Rattle.std.proofs.Common.{◌≡◌, ℕ, suc, zero, ◌+◌, ◌-◌, ◌≤◌, Bool, true, false, cond, List, [], ◌∷◌, ◌++◌, length, refl, ap, ◌∙◌, arith, length-append}
use Rattle.std.proofs.lemmas.List.{length-map}
use Rattle.std.specs.List.{flat_map}
use Rattle.tree_model.specs.Forest.{Line}
use Rattle.tree_model.specs.Labels.{Label, text_label}
use Rattle.tree_model.specs.XmlSource.{Part, run, entity, decimal, hexadecimal, part_text}
use Rattle.tree_model.specs.XmlMeaning.{Pair, Scope, with_attrs, value_in_text, line_ends, is_kept_text, tag_label, attr_label, attr_labels, comm_label, pi_label, is_declaration, plain_attrs}
use Rattle.xml_pieces.specs.Tokens.{Token, part_token, cdata_token, comm_token, pi_token, open_token, attr_token, quote_token, go_token, shut_token, close_token, token_text}
use Rattle.xml_rows.specs.Work.{Mode, in_content, in_tag, in_value, Work, top, leaf, with_leaf, with_tag, sized, ended, with_text, gathered_more, works_at, works, all_works, begin_work}
use Rattle.xml_rows.proofs.WorkingTrees.{length-with_tag}

-- the rows that are still to come: one for the text that was gathered, and one for each attribute of the tag
abbrev pub text_weight : List ℕ → ℕ
text_weight [] = 0
text_weight (c ∷ bytes) = 1

abbrev pub mode_weight : Mode → ℕ
mode_weight in_content = 0
mode_weight (in_tag tag) = length tag.pairs
mode_weight (in_value tag key value) = length tag.pairs

abbrev pub weight : Work → ℕ
weight w = length w.lines + text_weight w.gathered + mode_weight w.mode

text_weight-append : (a b : List ℕ) (n : ℕ) → text_weight b ≤ n → text_weight (a ++ b) ≤ text_weight a + n
text_weight-append [] b n h = omega arith
text_weight-append (c ∷ a) b n h = omega arith

more_weight : (open_at a b : List ℕ) (n : ℕ) → text_weight b ≤ n → text_weight (gathered_more open_at a b) ≤ text_weight a + n
more_weight [] a b n h = omega arith
more_weight (place ∷ up) a b n h = text_weight-append a b n h

any_weight : (bytes : List ℕ) → text_weight bytes ≤ 1
any_weight [] = omega arith
any_weight (c ∷ bytes) = omega arith

part_weight : (p : Part) → text_weight (value_in_text p) ≤ length (part_text p)
unfolding line_ends
part_weight (run []) = omega arith
part_weight (run (c ∷ bytes)) = omega (arith, any_weight (value_in_text (run (c ∷ bytes))))
part_weight (entity name) = omega (arith, any_weight (value_in_text (entity name)))
part_weight (decimal digits) = omega (arith, any_weight (value_in_text (decimal digits)))
part_weight (hexadecimal digits) = omega (arith, any_weight (value_in_text (hexadecimal digits)))

pub length-with_leaf : (label : Label) (ls : List (Line Label)) (open_at : List ℕ) → length (with_leaf label ls open_at) ≡ length ls + 1
length-with_leaf label ls open_at = omega (arith, length-append ls (leaf (length ls) (length ls - top open_at) label ∷ []))

pub with_text_most : (strip : Bool) (w : Work) → length (with_text strip w) ≤ length w.lines + text_weight w.gathered
with_text_most strip w = by w.gathered
  where
    kept : (b : Bool) (bytes : List ℕ) → length (cond b (with_leaf (text_label bytes) w.lines w.open_at) w.lines) ≤ length w.lines + 1
    kept true bytes = omega (arith, length-with_leaf (text_label bytes) w.lines w.open_at)
    kept false bytes = omega arith

    by : (bytes : List ℕ) → length (cond (is_kept_text strip bytes) (with_leaf (text_label bytes) w.lines w.open_at) w.lines) ≤ length w.lines + text_weight bytes
    by [] = omega arith
    by (c ∷ bytes) = kept (is_kept_text strip (c ∷ bytes)) (c ∷ bytes)

pub length-sized : (size place : ℕ) (ls : List (Line Label)) → length (sized size place ls) ≡ length ls
length-sized size place [] = refl
length-sized size zero (line ∷ ls) = refl
length-sized size (suc place) (line ∷ ls) = ap suc (length-sized size place ls)

pub length-ended : (open_at : List ℕ) (ls : List (Line Label)) → length (ended open_at ls) ≡ length ls
length-ended [] ls = refl
length-ended (place ∷ up) ls = length-sized (length ls - place) place ls

plain_most : (pairs : List Pair) → length (plain_attrs pairs) ≤ length pairs
unfolding plain_attrs
plain_most [] = omega arith
plain_most (a ∷ pairs) = by (is_declaration a.0) (plain_most pairs)
  where
    by : (b : Bool) → length (plain_attrs pairs) ≤ length pairs → length (cond b (plain_attrs pairs) (a ∷ plain_attrs pairs)) ≤ suc (length pairs)
    by true h = omega arith
    by false h = omega arith

pub tag_most : (inside : Scope) (name : List ℕ) (pairs : List Pair) (ls : List (Line Label)) (open_at : List ℕ)
    → length (with_tag (tag_label inside name pairs) (attr_labels inside pairs) ls open_at) ≤ length ls + (1 + length pairs)
tag_most inside name pairs ls open_at =
    omega (arith, length-with_tag (tag_label inside name pairs) (attr_labels inside pairs) ls open_at, length-map (plain_attrs pairs) (attr_label inside), plain_most pairs)

step_weight : (strip : Bool) (mode : Mode) (w : Work) (t : Token) → w.mode ≡ mode
    → weight (works_at strip mode w t) ≤ length w.lines + text_weight w.gathered + mode_weight mode + length (token_text t)
step_weight strip in_content w (part_token p) is = omega (arith, ap mode_weight is, more_weight w.open_at w.gathered (value_in_text p) (length (part_text p)) (part_weight p))
step_weight strip in_content w (cdata_token bytes) is = omega (arith, ap mode_weight is, more_weight w.open_at w.gathered (line_ends bytes) 1 (any_weight (line_ends bytes)))
step_weight strip in_content w (comm_token bytes) is = omega (arith, ap mode_weight is, with_text_most strip w, length-with_leaf (comm_label bytes) (with_text strip w) w.open_at)
step_weight strip in_content w (pi_token target gap bytes) is = omega (arith, ap mode_weight is, with_text_most strip w, length-with_leaf (pi_label target bytes) (with_text strip w) w.open_at)
step_weight strip in_content w (open_token name) is = omega (arith, with_text_most strip w)
step_weight strip in_content w (close_token name last) is = omega (arith, ap mode_weight is, with_text_most strip w, length-ended w.open_at (with_text strip w))
step_weight strip (in_tag tag) w (attr_token gap key before behind delim) is = omega arith
step_weight strip (in_tag tag) w (go_token gap) is = omega (arith, tag_most (with_attrs tag.pairs w.scope) tag.name tag.pairs w.lines w.open_at, length-append gap (62 ∷ []))
step_weight strip (in_tag tag) w (shut_token gap) is = omega (arith, tag_most (with_attrs tag.pairs w.scope) tag.name tag.pairs w.lines w.open_at, length-append gap (47 ∷ 62 ∷ []))
step_weight strip (in_value tag key value) w (part_token p) is = omega arith
step_weight strip (in_value tag key value) w (quote_token delim) is = omega (arith, length-append tag.pairs ((key, value) ∷ []))
step_weight strip mode w t is = omega (arith, ap mode_weight is)

-- a piece by itself stays where it is
pub place_stays : (strip : Bool) (mode : Mode) (w : Work) (t : Token) → (works_at strip mode w t).at ≡ w.at
place_stays strip in_content w (part_token p) = refl
place_stays strip in_content w (cdata_token bytes) = refl
place_stays strip in_content w (comm_token bytes) = refl
place_stays strip in_content w (pi_token target gap bytes) = refl
place_stays strip in_content w (open_token name) = refl
place_stays strip in_content w (close_token name last) = refl
place_stays strip (in_tag tag) w (attr_token gap key before behind delim) = refl
place_stays strip (in_tag tag) w (go_token gap) = refl
place_stays strip (in_tag tag) w (shut_token gap) = refl
place_stays strip (in_value tag key value) w (part_token p) = refl
place_stays strip (in_value tag key value) w (quote_token delim) = refl
place_stays strip mode w t = refl

-- from a place on, the rows so far and those still to come are one more than the bytes at most
abbrev pub IsCounted : ℕ → Work → Type 0
IsCounted from w = weight w + from ≤ 1 + w.at

pub begin_counted : (from : ℕ) → IsCounted from (begin_work from)
begin_counted from = omega arith

pub works_counted : (strip : Bool) (from : ℕ) (w : Work) (t : Token) → IsCounted from w → IsCounted from (works strip w t)
unfolding works
works_counted strip from w t h = omega (arith, step_weight strip w.mode w t refl, place_stays strip w.mode w t)

pub all_counted : (strip : Bool) (from : ℕ) (ts : List Token) (w : Work) → IsCounted from w → IsCounted from (all_works strip ts w)
all_counted strip from [] w h = h
all_counted strip from (t ∷ ts) w h = all_counted strip from ts (works strip w t) (works_counted strip from w t h)

pub works_at_end : (strip : Bool) (ts : List Token) (w : Work) → (all_works strip ts w).at ≡ w.at + length (flat_map token_text ts)
unfolding works
works_at_end strip [] w = omega arith
works_at_end strip (t ∷ ts) w = works_at_end strip ts (works strip w t) ∙ omega (arith, place_stays strip w.mode w t, length-append (token_text t) (flat_map token_text ts))

-- the rows are one more than the bytes of the pieces at most
pub lines_most : (strip : Bool) (from : ℕ) (ts : List Token) → length (all_works strip ts (begin_work from)).lines ≤ 1 + length (flat_map token_text ts)
lines_most strip from ts =
    let w : Work = all_works strip ts (begin_work from) in
    omega (arith, all_counted strip from ts (begin_work from) (begin_counted from), works_at_end strip ts (begin_work from))
