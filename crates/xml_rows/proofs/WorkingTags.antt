-- The pieces of a tag's attributes, taken in turn.
use Rattle.std.proofs.Common.{◌≡◌, ℕ, ◌+◌, Bool, List, [], ◌∷◌, ◌++◌, length, map, Option, Some, None, refl, ap, ◌∙◌, arith, append_assoc, append-nil, length-append}
use Rattle.std.specs.List.{flat_map}
use Rattle.tree_model.specs.Forest.{Line}
use Rattle.tree_model.specs.Labels.{Label}
use Rattle.tree_model.specs.XmlSource.{Part, part_text, parts_text, Attr, attr_head, attr_source}
use Rattle.tree_model.specs.XmlMeaning.{Pair, Scope, pair_of, value_in_attr, Fault, part_faults, parts_faults, attrs_faults}
use Rattle.xml_pieces.specs.Tokens.{Token, part_token, quote_token, attr_tokens}
use Rattle.xml_rows.specs.Work.{or_first, first_of, Tag, Mode, in_tag, in_value, Work, works, all_works}

pub works-append : (strip : Bool) (ts us : List Token) (w : Work) → all_works strip (ts ++ us) w ≡ all_works strip us (all_works strip ts w)
works-append strip [] us w = refl
works-append strip (t ∷ ts) us w = works-append strip ts us (works strip w t)

-- ---- the first of several faults

pub or_none : (f : Option Fault) → or_first f None ≡ f
or_none None = refl
or_none (Some f) = refl

pub or_assoc : (f g h : Option Fault) → or_first (or_first f g) h ≡ or_first f (or_first g h)
or_assoc None g h = refl
or_assoc (Some f) g h = refl

pub first-append : (xs ys : List Fault) → first_of (xs ++ ys) ≡ or_first (first_of xs) (first_of ys)
first-append [] ys = refl
first-append (x ∷ xs) ys = refl

-- ---- attributes

abbrev pub made : List (Line Label) → List ℕ → List ℕ → Scope → List Scope → ℕ → Option Fault → Mode → Work
made ls open_at gathered scope outer at fault mode =
    record { lines = ls; open_at = open_at; gathered = gathered; scope = scope; outer = outer; at = at; fault = fault; mode = mode }

abbrev pub tag_with : List ℕ → ℕ → List Pair → Option Fault → Tag
tag_with name from pairs within = record { name = name; from = from; pairs = pairs; within = within }

module _ (strip : Bool) (ls : List (Line Label)) (open_at gathered : List ℕ) (scope : Scope) (outer : List Scope) (fault : Option Fault) (name : List ℕ) (from : ℕ) where
  value_works : (parts : List Part) (pairs : List Pair) (at : ℕ) (f : Option Fault) (key v : List ℕ)
      → all_works strip (map part_token parts) (made ls open_at gathered scope outer at fault (in_value (tag_with name from pairs f) key v))
      ≡ made ls open_at gathered scope outer (at + length (parts_text parts)) fault
      (in_value (tag_with name from pairs (or_first f (first_of (parts_faults at parts)))) key (v ++ flat_map value_in_attr parts))
  unfolding works
  value_works [] pairs at f key v =
      let e1 : at + 0 ≡ at = omega arith in
      let e2 = or_none f in
      let e3 = append-nil v in
      cc
  value_works (p ∷ parts) pairs at f key v =
      let here : ℕ = at + length (part_text p) in
      let mine : Option Fault = first_of (part_faults at p) in
      let rest = value_works parts pairs here (or_first f mine) key (v ++ value_in_attr p) in
      let e1 : here + length (parts_text parts) ≡ at + length (part_text p ++ parts_text parts) = omega (arith, length-append (part_text p) (parts_text parts)) in
      let e2 = or_assoc f mine (first_of (parts_faults here parts)) in
      let e3 = first-append (part_faults at p) (parts_faults here parts) in
      let e4 = append_assoc v (value_in_attr p) (flat_map value_in_attr parts) in
      cc

  pub attrs_works : (written : List Attr) (pairs : List Pair) (at : ℕ) (f : Option Fault)
      → all_works strip (attr_tokens written) (made ls open_at gathered scope outer at fault (in_tag (tag_with name from pairs f)))
      ≡ made ls open_at gathered scope outer (at + length (flat_map attr_source written)) fault
      (in_tag (tag_with name from (pairs ++ map pair_of written) (or_first f (first_of (attrs_faults at written)))))
  unfolding works
  attrs_works [] pairs at f =
      let e1 : at + 0 ≡ at = omega arith in
      let e2 = or_none f in
      let e3 = append-nil pairs in
      cc
  attrs_works (a ∷ written) pairs at f =
      let inside : ℕ = at + length (attr_head a) in
      let parts : List Part = a.value in
      let fs : List Fault = parts_faults inside parts in
      let behind : ℕ = inside + length (parts_text parts) + 1 in
      let split = works-append strip (map part_token parts) (quote_token a.delim ∷ attr_tokens written) (made ls open_at gathered scope outer inside fault (in_value (tag_with name from pairs f) a.name [])) in
      let value = value_works parts pairs inside f a.name [] in
      let step = ap (λ w. all_works strip (quote_token a.delim ∷ attr_tokens written) w) value in
      let rest = attrs_works written (pairs ++ pair_of a ∷ []) behind (or_first f (first_of fs)) in
      let e0 : behind ≡ at + length (attr_source a) = omega (arith, length-append (attr_head a) (parts_text parts ++ a.delim ∷ []), length-append (parts_text parts) (a.delim ∷ [])) in
      let e1 : behind + length (flat_map attr_source written) ≡ at + length (attr_source a ++ flat_map attr_source written) = omega (arith, e0, length-append (attr_source a) (flat_map attr_source written)) in
      let e2 = or_assoc f (first_of fs) (first_of (attrs_faults behind written)) in
      let e3 = first-append fs (attrs_faults (at + length (attr_source a)) written) in
      let e4 = append_assoc pairs (pair_of a ∷ []) (map pair_of written) in
      split ∙ step ∙ rest ∙ cc
