-- Items: effective boolean value, comparison, arithmetic and order (XPath 2.0, sections 2.4.3, 3.4 and 3.5).
use Rattle.std.specs.Prelude.{ℕ, Bool, true, false, not, ◌||◌, ℤ, pos, List, [], ◌∷◌, codes, Option, Some, None, Ok, Err, if◌then◌else◌}
use Rattle.std.specs.Cmp.Lexicographic.{slice_cmp}
use Rattle.std.specs.Ordering.{nat_cmp, int_cmp, int_eq, bool_cmp}
use Rattle.std.specs.Str.{bytes_eq}
use Rattle.std.specs.declared.cmp.Ordering.{Ordering}
use Rattle.std.specs.declared.cmp.Ordering.TheVariants.{Less, Equal, Greater}
use Rattle.tree_model.specs.QueryCodes.{FOAR0002, FORG0001, FORG0006, XPTY0004}
use Rattle.tree_model.specs.Outcomes.{Checked, and_then}
use Rattle.tree_model.specs.Numbers.{Numeral, number, no_number, too_great, numeral, trimmed, number_text, sum_of, difference_of, product_of, quotient_of, whole_quotient_of, remainder_of}
use Rattle.tree_model.specs.Sound.{is_empty}
use Rattle.tree_model.specs.declared.item.Item.{Item}
use Rattle.tree_model.specs.declared.item.Item.TheVariants.{Node, Str, Untyped, Number, Bool as Truth}
use Rattle.tree_model.specs.declared.item.CompOp.{CompOp}
use Rattle.tree_model.specs.declared.item.CompOp.TheVariants as comp
use Rattle.tree_model.specs.declared.item.ArithOp.{ArithOp}
use Rattle.tree_model.specs.declared.item.ArithOp.TheVariants as arith

abbrev pub no_such_type : {A : Type 0} → Checked A
no_such_type = Err XPTY0004

-- an item that is no node
abbrev pub is_atom : Item → Bool
is_atom (Node node) = false
is_atom (Str text) = true
is_atom (Untyped text) = true
is_atom (Number z) = true
is_atom (Truth b) = true

-- ---- effective boolean value

-- of one item that is no node: a boolean itself, a text where it isn't empty, a number where it isn't zero
abbrev pub truth_of : Item → List Item → Checked Bool
truth_of (Node node) more = Ok true
truth_of (Str text) [] = Ok (not (is_empty text))
truth_of (Untyped text) [] = Ok (not (is_empty text))
truth_of (Number z) [] = Ok (not (int_eq z (pos 0)))
truth_of (Truth b) [] = Ok b
truth_of (Str text) (x ∷ more) = Err FORG0006
truth_of (Untyped text) (x ∷ more) = Err FORG0006
truth_of (Number z) (x ∷ more) = Err FORG0006
truth_of (Truth b) (x ∷ more) = Err FORG0006

-- of a sequence: none is false, a first node is true
abbrev pub truth : List Item → Checked Bool
truth [] = Ok false
truth (x ∷ more) = truth_of x more

-- ---- casts of untyped values

unfoldable pub number_of : List ℕ → Checked ℤ
number_of text = by (numeral text)
  where
    by : Numeral → Checked ℤ
    by (number z) = Ok z
    by no_number = Err FORG0001
    by too_great = Err FOAR0002

unfoldable pub boolean_of : List ℕ → Checked Bool
boolean_of text =
    let word : List ℕ = trimmed text in
    if bytes_eq word (codes "true") || bytes_eq word (codes "1") then Ok true
    else if bytes_eq word (codes "false") || bytes_eq word (codes "0") then Ok false
    else Err FORG0001

-- ---- order

-- texts stand by code point, which is the order of their bytes
abbrev pub text_order : List ℕ → List ℕ → Ordering
text_order a b = slice_cmp nat_cmp a b

-- the order of two items of one type, where untyped counts as string and false stands before true. Two types have none
abbrev pub order_of : Item → Item → Option Ordering
order_of (Str a) (Str b) = Some (text_order a b)
order_of (Str a) (Untyped b) = Some (text_order a b)
order_of (Untyped a) (Str b) = Some (text_order a b)
order_of (Untyped a) (Untyped b) = Some (text_order a b)
order_of (Number a) (Number b) = Some (int_cmp a b)
order_of (Truth a) (Truth b) = Some (bool_cmp a b)
order_of (Node a) y = None
order_of (Str a) (Node b) = None
order_of (Str a) (Number b) = None
order_of (Str a) (Truth b) = None
order_of (Untyped a) (Node b) = None
order_of (Untyped a) (Number b) = None
order_of (Untyped a) (Truth b) = None
order_of (Number a) (Node b) = None
order_of (Number a) (Str b) = None
order_of (Number a) (Untyped b) = None
order_of (Number a) (Truth b) = None
order_of (Truth a) (Node b) = None
order_of (Truth a) (Str b) = None
order_of (Truth a) (Untyped b) = None
order_of (Truth a) (Number b) = None

-- whether an order is what a comparison asks for
abbrev pub holds : CompOp → Ordering → Bool
holds comp.Eq Less = false
holds comp.Eq Equal = true
holds comp.Eq Greater = false
holds comp.Ne Less = true
holds comp.Ne Equal = false
holds comp.Ne Greater = true
holds comp.Lt Less = true
holds comp.Lt Equal = false
holds comp.Lt Greater = false
holds comp.Le Less = true
holds comp.Le Equal = true
holds comp.Le Greater = false
holds comp.Gt Less = false
holds comp.Gt Equal = false
holds comp.Gt Greater = true
holds comp.Ge Less = false
holds comp.Ge Equal = true
holds comp.Ge Greater = true

abbrev pub held : CompOp → Option Ordering → Checked Bool
held op None = no_such_type
held op (Some order) = Ok (holds op order)

-- items of one type are compared, and others are an error
unfoldable pub compared : CompOp → Item → Item → Checked Bool
compared op a b = held op (order_of a b)

-- ---- general comparison

-- a pair: an untyped value is cast to the type of a number or a boolean on the other side
unfoldable pub pair : CompOp → Item → Item → Checked Bool
pair op (Untyped a) (Number b) = and_then (number_of a) (λ x. compared op (Number x) (Number b))
pair op (Untyped a) (Truth b) = and_then (boolean_of a) (λ x. compared op (Truth x) (Truth b))
pair op (Untyped a) (Node b) = compared op (Untyped a) (Node b)
pair op (Untyped a) (Str b) = compared op (Untyped a) (Str b)
pair op (Untyped a) (Untyped b) = compared op (Untyped a) (Untyped b)
pair op (Number a) (Untyped b) = and_then (number_of b) (λ y. compared op (Number a) (Number y))
pair op (Number a) (Node b) = compared op (Number a) (Node b)
pair op (Number a) (Str b) = compared op (Number a) (Str b)
pair op (Number a) (Number b) = compared op (Number a) (Number b)
pair op (Number a) (Truth b) = compared op (Number a) (Truth b)
pair op (Truth a) (Untyped b) = and_then (boolean_of b) (λ y. compared op (Truth a) (Truth y))
pair op (Truth a) (Node b) = compared op (Truth a) (Node b)
pair op (Truth a) (Str b) = compared op (Truth a) (Str b)
pair op (Truth a) (Number b) = compared op (Truth a) (Number b)
pair op (Truth a) (Truth b) = compared op (Truth a) (Truth b)
pair op (Node a) y = compared op (Node a) y
pair op (Str a) y = compared op (Str a) y

-- the first that isn't false, where there is one
abbrev pub or_next : Checked Bool → Checked Bool → Checked Bool
or_next (Ok true) more = Ok true
or_next (Ok false) more = more
or_next (Err code) more = Err code

-- an item on the left with each on the right
unfoldable pub against : CompOp → Item → List Item → Checked Bool
against op x [] = Ok false
against op x (y ∷ right) = or_next (pair op x y) (against op x right)

-- all pairs, left outer and right inner, up to the first that is true or an error
unfoldable pub general : CompOp → List Item → List Item → Checked Bool
general op [] right = Ok false
general op (x ∷ left) right = or_next (against op x right) (general op left right)

-- ---- value comparison and arithmetic: one item on each side, or none

-- two operands: an empty side gives nothing, two items on one are an error
abbrev pub operands : {A : Type 0} → (Item → Item → Checked A) → List Item → List Item → Checked (Option A)
operands f [] right = Ok None
operands f (x ∷ left) [] = Ok None
operands f (x ∷ []) (y ∷ []) = and_then (f x y) (λ z. Ok (Some z))
operands f (x ∷ []) (y ∷ (z ∷ right)) = no_such_type
operands f (x ∷ (z ∷ left)) (y ∷ right) = no_such_type

-- untyped counts as string
abbrev pub single : CompOp → List Item → List Item → Checked (Option Bool)
single op left right = operands (compared op) left right

-- an operand of arithmetic: a number, or an untyped value that is cast
unfoldable pub operand : Item → Checked ℤ
operand (Number z) = Ok z
operand (Untyped text) = number_of text
operand (Node node) = no_such_type
operand (Str text) = no_such_type
operand (Truth b) = no_such_type

abbrev pub applied : ArithOp → ℤ → ℤ → Checked ℤ
applied arith.Add x y = sum_of x y
applied arith.Sub x y = difference_of x y
applied arith.Mul x y = product_of x y
applied arith.Div x y = quotient_of x y
applied arith.Idiv x y = whole_quotient_of x y
applied arith.Mod x y = remainder_of x y

-- one operand of a side, where it has one item alone
abbrev pub one_operand : List Item → Checked ℤ
one_operand [] = no_such_type
one_operand (x ∷ []) = operand x
one_operand (x ∷ (y ∷ more)) = no_such_type

-- an empty side gives nothing, whatever the other is; then the left operand wholly, then the right
unfoldable pub arithmetic : ArithOp → List Item → List Item → Checked (Option ℤ)
arithmetic op [] right = Ok None
arithmetic op (x ∷ left) [] = Ok None
arithmetic op (x ∷ left) (y ∷ right) =
    and_then (one_operand (x ∷ left)) (λ a. and_then (one_operand (y ∷ right)) (λ b. and_then (applied op a b) (λ z. Ok (Some z))))

-- ---- how an item that is no node is printed

abbrev pub atom_text : Item → List ℕ
atom_text (Node node) = []
atom_text (Str text) = text
atom_text (Untyped text) = text
atom_text (Number z) = number_text z
atom_text (Truth true) = codes "true"
atom_text (Truth false) = codes "false"
