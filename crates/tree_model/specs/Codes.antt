-- Numbers and lists in place of labels, trees and states, by which a proof tells them apart where a type is seen as one.
use Rattle.std.specs.Prelude.{◌≡◌, ℕ, zero, suc, Bool, List, Option, refl}
use Rattle.std.proofs.Common.{ap}
use Rattle.std.specs.Coded.{Coded, code_by, coded×, coded_ℕ, coded_bool, coded_list, coded_option}
use Rattle.tree_model.specs.Forest.{Forest, Line, flatten, grove_of}
use Rattle.tree_model.specs.Labels.{Label}
use Rattle.tree_model.specs.States.{Base, State}
use Rattle.tree_model.specs.Trees.{grove-flatten}
use Rattle.tree_model.specs.declared.row.Kind.{Kind}
use Rattle.tree_model.specs.declared.row.Kind.TheVariants.{Doc, Elem, Text, Attr, Comm, Pi}

abbrev pub kind_number : Kind → ℕ
kind_number Doc = 0
kind_number Elem = 1
kind_number Text = 2
kind_number Attr = 3
kind_number Comm = 4
kind_number Pi = 5

abbrev pub kind_of : ℕ → Kind
kind_of zero = Doc
kind_of (suc zero) = Elem
kind_of (suc (suc zero)) = Text
kind_of (suc (suc (suc zero))) = Attr
kind_of (suc (suc (suc (suc zero)))) = Comm
kind_of (suc (suc (suc (suc (suc n))))) = Pi

pub kind_of-number : (k : Kind) → kind_of (kind_number k) ≡ k
kind_of-number Doc = refl
kind_of-number Elem = refl
kind_of-number Text = refl
kind_of-number Attr = refl
kind_of-number Comm = refl
kind_of-number Pi = refl

abbrev pub Bytes : Type 0
Bytes = List ℕ

abbrev pub coded_bytes : Coded Bytes
coded_bytes = coded_list coded_ℕ

abbrev pub coded_label : Coded Label
coded_label = code_by (ℕ × (ℕ × (Bytes × (Bytes × (Bytes × Bytes))))) (coded× coded_ℕ (coded× coded_ℕ (coded× coded_bytes (coded× coded_bytes (coded× coded_bytes coded_bytes)))))
    (λ l. (kind_number l.kind, (l.id, (l.name.uri, (l.name.prefix, (l.name.local, l.value))))))
    (λ p. record { kind = kind_of p.0; id = p.1.0; name = record { uri = p.1.1.0; prefix = p.1.1.1.0; local = p.1.1.1.1.0 }; value = p.1.1.1.1.1 })
    (λ l. ap (λ k. record l { kind = k }) (kind_of-number l.kind))

abbrev pub coded_line : {A : Type 0} → Coded A → Coded (Line A)
coded_line {A = A} c = code_by (A × (ℕ × (ℕ × ℕ))) (coded× c (coded× coded_ℕ (coded× coded_ℕ coded_ℕ)))
    (λ l. (l.label, (l.dist, (l.size, l.asize))))
    (λ p. record { label = p.0; dist = p.1.0; size = p.1.1.0; asize = p.1.1.1 })
    (λ l. refl)

-- a list of trees as its flattening
abbrev pub coded_forest : {A : Type 0} → Coded A → Coded (Forest A)
coded_forest {A = A} c = code_by (List (Line A)) (coded_list (coded_line c)) flatten grove_of grove-flatten

abbrev pub coded_base : Coded Base
coded_base = code_by (Bytes × (ℕ × (Forest Label × (Bool × Bool)))) (coded× coded_bytes (coded× coded_ℕ (coded× (coded_forest coded_label) (coded× coded_bool coded_bool))))
    (λ b. (b.name, (b.next, (b.documents, (b.has_text_index, b.has_attribute_index)))))
    (λ p. record { name = p.0; next = p.1.0; documents = p.1.1.0; has_text_index = p.1.1.1.0; has_attribute_index = p.1.1.1.1 })
    (λ b. refl)

abbrev pub coded_state : Coded State
coded_state = code_by (List Base × Option ℕ) (coded× (coded_list coded_base) (coded_option coded_ℕ)) (λ s. (s.bases, s.opened)) (λ p. record { bases = p.0; opened = p.1 }) (λ s. refl)
