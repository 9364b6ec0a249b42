-- A fault as the definition has it.
use Rattle.tree_model.specs.QueryCodes.{query_code}
use Rattle.query_terms.specs.Static as spec
use Rattle.static_rules.specs.declared.fault.Fault.{Fault}

abbrev pub fault_of : Fault → spec.Fault
fault_of f = record { place = f.place; rule = f.rule; code = query_code f.code }
