use Rattle.tree_model.proofs.IdPlaces.{ids_lead}
use Rattle.tree_model.proofs.laws.ids_lead_to_places.Goals as goal

pub returns : goal.returns
returns c = ids_lead
