use Rattle.round_trip.proofs.printed_documents_are_read_again.Goals as goal
use Rattle.round_trip.proofs.Reading.{printed_reads}

pub returns : goal.returns
returns c = printed_reads
