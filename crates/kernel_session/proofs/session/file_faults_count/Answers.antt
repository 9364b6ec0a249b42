use Rattle.kernel_session.proofs.FileFaults.{faults_counted}
use Rattle.kernel_session.proofs.session.file_faults_count.Goals as goal

pub returns : goal.returns
returns c = faults_counted
