use Rattle.sig_stream.proofs.EndpointReading.{reads_endpoints}
use Rattle.sig_stream.proofs.laws.endpoints_are_read.Goals as goal

pub returns : goal.returns
returns c = reads_endpoints
