use Rattle.sig_settings.proofs.PlaceReading.{reads_places}
use Rattle.sig_settings.proofs.laws.places_are_read.Goals as goal

pub returns : goal.returns
returns c = reads_places
