use Rattle.sig_courier.proofs.Known.{stays_as_it_is}
use Rattle.sig_courier.proofs.schedule.Schedule.make_room.Goals as goal

pub returns-then-contains_key-clause-stays : goal.returns-then-contains_key-clause-stays
returns-then-contains_key-clause-stays c = stays_as_it_is _

pub returns-in_err-name-clause-stays : goal.returns-in_err-name-clause-stays
returns-in_err-name-clause-stays c = stays_as_it_is _
