-- How a stream stands, by what is held of it.
use Rattle.std.specs.Prelude.{length, option_map}
use Rattle.std.specs.List.{slice_get}
use Rattle.sig_terms.specs.declared.standing.Standing.{Standing}
use Rattle.sig_accounts.specs.Owings.{Owing}
use Rattle.sig_accounts.specs.declared.debt.Debt.{Debt}

abbrev pub standing_in : Owing → Standing
standing_in o = record {
  stream = o.stream.conf.stream;
  status = o.stream.status;
  owed = length o.owed;
  oldest = option_map (λ (d : Debt). d.time) (slice_get o.owed 0);
  made = o.stream.made;
}
