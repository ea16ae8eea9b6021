-- What a want makes of a configuration, by what becomes of the parts that it doesn't name.
use Rattle.std.specs.Prelude.{Option}
use Rattle.std.specs.Option.{option_or}
use Rattle.sig_terms.specs.declared.want.Want.{Want}
use Rattle.sig_terms.specs.declared.configuration.StreamConf.{StreamConf}
use Rattle.sig_calls.specs.Configuring.{patched, replaced}
use Rattle.sig_stream_calls.specs.declared.configuring.Unnamed.{Unnamed}
use Rattle.sig_stream_calls.specs.declared.configuring.Unnamed.TheVariants.{Stays, TakesDefault}

-- the part that is wanted, or else what becomes of the one that stands
abbrev pub wanted_or : {T : Type 0} → Unnamed → Option T → Option T → Option T
wanted_or Stays wanted standing = option_or wanted standing
wanted_or TakesDefault wanted standing = wanted

abbrev pub anew : Unnamed → Want → StreamConf → StreamConf
anew Stays want c = patched want c
anew TakesDefault want c = replaced want c
