-- Whether a stream has all subjects by default.
use Rattle.std.specs.Prelude.{Bool, true, false}
use Rattle.sig_terms.specs.declared.want.Defaults.{Defaults}
use Rattle.sig_terms.specs.declared.want.Defaults.TheVariants as defaults

abbrev pub has_all : Defaults → Bool
has_all defaults.All = true
has_all defaults.None = false
