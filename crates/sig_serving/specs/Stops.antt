-- Why a watch accepts no further link.
use Rattle.std.specs.Prelude.{Bool, true, false}
use Rattle.sig_serving.specs.declared.stop.Stop.{Stop}
use Rattle.sig_serving.specs.declared.stop.Stop.TheVariants.{Spent, Shut, Failed, Halted}

-- the door said that none will come
abbrev pub is_shut : Stop → Bool
is_shut Spent = false
is_shut Shut = true
is_shut Failed = false
is_shut Halted = false
