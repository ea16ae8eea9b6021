-- What a row may say of each subject that it covers.
use Rattle.std.specs.Prelude.{Bool}
use Rattle.sig_sessions.specs.declared.row.Row.{Row}
use Rattle.sig_sessions.specs.declared.marks.Mark.{Mark}
use Rattle.sig_sessions.specs.declared.marks.Mark.TheVariants as mark
use Rattle.sig_sessions.specs.Verdicts.{is_live, is_revoked, is_enabled, is_disabled, is_purged, is_compliant, is_not_compliant}

abbrev pub has_mark : Mark → Row → Bool
has_mark mark.Live r = is_live r.session
has_mark mark.Revoked r = is_revoked r.session
has_mark mark.Enabled r = is_enabled r.account
has_mark mark.Disabled r = is_disabled r.account
has_mark mark.Purged r = is_purged r.account
has_mark mark.Compliant r = is_compliant r.device
has_mark mark.NotCompliant r = is_not_compliant r.device
has_mark mark.Reset r = r.reset
