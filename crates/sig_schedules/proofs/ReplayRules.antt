-- The rules of scripts are proper.
use Rattle.std.proofs.Common.{◌≡◌, true, refl}
use Rattle.std.specs.Prelude.{codes}
use Rattle.std.proofs.lemmas.Str.{is_utf8-from_IsUtf8}
use Rattle.sig_set.proofs.ProperClaims.{ascii}
use Rattle.sig_calls.specs.Proper.{is_proper_rules}
use Rattle.sig_schedules.specs.Replay.{replay_rules}

pub proper : is_proper_rules replay_rules ≡ true
proper = rw (is_utf8-from_IsUtf8 (codes "https://idp.example") (ascii (codes "https://idp.example") refl), is_utf8-from_IsUtf8 (codes "https://rp.example") (ascii (codes "https://rp.example") refl)) refl
