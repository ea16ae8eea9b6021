-- The calls that a replay makes at the receiver.
use Rattle.std.specs.Prelude.{Option, Some, None}
use Rattle.sig_jws.specs.declared.key.Key.{Key}
use Rattle.sig_set.specs.Written.{token_text}
use Rattle.sig_terms.specs.declared.token.Token.{Token}
use Rattle.sig_rxnode.specs.declared.call.RxCall.{RxCall}
use Rattle.sig_rxnode.specs.declared.call.RxCall.TheVariants as call

-- a message comes: its signed text, with its issuer as principal, and under no name
abbrev pub token_call : Token → Key → RxCall
token_call m key = call.Token (Some m.claims.iss) None (token_text m.claims key)
