-- What lines on routes are answered, by what the calls answer.
use Rattle.std.specs.Prelude.{ℕ, List, [], codes}
use Rattle.sig_http.specs.declared.fault.HttpRefusal.{HttpRefusal}
use Rattle.sig_http.specs.declared.fault.HttpRefusal.TheVariants.{Auth, Bad, Memory, Method, Path}
use Rattle.sig_lines.specs.Spelled.{named}

-- of why a request is refused (RFC 9110, section 15.5)
abbrev pub refused : HttpRefusal → List ℕ
refused Path = codes "path"
refused (Method allow) = named (codes "method") allow
refused Auth = codes "auth"
refused (Bad place) = named (codes "bad") place
refused Memory = []
