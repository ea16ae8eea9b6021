-- Which bytes an id of a publication is held as, and the number under which it is looked for.
use Rattle.std.specs.Prelude.{ℕ, List, Option, None, Some, bytes_eq, if◌then◌else◌, option_and_then}
use Rattle.std.specs.Hash.DefaultHasher as sip
use Rattle.uuid.specs.Text.{hyphenated_text, lower, parsed}
use Rattle.sig_accounts.specs.declared.publish_id.Form.{Form}
use Rattle.sig_accounts.specs.declared.publish_id.Form.TheVariants as form

-- these bytes, where the text is theirs: a UUID in lower case with hyphens (RFC 9562, section 4)
abbrev pub written_as : List ℕ → List ℕ → Option (List ℕ)
written_as text bytes = if bytes_eq (hyphenated_text lower bytes) text then Some bytes else None

-- the bytes of the UUID that a text is in lower case with hyphens; none where it is another text
abbrev pub uuid_of : List ℕ → Option (List ℕ)
uuid_of text = option_and_then (written_as text) (parsed text)

-- the text of an id as it is held
abbrev pub text_of : Form → List ℕ
text_of (form.Uuid bytes) = hyphenated_text lower bytes
text_of (form.Other text) = text

-- the number under which an id is looked for: SipHash-1-3 of its text, without a key
abbrev pub digest_of : List ℕ → ℕ
digest_of text = sip.finish (sip.write sip.initial text)
