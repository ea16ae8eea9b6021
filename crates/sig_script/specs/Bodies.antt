-- What the JSON says that stands to the end of a line.
use Rattle.std.specs.Prelude.{ℕ, List, false, Option, option_and_then}
use Rattle.std.specs.Result.{result_ok}
use Rattle.serde_json.specs.Data.{Data}
use Rattle.sig_json.specs.Json.{json_of}
use Rattle.sig_json.specs.Listed.{listed}
use Rattle.sig_subject.specs.Reading.{subject_of}
use Rattle.sig_subject.specs.declared.subject.Subject.{Subject}
use Rattle.sig_event.specs.Status.{status_text, statuses}
use Rattle.sig_event.specs.declared.status.Status.{Status}
use Rattle.sig_terms.specs.declared.call.Call.{Call}
use Rattle.sig_terms.specs.declared.want.Want.{Want}
use Rattle.sig_stream.specs.Publications.{publish_of}
use Rattle.sig_stream.specs.Wants.{want_of}

-- what is wanted of a stream, at a transmitter without a gateway (Shared Signals Framework 1.0, section 8.1.1)
abbrev pub want_by : Data → Option Want
want_by body = result_ok (want_of false body)

abbrev pub want_in : List ℕ → Option Want
want_in text = option_and_then want_by (json_of text)

-- a subject (RFC 9493, section 3)
abbrev pub subject_by : Data → Option Subject
subject_by body = result_ok (subject_of body)

abbrev pub subject_in : List ℕ → Option Subject
subject_in text = option_and_then subject_by (json_of text)

-- a publication
abbrev pub publication_by : Data → Option Call
publication_by body = result_ok (publish_of body)

abbrev pub publication_in : List ℕ → Option Call
publication_in text = option_and_then publication_by (json_of text)

-- the status that a word is (Shared Signals Framework 1.0, section 8.1.2)
abbrev pub status_of : List ℕ → Option Status
status_of word = listed status_text statuses word
