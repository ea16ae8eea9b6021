-- What the receiver tells of the session table in JSON (defined here).
use Rattle.std.specs.Prelude.{List, map, option_map, codes}
use Rattle.serde_json.specs.Data.{Data, boolean, string, array, object, Members, no_members, member, put}
use Rattle.serde_json.specs.View.{items_of}
use Rattle.sig_json.specs.Canon.{without_fraction}
use Rattle.sig_json.specs.Members.{Words}
use Rattle.sig_json.specs.Payloads.{put_kept}
use Rattle.sig_subject.specs.Written.{subject_data}
use Rattle.sig_sessions.specs.declared.row.Row.{Row}
use Rattle.sig_sessions.specs.declared.verdict.Verdict.{Verdict}
use Rattle.sig_sessions.specs.Spelled.{account_text, device_text, opt_text, session_text}

-- a verdict
abbrev pub verdict_data : Verdict → Data
verdict_data v = object
    (member (codes "account") (string (account_text v.account))
    (member (codes "allow") (boolean v.allow)
    (member (codes "device") (string (device_text v.device))
    (member (codes "known") (boolean v.known)
    (member (codes "reset") (boolean v.reset)
    (member (codes "session") (string (session_text v.session)) no_members))))))

-- what is known of a row's subject, but its level
abbrev pub known_members : Row → Members
known_members r =
    member (codes "account") (string (account_text r.account))
    (member (codes "device") (string (device_text r.device))
    (member (codes "opt") (string (opt_text r.opt))
    (member (codes "reset") (boolean r.reset)
    (member (codes "session") (string (session_text r.session))
    (member (codes "stale") (boolean r.stale) no_members)))))

-- a row, with its level where one was told. No fraction stands in a subject that was read of a token; null would stand in its place
abbrev pub row_data : Row → Data
row_data r = object
    (put_kept (codes "level") (option_map Words r.level)
    (put (codes "subject") (without_fraction (subject_data r.subject)) (known_members r)))

-- rows, in order
abbrev pub rows_data : List Row → Data
rows_data rows = array (items_of (map row_data rows))
