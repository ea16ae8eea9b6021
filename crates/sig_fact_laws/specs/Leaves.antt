-- Which facts leave what streams owe, and which leave how a stream was set up.
use Rattle.std.specs.Prelude.{◌≡◌, ℕ, List, Bool, true, false, Option, option_map}
use Rattle.std.specs.List.{list_all}
use Rattle.sig_subject.specs.declared.subject.Subject.{Subject}
use Rattle.sig_event.specs.declared.status.Status.{Status}
use Rattle.sig_terms.specs.declared.configuration.StreamConf.{StreamConf}
use Rattle.sig_terms.specs.declared.fact.Fact.{Fact}
use Rattle.sig_terms.specs.declared.fact.Fact.TheVariants.{Created, Configured, StatusSet, Listed, Unlisted, Deleted, Published, Settled, Asked}
use Rattle.sig_history.specs.Streams.{Stream}
use Rattle.sig_history.specs.Owed.{Sum, owed_by, stream_named, sum_of}

-- a stream is configured (OpenID Shared Signals Framework 1.0, section 8.1.1), or a subject is listed or unlisted (section
-- 8.1.3)
abbrev pub sets_up : Fact → Bool
sets_up (Created conf time) = false
sets_up (Configured stream requested delivery description) = true
sets_up (StatusSet stream status reason operator time) = false
sets_up (Listed stream subject) = true
sets_up (Unlisted stream subject) = true
sets_up (Deleted stream) = false
sets_up (Published id news time) = false
sets_up (Settled stream items) = false
sets_up (Asked stream state time) = false

-- whatever such facts say, one after another and of whichever streams, each stream owes what it owed
abbrev pub SettingUpLeavesWhatIsOwed : Type 0
SettingUpLeavesWhatIsOwed = (sum : Sum) (facts : List Fact) (name : List ℕ) → list_all sets_up facts ≡ true
    → owed_by (sum_of sum facts) name ≡ owed_by sum name

-- news are published, a verification is asked for (section 8.1.4), or tokens are settled (RFC 8935, section 2; RFC 8936,
-- section 2)
abbrev pub carries : Fact → Bool
carries (Created conf time) = false
carries (Configured stream requested delivery description) = false
carries (StatusSet stream status reason operator time) = false
carries (Listed stream subject) = false
carries (Unlisted stream subject) = false
carries (Deleted stream) = false
carries (Published id news time) = true
carries (Settled stream items) = true
carries (Asked stream state time) = true

-- whose a stream is, and what its client and the operator set of it
pub record Setup : Type 0 where
  pub client : List ℕ
  pub number : ℕ
  pub conf : StreamConf
  pub status : Status
  pub reason : Option (List ℕ)
  pub listed : List Subject

abbrev pub setup_of : Stream → Setup
setup_of s = record {
  client = s.client;
  number = s.number;
  conf = s.conf;
  status = s.status;
  reason = s.reason;
  listed = s.listed;
}

-- whatever such facts say, one after another and of whichever streams, each stream stands set up as it did, and no other one
abbrev pub CarryingLeavesTheSetup : Type 0
CarryingLeavesTheSetup = (sum : Sum) (facts : List Fact) (name : List ℕ) → list_all carries facts ≡ true
    → option_map setup_of (stream_named name (sum_of sum facts).parts.streams)
    ≡ option_map setup_of (stream_named name sum.parts.streams)
